-- One record keeps the laws of the history: the session, the calls so far and the counts go together.
use Rattle.session.specs.declared.Rules.{Rules}
use Rattle.session.proofs.Laws.{over_free, entry_law}
use mathlib.Core.Path.{◌≡◌, refl, ap, subst, ◌∙◌}
use mathlib.Core.Bool.{true, false, not, cond}
use mathlib.Core.List.{List, [], ◌∷◌}
use Prim.Native.Nat.{ℕ, zero, suc, ◌+◌}
use native.Mathlib.Omega.{arith}
use lib.Dec.{eqb}
use lib.ListN.{length, replicate}
use borrow.Author.Tests.{not-false}
use Rattle.session.specs.Bus.{Driver, Transfer, Answer, byte, absent}
use Rattle.session.specs.Instructions.{Op, send_of}
use Rattle.session.specs.Calls.{ops_of, program_of, arguments_ok}
use Rattle.session.specs.Machine.{Session, Outcome, sent, answered, refused, broken, resting, context_of, decide, react, to_reply, stray, reply_def, begun, not_up, begin_def, other_def}
use Rattle.session.specs.Records.{Record, call, reply, other}
use Rattle.session.specs.History.{step_def, Got, transfer, answer, refusal, is_transfer, is_refused, is_accepted_call, is_accepted_reply, Exchange, by, waiting, ended, CallRun, joined, waiting_in, transfers_of}
use Rattle.session.specs.Claim3.{is_up, BegunUp, All, sum_of, replies_of}
use Rattle.session.proofs.Lawful.{BothLaws}
use Rattle.ground.proofs.Facts.{cond_case, untrue}
use Rattle.session.proofs.Good.{code_test, good_sound, begun_marked}
use Rattle.session.proofs.Phase.{clean}
use Rattle.session.proofs.Up.{fields_of, up_is, begun_while_up, after_begun}
use Rattle.session.proofs.Shape.{first_ok, opens_law, known_at}
use Rattle.session.proofs.Floor.{floor_law}
use Rattle.session.proofs.Told.{Told, told_first}
use Rattle.session.proofs.Arrivals.{Match, Ahead, run_of, FineSent, Fine, decide_fine}
use Rattle.session.proofs.React.{react_fine}

-- the session and the calls of the history so far
pub data Now (rules : Rules) (s : Session) : List CallRun → Type 0 where
  rests : {cs : List CallRun} → s ≡ resting s.driver → waiting_in cs ≡ 0 → Now rules s cs
  waits : {cs : List CallRun} (op : Op) (rest : List Op) {ex : List Exchange} → Match rules s op rest ex (fields_of cs) → waiting_in cs ≡ 0
      → Now rules s (run_of s.code s.a s.b ex (waiting (send_of op (context_of s))) ∷ cs)

pub record Inv (rules : Rules) (s : Session) (cs : List CallRun) (t r : ℕ) : Type 0 where
  pub sum : t ≡ r + waiting_in cs
  pub made : t ≡ sum_of transfers_of cs
  pub heard : r ≡ sum_of replies_of cs
  pub lawful : All (BothLaws rules) cs
  pub driver : s.driver ≡ fields_of cs
  pub begun_up : BegunUp cs
  pub now : Now rules s cs

-- a record is an accepted call, an accepted reply or refused
abbrev pub Kind : Record → Got → Type 0
Kind w g = 1 ≡ is_accepted_call w g + is_accepted_reply w g + is_refused g

abbrev pub Step : Rules → Session → Record → List CallRun → ℕ → ℕ → Got → Type 0
Step rules s rec cs t r g = Kind rec g × Inv rules s (joined rec g cs) (is_transfer g + t) (is_accepted_reply rec g + r)

abbrev pub StepOk : Rules → Session → Record → List CallRun → ℕ → ℕ → Outcome → Type 0
StepOk rules s rec cs t r (sent x s') = Step rules s' rec cs t r (transfer x)
StepOk rules s rec cs t r (answered x n s') = Step rules s' rec cs t r (answer x n)
StepOk rules s rec cs t r (refused x s') = Step rules s' rec cs t r (refusal x)
StepOk rules s rec cs t r (broken s') = ⊥

kept : (rules : Rules) (s : Session) (cs : List CallRun) (t r : ℕ) → Inv rules s cs t r → Inv rules s cs (0 + t) (0 + r)
kept rules s cs t r i =
    record { sum = omega (arith, i.sum); made = omega (arith, i.made); heard = omega (arith, i.heard); lawful = i.lawful; driver = i.driver; begun_up = i.begun_up; now = i.now }

refused_ok : (rules : Rules) (s : Session) (rec : Record) (cs : List CallRun) (t r : ℕ) (x : Answer) → Inv rules s cs t r → StepOk rules s rec cs t r (refused x s)
refused_ok rules s (call code a b) cs t r x i = (refl, kept rules s cs t r i)
refused_ok rules s (reply f bs) cs t r x i = (refl, kept rules s cs t r i)
refused_ok rules s other cs t r x i = (refl, kept rules s cs t r i)

-- a call that the record begins, and a reply to a waiting call
now_sent : (rules : Rules) (code a b : ℕ) (ex : List Exchange) (cs : List CallRun) (x : Transfer) (s : Session) → waiting_in cs ≡ 0 → FineSent rules code a b ex (fields_of cs) x s
    → Now rules s (run_of code a b ex (waiting x) ∷ cs)
now_sent rules code a b ex cs x s w f =
    subst (λ c. Now rules s (c ∷ cs))
    (cc (f.same_code, f.same_a, f.same_b, f.is))
    (waits f.op f.rest f.match w)

call_ok : (rules : Rules) (s : Session) (code a b : ℕ) (cs : List CallRun) (t r : ℕ) → waiting_in cs ≡ 0 → t ≡ r + waiting_in cs → t ≡ sum_of transfers_of cs → r ≡ sum_of replies_of cs → All (BothLaws rules) cs → BegunUp (run_of code a b [] (ended Answer.False 0) ∷ cs)
    → (o : Outcome) → Fine rules code a b [] (fields_of cs) o → StepOk rules s (call code a b) cs t r o
call_ok rules s code a b cs t r w e em eh l bu (sent x s') f = (
  refl,
  record {
    sum = omega arith;
    made = omega arith;
    heard = omega arith;
    lawful = (f.lawful, l);
    driver = f.match.driver ∙ ap (λ c. after_begun c (fields_of cs)) f.same_code;
    begun_up = bu;
    now = now_sent rules code a b [] cs x s' w f;
  },
)
call_ok rules s code a b cs t r w e em eh l bu (answered x n s') f =
    let w' : 0 + waiting_in cs ≡ 0 = omega arith in
    (refl, record { sum = omega arith; made = omega arith; heard = omega arith; lawful = (f.lawful, l); driver = f.fields; begun_up = bu; now = rests f.rests w' })
call_ok rules s code a b cs t r w e em eh l bu (refused x s') f = absurd f
call_ok rules s code a b cs t r w e em eh l bu (broken s') f = absurd f

reply_ok : (rules : Rules) (s : Session) (x₀ : Transfer) (f₀ : ℕ) (bs : List ℕ) (ex : List Exchange) (cs : List CallRun) (t r : ℕ) → waiting_in cs ≡ 0 → t ≡ r + (1 + waiting_in cs) → t ≡ (1 + length ex) + sum_of transfers_of cs → r ≡ length ex + sum_of replies_of cs → All (BothLaws rules) cs → BegunUp (run_of s.code s.a s.b ex (waiting x₀) ∷ cs)
    → (o : Outcome) → Fine rules s.code s.a s.b (by x₀ (to_reply f₀ bs) ∷ ex) (fields_of cs) o
    → StepOk rules s (reply f₀ bs) (run_of s.code s.a s.b ex (waiting x₀) ∷ cs) t r o
reply_ok rules s x₀ f₀ bs ex cs t r w e em eh l bu (sent x s') f = (
  refl,
  record {
    sum = omega arith;
    made = omega arith;
    heard = omega arith;
    lawful = (f.lawful, l);
    driver = f.match.driver ∙ ap (λ c. after_begun c (fields_of cs)) f.same_code;
    begun_up = bu;
    now = now_sent rules s.code s.a s.b (by x₀ (to_reply f₀ bs) ∷ ex) cs x s' w f;
  },
)
reply_ok rules s x₀ f₀ bs ex cs t r w e em eh l bu (answered x n s') f =
    let w' : 0 + waiting_in cs ≡ 0 = omega arith in
    (refl, record { sum = omega arith; made = omega arith; heard = omega arith; lawful = (f.lawful, l); driver = f.fields; begun_up = bu; now = rests f.rests w' })
reply_ok rules s x₀ f₀ bs ex cs t r w e em eh l bu (refused x s') f = absurd f
reply_ok rules s x₀ f₀ bs ex cs t r w e em eh l bu (broken s') f = absurd f

-- a fresh call carries zeros
zeros_at : (n i : ℕ) → byte i (replicate n 0) ≡ 0
zeros_at zero zero = refl
zeros_at zero (suc i) = refl
zeros_at (suc n) zero = refl
zeros_at (suc n) (suc i) = zeros_at n i

-- a call that is begun
told_begun : (rules : Rules) (code : ℕ) → Told code (ops_of (program_of rules code)) []
told_begun rules code = go (ops_of (program_of rules code)) refl (opens_law rules code)
  where
    go : (l : List Op) → ops_of (program_of rules code) ≡ l → first_ok l ≡ true → Told code l []
    go [] e h = tt
    go (op ∷ rest) e h = told_first code op rest (known_at rules code 0 op rest e) h

begun_fine : (rules : Rules) (s : Session) (code a b : ℕ) (d : Driver) → s.driver ≡ d → arguments_ok rules code a b ≡ true → not_up code s.driver.up ≡ false
    → Fine rules code a b [] d (decide ((program_of rules code).entry (context_of (begun s code a b))) (program_of rules code) (length (program_of rules code).steps) 0 (begun s code a b))
begun_fine rules s code a b d e h u =
    let t : Session = begun s code a b in
    rw (over_free ((program_of rules code).entry (context_of t)) (entry_law rules code (context_of t)) (program_of rules code) (length (program_of rules code).steps) 0 t)
    (decide_fine rules (begun s code a b) 0 [] d
    (record {
      between = record { args = h; marked = begun_marked s code a b u; bound = omega arith };
      count = refl;
      failed = refl;
      calm = λ x. refl;
      ahead = ahead;
      long = refl;
      phase = clean tt;
      driver = ap (λ x. cond (eqb code 1) absent x) e;
    })
    tt 0 ahead ((program_of rules code).entry (context_of (begun s code a b))))
  where
    ahead : Ahead rules (begun s code a b) 0 []
    ahead =
        record {
          told = told_begun rules code;
          traced = λ t q. record { law = q; bytes = λ i lt. zeros_at 24 (t.slot + i) };
          owned = λ q. record { law = q; is = λ h. untrue h };
          floor = omega (arith, floor_law rules code a b h);
        }

-- no call waits in a session that rests
none_waits : (s : Session) → s ≡ resting s.driver → eqb s.code 0 ≡ true
none_waits s e = ap (λ x. eqb x.code 0) e

begin_ok : (rules : Rules) (s : Session) (code a b : ℕ) (cs : List CallRun) (t r : ℕ) → Inv rules s cs t r → Now rules s cs → StepOk rules s (call code a b) cs t r (begin_def rules s code a b)
unfolding begin_def
begin_ok rules s code a b cs t r i (rests e w) =
    rw (none_waits s e)
    (cond_case (StepOk rules s (call code a b) cs t r) (not (arguments_ok rules code a b))
    (λ h. refused_ok rules s (call code a b) cs t r Answer.IllFormedRecord i)
    (λ h. cond_case (StepOk rules s (call code a b) cs t r) (not_up code s.driver.up)
    (λ u. refused_ok rules s (call code a b) cs t r Answer.NotUp i)
    (λ u. call_ok rules s code a b cs t r w i.sum i.made i.heard i.lawful (begun_while_up code (is_up cs) (subst (λ z. not_up code z ≡ false) (ap (λ z. z.up) i.driver ∙ up_is cs) u), i.begun_up) (decide ((program_of rules code).entry (context_of (begun s code a b))) (program_of rules code) (length (program_of rules code).steps) 0 (begun s code a b)) (begun_fine rules s code a b (fields_of cs) i.driver (not-false (arguments_ok rules code a b) h) u))))
begin_ok rules s code a b cs t r i (waits op rest m w) =
    rw (code_test rules s.code s.a s.b m.good.args, good_sound rules s op rest m.good)
    (cond_case (StepOk rules s (call code a b) cs t r) (not (arguments_ok rules code a b))
    (λ h. refused_ok rules s (call code a b) cs t r Answer.IllFormedRecord i)
    (λ h. refused_ok rules s (call code a b) cs t r Answer.CallWaits i))

answer_ok : (rules : Rules) (s : Session) (f : ℕ) (bs : List ℕ) (cs : List CallRun) (t r : ℕ) → Inv rules s cs t r → Now rules s cs → StepOk rules s (reply f bs) cs t r (reply_def rules s f bs)
unfolding reply_def
answer_ok rules s f bs cs t r i (rests e w) = rw (none_waits s e) (refused_ok rules s (reply f bs) cs t r Answer.NoCallWaits i)
answer_ok rules s f bs cs t r i (waits {cs = cs'} op rest {ex} m w) =
    rw (code_test rules s.code s.a s.b m.good.args, good_sound rules s op rest m.good, m.good.at)
    (cond_case (StepOk rules s (reply f bs) cs t r) (stray (send_of op (context_of s)) f bs)
    (λ h. refused_ok rules s (reply f bs) cs t r Answer.StrayByte i)
    (λ h. reply_ok rules s (send_of op (context_of s)) f bs ex cs' t r w i.sum i.made i.heard i.lawful.1 i.begun_up (react op (program_of rules s.code) s (to_reply f bs)) (react_fine rules s op rest ex (fields_of cs') m (to_reply f bs))))

other_ok : (rules : Rules) (s : Session) (cs : List CallRun) (t r : ℕ) → Inv rules s cs t r → Now rules s cs → StepOk rules s other cs t r (other_def rules s)
unfolding other_def
other_ok rules s cs t r i (rests e w) = rw (none_waits s e) (refused_ok rules s other cs t r Answer.IllFormedRecord i)
other_ok rules s cs t r i (waits op rest m w) =
    rw (code_test rules s.code s.a s.b m.good.args, good_sound rules s op rest m.good) (refused_ok rules s other cs t r Answer.IllFormedRecord i)

pub step_ok : (rules : Rules) (s : Session) (cs : List CallRun) (t r : ℕ) (rec : Record) → Inv rules s cs t r → StepOk rules s rec cs t r (step_def rules s rec)
unfolding step_def
step_ok rules s cs t r (call code a b) i = begin_ok rules s code a b cs t r i i.now
step_ok rules s cs t r (reply f bs) i = answer_ok rules s f bs cs t r i i.now
step_ok rules s cs t r other i = other_ok rules s cs t r i i.now
