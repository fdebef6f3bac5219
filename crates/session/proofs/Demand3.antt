-- Demand 3: one claim about every list of records that is run from a fresh session, and what is beyond it.
use mathlib.Core.Path.{◌≡◌, refl, ap, ◌∙◌, sym}
use mathlib.Core.Bool.{true, false}
use mathlib.Core.List.{List, [], ◌∷◌}
use Prim.Native.Nat.{ℕ, ◌≤◌, ◌+◌, ◌*◌, ◌%◌, zero-le}
use native.Mathlib.Omega.{arith}
use lib.Dec.{eqb}
use lib.ListN.{length}
use borrow.Author.Tests.{eqb-false}
use Rattle.session.specs.declared.Rules.{Rules}
use Rattle.session.specs.Bus.{Driver, Answer, Reply}
use Rattle.session.specs.Instructions.{Op, send_of}
use Rattle.session.specs.Machine.{Session, Outcome, sent, answered, refused, broken, resting, fresh_session, context_of, to_reply, ill_formed}
use Rattle.session.specs.Records.{Record, call, reply, other, records_of, is_whole}
use Rattle.session.specs.History.{step_def, Got, transfer, answer, refusal, Entry, is_transfer, is_answer, is_refused, is_accepted_call, calls_in, answers_in, replies_in, transfers_in, refused_in, counts_of, Run, stopped, taking, run_from, run_records, run_def, got_of, session_of, session_after, Genuine, in_order, Exchange, Standing, waiting, ended, CallRun, replied, joined, calls_of, is_waiting, waiting_in, transfers_of}
use Rattle.session.specs.Claim3.{of_waiting, Both3}
use Rattle.ground.proofs.Facts.{cond_case}
use Rattle.session.proofs.Good.{code_test, good_sound}
use Rattle.session.proofs.Runs.{genuine_more}
use Rattle.session.proofs.Lawful.{lawful, lawful_beyond}
use Rattle.session.proofs.Up.{up_is, fields_are, down}
use Rattle.session.proofs.Arrivals.{Match, run_of}
use Rattle.session.proofs.Keeps.{Now, rests, waits, Inv, Step, StepOk, step_ok}

-- the run
record InvH (rules : Rules) (s₀ s : Session) (h : List Entry) : Type 0 where
  here : s ≡ session_after rules s₀ h
  genuine : Genuine rules s₀ h
  inv : Inv rules s (calls_of h) (transfers_in h) (replies_in h)
  counts : length h ≡ calls_in h + replies_in h + refused_in h

record RunOk (rules : Rules) (s₀ : Session) (n : ℕ) (all : List Record) (run : Run) : Type 0 where
  answered : run.answer ≡ Answer.Done 0
  records : in_order run.history [] ≡ all
  tallied : run.counts ≡ counts_of run.history
  whole : length run.history ≡ n
  laws : InvH rules s₀ run.session run.history

-- a session that a run has led to is not ill-formed
never_ill : (rules : Rules) (s : Session) (cs : List CallRun) → Now rules s cs → ill_formed rules s ≡ false
never_ill rules s cs (rests e w) = ap (λ z. ill_formed rules z) e
never_ill rules s cs (waits op rest m w) = rw (code_test rules s.code s.a s.b m.good.args) (good_sound rules s op rest m.good)

run_ok : (rules : Rules) (s₀ : Session) (rs : List Record) (s : Session) (h : List Entry) → InvH rules s₀ s h → RunOk rules s₀ (length h + length rs) (in_order h rs) (run_from rules s₀ rs s h)
unfolding run_from
run_ok rules s₀ [] s h i = record { answered = refl; records = refl; tallied = refl; whole = omega arith; laws = i }
run_ok rules s₀ (r ∷ rs) s h i =
    on (step_def rules s r) refl (step_ok rules s (calls_of h) (transfers_in h) (replies_in h) r i.inv) (run_ok rules s₀ rs)
  where
    next : (o : Outcome) → step_def rules s r ≡ o → Step rules (session_of o) r (calls_of h) (transfers_in h) (replies_in h) (got_of o)
        → ((s'' : Session) (h'' : List Entry) → InvH rules s₀ s'' h'' → RunOk rules s₀ (length h'' + length rs) (in_order h'' rs) (run_from rules s₀ rs s'' h''))
        → RunOk rules s₀ (length h + length (r ∷ rs)) (in_order h (r ∷ rs)) (run_from rules s₀ rs (session_of o) (record { what = r; got = got_of o } ∷ h))
    next o e fits k =
        let m = genuine_more rules s₀ s h r o i.here i.genuine (never_ill rules s (calls_of h) i.inv.now) e in
        let q = k (session_of o) (record { what = r; got = got_of o } ∷ h) (record { here = m.1; genuine = m.0; inv = fits.1; counts = omega (arith, fits.0, i.counts) }) in
        record { answered = q.answered; records = q.records; tallied = q.tallied; whole = q.whole ∙ omega arith; laws = q.laws }

    on : (o : Outcome) → step_def rules s r ≡ o → StepOk rules s r (calls_of h) (transfers_in h) (replies_in h) o
        → ((s'' : Session) (h'' : List Entry) → InvH rules s₀ s'' h'' → RunOk rules s₀ (length h'' + length rs) (in_order h'' rs) (run_from rules s₀ rs s'' h''))
        → RunOk rules s₀ (length h + length (r ∷ rs)) (in_order h (r ∷ rs)) (taking o s₀ h r (run_from rules s₀ rs))
    on (sent x s') e fits k = next (sent x s') e fits k
    on (answered x n s') e fits k = next (answered x n s') e fits k
    on (refused x s') e fits k = next (refused x s') e fits k
    on (broken s') e fits k = absurd fits

-- each accepted call has its place, and only the last one can wait
replied_length : (r : Reply) (st : Standing) (cs : List CallRun) → length (replied r st cs) ≡ length cs
replied_length r st [] = refl
replied_length r st (c ∷ cs) = refl

length_calls : (h : List Entry) → calls_in h ≡ length (calls_of h)
length_calls [] = refl
length_calls (e ∷ h) = ap (λ n. is_accepted_call e.what e.got + n) (length_calls h) ∙ go e.what e.got (calls_of h)
  where
    go : (w : Record) (g : Got) (cs : List CallRun) → is_accepted_call w g + length cs ≡ length (joined w g cs)
    go (call code a b) (transfer t) cs = omega arith
    go (call code a b) (answer x n) cs = omega arith
    go (call code a b) (refusal x) cs = omega arith
    go (reply f bs) (transfer t) cs = omega (arith, replied_length (to_reply f bs) (waiting t) cs)
    go (reply f bs) (answer x n) cs = omega (arith, replied_length (to_reply f bs) (ended x n) cs)
    go (reply f bs) (refusal x) cs = omega arith
    go other g cs = omega arith

at_most_one : (rules : Rules) {s : Session} (cs : List CallRun) → Now rules s cs → waiting_in cs ≤ 1
at_most_one rules cs (rests e w) = omega (arith, w)
at_most_one rules cs (waits op rest m w) = omega (arith, w)

-- each entry is a transfer, an answer or a refusal
one_of : (g : Got) → 1 ≡ is_transfer g + is_answer g + is_refused g
one_of (transfer t) = refl
one_of (answer x n) = refl
one_of (refusal x) = refl

all_of : (h : List Entry) → length h ≡ transfers_in h + answers_in h + refused_in h
all_of [] = refl
all_of (e ∷ h) = omega (arith, all_of h, one_of e.got)

-- what the session says of the call that waits
none_waiting : (st : Standing) (n : ℕ) → is_waiting st + n ≡ 0 → eqb (is_waiting st) 1 ≡ false
none_waiting (waiting t) n e = absurd (omega (arith, e))
none_waiting (ended x m) n e = refl

of_waiting_lem : (rules : Rules) (f : CallRun → ℕ) (s : Session) (g : Session → ℕ) (cs : List CallRun) → g (resting s.driver) ≡ 0
    → ((op : Op) (rest : List Op) (ex : List Exchange) (d : Driver) → Match rules s op rest ex d → g s ≡ f (run_of s.code s.a s.b ex (waiting (send_of op (context_of s)))))
    → Now rules s cs → g s ≡ of_waiting f cs
of_waiting_lem rules f s g [] z k (rests e w) = ap g e ∙ z
of_waiting_lem rules f s g (c ∷ cs) z k (rests e w) = rw (none_waiting c.standing (waiting_in cs) w) (ap g e ∙ z)
of_waiting_lem rules f s g cs z k (waits op rest m w) = k op rest _ _ m

-- eight bytes a record
eight_each : (l : List ℕ) → length l % 8 ≡ 0 → length l ≡ 8 * length (records_of l)
unfolding records_of
eight_each [] h = refl
eight_each (a ∷ []) h = absurd (omega (arith, h))
eight_each (a ∷ b ∷ []) h = absurd (omega (arith, h))
eight_each (a ∷ b ∷ c ∷ []) h = absurd (omega (arith, h))
eight_each (a ∷ b ∷ c ∷ d ∷ []) h = absurd (omega (arith, h))
eight_each (a ∷ b ∷ c ∷ d ∷ e ∷ []) h = absurd (omega (arith, h))
eight_each (a ∷ b ∷ c ∷ d ∷ e ∷ f ∷ []) h = absurd (omega (arith, h))
eight_each (a ∷ b ∷ c ∷ d ∷ e ∷ f ∷ g ∷ []) h = absurd (omega (arith, h))
eight_each (a ∷ b ∷ c ∷ d ∷ e ∷ f ∷ g ∷ i ∷ l) h =
    let z : length l % 8 ≡ 0 = omega (arith, h) in
    omega (arith, eight_each l z)

-- the records of a whole list
of_records : (rules : Rules) (bytes : List ℕ) → is_whole bytes ≡ true → Both3 rules bytes (run_records rules fresh_session (records_of bytes))
unfolding run_records
of_records rules bytes e =
    let rs = records_of bytes in
    let q = run_ok rules fresh_session rs fresh_session [] (record { here = refl; genuine = tt; inv = record { sum = refl; made = refl; heard = refl; lawful = tt; driver = refl; begun_up = tt; now = rests refl refl }; counts = refl }) in
    let h = (run_from rules fresh_session rs fresh_session []).history in
    let i = q.laws.inv in
    record {
      demand = record { sum = i.sum; calls = lawful rules (calls_of h) i.lawful; up = ap (λ z. z.up) i.driver ∙ up_is (calls_of h); fields = i.driver ∙ fields_are (calls_of h) i.begun_up };
      beyond =
          record {
            answer = rw e q.answered;
            records = rw e q.records;
            eights = λ z. eight_each bytes z ∙ ap (λ n. 8 * n) (sym (q.whole ∙ omega arith));
            genuine = q.laws.genuine;
            session = q.laws.here;
            tallied = q.tallied;
            counted = q.laws.counts;
            begun = length_calls h;
            answers = omega (arith, all_of h, q.laws.counts, i.sum);
            made = i.made;
            heard = i.heard;
            one = at_most_one rules _ i.now;
            begun_up = i.begun_up;
            calls = lawful_beyond rules (calls_of h) i.lawful;
            absent_while_down = λ d. i.driver ∙ fields_are (calls_of h) i.begun_up ∙ down (calls_of h) d;
            code = of_waiting_lem rules (λ c. c.code) _ (λ z. z.code) (calls_of h) refl (λ op rest ex d m. refl) i.now;
            a = of_waiting_lem rules (λ c. c.a) _ (λ z. z.a) (calls_of h) refl (λ op rest ex d m. refl) i.now;
            b = of_waiting_lem rules (λ c. c.b) _ (λ z. z.b) (calls_of h) refl (λ op rest ex d m. refl) i.now;
            transfers = of_waiting_lem rules transfers_of _ (λ z. z.transfers) (calls_of h) refl (λ op rest ex d m. omega (arith, m.count)) i.now;
          };
    }

-- spare bytes: nothing is run
of_spare : (rules : Rules) (bytes : List ℕ) → is_whole bytes ≡ false → Both3 rules bytes (stopped Answer.SpareBytes fresh_session)
of_spare rules bytes e =
    record {
      demand = record { sum = refl; calls = tt; up = refl; fields = refl };
      beyond =
          record {
            answer = rw e;
            records = rw e;
            eights = λ z. absurd (eqb-false (length bytes % 8) 0 e z);
            genuine = tt;
            session = refl;
            tallied = refl;
            counted = refl;
            begun = refl;
            answers = refl;
            made = refl;
            heard = refl;
            one = zero-le;
            begun_up = tt;
            calls = tt;
            absent_while_down = λ d. refl;
            code = refl;
            a = refl;
            b = refl;
            transfers = refl;
          };
    }

pub demand_3 : (rules : Rules) (bytes : List ℕ) → Both3 rules bytes (run_def rules fresh_session bytes)
unfolding run_def
demand_3 rules bytes = cond_case (Both3 rules bytes) (is_whole bytes) (λ e. of_records rules bytes e) (λ e. of_spare rules bytes e)
