-- What the run so far says of the waiting call, and how an arrival at the next operation keeps it.
use mathlib.Core.Path.{◌≡◌, refl, sym, ap, subst, ◌∙◌}
use mathlib.Core.Bool.{Bool, true, false, cond}
use mathlib.Core.List.{List, [], ◌∷◌}
use Prim.Native.Nat.{ℕ, suc, ◌+◌, ◌≤◌, ◌<◌}
use native.Mathlib.Omega.{arith}
use lib.Dec.{eqb}
use lib.ListN.{length, drop}
use Rattle.session.specs.declared.Rules.{Rules}
use Rattle.session.specs.Bus.{Driver, Transfer, Answer, Condition, number_of, values_of, absent}
use Rattle.session.specs.Instructions.{Stop, declines, wrong_device, wrong_address, wrong_argument, unready, panics, stop_answer, Verdict, onward, leap, stop, test, Op, write, read, wait, range, Final, success, failure, send_of}
use Rattle.session.specs.Steps.{slot}
use Rattle.session.specs.Calls.{ops_of, program_of}
use Rattle.session.specs.Machine.{Session, Outcome, sent, answered, refused, broken, resting, held_by, context_of, sending, giving, conclude, enter, arrive, decide}
use Rattle.session.specs.History.{Exchange, Standing, waiting, ended, CallRun}
use Rattle.session.specs.Claim3.{limit_in, idle_reads, range_failure, Failures, budget_of_first, after_done, floor_in}
use Rattle.session.proofs.Lawful.{BothLaws}
use Rattle.ground.proofs.Facts.{cond_case, untrue, clash}
use Rattle.session.proofs.Good.{limit_positive, Good, Between, arrive_good, wait_left, between_skip}
use Rattle.session.proofs.Laws.{FinalOk, final_law}
use Rattle.session.proofs.Phase.{AllGood, Phase, clean, tidy0, tidy1, tidy2, good_any, phase_cleared, phase_waiting}
use Rattle.session.proofs.Own.{claim_ceiling, limit_is}
use Rattle.session.proofs.Shape.{waits_on, same_on}
use Rattle.session.proofs.Floor.{least}
use Rattle.session.proofs.Told.{Told}
use Rattle.session.proofs.Trace.{Track, Sound, Traced}
use Rattle.session.proofs.Owned.{Owns, Owned}
use Rattle.session.proofs.Fields.{value_15, fields_shown}
use Rattle.session.proofs.Up.{after_begun}

-- a waiting session and the exchanges of its call; d: the driver before the call
pub record Match (rules : Rules) (s : Session) (op : Op) (rest : List Op) (ex : List Exchange) (d : Driver) : Type 0 where
  pub good : Good rules s op rest
  pub count : s.transfers ≡ suc (length ex)
  pub failed : s.failed ≡ range_failure s.code ex
  pub streak : (x : Condition) → idle_reads x s.code ex ≡ cond (waits_on x op) s.idle 0
  pub told : Told s.code (op ∷ rest) ex
  pub long : length s.carried ≡ 24
  pub traced : (t : Track) → Sound rules t s.code → Traced t s.carried (op ∷ rest) ex
  pub owned : Owns rules s.code → Owned s.found_budget s.carried (op ∷ rest) ex
  pub floor : floor_in s.code ≤ length ex + least (op ∷ rest)
  pub phase : Phase rules s.code (op ∷ rest) ex
  pub driver : s.driver ≡ after_begun s.code d

-- what has to hold at position k before the call goes on there
pub record Ahead (rules : Rules) (s : Session) (k : ℕ) (ex : List Exchange) : Type 0 where
  pub told : Told s.code (drop k (ops_of (program_of rules s.code))) ex
  pub traced : (t : Track) → Sound rules t s.code → Traced t s.carried (drop k (ops_of (program_of rules s.code))) ex
  pub owned : Owns rules s.code → Owned s.found_budget s.carried (drop k (ops_of (program_of rules s.code))) ex
  pub floor : floor_in s.code ≤ length ex + least (drop k (ops_of (program_of rules s.code)))

-- a session between a reply and the operation at position k
pub record Mid (rules : Rules) (s : Session) (k : ℕ) (ex : List Exchange) (d : Driver) : Type 0 where
  pub between : Between rules s k
  pub count : s.transfers ≡ length ex
  pub failed : s.failed ≡ range_failure s.code ex
  pub calm : (x : Condition) → idle_reads x s.code ex ≡ 0
  pub ahead : Ahead rules s k ex
  pub long : length s.carried ≡ 24
  pub phase : Phase rules s.code (drop k (ops_of (program_of rules s.code))) ex
  pub driver : s.driver ≡ after_begun s.code d

abbrev pub run_of : ℕ → ℕ → ℕ → List Exchange → Standing → CallRun
run_of code a b ex st = record { code = code; a = a; b = b; exchanges = ex; standing = st }

pub record FineSent (rules : Rules) (code a b : ℕ) (ex : List Exchange) (d : Driver) (t : Transfer) (s : Session) : Type 0 where
  pub same_code : s.code ≡ code
  pub same_a : s.a ≡ a
  pub same_b : s.b ≡ b
  pub op : Op
  pub rest : List Op
  pub is : t ≡ send_of op (context_of s)
  pub match : Match rules s op rest ex d
  pub lawful : BothLaws rules (run_of code a b ex (waiting t))

pub record FineEnded (rules : Rules) (code a b : ℕ) (ex : List Exchange) (d : Driver) (x : Answer) (n : ℕ) (s : Session) : Type 0 where
  pub rests : s ≡ resting s.driver
  pub fields : s.driver ≡ cond (eqb (number_of x) 0) (after_done code a ex d) (after_begun code d)
  pub lawful : BothLaws rules (run_of code a b ex (ended x n))

-- what an outcome has to be, for a call with these exchanges
abbrev pub Fine : Rules → ℕ → ℕ → ℕ → List Exchange → Driver → Outcome → Type 0
Fine rules code a b ex d (sent t s) = FineSent rules code a b ex d t s
Fine rules code a b ex d (answered x n s) = FineEnded rules code a b ex d x n s
Fine rules code a b ex d (refused x s) = ⊥
Fine rules code a b ex d (broken s) = ⊥

-- a bring-up that has begun leaves what its session holds
pub held_is : (code : ℕ) (d x : Driver) → x ≡ after_begun code d → held_by code x ≡ after_begun code d
held_is code d x e = ap (held_by code) e ∙ go (eqb code 1)
  where
    go : (b : Bool) → ◌≡◌ {A = Driver} (cond b absent (cond b absent d)) (cond b absent d)
    go true = refl
    go false = refl

pub limit_some : (code : ℕ) (x : Condition) → 1 ≤ limit_in code x
limit_some code x = rw (limit_is code x) (limit_positive code x)

pub same_on_lem : (x y : Condition) → same_on x y ≡ true → x ≡ y
same_on_lem Condition.DetectorReady Condition.DetectorReady e = refl
same_on_lem Condition.DetectorReady Condition.StatusReady e = cc
same_on_lem Condition.DetectorReady Condition.Started e = cc
same_on_lem Condition.StatusReady Condition.DetectorReady e = cc
same_on_lem Condition.StatusReady Condition.StatusReady e = refl
same_on_lem Condition.StatusReady Condition.Started e = cc
same_on_lem Condition.Started Condition.DetectorReady e = cc
same_on_lem Condition.Started Condition.StatusReady e = cc
same_on_lem Condition.Started Condition.Started e = refl

pub on_self : (x : Condition) → same_on x x ≡ true
on_self Condition.DetectorReady = refl
on_self Condition.StatusReady = refl
on_self Condition.Started = refl

idle_zero : (b : Bool) → ◌≡◌ {A = ℕ} (cond b 0 0) 0
idle_zero true = refl
idle_zero false = refl

idle_below : (rules : Rules) (s : Session) (op : Op) (rest : List Op) → Good rules s op rest → (x : Condition) → cond (waits_on x op) s.idle 0 < limit_in s.code x
idle_below rules s (write reg bytes len over after) rest g x = limit_some s.code x
idle_below rules s (read reg len slot finds over after) rest g x = limit_some s.code x
idle_below rules s (wait w) rest g x =
    cond_case (λ n. n < limit_in s.code x) (same_on x w)
    (λ e. rw (same_on_lem x w e, limit_is s.code w) (wait_left rules s w rest g)) (λ e. limit_some s.code x)
idle_below rules s (range reg len slot over) rest g x = limit_some s.code x

-- the laws of a call whose newest exchange is no idle read
pub lawful_ended : (rules : Rules) (s : Session) (k : ℕ) (ex : List Exchange) (d : Driver) → Mid rules s k ex d → (x : Answer) → eqb (number_of x) 4 ≡ false
    → Failures s.code [] ex (ended x s.transfers) → (eqb (number_of x) 0 ≡ true → floor_in s.code ≤ length ex)
    → (eqb (number_of x) 0 ≡ true → s.code ≡ 15 → values_of x ≡ budget_of_first ex ∷ []) → BothLaws rules (run_of s.code s.a s.b ex (ended x s.transfers))
lawful_ended rules s k ex d m x n f fl v =
    record {
      ceiling = omega (arith, m.count, m.between.bound, claim_ceiling rules s.code);
      timeout = (λ t. absurd (rw n at t), λ r. absurd (omega (arith, limit_some s.code r.condition, r.reached, m.calm r.condition)));
      failure = f;
      figure = omega (arith, m.count);
      value = v;
      floor = λ h. omega (arith, fl h);
    }

lawful_waiting : (rules : Rules) (s : Session) (op : Op) (rest : List Op) (ex : List Exchange) (d : Driver) → Match rules s op rest ex d
    → BothLaws rules (run_of s.code s.a s.b ex (waiting (send_of op (context_of s))))
lawful_waiting rules s op rest ex d m =
    record {
      ceiling = omega (arith, m.count, m.good.bound, claim_ceiling rules s.code);
      timeout = (λ t. absurd t, λ r. absurd (omega (arith, r.reached, m.streak r.condition, idle_below rules s op rest m.good r.condition)));
      failure = phase_waiting rules s.code op rest ex (context_of s) m.phase;
      figure = tt;
      value = λ h. untrue h;
      floor = λ h. untrue h;
    }

pub fine_waiting : (rules : Rules) (s : Session) (op : Op) (rest : List Op) (ex : List Exchange) (d : Driver) → Match rules s op rest ex d
    → FineSent rules s.code s.a s.b ex d (send_of op (context_of s)) s
fine_waiting rules s op rest ex d m =
    record { same_code = refl; same_a = refl; same_b = refl; op = op; rest = rest; is = refl; match = m; lawful = lawful_waiting rules s op rest ex d m }

-- the end of a call: with no failure, or after a failed range read and both clearing writes
module _ (rules : Rules) (s : Session) (k : ℕ) (ex : List Exchange) (d : Driver) (m : Mid rules s k ex d) (tr : (t : Track) → Sound rules t s.code → Traced t s.carried [] ex) (ow : Owns rules s.code → Owned s.found_budget s.carried [] ex) (fl : floor_in s.code ≤ length ex) where
  clean_end : AllGood ex → (f : Final) → FinalOk s.code (context_of s) f → Fine rules s.code s.a s.b ex d (conclude f s)
  clean_end g (success v d') h =
      record {
        rests = refl;
        fields = h.0 ∙ fields_shown rules s.code s.a s.b m.between.args s.carried s.found_budget ex d (held_by s.code s.driver) tr ow (held_is s.code d s.driver m.driver);
        lawful = lawful_ended rules s k ex d m (Answer.Done v) refl (good_any s.code [] ex _ g) (λ z. fl) (λ z e. ap (λ v. v ∷ []) (h.1 e ∙ value_15 rules s.carried s.found_budget ex (subst (λ n. (t : Track) → Sound rules t n → Traced t s.carried [] ex) e tr) (subst (λ n. Owns rules n → Owned s.found_budget s.carried [] ex) e ow)));
      }
  clean_end g (failure e) h = record { rests = refl; fields = held_is s.code d s.driver m.driver; lawful = lawful_ended rules s k ex d m (Answer.BusError e) refl (good_any s.code [] ex _ g) (λ h. untrue h) (λ h. untrue h) }

pub end_fine : (rules : Rules) (s : Session) (k : ℕ) (ex : List Exchange) (d : Driver) → Mid rules s k ex d → ((t : Track) → Sound rules t s.code → Traced t s.carried [] ex)
    → (Owns rules s.code → Owned s.found_budget s.carried [] ex) → floor_in s.code ≤ length ex → Phase rules s.code [] ex → Fine rules s.code s.a s.b ex d (conclude ((program_of rules s.code).final (context_of s)) s)
end_fine rules s k ex d m tr ow fl (clean g) = clean_end rules s k ex d m tr ow fl g ((program_of rules s.code).final (context_of s)) (final_law rules s.code (context_of s))
end_fine rules s k ex d m tr ow fl (tidy0 r e q g) = clash cc
end_fine rules s k ex d m tr ow fl (tidy1 r e adr' bs q g) = clash cc
end_fine rules s k ex d m tr ow fl (tidy2 {ex = ex'} r e adr' bs adr'' bs' q g) =
    let h : s.failed ≡ suc e = m.failed ∙ ap (λ b. cond b (suc e) (range_failure s.code ex')) r.inside in
    rw (r.final (context_of s) e h)
    (record { rests = refl; fields = held_is s.code d s.driver m.driver; lawful = lawful_ended rules s k ex d m (Answer.BusError (suc e)) refl (phase_cleared rules s.code s.transfers e adr' bs adr'' bs' ex' r g) (λ h. untrue h) (λ h. untrue h) })

pub arrive_fine : (rules : Rules) (s : Session) (k : ℕ) (ex : List Exchange) (d : Driver) → Mid rules s k ex d → Fine rules s.code s.a s.b ex d (arrive (program_of rules s.code) k s)
unfolding arrive
arrive_fine rules s k ex d m = go (drop k (ops_of (program_of rules s.code))) refl
  where
    go : (l : List Op) → drop k (ops_of (program_of rules s.code)) ≡ l → Fine rules s.code s.a s.b ex d (enter (program_of rules s.code).final l k s)
    go [] e = end_fine rules s k ex d m (λ t q. rw e at (m.ahead.traced t q)) (λ q. rw e at (m.ahead.owned q)) (omega (arith, rw e at m.ahead.floor)) (rw e at m.phase)
    go (op ∷ rest) e =
        fine_waiting rules (sending k 0 s) op rest ex d
        (record {
          good = arrive_good rules s k op rest m.between e;
          count = omega (arith, m.count);
          failed = m.failed;
          streak = λ x. m.calm x ∙ sym (idle_zero (waits_on x op));
          told = subst (λ l. Told s.code l ex) e m.ahead.told;
          long = m.long;
          traced = λ t q. rw e at (m.ahead.traced t q);
          owned = λ q. rw e at (m.ahead.owned q);
          floor = rw e at m.ahead.floor;
          phase = rw e at m.phase;
          driver = m.driver;
        })

stop_number : (x : Stop) → (eqb (number_of (stop_answer x)) 4 ≡ false) × (eqb (number_of (stop_answer x)) 0 ≡ false)
stop_number declines = (refl, refl)
stop_number (wrong_device b) = (refl, refl)
stop_number (wrong_address a) = (refl, refl)
stop_number wrong_argument = (refl, refl)
stop_number unready = (refl, refl)
stop_number (panics p) = (refl, refl)

module _ (rules : Rules) (s : Session) (k : ℕ) (ex : List Exchange) (d : Driver) (m : Mid rules s k ex d) (g : AllGood ex) where
  stop_fine : (x : Stop) → Fine rules s.code s.a s.b ex d (giving (stop_answer x) s)
  stop_fine x =
      record {
        rests = refl;
        fields = rw (stop_number x).1 (held_is s.code d s.driver m.driver);
        lawful = lawful_ended rules s k ex d m (stop_answer x) (stop_number x).0 (good_any s.code [] ex _ g) (λ h. untrue (sym (stop_number x).1 ∙ h)) (λ h. untrue (sym (stop_number x).1 ∙ h));
      }

  leap_fine : (n : ℕ) → Ahead rules s (k + n) ex → Fine rules s.code s.a s.b ex d (arrive (program_of rules s.code) (k + n) s)
  leap_fine n a =
      arrive_fine rules s (k + n) ex d
      (record { between = between_skip rules s k n m.between; count = m.count; failed = m.failed; calm = m.calm; ahead = a; long = m.long; phase = clean g; driver = m.driver })

  pub decide_fine : (over : ℕ) → Ahead rules s (k + over) ex → (v : Verdict) → Fine rules s.code s.a s.b ex d (decide v (program_of rules s.code) over k s)
  decide_fine over a onward = arrive_fine rules s k ex d m
  decide_fine over a leap = leap_fine over a
  decide_fine over a (stop x) = stop_fine x
  decide_fine over a (test b v w) = cond_case (Fine rules s.code s.a s.b ex d) b (λ e. decide_fine over a v) (λ e. decide_fine over a w)
