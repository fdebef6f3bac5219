-- A waiting session that a run leaves is not ill-formed, and its transfers stay below the ceiling.
use mathlib.Core.Path.{◌≡◌, refl}
use mathlib.Core.Bool.{true, false, Bool}
use mathlib.Core.List.{List, [], ◌∷◌}
use Prim.Native.Nat.{ℕ, zero, suc, ◌+◌, ◌-◌, ◌≤◌, ◌<◌}
use native.Mathlib.Nat.{le_refl, suc-mul}
use native.Mathlib.Omega.{arith}
use native.Mathlib.Bridge.{le_by_compare, IsLe}
use lib.Dec.{eqb, ltb, leb}
use lib.ListN.{drop}
use borrow.Author.Tests.{lt-leb, le-ltb, ne_eqb, leb-true, leb-false, ltb-true}
use lib.Seq.{drop-drop}
use Rattle.session.specs.declared.Rules.{Rules}
use Rattle.session.specs.Bus.{Transfer, Reply, bad, good, Condition, wait_limit, idle_on}
use Rattle.session.specs.Rules.{repeats_of}
use Rattle.session.specs.Instructions.{Verdict, onward, leap, stop, test, Op, write, read, wait, range, Final, success, failure, send_of, cost_of, worst}
use Rattle.session.specs.Calls.{ops_of, tuning, programs, program_of, ceiling_of, arguments_ok}
use Rattle.session.specs.Machine.{Session, Outcome, sent, answered, refused, broken, context_of, kept_of, sending, conclude, enter, arrive, decide, react, idle_wrong, up_wrong, malformed, begun, not_up}
use Rattle.ground.proofs.Facts.{cond_case, or_false, not_of_true, drop_next}
use Rattle.session.proofs.Table.{of_test, code_nonzero}

-- a wait reads at least once
pub limit_positive : (code : ℕ) (x : Condition) → 1 ≤ wait_limit code x
unfolding IsLe
limit_positive code Condition.DetectorReady = le_by_compare _ _ tt
limit_positive code Condition.StatusReady = le_by_compare _ _ tt
limit_positive code Condition.Started = le_by_compare _ _ tt

pub ceiling_law : (rules : Rules) (code : ℕ) → worst code (ops_of (program_of rules code)) ≤ ceiling_of rules code
unfolding programs ceiling_of tuning
ceiling_law rules code =
    let once : worst code (ops_of (program_of rules code)) ≤ (program_of rules code).ceiling =
    leb-true _ _ (of_test rules (λ k p. leb (worst k (ops_of p)) p.ceiling) (λ k. refl) refl code)
    in
    omega (arith, once, suc-mul (repeats_of rules) (program_of rules code).ceiling)

pub code_test : (rules : Rules) (code a b : ℕ) → arguments_ok rules code a b ≡ true → eqb code 0 ≡ false
code_test rules code a b e = ne_eqb code 0 (code_nonzero rules code a b e)

-- the reads that a wait still has after this one
abbrev pub after_cost : ℕ → Op → ℕ → ℕ
after_cost code (write reg bytes len over after) i = 0
after_cost code (read reg len slot finds over after) i = 0
after_cost code (wait w) i = wait_limit code w - suc i
after_cost code (range reg len slot over) i = 0

pub record Good (rules : Rules) (s : Session) (op : Op) (rest : List Op) : Type 0 where
  pub args : arguments_ok rules s.code s.a s.b ≡ true
  pub marked : up_wrong s.code s.driver.up ≡ false
  pub at : drop s.step (ops_of (program_of rules s.code)) ≡ op ∷ rest
  pub quiet : idle_wrong s.code (op ∷ rest) s.idle ≡ false
  pub some : 1 ≤ s.transfers
  pub bound : s.transfers + (after_cost s.code op s.idle + worst s.code rest) ≤ worst s.code (ops_of (program_of rules s.code))

-- between a reply and the operation at position k
pub record Between (rules : Rules) (s : Session) (k : ℕ) : Type 0 where
  pub args : arguments_ok rules s.code s.a s.b ≡ true
  pub marked : up_wrong s.code s.driver.up ≡ false
  pub bound : s.transfers + worst s.code (drop k (ops_of (program_of rules s.code))) ≤ worst s.code (ops_of (program_of rules s.code))

pub good_sound : (rules : Rules) (s : Session) (op : Op) (rest : List Op) → Good rules s op rest → malformed rules s ≡ false
unfolding malformed
good_sound rules s op rest g =
    or_false
    (or_false
    (or_false
    (or_false (not_of_true g.args) g.marked)
    (rw g.at g.quiet))
    (ne_eqb s.transfers 0 (λ h. omega (arith, g.some))))
    (le-ltb (ceiling_of rules s.code) s.transfers (omega (arith, g.bound, ceiling_law rules s.code)))

first_quiet : (code : ℕ) (op : Op) (rest : List Op) → idle_wrong code (op ∷ rest) 0 ≡ false
first_quiet code (write reg bytes len over after) rest = refl
first_quiet code (read reg len slot finds over after) rest = refl
first_quiet code (wait w) rest = lt-leb (wait_limit code w) 0 (limit_positive code w)
first_quiet code (range reg len slot over) rest = refl

first_cost : (code : ℕ) (op : Op) → suc (after_cost code op 0) ≤ cost_of code op
first_cost code (write reg bytes len over after) = omega arith
first_cost code (read reg len slot finds over after) = omega arith
first_cost code (wait w) = omega (arith, limit_positive code w)
first_cost code (range reg len slot over) = omega arith

pub arrive_good : (rules : Rules) (s : Session) (k : ℕ) (op : Op) (rest : List Op) → Between rules s k → drop k (ops_of (program_of rules s.code)) ≡ op ∷ rest → Good rules (sending k 0 s) op rest
arrive_good rules s k op rest n e =
    record {
      args = n.args;
      marked = n.marked;
      at = e;
      quiet = first_quiet s.code op rest;
      some = omega arith;
      bound = omega (arith, first_cost s.code op, rw e at n.bound);
    }

pub worst_drop : (code n : ℕ) (l : List Op) → worst code (drop n l) ≤ worst code l
worst_drop code zero l = le_refl _
worst_drop code (suc n) [] = le_refl _
worst_drop code (suc n) (op ∷ l) = omega (arith, worst_drop code n l)

pub wait_left : (rules : Rules) (s : Session) (w : Condition) (rest : List Op) → Good rules s (wait w) rest → s.idle < wait_limit s.code w
wait_left rules s w rest g = leb-false (wait_limit s.code w) s.idle g.quiet

pub between_skip : (rules : Rules) (s : Session) (k n : ℕ) → Between rules s k → Between rules s (k + n)
between_skip rules s k n b =
    record {
      args = b.args;
      marked = b.marked;
      bound = rw (← (drop-drop n k (ops_of (program_of rules s.code)))) (omega (arith, b.bound, worst_drop s.code n (drop k (ops_of (program_of rules s.code)))));
    }

-- after an operation that is no idle read
pub between_next : (rules : Rules) (s : Session) (op : Op) (rest : List Op) → Good rules s op rest → Between rules s (suc s.step)
between_next rules s op rest g =
    record {
      args = g.args;
      marked = g.marked;
      bound = rw (drop_next s.step (ops_of (program_of rules s.code)) g.at) (omega (arith, g.bound));
    }

pub between_kept : (rules : Rules) (s : Session) (op : Op) (rest : List Op) (op' : Op) (r : Reply) → Good rules s op rest → Between rules (kept_of s op' r) (suc s.step)
between_kept rules s op rest op' r g =
    let b : Between rules s (suc s.step) = between_next rules s op rest g in
    record { args = b.args; marked = b.marked; bound = b.bound }

pub begun_marked : (s : Session) (code a b : ℕ) → not_up code s.driver.up ≡ false → up_wrong code (begun s code a b).driver.up ≡ false
begun_marked s code a b h = go (eqb code 1) refl
  where
    go : (t : Bool) → eqb code 1 ≡ t → up_wrong code (begun s code a b).driver.up ≡ false
    go true e = rw e
    go false e = rw e (rw e at h)

-- one idle read more
pub idle_more : (rules : Rules) (s : Session) (w : Condition) (rest : List Op) → Good rules s (wait w) rest → suc s.idle < wait_limit s.code w → Good rules (sending s.step (suc s.idle) s) (wait w) rest
idle_more rules s w rest g h =
    record {
      args = g.args;
      marked = g.marked;
      at = g.at;
      quiet = lt-leb (wait_limit s.code w) (suc s.idle) h;
      some = omega arith;
      bound = omega (arith, g.bound);
    }

-- a call that goes on from a sound waiting session waits in one
pub record StillGood (rules : Rules) (t : Transfer) (s : Session) : Type 0 where
  pub op : Op
  pub rest : List Op
  pub good : Good rules s op rest
  pub is : t ≡ send_of op (context_of s)

abbrev pub GoodOut : Rules → Outcome → Type 0
GoodOut rules (sent t s) = StillGood rules t s
GoodOut rules (answered x n s) = Unit {0}
GoodOut rules (refused x s) = Unit {0}
GoodOut rules (broken s) = Unit {0}

conclude_goes : (rules : Rules) (f : Final) (s : Session) → GoodOut rules (conclude f s)
conclude_goes rules (success v d) s = tt
conclude_goes rules (failure e) s = tt

arrive_goes : (rules : Rules) (s : Session) (k : ℕ) → Between rules s k → GoodOut rules (arrive (program_of rules s.code) k s)
unfolding arrive
arrive_goes rules s k n = go (drop k (ops_of (program_of rules s.code))) refl
  where
    go : (l : List Op) → drop k (ops_of (program_of rules s.code)) ≡ l → GoodOut rules (enter (program_of rules s.code).final l k s)
    go [] e = conclude_goes rules ((program_of rules s.code).final (context_of s)) s
    go (op ∷ rest) e = record { op = op; rest = rest; good = arrive_good rules s k op rest n e; is = refl }

pub decide_goes : (rules : Rules) (v : Verdict) (s : Session) (over k : ℕ) → Between rules s k → GoodOut rules (decide v (program_of rules s.code) over k s)
decide_goes rules onward s over k b = arrive_goes rules s k b
decide_goes rules leap s over k b = arrive_goes rules s (k + over) (between_skip rules s k over b)
decide_goes rules (stop x) s over k b = tt
decide_goes rules (test t v w) s over k b = cond_case (GoodOut rules) t (λ e. decide_goes rules v s over k b) (λ e. decide_goes rules w s over k b)

pub react_goes : (rules : Rules) (s : Session) (op : Op) (rest : List Op) (r : Reply) → Good rules s op rest → GoodOut rules (react op (program_of rules s.code) s r)
react_goes rules s (write reg bytes len over after) rest (bad e) g = tt
react_goes rules s (write reg bytes len over after) rest (good bs) g = decide_goes rules (after (context_of s)) s over (suc s.step) (between_next rules s (write reg bytes len over after) rest g)
react_goes rules s (read reg len slot finds over after) rest (bad e) g = tt
react_goes rules s (read reg len slot finds over after) rest (good bs) g =
    let op : Op = read reg len slot finds over after in
    decide_goes rules (after (context_of (kept_of s op (good bs)))) (kept_of s op (good bs)) over (suc s.step) (between_kept rules s op rest op (good bs) g)
react_goes rules s (wait w) rest (bad e) g = tt
react_goes rules s (wait w) rest (good bs) g =
    cond_case (GoodOut rules) (idle_on w bs)
    (λ h. cond_case (GoodOut rules) (ltb (suc s.idle) (wait_limit s.code w))
    (λ lt. record { op = wait w; rest = rest; good = idle_more rules s w rest g (ltb-true (suc s.idle) (wait_limit s.code w) lt); is = refl })
    (λ ge. tt))
    (λ h. arrive_goes rules s (suc s.step) (between_next rules s (wait w) rest g))
react_goes rules s (range reg len slot over) rest (bad e) g =
    let op : Op = range reg len slot over in
    arrive_goes rules (kept_of s op (bad e)) (suc s.step + over) (between_skip rules (kept_of s op (bad e)) (suc s.step) over (between_kept rules s op rest op (bad e) g))
react_goes rules s (range reg len slot over) rest (good bs) g =
    let op : Op = range reg len slot over in
    arrive_goes rules (kept_of s op (good bs)) (suc s.step) (between_kept rules s op rest op (good bs) g)
