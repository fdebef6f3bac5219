-- The laws of the calls that demand 3 rests on. A new call has to meet these, and nothing else of the proof changes:
-- its ceiling (`Good.ceiling_law`), the shape of its transfers (`Shape.steady_law`), what follows a range read, and the fields that it leaves.
use borrow.Author.Rules.{rules as author}
use mathlib.Core.Path.{◌≡◌, refl}
use mathlib.Core.Bool.{Bool, true, false, ◌&&◌, cond}
use mathlib.Core.List.{List, [], ◌∷◌, map}
use Prim.Native.Nat.{ℕ, zero, suc, ◌%◌}
use lib.Dec.{eqb}
use lib.ListN.{drop}
use Rattle.session.specs.declared.Rules.{Rules}
use Rattle.session.specs.Bus.{Driver, with_driver_address, with_driver_budget}
use Rattle.session.specs.Instructions.{Context, Verdict, onward, leap, stop, test, Op, write, read, wait, range, Final, success, failure}
use Rattle.session.specs.Steps.{slot, op_of}
use Rattle.session.specs.Calls.{Program, ops_of, clearing, tuning, brought_up, by_code, programs, program_of}
use Rattle.session.specs.Machine.{Session, decide}
use Rattle.ground.proofs.Facts.{both, clash, untrue}
use Rattle.session.proofs.Table.{of_table, of_test}

abbrev pub clear_ops : List Op
clear_ops = map op_of clearing

-- after a failed range read, and what it leaves out, come the two clearing writes and the end, which reports it
abbrev pub Tidies : (Context → Final) → List Op → Type 0
Tidies fin ops = (ops ≡ clear_ops) × ((c : Context) (e : ℕ) → c.failed ≡ suc e → fin c ≡ failure (suc e))

abbrev pub RangeLaw : (Context → Final) → List Op → Type 0
RangeLaw fin [] = Unit {0}
RangeLaw fin (write reg bytes len over after ∷ ops) = RangeLaw fin ops
RangeLaw fin (read reg len slot finds over after ∷ ops) = RangeLaw fin ops
RangeLaw fin (wait w ∷ ops) = RangeLaw fin ops
RangeLaw fin (range reg len slot over ∷ ops) = Tidies fin (drop over ops) × RangeLaw fin ops

abbrev RangeOk : ℕ → Program → Type 0
RangeOk code p = RangeLaw p.final (ops_of p)

pub range_law : (rules : Rules) (code : ℕ) → RangeLaw (program_of rules code).final (ops_of (program_of rules code))
unfolding programs tuning
range_law rules =
    of_table rules RangeOk (λ k. tt) (search author)

-- no entry leaps today: what its call leaves out does not count
abbrev pub no_leap : Verdict → Bool
no_leap onward = true
no_leap leap = false
no_leap (stop x) = true
no_leap (test b v w) = no_leap v && no_leap w

pub entry_law : (rules : Rules) (code : ℕ) (c : Context) → no_leap ((program_of rules code).entry c) ≡ true
unfolding programs
entry_law rules code c = of_test rules (λ k p. no_leap (p.entry c)) (λ k. refl) refl code

pub over_free : (v : Verdict) → no_leap v ≡ true → (p : Program) (over k : ℕ) (s : Session) → decide v p over k s ≡ decide v p 0 k s
over_free onward h p over k s = refl
over_free leap h p over k s = untrue h
over_free (stop x) h p over k s = refl
over_free (test b v w) h p over k s =
    let q = both (no_leap v) (no_leap w) h in
    rw (over_free v q.0 p over k s, over_free w q.1 p over k s) refl

-- at any position
pub range_at : (fin : Context → Final) (k : ℕ) (l : List Op) {reg len slot over : ℕ} {rest : List Op} → RangeLaw fin l → drop k l ≡ range reg len slot over ∷ rest → Tidies fin (drop over rest)
range_at fin zero [] h e = clash cc
range_at fin zero (write reg bytes len over after ∷ l) h e = clash cc
range_at fin zero (read reg len slot finds over after ∷ l) h e = clash cc
range_at fin zero (wait w ∷ l) h e = clash cc
range_at fin zero (range reg len slot over ∷ l) {over = over'} {rest = rest} h e =
    let q : l ≡ rest = cc in
    let o : over ≡ over' = cc in
    rw (← q, ← o) h.0
range_at fin (suc k) [] h e = clash cc
range_at fin (suc k) (write reg bytes len over after ∷ l) h e = range_at fin k l h e
range_at fin (suc k) (read reg len slot finds over after ∷ l) h e = range_at fin k l h e
range_at fin (suc k) (wait w ∷ l) h e = range_at fin k l h e
range_at fin (suc k) (range reg len slot over ∷ l) h e = range_at fin k l h.1 e

-- the fields that a call leaves in success, from the bytes that it carries, and call 15's value
abbrev pub leaves : ℕ → ℕ → List ℕ → ℕ → Driver → Driver
leaves code a l found_budget d = cond (eqb code 1) (brought_up (a % 256) l found_budget) (cond (eqb code 3) (with_driver_address d (a % 256)) (cond (eqb code 9) (with_driver_budget d a) d))

abbrev pub FinalOk : ℕ → Context → Final → Type 0
FinalOk code c (success v d) = (d ≡ leaves code c.a c.carried c.found_budget c.driver) × (code ≡ 15 → v ≡ c.found_budget)
FinalOk code c (failure e) = Unit {0}

kept_code : (n code : ℕ) (c : Context) (f : Final) → FinalOk code c f → FinalOk code c (by_code n f)
kept_code zero code c f h = h
kept_code (suc e) code c f h = tt

abbrev LeavesOk : ℕ → Program → Type 0
LeavesOk code p = (c : Context) → FinalOk code c (p.final c)

pub final_law : (rules : Rules) (code : ℕ) (c : Context) → FinalOk code c ((program_of rules code).final c)
unfolding programs
final_law rules =
    of_table rules LeavesOk (λ k c. tt) (search (author, kept_code))
