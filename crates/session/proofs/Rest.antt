-- A call that goes on keeps what it carries, but for what the table of kept replies says.
use mathlib.Core.Path.{◌≡◌, refl, sym, ap, ◌∙◌}
use mathlib.Core.Bool.{Bool, true, false, not, ◌&&◌, ◌||◌, cond}
use mathlib.Core.List.{List, [], ◌∷◌}
use Prim.Native.Nat.{ℕ, zero, suc, ◌+◌}
use native.Mathlib.Omega.{arith}
use borrow.Author.Tests.{eqb-true, ne_eqb}
use lib.Dec.{eqb, ltb}
use lib.ListN.{drop}
use lib.Seq.{sets}
use Rattle.session.specs.declared.Rules.{Rules}
use Rattle.session.specs.Bus.{Reply, bad, good, wait_limit, idle_on}
use Rattle.session.specs.Instructions.{bytes_from, Verdict, onward, leap, stop, test, Op, write, read, wait, range, Final, success, failure, send_of, kept_bytes, kept_failure, kept_budget}
use Rattle.session.specs.Steps.{op_of}
use Rattle.session.specs.Calls.{Program, ops_of, tuning, programs, program_of}
use Rattle.session.specs.Machine.{Session, Outcome, sent, answered, refused, broken, context_of, kept_of, conclude, enter, arrive, decide, react, to_reply, stray}
use Rattle.session.specs.Parts.{kept_rows, kept_at, reads_range_at, gives_budget}
use Rattle.session.specs.AnySession.{Keeps, KeepsTheRest}
use Rattle.ground.proofs.Facts.{cond_case, both}
use Rattle.session.proofs.Table.{of_test}
use Rattle.session.proofs.Refused.{sound_of}
use Rattle.session.proofs.Shape.{is_range, same_bool, same_bool_lem}
use Rattle.session.proofs.Pairs.{StepTest, walk, walk_at, instruction_there, met_at}

-- a call that goes on has what the session had after the reply was kept
abbrev Carries : Session → Outcome → Type 0
Carries u (sent t s') = (s'.carried ≡ u.carried) × (s'.failed ≡ u.failed) × (s'.found_budget ≡ u.found_budget)
Carries u (answered x n s') = Unit {0}
Carries u (refused x s') = Unit {0}
Carries u (broken s') = Unit {0}

concludes : (f : Final) (u : Session) → Carries u (conclude f u)
concludes (success v d) u = tt
concludes (failure e) u = tt

arrives : (p : Program) (k : ℕ) (u : Session) → Carries u (arrive p k u)
unfolding arrive
arrives p k u = go (drop k (ops_of p))
  where
    go : (l : List Op) → Carries u (enter p.final l k u)
    go [] = concludes (p.final (context_of u)) u
    go (op ∷ rest) = (refl, refl, refl)

decides : (v : Verdict) (p : Program) (over k : ℕ) (u : Session) → Carries u (decide v p over k u)
decides onward p over k u = arrives p k u
decides leap p over k u = arrives p _ u
decides (stop x) p over k u = tt
decides (test true v w) p over k u = decides v p over k u
decides (test false v w) p over k u = decides w p over k u

reacts : (op : Op) (p : Program) (s : Session) (r : Reply) → Carries (kept_of s op r) (react op p s r)
reacts (write reg bytes len over after) p s (bad e) = tt
reacts (write reg bytes len over after) p s (good bs) = decides (after (context_of s)) p over (suc s.step) s
reacts (read reg len slot finds over after) p s (bad e) = tt
reacts (read reg len slot finds over after) p s (good bs) =
    let u : Session = kept_of s (read reg len slot finds over after) (good bs) in
    decides (after (context_of u)) p over (suc s.step) u
reacts (wait w) p s (bad e) = tt
reacts (wait w) p s (good bs) =
    cond_case (Carries s) (idle_on w bs)
    (λ h. cond_case (Carries s) (ltb (suc s.idle) (wait_limit s.code w)) (λ h'. (refl, refl, refl)) (λ h'. tt))
    (λ h. arrives p (suc s.step) s)
reacts (range reg len slot over) p s (bad e) = arrives p (suc s.step + over) (kept_of s (range reg len slot over) (bad e))
reacts (range reg len slot over) p s (good bs) = arrives p (suc s.step) (kept_of s (range reg len slot over) (good bs))

-- the row of a step: slot and count, both 0 where nothing is kept
abbrev row_at : ℕ → ℕ → List (ℕ × ℕ × ℕ × ℕ) → ℕ × ℕ
row_at code k [] = (0, 0)
row_at code k (r ∷ rs) = cond (eqb r.0 code && eqb r.1 k) (r.2, r.3) (row_at code k rs)

row_is : (code k : ℕ) (rs : List (ℕ × ℕ × ℕ × ℕ)) (l bs : List ℕ) → kept_at code k rs l bs ≡ sets l (row_at code k rs).0 (bytes_from 0 (row_at code k rs).1 bs)
row_is code k [] l bs = refl
row_is code k (r ∷ rs) l bs = go (eqb r.0 code && eqb r.1 k) (row_is code k rs l bs)
  where
    go : (b : Bool) → kept_at code k rs l bs ≡ sets l (row_at code k rs).0 (bytes_from 0 (row_at code k rs).1 bs)
        → cond b (sets l r.2 (bytes_from 0 r.3 bs)) (kept_at code k rs l bs)
        ≡ sets l (cond b (r.2, r.3) (row_at code k rs)).0 (bytes_from 0 (cond b (r.2, r.3) (row_at code k rs)).1 bs)
    go true h = refl
    go false h = h

abbrev slot_of : Op → ℕ
slot_of (write reg bytes len over after) = 0
slot_of (read reg len slot finds over after) = slot
slot_of (wait w) = 0
slot_of (range reg len slot over) = slot

abbrev count_of : Op → ℕ
count_of (write reg bytes len over after) = 0
count_of (read reg len slot finds over after) = len
count_of (wait w) = 0
count_of (range reg len slot over) = len

abbrev finder : Op → Bool
finder (write reg bytes len over after) = false
finder (read reg len slot finds over after) = finds
finder (wait w) = false
finder (range reg len slot over) = false

abbrev kept_ok : ℕ → StepTest
kept_ok code k i is =
    let row = row_at code k kept_rows in
    eqb row.0 (slot_of (op_of i))
    && (eqb row.1 (count_of (op_of i))
    && (same_bool (reads_range_at code k) (is_range (op_of i))
    && (not (finder (op_of i)) || gives_budget code k)))

all_ok : (rules : Rules) (code : ℕ) → walk (kept_ok code) 0 (program_of rules code).steps ≡ true
unfolding programs tuning kept_rows
all_ok rules = of_test rules (λ k p. walk (kept_ok k) 0 p.steps) (λ k. refl) refl

bytes_kept : (op : Op) (l bs : List ℕ) → kept_bytes op (good bs) l ≡ sets l (slot_of op) (bytes_from 0 (count_of op) bs)
bytes_kept (write reg bytes len over after) l bs = refl
bytes_kept (read reg len slot finds over after) l bs = refl
bytes_kept (wait w) l bs = refl
bytes_kept (range reg len slot over) l bs = refl

nothing_kept : (op : Op) (l : List ℕ) (e : ℕ) → kept_bytes op (bad e) l ≡ l
nothing_kept (write reg bytes len over after) l e = refl
nothing_kept (read reg len slot finds over after) l e = refl
nothing_kept (wait w) l e = refl
nothing_kept (range reg len slot over) l e = refl

failure_kept : (op : Op) (f : ℕ) (bs : List ℕ) (x : ℕ) → kept_failure op (to_reply f bs) x ≡ cond (is_range op) f x
failure_kept (write reg bytes len over after) f bs x = refl
failure_kept (read reg len slot finds over after) f bs x = refl
failure_kept (wait w) f bs x = refl
failure_kept (range reg len slot over) zero bs x = refl
failure_kept (range reg len slot over) (suc e) bs x = refl

budget_left : (op : Op) (r : Reply) (l : List ℕ) (x : ℕ) → finder op ≡ false → kept_budget op r l x ≡ x
budget_left (write reg bytes len over after) r l x h = refl
budget_left (read reg len slot finds over after) (bad e) l x h = refl
budget_left (read reg len slot finds over after) (good bs) l x h = rw h refl
budget_left (wait w) r l x h = refl
budget_left (range reg len slot over) r l x h = refl

pub keeps_the_rest : (rules : Rules) (s : Session) (f : ℕ) (bs : List ℕ) → KeepsTheRest rules s f bs
keeps_the_rest rules s f bs u =
    instruction_there rules s (sound_of rules s u).1 (λ i is at.
    let h = walk_at (kept_ok s.code) (program_of rules s.code).steps s.step i is (all_ok rules s.code) at in
    let row = row_at s.code s.step kept_rows in
    let t₁ = both (eqb row.0 (slot_of (op_of i))) _ h in
    let t₂ = both (eqb row.1 (count_of (op_of i))) _ t₁.1 in
    let t₃ = both (same_bool (reads_range_at s.code s.step) (is_range (op_of i))) _ t₂.1 in
    let carried : kept_bytes (op_of i) (to_reply f bs) s.carried ≡ cond (eqb f 0) (kept_at s.code s.step kept_rows s.carried bs) s.carried
    = by_reply (op_of i) f (eqb-true row.0 (slot_of (op_of i)) t₁.0) (eqb-true row.1 (count_of (op_of i)) t₂.0) in
    let failed : kept_failure (op_of i) (to_reply f bs) s.failed ≡ cond (reads_range_at s.code s.step) f s.failed
    = failure_kept (op_of i) f bs s.failed ∙ ap (λ b. cond b f s.failed) (sym (same_bool_lem _ _ t₃.0)) in
    rw (met_at rules s s.code s.step i is f bs refl refl u at)
    (cond_case (Keeps s f bs) (stray (send_of (op_of i) (context_of s)) f bs) (λ e. tt)
    (λ e. ends (op_of i) (react (op_of i) (program_of rules s.code) s (to_reply f bs)) carried failed
    (λ off. budget_left (op_of i) (to_reply f bs) s.carried s.found_budget (unfilled (op_of i) s.code s.step off t₃.1))
    (reacts (op_of i) (program_of rules s.code) s (to_reply f bs)))))
  where
    by_reply : (op : Op) (g : ℕ) → (row_at s.code s.step kept_rows).0 ≡ slot_of op → (row_at s.code s.step kept_rows).1 ≡ count_of op
        → kept_bytes op (to_reply g bs) s.carried ≡ cond (eqb g 0) (kept_at s.code s.step kept_rows s.carried bs) s.carried
    by_reply op zero a b = bytes_kept op s.carried bs ∙ rw (← a, ← b) refl ∙ sym (row_is s.code s.step kept_rows s.carried bs)
    by_reply op (suc e) a b = nothing_kept op s.carried e ∙ rw (ne_eqb (suc e) 0 (λ z. omega (arith, z))) refl

    unfilled : (op : Op) (code k : ℕ) → gives_budget code k ≡ false → not (finder op) || gives_budget code k ≡ true → finder op ≡ false
    unfilled op code k off h = go (finder op) (rw off at h)
      where
        go : (b : Bool) → not b || false ≡ true → b ≡ false
        go true h = sym h
        go false h = refl

    ends : (op : Op) (o : Outcome)
        → kept_bytes op (to_reply f bs) s.carried ≡ cond (eqb f 0) (kept_at s.code s.step kept_rows s.carried bs) s.carried
        → kept_failure op (to_reply f bs) s.failed ≡ cond (reads_range_at s.code s.step) f s.failed
        → (gives_budget s.code s.step ≡ false → kept_budget op (to_reply f bs) s.carried s.found_budget ≡ s.found_budget)
        → Carries (kept_of s op (to_reply f bs)) o → Keeps s f bs o
    ends op (sent t s') c g b x = (x.0 ∙ c, x.1 ∙ g, λ off. x.2 ∙ b off)
    ends op (answered a n s') c g b x = tt
    ends op (refused a s') c g b x = tt
    ends op (broken s') c g b x = tt
