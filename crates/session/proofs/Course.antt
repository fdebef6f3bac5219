-- What the course of a call looks at, and what a call that goes on keeps.
use mathlib.Core.Path.{◌≡◌, refl, sym}
use mathlib.Core.Bool.{true}
use mathlib.Core.List.{List, [], ◌∷◌, map}
use Prim.Native.Nat.{ℕ, zero, suc}
use native.Mathlib.Omega.{arith}
use lib.ListN.{length, get_or, drop}
use Rattle.std.specs.List.{drop-map}
use Rattle.session.specs.declared.Rules.{Rules}
use Rattle.session.specs.Bus.{Answer}
use Rattle.session.specs.Instructions.{Instruction, Context, range_slot, wait, Final, success, failure, send_of}
use Rattle.session.specs.Steps.{slot_word, op_of}
use Rattle.session.specs.Calls.{Program, by_code, finishes, range_result, tuning, programs, program_of}
use Rattle.session.specs.Machine.{Session, context_of, sending, conclude, enter, arrive}
use Rattle.session.specs.Parts.{Part, failure_code, course_rows, looked_at}
use Rattle.session.specs.AnySession.{SameCourse, both_go_on, both_end, both_refuse, CourseLooksAt}
use Rattle.session.proofs.Table.{of_table, of_test}
use Rattle.session.proofs.Refused.{sound_of}
use Rattle.session.proofs.Uses.{On}
use Rattle.session.proofs.Pairs.{walk, step_ok, replies, instruction_there}
use Rattle.session.proofs.Needed.{kept_room, parts_on}

-- the number of an end, 0 or 3, looks at the failure of a range read
unfoldable ends_by : List (List Part)
ends_by =
    [] ∷ [] ∷ [] ∷ [] ∷ [] ∷ [] ∷ (failure_code ∷ []) ∷ (failure_code ∷ []) ∷ (failure_code ∷ []) ∷ [] ∷ [] ∷ [] ∷ [] ∷ [] ∷ [] ∷ [] ∷ []

abbrev arrival : ℕ → ℕ → List Instruction → List Part
arrival code k [] = get_or ends_by code []
arrival code k (i ∷ is) = []

abbrev SameEnd : Final → Final → Type 0
SameEnd (success v d) (success v' d') = Unit {0}
SameEnd (success v d) (failure e) = ⊥
SameEnd (failure e) (success v d) = ⊥
SameEnd (failure e) (failure e') = Unit {0}

abbrev EndsAlike : ℕ → Program → Type 0
EndsAlike code p = (c c' : Context) → On (get_or ends_by code []) c c' → SameEnd (p.final c) (p.final c')

range_ends : (c c' : Context) → On (failure_code ∷ []) c c' → SameEnd (range_result c) (range_result c')
range_ends c c' o = go c.failed c'.failed o.0
  where
    go : (n n' : ℕ) → n ≡ n' → SameEnd (by_code n (finishes (slot_word range_slot) c)) (by_code n' (finishes (slot_word range_slot) c'))
    go zero zero e = tt
    go zero (suc n') e = absurd (omega (arith, e))
    go (suc n) zero e = absurd (omega (arith, e))
    go (suc n) (suc n') e = tt

ends_alike : (rules : Rules) (code : ℕ) → EndsAlike code (program_of rules code)
unfolding programs ends_by
ends_alike rules =
    of_table rules EndsAlike (λ k c c' o. tt) (search range_ends)

all_ok : (rules : Rules) (code : ℕ) → walk (step_ok (looked_at code) (arrival code) []) 0 (program_of rules code).steps ≡ true
unfolding programs tuning course_rows ends_by
all_ok rules = of_test rules (λ k p. walk (step_ok (looked_at k) (arrival k) []) 0 p.steps) (λ k. refl) refl

record Pair (code : ℕ) (s s' : Session) : Type 0 where
  one : s.code ≡ code
  other : s'.code ≡ code
  room : length s.carried ≡ length s'.carried

module _ (rules : Rules) (code : ℕ) where
  ends : (f f' : Final) (s s' : Session) → SameEnd f f' → SameCourse (conclude f s) (conclude f' s')
  ends (success v d) (success v' d') s s' h = both_end (Answer.Done v) (Answer.Done v') _ _ _ _ refl
  ends (success v d) (failure e) s s' h = absurd h
  ends (failure e) (success v d) s s' h = absurd h
  ends (failure e) (failure e') s s' h = both_end (Answer.BusError e) (Answer.BusError e') _ _ _ _ refl

  arrives : (k : ℕ) (s s' : Session) → Pair code s s' → On (arrival code k (drop k (program_of rules code).steps)) (context_of s) (context_of s')
      → SameCourse (arrive (program_of rules code) k s) (arrive (program_of rules code) k s')
  unfolding arrive
  arrives k s s' t o = rw (drop-map op_of k (program_of rules code).steps) (go (drop k (program_of rules code).steps) o)
    where
      go : (l : List Instruction) → On (arrival code k l) (context_of s) (context_of s')
          → SameCourse (enter (program_of rules code).final (map op_of l) k s) (enter (program_of rules code).final (map op_of l) k s')
      go [] o = ends ((program_of rules code).final (context_of s)) ((program_of rules code).final (context_of s')) s s' (ends_alike rules code (context_of s) (context_of s') o)
      go (i ∷ is) o = both_go_on (send_of (op_of i) (context_of s)) (send_of (op_of i) (context_of s')) (sending k 0 s) (sending k 0 s') refl refl

pub course_looks_at : (rules : Rules) (s s' : Session) (f : ℕ) (bs : List ℕ) → CourseLooksAt rules s s' f bs
course_looks_at rules s s' f bs u u' g =
    instruction_there rules s (sound_of rules s u).1 (λ i is at.
    let t : Pair s.code s s' = record { one = refl; other = sym g.code; room = g.room } in
    let o : On (looked_at s.code s.step) (context_of s) (context_of s') = parts_on (looked_at s.code s.step) s s' g.parts in
    replies rules s.code SameCourse (Pair s.code) (looked_at s.code) (arrival s.code) [] (all_ok rules s.code)
    (λ x y t. t.one) (λ x y t. t.other) (λ x y t. t.room)
    (λ x y op r t. record { one = t.one; other = t.other; room = kept_room op r x y t.room })
    (arrives rules s.code)
    (λ k i w x y t o. both_go_on (send_of (wait w) (context_of x)) (send_of (wait w) (context_of y)) (sending k i x) (sending k i y) refl refl)
    (λ a x y t. both_end a a _ _ _ _ refl)
    (λ x y. both_refuse Answer.StrayByte x y)
    (λ e x y t o. both_end _ _ _ _ _ _ refl)
    s.step i is at s s' t o f bs u u' refl (sym g.step) g.idle)
