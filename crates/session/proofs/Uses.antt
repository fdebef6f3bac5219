-- What each instruction looks at of what a call carries: in the bytes that it sends, and in what a good reply decides.
use borrow.Author.Rules.{rules as author}
use mathlib.Core.Path.{◌≡◌, refl, sym, ap, ◌∙◌}
use mathlib.Core.Bool.{Bool, true, false, cond}
use mathlib.Core.List.{List, [], ◌∷◌}
use Prim.Native.Nat.{ℕ, zero, suc, ◌≤◌}
use native.Mathlib.Omega.{arith}
use lib.Dec.{eqb, leb}
use lib.ListN.{length, get_or}
use borrow.Author.Tests.{leb-true}
use Rattle.timing.specs.Registers.{registers_of}
use Rattle.timing.specs.Places.{first_place}
use Rattle.budget.specs.declared.DssTerm.{DssTerm}
use Rattle.budget.specs.Budget.{final_range_word}
use Rattle.session.specs.declared.Rules.{Rules}
use Rattle.session.specs.declared.Setting.{Setting}
use Rattle.session.specs.Bus.{byte}
use Rattle.session.specs.Instructions.{Instruction, Context, Op, write, read, wait, range, timing_slot, bytes_from, timing_in}
use Rattle.session.specs.Steps.{by_place, by_word, budget_to_set, word_to_set, no_time, timing_place, op_of}
use Rattle.session.specs.Calls.{Program, range_result, programs, program_of}
use Rattle.session.specs.Parts.{Part, byte_in, range_byte_in, failure_code, budget_found, argument_a, argument_b, bytes_in}
use Rattle.session.proofs.Table.{of_table}
use Rattle.session.proofs.Later.{first_replies}

abbrev pub part_in : Part → Context → ℕ
part_in (byte_in i) c = byte i c.carried
part_in (range_byte_in i) c = cond (eqb c.failed 0) (byte i c.carried) 0
part_in failure_code c = c.failed
part_in budget_found c = c.found_budget
part_in argument_a c = c.a
part_in argument_b c = c.b

abbrev pub On : List Part → Context → Context → Type 0
On [] c c' = Unit {0}
On (p ∷ ps) c c' = (part_in p c ≡ part_in p c') × On ps c c'

-- two contexts of one call
pub record Kin (c c' : Context) : Type 0 where
  pub code : c.code ≡ c'.code
  pub driver : c.driver ≡ c'.driver
  pub address : c.address ≡ c'.address
  pub room : length c.carried ≡ length c'.carried

pub bytes_same : (i n : ℕ) (c c' : Context) → On (bytes_in i n) c c' → bytes_from i n c.carried ≡ bytes_from i n c'.carried
bytes_same i zero c c' h = refl
bytes_same i (suc n) c c' h = rw (h.0, bytes_same (suc i) n c c' h.1) refl

-- the budget that is set
abbrev pub budget_part : Setting → Part
budget_part Setting.Found = budget_found
budget_part Setting.Asked = argument_a

pub budget_same : (x : Setting) (c c' : Context) → part_in (budget_part x) c ≡ part_in (budget_part x) c' → budget_to_set x c ≡ budget_to_set x c'
budget_same Setting.Found c c' h = h
budget_same Setting.Asked c c' h = h

abbrev pub word_parts : ℕ → Setting → List Part
word_parts k x = budget_part x ∷ bytes_in k 8

pub word_same : (k : ℕ) (x : Setting) (dss : DssTerm) (c c' : Context) → On (word_parts k x) c c' → word_to_set k x dss c ≡ word_to_set k x dss c'
word_same k x dss c c' h =
    ap (λ bs. final_range_word (registers_of bs) (record { 0 = budget_to_set x c }) dss) (bytes_same k 8 c c' h.1)
    ∙ ap (λ b. final_range_word (timing_in k c'.carried) (record { 0 = b }) dss) (budget_same x c c' h.0)

-- the bytes of the first n budget replies
abbrev pub reply_bytes : ℕ → ℕ
reply_bytes n = cond (leb n 5) (timing_place (suc n)) 8

pub places_same : (n k : ℕ) (c c' : Context) → On (bytes_in k (reply_bytes n)) c c' → first_place (timing_in k c.carried) n ≡ first_place (timing_in k c'.carried) n
places_same n k c c' = go (leb n 5) refl
  where
    go : (t : Bool) → leb n 5 ≡ t → On (bytes_in k (cond t (timing_place (suc n)) 8)) c c' → first_place (timing_in k c.carried) n ≡ first_place (timing_in k c'.carried) n
    go true e h =
        let le : n ≤ 5 = leb-true n 5 e in
        first_replies n le k c.carried ∙ ap (λ bs. first_place (registers_of bs) n) (bytes_same k (timing_place (suc n)) c c' h) ∙ sym (first_replies n le k c'.carried)
    go false e h = ap (λ bs. first_place (registers_of bs) n) (bytes_same k 8 c c' h)

abbrev pub SendsFrom : Op → List Part → Type 0
SendsFrom (write reg bytes len over after) ps = (c c' : Context) → Kin c c' → On ps c c' → bytes c ≡ bytes c'
SendsFrom (read reg len slot finds over after) ps = Unit {0}
SendsFrom (wait w) ps = Unit {0}
SendsFrom (range reg len slot over) ps = Unit {0}

abbrev pub DecidesFrom : Op → List Part → Type 0
DecidesFrom (write reg bytes len over after) ps = (c c' : Context) → On ps c c' → after c ≡ after c'
DecidesFrom (read reg len slot finds over after) ps = (c c' : Context) → On ps c c' → after c ≡ after c'
DecidesFrom (wait w) ps = Unit {0}
DecidesFrom (range reg len slot over) ps = Unit {0}

-- an instruction, with the parts that its transfer is made of and those that its verdict looks at
pub record Uses (i : Instruction) : Type 0 where
  pub sends : List Part
  pub sent : SendsFrom (op_of i) sends
  pub decides : List Part
  pub decided : DecidesFrom (op_of i) decides

abbrev pub uses_of : (i : Instruction) → Uses i
uses_of Instruction.Nowhere = record { sends = []; sent = λ c c' m h. refl; decides = []; decided = λ c c' h. refl }
uses_of (Instruction.Write reg b) = record { sends = []; sent = λ c c' m h. refl; decides = []; decided = λ c c' h. refl }
uses_of (Instruction.WriteOr reg mask) = record { sends = bytes_in 2 1; sent = λ c c' m h. rw h.0 refl; decides = []; decided = λ c c' h. refl }
uses_of (Instruction.WriteAnd reg mask) = record { sends = bytes_in 2 1; sent = λ c c' m h. rw h.0 refl; decides = []; decided = λ c c' h. refl }
uses_of (Instruction.Read reg k) = record { sends = []; sent = tt; decides = []; decided = λ c c' h. refl }
uses_of (Instruction.ReadWord reg k) = record { sends = []; sent = tt; decides = []; decided = λ c c' h. refl }
uses_of Instruction.Identify = record { sends = []; sent = tt; decides = bytes_in 0 1; decided = λ c c' h. rw h.0 refl }
uses_of Instruction.ReadMap = record { sends = []; sent = tt; decides = []; decided = λ c c' h. refl }
uses_of Instruction.WriteMap = record { sends = byte_in 3 ∷ bytes_in 16 6; sent = λ c c' m h. rw (h.0, bytes_same 16 6 c c' h.1) refl; decides = []; decided = λ c c' h. refl }
uses_of Instruction.WriteQuarter = record { sends = []; sent = λ c c' m h. refl; decides = []; decided = λ c c' h. refl }
uses_of Instruction.WriteRate = record { sends = argument_a ∷ []; sent = λ c c' m h. rw h.0 refl; decides = []; decided = λ c c' h. refl }
uses_of Instruction.WriteStop = record { sends = []; sent = λ c c' m h. rw m.driver refl; decides = []; decided = λ c c' h. refl }
uses_of Instruction.Prepared = record { sends = []; sent = λ c c' m h. refl; decides = argument_a ∷ []; decided = λ c c' h. rw h.0 refl }
uses_of Instruction.ReadOscillator = record { sends = []; sent = tt; decides = argument_a ∷ bytes_in 8 2; decided = λ c c' h. rw (h.0, h.1.0, h.1.1.0) refl }
uses_of Instruction.WritePeriod = record { sends = argument_a ∷ bytes_in 8 2; sent = λ c c' m h. rw (h.0, h.1.0, h.1.1.0) refl; decides = []; decided = λ c c' h. refl }
uses_of Instruction.WriteMode = record { sends = argument_a ∷ []; sent = λ c c' m h. rw h.0 refl; decides = []; decided = λ c c' h. refl }
uses_of Instruction.WriteAddress = record { sends = argument_a ∷ []; sent = λ c c' m h. rw h.0 refl; decides = []; decided = λ c c' h. refl }
uses_of Instruction.WriteLow = record { sends = argument_a ∷ []; sent = λ c c' m h. rw h.0 refl; decides = []; decided = λ c c' h. refl }
uses_of Instruction.WriteHigh = record { sends = argument_b ∷ []; sent = λ c c' m h. rw h.0 refl; decides = []; decided = λ c c' h. refl }
uses_of Instruction.WriteFunction = record { sends = argument_a ∷ []; sent = λ c c' m h. rw h.0 refl; decides = []; decided = λ c c' h. refl }
uses_of Instruction.WritePolarity = record { sends = argument_b ∷ bytes_in 2 1; sent = λ c c' m h. rw (h.0, h.1.0) refl; decides = []; decided = λ c c' h. refl }
uses_of Instruction.ReadStatus = record { sends = []; sent = tt; decides = bytes_in 2 1; decided = λ c c' h. rw h.0 refl }
uses_of (Instruction.ReadTiming n k) = record { sends = []; sent = tt; decides = bytes_in k (reply_bytes n); decided = λ c c' h. ap by_place (places_same n k c c' h) }
uses_of Instruction.FindBudget = record { sends = []; sent = tt; decides = bytes_in timing_slot (reply_bytes 6); decided = λ c c' h. ap by_place (places_same 6 timing_slot c c' h) }
uses_of (Instruction.ReadLast k x dss) = record { sends = []; sent = tt; decides = word_parts k x; decided = λ c c' h. ap (by_word (no_time x)) (word_same k x dss c c' h) }
uses_of Instruction.WriteSteps = record { sends = []; sent = λ c c' m h. refl; decides = budget_found ∷ []; decided = λ c c' h. rw h.0 refl }
uses_of (Instruction.WriteWord k x dss) = record { sends = word_parts k x; sent = λ c c' m h. rw (word_same k x dss c c' h) refl; decides = []; decided = λ c c' h. refl }
uses_of (Instruction.Await x) = record { sends = []; sent = tt; decides = []; decided = tt }
uses_of (Instruction.ReadRange reg n k over) = record { sends = []; sent = tt; decides = []; decided = tt }

abbrev pub sends_of : Instruction → List Part
sends_of i = (uses_of i).sends

abbrev pub decides_of : Instruction → List Part
decides_of i = (uses_of i).decides

pub sends_from : (i : Instruction) → SendsFrom (op_of i) (sends_of i)
sends_from i = (uses_of i).sent

pub decides_from : (i : Instruction) → DecidesFrom (op_of i) (decides_of i)
decides_from i = (uses_of i).decided

-- and what the end of a call does, by its code
unfoldable pub ends_of : List (List Part)
ends_of =
    [] ∷ (argument_a ∷ byte_in 1 ∷ budget_found ∷ []) ∷ bytes_in 0 1 ∷ (argument_a ∷ []) ∷ [] ∷ [] ∷ (failure_code ∷ range_byte_in 4 ∷ range_byte_in 5 ∷ [])
    ∷ (failure_code ∷ range_byte_in 4 ∷ range_byte_in 5 ∷ [])
    ∷ (failure_code ∷ range_byte_in 4 ∷ range_byte_in 5 ∷ [])
    ∷ (argument_a ∷ [])
    ∷ []
    ∷ bytes_in 8 4
    ∷ []
    ∷ []
    ∷ []
    ∷ (budget_found ∷ [])
    ∷ bytes_in 8 2
    ∷ []

abbrev pub end_of : ℕ → List Part
end_of code = get_or ends_of code []

abbrev EndsFrom : ℕ → Program → Type 0
EndsFrom code p = (c c' : Context) → Kin c c' → On (end_of code) c c' → p.final c ≡ p.final c'

range_ends : (c c' : Context) → Kin c c' → On (failure_code ∷ range_byte_in 4 ∷ range_byte_in 5 ∷ []) c c' → range_result c ≡ range_result c'
range_ends c c' m h = go c.failed c'.failed refl refl h
  where
    go : (e e' : ℕ) → c.failed ≡ e → c'.failed ≡ e' → On (failure_code ∷ range_byte_in 4 ∷ range_byte_in 5 ∷ []) c c' → range_result c ≡ range_result c'
    go zero zero f f' h = rw (f, f', m.driver, rw (f, f') at h.1.0, rw (f, f') at h.1.1.0) refl
    go zero (suc e') f f' h = absurd (omega (arith, sym f ∙ h.0 ∙ f'))
    go (suc e) zero f f' h = absurd (omega (arith, sym f ∙ h.0 ∙ f'))
    go (suc e) (suc e') f f' h = rw (h.0, f') refl

pub ends_from : (rules : Rules) (code : ℕ) (c c' : Context) → Kin c c' → On (end_of code) c c' → (program_of rules code).final c ≡ (program_of rules code).final c'
unfolding programs ends_of
ends_from rules =
    of_table rules EndsFrom (λ k c c' m h. refl) (search (author, range_ends))
