-- What the table of calls says of each instruction: which transfers write one byte, and which of those are reads of a wait or the range read.
use mathlib.Core.Path.{◌≡◌, refl, sym, ap}
use mathlib.Core.Bool.{Bool, true, false, not, ◌&&◌, cond}
use mathlib.Core.List.{List, [], ◌∷◌}
use Prim.Native.Nat.{ℕ, zero, suc}
use lib.Dec.{eqb}
use lib.ListN.{drop}
use Rattle.session.specs.declared.Rules.{Rules}
use Rattle.session.specs.Bus.{transfer_of, Condition, wait_register}
use Rattle.session.specs.Instructions.{Context, Op, write, read, wait, range, send_of}
use Rattle.session.specs.Steps.{slot}
use Rattle.session.specs.Calls.{ops_of, tuning, programs, program_of}
use Rattle.session.specs.Claim3.{wrote, asks, awaits_status, awaits_start, range_read}
use Rattle.ground.proofs.Facts.{both}
use Rattle.session.proofs.Table.{of_test}

abbrev pub same_on : Condition → Condition → Bool
same_on Condition.DetectorReady Condition.DetectorReady = true
same_on Condition.DetectorReady Condition.StatusReady = false
same_on Condition.DetectorReady Condition.Started = false
same_on Condition.StatusReady Condition.DetectorReady = false
same_on Condition.StatusReady Condition.StatusReady = true
same_on Condition.StatusReady Condition.Started = false
same_on Condition.Started Condition.DetectorReady = false
same_on Condition.Started Condition.StatusReady = false
same_on Condition.Started Condition.Started = true

-- an operation whose transfer writes the register alone, and one that reads one byte so
abbrev pub asks_op : ℕ → Op → Bool
asks_op reg (write r bytes len over after) = false
asks_op reg (read r len slot finds over after) = eqb r reg
asks_op reg (wait w) = eqb (wait_register w) reg
asks_op reg (range r len slot over) = eqb r reg

abbrev pub asks_one : ℕ → Op → Bool
asks_one reg (write r bytes len over after) = false
asks_one reg (read r len slot finds over after) = eqb r reg && eqb len 1
asks_one reg (wait w) = eqb (wait_register w) reg && true
asks_one reg (range r len slot over) = eqb r reg && eqb len 1

abbrev pub waits_on : Condition → Op → Bool
waits_on x (write reg bytes len over after) = false
waits_on x (read reg len slot finds over after) = false
waits_on x (wait w) = same_on x w
waits_on x (range reg len slot over) = false

abbrev pub is_range : Op → Bool
is_range (write reg bytes len over after) = false
is_range (read reg len slot finds over after) = false
is_range (wait w) = false
is_range (range reg len slot over) = true

abbrev pub same_bool : Bool → Bool → Bool
same_bool true b = b
same_bool false b = not b

pub same_bool_lem : (a b : Bool) → same_bool a b ≡ true → a ≡ b
same_bool_lem true b h = sym h
same_bool_lem false true h = h
same_bool_lem false false h = refl

pub and_false : (b : Bool) → b && false ≡ false
and_false true = refl
and_false false = refl

-- a write has a byte after its register
abbrev pub filled : List ℕ → Bool
filled [] = false
filled (b ∷ bs) = true

abbrev pub full : Op → Context → Bool
full (write reg bytes len over after) c = filled (bytes c)
full (read reg len slot finds over after) c = true
full (wait w) c = true
full (range reg len slot over) c = true

-- the waits and the range reads of a call are those of the claim
abbrev pub status_as : ℕ → Op → Bool
status_as code op = same_bool (asks_one 0x13 op && awaits_status code) (waits_on Condition.StatusReady op)

abbrev pub start_as : ℕ → Op → Bool
start_as code op = same_bool (asks_one 0x00 op && awaits_start code) (waits_on Condition.Started op)

abbrev pub range_as : ℕ → Op → Context → Bool
range_as code op c = same_bool (range_read code (send_of op c)) (is_range op)

-- an operation that asks for 0x83 in call 1 is the detector wait exactly if the one before it writes 83 00
abbrev pub edge : ℕ → Op → Context → Op → Bool
edge code prev c next =
    cond (asks_one 0x83 next && eqb code 1)
    (not (asks_one 0x83 prev) && same_bool (wrote (0x83 ∷ 0x00 ∷ []) (send_of prev c)) (waits_on Condition.DetectorReady next))
    (not (waits_on Condition.DetectorReady next))

abbrev pub leads : ℕ → Op → Context → List Op → Bool
leads code op c [] = true
leads code op c (next ∷ rest) = edge code op c next

-- a leap leads to a write only
abbrev pub is_write : List Op → Bool
is_write [] = true
is_write (write reg bytes len over after ∷ ops) = true
is_write (read reg len slot finds over after ∷ ops) = false
is_write (wait w ∷ ops) = false
is_write (range reg len slot over ∷ ops) = false

-- the instructions that a leap leaves out
abbrev pub over_of : Op → ℕ
over_of (write reg bytes len over after) = over
over_of (read reg len slot finds over after) = over
over_of (wait w) = 0
over_of (range reg len slot over) = over

abbrev pub leaps : Op → Bool
leaps op = not (eqb (over_of op) 0)

abbrev pub lands_ok : Op → List Op → Bool
lands_ok op ops = cond (leaps op) (is_write (drop (over_of op) ops)) true

abbrev pub tells : ℕ → Op → Context → Bool
tells code op c = status_as code op && (start_as code op && (range_as code op c && full op c))

abbrev pub steady : ℕ → List Op → Context → Bool
steady code [] c = true
steady code (op ∷ ops) c = (tells code op c && (leads code op c ops && lands_ok op ops)) && steady code ops c

pub steady_law : (rules : Rules) (code : ℕ) (c : Context) → steady code (ops_of (program_of rules code)) c ≡ true
unfolding programs tuning
steady_law rules code c = of_test rules (λ k p. steady k (ops_of p) c) (λ k. refl) refl code

-- a call's first instruction is no detector wait
abbrev pub first_ok : List Op → Bool
first_ok [] = true
first_ok (op ∷ ops) = not (waits_on Condition.DetectorReady op)

pub opens_law : (rules : Rules) (code : ℕ) → first_ok (ops_of (program_of rules code)) ≡ true
unfolding programs
opens_law rules = of_test rules (λ k p. first_ok (ops_of p)) (λ k. refl) refl

steady_drop : (code k : ℕ) (l : List Op) (c : Context) → steady code l c ≡ true → steady code (drop k l) c ≡ true
steady_drop code zero l c h = h
steady_drop code (suc k) [] c h = h
steady_drop code (suc k) (op ∷ l) c h = steady_drop code k l c (both (tells code op c && (leads code op c l && lands_ok op l)) (steady code l c) h).1

-- what holds of an operation at a position of its call
pub record Known (code : ℕ) (op : Op) (rest : List Op) (c : Context) : Type 0 where
  pub status : asks_one 0x13 op && awaits_status code ≡ waits_on Condition.StatusReady op
  pub start : asks_one 0x00 op && awaits_start code ≡ waits_on Condition.Started op
  pub ranged : range_read code (send_of op c) ≡ is_range op
  pub whole : full op c ≡ true
  pub next : leads code op c rest ≡ true
  pub landing : lands_ok op rest ≡ true

pub known_at : (rules : Rules) (code k : ℕ) (op : Op) (rest : List Op) → drop k (ops_of (program_of rules code)) ≡ op ∷ rest → (c : Context) → Known code op rest c
known_at rules code k op rest e c =
    let h : steady code (op ∷ rest) c ≡ true = rw e at (steady_drop code k (ops_of (program_of rules code)) c (steady_law rules code c)) in
    let h₁ = (both (tells code op c && (leads code op c rest && lands_ok op rest)) (steady code rest c) h).0 in
    let h₂ = both (tells code op c) (leads code op c rest && lands_ok op rest) h₁ in
    let h₃ = both (leads code op c rest) (lands_ok op rest) h₂.1 in
    let t₁ = both (status_as code op) (start_as code op && (range_as code op c && full op c)) h₂.0 in
    let t₂ = both (start_as code op) (range_as code op c && full op c) t₁.1 in
    let t₃ = both (range_as code op c) (full op c) t₂.1 in
    record {
      status = same_bool_lem _ _ t₁.0;
      start = same_bool_lem _ _ t₂.0;
      ranged = same_bool_lem _ _ t₃.0;
      whole = t₃.1;
      next = h₃.0;
      landing = h₃.1;
    }

-- the bus shows it
two_bytes : (r reg adr n : ℕ) (bs : List ℕ) → filled bs ≡ true → wrote (reg ∷ []) (transfer_of adr (r ∷ bs) n) ≡ false
two_bytes r reg adr n [] h = cc
two_bytes r reg adr n (b ∷ bs) h = refl

pub one_byte : (reg : ℕ) (op : Op) (c : Context) → full op c ≡ true → wrote (reg ∷ []) (send_of op c) ≡ asks_op reg op
one_byte reg (write r bytes len over after) c h = two_bytes r reg c.address len (bytes c) h
one_byte reg (read r len slot finds over after) c h = refl
one_byte reg (wait w) c h = refl
one_byte reg (range r len slot over) c h = refl

pub asks_is : (reg : ℕ) (op : Op) (c : Context) → full op c ≡ true → asks reg (send_of op c) ≡ asks_one reg op
asks_is reg (write r bytes len over after) c h = ap (λ t. t && eqb len 1) (two_bytes r reg c.address len (bytes c) h)
asks_is reg (read r len slot finds over after) c h = refl
asks_is reg (wait w) c h = refl
asks_is reg (range r len slot over) c h = refl
