-- Bytes that are kept later leave the earlier replies alone: what was clear stays clear.
use mathlib.Core.Path.{◌≡◌, refl, sym, ap, ◌∙◌}
use mathlib.Core.List.{List}
use Prim.Native.Nat.{ℕ, zero, suc, ◌+◌, ◌≤◌}
use native.Mathlib.Omega.{arith}
use Rattle.std.specs.Prelude.{None}
use Rattle.timing.specs.Registers.{registers_of}
use Rattle.timing.specs.Places.{less_place, entries_of, first_match, first_place}
use Rattle.session.specs.Instructions.{bytes_from, put, timing_in}
use Rattle.session.specs.Steps.{timing_place}
use Rattle.session.proofs.Slots.{under}

pub from_below : (k n j : ℕ) (l bytes : List ℕ) → k + n ≤ j → bytes_from k n (put l j bytes) ≡ bytes_from k n l
from_below k zero j l bytes h = refl
from_below k (suc n) j l bytes h = rw (under bytes l j k (omega arith), from_below (suc k) n j l bytes (omega arith)) refl

-- the first n replies are the bytes before the next
pub first_replies : (n : ℕ) → n ≤ 5 → (k : ℕ) (l : List ℕ) → first_place (timing_in k l) n ≡ first_place (registers_of (bytes_from k (timing_place (suc n)) l)) n
unfolding first_place entries_of first_match less_place
first_replies zero h k l = refl
first_replies (suc zero) h k l = refl
first_replies (suc (suc zero)) h k l = refl
first_replies (suc (suc (suc zero))) h k l = refl
first_replies (suc (suc (suc (suc zero)))) h k l = refl
first_replies (suc (suc (suc (suc (suc zero))))) h k l = refl
first_replies (suc (suc (suc (suc (suc (suc n)))))) h k l = absurd (omega arith)

-- the reply of the next read is kept
pub earlier_same : (n : ℕ) → n ≤ 5 → (k : ℕ) (l bytes : List ℕ)
    → first_place (timing_in k (put l (k + timing_place (suc n)) bytes)) n ≡ first_place (timing_in k l) n
earlier_same n h k l bytes =
    first_replies n h k (put l (k + timing_place (suc n)) bytes)
    ∙ ap (λ bs. first_place (registers_of bs) n) (from_below k (timing_place (suc n)) (k + timing_place (suc n)) l bytes (omega arith))
    ∙ sym (first_replies n h k l)

pub later_stays : (n : ℕ) → n ≤ 5 → (k : ℕ) (l bytes : List ℕ) → first_place (timing_in k l) n ≡ None
    → first_place (timing_in k (put l (k + timing_place (suc n)) bytes)) n ≡ None
later_stays n h k l bytes e = earlier_same n h k l bytes ∙ e
