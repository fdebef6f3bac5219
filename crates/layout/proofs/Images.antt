-- The bytes of a number, and bytes that are a session.
use mathlib.Core.Path.{◌≡◌, refl}
use mathlib.Core.Bool.{Bool, true, false}
use mathlib.Core.List.{List, [], ◌∷◌, ◌++◌, append-nil}
use Prim.Native.Nat.{ℕ, zero, suc, ◌*◌, ◌/◌, ◌%◌, ◌<◌}
use native.Mathlib.Omega.{arith}
use lib.ListN.{length, take, drop, length-drop}
use lib.Seq.{take_all}
use lib.Dec.{eqb}
use borrow.Author.Tests.{eqb-true}
use Rattle.ground.proofs.Facts.{both}
use mir.Val.{bool_byte}
use Rattle.std.specs.Int.{w16, w32, to_le_bytes}
use Rattle.session.specs.declared.Answer.{Answer}
use Rattle.session.specs.Bus.{values_of}
use Rattle.lines.specs.Lines.{flag, value_of}
use Rattle.layout.specs.Layout.{session_size, carried_at, word_bytes, long_bytes, longs_bytes, is_session}

-- the bytes of a number, as std makes them
pub word_image : (x : ℕ) → x < 65536 → to_le_bytes w16 x ≡ word_bytes x
word_image x h =
    let e : x / 256 % 256 ≡ x / 256 = omega arith in
    rw e refl

pub long_image : (x : ℕ) → x < 4294967296 → to_le_bytes w32 x ≡ long_bytes x
long_image x h =
    let e : x / 16777216 % 256 ≡ x / 16777216 = omega arith in
    rw e refl

-- bytes that are a session are as many as one has
pub sized : (l : List ℕ) → is_session l ≡ true → length l ≡ session_size
unfolding is_session
sized l e = eqb-true (length l) session_size (both (eqb (length l) session_size) _ e).0

-- four bytes for each number, whatever there is of them
pub longs_length : (n : ℕ) (xs : List ℕ) → length (longs_bytes n xs) ≡ 4 * n
longs_length zero xs = refl
longs_length (suc n) [] = omega (arith, longs_length n [])
longs_length (suc n) (x ∷ xs) = omega (arith, longs_length n xs)

-- an answer has one value today
pub one_value : (x : Answer) → values_of x ≡ value_of x ∷ []
one_value (Answer.Done value) = refl
one_value Answer.False = refl
one_value (Answer.InvalidDevice identity) = refl
one_value (Answer.BusError code) = refl
one_value Answer.Timeout = refl
one_value (Answer.InvalidAddress address) = refl
one_value Answer.InvalidArgument = refl
one_value Answer.WouldBlock = refl
one_value (Answer.Panic place) = refl
one_value Answer.NotUp = refl
one_value Answer.CallWaits = refl
one_value Answer.NoCallWaits = refl
one_value Answer.StrayByte = refl
one_value Answer.IllFormedRecord = refl
one_value Answer.SpareBytes = refl
one_value Answer.IllFormedSession = refl

-- a flag as a number
pub as_number : (t : Bool) → bool_byte t ≡ flag t
as_number true = refl
as_number false = refl

-- the last 24 bytes
pub carried_last : (l : List ℕ) → length l ≡ session_size → take 24 (drop carried_at l) ≡ drop carried_at l
carried_last l e = take_all 24 (drop carried_at l) (rw length-drop (omega (arith, e)))

pub whole : (l : List ℕ) → l ++ [] ≡ l
whole l = append-nil l
