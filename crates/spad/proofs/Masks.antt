-- A mask bit by bit is the bit operation of lib.Bits on the low bits, and a mask of ones takes the rest of a division.
use mathlib.Core.Path.{◌≡◌, refl, sym, ap, ◌∙◌}
use mathlib.Core.Bool.{Bool, true, false, cond, ◌&&◌, ◌||◌}
use Prim.Native.Nat.{ℕ, zero, suc, ◌/◌, ◌%◌, ◌^◌}
use native.Mathlib.Omega.{arith}
use native.Mathlib.Nat.{mod-one, pow-suc}
use lib.Dec.{eqb}
use lib.Arith.{mod-mul}
use lib.Pow.{pow_pos}
use lib.Bits.{bit_and, bit_or, and_shr, and_mod, and_mask, or_shr, or_mod}
use Rattle.spad.specs.Map.{bits_of, byte_of}
use Rattle.spad.specs.Masks.{each_bit, or_byte, and_byte}
use Rattle.spad.proofs.Keep.{bit_is}

low_is : (b : ℕ) → cond (eqb (b % 2) 1) 1 0 ≡ b % 2
low_is b = sym (bit_is (b % 2) (omega arith))

-- a number's n low bits make its rest by 2 ^ n
pub byte_bits : (n b : ℕ) → byte_of (bits_of n b) ≡ b % 2 ^ n
unfolding byte_of bits_of
byte_bits zero b = sym (mod-one b)
byte_bits (suc n) b =
    rw (low_is b, byte_bits n (b / 2), pow-suc 2 n, mod-mul b (pow_pos n) (pow_pos 1)) (omega arith)

-- an operation on numbers that works on each bit apart, and what it does to one
module _ (op : ℕ → ℕ → ℕ) (f : Bool → Bool → Bool)
    (shr : (a b k : ℕ) → op a b / 2 ^ k ≡ op (a / 2 ^ k) (b / 2 ^ k))
    (rest : (a b k : ℕ) → op a b % 2 ^ k ≡ op (a % 2 ^ k) (b % 2 ^ k))
    (bit : (x y : Bool) → eqb (op (cond x 1 0) (cond y 1 0)) 1 ≡ f x y) where
  low_bit : (a b : ℕ) → eqb (op a b % 2) 1 ≡ f (eqb (a % 2) 1) (eqb (b % 2) 1)
  low_bit a b = rw (rest a b 1) (rw (low_is a, low_is b) at (bit (eqb (a % 2) 1) (eqb (b % 2) 1)))

  bits_is : (n a b : ℕ) → bits_of n (op a b) ≡ each_bit f (bits_of n a) (bits_of n b)
  unfolding bits_of each_bit
  bits_is zero a b = refl
  bits_is (suc n) a b = rw (shr a b 1, bits_is n (a / 2) (b / 2), low_bit a b)

  each_is : (n a b : ℕ) → byte_of (each_bit f (bits_of n a) (bits_of n b)) ≡ op (a % 2 ^ n) (b % 2 ^ n)
  each_is n a b = ap byte_of (sym (bits_is n a b)) ∙ byte_bits n (op a b) ∙ rest a b n

or_bit : (x y : Bool) → eqb (bit_or (cond x 1 0) (cond y 1 0)) 1 ≡ (x || y)
or_bit true true = refl
or_bit true false = refl
or_bit false true = refl
or_bit false false = refl

and_bit : (x y : Bool) → eqb (bit_and (cond x 1 0) (cond y 1 0)) 1 ≡ (x && y)
and_bit true true = refl
and_bit true false = refl
and_bit false true = refl
and_bit false false = refl

pub or_is : (x m : ℕ) → or_byte x m ≡ bit_or (x % 256) (m % 256)
unfolding or_byte
or_is x m = each_is bit_or ◌||◌ or_shr or_mod or_bit 8 x m

pub and_is : (x m : ℕ) → and_byte x m ≡ bit_and (x % 256) (m % 256)
unfolding and_byte
and_is x m = each_is bit_and ◌&&◌ and_shr and_mod and_bit 8 x m

-- ---- masks of ones
pub and_0fff : (x : ℕ) → bit_and x 0x0FFF ≡ x % 4096
and_0fff x = and_mask x 12

pub and_ff : (x : ℕ) → bit_and x 0xFF ≡ x % 256
and_ff x = and_mask x 8

pub and_7f : (x : ℕ) → bit_and x 0x7F ≡ x % 128
and_7f x = and_mask x 7

pub and_1 : (x : ℕ) → bit_and x 1 ≡ x % 2
and_1 x = and_mask x 1

pub and_7 : (x : ℕ) → bit_and x 7 ≡ x % 8
and_7 x = and_mask x 3
