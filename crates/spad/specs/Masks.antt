-- A register's byte under a mask, bit by bit. lib.rs writes these as `x | m` and `x & m`.
use Rattle.std.specs.Prelude.{Bool, ◌&&◌, ◌||◌, List, [], ◌∷◌, ℕ}
use Rattle.spad.specs.Map.{bits_of, byte_of}

-- two rows of bits, bit by bit
unfoldable pub each_bit : (Bool → Bool → Bool) → List Bool → List Bool → List Bool
each_bit f [] ys = []
each_bit f (x ∷ xs) [] = []
each_bit f (x ∷ xs) (y ∷ ys) = f x y ∷ each_bit f xs ys

-- a byte with the bits of a mask set
unfoldable pub or_byte : ℕ → ℕ → ℕ
or_byte x m = byte_of (each_bit ◌||◌ (bits_of 8 x) (bits_of 8 m))

-- a byte with only the bits of a mask left
unfoldable pub and_byte : ℕ → ℕ → ℕ
and_byte x m = byte_of (each_bit ◌&&◌ (bits_of 8 x) (bits_of 8 m))
