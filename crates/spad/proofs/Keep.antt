-- Laws of `keep`, each by its clauses: one bit, a number's bits, two lists in a row.
-- From these: the bytes of a map walked one after another are its selection.
use mathlib.Core.Path.{◌≡◌, refl, sym, ap, ◌∙◌, subst}
use mathlib.Core.Bool.{Bool, true, false, cond}
use mathlib.Core.List.{List, [], ◌∷◌, ◌++◌}
use Prim.Native.Nat.{ℕ, zero, suc, ◌+◌, ◌-◌, ◌*◌, ◌/◌, ◌%◌, ◌^◌, ◌≤◌, ◌<◌, min}
use native.Mathlib.Omega.{arith}
use native.Mathlib.Nat.{zero-add, sub-zero, zero-sub, suc-sub-suc, pow-succ', lt_of_lt_of_le}
use native.Mathlib.Numerals.{one-add, add-one}
use lib.Dec.{eqb, lit<}
use lib.ListN.{length, take, drop, get_or, set, drop_of_length-le}
use lib.Seq.{take_at, drop_at, drop-cons}
use Rattle.std.proofs.lemmas.List.{take_more_set, take_all, append_assoc, append-nil}
use lib.Count.{ones, ones_step}
use lib.Pow.{pow_mono}
use Rattle.spad.specs.Map.{bits_of, byte_of, map_bits, map_bytes, first_spad, keep, selected, ones_in, trues}
use Rattle.spad.specs.Walk.{BitWalked, ByteMasked}

-- ---- one bit
pred_is : (s : ℕ) → suc s - 1 ≡ s
pred_is s = omega arith

pub keep_skip : (s n : ℕ) (x : Bool) (xs : List Bool) → 0 < s → keep s n (x ∷ xs) ≡ eqb 0 1 ∷ keep (s - 1) n xs
unfolding keep
keep_skip zero n x xs h = absurd (omega arith)
keep_skip (suc s) n x xs h = rw pred_is

pub keep_none : (s n : ℕ) (x : Bool) (xs : List Bool) → s ≡ 0 → n ≡ 0 → keep s n (x ∷ xs) ≡ eqb 0 1 ∷ keep s n xs
unfolding keep
keep_none zero zero x xs h e = refl
keep_none zero (suc n) x xs h e = absurd (omega arith)
keep_none (suc s) n x xs h e = absurd (omega arith)

pub keep_one : (s n r : ℕ) (xs : List Bool) → s ≡ 0 → 0 < n → r < 2 → keep s n (eqb r 1 ∷ xs) ≡ eqb r 1 ∷ keep s (n - r) xs
unfolding keep
keep_one (suc s) n r xs h e k = absurd (omega arith)
keep_one zero zero r xs h e k = absurd (omega arith)
keep_one zero (suc n) zero xs h e k = rw sub-zero
keep_one zero (suc n) (suc zero) xs h e k = rw pred_is
keep_one zero (suc n) (suc (suc r)) xs h e k = absurd (omega arith)

-- ---- a number's bits, and its ones
pub length_keep : (s n : ℕ) (xs : List Bool) → length (keep s n xs) ≡ length xs
unfolding keep
length_keep s n [] = refl
length_keep (suc s) n (x ∷ xs) = ap suc (length_keep s n xs)
length_keep zero zero (x ∷ xs) = ap suc (length_keep zero zero xs)
length_keep zero (suc n) (true ∷ xs) = ap suc (length_keep zero n xs)
length_keep zero (suc n) (false ∷ xs) = ap suc (length_keep zero (suc n) xs)

pub length_bits : (n b : ℕ) → length (bits_of n b) ≡ n
unfolding bits_of
length_bits zero b = refl
length_bits (suc n) b = ap suc (length_bits n (b / 2))

pub half : (x : Bool) (v : ℕ) → (cond x 1 0 + 2 * v) / 2 ≡ v
half true v = omega arith
half false v = omega arith

pub rest : (x : Bool) (v : ℕ) → (cond x 1 0 + 2 * v) % 2 ≡ cond x 1 0
rest true v = omega arith
rest false v = omega arith

-- the language's count of ones is the number of set bits
pub ones_byte : (xs : List Bool) → ones (byte_of xs) ≡ trues xs
unfolding byte_of trues ones
ones_byte [] = refl
ones_byte (x ∷ xs) = ones_step (cond x 1 0 + 2 * byte_of xs) ∙ rw (rest, half, ones_byte xs)

-- how many bits are kept
pub kept_count : (s n : ℕ) (xs : List Bool) → trues (keep s n xs) ≡ min n (trues (drop s xs))
unfolding keep trues
kept_count zero n [] = omega arith
kept_count (suc s) n [] = omega arith
kept_count (suc s) n (x ∷ xs) = let h = kept_count s n xs in omega arith
kept_count zero zero (x ∷ xs) = let h = kept_count zero zero xs in omega arith
kept_count zero (suc n) (true ∷ xs) = let h = kept_count zero n xs in omega arith
kept_count zero (suc n) (false ∷ xs) = let h = kept_count zero (suc n) xs in omega arith

bit_lt : (x : Bool) (v p : ℕ) → v < p → cond x 1 0 + 2 * v < 2 * p
bit_lt true v p h = omega arith
bit_lt false v p h = omega arith

pub byte_lt : (xs : List Bool) → byte_of xs < 2 ^ length xs
unfolding byte_of
byte_lt [] = lit< tt
byte_lt (x ∷ xs) = rw (pow-succ' 2 (length xs)) (bit_lt x (byte_of xs) (2 ^ length xs) (byte_lt xs))

-- what k bits give is below 2 ^ k
pub kept_lt : (k b s n : ℕ) → byte_of (keep s n (bits_of k b)) < 2 ^ k
kept_lt k b s n =
    subst (λ (j : ℕ). byte_of (keep s n (bits_of k b)) < 2 ^ j) (length_keep s n (bits_of k b) ∙ length_bits k b)
    (byte_lt (keep s n (bits_of k b)))

-- of at most 8 bits, those above the lowest give less than 2 ^ 7
pub kept_half : (k b s n : ℕ) → k ≤ 8 → byte_of (keep s n (bits_of (k - 1) b)) < 128
kept_half k b s n h =
    let l : k - 1 ≤ 7 = omega arith in
    lt_of_lt_of_le (kept_lt (k - 1) b s n) (pow_mono l)

pub bit_is : (r : ℕ) → r ≤ 1 → r ≡ cond (eqb r 1) 1 0
bit_is zero h = refl
bit_is (suc zero) h = refl
bit_is (suc (suc r)) h = absurd (omega arith)

-- a walked bit, and the bits above it
pub step : (k b s n bit s' n' : ℕ) → 0 < k → BitWalked b s n bit s' n'
    → bit + 2 * byte_of (keep s' n' (bits_of (k - 1) (b / 2))) ≡ byte_of (keep s n (bits_of k b))
unfolding bits_of byte_of
step zero b s n bit s' n' h w = absurd (omega arith)
step (suc k) b s n bit s' n' h w =
    let xs = bits_of k (b / 2) in
    rw (pred_is, w.walked xs)
    (ap (λ (j : ℕ). j + 2 * byte_of (keep s' n' xs)) (bit_is bit w.small))

-- ---- two lists in a row: after xs, what is left to skip, and how many good bits are still wanted
pub keep_append : (ys : List Bool) (s n : ℕ) (xs : List Bool)
    → keep s n (xs ++ ys) ≡ keep s n xs ++ keep (s - length xs) (n - trues (keep s n xs)) ys
unfolding keep trues
keep_append ys s n [] = simp sub-zero
keep_append ys (suc s) n (x ∷ xs) = simp (suc-sub-suc, zero-add, keep_append ys s n xs)
keep_append ys zero zero (x ∷ xs) = simp (zero-sub, keep_append ys zero zero xs)
keep_append ys zero (suc n) (true ∷ xs) = simp (zero-sub, one-add, suc-sub-suc, keep_append ys zero n xs)
keep_append ys zero (suc n) (false ∷ xs) = simp (zero-sub, zero-add, keep_append ys zero (suc n) xs)

-- ---- a map, byte by byte
-- each byte under what the bytes before it left to skip and wanted
unfoldable pub walked : ℕ → ℕ → List ℕ → List ℕ
walked s n [] = []
walked s n (b ∷ bs) =
    byte_of (keep s n (bits_of 8 b)) ∷ walked (s - 8) (n - ones (byte_of (keep s n (bits_of 8 b)))) bs

pub walked_is : (s n : ℕ) (m : List ℕ) → map_bytes (length m) (keep s n (map_bits m)) ≡ walked s n m
unfolding map_bytes map_bits walked
walked_is s n [] = refl
walked_is s n (b ∷ bs) =
    let k = keep s n (bits_of 8 b) in
    let l : length k ≡ 8 = length_keep s n (bits_of 8 b) ∙ length_bits 8 b in
    rw (keep_append (map_bits bs) s n (bits_of 8 b), length_bits 8 b, ← ones_byte k, take_at k _ 8 l, drop_at k _ 8 l, walked_is (s - 8) (n - ones (byte_of k)) bs)

-- the selection by bytes
pub selected_is : (m : List ℕ) (s count : ℕ) (aperture : Bool) → length m ≡ 6 → s ≡ first_spad aperture → walked s count m ≡ selected m count aperture
unfolding selected
selected_is m s count aperture l e = rw e (rw l at (sym (walked_is (first_spad aperture) count m)))

ones_last : (bs : List ℕ) (b : ℕ) → ones_in (bs ++ b ∷ []) ≡ ones_in bs + ones b
unfolding ones_in
ones_last [] b = omega arith
ones_last (x ∷ bs) b = rw (ones_last bs b) (omega arith)

-- all bytes are walked
pub none_more : (m out : List ℕ) (i s n : ℕ) → length m ≤ i → length out ≤ i → take i out ++ walked s n (drop i m) ≡ out
unfolding walked
none_more m out i s n h l = rw (drop_of_length-le m h, append-nil, take_all i out l)

-- one byte more is walked and written
module _ (m out : List ℕ) (i s n byte k s' n' : ℕ) (h : i < length m) (l : i < length out) (w : ByteMasked (get_or m i 0) s n byte k s' n') where
  pub one_more : take (i + 1) (set out i byte) ++ walked s' n' (drop (i + 1) m) ≡ take i out ++ walked s n (drop i m)
  unfolding walked
  one_more = rw (take_more_set out i byte l, drop-cons m i 0 h, append_assoc, w.next_skip, w.next_wanted, w.counted, w.walked, add-one)

  pub ones_more : ones_in (take i out) + k ≡ ones_in (take (i + 1) (set out i byte))
  ones_more = rw (take_more_set out i byte l, ones_last (take i out) byte, w.counted)
