-- Laws of the selection beside SCOPE 3.2: where bit i stands, which bits are kept, that none is set, and how many are kept.
-- The map's bits are read in a row, where `keep` has a law for each place; the bytes are read back from them.
use mathlib.Core.Path.{◌≡◌, refl, sym, ap, ◌∙◌}
use mathlib.Core.Bool.{Bool, true, false, cond, ◌&&◌, and-true, and-false}
use mathlib.Core.List.{List, [], ◌∷◌, ◌++◌}
use mathlib.Core.Logic.{◌⊎◌, inl, inr, ⊎_elim}
use Prim.Native.Nat.{ℕ, zero, suc, ◌+◌, ◌-◌, ◌*◌, ◌/◌, ◌%◌, ◌^◌, ◌≤◌, ◌<◌, min}
use native.Mathlib.Omega.{arith}
use native.Mathlib.Nat.{zero-add, sub-zero, suc-sub-suc, pow-succ', div-one, div-div-eq-div-mul}
use native.Mathlib.Numerals.{one-add}
use borrow.Author.Tests.{ltb-true, ltb-false, lt-ltb}
use lib.Dec.{eqb, ltb, leb, leb-zero, leb-suc-zero, leb-suc-suc}
use lib.ListN.{length, take, drop, get_or, length-take, length-drop, length-append, take-append-drop, get_or-append}
use lib.Seq.{get_or-append-add}
use Rattle.spad.specs.Map.{is_good, bits_of, byte_of, map_bits, map_bytes, first_spad, keep, selected, ones_in}
use Rattle.spad.specs.Map.{select_spads, trues, available, good_before}
use Rattle.spad.proofs.Keep.{length_keep, length_bits, half, rest, ones_byte, kept_count}

-- ---- bit i of the map is bit i % 8 of byte i / 8
bits_at : (n b i : ℕ) → i < n → get_or (bits_of n b) i false ≡ eqb (b / 2 ^ i % 2) 1
unfolding bits_of
bits_at zero b i h = absurd (omega arith)
bits_at (suc n) b zero h = rw (div-one b)
bits_at (suc n) b (suc i) h = rw (pow-succ' 2 i, ← div-div-eq-div-mul b 2 (2 ^ i)) (bits_at n (b / 2) i (omega arith))

pub lt_or_ge : (i n : ℕ) → (i < n) ⊎ (n ≤ i)
lt_or_ge i n = go (ltb i n) refl
  where
    go : (k : Bool) → ltb i n ≡ k → (i < n) ⊎ (n ≤ i)
    go true h = inl (ltb-true i n h)
    go false h = inr (ltb-false i n h)

pub map_bit : (m : List ℕ) (i : ℕ) → i < length m * 8 → get_or (map_bits m) i false ≡ is_good m i
unfolding map_bits
map_bit [] i h = absurd (omega arith)
map_bit (b ∷ bs) i h = ⊎_elim first (later (map_bit bs)) (lt_or_ge i 8)
  where
    l : length (bits_of 8 b) ≡ 8
    l = length_bits 8 b

    first : i < 8 → get_or (bits_of 8 b ++ map_bits bs) i false ≡ is_good (b ∷ bs) i
    first k =
        let z : i / 8 ≡ 0 = omega arith in
        let r : i % 8 ≡ i = omega arith in
        rw (z, r) (get_or-append (bits_of 8 b) (map_bits bs) false i (omega (arith, l)) ∙ bits_at 8 b i k)

    later : ((j : ℕ) → j < length bs * 8 → get_or (map_bits bs) j false ≡ is_good bs j)
        → 8 ≤ i → get_or (bits_of 8 b ++ map_bits bs) i false ≡ is_good (b ∷ bs) i
    later ih k =
        let e : i ≡ length (bits_of 8 b) + (i - 8) = omega (arith, l) in
        let z : i / 8 ≡ suc ((i - 8) / 8) = omega arith in
        let r : i % 8 ≡ (i - 8) % 8 = omega arith in
        ap (λ (q : ℕ). get_or (bits_of 8 b ++ map_bits bs) q false) e
        ∙ get_or-append-add (bits_of 8 b) (map_bits bs) (i - 8) false
        ∙ rw (z, r) (ih (i - 8) (omega arith))

-- ---- the bits of bytes made from bits
low : (x : Bool) → eqb (cond x 1 0) 1 ≡ x
low true = refl
low false = refl

bits_byte : (xs : List Bool) → bits_of (length xs) (byte_of xs) ≡ xs
unfolding bits_of byte_of
bits_byte [] = refl
bits_byte (x ∷ xs) = rw (rest, half, low, bits_byte xs)

module _ (n : ℕ) (l : List Bool) (h : length l ≡ suc n * 8) where
  pub first_eight : length (take 8 l) ≡ 8
  first_eight = length-take 8 l ∙ omega arith

  pub after_eight : length (drop 8 l) ≡ n * 8
  after_eight = length-drop 8 l ∙ omega arith

pub bits_bytes : (n : ℕ) (l : List Bool) → length l ≡ n * 8 → map_bits (map_bytes n l) ≡ l
unfolding map_bits map_bytes
bits_bytes zero [] h = refl
bits_bytes zero (x ∷ l) h = absurd (omega arith)
bits_bytes (suc n) l h =
    let t : bits_of 8 (byte_of (take 8 l)) ≡ take 8 l = rw (first_eight n l h) at (bits_byte (take 8 l)) in
    rw (t, bits_bytes n (drop 8 l) (after_eight n l h)) (take-append-drop 8 l)

pub length_map_bits : (m : List ℕ) → length (map_bits m) ≡ length m * 8
unfolding map_bits
length_map_bits [] = refl
length_map_bits (b ∷ bs) = length-append (bits_of 8 b) (map_bits bs) ∙ omega (arith, length_bits 8 b, length_map_bits bs)

six_long : (s n : ℕ) (m : List ℕ) → length m ≡ 6 → length (keep s n (map_bits m)) ≡ 6 * 8
six_long s n m h = length_keep s n (map_bits m) ∙ length_map_bits m ∙ rw h

-- ---- `keep` at each place: what is good, not skipped, and has fewer than n good bits between the start and itself
kept_from_zero : (n i : ℕ) (xs : List Bool) → get_or (keep 0 n xs) i false ≡ (get_or xs i false && ltb (trues (take i xs)) n)
unfolding keep trues
kept_from_zero n i [] = refl
kept_from_zero zero zero (x ∷ xs) = sym (and-false x)
kept_from_zero zero (suc i) (x ∷ xs) = rw (leb-suc-zero, and-false) (rw (leb-suc-zero, and-false) at (kept_from_zero zero i xs))
kept_from_zero (suc n) zero (true ∷ xs) = sym (lt-ltb 0 (suc n) (omega arith))
kept_from_zero (suc n) zero (false ∷ xs) = refl
kept_from_zero (suc n) (suc i) (true ∷ xs) = rw (one-add, leb-suc-suc) (kept_from_zero n i xs)
kept_from_zero (suc n) (suc i) (false ∷ xs) = rw zero-add (kept_from_zero (suc n) i xs)

kept_at : (s n i : ℕ) (xs : List Bool)
    → get_or (keep s n xs) i false ≡ (get_or xs i false && leb s i && ltb (trues (take (i - s) (drop s xs))) n)
unfolding keep
kept_at zero n i xs = rw (leb-zero i, and-true, sub-zero) (kept_from_zero n i xs)
kept_at (suc s) n i [] = refl
kept_at (suc s) n zero (x ∷ xs) = rw (leb-suc-zero s, and-false)
kept_at (suc s) n (suc i) (x ∷ xs) = rw (leb-suc-suc s i, suc-sub-suc) (kept_at s n i xs)

-- ---- how many bits are kept
pub trues_append : (xs ys : List Bool) → trues (xs ++ ys) ≡ trues xs + trues ys
unfolding trues
trues_append [] ys = omega arith
trues_append (x ∷ xs) ys = let h = trues_append xs ys in omega arith

ones_bytes : (n : ℕ) (l : List Bool) → length l ≡ n * 8 → ones_in (map_bytes n l) ≡ trues l
unfolding ones_in map_bytes trues
ones_bytes zero [] h = refl
ones_bytes zero (x ∷ l) h = absurd (omega arith)
ones_bytes (suc n) l h =
    rw (ones_byte, ones_bytes n (drop 8 l) (after_eight n l h), ← trues_append, take-append-drop)

-- ---- the laws of SCOPE 3.2
first_true : (a b c : Bool) → (a && b && c) ≡ true → a ≡ true
first_true true b c h = refl
first_true false b c h = h

module _ (m : List ℕ) (count : ℕ) (aperture : Bool) (six : length m ≡ 6) where
  -- a bit of the selection is set exactly when it is good, stands at or after the start, and fewer than count good bits stand between
  pub selected_bit : (i : ℕ) → i < 48
      → is_good (selected m count aperture) i ≡ (is_good m i && leb (first_spad aperture) i && ltb (good_before m aperture i) count)
  unfolding selected map_bytes
  selected_bit i h =
      let s = first_spad aperture in
      let k = keep s count (map_bits m) in
      sym (map_bit (map_bytes 6 k) i h)
      ∙ rw (bits_bytes 6 k (six_long s count m six), ← map_bit m i (omega arith)) (kept_at s count i (map_bits m))

  -- no bit is set that was clear
  pub none_set : (i : ℕ) → i < 48 → is_good (selected m count aperture) i ≡ true → is_good m i ≡ true
  none_set i h k = first_true (is_good m i) _ _ (sym (selected_bit i h) ∙ k)

  -- the number kept is min(count, available)
  pub kept_is_min : (select_spads m count aperture).kept ≡ min count (available m aperture)
  unfolding selected
  kept_is_min =
      let s = first_spad aperture in
      ones_bytes 6 (keep s count (map_bits m)) (six_long s count m six) ∙ kept_count s count (map_bits m)
