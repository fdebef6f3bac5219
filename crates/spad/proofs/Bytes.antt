-- Where the walk leaves a byte whole, where it clears it, and that each byte of a selection is its own walk.
use mathlib.Core.Path.{◌≡◌, refl, sym, ap, ◌∙◌}
use mathlib.Core.Bool.{Bool, true, false}
use mathlib.Core.List.{List, [], ◌∷◌}
use Prim.Native.Nat.{ℕ, zero, suc, ◌+◌, ◌-◌, ◌*◌, ◌≤◌, ◌<◌, min}
use native.Mathlib.Omega.{arith}
use native.Mathlib.Nat.{add-zero, sub-zero, zero-sub, suc-sub-suc, mod-eq_of_lt}
use borrow.Author.Tests.{eqb-true, eq-eqb, leb-true, leb-false}
use lib.Dec.{eqb, leb}
use lib.Count.{ones}
use lib.ListN.{length, take, drop, get_or, drop_of_length-le}
use lib.Seq.{take_at, take-add, take-append-add, drop-append-add, take-nil}
use Rattle.std.proofs.lemmas.Bool.{false_from_ne_true}
use Rattle.std.proofs.lemmas.List.{length-take-le}
use Rattle.std.proofs.lemmas.Nat.{zero_from_ones}
use Rattle.spad.specs.Map.{bits_of, byte_of, map_bits, first_spad, keep, selected, trues}
use Rattle.spad.specs.Bytes.{byte_kept, KeepsBytes, skip_at, wanted_at, byte_kept_at, IsCutAt, SelectsBytes}
use Rattle.spad.proofs.Keep.{length_bits, ones_byte, kept_count, keep_append, walked, selected_is}
use Rattle.spad.proofs.Laws.{trues_append, length_map_bits}
use Rattle.spad.proofs.Masks.{byte_bits}

keep_all : (n : ℕ) (xs : List Bool) → trues xs ≤ n → keep 0 n xs ≡ xs
unfolding keep trues
keep_all n [] h = refl
keep_all zero (true ∷ xs) h = absurd (omega arith)
keep_all zero (false ∷ xs) h = ap (λ z. false ∷ z) (keep_all zero xs (omega arith))
keep_all (suc n) (true ∷ xs) h = ap (λ z. true ∷ z) (keep_all n xs (omega arith))
keep_all (suc n) (false ∷ xs) h = ap (λ z. false ∷ z) (keep_all (suc n) xs (omega arith))

-- the ones of a walked byte
pub kept_ones : (s n b : ℕ) → ones (byte_kept s n b) ≡ min n (trues (drop s (bits_of 8 b)))
kept_ones s n b = ones_byte (keep s n (bits_of 8 b)) ∙ kept_count s n (bits_of 8 b)

module _ (b : ℕ) (small : b < 256) where
  same : byte_of (bits_of 8 b) ≡ b
  same = byte_bits 8 b ∙ mod-eq_of_lt small

  good : trues (bits_of 8 b) ≡ ones b
  good = sym (ones_byte (bits_of 8 b)) ∙ ap ones same

  module _ (n : ℕ) where
    all_kept : ones b ≤ n → byte_kept 0 n b ≡ b
    all_kept h = rw (keep_all n (bits_of 8 b) (rw good h)) same

    few : byte_kept 0 n b ≡ b → ones b ≤ n
    few e = omega (arith, kept_ones 0 n b, ap ones e)

    whole : eqb (byte_kept 0 n b) b ≡ leb (ones b) n
    whole = go (leb (ones b) n) refl
      where
        go : (k : Bool) → leb (ones b) n ≡ k → eqb (byte_kept 0 n b) b ≡ k
        go true h = eq-eqb (byte_kept 0 n b) b (all_kept (leb-true (ones b) n h))
        go false h = false_from_ne_true _ (λ e. let l = leb-false (ones b) n h in omega (arith, few (eqb-true _ b e)))

    left : n - ones (byte_kept 0 n b) ≡ n - ones b
    left = omega (arith, kept_ones 0 n b, good)

none_kept : (s n b : ℕ) → min n (trues (drop s (bits_of 8 b))) ≡ 0 → 0 ≡ byte_kept s n b
none_kept s n b h = sym (zero_from_ones (byte_kept s n b) (kept_ones s n b ∙ h))

-- the code's ways of a byte that it does not walk
pub run_out : (s n b : ℕ) → n ≡ 0 → 0 ≡ byte_kept s n b
run_out s n b e = none_kept s n b (omega arith)

pub before : (s n b : ℕ) → 8 ≤ s → 0 ≡ byte_kept s n b
unfolding trues
before s n b h =
    let d : drop s (bits_of 8 b) ≡ [] = drop_of_length-le (bits_of 8 b) (rw (length_bits 8 b) h) in
    none_kept s n b (rw d (omega arith))

pub left_whole : (s n b : ℕ) → b < 256 → s ≡ 0 → ones b ≤ n → b ≡ byte_kept s n b
left_whole s n b small e h = rw e (sym (all_kept b small n h))

pub keeps_bytes : (b n : ℕ) → b < 256 → KeepsBytes b n
keeps_bytes b n small = record {
  whole = whole b small n;
  left = left b small n;
  run_out = λ s. sym (run_out s 0 b refl);
  before = λ s h. sym (before s n b h);
}

-- ---- the bytes of a map
byte_of_map : (m : List ℕ) (i : ℕ) → i < length m → take 8 (drop (8 * i) (map_bits m)) ≡ bits_of 8 (get_or m i 0)
unfolding map_bits
byte_of_map [] i h = absurd (omega arith)
byte_of_map (b ∷ bs) zero h = take_at (bits_of 8 b) (map_bits bs) 8 (length_bits 8 b)
byte_of_map (b ∷ bs) (suc i) h =
    let e : 8 * suc i ≡ length (bits_of 8 b) + 8 * i = omega (arith, length_bits 8 b) in
    rw (e, drop-append-add) (byte_of_map bs i (omega arith))

-- the bits before byte i leave it so much to skip and to keep
walked_at : (s n i : ℕ) (m : List ℕ) → i < length m
    → get_or (walked s n m) i 0 ≡ byte_kept (s - 8 * i) (n - trues (keep s n (take (8 * i) (map_bits m)))) (get_or m i 0)
unfolding walked keep trues map_bits
walked_at s n i [] h = absurd (omega arith)
walked_at s n zero (b ∷ bs) h = rw (sub-zero s, sub-zero n) refl
walked_at s n (suc i) (b ∷ bs) h =
    let k = keep s n (bits_of 8 b) in
    let e : 8 * suc i ≡ length (bits_of 8 b) + 8 * i = omega (arith, length_bits 8 b) in
    let d : s - 8 * suc i ≡ s - 8 - 8 * i = omega arith in
    let c : n - trues (keep s n (take (8 * suc i) (map_bits (b ∷ bs)))) ≡ n - ones (byte_of k) - trues (keep (s - 8) (n - ones (byte_of k)) (take (8 * i) (map_bits bs))) =
    rw (e, map_bits, take-append-add, keep_append, trues_append, length_bits 8 b, ones_byte k) (omega arith) in
    rw (c, d) (walked_at (s - 8) (n - ones (byte_of k)) i bs (omega arith))

drop_of_take : (s k : ℕ) (l : List Bool) → drop s (take k l) ≡ take (k - s) (drop s l)
drop_of_take zero k l = rw (sub-zero k) refl
drop_of_take (suc s) zero l = rw (zero-sub (suc s)) refl
drop_of_take (suc s) (suc k) [] = rw take-nil refl
drop_of_take (suc s) (suc k) (x ∷ l) = rw suc-sub-suc (drop_of_take s k l)

-- what is still wanted at byte i
wanted_is : (m : List ℕ) (s n i : ℕ) → n - trues (keep s n (take (8 * i) (map_bits m))) ≡ n - trues (take (8 * i - s) (drop s (map_bits m)))
wanted_is m s n i = omega (arith, kept_count s n (take (8 * i) (map_bits m)), ap trues (drop_of_take s (8 * i) (map_bits m)))

start_low : (aperture : Bool) → first_spad aperture ≤ 12
start_low true = omega arith
start_low false = omega arith

module _ (m : List ℕ) (count : ℕ) (aperture : Bool) (six : length m ≡ 6) where
  each : (i : ℕ) → i < 6 → get_or (selected m count aperture) i 0 ≡ byte_kept_at m count aperture i
  each i h =
      let s = first_spad aperture in
      rw (← selected_is m s count aperture six refl, ← wanted_is m s count i) (walked_at s count i m (omega arith))

  next : (i : ℕ) → i < 6 → wanted_at m count aperture (i + 1) ≡ wanted_at m count aperture i - ones (byte_kept_at m count aperture i)
  next i h =
      let s = first_spad aperture in
      let r = map_bits m in
      let e : 8 * (i + 1) ≡ 8 * i + 8 = omega arith in
      let l : length (take (8 * i) r) ≡ 8 * i = length-take-le (8 * i) r (omega (arith, length_map_bits m)) in
      rw (← wanted_is m s count (i + 1), ← wanted_is m s count i, e, take-add, keep_append, trues_append, l, byte_of_map m i (omega arith), ones_byte) (omega arith)

  stays_out : (i d : ℕ) → i + d < 6 → wanted_at m count aperture i ≡ 0 → wanted_at m count aperture (i + d) ≡ 0
  stays_out i zero h e = rw add-zero e
  stays_out i (suc d) h e =
      let k = next (i + d) (omega arith) in
      let z = stays_out i d (omega arith) e in
      let a : i + suc d ≡ i + d + 1 = omega arith in
      rw a (omega (arith, k, z))

  cleared : (i j : ℕ) → i ≤ j → j < 6 → wanted_at m count aperture i ≡ 0 → get_or (selected m count aperture) j 0 ≡ 0
  cleared i j l h e =
      let d : i + (j - i) ≡ j = omega arith in
      each j h ∙ rw (rw d at (stays_out i (j - i) (omega arith) e)) (sym (run_out (skip_at aperture j) 0 (get_or m j 0) refl))

  two : ((i : ℕ) → get_or m i 0 < 256) → (i j k : ℕ) → i < j → j < k → k < 6
      → IsCutAt m count aperture i → IsCutAt m count aperture j → wanted_at m count aperture k ≡ 0
  two small i j k p q h a b =
      let z : skip_at aperture j ≡ 0 = omega (arith, start_low aperture, a.started) in
      let o : ones (byte_kept_at m count aperture j) ≡ min (wanted_at m count aperture j) (ones (get_or m j 0)) =
      rw z (kept_ones 0 (wanted_at m count aperture j) (get_or m j 0) ∙ rw (good (get_or m j 0) (small j)) refl) in
      let w : wanted_at m count aperture (j + 1) ≡ 0 = omega (arith, next j (omega arith), o, b.short z) in
      let e : j + 1 + (k - (j + 1)) ≡ k = omega arith in
      rw e at (stays_out (j + 1) (k - (j + 1)) (omega arith) w)

pub selects_bytes : (m : List ℕ) (count : ℕ) (aperture : Bool) → length m ≡ 6 → ((i : ℕ) → get_or m i 0 < 256) → SelectsBytes m count aperture
selects_bytes m count aperture six small = record {
  each = each m count aperture six;
  next = next m count aperture six;
  cleared = cleared m count aperture six;
  two = two m count aperture six small;
}
