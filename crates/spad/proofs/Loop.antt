-- The Rust's loop leaves the selection. The map is held as the bytes of a row of bits, which a round tests or clears at i.
use mathlib.Core.Path.{◌≡◌, refl, sym, ap, ◌∙◌}
use mathlib.Core.Bool.{Bool, true, false, cond, not, ◌||◌}
use mathlib.Core.List.{List, [], ◌∷◌, ◌++◌, map}
use mathlib.Core.Logic.{⊎_elim}
use Prim.Native.Nat.{ℕ, zero, suc, ◌+◌, ◌-◌, ◌*◌, ◌/◌, ◌%◌, ◌^◌, ◌≤◌, ◌<◌}
use native.Mathlib.Omega.{arith}
use native.Mathlib.Nat.{add-zero, sub-zero, mod-eq_of_lt}
use borrow.Author.Tests.{ltb-true, ltb-false, eqb-true, eqb-false}
use lib.Dec.{eqb, ltb, lit<}
use lib.Bits.{bit_and, and_step, and_mask}
use lib.Pow.{pow-lt}
use lib.ListN.{length, take, drop, get_or, set, length-append}
use lib.Seq.{take_at, drop_at, set_at, get_or_at, append_snoc, take-set-lt, drop-set-lt, take-set-le, drop-set-add}
use Rattle.spad.specs.Map.{bits_of, byte_of, map_bits, map_bytes, first_spad, keep, selected}
use Rattle.spad.specs.Loop.{clear_spad, spad_is_set, enable_loop, enable_spads}
use Rattle.spad.proofs.Keep.{keep_skip, keep_none, keep_one, length_bits, half, rest, byte_lt}
use Rattle.spad.proofs.Laws.{lt_or_ge, map_bit, bits_bytes, first_eight, after_eight, length_map_bits}
use Rattle.spad.proofs.Masks.{byte_bits, and_1}

-- ---- the test reads bit i of the row
positive : (b : ℕ) → b < 2 → ltb 0 b ≡ eqb b 1
positive zero h = refl
positive (suc zero) h = refl
positive (suc (suc b)) h = absurd (omega arith)

length_bytes : (n : ℕ) (r : List Bool) → length (map_bytes n r) ≡ n
unfolding map_bytes
length_bytes zero r = refl
length_bytes (suc n) r = ap suc (length_bytes n (drop 8 r))

reads : (n i : ℕ) (r : List Bool) → length r ≡ n * 8 → i < n * 8 → spad_is_set i (map_bytes n r) ≡ get_or r i false
unfolding spad_is_set
reads n i r h k =
    let b = get_or (map_bytes n r) (i / 8) 0 / 2 ^ (i % 8) in
    ap (ltb 0) (and_1 b) ∙ positive (b % 2) (omega arith)
    ∙ sym (map_bit (map_bytes n r) i (rw (length_bytes n r) k)) ∙ rw (bits_bytes n r h)

-- ---- the clearing clears bit i of the row
mask_at : (xs : List Bool) (i : ℕ) → i < length xs → bit_and (byte_of xs) (2 ^ length xs - 1 - 2 ^ i) ≡ byte_of (set xs i false)
unfolding byte_of
mask_at [] i h = absurd (omega arith)
mask_at (x ∷ xs) zero h =
    let q : (2 ^ suc (length xs) - 1 - 1) / 2 ≡ 2 ^ length xs - 1 = omega arith in
    let e : (2 ^ suc (length xs) - 1 - 1) % 2 ≡ 0 = omega arith in
    rw (and_step, q, e, half, and_mask, mod-eq_of_lt (byte_lt xs)) (omega arith)
mask_at (x ∷ xs) (suc i) h =
    let k : i < length xs = omega arith in
    let l = pow-lt k in
    let q : (2 ^ suc (length xs) - 1 - 2 ^ suc i) / 2 ≡ 2 ^ length xs - 1 - 2 ^ i = omega arith in
    let e : (2 ^ suc (length xs) - 1 - 2 ^ suc i) % 2 ≡ 1 = omega arith in
    rw (and_step, q, e, half, mask_at xs i k) (omega (arith, rest x (byte_of xs)))

clears : (n i : ℕ) (r : List Bool) → length r ≡ n * 8 → i < n * 8 → clear_spad i (map_bytes n r) ≡ map_bytes n (set r i false)
unfolding clear_spad map_bytes
clears zero i r h k = absurd (omega arith)
clears (suc n) i r h k = ⊎_elim first (later (clears n)) (lt_or_ge i 8)
  where
    first : i < 8 → clear_spad i (map_bytes (suc n) r) ≡ map_bytes (suc n) (set r i false)
    first l =
        let z : i / 8 ≡ 0 = omega arith in
        let m : i % 8 ≡ i = omega arith in
        let t = first_eight n r h in
        let c : bit_and (byte_of (take 8 r)) (255 - 2 ^ i) ≡ byte_of (set (take 8 r) i false) =
        rw t at (mask_at (take 8 r) i (rw t l)) in
        rw (z, m, take-set-lt 8 r i false l, drop-set-lt 8 r i false l, c)

    later : ((j : ℕ) (q : List Bool) → length q ≡ n * 8 → j < n * 8 → clear_spad j (map_bytes n q) ≡ map_bytes n (set q j false))
        → 8 ≤ i → clear_spad i (map_bytes (suc n) r) ≡ map_bytes (suc n) (set r i false)
    later ih l =
        let z : i / 8 ≡ suc ((i - 8) / 8) = omega arith in
        let m : i % 8 ≡ (i - 8) % 8 = omega arith in
        let e : 8 + (i - 8) ≡ i = omega arith in
        let d : drop 8 (set r i false) ≡ set (drop 8 r) (i - 8) false = rw e at (drop-set-add 8 r (i - 8) false) in
        rw (take-set-le 8 r i false l, d, z, m, ← ih (i - 8) (drop 8 r) (after_eight n r h) (omega arith))

-- ---- a round does to the next bit x what `keep` does: p is walked, s is not
module _ (n i first enabled count : ℕ) (p s : List Bool) (l : length p ≡ i) (h : i + suc (length s) ≡ n * 8) (few : enabled ≤ count)
    (ih : (j : ℕ) (y : Bool) → j ≤ count
    → enable_loop (length s) (i + 1) first j count (map_bytes n (p ++ y ∷ s)) ≡ map_bytes n (p ++ y ∷ keep (first - (i + 1)) (count - j) s)) where
  abbrev Round : Bool → Type 0
  Round x =
      enable_loop (suc (length s)) i first enabled count (map_bytes n (p ++ x ∷ s))
      ≡ map_bytes n (p ++ keep (first - i) (count - enabled) (x ∷ s))

  long : (x : Bool) → length (p ++ x ∷ s) ≡ n * 8
  long x = length-append p (x ∷ s) ∙ omega arith

  seen : (x : Bool) → spad_is_set i (map_bytes n (p ++ x ∷ s)) ≡ x
  seen x = reads n i (p ++ x ∷ s) (long x) (omega arith) ∙ get_or_at p x s false i l

  cleared : (x : Bool) → (ltb i first || eqb enabled count) ≡ true
      → keep (first - i) (count - enabled) (x ∷ s) ≡ false ∷ keep (first - (i + 1)) (count - enabled) s → Round x
  unfolding enable_loop
  cleared x t e =
      rw (t, enable_loop, clears n i (p ++ x ∷ s) (long x) (omega arith), set_at p x s false i l, e) (ih enabled false few)

  walked : (r : ℕ) → r < 2 → first ≤ i → enabled < count
      → keep (first - i) (count - enabled) (eqb r 1 ∷ s) ≡ eqb r 1 ∷ keep (first - (i + 1)) (count - (enabled + r)) s
  walked r t k g =
      let d : first - i ≡ first - (i + 1) = omega arith in
      let w : count - enabled - r ≡ count - (enabled + r) = omega arith in
      keep_one (first - i) (count - enabled) r s (omega arith) (omega arith) t ∙ rw (d, w)

  round : (x c e : Bool) → ltb i first ≡ c → eqb enabled count ≡ e → Round x
  unfolding enable_loop
  round x true e a b =
      let k = ltb-true i first a in
      let d : first - i - 1 ≡ first - (i + 1) = omega arith in
      cleared x (rw a) (rw d at (keep_skip (first - i) (count - enabled) x s (omega arith)))
  round x false true a b =
      let k = ltb-false i first a in
      let d : first - i ≡ first - (i + 1) = omega arith in
      cleared x (rw (a, b)) (keep_none (first - i) (count - enabled) x s (omega arith) (omega (arith, eqb-true enabled count b)) ∙ rw d)
  round true false false a b =
      let k = ltb-false i first a in
      let g : enabled < count = omega (arith, eqb-false enabled count b) in
      rw (a, b, seen true, enable_loop, walked 1 (lit< tt) k g) (ih (enabled + 1) true (omega arith))
  round false false false a b =
      let k = ltb-false i first a in
      let g : enabled < count = omega (arith, eqb-false enabled count b) in
      rw (a, b, seen false, enable_loop, walked 0 (lit< tt) k g, add-zero) (ih enabled false few)

loop : (n i first enabled count : ℕ) (p s : List Bool) → length p ≡ i → i + length s ≡ n * 8 → enabled ≤ count
    → enable_loop (length s) i first enabled count (map_bytes n (p ++ s)) ≡ map_bytes n (p ++ keep (first - i) (count - enabled) s)
unfolding enable_loop keep
loop n i first enabled count p [] l h k = refl
loop n i first enabled count p (x ∷ s) l h k =
    round n i first enabled count p s l h k
    (λ j y f. simp append_snoc at (loop n (i + 1) first j count (p ++ y ∷ []) s (length-append p (y ∷ []) ∙ omega arith) (omega arith) f))
    x (ltb i first) (eqb enabled count) refl refl

-- ---- the loop starts on the bytes of the map's bits
bytes_bits : (m : List ℕ) → map (λ (b : ℕ). b % 256) m ≡ map_bytes (length m) (map_bits m)
unfolding map_bytes map_bits
bytes_bits [] = refl
bytes_bits (b ∷ bs) =
    let l = length_bits 8 b in
    rw (take_at (bits_of 8 b) (map_bits bs) 8 l, drop_at (bits_of 8 b) (map_bits bs) 8 l, byte_bits 8 b, bytes_bits bs)

start : (plain : Bool) → cond plain 0 12 ≡ first_spad (not plain)
start true = refl
start false = refl

pub loop_selects : (a b c d e f count aperture : ℕ)
    → enable_spads count aperture (a % 256 ∷ b % 256 ∷ c % 256 ∷ d % 256 ∷ e % 256 ∷ f % 256 ∷ [])
    ≡ selected (a ∷ b ∷ c ∷ d ∷ e ∷ f ∷ []) count (not (eqb aperture 0))
unfolding enable_spads selected
loop_selects a b c d e f count aperture =
    let m = a ∷ b ∷ c ∷ d ∷ e ∷ f ∷ [] in
    let l : length (map_bits m) ≡ 48 = length_map_bits m in
    rw (start, bytes_bits m)
    (simp (l, sub-zero) at (loop 6 0 (first_spad (not (eqb aperture 0))) 0 count [] (map_bits m) refl (omega arith) (omega arith)))
