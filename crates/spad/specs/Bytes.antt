-- The selection byte by byte: SCOPE 3.2, "Byte by byte".
use Rattle.std.specs.Prelude.{◌≡◌, Bool, List, ℕ, ◌+◌, ◌-◌, ◌*◌, ◌≤◌, ◌<◌, eqb, leb, get_or}
use Rattle.std.specs.Int.Count.{ones}
use Rattle.spad.specs.Map.{bits_of, byte_of, first_spad, keep, selected, good_before}

-- SCOPE 3.2: of the detectors of one byte the first `skip` are cleared; of those after them the first `wanted` good ones are kept
abbrev pub byte_kept : ℕ → ℕ → ℕ → ℕ
byte_kept skip wanted b = byte_of (keep skip wanted (bits_of 8 b))

-- SCOPE 3.2: any byte, and any count that is still wanted
pub record KeepsBytes (b wanted : ℕ) : Type 0 where
  -- where its first detector is at or past the start: it is left whole exactly when the count is at least its good ones,
  pub whole : eqb (byte_kept 0 wanted b) b ≡ leb (ones b) wanted
  -- and what is still wanted after it is the count less these
  pub left : wanted - ones (byte_kept 0 wanted b) ≡ wanted - ones b
  -- nothing is kept once the count has run out, nor before the start
  pub run_out : (skip : ℕ) → byte_kept skip 0 b ≡ 0
  pub before : (skip : ℕ) → 8 ≤ skip → byte_kept skip wanted b ≡ 0

-- SCOPE 3.2: single detectors matter. The start stands inside the byte and some are wanted, or the count runs out in it
pub record IsCut (b skip wanted : ℕ) : Type 0 where
  pub started : skip < 8
  pub some : 0 < wanted
  pub short : skip ≡ 0 → wanted < ones b

-- how many of a map's detectors stand between byte i and the start
abbrev pub skip_at : Bool → ℕ → ℕ
skip_at aperture i = first_spad aperture - 8 * i

-- how many good ones are still wanted at byte i
abbrev pub wanted_at : List ℕ → ℕ → Bool → ℕ → ℕ
wanted_at m count aperture i = count - good_before m aperture (8 * i)

-- byte i of a map, walked by itself
abbrev pub byte_kept_at : List ℕ → ℕ → Bool → ℕ → ℕ
byte_kept_at m count aperture i = byte_kept (skip_at aperture i) (wanted_at m count aperture i) (get_or m i 0)

abbrev pub IsCutAt : List ℕ → ℕ → Bool → ℕ → Type 0
IsCutAt m count aperture i = IsCut (get_or m i 0) (skip_at aperture i) (wanted_at m count aperture i)

-- SCOPE 3.2: the bytes of a map in a row
pub record SelectsBytes (m : List ℕ) (count : ℕ) (aperture : Bool) : Type 0 where
  -- each byte of the selection is its own walk
  pub each : (i : ℕ) → i < 6 → get_or (selected m count aperture) i 0 ≡ byte_kept_at m count aperture i
  -- after it the count is less by what was kept of it
  pub next : (i : ℕ) → i < 6 → wanted_at m count aperture (i + 1) ≡ wanted_at m count aperture i - ones (byte_kept_at m count aperture i)
  -- once the count has run out every byte is cleared
  pub cleared : (i j : ℕ) → i ≤ j → j < 6 → wanted_at m count aperture i ≡ 0 → get_or (selected m count aperture) j 0 ≡ 0
  -- and after two bytes that are cut it has
  pub two : (i j k : ℕ) → i < j → j < k → k < 6 → IsCutAt m count aperture i → IsCutAt m count aperture j → wanted_at m count aperture k ≡ 0
