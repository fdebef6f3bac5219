-- The detector map and its selection. SCOPE 3.2; lib.rs: init_hardware, the loop over 48 bits.
use Rattle.std.specs.Prelude.{Bool, true, false, cond, List, [], ◌∷◌, ◌++◌, ℕ, zero, suc, ◌+◌, ◌-◌, ◌*◌, ◌/◌, ◌%◌, ◌^◌, eqb, take, drop, get_or}
use Rattle.std.specs.Int.Count.{ones}
use Rattle.spad.specs.declared.Selection.{Selection}

-- SCOPE 3.2: detector i is bit i mod 8 of byte i / 8. A set bit is a good detector
abbrev pub is_good : List ℕ → ℕ → Bool
is_good m i = eqb (get_or m (i / 8) 0 / 2 ^ (i % 8) % 2) 1

-- the low n bits of b, the lowest first
unfoldable pub bits_of : ℕ → ℕ → List Bool
bits_of zero b = []
bits_of (suc n) b = eqb (b % 2) 1 ∷ bits_of n (b / 2)

-- the number whose bits these are, the lowest first
unfoldable pub byte_of : List Bool → ℕ
byte_of [] = 0
byte_of (x ∷ xs) = cond x 1 0 + 2 * byte_of xs

-- the map's bits in a row: the one at i is `is_good m i` (law `map_bit`)
unfoldable pub map_bits : List ℕ → List Bool
map_bits [] = []
map_bits (b ∷ bs) = bits_of 8 b ++ map_bits bs

-- n bytes of bits
unfoldable pub map_bytes : ℕ → List Bool → List ℕ
map_bytes zero l = []
map_bytes (suc n) l = byte_of (take 8 l) ∷ map_bytes n (drop 8 l)

-- SCOPE 3.2: with the aperture flag the selection starts at detector 12, else at 0
abbrev pub first_spad : Bool → ℕ
first_spad aperture = cond aperture 12 0

-- SCOPE 3.2: the first min(count, available) good detectors stay, every other bit is cleared, none is set.
-- The first `skip` bits are cleared; of the bits after them the first `wanted` good ones are kept
unfoldable pub keep : ℕ → ℕ → List Bool → List Bool
keep skip wanted [] = []
keep (suc skip) wanted (x ∷ xs) = false ∷ keep skip wanted xs
keep zero zero (x ∷ xs) = false ∷ keep zero zero xs
keep zero (suc wanted) (true ∷ xs) = true ∷ keep zero wanted xs
keep zero (suc wanted) (false ∷ xs) = false ∷ keep zero (suc wanted) xs

-- the new map
unfoldable pub selected : List ℕ → ℕ → Bool → List ℕ
selected m count aperture = map_bytes 6 (keep (first_spad aperture) count (map_bits m))

-- the count of ones in a map
unfoldable pub ones_in : List ℕ → ℕ
ones_in [] = 0
ones_in (b ∷ bs) = ones b + ones_in bs

-- SCOPE 3.2: the public function takes any byte as count by the same rule, and also gives the number kept,
-- which is the number of ones in the new map
abbrev pub select_spads : List ℕ → ℕ → Bool → Selection
select_spads m count aperture = record { map = selected m count aperture; kept = ones_in (selected m count aperture) }

-- how many bits are set
unfoldable pub trues : List Bool → ℕ
trues [] = 0
trues (x ∷ xs) = cond x 1 0 + trues xs

-- SCOPE 3.2, available: how many good detectors there are from the start on
abbrev pub available : List ℕ → Bool → ℕ
available m aperture = trues (drop (first_spad aperture) (map_bits m))

-- how many good detectors stand from the start on and before i
abbrev pub good_before : List ℕ → Bool → ℕ → ℕ
good_before m aperture i = trues (take (i - first_spad aperture) (drop (first_spad aperture) (map_bits m)))
