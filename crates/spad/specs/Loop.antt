-- The Rust's loop over the 48 bits of the detector map, step by step. `selected` of Map.antt is what it leaves (law `loop_selects`).
use Rattle.std.specs.Prelude.{Bool, true, false, cond, ◌||◌, List, ℕ, zero, suc, ◌+◌, ◌-◌, ◌/◌, ◌%◌, ◌^◌, eqb, ltb, get_or, set}
use Rattle.std.specs.Int.Bits.{bit_and}

-- lib.rs, init_hardware, 466: `ref_spad_map[i / 8] &= !(1 << (i % 8))`
unfoldable pub clear_spad : ℕ → List ℕ → List ℕ
clear_spad i ref_spad_map = set ref_spad_map (i / 8) (bit_and (get_or ref_spad_map (i / 8) 0) (255 - 2 ^ (i % 8)))

-- lib.rs, init_hardware, 467: `(ref_spad_map[i / 8] >> (i % 8)) & 0x1 > 0`
unfoldable pub spad_is_set : ℕ → List ℕ → Bool
spad_is_set i ref_spad_map = ltb 0 (bit_and (get_or ref_spad_map (i / 8) 0 / 2 ^ (i % 8)) 1)

-- lib.rs, init_hardware, 463 to 470: the loop's body at i, and the rounds after it
unfoldable pub enable_loop : ℕ → ℕ → ℕ → ℕ → ℕ → List ℕ → List ℕ
enable_loop zero i first_spad_to_enable spads_enabled spad_count ref_spad_map = ref_spad_map
enable_loop (suc rounds) i first_spad_to_enable spads_enabled spad_count ref_spad_map =
    elim (ltb i first_spad_to_enable || eqb spads_enabled spad_count) [
      | true ↦ enable_loop rounds (i + 1) first_spad_to_enable spads_enabled spad_count (clear_spad i ref_spad_map)
      | false ↦ elim (spad_is_set i ref_spad_map) [
        | true ↦ enable_loop rounds (i + 1) first_spad_to_enable (spads_enabled + 1) spad_count ref_spad_map
        | false ↦ enable_loop rounds (i + 1) first_spad_to_enable spads_enabled spad_count ref_spad_map
      ]
    ]

-- lib.rs, init_hardware, 459 to 470: `if spad_type_is_aperture != 0 { 12 } else { 0 }`, and `for i in 0..48`
unfoldable pub enable_spads : ℕ → ℕ → List ℕ → List ℕ
enable_spads spad_count spad_type_is_aperture ref_spad_map =
    enable_loop 48 0 (cond (eqb spad_type_is_aperture 0) 0 12) 0 spad_count ref_spad_map
