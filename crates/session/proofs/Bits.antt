-- The Rust's masks are rests of divisions, and the bit by bit operations of the leaves.
use mathlib.Core.Path.{◌≡◌, refl, sym, ap, ◌∙◌, fun_ext}
use mathlib.Core.Bool.{not}
use Prim.Native.Nat.{ℕ, zero, suc, ◌*◌, ◌/◌, ◌%◌, ◌^◌}
use lib.Dec.{eqb, ltb, leb-zero, leb-suc-suc, eqb-suc-zero}
use Rattle.spad.specs.Masks.{or_byte, and_byte}
use Rattle.spad.proofs.Masks.{or_is as or_byte_is, and_is as and_byte_is, and_1, and_7, and_7f, and_0fff}
use Rattle.threshold.specs.Threshold.{encode_threshold, decode_threshold}
use Rattle.session.specs.RustClocks.{or_u8, and_u8, no_interrupt, start_bit, spad_count, type_is_aperture, threshold_raw, threshold_mm}
use Rattle.session.specs.RustCalls.{bit_on}

pub or_is : or_u8 ≡ or_byte
unfolding or_u8
or_is = fun_ext (λ x. fun_ext (λ m. sym (or_byte_is x m)))

pub and_is : and_u8 ≡ and_byte
unfolding and_u8
and_is = fun_ext (λ x. fun_ext (λ m. sym (and_byte_is x m)))

pub no_interrupt_is : no_interrupt ≡ (λ r. eqb (r % 8) 0)
unfolding no_interrupt
no_interrupt_is = fun_ext (λ r. ap (λ (n : ℕ). eqb n 0) (and_7 r))

above_zero : (n : ℕ) → ltb 0 n ≡ not (eqb n 0)
above_zero zero = refl
above_zero (suc n) = rw (leb-suc-suc 0 n, leb-zero n, eqb-suc-zero n)

pub start_bit_is : start_bit ≡ (λ r. not (eqb (r % 2) 0))
unfolding start_bit
start_bit_is = fun_ext (λ r. ap (ltb 0) (and_1 r) ∙ above_zero (r % 2))

pub spad_count_is : spad_count ≡ (λ t. t % 128)
unfolding spad_count
spad_count_is = fun_ext (λ t. and_7f t)

pub aperture_is : type_is_aperture ≡ (λ t. t / 128 % 2)
unfolding type_is_aperture
aperture_is = fun_ext (λ t. and_1 (t / 128))

pub raw_is : threshold_raw ≡ (λ mm. (encode_threshold (record { 0 = mm })).0)
unfolding threshold_raw
raw_is = fun_ext (λ mm. and_0fff (mm / 2))

pub mm_is : threshold_mm ≡ (λ raw. (decode_threshold (record { 0 = raw })).0)
unfolding threshold_mm
mm_is = fun_ext (λ raw. ap (λ (n : ℕ). n * 2) (and_0fff raw))

pub bit_on_is : bit_on ≡ (λ k b. eqb (b / 2 ^ k % 2) 1)
unfolding bit_on
bit_on_is = fun_ext (λ k. fun_ext (λ b. ap (λ (n : ℕ). eqb n 1) (and_1 (b / 2 ^ k))))
