-- The six budget reads of the Rust, with the leaf's places in between. What follows them may take it that no place is left.
use mathlib.Core.Path.{◌≡◌, refl, ap, fun_ext}
use mathlib.Core.Bool.{Bool, true, false, cond}
use Prim.Native.Nat.{ℕ}
use Rattle.timing.specs.declared.TimingRegisters.{TimingRegisters}
use Rattle.std.specs.Prelude.{Option, None, is_none}
use Rattle.std.specs.Result.{result_err}
use Rattle.clock.specs.declared.Place.{Place}
use Rattle.timing.specs.Registers.{sequence_step_enables}
use Rattle.timing.specs.Timeouts.{time_in, timeout_clocks, period_clocks, pre_share, final_clocks, msrc_clocks, msrc_time, pre_time, final_time}
use Rattle.timing.specs.Places.{timeout_place, period_place, less_place, msrc_place, entries_of, first_match, first_place}
use Rattle.session.specs.RustFn.{Fn, ◌>>=◌, ◌>>◌, read_register, read_16bit}
use Rattle.session.specs.RustCalls.{Enables, enables_of, Timeouts, get_sequence_step_enables, get_sequence_step_timeouts}
use Rattle.session.proofs.Bits.{bit_on_is}
use Rattle.session.proofs.Once.{none_is}
use Rattle.session.proofs.Formulas.{less_by, placed, decode_is, vcsel_is, plus_is, subtract_is, micros_is}

-- the reads, each with the places that its reply shows, then k with the registers read
abbrev pub six : {A : Type 0} → (TimingRegisters → Fn A) → Fn A
six k = do
  sequence ← read_register 0x01
  pretimeout ← read_16bit 0x51
  placed (timeout_place pretimeout) 0
  finaltimeout ← read_16bit 0x71
  placed (timeout_place finaltimeout) 0
  placed (less_by (sequence_step_enables sequence).prerange (timeout_clocks finaltimeout).0 (timeout_clocks pretimeout).0) 0
  preperiod ← read_register 0x50
  placed (period_place preperiod) 0
  msrctimeout ← read_register 0x46
  placed (msrc_place msrctimeout) 0
  finalperiod ← read_register 0x70
  placed (period_place finalperiod) 0
  let r : TimingRegisters = record {
    sequence = sequence;
    pretimeout = pretimeout;
    finaltimeout = finaltimeout;
    preperiod = preperiod;
    msrctimeout = msrctimeout;
    finalperiod = finalperiod;
  }
  placed (result_err (msrc_time r)) 0
  placed (result_err (pre_time r)) 0
  placed (result_err (final_time r)) 0
  k r

-- ---- what the Rust makes of the six replies
abbrev pub enables_in : TimingRegisters → Enables
enables_in r = enables_of r.sequence

abbrev pub timeouts_in : TimingRegisters → Timeouts
timeouts_in r =
    record {
      pre_range_mclks = (timeout_clocks r.pretimeout).0;
      final_range_vcsel_period_pclks = (period_clocks r.finalperiod).0;
      msrc_dss_tcc_microseconds = (time_in (msrc_time r)).0;
      pre_range_microseconds = (time_in (pre_time r)).0;
      final_range_microseconds = (time_in (final_time r)).0;
    }

pub reads_are : {A : Type 0} (k : Enables → Timeouts → Fn A)
    → (do
      enables ← get_sequence_step_enables
      timeouts ← get_sequence_step_timeouts enables
      k enables timeouts)
    ≡ six (λ r. k (enables_in r) (timeouts_in r))
unfolding msrc_time pre_time final_time msrc_clocks final_clocks pre_share
reads_are k = rw (decode_is, vcsel_is, plus_is, subtract_is, micros_is, bit_on_is)

-- ---- after the reads no place is left
pub cond_both : {A : Type 0} (b : Bool) {x x' y y' : A} → (b ≡ true → x ≡ x') → (b ≡ false → y ≡ y') → cond b x y ≡ cond b x' y'
cond_both true f g = f refl
cond_both false f g = g refl

pub then_same : {A B : Type 0} (m : Fn A) {f f' : A → Fn B} → ((a : A) → f a ≡ f' a) → (m >>= f) ≡ (m >>= f')
then_same m h = ap (λ g. m >>= g) (fun_ext h)

pub placed_same : {A : Type 0} (p : Option Place) (x : ℕ) {m m' : Fn A} → (is_none p ≡ true → m ≡ m') → (placed p x >> m) ≡ (placed p x >> m')
placed_same p x h = fun_ext (λ chip. fun_ext (λ ret. cond_both (is_none p) (λ e. ap (λ n. n chip ret) (h e)) (λ e. refl)))

all_clear : (r : TimingRegisters)
    → is_none (timeout_place r.pretimeout) ≡ true
    → is_none (timeout_place r.finaltimeout) ≡ true
    → is_none (less_place r) ≡ true
    → is_none (period_place r.preperiod) ≡ true
    → is_none (msrc_place r.msrctimeout) ≡ true
    → is_none (period_place r.finalperiod) ≡ true
    → is_none (result_err (msrc_time r)) ≡ true
    → is_none (result_err (pre_time r)) ≡ true
    → is_none (result_err (final_time r)) ≡ true
    → first_place r 6 ≡ None
unfolding first_place entries_of first_match
all_clear r e₁ e₂ e₃ e₄ e₅ e₆ e₇ e₈ e₉ = rw (none_is _ e₁, none_is _ e₂, none_is _ e₃, none_is _ e₄, none_is _ e₅, none_is _ e₆, none_is _ e₇, none_is _ e₈, none_is _ e₉)

pub six_same : {A : Type 0} (k k' : TimingRegisters → Fn A) → ((r : TimingRegisters) → first_place r 6 ≡ None → k r ≡ k' r) → six k ≡ six k'
unfolding less_place
six_same k k' h =
    then_same (read_register 0x01) (λ s. then_same (read_16bit 0x51) (λ w. placed_same (timeout_place w) 0 (λ e₁.
    then_same (read_16bit 0x71) (λ v. placed_same (timeout_place v) 0 (λ e₂. placed_same (less_by (sequence_step_enables s).prerange (timeout_clocks v).0 (timeout_clocks w).0) 0 (λ e₃.
    then_same (read_register 0x50) (λ p. placed_same (period_place p) 0 (λ e₄.
    then_same (read_register 0x46) (λ m. placed_same (msrc_place m) 0 (λ e₅.
    then_same (read_register 0x70) (λ f. placed_same (period_place f) 0 (λ e₆.
    let r : TimingRegisters = record { sequence = s; pretimeout = w; finaltimeout = v; preperiod = p; msrctimeout = m; finalperiod = f } in
    placed_same (result_err (msrc_time r)) 0 (λ e₇. placed_same (result_err (pre_time r)) 0 (λ e₈. placed_same (result_err (final_time r)) 0 (λ e₉.
    h r (all_clear r e₁ e₂ e₃ e₄ e₅ e₆ e₇ e₈ e₉))))))))))))))))
