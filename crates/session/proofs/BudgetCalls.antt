-- The two budget calls of the Rust: the six reads, then the leaf's budget, or the leaf's word after the tests of its places.
use mathlib.Core.Path.{◌≡◌, refl, ap, ◌∙◌, fun_ext}
use mathlib.Core.Bool.{Bool, true, false, cond}
use Prim.Native.Nat.{ℕ, ◌+◌, ◌*◌, ◌-◌, ◌/◌, ◌%◌, ◌<◌}
use native.Mathlib.Omega.{arith}
use native.Mathlib.Nat.{add-zero}
use lib.Dec.{eqb, ltb}
use borrow.Author.Tests.{ltb-false, le-ltb}
use Rattle.clock.specs.Clock.{mclks_of}
use Rattle.timing.specs.declared.TimingRegisters.{TimingRegisters}
use Rattle.std.specs.Prelude.{None}
use Rattle.timing.specs.Registers.{sequence_step_enables, when_on}
use Rattle.timing.specs.Timeouts.{time_in, timeout_clocks, pre_share}
use Rattle.timing.specs.Places.{first_place}
use Rattle.budget.specs.Sums.{budget_sum, used_sum}
use Rattle.budget.specs.Budget.{measurement_timing_budget, word_of_sum, word_within, final_range_word}
use Rattle.session.specs.declared.Rules.{Rules}
use Rattle.session.specs.Bus.{Answer}
use Rattle.session.specs.Rules.{dss_term_of}
use Rattle.session.specs.Steps.{word_in}
use Rattle.session.specs.RustFn.{ok, err, Fn, ◌>>=◌, ◌>>◌, Ok, panic, if, set_self_budget, write_16bit}
use Rattle.session.specs.RustClocks.{over_u32, encode_timeout, calc_macro_period, timeout_microseconds_to_mclks, add_if}
use Rattle.session.specs.RustCalls.{Enables, Timeouts, budget_microseconds, use_budget_microseconds, get_measurement_timing_budget, set_budget_from_reads, set_measurement_timing_budget}
use Rattle.session.proofs.Once.{final_macro, spare_sum, total_clocks}
use Rattle.session.proofs.Formulas.{either_over}
use Rattle.session.proofs.Bits.{bit_on_is}
use Rattle.session.proofs.Encoding.{encode_is}
use Rattle.session.proofs.BudgetSums.{budget_is, used_is}
use Rattle.session.proofs.SixReads.{six, enables_in, timeouts_in, reads_are, cond_both, six_same}

-- ---- the Rust's sums over the six replies
pub budget_of : (r : TimingRegisters) → budget_microseconds (enables_in r) (timeouts_in r) ≡ (budget_sum r).0
unfolding budget_sum
budget_of r = rw (budget_is, bit_on_is)

pub used_of : (rules : Rules) (r : TimingRegisters) → use_budget_microseconds rules (enables_in r) (timeouts_in r) ≡ (used_sum r (dss_term_of rules)).0
unfolding used_sum
used_of rules r = rw (used_is rules, bit_on_is)

-- ---- call 15
pub get_is : get_measurement_timing_budget ≡ six {A = ℕ} (λ r. Ok (time_in (measurement_timing_budget r)).0)
unfolding get_measurement_timing_budget measurement_timing_budget
get_is =
    reads_are (λ e t. Ok (budget_microseconds e t))
    ∙ six_same (λ r. Ok (budget_microseconds (enables_in r) (timeouts_in r))) (λ r. Ok (time_in (measurement_timing_budget r)).0)
    (λ r h. rw (h, budget_of r))

abbrev pub write_final : Rules → TimingRegisters → ℕ → Fn Bool
write_final rules r budget = do
  write_16bit 0x71 (word_in (final_range_word r (record { 0 = budget }) (dss_term_of rules)))
  set_self_budget budget
  Ok true

abbrev pub tested : Rules → TimingRegisters → ℕ → Fn Bool
tested rules r budget chip ret =
    cond (ltb budget (used_sum r (dss_term_of rules)).0) (ret (ok false) chip)
    (cond (ltb 4294967295 (spare_sum (dss_term_of rules) r budget)) (ret (err (Answer.Panic 7)) chip)
    (cond (eqb (final_macro r) 0) (ret (err (Answer.Panic 8)) chip)
    (cond (ltb 65535 (total_clocks (dss_term_of rules) r budget)) (ret (err (Answer.Panic 9)) chip)
    (write_final rules r budget chip ret))))

-- once the tests are passed
final_word : (rules : Rules) (r : TimingRegisters) (budget : ℕ)
    → first_place r 6 ≡ None
    → ltb budget (used_sum r (dss_term_of rules)).0 ≡ false
    → ltb 4294967295 (spare_sum (dss_term_of rules) r budget) ≡ false
    → eqb (final_macro r) 0 ≡ false
    → ltb 65535 (total_clocks (dss_term_of rules) r budget) ≡ false
    → encode_timeout (total_clocks (dss_term_of rules) r budget) ≡ word_in (final_range_word r (record { 0 = budget }) (dss_term_of rules))
unfolding final_range_word word_within mclks_of word_of_sum
final_word rules r budget h e₁ e₂ e₃ e₄ = rw (h, e₁, e₂, e₃, e₄) (encode_is (total_clocks (dss_term_of rules) r budget) (omega (arith, ltb-false 65535 (total_clocks (dss_term_of rules) r budget) e₄)))

-- the product is at most the sum, so one test serves both
clocks_is : timeout_microseconds_to_mclks
    ≡ (λ us p.
    let macro = calc_macro_period p in
    if (over_u32 (us * 1000 + macro / 2)) (panic 7) (if (eqb macro 0) (panic 8) (Ok ((us * 1000 + macro / 2) / macro))))
unfolding timeout_microseconds_to_mclks
clocks_is = fun_ext (λ us. fun_ext (λ p. rw (either_over (us * 1000) (calc_macro_period p / 2))))

-- 16 bits and nothing added are no more than 16 bits
add_is : (on : Bool) (x y : ℕ) → x < 65536 → add_if on x y ≡ if (ltb 65535 (x + when_on on y)) (panic 9) (Ok (x + when_on on y))
unfolding add_if
add_is true x y h = refl
add_is false x y h = rw (add-zero x, le-ltb 65535 x (omega arith))

-- set_measurement_timing_budget after its reads
abbrev set_rest : Rules → ℕ → Enables → Timeouts → Fn Bool
set_rest rules budget enables timeouts =
    if (ltb budget (use_budget_microseconds rules enables timeouts))
    (Ok false)
    (do
      clocks ← timeout_microseconds_to_mclks (budget - use_budget_microseconds rules enables timeouts) timeouts.final_range_vcsel_period_pclks
      total ← add_if enables.pre_range (clocks % 65536) timeouts.pre_range_mclks
      write_16bit 0x71 (encode_timeout total)
      set_self_budget budget
      Ok true)

tests_are : (rules : Rules) (r : TimingRegisters) (budget : ℕ) → first_place r 6 ≡ None → set_rest rules budget (enables_in r) (timeouts_in r) ≡ tested rules r budget
unfolding pre_share
tests_are rules r budget h = fun_ext (λ chip. fun_ext (λ ret.
    rw (used_of rules r, clocks_is, bit_on_is)
    (cond_both (ltb budget (used_sum r (dss_term_of rules)).0) (λ e. refl)
    (λ e₁. cond_both (ltb 4294967295 (spare_sum (dss_term_of rules) r budget)) (λ e. refl)
    (λ e₂. cond_both (eqb (final_macro r) 0) (λ e. refl)
    (λ e₃.
    let n = spare_sum (dss_term_of rules) r budget / final_macro r % 65536 in
    rw (add_is (sequence_step_enables r.sequence).prerange n (timeout_clocks r.pretimeout).0 (omega arith))
    (cond_both (ltb 65535 (total_clocks (dss_term_of rules) r budget)) (λ e. refl)
    (λ e₄. rw (final_word rules r budget h e₁ e₂ e₃ e₄)))))))))

pub rest_is : (rules : Rules) → set_budget_from_reads rules ≡ (λ budget. six (λ r. tested rules r budget))
rest_is rules = fun_ext (λ budget.
    reads_are (set_rest rules budget)
    ∙ six_same (λ r. set_rest rules budget (enables_in r) (timeouts_in r)) (λ r. tested rules r budget) (λ r h. tests_are rules r budget h))

pub set_is : (rules : Rules) → set_measurement_timing_budget rules ≡ (λ budget. if (ltb budget 20000) (Ok false) (six (λ r. tested rules r budget)))
unfolding set_measurement_timing_budget
set_is rules = fun_ext (λ budget. ap (λ f. if (ltb budget 20000) (Ok false) (f budget)) (rest_is rules))
