-- The values of Bench (SCOPE 11.1), computed from the definitions.
use borrow.Author.Rules.{rules as author}
use mathlib.Core.Path.{◌≡◌, refl}
use Prim.Native.Nat.{ℕ, ◌+◌, ◌*◌, ◌/◌, ◌%◌, ◌<◌}
use native.Mathlib.Omega.{arith}
use borrow.Author.Tests.{ne_eqb}
use mathlib.Core.List.{List, [], ◌∷◌, ◌++◌}
use lib.Ieee.{span, climb, size, odd, units, round, lt, eq, le, of_fields, of_bits, to_bits}
use Rattle.rate.specs.Rate.{literal, in_range, rate_of, signal_rate_limit_word, signal_rate_limit_bits}
use Rattle.budget.specs.Budget.{measurement_timing_budget}
use Rattle.budget.specs.Sums.{dss_or_msrc, step_sum, budget_sum}
use Rattle.timing.specs.Places.{timeout_place, period_place, less_place, entries_of, first_match, first_place}
use Rattle.timing.specs.Timeouts.{timeout_clocks, period_clocks, pre_share, final_clocks, msrc_clocks, msrc_time, pre_time, final_time}
use Rattle.clock.specs.Clock.{decoded_timeout, decoded_vcsel_period, microseconds_of}
use Rattle.session.specs.declared.Rules.{Rules}
use Rattle.session.specs.Bus.{Driver}
use Rattle.session.specs.Calls.{tuning, programs, program_of, default_address, top_code, ceiling_of, arguments_ok}
use Rattle.session.specs.Machine.{arrive, stray, malformed, reply_def, begin_def, other_def}
use Rattle.session.specs.Records.{call, reply, other, call_bytes, reply_bytes, records_of}
use Rattle.session.specs.RustBringUp.{new, calls}
use Rattle.session.specs.LaterCalls.{rust}
use Rattle.session.specs.History.{step_def, run_from, run_records, run_def}
use Rattle.session.specs.Bench.{AnswerValues, CarriedPlaces, HeldValues, FirstValues, CurrentValues, EdgeValues, SessionValues}

answer_values : AnswerValues
answer_values = record {
  done = λ v. record { number = refl; values = refl };
  false = record { number = refl; values = refl };
  device = λ b. record { number = refl; values = refl };
  bus = λ e. record { number = refl; values = refl };
  timeout = record { number = refl; values = refl };
  address = λ a. record { number = refl; values = refl };
  argument = record { number = refl; values = refl };
  block = record { number = refl; values = refl };
  panic = λ p. record { number = refl; values = refl };
  while_not_up = record { number = refl; values = refl };
  call_waits = record { number = refl; values = refl };
  no_call_waits = record { number = refl; values = refl };
  stray_byte = record { number = refl; values = refl };
  ill_formed_record = record { number = refl; values = refl };
  spare_bytes = record { number = refl; values = refl };
  ill_formed_session = record { number = refl; values = refl };
}

-- by each of the rules, since what they change is computed for one of them at a time
carried_places : (rules : Rules) → CarriedPlaces rules
unfolding reply_def malformed stray arrive program_of programs top_code tuning arguments_ok ceiling_of decoded_timeout decoded_vcsel_period microseconds_of timeout_clocks period_clocks pre_share final_clocks msrc_clocks msrc_time pre_time final_time timeout_place period_place less_place entries_of first_match first_place dss_or_msrc step_sum budget_sum measurement_timing_budget
carried_places Rules.First = search author
carried_places Rules.Current = search author

held_values : (rules : Rules) → HeldValues rules
unfolding reply_def malformed stray arrive program_of programs top_code tuning arguments_ok ceiling_of
held_values Rules.First = search author
held_values Rules.Current = search author

pub first_values : FirstValues
unfolding step_def begin_def reply_def malformed stray arrive program_of programs top_code tuning arguments_ok ceiling_of
first_values = record { codes = refl; ceilings = refl; at_ceiling = refl; over_ceiling = refl; past_the_last = refl }

pub current_values : CurrentValues
unfolding step_def begin_def reply_def malformed stray arrive program_of programs top_code tuning arguments_ok ceiling_of signal_rate_limit_bits literal round units odd size climb span to_bits
current_values = record {
  codes = refl;
  ceilings = refl;
  unused = refl;
  at_ceiling = refl;
  over_ceiling = refl;
  past_the_last = refl;
  while_not_up = refl;
  limit = refl;
  failed = refl;
  third_byte = refl;
  over_its_ceiling = refl;
}

edge_values : (rules : Rules) → EdgeValues rules
unfolding step_def begin_def malformed arrive program_of programs top_code tuning arguments_ok ceiling_of signal_rate_limit_word rate_of in_range literal round units odd size climb span of_bits of_fields le lt eq
edge_values Rules.First = search author
edge_values Rules.Current = search author

pub session_values : (rules : Rules) → SessionValues rules
unfolding run_def run_records records_of run_from step_def begin_def reply_def other_def malformed stray arrive program_of programs top_code tuning arguments_ok ceiling_of
session_values Rules.First = search (author, answer_values, carried_places, held_values, edge_values)
session_values Rules.Current = search (author, answer_values, carried_places, held_values, edge_values)

-- a record's bytes are read back, and no other kind is a call or a reply
pub call_read : (code a b : ℕ) (l : List ℕ) → a < 4294967296 → b < 65536 → records_of (call_bytes code a b ++ l) ≡ call code a b ∷ records_of l
unfolding records_of
call_read code a b l h k =
    let p₁ : a / 256 * 256 + a % 256 ≡ a = omega arith in
    let p₂ : a / 65536 * 256 + a / 256 % 256 ≡ a / 256 = omega arith in
    let p₃ : a / 16777216 * 256 + a / 65536 % 256 ≡ a / 65536 = omega arith in
    let p₄ : a / 16777216 % 256 ≡ a / 16777216 = omega arith in
    let p : a / 16777216 % 256 * 16777216 + a / 65536 % 256 * 65536 + a / 256 % 256 * 256 + a % 256 ≡ a = omega (arith, p₁, p₂, p₃, p₄) in
    let q : b / 256 % 256 * 256 + b % 256 ≡ b = omega arith in
    rw (p, q)

pub reply_read : (f b₀ b₁ b₂ b₃ b₄ b₅ : ℕ) (l : List ℕ)
    → records_of (reply_bytes f (b₀ ∷ b₁ ∷ b₂ ∷ b₃ ∷ b₄ ∷ b₅ ∷ []) ++ l) ≡ reply f (b₀ ∷ b₁ ∷ b₂ ∷ b₃ ∷ b₄ ∷ b₅ ∷ []) ∷ records_of l
unfolding records_of
reply_read f b₀ b₁ b₂ b₃ b₄ b₅ l = refl

pub no_kind : (k x b₂ b₃ b₄ b₅ b₆ b₇ : ℕ) (l : List ℕ) → (k ≡ 1 → ⊥) → (k ≡ 2 → ⊥) → records_of (k ∷ x ∷ b₂ ∷ b₃ ∷ b₄ ∷ b₅ ∷ b₆ ∷ b₇ ∷ l) ≡ other ∷ records_of l
unfolding records_of
no_kind k x b₂ b₃ b₄ b₅ b₆ b₇ l h₁ h₂ = rw (ne_eqb k 1 h₁, ne_eqb k 2 h₂)

-- `new` is call 1 at the default address
pub new_is_call_1 : (rules : Rules) (d : Driver) → rust rules d 1 default_address 0 ≡ new rules
unfolding rust calls
new_is_call_1 rules d = refl
