-- The two ends of a call: what its arguments decide, and how it ends after its last instruction.
use Rattle.std.specs.Prelude.{◌||◌, ℕ, ◌+◌, ◌*◌, ltb, Option, is_none, Result, Ok, Err, is_err}
use Rattle.session.specs.declared.Rules.{Rules}
use Rattle.session.specs.declared.Driver.{Driver}
use Rattle.session.specs.Instructions.{Context, Final, success, failure, Verdict, onward, stop, test, wrong_address, wrong_argument, declines}
use Rattle.session.specs.Calls.{program_of}
use Rattle.budget.specs.Budget.{too_short}
use Rattle.threshold.specs.declared.InvalidArgument.{InvalidArgument}
use Rattle.threshold.specs.Threshold.{decode_threshold}
use Rattle.programs.specs.declared.Finished.{Finished}
use Rattle.programs.specs.declared.RangeFailure.{RangeFailure}

-- a success: its value and the driver's fields
abbrev pub finishes : ℕ → Driver → Finished
finishes v d = record { value = v; driver = d }

-- a call ends in that, or in the failure code of its range read
abbrev pub Ended : Type 0
Ended = Result Finished RangeFailure

abbrev pub end_of : Final → Ended
end_of (success v d) = Ok (finishes v d)
end_of (failure e) = Err (record { 0 = e })

-- by a call's code: one for all rules (proofs/Unchanged of crate session), read off the current ones
unfoldable pub entry_of : ℕ → Context → Verdict
entry_of code = (program_of Rules.Current code).entry

unfoldable pub final_of : ℕ → Context → Final
final_of code = (program_of Rules.Current code).final

-- call 3's test, and call 9's
abbrev pub address_entry : ℕ → Verdict
address_entry a = test (ltb a 0x08 || ltb 0x77 a) (stop (wrong_address a)) onward

abbrev pub budget_entry : ℕ → Verdict
budget_entry budget = test (too_short budget) (stop declines) onward

-- call 10's, and call 14's
abbrev pub thresholds_entry : Result Unit InvalidArgument → Verdict
thresholds_entry check = test (is_err check) (stop wrong_argument) onward

abbrev pub rate_entry : Option ℕ → Verdict
rate_entry word = test (is_none word) (stop declines) onward

-- call 11's value
unfoldable pub thresholds_of : ℕ → ℕ → ℕ
thresholds_of low high = (decode_threshold (record { 0 = low })).0 * 65536 + (decode_threshold (record { 0 = high })).0
