-- What the code needs of an instruction, as plain data: its shape, what is kept of its reply, and what a good reply decides.
-- Each is read off the session's definition of the instruction, `op_of`.
use Rattle.std.specs.Prelude.{Bool, true, false, ◌&&◌, cond, List, ℕ, ◌+◌, eqb}
use Rattle.session.specs.declared.Session.{Session}
use Rattle.session.specs.declared.Setting.{Setting}
use Rattle.session.specs.Bus.{wait_register}
use Rattle.session.specs.Instructions.{Context, stop_answer, Verdict as Rule, onward, leap, stop, test, Op, write, read, wait, range, timing_slot, budget_in, put, bytes_from}
use Rattle.session.specs.Steps.{over_last, timing_register, timing_length, timing_place}
use Rattle.session.specs.Machine.{with_kept}
use Rattle.shapes.specs.declared.Kind.{Kind}
use Rattle.shapes.specs.declared.Shape.{Shape}
use Rattle.shapes.specs.declared.instructions.TimingRead.{TimingRead}
use Rattle.shapes.specs.declared.Verdict.{Verdict}

abbrev pub writing : ℕ → ℕ → ℕ → Shape
writing reg n over = record { kind = Kind.Write; register = reg; reads = n; slot = 0; finds = false; over = over }

abbrev pub reading : ℕ → ℕ → ℕ → Shape
reading reg n slot = record { kind = Kind.Read; register = reg; reads = n; slot = slot; finds = false; over = 0 }

abbrev pub ranging : ℕ → ℕ → ℕ → ℕ → Shape
ranging reg n slot over = record { kind = Kind.Range; register = reg; reads = n; slot = slot; finds = false; over = over }

-- the last budget read before a word is written, with what is left out where no time is left
abbrev pub last_reading : ℕ → Setting → Shape
last_reading k x = record { kind = Kind.Read; register = 0x70; reads = 1; slot = k + 7; finds = false; over = over_last x }

-- SCOPE 5.3: the budget reads by number: register, length and place of each
unfoldable pub timing_read : ℕ → TimingRead
timing_read n = record { register = timing_register n; length = timing_length n; place = timing_place n }

unfoldable pub shape_of : Op → Shape
shape_of (write reg bytes n over after) = writing reg n over
shape_of (read reg n slot finds over after) = record { kind = Kind.Read; register = reg; reads = n; slot = slot; finds = finds; over = over }
shape_of (wait x) = record { kind = Kind.Wait x; register = wait_register x; reads = 1; slot = 0; finds = false; over = 0 }
shape_of (range reg n slot over) = ranging reg n slot over

-- what a good reply decides; a read of a wait and a range read go on
abbrev pub verdict_of : Op → Context → Rule
verdict_of (write reg bytes n over after) c = after c
verdict_of (read reg n slot finds over after) c = after c
verdict_of (wait x) c = onward
verdict_of (range reg n slot over) c = onward

-- with its tests made: the code's verdict has none
unfoldable pub settled : Rule → Verdict
settled onward = Verdict.Onward
settled leap = Verdict.Leap
settled (stop x) = Verdict.Stop (stop_answer x)
settled (test b v w) = cond b (settled v) (settled w)

-- WHAT IS KEPT OF A REPLY. Is anything kept?
unfoldable pub keeps : Kind → Bool
keeps Kind.Write = false
keeps Kind.Read = true
keeps (Kind.Wait x) = false
keeps Kind.Range = true

-- the failure code of a range read, or that it had none
unfoldable pub failure_kept : Kind → ℕ → ℕ → ℕ
failure_kept Kind.Write f failed = failed
failure_kept Kind.Read f failed = failed
failure_kept (Kind.Wait x) f failed = failed
failure_kept Kind.Range f failed = f

-- the bytes of a good reply
abbrev pub bytes_kept : Shape → ℕ → List ℕ → List ℕ → List ℕ
bytes_kept x f carried bs = cond (eqb f 0) (put carried x.slot (bytes_from 0 x.reads bs)) carried

-- the budget, where the bytes have been kept
abbrev pub budget_kept : Shape → ℕ → List ℕ → ℕ → ℕ
budget_kept x f carried found_budget = cond (x.finds && eqb f 0) (budget_in timing_slot carried) found_budget

unfoldable pub kept_by : Shape → Session → ℕ → List ℕ → Session
kept_by x s f bs =
    cond (keeps x.kind)
    (with_kept (failure_kept x.kind f s.failed) (budget_kept x f (bytes_kept x f s.carried bs) s.found_budget) (bytes_kept x f s.carried bs) s)
    s
