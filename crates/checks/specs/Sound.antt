-- What the code knows of a session that has passed the test of answer 15.
use Rattle.std.specs.Prelude.{Bool, not, ◌&&◌, ◌||◌, List, ℕ, ◌≤◌, eqb, ltb, leb, drop}
use Rattle.session.specs.declared.Rules.{Rules}
use Rattle.session.specs.declared.Session.{Session}
use Rattle.session.specs.Bus.{clean_from, wait_limit}
use Rattle.session.specs.Calls.{arguments_ok, ceiling_of}
use Rattle.session.specs.Machine.{all_zero, up_wrong, waits_now}
use Rattle.session.specs.Steps.{op_of}
use Rattle.calls.specs.Calls.{instruction_at, steps_in}
use Rattle.shapes.specs.Shapes.{shape_of}
use Rattle.shapes.specs.declared.Kind.{Kind}

-- one transfer more can be counted
pub record Sound (s : Session) : Type 0 where
  pub transfers : s.transfers ≤ 4294967294

-- idle reads: below the limit in a wait, none outside
unfoldable pub idle_bad : ℕ → Kind → ℕ → Bool
idle_bad code Kind.Write idle = not (eqb idle 0)
idle_bad code Kind.Read idle = not (eqb idle 0)
idle_bad code (Kind.Wait x) idle = leb (wait_limit code x) idle
idle_bad code Kind.Range idle = not (eqb idle 0)

-- the kind of the instruction that a session stands at
abbrev pub kind_at : Rules → Session → Kind
kind_at rules s = (shape_of (op_of (instruction_at rules s.code s.step))).kind

-- a step that is not of its call, or too many idle reads for an instruction of a kind
unfoldable pub idle_at_step : ℕ → ℕ → Kind → ℕ → Bool
idle_at_step code step kind idle = leb (steps_in code) step || idle_bad code kind idle

-- answer 15 (SCOPE 9.2), where a session stands at an instruction of a kind
unfoldable pub malformed_at : Rules → Kind → Session → Bool
malformed_at rules kind s =
    not (arguments_ok rules s.code s.a s.b)
    || up_wrong s.code s.driver.up
    || idle_at_step s.code s.step kind s.idle
    || eqb s.transfers 0
    || ltb (ceiling_of rules s.code) s.transfers

abbrev pub ill_formed_at : Rules → Kind → Session → Bool
ill_formed_at rules kind s = waits_now s && malformed_at rules kind s

-- a byte past those read, or any byte beside a failure
unfoldable pub stray_in : ℕ → ℕ → List ℕ → Bool
stray_in reads f bs = not (all_zero (drop (clean_from f reads) bs))
