-- Where a record takes a session, in four steps over the plain data of the instruction that it stands at: what is kept of a reply (crate shapes),
-- the move that it makes, the action that this comes to, and the outcome. That this is the machine's `react` is proved.
-- A decision is a move with its session and its rules.
use Rattle.std.specs.Prelude.{Bool, true, false, cond, ◌≡◌, List, ℕ, suc, ◌+◌, eqb, ltb, Ok, Err}
use Rattle.session.specs.declared.Rules.{Rules}
use Rattle.session.specs.declared.Session.{Session}
use Rattle.session.specs.declared.Answer.{Answer}
use Rattle.session.specs.declared.Instruction.{Instruction}
use Rattle.session.specs.Bus.{wait_limit, idle_on}
use Rattle.session.specs.Instructions.{Op, send_of, read_wins, report_of}
use Rattle.session.specs.Steps.{op_of}
use Rattle.session.specs.Machine.{Outcome as Result, sent, refused, broken, context_of, sending, answering, giving, conclude}
use Rattle.calls.specs.Calls.{instruction_at, steps_in}
use Rattle.shapes.specs.declared.Kind.{Kind}
use Rattle.shapes.specs.declared.Verdict.{Verdict}
use Rattle.shapes.specs.declared.Shape.{Shape}
use Rattle.shapes.specs.Shapes.{verdict_of, settled}
use Rattle.programs.specs.Programs.{Ended, final_of}
use Rattle.reactions.specs.declared.Move.{Move}
use Rattle.reactions.specs.declared.standing.Decision.{Decision}
use Rattle.reactions.specs.declared.Action.{Action}

-- where a verdict leads, on the way to step k
unfoldable pub move_of : Verdict → ℕ → ℕ → Move
move_of Verdict.Onward over k = Move.To k
move_of Verdict.Leap over k = Move.To (k + over)
move_of (Verdict.Stop x) over k = Move.Out x

-- the code that a failed write reports
unfoldable pub reported : ℕ → Session → ℕ
reported e s = report_of (read_wins s.code) s.failed e

-- an idle read of a wait that gives up at `limit` reads
unfoldable pub idling : ℕ → ℕ → Move
idling idle limit = cond (ltb (suc idle) limit) (Move.Again (suc idle)) (Move.Out Answer.Timeout)

unfoldable pub waiting : Bool → ℕ → Session → Move
waiting idle limit s = cond idle (idling s.idle limit) (Move.To (suc s.step))

-- a good reply decides
unfoldable pub decided_by : Op → ℕ → Session → Move
decided_by op over s = move_of (settled (verdict_of op (context_of s))) over (suc s.step)

-- a good reply decides, is one more of a wait, or is that to a range read
unfoldable pub good_move : Kind → Op → Shape → Session → List ℕ → Move
good_move Kind.Write op x s bs = decided_by op x.over s
good_move Kind.Read op x s bs = decided_by op x.over s
good_move (Kind.Wait w) op x s bs = waiting (idle_on w bs) (wait_limit s.code w) s
good_move Kind.Range op x s bs = Move.To (suc s.step)

-- after a failed range read the call goes on, over what it leaves out; any other failure ends it
unfoldable pub failed_move : Kind → Shape → ℕ → Session → Move
failed_move Kind.Write x f s = Move.Out (Answer.BusError (reported f s))
failed_move Kind.Read x f s = Move.Out (Answer.BusError f)
failed_move (Kind.Wait w) x f s = Move.Out (Answer.BusError f)
failed_move Kind.Range x f s = Move.To (suc s.step + x.over)

-- where a session that has kept a reply goes
unfoldable pub move_after : Kind → Op → Shape → Session → ℕ → List ℕ → Move
move_after kind op x s f bs = cond (eqb f 0) (good_move kind op x s bs) (failed_move kind x f s)

-- what a move comes to: a transfer at a step, the end of the call after its last instruction, an answer, or a session that stays
unfoldable pub arrival_at : Rules → ℕ → Session → Action
arrival_at rules k s = cond (ltb k (steps_in s.code)) (Action.Send (instruction_at rules s.code k) k 0) Action.End

unfoldable pub action_of : Rules → Move → Instruction → Session → Action
action_of rules (Move.To k) i s = arrival_at rules k s
action_of rules (Move.Again n) i s = Action.Send i s.step n
action_of rules (Move.Out x) i s = Action.Answer x
action_of rules (Move.Refused x) i s = Action.Refused x
action_of rules Move.IllFormed i s = Action.IllFormed

unfoldable pub acts : Action → Bool
acts (Action.Send i k idle) = true
acts Action.End = true
acts (Action.Answer x) = true
acts (Action.Refused x) = false
acts Action.IllFormed = false

-- a call ends
unfoldable pub ending : Ended → Session → Result
ending (Ok x) s = answering (Answer.Done x.value) x.driver s
ending (Err e) s = giving (Answer.BusError e.0) s

unfoldable pub concluding : Session → Result
concluding s = conclude (final_of s.code (context_of s)) s

unfoldable pub acting : Action → Session → Result
acting (Action.Send i k idle) s = sent (send_of (op_of i) (context_of s)) (sending k idle s)
acting Action.End s = concluding s
acting (Action.Answer x) s = giving x s
acting (Action.Refused x) s = refused x s
acting Action.IllFormed s = broken s

-- what a decision comes to
unfoldable pub reached : Decision → Result
reached c = acting (action_of c.rules c.next c.at c.session) c.session

-- a decision, and what it comes to
abbrev pub Reaches : Decision → Result → Type 0
Reaches c o = reached c ≡ o
