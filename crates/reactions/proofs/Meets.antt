-- What the code does to a session is what the machine does.
use mathlib.Core.Path.{◌≡◌, refl, sym, ap}
use mathlib.Core.Bool.{Bool, true, false, cond}
use mathlib.Core.List.{List}
use Prim.Native.Nat.{ℕ, zero, suc, ◌+◌}
use native.Mathlib.Omega.{arith}
use borrow.Author.Tests.{ltb-true, ltb-false, ne_eqb}
use lib.Dec.{eqb, ltb}
use Rattle.session.specs.declared.Rules.{Rules}
use Rattle.session.specs.declared.Session.{Session}
use Rattle.session.specs.declared.Answer.{Answer}
use Rattle.session.specs.declared.Instruction.{Instruction}
use Rattle.session.specs.declared.Condition.{Condition}
use Rattle.session.specs.Bus.{good, bad, wait_limit, idle_on}
use Rattle.session.specs.Instructions.{Final, success, failure, Verdict, onward, leap, stop, test, Op, write, read, wait, range, send_of, read_wins, report_of}
use Rattle.session.specs.Steps.{op_of}
use Rattle.session.specs.Calls.{program_of}
use Rattle.session.specs.Machine.{sent, context_of, sending, kept_of, giving, conclude, arrive, decide, react, to_reply}
use Rattle.session.proofs.Unchanged.{final_alike}
use Rattle.calls.specs.Calls.{instruction_at, steps_in}
use Rattle.ground.proofs.Facts.{cond_case}
use Rattle.shapes.specs.declared.Shape.{Shape}
use Rattle.shapes.specs.Shapes.{shape_of, settled, keeps, failure_kept, kept_by}
use Rattle.programs.specs.Programs.{end_of, final_of}
use Rattle.checks.specs.Sound.{Sound}
use Rattle.checks.proofs.Places.{at_step, past_end}
use Rattle.reactions.specs.declared.Move.{Move}
use Rattle.reactions.specs.declared.Action.{Action}
use Rattle.reactions.specs.Standing.{leads, SoundIf}
use Rattle.reactions.specs.Reactions.{move_of, reported, idling, waiting, decided_by, good_move, failed_move, move_after, arrival_at, action_of, acts, ending, concluding, acting}

-- on to a step
arrives : (rules : Rules) (k : ℕ) (s : Session) → acting (arrival_at rules k s) s ≡ arrive (program_of rules s.code) k s
unfolding acting arrival_at concluding final_of arrive
arrives rules k s = at (ltb k (steps_in s.code)) refl
  where
    at : (b : Bool) → ltb k (steps_in s.code) ≡ b → acting (cond b (Action.Send (instruction_at rules s.code k) k 0) Action.End) s ≡ arrive (program_of rules s.code) k s
    at true e = sym (rw (at_step rules s.code k (ltb-true _ _ e)) refl)
    at false e = sym (rw (past_end rules s.code k (ltb-false _ _ e), final_alike rules s.code) refl)

-- a verdict with its tests made
pub goes_by : (rules : Rules) (v : Verdict) (over k : ℕ) (i : Instruction) (s : Session) → acting (action_of rules (move_of (settled v) over k) i s) s ≡ decide v (program_of rules s.code) over k s
unfolding move_of settled action_of acting
goes_by rules onward over k i s = arrives rules k s
goes_by rules leap over k i s = arrives rules (k + over) s
goes_by rules (stop x) over k i s = refl
goes_by rules (test true v w) over k i s = goes_by rules v over k i s
goes_by rules (test false v w) over k i s = goes_by rules w over k i s

-- a read of a wait
waits : (rules : Rules) (i : Instruction) (x : Condition) (idle : Bool) (limit : ℕ) (s : Session) → op_of i ≡ wait x
    → acting (action_of rules (waiting idle limit s) i s) s
    ≡ cond idle
    (cond (ltb (suc s.idle) limit) (sent (send_of (wait x) (context_of s)) (sending s.step (suc s.idle) s)) (giving Answer.Timeout s))
    (arrive (program_of rules s.code) (suc s.step) s)
unfolding waiting idling action_of acting
waits rules i x true limit s e = at (ltb (suc s.idle) limit)
  where
    at : (b : Bool) → acting (action_of rules (cond b (Move.Again (suc s.idle)) (Move.Out Answer.Timeout)) i s) s
        ≡ cond b (sent (send_of (wait x) (context_of s)) (sending s.step (suc s.idle) s)) (giving Answer.Timeout s)
    at true = ap (λ (op : Op). sent (send_of op (context_of s)) (sending s.step (suc s.idle) s)) e
    at false = refl
waits rules i x false limit s e = arrives rules (suc s.step) s

nonzero : (e : ℕ) → eqb (suc e) 0 ≡ false
nonzero e = ne_eqb (suc e) 0 (λ h. omega arith)

-- a reply, by the shape of the instruction
abbrev kept_on : Op → Session → ℕ → List ℕ → Session
kept_on op s f bs = kept_by (shape_of op) s f bs

pub reacts : (rules : Rules) (i : Instruction) (op : Op) (s : Session) (f : ℕ) (bs : List ℕ) → op_of i ≡ op
    → acting (action_of rules (move_after (shape_of op).kind op (shape_of op) (kept_on op s f bs) f bs) i (kept_on op s f bs)) (kept_on op s f bs)
    ≡ react op (program_of rules s.code) s (to_reply f bs)
unfolding shape_of kept_by keeps failure_kept move_after good_move failed_move decided_by reported action_of acting
reacts rules i (write reg bytes len over after) s zero bs e = goes_by rules (after (context_of s)) over (suc s.step) i s
reacts rules i (write reg bytes len over after) s (suc f) bs e = rw (nonzero f) refl
reacts rules i (read reg len slot true over after) s zero bs e =
    let u : Session = kept_of s (read reg len slot true over after) (good bs) in
    goes_by rules (after (context_of u)) over (suc s.step) i u
reacts rules i (read reg len slot false over after) s zero bs e =
    let u : Session = kept_of s (read reg len slot false over after) (good bs) in
    goes_by rules (after (context_of u)) over (suc s.step) i u
reacts rules i (read reg len slot true over after) s (suc f) bs e = rw (nonzero f) refl
reacts rules i (read reg len slot false over after) s (suc f) bs e = rw (nonzero f) refl
reacts rules i (wait x) s zero bs e = waits rules i x (idle_on x bs) (wait_limit s.code x) s e
reacts rules i (wait x) s (suc f) bs e = rw (nonzero f) refl
reacts rules i (range reg len slot over) s zero bs e = arrives rules (suc s.step) (kept_of s (range reg len slot over) (good bs))
reacts rules i (range reg len slot over) s (suc f) bs e = rw (nonzero f) (arrives rules (suc s.step + over) (kept_of s (range reg len slot over) (bad f)))

-- the end of a call
ends_as : (f : Final) (s : Session) → ending (end_of f) s ≡ conclude f s
unfolding ending
ends_as (success v d) s = refl
ends_as (failure e) s = refl

pub ends : (s : Session) → ending (end_of (final_of s.code (context_of s))) s ≡ concluding s
unfolding concluding
ends s = ends_as (final_of s.code (context_of s)) s

-- what is kept of a reply does not change the count
pub sound_kept : (x : Shape) (s : Session) (f : ℕ) (bs : List ℕ) → Sound s → Sound (kept_by x s f bs)
unfolding kept_by
sound_kept x s f bs h = cond_case Sound (keeps x.kind) (λ e. record { transfers = h.transfers }) (λ e. h)

-- what is known of the session for a move is known for its action
pub action_sound : (rules : Rules) (w : Move) (i : Instruction) (s : Session) → SoundIf (leads w) s → SoundIf (acts (action_of rules w i s)) s
unfolding action_of acts leads
action_sound rules (Move.To k) i s h e = h refl
action_sound rules (Move.Again n) i s h e = h refl
action_sound rules (Move.Out x) i s h e = h refl
action_sound rules (Move.Refused x) i s h e = h e
action_sound rules Move.IllFormed i s h e = h e

-- the pieces that single functions cite
pub send_sound : (x : Action) (i : Instruction) (k idle : ℕ) (s : Session) → x ≡ Action.Send i k idle → SoundIf (acts x) s → Sound s
unfolding acts
send_sound x i k idle s e h = h (rw e refl)

pub report_read : (code failed e : ℕ) → code ≡ 6 → (failed ≡ 0 → ⊥) → failed ≡ report_of (read_wins code) failed e
report_read code zero e h n = absurd (n refl)
report_read code (suc k) e h n = sym (rw h refl)
