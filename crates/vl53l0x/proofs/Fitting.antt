-- The numbers of a session fit their fields after every record, if they did before.
use borrow.Author.Rules.{rules}
use mathlib.Core.Path.{◌≡◌, refl}
use mathlib.Core.Bool.{Bool, true, false, not}
use mathlib.Core.List.{List, [], ◌∷◌}
use Prim.Native.Nat.{ℕ, zero, suc, ◌+◌, ◌<◌, ◌≤◌}
use native.Mathlib.Omega.{arith}
use lib.Dec.{eqb, ltb}
use lib.ListN.{length, drop}
use borrow.Author.Tests.{ltb-true}
use Rattle.std.specs.Prelude.{Option, None, Some}
use Rattle.clock.specs.declared.Place.{Place}
use Rattle.timing.specs.declared.TimingRegisters.{TimingRegisters}
use Rattle.timing.specs.Timeouts.{time_in}
use Rattle.timing.specs.Places.{first_place}
use Rattle.budget.specs.Budget.{budget_after, measurement_timing_budget}
use Rattle.budget.proofs.Bounds.{budget_fits}
use Rattle.session.specs.declared.Rules.{Rules}
use Rattle.session.specs.declared.Session.{Session}
use Rattle.session.specs.declared.Driver.{Driver}
use Rattle.session.specs.declared.Condition.{Condition}
use Rattle.session.specs.Bus.{Reply, bad, good, wait_limit, idle_on, byte}
use Rattle.session.specs.Instructions.{Verdict, onward, leap, stop, test, Op, write, read, wait, range, Final, success, failure, timing_slot, bytes_from, put, budget_in, kept_budget, send_of}
use Rattle.session.specs.Calls.{programs, ops_of, program_of, by_code, arguments_ok}
use Rattle.session.specs.Machine.{Outcome, resting, held_by, context_of, kept_of, conclude, enter, arrive, decide, react, to_reply, stray, on_ops, ill_formed, waits_now, reply_def, begun, not_up, begin_def, other_def}
use Rattle.session.specs.Records.{Record}
use Rattle.session.specs.History.{step_def, session_of}
use Rattle.ground.proofs.Facts.{cond_case}
use Rattle.session.proofs.Table.{of_table}
use Rattle.session.proofs.Trace.{length_kept}
use Rattle.checks.proofs.Places.{well_formed}
use Rattle.records.specs.Records.{record_in}
use Rattle.layout.specs.RoundTrip.{Fits, are_bytes}
use Rattle.layout.proofs.RoundTrip.{below}

-- one transfer more fits
abbrev Room : Session → Type 0
Room s = s.transfers + 1 < 4294967296

abbrev FitsAfter : Outcome → Type 0
FitsAfter o = Fits (session_of o)

resting_fits : (d : Driver) → d.budget < 4294967296 → Fits (resting d)
resting_fits d h = record { budget = h; a = omega arith; b = omega arith; idle = omega arith; transfers = omega arith; found_budget = omega arith; carried = refl }

held_small : (code : ℕ) (d : Driver) → d.budget < 4294967296 → (held_by code d).budget < 4294967296
held_small code d h = cond_case (λ (x : Driver). x.budget < 4294967296) (eqb code 1) (λ e. omega arith) (λ e. h)

-- an end other than success
gives_fits : (s : Session) → Fits s → Fits (resting (held_by s.code s.driver))
gives_fits s h = resting_fits (held_by s.code s.driver) (held_small s.code s.driver h.budget)

-- the budget that the replies give
sum_small : (r : TimingRegisters) (p : Option Place) → (time_in (budget_after p r)).0 < 4294967296
sum_small r None = budget_fits r
sum_small r (Some p) = omega arith

budget_small : (k : ℕ) (l : List ℕ) → budget_in k l < 4294967296
unfolding measurement_timing_budget
budget_small k l = sum_small _ (first_place _ 6)

own_small : (op : Op) (r : Reply) (l : List ℕ) (found_budget : ℕ) → found_budget < 4294967296 → kept_budget op r l found_budget < 4294967296
own_small (write reg bytes len over after) r l found_budget h = h
own_small (read reg len slot finds over after) (bad e) l found_budget h = h
own_small (read reg len slot finds over after) (good bs) l found_budget h =
    cond_case (λ (n : ℕ). n < 4294967296) finds (λ e. budget_small timing_slot (put l slot (bytes_from 0 len bs))) (λ e. h)
own_small (wait x) r l found_budget h = h
own_small (range reg len slot over) r l found_budget h = h

kept_fits : (s : Session) (op : Op) (r : Reply) → Fits s → Fits (kept_of s op r)
kept_fits s op r h =
    record {
      budget = h.budget;
      a = h.a;
      b = h.b;
      idle = h.idle;
      transfers = h.transfers;
      found_budget = own_small op r s.carried s.found_budget h.found_budget;
      carried = rw (length_kept op r s.carried) h.carried;
    }

-- the end of a call
abbrev FinalFits : Final → Type 0
FinalFits (success v d) = d.budget < 4294967296
FinalFits (failure e) = Unit {0}

by_code_fits : (e : ℕ) (f : Final) → FinalFits f → FinalFits (by_code e f)
by_code_fits zero f h = h
by_code_fits (suc e) f h = tt

final_fits : (code : ℕ) (s : Session) → Fits s → FinalFits ((program_of Rules.Current code).final (context_of s))
unfolding programs
final_fits code s h =
    let d : (held_by s.code s.driver).budget < 4294967296 = held_small s.code s.driver h.budget in
    of_table Rules.Current (λ k p. FinalFits (p.final (context_of s))) (λ k. tt) (search (rules, d, h.a, h.found_budget, by_code_fits)) code

conclude_fits : (f : Final) (s : Session) → Fits s → FinalFits f → FitsAfter (conclude f s)
conclude_fits (success v d) s h k = resting_fits d k
conclude_fits (failure e) s h k = gives_fits s h

-- where a call goes on, or ends
arrive_fits : (s : Session) (k : ℕ) → Fits s → Room s → FitsAfter (arrive (program_of Rules.Current s.code) k s)
unfolding arrive
arrive_fits s k h room = go (drop k (ops_of (program_of Rules.Current s.code)))
  where
    go : (l : List Op) → FitsAfter (enter (program_of Rules.Current s.code).final l k s)
    go [] = conclude_fits ((program_of Rules.Current s.code).final (context_of s)) s h (final_fits s.code s h)
    go (op ∷ rest) = record { budget = h.budget; a = h.a; b = h.b; idle = omega arith; transfers = room; found_budget = h.found_budget; carried = h.carried }

decide_fits : (v : Verdict) (s : Session) (over k : ℕ) → Fits s → Room s → FitsAfter (decide v (program_of Rules.Current s.code) over k s)
decide_fits onward s over k h room = arrive_fits s k h room
decide_fits leap s over k h room = arrive_fits s (k + over) h room
decide_fits (stop x) s over k h room = gives_fits s h
decide_fits (test b v w) s over k h room = cond_case FitsAfter b (λ e. decide_fits v s over k h room) (λ e. decide_fits w s over k h room)

limit_small : (code : ℕ) (x : Condition) → wait_limit code x ≤ 65535
limit_small code Condition.DetectorReady = omega arith
limit_small code Condition.StatusReady = omega arith
limit_small code Condition.Started = omega arith

react_fits : (op : Op) (s : Session) (r : Reply) → Fits s → Room s → FitsAfter (react op (program_of Rules.Current s.code) s r)
react_fits (write reg bytes len over after) s (bad e) h room = gives_fits s h
react_fits (write reg bytes len over after) s (good bs) h room = decide_fits (after (context_of s)) s over (suc s.step) h room
react_fits (read reg len slot finds over after) s (bad e) h room = gives_fits s h
react_fits (read reg len slot finds over after) s (good bs) h room =
    let op : Op = read reg len slot finds over after in
    decide_fits (after (context_of (kept_of s op (good bs)))) (kept_of s op (good bs)) over (suc s.step) (kept_fits s op (good bs) h) room
react_fits (wait x) s (bad e) h room = gives_fits s h
react_fits (wait x) s (good bs) h room =
    cond_case FitsAfter (idle_on x bs)
    (λ i. cond_case FitsAfter (ltb (suc s.idle) (wait_limit s.code x))
    (λ lt. record { budget = h.budget; a = h.a; b = h.b; idle = omega (arith, ltb-true (suc s.idle) (wait_limit s.code x) lt, limit_small s.code x); transfers = room; found_budget = h.found_budget; carried = h.carried })
    (λ ge. gives_fits s h))
    (λ i. arrive_fits s (suc s.step) h room)
react_fits (range reg len slot over) s (bad e) h room = arrive_fits (kept_of s (range reg len slot over) (bad e)) (suc s.step + over) (kept_fits s (range reg len slot over) (bad e) h) room
react_fits (range reg len slot over) s (good bs) h room = arrive_fits (kept_of s (range reg len slot over) (good bs)) (suc s.step) (kept_fits s (range reg len slot over) (good bs) h) room

-- a record of eight bytes
begin_fits : (s : Session) (code a b : ℕ) → Fits s → a < 4294967296 → b < 65536 → FitsAfter (begin_def Rules.Current s code a b)
unfolding begin_def
begin_fits s code a b h ha hb =
    cond_case FitsAfter (ill_formed Rules.Current s) (λ e. h)
    (λ e. cond_case FitsAfter (not (arguments_ok Rules.Current code a b)) (λ e. h)
    (λ e. cond_case FitsAfter (waits_now s) (λ e. h)
    (λ e. cond_case FitsAfter (not_up code s.driver.up) (λ e. h)
    (λ e. decide_fits ((program_of Rules.Current code).entry (context_of (begun s code a b))) (begun s code a b) (length (program_of Rules.Current code).steps) 0 begun_fits (omega arith)))))
  where
    begun_fits : Fits (begun s code a b)
    begun_fits =
        record { budget = held_small code s.driver h.budget; a = ha; b = hb; idle = omega arith; transfers = omega arith; found_budget = omega arith; carried = refl }

reply_fits : (s : Session) (f : ℕ) (bs : List ℕ) → Fits s → FitsAfter (reply_def Rules.Current s f bs)
unfolding reply_def
reply_fits s f bs h =
    cond_case FitsAfter (ill_formed Rules.Current s) (λ e. h)
    (λ e. cond_case FitsAfter (not (waits_now s)) (λ n. h) (λ n. go (drop s.step (ops_of (program_of Rules.Current s.code))) (room e n)))
  where
    room : ill_formed Rules.Current s ≡ false → not (waits_now s) ≡ false → Room s
    room e n = by_test (waits_now s) refl
      where
        by_test : (t : Bool) → waits_now s ≡ t → Room s
        by_test true w = omega (arith, (well_formed Rules.Current s (rw w at e)).transfers)
        by_test false w = let z : true ≡ false = rw w at n in cc

    go : (l : List Op) → Room s → FitsAfter (on_ops l (program_of Rules.Current s.code) s f bs)
    go [] r = h
    go (op ∷ rest) r = cond_case FitsAfter (stray (send_of op (context_of s)) f bs) (λ e. h) (λ e. react_fits op s (to_reply f bs) h r)

other_fits : (s : Session) → Fits s → FitsAfter (other_def Rules.Current s)
unfolding other_def
other_fits s h = cond_case FitsAfter (ill_formed Rules.Current s) (λ e. h) (λ e. h)

pub step_fits : (s : Session) (bytes : List ℕ) → Fits s → are_bytes bytes ≡ true → FitsAfter (step_def Rules.Current s (record_in bytes))
unfolding step_def record_in
step_fits s bytes h are =
    cond_case (λ (r : Record). FitsAfter (step_def Rules.Current s r)) (eqb (byte 0 bytes) 1)
    (λ e. begin_fits s (byte 1 bytes) _ _ h
    (omega (arith, below bytes 2 are, below bytes 3 are, below bytes 4 are, below bytes 5 are))
    (omega (arith, below bytes 6 are, below bytes 7 are)))
    (λ e. cond_case (λ (r : Record). FitsAfter (step_def Rules.Current s r)) (eqb (byte 0 bytes) 2) (λ e. reply_fits s (byte 1 bytes) _ h) (λ e. other_fits s h))
