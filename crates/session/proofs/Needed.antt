-- A reply depends on the parts that the table names, and on nothing else: one test that is computed over the instructions of every call.
use mathlib.Core.Path.{◌≡◌, refl, sym, ap, subst, ◌∙◌}
use mathlib.Core.Bool.{Bool, true, false, not, ◌&&◌, cond}
use mathlib.Core.List.{List, [], ◌∷◌, ◌++◌, map}
use Prim.Native.Nat.{ℕ, suc, ◌≤◌}
use native.Mathlib.Omega.{arith}
use lib.Dec.{eqb}
use lib.ListN.{length, drop}
use Rattle.std.specs.List.{drop-map}
use Rattle.session.specs.declared.Rules.{Rules}
use Rattle.session.specs.Bus.{transfer_of, wait_register, Driver, Answer, Reply, Condition, absent, zero_from}
use Rattle.session.specs.Instructions.{Instruction, Context, kept_bytes, Op, write, read, wait, range, Final, success, failure, send_of, read_wins, report_of}
use Rattle.session.specs.Steps.{op_of}
use Rattle.session.specs.Calls.{Program, tuning, programs, program_of}
use Rattle.session.specs.Machine.{Session, sent, answered, held_by, address_of, resting, context_of, kept_of, sending, giving, conclude, enter, arrive, stray, outstanding}
use Rattle.session.specs.Records.{reply}
use Rattle.session.specs.History.{step_def}
use Rattle.session.specs.Parts.{Part, byte_in, range_byte_in, failure_code, budget_found, argument_a, argument_b, needed_rows, needed, sent_rows, sent_from}
use Rattle.session.specs.AnySession.{AllSame, AgreeOn, Agree, Alike, same_transfer, same_answer, same_refusal, DependsOnNeeded, SentFrom, IgnoresReadBack}
use Rattle.ground.proofs.Facts.{both}
use Rattle.session.proofs.Trace.{length_kept}
use Rattle.session.proofs.Table.{of_test}
use Rattle.session.proofs.Cut.{stray_is}
use Rattle.session.proofs.Refused.{sound_of}
use Rattle.session.proofs.Uses.{On, Kin, sends_of, SendsFrom, sends_from, ends_of, end_of, ends_from}
use Rattle.session.proofs.Pairs.{all_in, all_same, StepTest, walk, walk_at, step_ok, replies, instruction_there, met_at, out_at}

-- what an arrival at a step looks at: the end of the call, or what is sent there and what is needed from there on
abbrev arrival : ℕ → ℕ → List Instruction → List Part
arrival code k [] = end_of code
arrival code k (i ∷ is) = sends_of i ++ needed code k

-- SCOPE 5.8: if the clearing fails too, call 6 reports the read's code: a failed write may report it
abbrev reported : ℕ → List Part
reported code = cond (read_wins code) (failure_code ∷ []) []

-- a bring-up's transfers go to its argument
abbrev address_part : ℕ → List Part
address_part code = cond (eqb code 1) (argument_a ∷ []) []

all_ok : (rules : Rules) (code : ℕ) → walk (step_ok (needed code) (arrival code) (reported code)) 0 (program_of rules code).steps ≡ true
unfolding programs tuning needed_rows ends_of
all_ok rules = of_test rules (λ k p. walk (step_ok (needed k) (arrival k) (reported k)) 0 p.steps) (λ k. refl) refl

-- what the transfer that is out is made of, and where it goes
abbrev sent_ok : ℕ → StepTest
sent_ok code k i is = all_in (address_part code) (needed code k) && (all_in (address_part code) (sent_from code k) && all_in (sends_of i) (sent_from code k))

all_sent : (rules : Rules) (code : ℕ) → walk (sent_ok code) 0 (program_of rules code).steps ≡ true
unfolding programs tuning sent_rows needed_rows
all_sent rules = of_test rules (λ k p. walk (sent_ok k) 0 p.steps) (λ k. refl) refl

record Sent (code k : ℕ) (i : Instruction) : Type 0 where
  address : all_in (address_part code) (needed code k) ≡ true
  address_out : all_in (address_part code) (sent_from code k) ≡ true
  made_of : all_in (sends_of i) (sent_from code k) ≡ true

sent_at : (rules : Rules) (code k : ℕ) (i : Instruction) (is : List Instruction) → drop k (program_of rules code).steps ≡ i ∷ is → Sent code k i
sent_at rules code k i is at =
    let t₁ = both (all_in (address_part code) (needed code k)) _ (walk_at (sent_ok code) (program_of rules code).steps k i is (all_sent rules code) at) in
    let t₂ = both (all_in (address_part code) (sent_from code k)) _ t₁.1 in
    record { address = t₁.0; address_out = t₂.0; made_of = t₂.1 }

-- two sessions in one call
record Twin (code : ℕ) (s s' : Session) : Type 0 where
  one : s.code ≡ code
  other : s'.code ≡ code
  driver : eqb code 1 ≡ false → s.driver ≡ s'.driver
  address : (context_of s).address ≡ (context_of s').address
  room : length s.carried ≡ length s'.carried

held_same : (code : ℕ) (s s' : Session) → Twin code s s' → held_by s.code s.driver ≡ held_by s'.code s'.driver
held_same code s s' t = rw (t.one, t.other) (go (eqb code 1) refl)
  where
    go : (b : Bool) → eqb code 1 ≡ b → cond b absent s.driver ≡ cond b absent s'.driver
    go true e = refl
    go false e = t.driver e

kin_of : (code : ℕ) (s s' : Session) → Twin code s s' → Kin (context_of s) (context_of s')
kin_of code s s' t = record { code = t.one ∙ sym t.other; driver = held_same code s s' t; address = t.address; room = t.room }

all_parts : (ps : List Part) (s s' : Session) → On ps (context_of s) (context_of s') → AllSame ps s s'
all_parts [] s s' o = tt
all_parts (byte_in i ∷ ps) s s' o = (o.0, all_parts ps s s' o.1)
all_parts (range_byte_in i ∷ ps) s s' o = (o.0, all_parts ps s s' o.1)
all_parts (failure_code ∷ ps) s s' o = (o.0, all_parts ps s s' o.1)
all_parts (budget_found ∷ ps) s s' o = (o.0, all_parts ps s s' o.1)
all_parts (argument_a ∷ ps) s s' o = (o.0, all_parts ps s s' o.1)
all_parts (argument_b ∷ ps) s s' o = (o.0, all_parts ps s s' o.1)

pub parts_on : (ps : List Part) (s s' : Session) → AllSame ps s s' → On ps (context_of s) (context_of s')
parts_on [] s s' o = tt
parts_on (byte_in i ∷ ps) s s' o = (o.0, parts_on ps s s' o.1)
parts_on (range_byte_in i ∷ ps) s s' o = (o.0, parts_on ps s s' o.1)
parts_on (failure_code ∷ ps) s s' o = (o.0, parts_on ps s s' o.1)
parts_on (budget_found ∷ ps) s s' o = (o.0, parts_on ps s s' o.1)
parts_on (argument_a ∷ ps) s s' o = (o.0, parts_on ps s s' o.1)
parts_on (argument_b ∷ ps) s s' o = (o.0, parts_on ps s s' o.1)

on_append : (ps qs : List Part) (c c' : Context) → On (ps ++ qs) c c' → On ps c c' × On qs c c'
on_append [] qs c c' o = (tt, o)
on_append (p ∷ ps) qs c c' o = let t = on_append ps qs c c' o.1 in ((o.0, t.0), t.1)

pub send_same : (i : Instruction) (c c' : Context) → Kin c c' → On (sends_of i) c c' → send_of (op_of i) c ≡ send_of (op_of i) c'
send_same i c c' m o = go (op_of i) (sends_from i)
  where
    go : (op : Op) → SendsFrom op (sends_of i) → send_of op c ≡ send_of op c'
    go (write reg bytes len over after) d =
        ap (λ b. transfer_of c.address (reg ∷ b) len) (d c c' m o) ∙ ap (λ a. transfer_of a (reg ∷ bytes c') len) m.address
    go (read reg len slot finds over after) d = rw m.address refl
    go (wait w) d = rw m.address refl
    go (range reg len slot over) d = rw m.address refl

pub kept_room : (op : Op) (r : Reply) (s s' : Session) → length s.carried ≡ length s'.carried → length (kept_bytes op r s.carried) ≡ length (kept_bytes op r s'.carried)
kept_room op r s s' e = length_kept op r s.carried ∙ e ∙ sym (length_kept op r s'.carried)

module _ (rules : Rules) (code : ℕ) where
  abbrev prog : Program
  prog = program_of rules code

  agree_at : (k i : ℕ) (s s' : Session) → Twin code s s' → On (needed code k) (context_of s) (context_of s') → Agree (sending k i s) (sending k i s')
  agree_at k i s s' t o =
      record {
        code = t.one ∙ sym t.other;
        step = refl;
        idle = refl;
        driver = λ e. t.driver (rw t.one at e);
        room = t.room;
        parts = subst (λ n. AllSame (needed n k) (sending k i s) (sending k i s')) (sym t.one) (all_parts (needed code k) (sending k i s) (sending k i s') o);
      }

  answers_alike : (x : Answer) (s s' : Session) (d d' : Driver) → d ≡ d' → Alike (answered x s.transfers (resting d)) (answered x s'.transfers (resting d'))
  answers_alike x s s' d d' e = subst (λ y. Alike (answered x s.transfers (resting d)) (answered x s'.transfers (resting y))) e (same_answer x s.transfers s'.transfers (resting d))

  gives_alike : (x x' : Answer) (s s' : Session) → Twin code s s' → x ≡ x' → Alike (giving x s) (giving x' s')
  gives_alike x x' s s' t e = rw (← e) (answers_alike x s s' _ _ (held_same code s s' t))

  concludes_alike : (f : Final) (s s' : Session) → Twin code s s' → Alike (conclude f s) (conclude f s')
  concludes_alike (success v d) s s' t = same_answer (Answer.Done v) s.transfers s'.transfers (resting d)
  concludes_alike (failure e) s s' t = gives_alike (Answer.BusError e) (Answer.BusError e) s s' t refl

  arrives_alike : (k : ℕ) (s s' : Session) → Twin code s s' → On (arrival code k (drop k prog.steps)) (context_of s) (context_of s') → Alike (arrive prog k s) (arrive prog k s')
  unfolding arrive
  arrives_alike k s s' t o = rw (drop-map op_of k prog.steps) (go (drop k prog.steps) o)
    where
      go : (l : List Instruction) → On (arrival code k l) (context_of s) (context_of s') → Alike (enter prog.final (map op_of l) k s) (enter prog.final (map op_of l) k s')
      go [] o = rw (← (ends_from rules code (context_of s) (context_of s') (kin_of code s s' t) o)) (concludes_alike (prog.final (context_of s)) s s' t)
      go (i ∷ is) o =
          let q = on_append (sends_of i) (needed code k) (context_of s) (context_of s') o in
          rw (← (send_same i (context_of s) (context_of s') (kin_of code s s' t) q.0))
          (same_transfer (send_of (op_of i) (context_of s)) (sending k 0 s) (sending k 0 s') (agree_at k 0 s s' t q.1))

  twin_kept : (s s' : Session) (op : Op) (r : Reply) → Twin code s s' → Twin code (kept_of s op r) (kept_of s' op r)
  twin_kept s s' op r t = record { one = t.one; other = t.other; driver = t.driver; address = t.address; room = kept_room op r s s' t.room }

  again_alike : (k i : ℕ) (w : Condition) (s s' : Session) → Twin code s s' → On (needed code k) (context_of s) (context_of s')
      → Alike (sent (send_of (wait w) (context_of s)) (sending k i s)) (sent (send_of (wait w) (context_of s')) (sending k i s'))
  again_alike k i w s s' t o =
      rw (← (ap (λ a. transfer_of a (wait_register w ∷ []) 1) t.address))
      (same_transfer (send_of (wait w) (context_of s)) (sending k i s) (sending k i s') (agree_at k i s s' t o))

  fails_alike : (e : ℕ) (s s' : Session) → Twin code s s' → On (reported code) (context_of s) (context_of s')
      → Alike (giving (Answer.BusError (report_of (read_wins s.code) s.failed (suc e))) s) (giving (Answer.BusError (report_of (read_wins s'.code) s'.failed (suc e))) s')
  fails_alike e s s' t o = gives_alike _ _ s s' t (rw (t.one, t.other) (ap Answer.BusError (go (read_wins code) o)))
    where
      go : (b : Bool) → On (cond b (failure_code ∷ []) []) (context_of s) (context_of s') → report_of b s.failed (suc e) ≡ report_of b s'.failed (suc e)
      go true o = ap (λ n. report_of true n (suc e)) o.0
      go false o = refl

-- sessions that agree are twins
twins : (ps : List Part) (s s' : Session) → AgreeOn ps s s' → all_in (address_part s.code) ps ≡ true → Twin s.code s s'
twins ps s s' g h =
    record { one = refl; other = sym g.code; driver = g.driver; address = speaks (eqb s.code 1) refl; room = g.room }
  where
    speaks : (b : Bool) → eqb s.code 1 ≡ b → address_of s.code s.a s.driver ≡ address_of s'.code s'.a s'.driver
    speaks true e =
        let a : s.a ≡ s'.a = (all_same (argument_a ∷ []) ps (context_of s) (context_of s') (rw e at h) (parts_on ps s s' g.parts)).0 in
        rw (← g.code, e, a) refl
    speaks false e = rw (← g.code, e, g.driver e) refl

pub depends_on_needed : (rules : Rules) (s s' : Session) (f : ℕ) (bs : List ℕ) → DependsOnNeeded rules s s' f bs
depends_on_needed rules s s' f bs u u' g =
    instruction_there rules s (sound_of rules s u).1 (λ i is at.
    let t : Twin s.code s s' = twins (needed s.code s.step) s s' g (sent_at rules s.code s.step i is at).address in
    let o : On (needed s.code s.step) (context_of s) (context_of s') = parts_on (needed s.code s.step) s s' g.parts in
    replies rules s.code Alike (Twin s.code) (needed s.code) (arrival s.code) (reported s.code) (all_ok rules s.code)
    (λ x y t. t.one) (λ x y t. t.other) (λ x y t. t.room) (twin_kept rules s.code) (arrives_alike rules s.code) (again_alike rules s.code)
    (λ x y z t. gives_alike rules s.code x x y z t refl) (λ x y. same_refusal Answer.StrayByte x y) (fails_alike rules s.code)
    s.step i is at s s' t o f bs u u' refl (sym g.step) g.idle)

pub sent_from_these : (rules : Rules) (s s' : Session) → SentFrom rules s s'
sent_from_these rules s s' u u' g =
    instruction_there rules s (sound_of rules s u).1 (λ i is at.
    let q : Sent s.code s.step i = sent_at rules s.code s.step i is at in
    let t : Twin s.code s s' = twins (sent_from s.code s.step) s s' g q.address_out in
    let o : On (sent_from s.code s.step) (context_of s) (context_of s') = parts_on (sent_from s.code s.step) s s' g.parts in
    out_at rules s s.code s.step i is refl refl at
    ∙ send_same i (context_of s) (context_of s') (kin_of s.code s s' t) (all_same (sends_of i) (sent_from s.code s.step) (context_of s) (context_of s') q.made_of o)
    ∙ sym (out_at rules s' s.code s.step i is (sym g.code) (sym g.step) at))

pub ignores_read_back : (rules : Rules) (s : Session) (bs bs' : List ℕ) → IgnoresReadBack rules s bs bs'
ignores_read_back rules s bs bs' u two h h' =
    instruction_there rules s (sound_of rules s u).1 (λ i is at.
    let out : outstanding rules s ≡ send_of (op_of i) (context_of s) = out_at rules s s.code s.step i is refl refl at in
    go (op_of i) i is at refl (rw out at two) (rw out at h) (rw out at h'))
  where
    go : (op : Op) (i : Instruction) (is : List Instruction) → drop s.step (program_of rules s.code).steps ≡ i ∷ is → op_of i ≡ op
        → 2 ≤ (send_of op (context_of s)).count
        → zero_from (send_of op (context_of s)).reads bs ≡ true
        → zero_from (send_of op (context_of s)).reads bs' ≡ true
        → step_def rules s (reply 0 bs) ≡ step_def rules s (reply 0 bs')
    go (write reg bytes len over after) i is at z two h h' =
        let n : stray (send_of (op_of i) (context_of s)) 0 bs ≡ false = rw z (stray_is _ 0 bs ∙ ap not h) in
        let n' : stray (send_of (op_of i) (context_of s)) 0 bs' ≡ false = rw z (stray_is _ 0 bs' ∙ ap not h') in
        met_at rules s s.code s.step i is 0 bs refl refl u at
        ∙ rw (n, n', z) refl
        ∙ sym (met_at rules s s.code s.step i is 0 bs' refl refl u at)
    go (read reg len slot finds over after) i is at z two h h' = absurd (omega (arith, two))
    go (wait w) i is at z two h h' = absurd (omega (arith, two))
    go (range reg len slot over) i is at z two h h' = absurd (omega (arith, two))
