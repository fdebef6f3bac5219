-- One record meeting one session is refused exactly by the table of SCOPE 9.1.
use mathlib.Core.Path.{◌≡◌, refl, sym, ap, subst, ◌∙◌}
use mathlib.Core.Logic.{◌↔◌}
use mathlib.Core.Bool.{Bool, true, false, not, ◌||◌, ◌&&◌, cond}
use mathlib.Core.List.{List, [], ◌∷◌, ◌++◌}
use Prim.Native.Nat.{ℕ, zero, suc, ◌+◌, ◌*◌, ◌<◌, ◌≤◌}
use native.Mathlib.Omega.{arith}
use native.Mathlib.Nat.{add-zero, zero-add, add-suc, suc-add}
use lib.Dec.{eqb, ltb, leb}
use lib.ListN.{length, drop}
use borrow.Author.Tests.{ne_eqb, eqb-true, eqb-false, not-true, le-leb, lt-leb}
use Rattle.session.specs.declared.Rules.{Rules}
use Rattle.session.specs.Bus.{Answer, wait_limit, zero_from, clean_from}
use Rattle.session.specs.Instructions.{Op, write, read, wait, range, send_of}
use Rattle.session.specs.Steps.{slot}
use Rattle.session.specs.Calls.{ops_of, tuning, programs, program_of, top_code, ceiling_of, arguments_ok}
use Rattle.session.specs.Machine.{Session, Outcome, sent, answered, refused, broken, context_of, decide, react, to_reply, stray, on_ops, idle_wrong, up_wrong, malformed, waits_now, ill_formed, reply_def, begun, not_up, begin_def, other_def}
use Rattle.session.specs.Records.{Record, call, reply, other}
use Rattle.session.specs.History.{step_def}
use Rattle.session.specs.Refusals.{Row, call_rows, rows_under, times_under, in_range, row_of, limit_at, length_at, busy, idle_bad, of_session, for_record, refusals, first_match, Underway}
use Rattle.session.specs.Claim1.{Single, one_refusal, refusal_number, Refused12, Accepts}
use Rattle.ground.proofs.Facts.{both, untrue, not_of_false}
use Rattle.session.proofs.Good.{limit_positive}
use Rattle.session.proofs.Cut.{stray_is}
use Rattle.session.proofs.Accepts.{decide_accepts, react_accepts}
use Rattle.session.proofs.Strays.{sound_step, refused_where}
use Rattle.session.proofs.Table.{all_below, below_pass, by_rules_lem}
use Rattle.session.proofs.AcceptedIff.{range_is}
use Rattle.session.proofs.Single.{single}

-- the limit and the read length of an instruction
abbrev limit_of : ℕ → Op → ℕ
limit_of code (write reg bytes len over after) = 0
limit_of code (read reg len slot finds over after) = 0
limit_of code (wait w) = wait_limit code w
limit_of code (range reg len slot over) = 0

abbrev length_of : Op → ℕ
length_of (write reg bytes len over after) = len
length_of (read reg len slot finds over after) = len
length_of (wait w) = 1
length_of (range reg len slot over) = len

abbrev same_at : ℕ → Row → ℕ → Op → Bool
same_at code r k op = eqb (limit_of code op) (limit_at r k) && eqb (length_of op) (length_at r k)

-- a row against instructions, from step k on: at each its limit and length, and after them no step
abbrev fits : ℕ → Row → ℕ → List Op → Bool
fits code r k [] = eqb k r.steps
fits code r k (op ∷ ops) = same_at code r k op && fits code r (suc k) ops

-- the row of a call is that of its program
abbrev agrees : Rules → ℕ → Bool
agrees rules code = eqb (ceiling_of rules code) (times_under rules * (row_of code (rows_under rules)).ceiling) && fits code (row_of code (rows_under rules)) 0 (ops_of (program_of rules code))

all_agree : (rules : Rules) → all_below (agrees rules) 1 (top_code rules) ≡ true
unfolding program_of programs top_code tuning ceiling_of call_rows
all_agree Rules.First = refl
all_agree Rules.Current = refl

agree : (rules : Rules) (code a b : ℕ) → arguments_ok rules code a b ≡ true → agrees rules code ≡ true
agree rules = by_rules_lem rules (λ code. agrees rules code ≡ true) (below_pass (agrees rules) 1 (top_code rules) (all_agree rules))

-- what is so at step k, with the instructions from there on
abbrev At : ℕ → Row → ℕ → List Op → Type 0
At code r k [] = r.steps ≤ k
At code r k (op ∷ ops) = (k < r.steps) × (limit_of code op ≡ limit_at r k) × (length_of op ≡ length_at r k)

more_steps : (code : ℕ) (r : Row) (k : ℕ) (ops : List Op) → fits code r k ops ≡ true → k ≤ r.steps
more_steps code r k [] e = let q : k ≡ r.steps = eqb-true k r.steps e in omega (arith, q)
more_steps code r k (op ∷ ops) e =
    let q = both (same_at code r k op) (fits code r (suc k) ops) e in
    omega (arith, more_steps code r (suc k) ops q.1)

at_step : (code : ℕ) (r : Row) (j : ℕ) (ops : List Op) → fits code r j ops ≡ true → (k : ℕ) → At code r (j + k) (drop k ops)
at_step code r j [] e zero = let q : j ≡ r.steps = eqb-true j r.steps e in omega (arith, q)
at_step code r j [] e (suc k) = let q : j ≡ r.steps = eqb-true j r.steps e in omega (arith, q)
at_step code r j (op ∷ ops) e zero =
    let q = both (same_at code r j op) (fits code r (suc j) ops) e in
    let p = both (eqb (limit_of code op) (limit_at r j)) (eqb (length_of op) (length_at r j)) q.0 in
    rw (add-zero j) (omega (arith, more_steps code r (suc j) ops q.1), eqb-true (limit_of code op) (limit_at r j) p.0, eqb-true (length_of op) (length_at r j) p.1)
at_step code r j (op ∷ ops) e (suc k) =
    let q = both (same_at code r j op) (fits code r (suc j) ops) e in
    subst (λ n. At code r n (drop k ops)) (suc-add j k ∙ sym (add-suc j k)) (at_step code r (suc j) ops q.1 k)

idle_op : (code : ℕ) (op : Op) (ops : List Op) (i : ℕ) → idle_wrong code (op ∷ ops) i ≡ idle_bad (limit_of code op) i
idle_op code (write reg bytes len over after) ops i = refl
idle_op code (read reg len slot finds over after) ops i = refl
idle_op code (wait w) ops i = rw (ne_eqb (wait_limit code w) 0 (λ e. omega (arith, limit_positive code w)))
idle_op code (range reg len slot over) ops i = refl

idle_is : (code : ℕ) (r : Row) (k : ℕ) (ops : List Op) (i : ℕ) → At code r k ops → idle_wrong code ops i ≡ leb r.steps k || idle_bad (limit_at r k) i
idle_is code r k [] i h = rw (le-leb r.steps k h)
idle_is code r k (op ∷ ops) i h = rw (lt-leb r.steps k h.0) (idle_op code op ops i ∙ ap (λ n. idle_bad n i) h.1)

asked : (op : Op) (s : Session) → (send_of op (context_of s)).reads ≡ length_of op
asked (write reg bytes len over after) s = refl
asked (read reg len slot finds over after) s = refl
asked (wait w) s = refl
asked (range reg len slot over) s = refl

-- the session
up_is : (code : ℕ) (up : Bool) → up_wrong code up ≡ (eqb code 1 && up) || (not (eqb code 1) && not up)
up_is code up = go (eqb code 1) up
  where
    go : (b u : Bool) → cond b u (not u) ≡ (b && u) || (not b && not u)
    go true true = refl
    go true false = refl
    go false true = refl
    go false false = refl

sound_arguments : (rules : Rules) (s : Session) → malformed rules s ≡ false → arguments_ok rules s.code s.a s.b ≡ true
unfolding malformed
sound_arguments rules s m = go (arguments_ok rules s.code s.a s.b) refl
  where
    go : (t : Bool) → arguments_ok rules s.code s.a s.b ≡ t → arguments_ok rules s.code s.a s.b ≡ true
    go true e = e
    go false e = untrue (sym (rw e at m))

-- the seven conditions together
abbrev bad7 : Rules → Session → Bool
bad7 rules s =
    (((not (in_range s.code s.a s.b (rows_under rules))
    || ((eqb s.code 1 && s.driver.up) || (not (eqb s.code 1) && not s.driver.up)))
    || (leb (row_of s.code (rows_under rules)).steps s.step || idle_bad (limit_at (row_of s.code (rows_under rules)) s.step) s.idle))
    || eqb s.transfers 0)
    || ltb (times_under rules * (row_of s.code (rows_under rules)).ceiling) s.transfers

or_same : {a b c d : Bool} → a ≡ b → c ≡ d → a || c ≡ b || d
or_same {a} {b} {c} {d} p q = ap (λ t. t || c) p ∙ ap (λ t. b || t) q

-- what the row of a call says at its step
at_call : (rules : Rules) (s : Session) → arguments_ok rules s.code s.a s.b ≡ true
    → (ceiling_of rules s.code ≡ times_under rules * (row_of s.code (rows_under rules)).ceiling) × At s.code (row_of s.code (rows_under rules)) s.step (drop s.step (ops_of (program_of rules s.code)))
at_call rules s e =
    let r = row_of s.code (rows_under rules) in
    let q = both (eqb (ceiling_of rules s.code) (times_under rules * r.ceiling)) (fits s.code r 0 (ops_of (program_of rules s.code))) (agree rules s.code s.a s.b e) in
    (eqb-true (ceiling_of rules s.code) (times_under rules * r.ceiling) q.0, subst (λ n. At s.code r n (drop s.step (ops_of (program_of rules s.code)))) (zero-add s.step) (at_step s.code r 0 (ops_of (program_of rules s.code)) q.1 s.step))

malformed_is : (rules : Rules) (s : Session) → malformed rules s ≡ bad7 rules s
unfolding malformed
malformed_is rules s = go (arguments_ok rules s.code s.a s.b) refl
  where
    go : (t : Bool) → arguments_ok rules s.code s.a s.b ≡ t → malformed rules s ≡ bad7 rules s
    go false e = rw (e, sym (range_is rules s.code s.a s.b) ∙ e)
    go true e =
        let q = at_call rules s e in
        or_same
        (or_same
        (or_same
        (or_same (ap not (range_is rules s.code s.a s.b)) (up_is s.code s.driver.up))
        (idle_is s.code (row_of s.code (rows_under rules)) s.step (drop s.step (ops_of (program_of rules s.code))) s.idle q.1))
        refl)
        (ap (λ n. ltb n s.transfers) q.0)

seven : (w c₁ c₂ c₃ c₄ c₅ c₆ c₇ : Bool) (xs : List (Bool × ℕ))
    → first_match ((w && c₁, 15) ∷ (w && c₂, 15) ∷ (w && c₃, 15) ∷ (w && c₄, 15) ∷ (w && c₅, 15) ∷ (w && c₆, 15) ∷ (w && c₇, 15) ∷ xs)
    ≡ cond (w && ((((c₁ || (c₂ || c₃)) || (c₄ || c₅)) || c₆) || c₇)) 15 (first_match xs)
seven false c₁ c₂ c₃ c₄ c₅ c₆ c₇ xs = refl
seven true true c₂ c₃ c₄ c₅ c₆ c₇ xs = refl
seven true false true c₃ c₄ c₅ c₆ c₇ xs = refl
seven true false false true c₄ c₅ c₆ c₇ xs = refl
seven true false false false true c₅ c₆ c₇ xs = refl
seven true false false false false true c₆ c₇ xs = refl
seven true false false false false false true c₇ xs = refl
seven true false false false false false false true xs = refl
seven true false false false false false false false xs = refl

rows_are : (rules : Rules) (s : Session) (xs : List (Bool × ℕ)) → first_match (of_session rules s ++ xs) ≡ cond (ill_formed rules s) 15 (first_match xs)
rows_are rules s xs =
    seven (busy s) (not (in_range s.code s.a s.b (rows_under rules))) (eqb s.code 1 && s.driver.up) (not (eqb s.code 1) && not s.driver.up)
    (leb (row_of s.code (rows_under rules)).steps s.step) (idle_bad (limit_at (row_of s.code (rows_under rules)) s.step) s.idle) (eqb s.transfers 0) (ltb (times_under rules * (row_of s.code (rows_under rules)).ceiling) s.transfers) xs
    ∙ ap (λ t. cond (busy s && t) 15 (first_match xs)) (sym (malformed_is rules s))

table_is : (rules : Rules) (s : Session) (r : Record) → first_match (refusals rules s r) ≡ cond (ill_formed rules s) 15 (first_match (for_record rules s r))
table_is rules s r = rows_are rules s (for_record rules s r)

-- a call that waits in a session that 15 lets pass
pub sound_of : (rules : Rules) (s : Session) → Underway rules s → (waits_now s ≡ true) × (malformed rules s ≡ false)
sound_of rules s u = (u.waiting, go (malformed rules s) refl)
  where
    go : (m : Bool) → malformed rules s ≡ m → malformed rules s ≡ false
    go false e = e
    go true e = let z : ◌≡◌ {A = ℕ} 15 0 = sym (rows_are rules s [] ∙ rw (u.waiting, e)) ∙ u.sound in absurd (omega (arith, z))

underway_of : (rules : Rules) (s : Session) → waits_now s ≡ true → malformed rules s ≡ false → Underway rules s
underway_of rules s w m = record { waiting = w; sound = rows_are rules s [] ∙ rw (w, m) }

pub refused_12 : (rules : Rules) (s : Session) (f : ℕ) (bs : List ℕ) → (step_def rules s (reply f bs) ≡ refused Answer.StrayByte s) ↔ Refused12 rules s f bs
refused_12 rules s f bs = (there, back)
  where
    there : step_def rules s (reply f bs) ≡ refused Answer.StrayByte s → Refused12 rules s f bs
    there e =
        let q = (refused_where rules s f bs).0 e in
        record { underway = underway_of rules s (not_of_false (ne_eqb s.code 0 q.waiting)) q.sound; stray = q.stray }

    back : Refused12 rules s f bs → step_def rules s (reply f bs) ≡ refused Answer.StrayByte s
    back r =
        let q = sound_of rules s r.underway in
        (refused_where rules s f bs).1 (record { waiting = eqb-false s.code 0 (not-true (eqb s.code 0) q.0); sound = q.1; stray = r.stray })

accepted_0 : (o : Outcome) → Accepts o → refusal_number o ≡ 0
accepted_0 (sent t s) h = refl
accepted_0 (answered x n s) h = refl
accepted_0 (refused x s) h = absurd h
accepted_0 (broken s) h = absurd h

cond_at : (f : Outcome → ℕ) (b b' : Bool) {x y : Outcome} {m n : ℕ} → b ≡ b' → f x ≡ m → f y ≡ n → f (cond b x y) ≡ cond b' m n
cond_at f b b' {x} {y} {m} {n} e p q = go b b' e
  where
    go : (c c' : Bool) → c ≡ c' → f (cond c x y) ≡ cond c' m n
    go true true h = p
    go false false h = q
    go true false h = untrue (sym h)
    go false true h = untrue h

not_up_is : (code : ℕ) (up : Bool) → not_up code up ≡ not (eqb code 1) && not up
not_up_is code up = go (eqb code 1)
  where
    go : (b : Bool) → cond b false (not up) ≡ not b && not up
    go true = refl
    go false = refl

on_ops_lem : (rules : Rules) (s : Session) (f : ℕ) (bs : List ℕ) → malformed rules s ≡ false
    → refusal_number (on_ops (drop s.step (ops_of (program_of rules s.code))) (program_of rules s.code) s f bs)
    ≡ first_match ((not (zero_from (clean_from f (length_at (row_of s.code (rows_under rules)) s.step)) bs), 12) ∷ [])
on_ops_lem rules s f bs m = go (drop s.step (ops_of (program_of rules s.code))) (at_call rules s (sound_arguments rules s m)).1 (sound_step rules s m)
  where
    go : (l : List Op) → At s.code (row_of s.code (rows_under rules)) s.step l → idle_wrong s.code l s.idle ≡ false
        → refusal_number (on_ops l (program_of rules s.code) s f bs) ≡ cond (not (zero_from (clean_from f (length_at (row_of s.code (rows_under rules)) s.step)) bs)) 12 0
    go [] e i = untrue (sym i)
    go (op ∷ rest) e i =
        cond_at refusal_number (stray (send_of op (context_of s)) f bs) (not (zero_from (clean_from f (length_at (row_of s.code (rows_under rules)) s.step)) bs))
        (stray_is (send_of op (context_of s)) f bs
        ∙ ap (λ n. not (zero_from (clean_from f n) bs)) (asked op s ∙ e.2))
        refl (accepted_0 (react op (program_of rules s.code) s (to_reply f bs)) (react_accepts op (program_of rules s.code) s (to_reply f bs)))

-- one record meets one session
pub refused_by_table : (rules : Rules) (s : Session) (r : Record) → refusal_number (step_def rules s r) ≡ first_match (refusals rules s r)
unfolding step_def begin_def reply_def other_def
refused_by_table rules s (call code a b) =
    cond_at refusal_number (ill_formed rules s) (ill_formed rules s) refl refl
    (cond_at refusal_number (not (arguments_ok rules code a b)) (not (in_range code a b (rows_under rules))) (ap not (range_is rules code a b)) refl
    (cond_at refusal_number (waits_now s) (busy s) refl refl
    (cond_at refusal_number (not_up code s.driver.up) (not (eqb code 1) && not s.driver.up) (not_up_is code s.driver.up) refl
    (accepted_0 (decide ((program_of rules code).entry (context_of (begun s code a b))) (program_of rules code) (length (program_of rules code).steps) 0 (begun s code a b)) (decide_accepts ((program_of rules code).entry (context_of (begun s code a b))) (program_of rules code) (length (program_of rules code).steps) 0 (begun s code a b))))))
    ∙ sym (table_is rules s (call code a b))
refused_by_table rules s (reply f bs) = go (waits_now s) (malformed rules s) refl ∙ sym (table_is rules s (reply f bs))
  where
    go : (w m : Bool) → malformed rules s ≡ m
        → refusal_number (cond (w && m) (broken s) (cond (not w) (refused Answer.NoCallWaits s) (on_ops (drop s.step (ops_of (program_of rules s.code))) (program_of rules s.code) s f bs)))
        ≡ cond (w && m) 15 (first_match ((not w, 11) ∷ (not (zero_from (clean_from f (length_at (row_of s.code (rows_under rules)) s.step)) bs), 12) ∷ []))
    go false m h = refl
    go true true h = refl
    go true false h = on_ops_lem rules s f bs h
refused_by_table rules s other = cond_at refusal_number (ill_formed rules s) (ill_formed rules s) refl refl refl ∙ sym (table_is rules s other)

-- and accepted exactly where the table has nothing
pub not_refused : (rules : Rules) (s : Session) (r : Record) → first_match (refusals rules s r) ≡ 0 → Accepts (step_def rules s r)
not_refused rules s r e = go (step_def rules s r) (single rules s r) (refused_by_table rules s r ∙ e)
  where
    go : (o : Outcome) → Single rules s o → refusal_number o ≡ 0 → Accepts o
    go (sent t s') x z = tt
    go (answered y n s') x z = tt
    go (refused y s') (one_refusal x h k) z = absurd (omega (arith, h))
    go (broken s') x z = absurd (omega (arith, z))
