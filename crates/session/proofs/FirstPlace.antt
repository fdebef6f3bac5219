-- The budget reads of a session that is handed in: a reply leads where the Rust is after the carried bytes as replies and then this one.
use mathlib.Core.Path.{◌≡◌, refl, sym, ap, subst, ◌∙◌}
use mathlib.Core.List.{List, [], ◌∷◌, ◌++◌, map}
use Prim.Native.Nat.{ℕ, zero, suc, ◌+◌, ◌≤◌}
use native.Mathlib.Omega.{arith}
use borrow.Author.Tests.{ne_eqb}
use lib.ListN.{length, get_or, take, drop}
use lib.Seq.{take-suc, set-get_or, drop-drop}
use Rattle.std.specs.List.{drop-map}
use Rattle.std.specs.Prelude.{Option, None, Some, Result, Ok, Err}
use Rattle.clock.specs.declared.Place.{Place}
use Rattle.clock.specs.Places.{place_number}
use Rattle.timing.specs.Places.{first_place}
use Rattle.timing.proofs.Stays.{first_place_stays}
use Rattle.budget.specs.declared.DssTerm.{DssTerm}
use Rattle.budget.specs.declared.NoWord.{NoWord}
use Rattle.budget.specs.Budget.{final_range_word}
use Rattle.session.specs.declared.Rules.{Rules}
use Rattle.session.specs.Bus.{byte, Transfer, Answer, Driver, Reply, good, data_in}
use Rattle.session.specs.Instructions.{Instruction, Context, Op, Final, bytes_from, put, timing_in, send_of, timing_slot}
use Rattle.session.specs.declared.Setting.{Setting}
use Rattle.session.specs.Rules.{dss_term_of}
use Rattle.session.specs.Steps.{by_place, by_word, no_time, over_last, word_to_set, timing_length, timing_place, op_of}
use Rattle.session.specs.Calls.{ops_of, timing_reads, tuning, bring_up_steps, programs, program_of}
use Rattle.session.specs.Machine.{Session, context_of, first_transfer_out, outstanding}
use Rattle.session.specs.Records.{reply}
use Rattle.session.specs.History.{step_def}
use Rattle.session.specs.Script.{Script, done, send, cut}
use Rattle.session.specs.RustFn.{◌>>◌, Ok as Fine, write_byte}
use Rattle.session.specs.RustCalls.{start_timed, set_measurement_timing_budget}
use Rattle.session.specs.RustBringUp.{method, unit, constructed, calibration}
use Rattle.session.specs.AnySession.{keeping, decided, resume, left_of, left, hears, StandsAt, budget_replies, after_replies, BudgetReply, in_call_15, in_call_9, in_bring_up, again_in_bring_up, FirstPlace, of_call_9, of_bring_up, WordOut, StepsWritten, chip_in, FirstPlaceOfPeriod}
use Rattle.ground.proofs.Facts.{clash, drop_next}
use Rattle.session.proofs.Tests.{none_known}
use Rattle.session.proofs.Later.{earlier_same}
use Rattle.session.proofs.OneStep.{step_by_step}
use Rattle.session.proofs.FromReads.{from_step, view, view_is, from_15, from_9, from_1, again_from_1, steps_from_1, from_4}

-- ---- scripts after replies
after_snoc : (x : Script) (rs : List Reply) (r : Reply) → after_replies x (rs ++ r ∷ []) ≡ hears (after_replies x rs) r
after_snoc x [] r = refl
after_snoc x (q ∷ rs) r = after_snoc (hears x q) rs r

-- the panic of a place, or x
abbrev ended : Option Place → Driver → Script → Script
ended None d x = x
ended (Some p) d x = done (Answer.Panic (place_number p)) d

by_place_ends : (p : Option Place) (over : ℕ) (c : Context) (κ : ℕ → Script) → decided (by_place p) over c κ ≡ ended p c.driver (κ zero)
by_place_ends None over c κ = refl
by_place_ends (Some p) over c κ = refl

-- ---- the n-th reply, read again
abbrev data_at : ℕ → ℕ → List ℕ → List ℕ
data_at n k l = data_in (get_or (budget_replies k l) n (good []))

reply_is : (n k : ℕ) (l : List ℕ) → n ≤ 5 → get_or (budget_replies k l) n (good []) ≡ good (data_at n k l)
reply_is zero k l h = refl
reply_is (suc zero) k l h = refl
reply_is (suc (suc zero)) k l h = refl
reply_is (suc (suc (suc zero))) k l h = refl
reply_is (suc (suc (suc (suc zero)))) k l h = refl
reply_is (suc (suc (suc (suc (suc zero))))) k l h = refl
reply_is (suc (suc (suc (suc (suc (suc n)))))) k l h = absurd (omega arith)

-- the two slots from which budget replies are carried
pub data Slot : ℕ → Type 0 where
  first : Slot 8
  second : Slot 16

-- bytes that are kept where they were change nothing
kept_again : {k : ℕ} → Slot k → (n : ℕ) → n ≤ 4 → (c : Context) → keeping c (op_of (Instruction.ReadTiming (suc n) k)) (good (data_at n k c.carried)) ≡ c
kept_again first zero h c = rw (set-get_or c.carried 8 0) refl
kept_again first (suc zero) h c = rw (set-get_or c.carried 9 0, set-get_or c.carried 10 0) refl
kept_again first (suc (suc zero)) h c = rw (set-get_or c.carried 11 0, set-get_or c.carried 12 0) refl
kept_again first (suc (suc (suc zero))) h c = rw (set-get_or c.carried 13 0) refl
kept_again first (suc (suc (suc (suc zero)))) h c = rw (set-get_or c.carried 14 0) refl
kept_again first (suc (suc (suc (suc (suc n))))) h c = absurd (omega arith)
kept_again second zero h c = rw (set-get_or c.carried 16 0) refl
kept_again second (suc zero) h c = rw (set-get_or c.carried 17 0, set-get_or c.carried 18 0) refl
kept_again second (suc (suc zero)) h c = rw (set-get_or c.carried 19 0, set-get_or c.carried 20 0) refl
kept_again second (suc (suc (suc zero))) h c = rw (set-get_or c.carried 21 0) refl
kept_again second (suc (suc (suc (suc zero)))) h c = rw (set-get_or c.carried 22 0) refl
kept_again second (suc (suc (suc (suc (suc n))))) h c = absurd (omega arith)

-- ---- the read of the reply n + 1, and what a place of the first n makes of it
pub data Nth (k : ℕ) : ℕ → Instruction → Type 0 where
  timing : (n : ℕ) → Nth k n (Instruction.ReadTiming (suc n) k)
  found : k ≡ timing_slot → Nth k 5 Instruction.FindBudget
  word : (x : Setting) (dss : DssTerm) → Nth k 5 (Instruction.ReadLast k x dss)

known_place : (fin : Context → Final) {n k : ℕ} {i : Instruction} → Nth k n i → n ≤ 5
    → (ops : List Op) (c : Context) (bs : List ℕ) (p : Place) → first_place (timing_in k c.carried) n ≡ Some p
    → hears (resume fin zero (op_of i ∷ ops) c) (good bs) ≡ done (Answer.Panic (place_number p)) c.driver
unfolding final_range_word
known_place fin {n} {k} (timing _) h ops c bs p e =
    let r = timing_in k (put c.carried (k + timing_place (suc n)) (bytes_from 0 (timing_length (suc n)) bs)) in
    let q : first_place r (suc n) ≡ Some p = first_place_stays r n (suc n) p (omega arith) (earlier_same n h k c.carried (bytes_from 0 (timing_length (suc n)) bs) ∙ e) in
    rw q
known_place fin {n} {k} (found at) h ops c bs p e =
    let r = timing_in timing_slot (put c.carried (timing_slot + 7) (bytes_from 0 1 bs)) in
    let e' : first_place (timing_in timing_slot c.carried) 5 ≡ Some p = rw at at e in
    let q : first_place r 6 ≡ Some p = first_place_stays r 5 6 p (omega arith) (earlier_same 5 h timing_slot c.carried (bytes_from 0 1 bs) ∙ e') in
    rw q
known_place fin {n} {k} (word x dss) h ops c bs p e =
    let r = timing_in k (put c.carried (k + 7) (bytes_from 0 1 bs)) in
    let q : first_place r 6 ≡ Some p = first_place_stays r 5 6 p (omega arith) (earlier_same 5 h k c.carried (bytes_from 0 1 bs) ∙ e) in
    rw q

-- ---- six reads and what follows them, from a session that carries some of them
module _ (fin : Context → Final) {k : ℕ} (slot : Slot k) {i : Instruction} (sixth : Nth k 5 i) (rest : List Instruction) where
  abbrev ops : List Op
  ops = map op_of (timing_reads k ++ i ∷ rest)

  abbrev from : ℕ → Context → Script
  from n c = resume fin zero (drop n ops) c

  record Next (n : ℕ) : Type 0 where
    instruction : Instruction
    others : List Op
    at : drop n ops ≡ op_of instruction ∷ others
    kind : Nth k n instruction

  next : (n : ℕ) → n ≤ 5 → Next n
  next zero h = record { instruction = Instruction.ReadTiming 1 k; others = drop 1 ops; at = refl; kind = timing 0 }
  next (suc zero) h = record { instruction = Instruction.ReadTiming 2 k; others = drop 2 ops; at = refl; kind = timing 1 }
  next (suc (suc zero)) h = record { instruction = Instruction.ReadTiming 3 k; others = drop 3 ops; at = refl; kind = timing 2 }
  next (suc (suc (suc zero))) h = record { instruction = Instruction.ReadTiming 4 k; others = drop 4 ops; at = refl; kind = timing 3 }
  next (suc (suc (suc (suc zero)))) h = record { instruction = Instruction.ReadTiming 5 k; others = drop 5 ops; at = refl; kind = timing 4 }
  next (suc (suc (suc (suc (suc zero))))) h = record { instruction = i; others = map op_of rest; at = refl; kind = sixth }
  next (suc (suc (suc (suc (suc (suc n)))))) h = absurd (omega arith)

  -- with the place that the first n replies show
  on_reads : (n : ℕ) → n ≤ 4 → (c : Context) (x : Option Place) → first_place (timing_in k c.carried) n ≡ x → {i' : Instruction} {others : List Op}
      → drop n ops ≡ op_of i' ∷ others → Nth k n i'
      → hears (ended x c.driver (from n c)) (good (data_at n k c.carried)) ≡ ended (first_place (timing_in k c.carried) (suc n)) c.driver (from (suc n) c)
  on_reads n h c (Some p) e at x = rw (first_place_stays (timing_in k c.carried) n (suc n) p (omega arith) e) refl
  on_reads n h c None e at (found q) = absurd (omega arith)
  on_reads n h c None e at (word x dss) = absurd (omega arith)
  on_reads n h c None e {others = others} at (timing _) =
      let there : drop (suc n) ops ≡ others = drop_next n ops at in
      let after : Context → Script = λ c'. decided (by_place (first_place (timing_in k c'.carried) (suc n))) 0 c' (λ m. resume fin m others c') in
      ap (λ l. hears (resume fin zero l c) (good (data_at n k c.carried))) at
      ∙ ap after (kept_again slot n h c)
      ∙ by_place_ends (first_place (timing_in k c.carried) (suc n)) 0 c (λ m. resume fin m others c)
      ∙ ap (λ l. ended (first_place (timing_in k c.carried) (suc n)) c.driver (resume fin zero l c)) (sym there)

  carried_replies : (n : ℕ) → n ≤ 5 → (c : Context)
      → after_replies (from 0 c) (take n (budget_replies k c.carried)) ≡ ended (first_place (timing_in k c.carried) n) c.driver (from n c)
  carried_replies zero h c = rw (none_known (timing_in k c.carried)) refl
  carried_replies (suc n) h c =
      let h₅ : n ≤ 5 = omega arith in
      let h₄ : n ≤ 4 = omega arith in
      let x = next n h₅ in
      ap (after_replies (from 0 c)) (take-suc (budget_replies k c.carried) n (good []) (omega arith))
      ∙ after_snoc (from 0 c) (take n (budget_replies k c.carried)) (get_or (budget_replies k c.carried) n (good []))
      ∙ ap (λ y. hears y (get_or (budget_replies k c.carried) n (good []))) (carried_replies n h₅ c)
      ∙ ap (hears (ended (first_place (timing_in k c.carried) n) c.driver (from n c))) (reply_is n k c.carried h₅)
      ∙ on_reads n h₄ c (first_place (timing_in k c.carried) n) refl x.at x.kind

  next_reply : (n : ℕ) → n ≤ 5 → (c : Context) (bs : List ℕ)
      → hears (from n c) (good bs) ≡ after_replies (from 0 c) (take n (budget_replies k c.carried) ++ good bs ∷ [])
  next_reply n h c bs =
      go (first_place (timing_in k c.carried) n) refl
      ∙ ap (λ y. hears y (good bs)) (sym (carried_replies n h c))
      ∙ sym (after_snoc (from 0 c) (take n (budget_replies k c.carried)) (good bs))
    where
      go : (x : Option Place) → first_place (timing_in k c.carried) n ≡ x
          → hears (from n c) (good bs) ≡ hears (ended (first_place (timing_in k c.carried) n) c.driver (from n c)) (good bs)
      go None e = rw e refl
      go (Some p) e =
          let x = next n h in
          rw e (ap (λ l. hears (resume fin zero l c) (good bs)) x.at ∙ known_place fin x.kind h x.others c bs p e)

-- ---- a session that waits for one of them
first_read : (fin : Context → Final) {k n : ℕ} {i : Instruction} → Nth k n i → (idle : ℕ) (l : List Op) (c : Context)
    → left_of fin idle (op_of i ∷ l) c ≡ resume fin zero (op_of i ∷ l) c
first_read fin (timing n) idle l c = refl
first_read fin (found q) idle l c = refl
first_read fin (word x dss) idle l c = refl

-- j instructions come before the six reads, and `x` is what the call is from there on
module _ (rules : Rules) (s : Session) (code j n : ℕ) {k : ℕ} (slot : Slot k) {i : Instruction} (sixth : Nth k 5 i) (rest : List Instruction)
    (reads : drop j (program_of rules code).steps ≡ timing_reads k ++ i ∷ rest)
    (e : s.code ≡ code) (step : s.step ≡ j + n) (h : n ≤ 5) where
  left_is : left rules s ≡ from (program_of rules code).final slot sixth rest n (context_of s)
  left_is =
      let fin = (program_of rules code).final in
      let steps = (program_of rules code).steps in
      let x = next fin slot sixth rest n h in
      let at : drop s.step (map op_of steps) ≡ drop n (map op_of (timing_reads k ++ i ∷ rest)) =
      ap (λ m. drop m (map op_of steps)) step
      ∙ sym (drop-drop n j (map op_of steps))
      ∙ ap (drop n) (drop-map op_of j steps ∙ ap (map op_of) reads)
      in
      ap (λ m. left_of (program_of rules m).final s.idle (drop s.step (ops_of (program_of rules m))) (context_of s)) e
      ∙ ap (λ l. left_of fin s.idle l (context_of s)) (at ∙ x.at)
      ∙ first_read fin x.kind s.idle x.others (context_of s)
      ∙ ap (λ l. resume fin zero l (context_of s)) (sym x.at)

  reply_leads : (x : Script) → length s.carried ≡ 24 → from_step rules code j (view rules s code) ≡ x → (bs : List ℕ)
      → hears (left rules s) (good bs) ≡ after_replies x (take n (budget_replies k s.carried) ++ good bs ∷ [])
  reply_leads x len leads bs =
      ap (λ y. hears y (good bs)) left_is
      ∙ next_reply (program_of rules code).final slot sixth rest n h (context_of s) bs
      ∙ ap (λ y. after_replies y (take n (budget_replies k s.carried) ++ good bs ∷ []))
      (ap (λ is. resume (program_of rules code).final zero (map op_of is) (context_of s)) (sym reads)
      ∙ ap (from_step rules code j) (view_is rules s len ∙ ap (view rules s) e)
      ∙ leads)

reads_in : (rules : Rules) (s : Session) (n k : ℕ) (x : Script) → n ≤ 5 → BudgetReply rules s n k x → length s.carried ≡ 24 → (bs : List ℕ)
    → hears (left rules s) (good bs) ≡ after_replies x (take n (budget_replies k s.carried) ++ good bs ∷ [])
unfolding program_of programs tuning
reads_in rules s n k x h (in_call_15 e t) len = reply_leads rules s 15 0 n first (found refl) [] refl e (omega (arith, t)) h x len (from_15 rules s)
reads_in rules s n k x h (in_call_9 e t) len = reply_leads rules s 9 0 n first (word Setting.Asked (dss_term_of rules)) (Instruction.WriteWord 8 Setting.Asked (dss_term_of rules) ∷ []) refl e (omega (arith, t)) h x len (from_9 rules s)
reads_in rules s n k x h (in_bring_up e t) len = reply_leads rules s 1 129 n first (found refl) (drop 135 (bring_up_steps (dss_term_of rules))) refl e t h x len (from_1 rules s)
reads_in rules s n k x h (again_in_bring_up e t) len = reply_leads rules s 1 136 n second (word Setting.Found (dss_term_of rules)) (drop 142 (bring_up_steps (dss_term_of rules))) refl e t h x len (again_from_1 rules s)

pub first_place_law : (rules : Rules) (s : Session) (bs : List ℕ) → FirstPlace rules s bs
first_place_law rules s bs n k x h q u len z =
    subst (StandsAt rules s (step_def rules s (reply 0 bs))) (reads_in rules s n k x h q len (take (outstanding rules s).reads bs)) (step_by_step rules s 0 bs u z)

-- ---- the word that is out
-- what follows the last read, where it sends a word: `lead` is what follows where no time is left
module _ (k : ℕ) (x : Setting) (dss : DssTerm) (c : Context) (κ : ℕ → Script) (g : Reply → Script) (t : Transfer) (f : Reply → Script)
    (word : κ zero ≡ send (send_of (op_of (Instruction.WriteWord k x dss)) c) g)
    (short : decided (no_time x) (over_last x) c κ ≡ send t f → byte 0 t.written ≡ 0x71 → ⊥) where
  word_sent_is : (w : Result ℕ NoWord) → decided (by_word (no_time x) w) (over_last x) c κ ≡ send t f → byte 0 t.written ≡ 0x71
      → send_of (op_of (Instruction.WriteWord k x dss)) c ≡ t
  word_sent_is (Ok n) e z = let q : send (send_of (op_of (Instruction.WriteWord k x dss)) c) g ≡ send t f = sym word ∙ e in cc
  word_sent_is (Err NoWord.NoTime) e z = absurd (short e z)
  word_sent_is (Err (NoWord.Panic p)) e z = clash cc

-- the sixth reply, read again
kept_last : {k : ℕ} → Slot k → (x : Setting) (dss : DssTerm) (c : Context) → keeping c (op_of (Instruction.ReadLast k x dss)) (good (data_at 5 k c.carried)) ≡ c
kept_last first x dss c = rw (set-get_or c.carried 15 0) refl
kept_last second x dss c = rw (set-get_or c.carried 23 0) refl

again : {k : ℕ} → Slot k → (x : Setting) (dss : DssTerm) (fin : Context → Final) (ops : List Op) (c : Context) (t : Transfer) (f : Reply → Script)
    → ((c' : Context) → decided (no_time x) (over_last x) c' (λ m. resume fin m (op_of (Instruction.WriteWord k x dss) ∷ ops) c') ≡ send t f → byte 0 t.written ≡ 0x71 → ⊥)
    → hears (resume fin zero (op_of (Instruction.ReadLast k x dss) ∷ op_of (Instruction.WriteWord k x dss) ∷ ops) c) (good (data_at 5 k c.carried)) ≡ send t f
    → byte 0 t.written ≡ 0x71 → send_of (op_of (Instruction.WriteWord k x dss)) c ≡ t
again {k} slot x dss fin ops c t f short e z =
    let c' : Context = keeping c (op_of (Instruction.ReadLast k x dss)) (good (data_at 5 k c.carried)) in
    ap (send_of (op_of (Instruction.WriteWord k x dss))) (sym (kept_last slot x dss c))
    ∙ word_sent_is k x dss c' (λ m. resume fin m (op_of (Instruction.WriteWord k x dss) ∷ ops) c') _ t f refl (short c') (word_to_set k x dss c') e z

-- the six replies as carried, and the script from the first read on
six_replies : (rules : Rules) (code j : ℕ) (s : Session) {k : ℕ} (slot : Slot k) {i : Instruction} (sixth : Nth k 5 i) (rest : List Instruction)
    → drop j (program_of rules code).steps ≡ timing_reads k ++ i ∷ rest → s.code ≡ code → length s.carried ≡ 24 → (x : Script) → from_step rules code j (view rules s code) ≡ x
    → hears (from (program_of rules code).final slot sixth rest 5 (context_of s)) (good (data_at 5 k s.carried)) ≡ after_replies x (budget_replies k s.carried)
six_replies rules code j s {k} slot sixth rest reads e len x leads =
    next_reply (program_of rules code).final slot sixth rest 5 (omega arith) (context_of s) (data_at 5 k s.carried)
    ∙ ap (λ y. after_replies y (budget_replies k s.carried))
    (ap (λ is. resume (program_of rules code).final zero (map op_of is) (context_of s)) (sym reads)
    ∙ ap (from_step rules code j) (view_is rules s len ∙ ap (view rules s) e)
    ∙ leads)

pub word_out : (rules : Rules) (s : Session) → WordOut rules s
unfolding program_of programs tuning
word_out rules s k x t f (of_call_9 e p) len h z =
    ap (λ m. first_transfer_out (drop s.step (ops_of (program_of rules m))) (context_of s)) e
    ∙ ap (λ m. first_transfer_out (drop m (ops_of (program_of rules 9))) (context_of s)) p
    ∙ again first Setting.Asked (dss_term_of rules) (program_of rules 9).final [] (context_of s) t f (λ c' h' y. clash cc) (six_replies rules 9 0 s first (word Setting.Asked (dss_term_of rules)) (Instruction.WriteWord 8 Setting.Asked (dss_term_of rules) ∷ []) refl e len x (from_9 rules s) ∙ h) z
word_out rules s k x t f (of_bring_up e p) len h z =
    ap (λ m. first_transfer_out (drop s.step (ops_of (program_of rules m))) (context_of s)) e
    ∙ ap (λ m. first_transfer_out (drop m (ops_of (program_of rules 1))) (context_of s)) p
    ∙ again second Setting.Found (dss_term_of rules) (program_of rules 1).final (map op_of (drop 143 (bring_up_steps (dss_term_of rules)))) (context_of s) t f
    (λ c' h' y. let same : send_of (op_of (Instruction.Write 0x01 0x01)) c' ≡ t = cc in let n : ◌≡◌ {A = ℕ} 0x01 0x71 = ap (λ x. byte 0 x.written) same ∙ y in absurd (omega (arith, n)))
    (six_replies rules 1 136 s second (word Setting.Found (dss_term_of rules)) (drop 142 (bring_up_steps (dss_term_of rules))) refl e len x (again_from_1 rules s) ∙ h) z

-- ---- the sequence steps of a bring-up
steps_lead : (rules : Rules) (s : Session) → s.code ≡ 1 → s.step ≡ 135 → length s.carried ≡ 24 → left rules s ≡ constructed (chip_in s s.found_budget) (write_byte 0x01 0xE8 >> (set_measurement_timing_budget rules s.found_budget >> calibration))
unfolding program_of programs tuning
steps_lead rules s e t len =
    ap (λ m. left_of (program_of rules m).final s.idle (drop s.step (ops_of (program_of rules m))) (context_of s)) e
    ∙ ap (λ m. left_of (program_of rules 1).final s.idle (drop m (ops_of (program_of rules 1))) (context_of s)) t
    ∙ ap (from_step rules 1 135) (view_is rules s len ∙ ap (view rules s) e)
    ∙ steps_from_1 rules s

pub steps_written : (rules : Rules) (s : Session) (bs : List ℕ) → StepsWritten rules s bs
steps_written rules s bs e t u len z =
    subst (λ x. StandsAt rules s (step_def rules s (reply 0 bs)) (hears x (cut (outstanding rules s) 0 bs))) (steps_lead rules s e t len) (step_by_step rules s 0 bs u z)

-- ---- the oscillator word
period_leads : (rules : Rules) (s : Session) → s.code ≡ 4 → s.step ≡ 7 → (s.a ≡ 0 → ⊥) → length s.carried ≡ 24 → left rules s ≡ method unit s.driver (start_timed s.a >> Fine tt)
unfolding program_of programs
period_leads rules s e t positive len =
    ap (λ m. left_of (program_of rules m).final s.idle (drop s.step (ops_of (program_of rules m))) (context_of s)) e
    ∙ ap (λ m. left_of (program_of rules 4).final s.idle (drop m (ops_of (program_of rules 4))) (context_of s)) t
    ∙ ap (from_step rules 4 7) (view_is rules s len ∙ ap (view rules s) e)
    ∙ from_4 rules s (ne_eqb s.a 0 positive)

pub period_law : (rules : Rules) (s : Session) (bs : List ℕ) → FirstPlaceOfPeriod rules s bs
period_law rules s bs e t positive u len z =
    subst (λ x. StandsAt rules s (step_def rules s (reply 0 bs)) (hears x (cut (outstanding rules s) 0 bs))) (period_leads rules s e t positive len) (step_by_step rules s 0 bs u z)
