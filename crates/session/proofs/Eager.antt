-- A test that is made again after it has passed changes nothing: the instructions of a call are the script in which each test is made once.
use mathlib.Core.Path.{◌≡◌, refl, ap, ◌∙◌, fun_ext}
use mathlib.Core.Bool.{Bool, true, false, ◌&&◌}
use mathlib.Core.List.{List, [], ◌∷◌, map}
use Prim.Native.Nat.{ℕ, zero, suc, ◌≤◌}
use native.Mathlib.Omega.{arith}
use borrow.Author.Tests.{leb-true, eqb-true}
use lib.Dec.{eqb, leb}
use lib.ListN.{drop}
use Rattle.std.specs.Prelude.{None}
use Rattle.timing.specs.Places.{first_place}
use Rattle.session.specs.declared.Rules.{Rules}
use Rattle.session.specs.Bus.{Transfer, Answer, Reply, bad, good, wait_limit, idle_on}
use Rattle.session.specs.Instructions.{Instruction, Context, Op, write, read, wait, range, Final, timing_slot, bytes_from, timing_in, send_of}
use Rattle.session.specs.Steps.{slot, by_word, budget_to_set, word_to_set, no_time, over_last, timing_length, op_of}
use Rattle.session.specs.Calls.{ops_of, tuning, programs, program_of}
use Rattle.session.specs.Script.{Script, done, send, on_reply, wait_loop}
use Rattle.ground.proofs.Facts.{both, clash}
use Rattle.session.proofs.Table.{of_test}
use Rattle.session.specs.AnySession.{keeping, failing, resume}
use Rattle.session.proofs.Once.{Kind, timing, found, last, other, kind_of, once_by, once_of}
use Rattle.session.proofs.Tests.{none_known, first_agrees, word_agrees, place_same, verdict_same}
use Rattle.session.proofs.Later.{later_stays}

-- the first m replies from slot j on are clear
abbrev Clear : ℕ → ℕ → Context → Type 0
Clear m j c = first_place (timing_in j c.carried) m ≡ None

-- instructions none of which makes tests again
abbrev is_other : {i : Instruction} → Kind i → Bool
is_other (timing n k) = false
is_other found = false
is_other (last k x dss) = false
is_other other = true

abbrev plain : List Instruction → Bool
plain [] = true
plain (i ∷ is) = is_other (kind_of i) && plain is

-- so are those where a leap over n of them lands
abbrev plain_after : ℕ → List Instruction → Bool
plain_after zero is = true
plain_after (suc n) is = plain (drop (suc n) is)

abbrev pub over_of : Op → ℕ
over_of (write reg bytes len over after) = over
over_of (read reg len slot finds over after) = over
over_of (wait x) = 0
over_of (range reg len slot over) = over

-- the n-th read from slot k on comes right after the one before it
abbrev follows : ℕ → ℕ → ℕ → ℕ → Bool
follows zero k m j = false
follows (suc zero) k m j = true
follows (suc (suc i)) k m j = eqb m (suc i) && (eqb j k && leb m 5)

-- an instruction fits in where the first m replies from slot j on are clear
abbrev fits : {i : Instruction} → ℕ → ℕ → Kind i → List Instruction → Bool
fits m j (timing n k) is = follows n k m j
fits m j found is = follows 6 timing_slot m j
fits m j (last k x dss) is = follows 6 k m j && plain_after (over_last x) is
fits m j (other {i}) is = plain_after (over_of (op_of i)) is

-- what is clear after it
abbrev replies_by : {i : Instruction} → Kind i → ℕ
replies_by (timing n k) = n
replies_by found = 6
replies_by (last k x dss) = 0
replies_by other = 0

abbrev slot_by : {i : Instruction} → Kind i → ℕ
slot_by (timing n k) = k
slot_by found = timing_slot
slot_by (last k x dss) = 0
slot_by other = 0

-- each of the list fits in
abbrev pub ordered : ℕ → ℕ → List Instruction → Bool
ordered m j [] = true
ordered m j (i ∷ is) = fits m j (kind_of i) is && ordered (replies_by (kind_of i)) (slot_by (kind_of i)) is

-- the replies before it are clear
knows : (i k m j : ℕ) (c : Context) → follows (suc i) k m j ≡ true → Clear m j c → (i ≤ 5) × Clear i k c
knows zero k m j c h p = (omega arith, none_known (timing_in k c.carried))
knows (suc i) k m j c h p =
    let q = both (eqb m (suc i)) (eqb j k && leb m 5) h in
    let s = both (eqb j k) (leb m 5) q.1 in
    let e : m ≡ suc i = eqb-true m (suc i) q.0 in
    (omega (arith, leb-true m 5 s.1), rw (← e, ← eqb-true j k s.0) p)

-- and its own leaves them so
stays : (i k m j : ℕ) (c : Context) (bs : List ℕ) → follows (suc i) k m j ≡ true → Clear m j c → Clear i k (keeping c (op_of (Instruction.ReadTiming (suc i) k)) (good bs))
stays i k m j c bs h p =
    let q = knows i k m j c h p in
    later_stays i q.0 k c.carried (bytes_from 0 (timing_length (suc i)) bs) q.1

-- they are the same in both lists
plain_same : (is : List Instruction) → plain is ≡ true → map op_of is ≡ map once_of is
plain_same [] h = refl
plain_same (i ∷ is) h =
    let q = both (is_other (kind_of i)) (plain is) h in
    ap (λ o. o ∷ map op_of is) (one (kind_of i) q.0) ∙ ap (λ l. once_of i ∷ l) (plain_same is q.1)
  where
    one : {i : Instruction} (x : Kind i) → is_other x ≡ true → op_of i ≡ once_by x
    one (timing n k) q = clash cc
    one found q = clash cc
    one (last k x dss) q = clash cc
    one other q = refl

send_same : (t : Transfer) (fail : ℕ → Script) {g g' : List ℕ → Script} → ((bs : List ℕ) → g bs ≡ g' bs)
    → send t (λ r. on_reply r fail g) ≡ send t (λ r. on_reply r fail g')
send_same t fail {g} {g'} h = ap (send t) (fun_ext go)
  where
    go : (r : Reply) → on_reply r fail g ≡ on_reply r fail g'
    go (bad e) = refl
    go (good bs) = h bs

module _ (fin : Context → Final) where
  abbrev Same : List Instruction → Context → Type 0
  Same is c = resume fin zero (map op_of is) c ≡ resume fin zero (map once_of is) c

  leap_same : (n : ℕ) (is : List Instruction) (c : Context) → plain_after n is ≡ true → Same is c
      → resume fin n (map op_of is) c ≡ resume fin n (map once_of is) c
  leap_same zero is c h s = s
  leap_same (suc n) is c h s = past (suc n) is h
    where
      past : (n : ℕ) (is : List Instruction) → plain (drop n is) ≡ true → resume fin n (map op_of is) c ≡ resume fin n (map once_of is) c
      past zero is h = ap (λ l. resume fin zero l c) (plain_same is h)
      past (suc n) [] h = refl
      past (suc n) (i ∷ is) h = past n is h

  -- one operation that both lists have
  other_same : (op : Op) (is : List Instruction) (c : Context) → plain_after (over_of op) is ≡ true → ((c' : Context) → Same is c')
      → resume fin zero (op ∷ map op_of is) c ≡ resume fin zero (op ∷ map once_of is) c
  other_same (write reg bytes len over after) is c h s =
      send_same _ _ (λ bs. verdict_same (after c) over c _ _ (s c) (leap_same over is c h (s c)))
  other_same (read reg len slot finds over after) is c h s =
      send_same _ _
      (λ bs.
      let c' : Context = keeping c (read reg len slot finds over after) (good bs) in
      verdict_same (after c') over c' _ _ (s c') (leap_same over is c' h (s c')))
  other_same (wait x) is c h s =
      ap (wait_loop (wait_limit c.code x) (send_of (wait x) c) (idle_on x) (failing c) (done Answer.Timeout c.driver)) (s c)
  other_same (range reg len slot over) is c h s = ap (send (send_of (range reg len slot over) c)) (fun_ext go)
    where
      go : (r : Reply)
          → on_reply r (λ e. resume fin over (map op_of is) (keeping c (range reg len slot over) (bad e))) (λ bs. resume fin zero (map op_of is) (keeping c (range reg len slot over) (good bs)))
          ≡ on_reply r (λ e. resume fin over (map once_of is) (keeping c (range reg len slot over) (bad e))) (λ bs. resume fin zero (map once_of is) (keeping c (range reg len slot over) (good bs)))
      go (bad e) = let c' : Context = keeping c (range reg len slot over) (bad e) in leap_same over is c' h (s c')
      go (good bs) = s (keeping c (range reg len slot over) (good bs))

  -- one instruction
  step_same : {i : Instruction} (x : Kind i) (is : List Instruction) (m j : ℕ) (c : Context) → fits m j x is ≡ true → Clear m j c
      → ((c' : Context) → Clear (replies_by x) (slot_by x) c' → Same is c')
      → resume fin zero (op_of i ∷ map op_of is) c ≡ resume fin zero (once_by x ∷ map once_of is) c
  step_same (timing zero k) is m j c h p s = clash cc
  step_same (timing (suc n) k) is m j c h p s =
      send_same _ _
      (λ bs.
      let c' : Context = keeping c (op_of (Instruction.ReadTiming (suc n) k)) (good bs) in
      place_same (first_place (timing_in k c'.carried) (suc n)) 0 c' _ _ (λ e. s c' e)
      ∙ first_agrees (timing_in k c'.carried) n (stays n k m j c bs h p) 0 c' _)
  step_same found is m j c h p s =
      send_same _ _
      (λ bs.
      let c' : Context = keeping c (op_of Instruction.FindBudget) (good bs) in
      place_same (first_place (timing_in timing_slot c'.carried) 6) 0 c' _ _ (λ e. s c' e)
      ∙ first_agrees (timing_in timing_slot c'.carried) 5 (stays 5 timing_slot m j c bs h p) 0 c' _)
  step_same (last k x dss) is m j c h p s =
      let q = both (follows 6 k m j) (plain_after (over_last x) is) h in
      send_same _ _
      (λ bs.
      let c' : Context = keeping c (op_of (Instruction.ReadLast k x dss)) (good bs) in
      let t : Same is c' = s c' (none_known _) in
      verdict_same (by_word (no_time x) (word_to_set k x dss c')) (over_last x) c' _ _ t (leap_same (over_last x) is c' q.1 t)
      ∙ word_agrees dss (no_time x) (timing_in k c'.carried) (budget_to_set x c') (stays 5 k m j c bs q.0 p) (over_last x) c' _)
  step_same (other {i}) is m j c h p s = other_same (op_of i) is c h (λ c'. s c' (none_known _))

  pub once : (is : List Instruction) (m j : ℕ) (c : Context) → ordered m j is ≡ true → Clear m j c → Same is c
  once [] m j c h p = refl
  once (i ∷ is) m j c h p =
      let q = both (fits m j (kind_of i) is) (ordered (replies_by (kind_of i)) (slot_by (kind_of i)) is) h in
      step_same (kind_of i) is m j c q.0 p (λ c' p'. once is (replies_by (kind_of i)) (slot_by (kind_of i)) c' q.1 p')

-- the table of calls
all_ordered : (rules : Rules) (code : ℕ) → ordered 0 0 (program_of rules code).steps ≡ true
unfolding programs tuning
all_ordered rules = of_test rules (λ k p. ordered 0 0 p.steps) (λ k. refl) refl

pub made_once : (rules : Rules) (code : ℕ) (c : Context)
    → resume (program_of rules code).final zero (ops_of (program_of rules code)) c ≡ resume (program_of rules code).final zero (map once_of (program_of rules code).steps) c
made_once rules code c = once (program_of rules code).final (program_of rules code).steps 0 0 c (all_ordered rules code) (none_known _)
