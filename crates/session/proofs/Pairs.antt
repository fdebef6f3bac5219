-- Two sessions at one place of a call, one reply on: what is looked at is brought by the reply or agreed before it, by a test over the instructions.
use mathlib.Core.Path.{◌≡◌, refl, sym, ap, subst, ◌∙◌}
use mathlib.Core.Bool.{Bool, true, false, not, ◌||◌, ◌&&◌, cond}
use mathlib.Core.List.{List, [], ◌∷◌, map}
use Prim.Native.Nat.{ℕ, zero, suc, ◌+◌}
use native.Mathlib.Nat.{add-zero, zero-add, add-suc, suc-add}
use borrow.Author.Tests.{eqb-true}
use lib.Dec.{eqb, ltb}
use lib.ListN.{length, get_or, drop}
use lib.Seq.{drop-drop}
use Rattle.std.specs.List.{drop-map}
use Rattle.session.specs.declared.Rules.{Rules}
use Rattle.session.specs.Bus.{byte, Answer, Reply, bad, good, Condition, wait_limit, idle_on, zero_from, clean_from}
use Rattle.session.specs.Instructions.{Instruction, Context, stop_answer, Verdict, onward, leap, stop, test, Op, write, read, wait, range, send_of, read_wins, report_of}
use Rattle.session.specs.Steps.{op_of}
use Rattle.session.specs.Calls.{Program, ops_of, program_of}
use Rattle.session.specs.Machine.{Session, Outcome, sent, context_of, kept_of, sending, giving, arrive, decide, react, to_reply, stray, idle_wrong, malformed, refused, reply_def, outstanding}
use Rattle.session.specs.Records.{reply}
use Rattle.session.specs.History.{step_def}
use Rattle.session.specs.Refusals.{Underway}
use Rattle.session.specs.Parts.{Part, byte_in, range_byte_in, failure_code, budget_found, argument_a, argument_b}
use Rattle.session.specs.AnySession.{keeping}
use Rattle.ground.proofs.Facts.{both, clash, untrue, drop_next}
use Rattle.session.proofs.Cut.{stray_is}
use Rattle.session.proofs.Strays.{sound_step}
use Rattle.session.proofs.Refused.{sound_of}
use Rattle.session.proofs.Eager.{over_of}
use Rattle.session.proofs.Uses.{part_in, On, decides_of, DecidesFrom, decides_from}
use Rattle.session.proofs.Kept.{brings, leaves, sources, either, Goes, brought, left_alone}

-- parts by number, to tell them apart
abbrev pub kind : Part → ℕ
kind (byte_in i) = 0
kind (range_byte_in i) = 1
kind failure_code = 2
kind budget_found = 3
kind argument_a = 4
kind argument_b = 5

abbrev pub index : Part → ℕ
index (byte_in i) = i
index (range_byte_in i) = i
index failure_code = 0
index budget_found = 0
index argument_a = 0
index argument_b = 0

abbrev by_number : ℕ → ℕ → Context → ℕ
by_number k i c = get_or (byte i c.carried ∷ cond (eqb c.failed 0) (byte i c.carried) 0 ∷ c.failed ∷ c.found_budget ∷ c.a ∷ c.b ∷ []) k 0

numbered : (p : Part) (c : Context) → part_in p c ≡ by_number (kind p) (index p) c
numbered (byte_in i) c = refl
numbered (range_byte_in i) c = refl
numbered failure_code c = refl
numbered budget_found c = refl
numbered argument_a c = refl
numbered argument_b c = refl

abbrev pub same_part : Part → Part → Bool
same_part p q = eqb (kind p) (kind q) && eqb (index p) (index q)

same_value : (p q : Part) (c : Context) → same_part p q ≡ true → part_in p c ≡ part_in q c
same_value p q c h =
    let t = both (eqb (kind p) (kind q)) (eqb (index p) (index q)) h in
    numbered p c ∙ rw (eqb-true (kind p) (kind q) t.0, eqb-true (index p) (index q) t.1) refl ∙ sym (numbered q c)

abbrev pub has : Part → List Part → Bool
has p [] = false
has p (q ∷ qs) = same_part p q || has p qs

has_same : (p : Part) (qs : List Part) (c c' : Context) → has p qs ≡ true → On qs c c' → part_in p c ≡ part_in p c'
has_same p [] c c' h o = clash cc
has_same p (q ∷ qs) c c' h o =
    either (same_part p q) (has p qs) h
    (λ e. same_value p q c e ∙ o.0 ∙ sym (same_value p q c' e))
    (λ e. has_same p qs c c' e o.1)

abbrev pub all_in : List Part → List Part → Bool
all_in [] qs = true
all_in (p ∷ ps) qs = has p qs && all_in ps qs

pub all_same : (ps qs : List Part) (c c' : Context) → all_in ps qs ≡ true → On qs c c' → On ps c c'
all_same [] qs c c' h o = tt
all_same (p ∷ ps) qs c c' h o = let t = both (has p qs) (all_in ps qs) h in (has_same p qs c c' t.0 o, all_same ps qs c c' t.1 o)

-- each of these parts is brought by the reply, or among those that agreed before it and left as it was
abbrev pub covered : Op → List Part → List Part → Bool
covered op [] qs = true
covered op (p ∷ ps) qs = (brings op p || (leaves op p && has p qs)) && covered op ps qs

covered_on : (op : Op) (r : Reply) (ps qs : List Part) (c c' : Context) → Goes op r → length c.carried ≡ length c'.carried → all_in (sources op) qs ≡ true → On qs c c'
    → covered op ps qs ≡ true → On ps (keeping c op r) (keeping c' op r)
covered_on op r [] qs c c' g m s o h = tt
covered_on op r (p ∷ ps) qs c c' g m s o h =
    let t = both (brings op p || (leaves op p && has p qs)) (covered op ps qs) h in (
      either (brings op p) (leaves op p && has p qs) t.0
          (λ e. brought op r p c c' g m (all_same (sources op) qs c c' s o) e)
          (λ e.
          let u = both (leaves op p) (has p qs) e in
          left_alone op r p c g u.0 ∙ has_same p qs c c' u.1 o ∙ sym (left_alone op r p c' g u.0)),
      covered_on op r ps qs c c' g m s o t.1,
    )

-- a test at each step of a call, counted from k
abbrev pub StepTest : Type 0
StepTest = ℕ → Instruction → List Instruction → Bool

abbrev pub walk : StepTest → ℕ → List Instruction → Bool
walk ok k [] = true
walk ok k (i ∷ is) = ok k i is && walk ok (suc k) is

walk_from : (ok : StepTest) (j k : ℕ) (l : List Instruction) (i : Instruction) (is : List Instruction) → walk ok j l ≡ true → drop k l ≡ i ∷ is → ok (j + k) i is ≡ true
walk_from ok j zero [] i is h e = clash cc
walk_from ok j (suc k) [] i is h e = clash cc
walk_from ok j zero (x ∷ l) i is h e =
    let q : i ≡ x = cc in
    let q' : is ≡ l = cc in
    rw (add-zero j, q, q') (both (ok j x l) (walk ok (suc j) l) h).0
walk_from ok j (suc k) (x ∷ l) i is h e =
    rw (add-suc j k ∙ sym (suc-add j k)) (walk_from ok (suc j) k l i is (both (ok j x l) (walk ok (suc j) l) h).1 e)

pub walk_at : (ok : StepTest) (l : List Instruction) (k : ℕ) (i : Instruction) (is : List Instruction) → walk ok 0 l ≡ true → drop k l ≡ i ∷ is → ok k i is ≡ true
walk_at ok l k i is h e = subst (λ m. ok m i is ≡ true) (zero-add k) (walk_from ok 0 k l i is h e)

-- the read length is the instruction's
reads_same : (op : Op) (c c' : Context) → (send_of op c).reads ≡ (send_of op c').reads
reads_same (write reg bytes len over after) c c' = refl
reads_same (read reg len slot finds over after) c c' = refl
reads_same (wait w) c c' = refl
reads_same (range reg len slot over) c c' = refl

pub strays_same : (op : Op) (s s' : Session) (f : ℕ) (bs : List ℕ) → stray (send_of op (context_of s)) f bs ≡ stray (send_of op (context_of s')) f bs
strays_same op s s' f bs =
    stray_is (send_of op (context_of s)) f bs
    ∙ ap (λ n. not (zero_from (clean_from f n) bs)) (reads_same op (context_of s) (context_of s'))
    ∙ sym (stray_is (send_of op (context_of s')) f bs)

-- a step of the call, and what stands there
pub instruction_there : (rules : Rules) (s : Session) → malformed rules s ≡ false → {A : Type 0}
    → ((i : Instruction) (is : List Instruction) → drop s.step (program_of rules s.code).steps ≡ i ∷ is → A) → A
instruction_there rules s m {A} f = go (drop s.step (program_of rules s.code).steps) refl
  where
    go : (l : List Instruction) → drop s.step (program_of rules s.code).steps ≡ l → A
    go [] e =
        let h : idle_wrong s.code (map op_of []) s.idle ≡ false = rw e at (rw (drop-map op_of s.step (program_of rules s.code).steps) at (sound_step rules s m)) in
        untrue (sym h)
    go (i ∷ is) e = f i is e

-- a reply to the call of the code, at its step k
pub met_at : (rules : Rules) (s : Session) (code k : ℕ) (i : Instruction) (is : List Instruction) (f : ℕ) (bs : List ℕ) → s.code ≡ code → s.step ≡ k → Underway rules s
    → drop k (program_of rules code).steps ≡ i ∷ is
    → step_def rules s (reply f bs) ≡ cond (stray (send_of (op_of i) (context_of s)) f bs) (refused Answer.StrayByte s) (react (op_of i) (program_of rules code) s (to_reply f bs))
unfolding reply_def step_def
met_at rules s code k i is f bs e e' u at =
    let m = sound_of rules s u in
    let here : drop s.step (program_of rules s.code).steps ≡ i ∷ is = rw (e, e') at in
    let d : drop s.step (ops_of (program_of rules s.code)) ≡ op_of i ∷ map op_of is = drop-map op_of s.step (program_of rules s.code).steps ∙ ap (map op_of) here in
    rw (m.0, m.1, d) (ap (λ n. cond (stray (send_of (op_of i) (context_of s)) f bs) (refused Answer.StrayByte s) (react (op_of i) (program_of rules n) s (to_reply f bs))) e)

-- the transfer that a call has out at its step k
pub out_at : (rules : Rules) (s : Session) (code k : ℕ) (i : Instruction) (is : List Instruction) → s.code ≡ code → s.step ≡ k → drop k (program_of rules code).steps ≡ i ∷ is
    → outstanding rules s ≡ send_of (op_of i) (context_of s)
out_at rules s code k i is e e' at =
    let here : drop s.step (program_of rules s.code).steps ≡ i ∷ is = rw (e, e') at in
    rw (drop-map op_of s.step (program_of rules s.code).steps ∙ ap (map op_of) here) refl

-- what a failed write looks at
abbrev pub reports : Op → List Part → List Part
reports (write reg bytes len over after) ps = ps
reports (read reg len slot finds over after) ps = []
reports (wait w) ps = []
reports (range reg len slot over) ps = []

-- at each step: what is looked at there, and at an arrival at the next, is brought by the reply or agreed before it.
-- `known k` has the parts that agree at step k, `arrival k is` what an arrival there looks at, `failed` what a failed write does
abbrev pub step_ok : (ℕ → List Part) → (ℕ → List Instruction → List Part) → List Part → StepTest
step_ok known arrival failed k i is =
    all_in (reports (op_of i) failed) (known k)
    && (all_in (sources (op_of i)) (known k)
    && (covered (op_of i) (decides_of i) (known k)
    && (covered (op_of i) (arrival (suc k) is) (known k)
    && covered (op_of i) (arrival (suc k + over_of (op_of i)) (drop (over_of (op_of i)) is)) (known k))))

-- what the test says of one step
record Fits (known : ℕ → List Part) (arrival : ℕ → List Instruction → List Part) (failed : List Part) (k : ℕ) (i : Instruction) (is : List Instruction) : Type 0 where
  reported : all_in (reports (op_of i) failed) (known k) ≡ true
  made_of : all_in (sources (op_of i)) (known k) ≡ true
  decided : covered (op_of i) (decides_of i) (known k) ≡ true
  next : covered (op_of i) (arrival (suc k) is) (known k) ≡ true
  leapt : covered (op_of i) (arrival (suc k + over_of (op_of i)) (drop (over_of (op_of i)) is)) (known k) ≡ true

fits_of : (known : ℕ → List Part) (arrival : ℕ → List Instruction → List Part) (failed : List Part) (k : ℕ) (i : Instruction) (is : List Instruction)
    → step_ok known arrival failed k i is ≡ true → Fits known arrival failed k i is
fits_of known arrival failed k i is h =
    let N = known k in
    let o = op_of i in
    let t₁ = both (all_in (reports o failed) N) _ h in
    let t₂ = both (all_in (sources o) N) _ t₁.1 in
    let t₃ = both (covered o (decides_of i) N) _ t₂.1 in
    let t₄ = both (covered o (arrival (suc k) is) N) _ t₃.1 in
    record { reported = t₁.0; made_of = t₂.0; decided = t₃.0; next = t₄.0; leapt = t₄.1 }

-- two sessions at one place of a call, and a relation of their outcomes: it holds after a reply if it holds at each arrival and each end
module _ (rules : Rules) (code : ℕ) (R : Outcome → Outcome → Type 0) (Pair : Session → Session → Type 0)
    (known : ℕ → List Part) (arrival : ℕ → List Instruction → List Part) (failed : List Part)
    (tested : walk (step_ok known arrival failed) 0 (program_of rules code).steps ≡ true)
    (one : (s s' : Session) → Pair s s' → s.code ≡ code) (other : (s s' : Session) → Pair s s' → s'.code ≡ code)
    (room : (s s' : Session) → Pair s s' → length s.carried ≡ length s'.carried)
    (kept : (s s' : Session) (op : Op) (r : Reply) → Pair s s' → Pair (kept_of s op r) (kept_of s' op r))
    (arrives : (k : ℕ) (s s' : Session) → Pair s s' → On (arrival k (drop k (program_of rules code).steps)) (context_of s) (context_of s')
    → R (arrive (program_of rules code) k s) (arrive (program_of rules code) k s'))
    (again : (k i : ℕ) (w : Condition) (s s' : Session) → Pair s s' → On (known k) (context_of s) (context_of s')
    → R (sent (send_of (wait w) (context_of s)) (sending k i s)) (sent (send_of (wait w) (context_of s')) (sending k i s')))
    (gives : (x : Answer) (s s' : Session) → Pair s s' → R (giving x s) (giving x s'))
    (refuses : (s s' : Session) → R (refused Answer.StrayByte s) (refused Answer.StrayByte s'))
    (fails : (e : ℕ) (s s' : Session) → Pair s s' → On failed (context_of s) (context_of s')
    → R (giving (Answer.BusError (report_of (read_wins s.code) s.failed (suc e))) s) (giving (Answer.BusError (report_of (read_wins s'.code) s'.failed (suc e))) s')) where
  abbrev prog : Program
  prog = program_of rules code

  decides : (v : Verdict) (over k : ℕ) (s s' : Session) → Pair s s'
      → On (arrival k (drop k prog.steps)) (context_of s) (context_of s')
      → On (arrival (k + over) (drop (k + over) prog.steps)) (context_of s) (context_of s')
      → R (decide v prog over k s) (decide v prog over k s')
  decides onward over k s s' t o p = arrives k s s' t o
  decides leap over k s s' t o p = arrives (k + over) s s' t p
  decides (stop x) over k s s' t o p = gives (stop_answer x) s s' t
  decides (test true v w) over k s s' t o p = decides v over k s s' t o p
  decides (test false v w) over k s s' t o p = decides w over k s s' t o p

  module _ (k : ℕ) (i : Instruction) (is : List Instruction) (at : drop k prog.steps ≡ i ∷ is) (s s' : Session) (t : Pair s s')
      (o : On (known k) (context_of s) (context_of s')) where
    fits : Fits known arrival failed k i is
    fits = fits_of known arrival failed k i is (walk_at (step_ok known arrival failed) prog.steps k i is tested at)

    next_is : drop (suc k) prog.steps ≡ is
    next_is = drop_next k prog.steps at

    kept_on : (r : Reply) (ps : List Part) → Goes (op_of i) r → covered (op_of i) ps (known k) ≡ true
        → On ps (context_of (kept_of s (op_of i) r)) (context_of (kept_of s' (op_of i) r))
    kept_on r ps g h = covered_on (op_of i) r ps (known k) (context_of s) (context_of s') g (room s s' t) fits.made_of o h

    next_on : (r : Reply) → Goes (op_of i) r
        → On (arrival (suc k) (drop (suc k) prog.steps)) (context_of (kept_of s (op_of i) r)) (context_of (kept_of s' (op_of i) r))
    next_on r g = rw next_is (kept_on r (arrival (suc k) is) g fits.next)

    leap_on : (r : Reply) → Goes (op_of i) r
        → On (arrival (suc k + over_of (op_of i)) (drop (suc k + over_of (op_of i)) prog.steps)) (context_of (kept_of s (op_of i) r)) (context_of (kept_of s' (op_of i) r))
    leap_on r g =
        rw (← (drop-drop (over_of (op_of i)) (suc k) prog.steps), next_is)
        (kept_on r (arrival (suc k + over_of (op_of i)) (drop (over_of (op_of i)) is)) g fits.leapt)

    -- a good reply to a wait, with the code, the step and the idle reads beside the session
    abbrev waited : Condition → List ℕ → Session → ℕ → ℕ → ℕ → Outcome
    waited w bs x n j m =
        cond (idle_on w bs)
        (cond (ltb (suc m) (wait_limit n w)) (sent (send_of (wait w) (context_of x)) (sending j (suc m) x)) (giving Answer.Timeout x))
        (arrive prog (suc j) x)

    waited_as : (w : Condition) (bs : List ℕ) (x : Session) (n n' j j' m m' : ℕ) → n ≡ n' → j ≡ j' → m ≡ m' → waited w bs x n j m ≡ waited w bs x n' j' m'
    waited_as w bs x n n' j j' m m' a b c = rw (a, b, c) refl

    reacts : (r : Reply) → s.step ≡ k → s'.step ≡ k → s.idle ≡ s'.idle → R (react (op_of i) prog s r) (react (op_of i) prog s' r)
    reacts r e e' q = go (op_of i) refl (decides_from i) r
      where
        after_on : (r : Reply) → Goes (op_of i) r → On (decides_of i) (context_of (kept_of s (op_of i) r)) (context_of (kept_of s' (op_of i) r))
        after_on r g = kept_on r (decides_of i) g fits.decided

        -- to a step, in both sessions
        goes_to : (n : ℕ) (u u' : Session) → R (arrive prog (suc k + n) u) (arrive prog (suc k + n) u') → R (arrive prog (suc s.step + n) u) (arrive prog (suc s'.step + n) u')
        goes_to n u u' h =
            subst (λ m. R (arrive prog (suc m + n) u) (arrive prog (suc s'.step + n) u')) (sym e)
            (subst (λ m. R (arrive prog (suc k + n) u) (arrive prog (suc m + n) u')) (sym e') h)

        goes_by : (u u' : Session) → R (arrive prog (suc k) u) (arrive prog (suc k) u') → R (arrive prog (suc s.step) u) (arrive prog (suc s'.step) u')
        goes_by u u' h =
            subst (λ m. R (arrive prog (suc m) u) (arrive prog (suc s'.step) u')) (sym e)
            (subst (λ m. R (arrive prog (suc k) u) (arrive prog (suc m) u')) (sym e') h)

        waits : (w : Condition) → op_of i ≡ wait w → (bs : List ℕ) → (x y : Bool) → R
            (cond x (cond y (sent (send_of (wait w) (context_of s)) (sending k (suc s.idle) s)) (giving Answer.Timeout s)) (arrive prog (suc k) s))
            (cond x (cond y (sent (send_of (wait w) (context_of s')) (sending k (suc s.idle) s')) (giving Answer.Timeout s')) (arrive prog (suc k) s'))
        waits w z bs true true = again k (suc s.idle) w s s' t o
        waits w z bs true false = gives Answer.Timeout s s' t
        waits w z bs false y = arrives (suc k) s s' t (rw z at (next_on (good bs) (rw z tt)))

        decides_at : (v v' : Verdict) (over : ℕ) (u u' : Session) → v ≡ v' → R (decide v prog over (suc k) u) (decide v prog over (suc k) u')
            → R (decide v prog over (suc s.step) u) (decide v' prog over (suc s'.step) u')
        decides_at v v' over u u' a h =
            subst (λ n. R (decide v prog over (suc n) u) (decide v' prog over (suc s'.step) u')) (sym e)
            (subst (λ n. R (decide v prog over (suc k) u) (decide v' prog over (suc n) u')) (sym e')
            (subst (λ w. R (decide v prog over (suc k) u) (decide w prog over (suc k) u')) a h))

        go : (op : Op) → op_of i ≡ op → DecidesFrom op (decides_of i) → (r : Reply) → R (react op prog s r) (react op prog s' r)
        go (write reg bytes len over after) z d (bad x) = fails x s s' t (all_same failed (known k) (context_of s) (context_of s') (rw z at fits.reported) o)
        go (write reg bytes len over after) z d (good bs) =
            let a : after (context_of s) ≡ after (context_of s') = d (context_of s) (context_of s') (rw z at (after_on (good bs) (rw z tt))) in
            decides_at (after (context_of s)) (after (context_of s')) over s s' a
            (decides (after (context_of s)) over (suc k) s s' t (rw z at (next_on (good bs) (rw z tt))) (rw z at (leap_on (good bs) (rw z tt))))
        go (read reg len slot finds over after) z d (bad x) = gives (Answer.BusError (suc x)) s s' t
        go (read reg len slot finds over after) z d (good bs) =
            let op' : Op = read reg len slot finds over after in
            let u : Session = kept_of s op' (good bs) in
            let u' : Session = kept_of s' op' (good bs) in
            let a : after (context_of u) ≡ after (context_of u') = d (context_of u) (context_of u') (rw z at (after_on (good bs) (rw z tt))) in
            decides_at (after (context_of u)) (after (context_of u')) over u u' a
            (decides (after (context_of u)) over (suc k) u u' (kept s s' op' (good bs) t) (rw z at (next_on (good bs) (rw z tt))) (rw z at (leap_on (good bs) (rw z tt))))
        go (wait w) z d (bad x) = gives (Answer.BusError (suc x)) s s' t
        go (wait w) z d (good bs) =
            rw (
              waited_as w bs s s.code code s.step k s.idle s.idle (one s s' t) e refl,
              waited_as w bs s' s'.code code s'.step k s'.idle s.idle (other s s' t) e' (sym q),
            )
            (waits w z bs (idle_on w bs) (ltb (suc s.idle) (wait_limit code w)))
        go (range reg len slot over) z d (bad x) =
            let op' : Op = range reg len slot over in
            goes_to over (kept_of s op' (bad x)) (kept_of s' op' (bad x))
            (arrives (suc k + over) (kept_of s op' (bad x)) (kept_of s' op' (bad x)) (kept s s' op' (bad x) t) (rw z at (leap_on (bad x) (rw z tt))))
        go (range reg len slot over) z d (good bs) =
            let op' : Op = range reg len slot over in
            goes_by (kept_of s op' (good bs)) (kept_of s' op' (good bs))
            (arrives (suc k) (kept_of s op' (good bs)) (kept_of s' op' (good bs)) (kept s s' op' (good bs) t) (rw z at (next_on (good bs) (rw z tt))))

    -- the reply's record meets both sessions
    pub replies : (f : ℕ) (bs : List ℕ) → Underway rules s → Underway rules s' → s.step ≡ k → s'.step ≡ k → s.idle ≡ s'.idle → R (step_def rules s (reply f bs)) (step_def rules s' (reply f bs))
    replies f bs u u' e e' q =
        rw (met_at rules s code k i is f bs (one s s' t) e u at, met_at rules s' code k i is f bs (other s s' t) e' u' at, ← (strays_same (op_of i) s s' f bs))
        (go (stray (send_of (op_of i) (context_of s)) f bs) (reacts (to_reply f bs) e e' q))
      where
        go : {o o' : Outcome} (b : Bool) → R o o' → R (cond b (refused Answer.StrayByte s) o) (cond b (refused Answer.StrayByte s') o')
        go true h = refuses s s'
        go false h = h
