-- Each reply to a waiting call leaves the laws of the history.
use mathlib.Core.Path.{◌≡◌, refl, sym, ap, subst, ◌∙◌}
use mathlib.Core.Bool.{Bool, true, false, ◌&&◌, cond}
use mathlib.Core.List.{List, [], ◌∷◌}
use Prim.Native.Nat.{ℕ, zero, suc, ◌+◌, ◌≤◌, ◌<◌}
use native.Mathlib.Omega.{arith}
use lib.Dec.{eqb, ltb}
use lib.ListN.{length, drop}
use lib.Seq.{drop-drop}
use borrow.Author.Tests.{ltb-true, ltb-false, eqb-true, not-false}
use Rattle.session.specs.declared.Rules.{Rules}
use Rattle.session.specs.Bus.{Driver, Answer, Reply, bad, good, failure_in, Condition, wait_limit, idle_on}
use Rattle.session.specs.Instructions.{Context, Verdict, Op, write, read, wait, range, send_of, kept_bytes, kept_failure, read_wins, report_of}
use Rattle.session.specs.Steps.{slot}
use Rattle.session.specs.Calls.{ops_of, program_of}
use Rattle.session.specs.Machine.{Session, sent, context_of, kept_of, sending, giving, arrive, decide, react}
use Rattle.session.specs.History.{Exchange, by}
use Rattle.session.specs.Claim3.{read_of, unmet, idle_reads, range_read, range_failure, reported, floor_in}
use Rattle.ground.proofs.Facts.{cond_case, drop_next, untrue}
use Rattle.session.proofs.Good.{Good, Between, between_next, idle_more, between_skip}
use Rattle.session.proofs.Laws.{range_law, range_at}
use Rattle.session.proofs.Phase.{IsGood, AllGood, Ranged, Phase, clean, tidy0, good_any, phase_failed, AfterWrite, cleanly, tidily, phase_write, phase_clean}
use Rattle.session.proofs.Own.{claim_ceiling, unmet_is, limit_is}
use Rattle.session.proofs.Shape.{waits_on, is_range, and_false, over_of, leaps, Known, known_at, same_on}
use Rattle.session.proofs.Floor.{floor_next, floor_leap}
use Rattle.session.proofs.Told.{Told, told_next, told_write, told_again}
use Rattle.session.proofs.Trace.{trace_skip, GoesOn, trace_step, trace_again, trace_late, length_kept}
use Rattle.session.proofs.Owned.{own_step, own_again, own_leap}
use Rattle.session.proofs.Arrivals.{Match, Ahead, Mid, Fine, held_is, limit_some, same_on_lem, on_self, fine_waiting, arrive_fine, decide_fine}

-- the range read is told by the bus
range_told : (code : ℕ) (op : Op) (rest : List Op) (c : Context) → Known code op rest c → range_read code (send_of op c) ≡ is_range op
range_told code op rest c kn = kn.ranged

pub known : (rules : Rules) (s : Session) (op : Op) (rest : List Op) → Good rules s op rest → (c : Context) → Known s.code op rest c
known rules s op rest g = known_at rules s.code s.step op rest g.at

-- a failed reply that ends its call
fail_fine : (rules : Rules) (s : Session) (op : Op) (rest : List Op) (ex : List Exchange) (d : Driver) → Match rules s op rest ex d → (e k : ℕ)
    → is_range op ≡ false → k ≡ reported s.code (range_failure s.code ex) (suc e)
    → Fine rules s.code s.a s.b (by (send_of op (context_of s)) (bad e) ∷ ex) d (giving (Answer.BusError k) s)
fail_fine rules s op rest ex d m e k h q =
    record {
      rests = refl;
      fields = held_is s.code d s.driver m.driver;
      lawful =
          record {
            ceiling = omega (arith, m.count, m.good.bound, claim_ceiling rules s.code);
            timeout = (λ t. absurd t, λ r. absurd (omega (arith, limit_some s.code r.condition, r.reached, calm r.condition)));
            failure = rw q (rw (range_told s.code op rest (context_of s) (known rules s op rest m.good (context_of s)), h) (refl, refl), phase_failed rules s.code op rest ex (context_of s) e s.transfers m.phase);
            figure = omega (arith, m.count);
            value = λ z. untrue z;
            floor = λ z. untrue z;
          };
    }
  where
    calm : (x : Condition) → idle_reads x s.code (by (send_of op (context_of s)) (bad e) ∷ ex) ≡ 0
    calm x = rw (and_false (read_of x s.code (send_of op (context_of s)) ex))

failure_none : (code : ℕ) (ex : List Exchange) → AllGood ex → range_failure code ex ≡ 0
failure_none code [] g = refl
failure_none code (e ∷ es) g = go (range_read code e.sent) e.reply g.0 (failure_none code es g.1)
  where
    go : (b : Bool) (r : Reply) → IsGood r → range_failure code es ≡ 0 → cond b (failure_in r) (range_failure code es) ≡ 0
    go b (bad k) h q = absurd h
    go true (good bs) h q = refl
    go false (good bs) h q = q

own_code : (s : Session) (ex : List Exchange) (e : ℕ) → AllGood ex → suc e ≡ reported s.code (range_failure s.code ex) (suc e)
own_code s ex e g = rw (failure_none s.code ex g)

pub report_is : (code k e : ℕ) → report_of (read_wins code) k e ≡ reported code k e
report_is code k e = go (eqb code 6) k refl
  where
    go : (b : Bool) (j : ℕ) → eqb code 6 ≡ b → report_of b j e ≡ reported code j e
    go true zero h = refl
    go true (suc j) h = rw h
    go false zero h = refl
    go false (suc j) h = rw h

-- a reply that is no idle read: the session before the next operation
failed_of : (rules : Rules) (s : Session) (op : Op) (rest : List Op) (ex : List Exchange) (d : Driver) → Match rules s op rest ex d → (r : Reply)
    → kept_failure op r s.failed ≡ range_failure s.code (by (send_of op (context_of s)) r ∷ ex)
failed_of rules s op rest ex d m r = rw (range_told s.code op rest (context_of s) (known rules s op rest m.good (context_of s))) (go op r)
  where
    go : (o : Op) (r' : Reply) → kept_failure o r' s.failed ≡ cond (is_range o) (failure_in r') (range_failure s.code ex)
    go (write reg bytes len over after) r' = m.failed
    go (read reg len slot finds over after) r' = m.failed
    go (wait w) r' = m.failed
    go (range reg len slot over) (bad e) = refl
    go (range reg len slot over) (good bs) = refl

ahead_of : (rules : Rules) (s : Session) (op : Op) (rest : List Op) (ex : List Exchange) (d : Driver) → Match rules s op rest ex d → (r : Reply) → GoesOn op r
    → Ahead rules (kept_of s op r) (suc s.step) (by (send_of op (context_of s)) r ∷ ex)
ahead_of rules s op rest ex d m r g =
    record {
      told = go (drop (suc s.step) (ops_of (program_of rules s.code))) refl;
      traced = λ t q. rw (drop_next s.step (ops_of (program_of rules s.code)) m.good.at) (trace_step t op rest (context_of s) r s.carried ex kn.whole g m.long (m.traced t q));
      owned = λ q. rw (drop_next s.step (ops_of (program_of rules s.code)) m.good.at) (own_step op rest (context_of s) r s.carried s.found_budget ex kn.whole g (m.owned q));
      floor = rw (drop_next s.step (ops_of (program_of rules s.code)) m.good.at) (floor_next (floor_in s.code) (length ex) op rest m.floor);
    }
  where
    kn : Known s.code op rest (context_of s)
    kn = known rules s op rest m.good (context_of s)

    go : (l : List Op) → drop (suc s.step) (ops_of (program_of rules s.code)) ≡ l → Told s.code l (by (send_of op (context_of s)) r ∷ ex)
    go [] e = tt
    go (next ∷ more) e =
        let p : rest ≡ next ∷ more = sym (drop_next s.step (ops_of (program_of rules s.code)) m.good.at) ∙ e in
        told_next s.code op (context_of s) r next more ex kn.whole (rw p at kn.next) (known_at rules s.code (suc s.step) next more e)

-- where an operation that leaves some out lands
lands : (rules : Rules) (s : Session) (op : Op) (rest : List Op) → drop s.step (ops_of (program_of rules s.code)) ≡ op ∷ rest
    → drop (suc s.step + over_of op) (ops_of (program_of rules s.code)) ≡ drop (over_of op) rest
lands rules s op rest at =
    sym (drop-drop (over_of op) (suc s.step) (ops_of (program_of rules s.code))) ∙ ap (drop (over_of op)) (drop_next s.step (ops_of (program_of rules s.code)) at)

leap_ahead : (rules : Rules) (s : Session) (op : Op) (rest : List Op) (ex : List Exchange) (d : Driver) → Match rules s op rest ex d → (r : Reply) → GoesOn op r
    → Ahead rules (kept_of s op r) (suc s.step + over_of op) (by (send_of op (context_of s)) r ∷ ex)
leap_ahead rules s op rest ex d m r g = go (leaps op) refl
  where
    kn : Known s.code op rest (context_of s)
    kn = known rules s op rest m.good (context_of s)

    p : drop (suc s.step + over_of op) (ops_of (program_of rules s.code)) ≡ drop (over_of op) rest
    p = lands rules s op rest m.good.at

    go : (t : Bool) → leaps op ≡ t → Ahead rules (kept_of s op r) (suc s.step + over_of op) (by (send_of op (context_of s)) r ∷ ex)
    go true a =
        record {
          told = told_write rules s.code (suc s.step + over_of op) (by (send_of op (context_of s)) r ∷ ex) (rw p (rw a at kn.landing));
          traced = λ t q. rw p
              (trace_skip t (kept_bytes op r s.carried) (over_of op) rest (by (send_of op (context_of s)) r ∷ ex)
              (trace_late t op rest (context_of s) r s.carried ex kn.whole a (m.traced t q))
              (trace_step t op rest (context_of s) r s.carried ex kn.whole g m.long (m.traced t q)));
          owned = λ q. rw p (own_leap op rest (context_of s) r s.carried s.found_budget (over_of op) ex kn.whole g a (m.owned q));
          floor = rw p (floor_leap (floor_in s.code) (length ex) op rest m.floor);
        }
    go false a =
        let z : over_of op ≡ 0 = eqb-true (over_of op) 0 (not-false (eqb (over_of op) 0) a) in
        let q : suc s.step + over_of op ≡ suc s.step = omega arith in
        subst (λ k. Ahead rules (kept_of s op r) k (by (send_of op (context_of s)) r ∷ ex)) (sym q) (ahead_of rules s op rest ex d m r g)

mid_of : (rules : Rules) (s : Session) (op : Op) (rest : List Op) (ex : List Exchange) (d : Driver) → Match rules s op rest ex d → (r : Reply) → GoesOn op r
    → ((x : Condition) → idle_reads x s.code (by (send_of op (context_of s)) r ∷ ex) ≡ 0)
    → Phase rules s.code rest (by (send_of op (context_of s)) r ∷ ex)
    → Mid rules (kept_of s op r) (suc s.step) (by (send_of op (context_of s)) r ∷ ex) d
mid_of rules s op rest ex d m r g calm ph =
    let b : Between rules s (suc s.step) = between_next rules s op rest m.good in
    record {
      between = record { args = b.args; marked = b.marked; bound = b.bound };
      count = m.count;
      failed = failed_of rules s op rest ex d m r;
      calm = calm;
      ahead = ahead_of rules s op rest ex d m r g;
      long = length_kept op r s.carried ∙ m.long;
      phase = rw (drop_next s.step (ops_of (program_of rules s.code)) m.good.at) ph;
      driver = m.driver;
    }

-- where it leaves some out
leapt_of : (rules : Rules) (s : Session) (op : Op) (rest : List Op) (ex : List Exchange) (d : Driver) → Match rules s op rest ex d → (r : Reply) → GoesOn op r
    → ((x : Condition) → idle_reads x s.code (by (send_of op (context_of s)) r ∷ ex) ≡ 0)
    → Phase rules s.code (drop (over_of op) rest) (by (send_of op (context_of s)) r ∷ ex)
    → Mid rules (kept_of s op r) (suc s.step + over_of op) (by (send_of op (context_of s)) r ∷ ex) d
leapt_of rules s op rest ex d m r g calm ph =
    let b : Between rules s (suc s.step + over_of op) = between_skip rules s (suc s.step) (over_of op) (between_next rules s op rest m.good) in
    record {
      between = record { args = b.args; marked = b.marked; bound = b.bound };
      count = m.count;
      failed = failed_of rules s op rest ex d m r;
      calm = calm;
      ahead = leap_ahead rules s op rest ex d m r g;
      long = length_kept op r s.carried ∙ m.long;
      phase = rw (lands rules s op rest m.good.at) ph;
      driver = m.driver;
    }

-- an operation that is no wait
calm_of : (rules : Rules) (s : Session) (op : Op) (rest : List Op) (ex : List Exchange) (d : Driver) → Match rules s op rest ex d → (r : Reply) → ((x : Condition) → waits_on x op ≡ false)
    → (x : Condition) → idle_reads x s.code (by (send_of op (context_of s)) r ∷ ex) ≡ 0
calm_of rules s op rest ex d m r h x = rw (m.told (context_of s) x, h x)

write_fine : (rules : Rules) (s : Session) (reg : ℕ) (bytes : Context → List ℕ) (len over : ℕ) (after : Context → Verdict) (rest : List Op) (ex : List Exchange) (d : Driver) (bs : List ℕ)
    → Match rules s (write reg bytes len over after) rest ex d
    → AfterWrite rules s.code after rest (send_of (write reg bytes len over after) (context_of s)) bs ex
    → Fine rules s.code s.a s.b (by (send_of (write reg bytes len over after) (context_of s)) (good bs) ∷ ex) d (decide (after (context_of s)) (program_of rules s.code) over (suc s.step) s)
write_fine rules s reg bytes len over after rest ex d bs m (cleanly g) =
    let op : Op = write reg bytes len over after in
    decide_fine rules s (suc s.step) (by (send_of op (context_of s)) (good bs) ∷ ex) d
    (mid_of rules s op rest ex d m (good bs) tt (calm_of rules s op rest ex d m (good bs) (λ x. refl)) (clean (tt, g)))
    (tt, g) over (leap_ahead rules s op rest ex d m (good bs) tt) (after (context_of s))
write_fine rules s reg bytes len over after rest ex d bs m (tidily hc ph) =
    let op : Op = write reg bytes len over after in
    subst (λ f. Fine rules s.code s.a s.b (by (send_of op (context_of s)) (good bs) ∷ ex) d (decide (f (context_of s)) (program_of rules s.code) over (suc s.step) s)) (sym hc)
    (arrive_fine rules s (suc s.step) (by (send_of op (context_of s)) (good bs) ∷ ex) d
    (mid_of rules s op rest ex d m (good bs) tt (calm_of rules s op rest ex d m (good bs) (λ x. refl)) ph))

-- the idle reads after a read of the wait w
idle_test : (x y : Condition) (bs : List ℕ) → same_on x y && unmet x bs ≡ same_on x y && idle_on y bs
idle_test x y bs = go (same_on x y) refl
  where
    go : (t : Bool) → same_on x y ≡ t → t && unmet x bs ≡ t && idle_on y bs
    go true e = unmet_is x bs ∙ ap (λ z. idle_on z bs) (same_on_lem x y e)
    go false e = refl

module _ (rules : Rules) (s : Session) (w : Condition) (rest : List Op) (ex : List Exchange) (d : Driver) (m : Match rules s (wait w) rest ex d) (bs : List ℕ) where
  -- what the reads count up to
  counted : (x : Condition) → idle_reads x s.code (by (send_of (wait w) (context_of s)) (good bs) ∷ ex) ≡ cond (same_on x w && idle_on w bs) (suc (cond (same_on x w) s.idle 0)) 0
  counted x = rw (m.told (context_of s) x, idle_test x w bs, m.streak x)

  again : idle_on w bs ≡ true → (x : Condition) → idle_reads x s.code (by (send_of (wait w) (context_of s)) (good bs) ∷ ex) ≡ cond (same_on x w) (suc s.idle) 0
  again h x = counted x ∙ rw h (go (same_on x w))
    where
      go : (t : Bool) → cond (t && true) (suc (cond t s.idle 0)) 0 ≡ cond t (suc s.idle) 0
      go true = refl
      go false = refl

  again_fine : idle_on w bs ≡ true → suc s.idle < wait_limit s.code w
      → Fine rules s.code s.a s.b (by (send_of (wait w) (context_of s)) (good bs) ∷ ex) d (sent (send_of (wait w) (context_of s)) (sending s.step (suc s.idle) s))
  again_fine h lt =
      fine_waiting rules (sending s.step (suc s.idle) s) (wait w) rest (by (send_of (wait w) (context_of s)) (good bs) ∷ ex) d
      (record {
        good = idle_more rules s w rest m.good lt;
        count = omega (arith, m.count);
        failed = failed_of rules s (wait w) rest ex d m (good bs);
        streak = again h;
        told = told_again s.code w rest ex (context_of s) (good bs) m.told;
        long = m.long;
        traced = λ t q. trace_again t s.carried w rest (context_of s) (good bs) ex (m.traced t q);
        floor = omega (arith, m.floor);
        owned = λ q. own_again s.found_budget s.carried w rest (context_of s) (good bs) ex (m.owned q);
        phase = clean (tt, phase_clean rules s.code (wait w) rest ex tt m.phase);
        driver = m.driver;
      })

  timeout_fine : idle_on w bs ≡ true → wait_limit s.code w ≤ suc s.idle
      → Fine rules s.code s.a s.b (by (send_of (wait w) (context_of s)) (good bs) ∷ ex) d (giving Answer.Timeout s)
  timeout_fine h ge =
      let reached : idle_reads w s.code (by (send_of (wait w) (context_of s)) (good bs) ∷ ex) ≡ suc s.idle =
      again h w ∙ ap (λ t. cond t (suc s.idle) 0) (on_self w) in
      record {
        rests = refl;
        fields = held_is s.code d s.driver m.driver;
        lawful =
            record {
              ceiling = omega (arith, m.count, m.good.bound, claim_ceiling rules s.code);
              timeout = (λ t. record { condition = w; reached = omega (arith, ge, reached, limit_is s.code w) }, λ r. tt);
              failure = (tt, good_any s.code _ ex _ (phase_clean rules s.code (wait w) rest ex tt m.phase));
              figure = omega (arith, m.count);
              value = λ z. untrue z;
              floor = λ z. untrue z;
            };
      }

  ready_fine : idle_on w bs ≡ false
      → Fine rules s.code s.a s.b (by (send_of (wait w) (context_of s)) (good bs) ∷ ex) d (arrive (program_of rules s.code) (suc s.step) s)
  ready_fine h =
      arrive_fine rules s (suc s.step) (by (send_of (wait w) (context_of s)) (good bs) ∷ ex) d
      (mid_of rules s (wait w) rest ex d m (good bs) tt (λ x. counted x ∙ rw (h, and_false (same_on x w))) (clean (tt, phase_clean rules s.code (wait w) rest ex tt m.phase)))

pub react_fine : (rules : Rules) (s : Session) (op : Op) (rest : List Op) (ex : List Exchange) (d : Driver) → Match rules s op rest ex d → (r : Reply)
    → Fine rules s.code s.a s.b (by (send_of op (context_of s)) r ∷ ex) d (react op (program_of rules s.code) s r)
react_fine rules s (write reg bytes len over after) rest ex d m (bad e) =
    fail_fine rules s (write reg bytes len over after) rest ex d m e (report_of (read_wins s.code) s.failed (suc e)) refl
    (ap (λ n. report_of (read_wins s.code) n (suc e)) m.failed ∙ report_is s.code (range_failure s.code ex) (suc e))
react_fine rules s (write reg bytes len over after) rest ex d m (good bs) =
    write_fine rules s reg bytes len over after rest ex d bs m (phase_write rules s.code reg bytes len over after rest ex (context_of s) bs m.phase)
react_fine rules s (read reg len slot finds over after) rest ex d m (bad e) =
    fail_fine rules s (read reg len slot finds over after) rest ex d m e (suc e) refl (own_code s ex e (phase_clean rules s.code _ rest ex tt m.phase))
react_fine rules s (read reg len slot finds over after) rest ex d m (good bs) =
    let op : Op = read reg len slot finds over after in
    let g : AllGood ex = phase_clean rules s.code op rest ex tt m.phase in
    decide_fine rules (kept_of s op (good bs)) (suc s.step) (by (send_of op (context_of s)) (good bs) ∷ ex) d
    (mid_of rules s op rest ex d m (good bs) tt (calm_of rules s op rest ex d m (good bs) (λ x. refl)) (clean (tt, g)))
    (tt, g) over (leap_ahead rules s op rest ex d m (good bs) tt) (after (context_of (kept_of s op (good bs))))
react_fine rules s (wait w) rest ex d m (bad e) =
    fail_fine rules s (wait w) rest ex d m e (suc e) refl (own_code s ex e (phase_clean rules s.code _ rest ex tt m.phase))
react_fine rules s (wait w) rest ex d m (good bs) =
    cond_case (Fine rules s.code s.a s.b (by (send_of (wait w) (context_of s)) (good bs) ∷ ex) d) (idle_on w bs)
    (λ h. cond_case (Fine rules s.code s.a s.b (by (send_of (wait w) (context_of s)) (good bs) ∷ ex) d) (ltb (suc s.idle) (wait_limit s.code w))
    (λ lt. again_fine rules s w rest ex d m bs h (ltb-true (suc s.idle) (wait_limit s.code w) lt))
    (λ ge. timeout_fine rules s w rest ex d m bs h (ltb-false (suc s.idle) (wait_limit s.code w) ge)))
    (λ h. ready_fine rules s w rest ex d m bs h)
react_fine rules s (range reg len slot over) rest ex d m (bad e) =
    let op : Op = range reg len slot over in
    let g : AllGood ex = phase_clean rules s.code op rest ex tt m.phase in
    let f = range_at (program_of rules s.code).final s.step (ops_of (program_of rules s.code)) (range_law rules s.code) m.good.at in
    let r : Ranged rules s.code (send_of op (context_of s)) = record { inside = (known rules s op rest m.good (context_of s)).ranged; final = f.1 } in
    arrive_fine rules (kept_of s op (bad e)) (suc s.step + over) (by (send_of op (context_of s)) (bad e) ∷ ex) d
    (leapt_of rules s op rest ex d m (bad e) tt (calm_of rules s op rest ex d m (bad e) (λ x. refl)) (tidy0 r e f.0 g))
react_fine rules s (range reg len slot over) rest ex d m (good bs) =
    let op : Op = range reg len slot over in
    let g : AllGood ex = phase_clean rules s.code op rest ex tt m.phase in
    arrive_fine rules (kept_of s op (good bs)) (suc s.step) (by (send_of op (context_of s)) (good bs) ∷ ex) d
    (mid_of rules s op rest ex d m (good bs) tt (calm_of rules s op rest ex d m (good bs) (λ x. refl)) (clean (tt, g)))
