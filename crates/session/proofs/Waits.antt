-- A wait over any limit n: it is answered Timeout exactly when it had n replies, one after the other, that were idle reads,
-- and so is one read of the machine's.
use mathlib.Core.Logic.{◌↔◌}
use mathlib.Core.Bool.{Bool, true, false, cond}
use mathlib.Core.List.{List, [], ◌∷◌}
use Prim.Native.Nat.{ℕ, zero, suc, ◌≤◌, ◌<◌, ◌+◌}
use lib.Dec.{T}
use borrow.Author.Tests.{lt-ltb, le-ltb}
use mathlib.Core.Path.{◌≡◌, refl, ap, ◌∙◌}
use native.Mathlib.Omega.{arith}
use lib.ListN.{length}
use Rattle.session.specs.Bus.{Driver, Transfer, Answer, Reply, bad, good, Condition, idle_on}
use Rattle.session.specs.Instructions.{wait, send_of}
use Rattle.session.specs.Calls.{Program}
use Rattle.session.specs.Machine.{Session, sent, context_of, sending, giving, arrive, wait_read}
use Rattle.session.specs.Script.{done, on_reply, wait_loop, Raw, data_of, is_clean, cut, refuses, heard, play}
use Rattle.session.specs.Claim3.{If}
use Rattle.session.specs.AnyLimit.{is_idle, FirstIdle, ends_in_timeout, wait_alone, next_read, wait_reads, AllIdle, after_idle}

module _ (t : Transfer) (idle : List ℕ → Bool) (d : Driver) where
  pub timeout_iff : (n : ℕ) (rs : List Raw) → T (ends_in_timeout (play (wait_alone t idle d n) rs)) ↔ FirstIdle idle t n rs
  unfolding wait_loop play heard
  timeout_iff zero rs = (λ h. tt, λ h. tt)
  timeout_iff (suc n) [] = (λ h. h, λ h. h)
  timeout_iff (suc n) (r ∷ rs) = on (is_clean t r) (cut t r.failure (data_of r)) (timeout_iff n rs) (timeout_iff (suc n) rs)
    where
      go : (b : Bool) → T (ends_in_timeout (play (wait_alone t idle d n) rs)) ↔ FirstIdle idle t n rs
          → T (ends_in_timeout (play (elim b [ true ↦ wait_alone t idle d n | false ↦ done (Answer.Done 0) d ]) rs)) ↔ (T b × FirstIdle idle t n rs)
      go true ih = (λ h. (tt, ih.0 h), λ h. ih.1 h.1)
      go false ih = (λ h. absurd h, λ h. absurd h.0)

      on : (c : Bool) (x : Reply) → T (ends_in_timeout (play (wait_alone t idle d n) rs)) ↔ FirstIdle idle t n rs
          → T (ends_in_timeout (play (wait_alone t idle d (suc n)) rs)) ↔ FirstIdle idle t (suc n) rs
          → T (ends_in_timeout (cond c (play (on_reply x (λ e. done (Answer.BusError (suc e)) d) (λ bs. elim (idle bs) [ true ↦ wait_alone t idle d n | false ↦ done (Answer.Done 0) d ])) rs) (refuses Answer.StrayByte (heard (wait_alone t idle d (suc n)) rs))))
          ↔ If c (T (is_idle idle x) × FirstIdle idle t n rs) (FirstIdle idle t (suc n) rs)
      on true (bad e) ih later = (λ h. absurd h, λ h. absurd h.0)
      on true (good bs) ih later = go (idle bs) ih
      on false x ih later = later

-- one read of the machine's wait: below the limit the same read is made again and counted, at it the answer is Timeout;
-- a read that is not idle goes on, also the last one
module _ (limit : ℕ) (x : Condition) (p : Program) (s : Session) (bs : List ℕ) where
  pub idle_again : idle_on x bs ≡ true → suc s.idle < limit → wait_read limit x p s bs ≡ sent (send_of (wait x) (context_of s)) (sending s.step (suc s.idle) s)
  idle_again h lt = rw (h, lt-ltb (suc s.idle) limit lt)

  pub idle_out : idle_on x bs ≡ true → limit ≤ suc s.idle → wait_read limit x p s bs ≡ giving Answer.Timeout s
  idle_out h ge = rw (h, le-ltb (suc s.idle) limit ge)

  pub ready_on : idle_on x bs ≡ false → wait_read limit x p s bs ≡ arrive p (suc s.step) s
  ready_on h = rw h

-- k idle reads, one after the other: below the limit the call still waits, with all of them counted
pub idle_below : (limit : ℕ) (x : Condition) (p : Program) (s : Session) (bss : List (List ℕ)) → AllIdle x bss → s.idle + length bss < limit
    → wait_reads limit x p s bss ≡ sent (send_of (wait x) (context_of s)) (after_idle (length bss) s)
unfolding wait_reads
idle_below limit x p s [] h lt = refl
idle_below limit x p s (bs ∷ bss) h lt =
    ap (λ o. next_read o (λ t. wait_reads limit x p t bss)) (idle_again limit x p s bs h.0 (omega arith))
    ∙ idle_below limit x p (sending s.step (suc s.idle) s) bss h.1 (omega arith)

pub afterwards : (k : ℕ) (s : Session) → ((after_idle k s).idle ≡ s.idle + k) × ((after_idle k s).transfers ≡ s.transfers + k)
afterwards zero s = (omega arith, omega arith)
afterwards (suc k) s =
    let q = afterwards k (sending s.step (suc s.idle) s) in
    (omega (arith, q.0), omega (arith, q.1))

-- the read that reaches the limit gives Timeout
pub idle_at : (limit : ℕ) (x : Condition) (p : Program) (s : Session) (bss : List (List ℕ)) (bs : List ℕ) → AllIdle x bss → idle_on x bs ≡ true
    → s.idle + length bss + 1 ≡ limit → wait_read limit x p (after_idle (length bss) s) bs ≡ giving Answer.Timeout (after_idle (length bss) s)
idle_at limit x p s bss bs h e q = idle_out limit x p (after_idle (length bss) s) bs e (omega (arith, (afterwards (length bss) s).0, q))
