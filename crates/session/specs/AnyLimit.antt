-- Wait facts over any limit from 1 up: of the Rust's loop, and of the machine's reads.
use Rattle.std.specs.Prelude.{◌≡◌, Bool, true, false, List, [], ◌∷◌, ℕ, zero, suc, T, eqb}
use Rattle.session.specs.Bus.{Driver, Transfer, Answer, Reply, bad, good, Condition, idle_on, number_of}
use Rattle.session.specs.Instructions.{wait, send_of}
use Rattle.session.specs.Calls.{Program}
use Rattle.session.specs.Machine.{Session, Outcome, sent, answered, refused, broken, context_of, sending, wait_read}
use Rattle.session.specs.Script.{Script, done, wait_loop, Raw, data_of, is_clean, cut, Trace, sends, refuses, waits, ends}
use Rattle.session.specs.Claim3.{If}

abbrev pub is_idle : (List ℕ → Bool) → Reply → Bool
is_idle idle (bad e) = false
is_idle idle (good bs) = idle bs

-- among the replies, those with a stray byte left out, the first n are there, and each is idle
abbrev pub FirstIdle : (List ℕ → Bool) → Transfer → ℕ → List Raw → Type 0
FirstIdle idle t zero rs = Unit {0}
FirstIdle idle t (suc n) [] = ⊥
FirstIdle idle t (suc n) (r ∷ rs) =
    If (is_clean t r) (T (is_idle idle (cut t r.failure (data_of r))) × FirstIdle idle t n rs) (FirstIdle idle t (suc n) rs)

abbrev pub ends_in_timeout : Trace → Bool
ends_in_timeout (sends t x) = ends_in_timeout x
ends_in_timeout (refuses a x) = ends_in_timeout x
ends_in_timeout waits = false
ends_in_timeout (ends a d) = eqb (number_of a) 4

-- the Rust's loop alone
abbrev pub wait_alone : Transfer → (List ℕ → Bool) → Driver → ℕ → Script
wait_alone t idle d n = wait_loop n t idle (λ e. done (Answer.BusError (suc e)) d) (done Answer.Timeout d) (done (Answer.Done 0) d)

-- reads of a wait one after the other, as long as each leaves the call at it
abbrev pub next_read : Outcome → (Session → Outcome) → Outcome
next_read (sent t s) f = f s
next_read (answered x n s) f = answered x n s
next_read (refused x s) f = refused x s
next_read (broken s) f = broken s

unfoldable pub wait_reads : ℕ → Condition → Program → Session → List (List ℕ) → Outcome
wait_reads limit x p s [] = sent (send_of (wait x) (context_of s)) s
wait_reads limit x p s (bs ∷ bss) = next_read (wait_read limit x p s bs) (λ t. wait_reads limit x p t bss)

abbrev pub AllIdle : Condition → List (List ℕ) → Type 0
AllIdle x [] = Unit {0}
AllIdle x (bs ∷ bss) = (idle_on x bs ≡ true) × AllIdle x bss

-- the session after k more idle reads
abbrev pub after_idle : ℕ → Session → Session
after_idle zero s = s
after_idle (suc k) s = after_idle k (sending s.step (suc s.idle) s)
