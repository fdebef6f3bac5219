-- A session's bytes are read back as that session, and a session that was read is written back as its bytes.
use mathlib.Core.Path.{◌≡◌, refl, sym, ap, ◌∙◌}
use mathlib.Core.Bool.{Bool, true, false}
use mathlib.Core.List.{List, [], ◌∷◌, ◌++◌}
use Prim.Native.Nat.{ℕ, zero, suc, ◌+◌, ◌*◌, ◌/◌, ◌%◌, ◌<◌, ◌≤◌}
use native.Mathlib.Nat.{add-zero}
use native.Mathlib.Omega.{arith}
use lib.Dec.{eqb, ltb, leb}
use lib.ListN.{length, drop}
use lib.Seq.{drop-cons}
use borrow.Author.Tests.{leb-true, ltb-true}
use Rattle.session.specs.declared.Session.{Session}
use Rattle.session.specs.Bus.{byte}
use Rattle.session.specs.Instructions.{bytes_from}
use Rattle.ground.proofs.Facts.{both}
use Rattle.lines.specs.Lines.{flag}
use Rattle.layout.specs.Layout.{session_size, up_at, address_at, stop_at, budget_at, code_at, a_at, b_at, step_at, idle_at, transfers_at, failed_at, found_budget_at, carried_at, word_bytes, long_bytes, word_at, long_at, session_bytes, is_session, session_of, session_in}
use Rattle.layout.specs.RoundTrip.{Fits, are_bytes, RoundTrip}
use Rattle.layout.proofs.Images.{sized}

flag_is : (t : Bool) → eqb (flag t) 1 ≡ t
flag_is true = refl
flag_is false = refl

flag_small : (t : Bool) → leb (flag t) 1 ≡ true
flag_small true = refl
flag_small false = refl

long_is : (x : ℕ) → x / 16777216 * 16777216 + x / 65536 % 256 * 65536 + x / 256 % 256 * 256 + x % 256 ≡ x
long_is x = omega arith

word_is : (x : ℕ) → x / 256 * 256 + x % 256 ≡ x
word_is x = omega arith

is_a_session : (s : Session) → Fits s → is_session (session_bytes s) ≡ true
unfolding is_session session_bytes
is_a_session s h = rw (h.carried, flag_small s.driver.up) refl

read_back : (s : Session) → Fits s → session_in (session_bytes s) ≡ s
unfolding session_in session_of session_bytes
read_back s h =
    rw (is_a_session s h)
    (rw (flag_is s.driver.up, long_is s.driver.budget, long_is s.a, word_is s.b, long_is s.idle, long_is s.transfers, long_is s.found_budget) refl)

-- bytes one by one, and what is left of them
spread : (n k : ℕ) (l : List ℕ) → k + n ≤ length l → drop k l ≡ bytes_from k n l ++ drop (k + n) l
spread zero k l h = rw (add-zero k) refl
spread (suc n) k l h =
    let e : k + suc n ≡ suc k + n = omega arith in
    rw e (drop-cons l k 0 (omega arith) ∙ ap (λ (r : List ℕ). byte k l ∷ r) (spread n (suc k) l (omega arith)))

pub below : (l : List ℕ) (k : ℕ) → are_bytes l ≡ true → byte k l < 256
below [] k h = omega arith
below (x ∷ xs) zero h = ltb-true x 256 (both (ltb x 256) (are_bytes xs) h).0
below (x ∷ xs) (suc k) h = below xs k (both (ltb x 256) (are_bytes xs) h).1

flag_back : (b : ℕ) → b ≤ 1 → flag (eqb b 1) ≡ b
flag_back zero h = refl
flag_back (suc zero) h = refl
flag_back (suc (suc b)) h = absurd (omega arith)

long_back : (a b c d : ℕ) → a < 256 → b < 256 → c < 256 → d < 256
    → long_bytes (a * 16777216 + b * 65536 + c * 256 + d) ≡ d ∷ c ∷ b ∷ a ∷ []
long_back a b c d ha hb hc hd =
    let x = a * 16777216 + b * 65536 + c * 256 + d in
    let ea : x / 16777216 ≡ a = omega arith in
    let eb : x / 65536 % 256 ≡ b = omega arith in
    let ec : x / 256 % 256 ≡ c = omega arith in
    let ed : x % 256 ≡ d = omega arith in
    rw (ea, eb, ec, ed) refl

word_back : (a b : ℕ) → b < 256 → word_bytes (a * 256 + b) ≡ b ∷ a ∷ []
word_back a b hb =
    let ea : (a * 256 + b) / 256 ≡ a = omega arith in
    let eb : (a * 256 + b) % 256 ≡ b = omega arith in
    rw (ea, eb) refl

module _ (l : List ℕ) (bytes : are_bytes l ≡ true) where
  long_at_lem : (i : ℕ) → long_bytes (long_at i l) ≡ byte i l ∷ byte (i + 1) l ∷ byte (i + 2) l ∷ byte (i + 3) l ∷ []
  long_at_lem i =
      long_back (byte (i + 3) l) (byte (i + 2) l) (byte (i + 1) l) (byte i l)
      (below l (i + 3) bytes) (below l (i + 2) bytes) (below l (i + 1) bytes) (below l i bytes)

  -- the bytes of the session that is read, by its parts
  abbrev image : ℕ → List ℕ → List ℕ → List ℕ → List ℕ → List ℕ → List ℕ → List ℕ
  image up budget a b idle transfers found_budget =
      (up ∷ byte address_at l ∷ byte stop_at l ∷ budget)
      ++ ((byte code_at l ∷ a) ++ b ++ (byte step_at l ∷ idle) ++ transfers)
      ++ ((byte failed_at l ∷ found_budget) ++ drop carried_at l)

  written : leb (byte up_at l) 1 ≡ true → carried_at ≤ length l → session_bytes (session_of l) ≡ l
  unfolding session_bytes session_of
  written flagged long =
      ap (λ (x : ℕ). image x (long_bytes (long_at budget_at l)) (long_bytes (long_at a_at l)) (word_bytes (word_at b_at l)) (long_bytes (long_at idle_at l)) (long_bytes (long_at transfers_at l)) (long_bytes (long_at found_budget_at l))) (flag_back (byte up_at l) (leb-true (byte up_at l) 1 flagged))
      ∙ ap (λ (x : List ℕ). image (byte up_at l) x (long_bytes (long_at a_at l)) (word_bytes (word_at b_at l)) (long_bytes (long_at idle_at l)) (long_bytes (long_at transfers_at l)) (long_bytes (long_at found_budget_at l))) (long_at_lem budget_at)
      ∙ ap (λ (x : List ℕ). image (byte up_at l) (bytes_from budget_at 4 l) x (word_bytes (word_at b_at l)) (long_bytes (long_at idle_at l)) (long_bytes (long_at transfers_at l)) (long_bytes (long_at found_budget_at l))) (long_at_lem a_at)
      ∙ ap (λ (x : List ℕ). image (byte up_at l) (bytes_from budget_at 4 l) (bytes_from a_at 4 l) x (long_bytes (long_at idle_at l)) (long_bytes (long_at transfers_at l)) (long_bytes (long_at found_budget_at l))) (word_back (byte (b_at + 1) l) (byte b_at l) (below l b_at bytes))
      ∙ ap (λ (x : List ℕ). image (byte up_at l) (bytes_from budget_at 4 l) (bytes_from a_at 4 l) (bytes_from b_at 2 l) x (long_bytes (long_at transfers_at l)) (long_bytes (long_at found_budget_at l))) (long_at_lem idle_at)
      ∙ ap (λ (x : List ℕ). image (byte up_at l) (bytes_from budget_at 4 l) (bytes_from a_at 4 l) (bytes_from b_at 2 l) (bytes_from idle_at 4 l) x (long_bytes (long_at found_budget_at l))) (long_at_lem transfers_at)
      ∙ ap (λ (x : List ℕ). image (byte up_at l) (bytes_from budget_at 4 l) (bytes_from a_at 4 l) (bytes_from b_at 2 l) (bytes_from idle_at 4 l) (bytes_from transfers_at 4 l) x) (long_at_lem found_budget_at)
      ∙ sym (spread carried_at 0 l long)

write_back : (l : List ℕ) → are_bytes l ≡ true → is_session l ≡ true → session_bytes (session_in l) ≡ l
unfolding session_in is_session
write_back l bytes h =
    let long : carried_at ≤ length l = omega (arith, sized l h) in
    rw h (written l bytes (both (eqb (length l) session_size) (leb (byte up_at l) 1) h).1 long)

pub round_trip : RoundTrip
round_trip = record { is_a_session = is_a_session; read_back = read_back; write_back = write_back }
