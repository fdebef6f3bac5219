-- A reply record is taken as the Rust sees it: stray bytes refuse it, and the bytes past the read length are not looked at.
use mathlib.Core.Path.{◌≡◌, refl, ap}
use mathlib.Core.Bool.{not, ◌&&◌}
use mathlib.Core.List.{List, [], ◌∷◌}
use Prim.Native.Nat.{ℕ, zero, suc, ◌+◌, ◌≤◌, ◌<◌}
use native.Mathlib.Omega.{arith}
use native.Mathlib.Nat.{not-suc-le-zero, le_of_suc-le-suc}
use lib.Dec.{eqb}
use lib.ListN.{take, drop}
use Rattle.session.specs.Bus.{Transfer, byte, Condition, idle_on, zero_from, clean_from}
use Rattle.session.specs.Instructions.{Op, write, read, wait, range, bytes_from, send_of}
use Rattle.session.specs.Steps.{slot}
use Rattle.session.specs.Calls.{Program}
use Rattle.session.specs.Machine.{Session, context_of, react, to_reply, all_zero, stray}
use Rattle.session.specs.Script.{cut}

zero_from_lem : (n : ℕ) (bs : List ℕ) → all_zero (drop n bs) ≡ zero_from n bs
zero_from_lem zero [] = refl
zero_from_lem zero (x ∷ xs) = ap (λ b. eqb x 0 && b) (zero_from_lem zero xs)
zero_from_lem (suc n) [] = refl
zero_from_lem (suc n) (x ∷ xs) = zero_from_lem n xs

pub stray_is : (t : Transfer) (f : ℕ) (bs : List ℕ) → stray t f bs ≡ not (zero_from (clean_from f t.reads) bs)
unfolding stray
stray_is t zero bs = ap not (zero_from_lem t.reads bs)
stray_is t (suc e) bs = ap not (zero_from_lem 0 bs)

byte_take : (i m : ℕ) (bs : List ℕ) → i < m → byte i (take m bs) ≡ byte i bs
byte_take i zero bs h = absurd (not-suc-le-zero h)
byte_take zero (suc m) [] h = refl
byte_take zero (suc m) (x ∷ bs) h = refl
byte_take (suc i) (suc m) [] h = refl
byte_take (suc i) (suc m) (x ∷ bs) h = byte_take i m bs (le_of_suc-le-suc h)

bytes_take : (i n m : ℕ) (bs : List ℕ) → i + n ≤ m → bytes_from i n (take m bs) ≡ bytes_from i n bs
bytes_take i zero m bs h = refl
bytes_take i (suc n) m bs h = rw (byte_take i m bs (omega (arith, h)), bytes_take (suc i) n m bs (omega (arith, h)))

idle_take : (x : Condition) (bs : List ℕ) → idle_on x (take 1 bs) ≡ idle_on x bs
unfolding idle_on
idle_take Condition.DetectorReady [] = refl
idle_take Condition.DetectorReady (b ∷ bs) = refl
idle_take Condition.StatusReady [] = refl
idle_take Condition.StatusReady (b ∷ bs) = refl
idle_take Condition.Started [] = refl
idle_take Condition.Started (b ∷ bs) = refl

pub react_cut : (op : Op) (p : Program) (s : Session) (f : ℕ) (bs : List ℕ) → react op p s (to_reply f bs) ≡ react op p s (cut (send_of op (context_of s)) f bs)
react_cut (write reg bytes len over after) p s zero bs = refl
react_cut (write reg bytes len over after) p s (suc e) bs = refl
react_cut (read reg len slot finds over after) p s zero bs = rw (bytes_take 0 len len bs (omega arith))
react_cut (read reg len slot finds over after) p s (suc e) bs = refl
react_cut (wait w) p s zero bs = rw (idle_take w bs)
react_cut (wait w) p s (suc e) bs = refl
react_cut (range reg len slot over) p s zero bs = rw (bytes_take 0 len len bs (omega arith))
react_cut (range reg len slot over) p s (suc e) bs = refl
