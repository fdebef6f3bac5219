-- The bytes of a list after a store of several bytes.
use mathlib.Core.Path.{◌≡◌, refl, sym, ap, ◌∙◌}
use mathlib.Core.List.{List, [], ◌∷◌}
use Prim.Native.Nat.{ℕ, zero, suc, ◌+◌, ◌≤◌, ◌<◌}
use native.Mathlib.Nat.{add-zero, add-suc, suc-add}
use native.Mathlib.Omega.{arith}
use lib.ListN.{length, set, length-set}
use lib.Seq.{sets, length-sets, get_or-set_same, get_or-set_other}
use Rattle.session.specs.Bus.{byte}
use Rattle.session.specs.Instructions.{bytes_from, put}

pub length_from : (i n : ℕ) (bs : List ℕ) → length (bytes_from i n bs) ≡ n
length_from i zero bs = refl
length_from i (suc n) bs = ap suc (length_from (suc i) n bs)

pub from_at : (i n j : ℕ) (bs : List ℕ) → j < n → byte j (bytes_from i n bs) ≡ byte (i + j) bs
from_at i zero j bs h = absurd (omega arith)
from_at i (suc n) zero bs h = ap (λ k. byte k bs) (sym (add-zero i))
from_at i (suc n) (suc j) bs h =
    let h' : j < n = omega arith in
    from_at (suc i) n j bs h' ∙ ap (λ k. byte k bs) (suc-add i j ∙ sym (add-suc i j))

pub under : (vs l : List ℕ) (k j : ℕ) → j < k → byte j (sets l k vs) ≡ byte j l
under [] l k j h = refl
under (a ∷ vs) l k j h =
    let h' : j < suc k = omega arith in
    under vs (set l k a) (suc k) j h' ∙ get_or-set_other l k j a 0 (λ e. omega arith)

pub above : (vs l : List ℕ) (k j : ℕ) → k + length vs ≤ j → byte j (sets l k vs) ≡ byte j l
above [] l k j h = refl
above (a ∷ vs) l k j h =
    let h' : suc k + length vs ≤ j = omega arith in
    above vs (set l k a) (suc k) j h' ∙ get_or-set_other l k j a 0 (λ e. omega arith)

pub within : (vs l : List ℕ) (k i : ℕ) → i < length vs → k + length vs ≤ length l → byte (k + i) (sets l k vs) ≡ byte i vs
within [] l k i h r = absurd (omega arith)
within (a ∷ vs) l k zero h r =
    let lt : k < suc k = omega arith in
    let lt' : k < length l = omega arith in
    ap (λ j. byte j (sets l k (a ∷ vs))) (add-zero k) ∙ under vs (set l k a) (suc k) k lt ∙ get_or-set_same l k a 0 lt'
within (a ∷ vs) l k (suc i) h r =
    let h' : i < length vs = omega arith in
    let r' : suc k + length vs ≤ length (set l k a) = rw (length-set l k a) (omega arith) in
    ap (λ j. byte j (sets l k (a ∷ vs))) (add-suc k i ∙ sym (suc-add k i)) ∙ within vs (set l k a) (suc k) i h' r'

pub length_put : (l : List ℕ) (k : ℕ) (vs : List ℕ) → length (put l k vs) ≡ length l
length_put l k vs = length-sets l k vs
