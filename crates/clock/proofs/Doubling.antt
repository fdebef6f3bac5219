-- The shift over any width w: a number added to itself in w bits is shifted once more, so repeated wrapping doubling is the shift (`doubling_shifts`).
use Rattle.std.proofs.Common.{◌≡◌, ℕ, zero, suc, ◌+◌, ◌*◌, ◌%◌, ◌^◌, ◌<◌, sym, ap, ◌∙◌, add-zero, mod-lt, mod-eq_of_lt, mul_assoc, mul_comm, mul-one, mul-div_cancel, add-one, arith, lit<, pow_pos, pow-add}
use native.Mathlib.Nat.{add-mod, mul-mod_left, pow-succ'}
use lib.Arith.{mod-mul}
use Rattle.clock.specs.Clock.{shifted, doubled_in}

shifted_none : (w x : ℕ) → x < 2 ^ w → x ≡ shifted w x 0
shifted_none w x h = sym (ap (λ (k : ℕ). k % 2 ^ w) (mul-one x) ∙ mod-eq_of_lt h)

twice : (a : ℕ) → a + a ≡ a * 2
twice a = omega arith

one_more : (x k : ℕ) → x * 2 ^ k * 2 ≡ x * 2 ^ (k + 1)
one_more x k = mul_assoc x (2 ^ k) 2 ∙ ap (λ (p : ℕ). x * p) (sym (pow-add 2 k 1))

shifted_more : (w x k : ℕ) → (shifted w x k + shifted w x k) % 2 ^ w ≡ shifted w x (k + 1)
shifted_more w x k = sym (add-mod (x * 2 ^ k) (x * 2 ^ k) (2 ^ w)) ∙ ap (λ (n : ℕ). n % 2 ^ w) (twice (x * 2 ^ k) ∙ one_more x k)

pub doubling_shifts : (w x k : ℕ) → x < 2 ^ w → doubled_in w x k ≡ shifted w x k
unfolding doubled_in
doubling_shifts w x zero h = shifted_none w x h
doubling_shifts w x (suc k) h = rw (doubling_shifts w x k h) (shifted_more w x k ∙ rw add-one)

-- where x leaves the top bit free, 1 can be added after any shift: what is shifted is even
even : (a p : ℕ) → 0 < p → a * 2 % (p * 2) ≡ a % p * 2
even a p h = rw (mod-mul (a * 2) h (lit< tt), mul-div_cancel a (lit< tt), mul-mod_left a 2, add-zero)

under : (r p : ℕ) → r < p → r * 2 + 1 < p * 2
under r p h = omega arith

small : (x p : ℕ) → x < p → x + 1 < p * 2
small x p h = omega arith

wider : (x p : ℕ) → x < p → x < p * 2
wider x p h = omega arith

top : (w : ℕ) → 2 ^ suc w ≡ 2 ^ w * 2
top w = pow-succ' 2 w ∙ mul_comm 2 (2 ^ w)

pub room : (w x k : ℕ) → x < 2 ^ w → shifted (suc w) x k + 1 < 2 ^ suc w
room w x zero h = rw (top w, mul-one x, mod-eq_of_lt (wider x (2 ^ w) h)) (small x (2 ^ w) h)
room w x (suc k) h =
    rw (top w, top k, ← mul_assoc x (2 ^ k) 2, even (x * 2 ^ k) (2 ^ w) (pow_pos w))
    (under (x * 2 ^ k % 2 ^ w) (2 ^ w) (mod-lt (x * 2 ^ k) (pow_pos w)))
