-- Halving until at most 255: more halvings than are needed change nothing, and the word is small.
use Rattle.std.proofs.Common.{◌≡◌, ℕ, zero, suc, ◌+◌, ◌*◌, ◌/◌, ◌^◌, ◌<◌, ◌≤◌, Bool, true, false, cond, leb, sym, refl, ap, ◌∙◌, arith, le-leb, leb-true}
use native.Mathlib.Nat.{pow-succ'}
use borrow.Author.Tests.{lt-leb}
use Rattle.clock.specs.Clock.{halved_in, halved}

small_is : (n : ℕ) → n < 256 * 2 ^ 0 → n ≤ 255
small_is n h = omega arith

pub half_lt : (n p : ℕ) → n < 256 * (2 * p) → n / 2 < 256 * p
half_lt n p h = omega arith

-- f halvings bring n to at most 255, so one more changes nothing
pub enough : (f n : ℕ) → n < 256 * 2 ^ f → halved_in f n ≡ halved_in (suc f) n
unfolding halved_in
enough zero n h = rw (le-leb n 255 (small_is n h))
enough (suc f) n h = rw (enough f (n / 2) (half_lt n (2 ^ f) (rw (pow-succ' 2 f) at h)))

pub halved_small : (n : ℕ) → n ≤ 255 → n ≡ halved n
unfolding halved halved_in
halved_small n h = rw (le-leb n 255 h)

step : (f n : ℕ) → 255 < n → 256 + halved_in f (n / 2) ≡ halved_in (suc f) n
unfolding halved_in
step f n h = rw (lt-leb n 255 h)

pub halved_more : (n : ℕ) → 255 < n → n < 65536 → 256 + halved (n / 2) ≡ halved n
unfolding halved
halved_more n h l = ap (λ (k : ℕ). 256 + k) (sym (enough 7 (n / 2) (omega arith))) ∙ step 7 n h

bounded : (f n : ℕ) → n < 256 * 2 ^ f → halved_in f n ≤ f * 256 + 255
unfolding halved_in
bounded zero n h = omega arith
bounded (suc f) n h = by_test (leb n 255) refl (bounded f (n / 2) (half_lt n (2 ^ f) (rw (pow-succ' 2 f) at h)))
  where
    by_test : (b : Bool) → leb n 255 ≡ b → halved_in f (n / 2) ≤ f * 256 + 255 → cond b n (256 + halved_in f (n / 2)) ≤ suc f * 256 + 255
    by_test true e r = omega (arith, leb-true n 255 e)
    by_test false e r = omega arith

-- a word is at most 0x08ff
pub halved_le : (n : ℕ) → n < 65536 → halved n ≤ 2303
unfolding halved
halved_le n h = bounded 8 n h
