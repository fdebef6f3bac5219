-- One pair of digits more, and the digits of a number: how many there are, and which is the last.
use mathlib.Core.Path.{◌≡◌, refl, sym, ap, ◌∙◌}
use mathlib.Core.Bool.{cond}
use mathlib.Core.Logic.{⊎_elim}
use mathlib.Core.List.{List, [], ◌∷◌, ◌++◌}
use Prim.Native.Nat.{ℕ, zero, suc, ◌+◌, ◌*◌, ◌/◌, ◌%◌, ◌≤◌, ◌<◌}
use native.Mathlib.Omega.{arith}
use lib.Dec.{ltb}
use lib.ListN.{length, take, get_or, length-append}
use lib.Seq.{take-suc}
use borrow.Author.Tests.{lt-ltb, le-ltb}
use Rattle.spad.proofs.Laws.{lt_or_ge}
use Rattle.lines.specs.Lines.{hex_pair, hex_pairs, digits, decimal}

pairs_append : (xs ys : List ℕ) → hex_pairs (xs ++ ys) ≡ hex_pairs xs ++ hex_pairs ys
pairs_append [] ys = refl
pairs_append (x ∷ xs) ys = ap (λ (l : List ℕ). hex_pair x ++ l) (pairs_append xs ys)

-- one byte more
pub pairs_suc : (l : List ℕ) (i : ℕ) → i < length l → hex_pairs (take (suc i) l) ≡ hex_pairs (take i l) ++ hex_pair (get_or l i 0)
pairs_suc l i h = rw (take-suc l i 0) (pairs_append (take i l) (get_or l i 0 ∷ []))

-- the bounds of numbers of one digit, of two, and so on
abbrev tens : ℕ → ℕ
tens zero = 10
tens (suc k) = 10 * tens k

-- what one digit of room more than enough changes: nothing
spare : (k n : ℕ) → n < tens k → digits (suc k) n ≡ digits k n
unfolding digits
spare zero n h = rw (lt-ltb n 10 h) refl
spare (suc k) n h =
    ap (λ (l : List ℕ). cond (ltb n 10) ((48 + n) ∷ []) (l ++ ((48 + n % 10) ∷ []))) (spare k (n / 10) (omega arith))

pub decimal_one : (n : ℕ) → n < 10 → decimal n ≡ (48 + n) ∷ []
unfolding digits
decimal_one n h = rw (lt-ltb n 10 h) refl

pub decimal_more : (n : ℕ) → 10 ≤ n → n < 4294967296 → decimal n ≡ decimal (n / 10) ++ ((48 + n % 10) ∷ [])
unfolding digits
decimal_more n h b =
    rw (le-ltb n 10 h) (ap (λ (l : List ℕ). l ++ ((48 + n % 10) ∷ [])) (sym (spare 8 (n / 10) (omega arith))))

pub length_more : (n : ℕ) → 10 ≤ n → n < 4294967296 → length (decimal n) ≡ length (decimal (n / 10)) + 1
length_more n h b = ap length (decimal_more n h b) ∙ simp length-append

-- a number below `tens m` has at most m + 1 digits
short : (k m n : ℕ) → n < tens m → length (digits k n) ≤ suc m
unfolding digits
short zero m n h = omega arith
short (suc k) zero n h = rw (lt-ltb n 10 h) (omega arith)
short (suc k) (suc m) n h =
    ⊎_elim
    (λ a. rw (lt-ltb n 10 a) (omega arith))
    (λ b. rw (le-ltb n 10 b, length-append) (omega (arith, short k m (n / 10) (omega arith))))
    (lt_or_ge n 10)

pub byte_digits : (n : ℕ) → n < 256 → length (decimal n) ≤ 3
byte_digits n h = short 9 2 n (omega arith)

pub word_digits : (n : ℕ) → n < 4294967296 → length (decimal n) ≤ 10
word_digits n h = short 9 9 n (omega arith)
