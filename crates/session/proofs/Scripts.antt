-- The script of a call from a step on: its first transfer is the instruction's, and skipped instructions are left out.
use mathlib.Core.Path.{◌≡◌, refl}
use mathlib.Core.List.{List, [], ◌∷◌}
use Prim.Native.Nat.{ℕ, zero, suc, ◌-◌, ◌≤◌, ◌<◌}
use native.Mathlib.Nat.{sub-zero}
use native.Mathlib.Omega.{arith}
use lib.ListN.{drop}
use Rattle.session.specs.Bus.{Answer, wait_limit, idle_on}
use Rattle.session.specs.Instructions.{Context, Op, write, read, wait, range, Final, send_of}
use Rattle.session.specs.Script.{done, wait_loop, Trace, sends, shown}
use Rattle.session.specs.AnySession.{failing, resume, resume_in}

pub resume_first : (fin : Context → Final) (op : Op) (rest : List Op) (c : Context) → resume_in fin 0 op rest c ≡ resume fin zero (op ∷ rest) c
resume_first fin (write reg bytes len over after) rest c = refl
resume_first fin (read reg len slot finds over after) rest c = refl
resume_first fin (wait w) rest c = rw sub-zero
resume_first fin (range reg len slot over) rest c = refl

pub resume_skip : (fin : Context → Final) (n : ℕ) (l : List Op) (c : Context) → resume fin n l c ≡ resume fin zero (drop n l) c
resume_skip fin zero l c = refl
resume_skip fin (suc n) [] c = refl
resume_skip fin (suc n) (op ∷ l) c = resume_skip fin n l c

-- the first transfer of what is left, where a wait has reads left
abbrev pub HasReads : ℕ → ℕ → Op → Type 0
HasReads code i (write reg bytes len over after) = Unit {0}
HasReads code i (read reg len slot finds over after) = Unit {0}
HasReads code i (wait w) = i < wait_limit code w
HasReads code i (range reg len slot over) = Unit {0}

pub first_shown : (fin : Context → Final) (i : ℕ) (op : Op) (rest : List Op) (c : Context) (x : Trace) → HasReads c.code i op
    → shown (resume_in fin i op rest c) x ≡ sends (send_of op c) x
unfolding wait_loop
first_shown fin i (write reg bytes len over after) rest c x h = refl
first_shown fin i (read reg len slot finds over after) rest c x h = refl
first_shown fin i (wait w) rest c x h = go (wait_limit c.code w - i) (omega (arith, h))
  where
    go : (n : ℕ) → 1 ≤ n → shown (wait_loop n (send_of (wait w) c) (idle_on w) (failing c) (done Answer.Timeout c.driver) (resume fin zero rest c)) x ≡ sends (send_of (wait w) c) x
    go zero k = absurd (omega arith)
    go (suc n) k = refl
first_shown fin i (range reg len slot over) rest c x h = refl
