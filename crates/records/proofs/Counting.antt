-- The counts that the code keeps are counts over the history.
use mathlib.Core.Path.{◌≡◌, refl, ap}
use Rattle.std.proofs.Common.{Some}
use mathlib.Core.Bool.{Bool, true, false, cond}
use mathlib.Core.List.{List, ◌∷◌}
use Prim.Native.Nat.{ℕ}
use native.Mathlib.Omega.{arith}
use borrow.Author.Tests.{eqb-true}
use lib.Dec.{eqb}
use Rattle.session.specs.Records.{Record, record_of}
use Rattle.session.specs.History.{Got, transfer, answer, refusal, Entry, is_accepted, is_accepted_call, is_accepted_reply, counts_of as history_counts}
use Rattle.session.specs.declared.Given.{Given}
use Rattle.records.specs.declared.Counts.{Counts}
use Rattle.records.specs.Runs.{counts_of, one_if, added_to}

-- what the code shows of what a record got
abbrev pub given_of : Got → Given
given_of (transfer t) = Given.Sent t
given_of (answer x n) = Given.Answered x n
given_of (refusal x) = Given.Refused x

-- the counts of a history, as the code keeps them
abbrev pub kept : List Entry → Counts
kept h = counts_of (history_counts h)

module _ (kind x b₂ b₃ b₄ b₅ b₆ b₇ : ℕ) (g : Got) where
  abbrev what : Record
  what = record_of kind x b₂ b₃ b₄ b₅ b₆ b₇

  calls_of_lem : (t u : Bool) → eqb kind 1 ≡ t → eqb kind 2 ≡ u → is_accepted_call what g ≡ cond (eqb kind 1) (is_accepted g) 0
  calls_of_lem true u e f = rw e refl
  calls_of_lem false true e f = rw (e, f) refl
  calls_of_lem false false e f = rw (e, f) refl

  replies_of_lem : (t u : Bool) → eqb kind 1 ≡ t → eqb kind 2 ≡ u → is_accepted_reply what g ≡ cond (eqb kind 2) (is_accepted g) 0
  replies_of_lem true u e f = rw (eqb-true kind 1 e) refl
  replies_of_lem false true e f = rw (e, f) refl
  replies_of_lem false false e f = rw (e, f) refl

same : (a₁ a₂ b₁ b₂ c₁ c₂ d₁ d₂ e₁ e₂ : ℕ) → a₁ ≡ a₂ → b₁ ≡ b₂ → c₁ ≡ c₂ → d₁ ≡ d₂ → e₁ ≡ e₂
    → ◌≡◌ {A = Counts} (record { calls = a₁; answers = b₁; replies = c₁; transfers = d₁; refused = e₁ }) (record { calls = a₂; answers = b₂; replies = c₂; transfers = d₂; refused = e₂ })
same a₁ a₂ b₁ b₂ c₁ c₂ d₁ d₂ e₁ e₂ p q r s t = rw (p, q, r, s, t) refl

-- one record more
pub added : (kind x b₂ b₃ b₄ b₅ b₆ b₇ : ℕ) (g : Got) (h : List Entry)
    → added_to (kept h) kind (given_of g) ≡ Some (kept (record { what = record_of kind x b₂ b₃ b₄ b₅ b₆ b₇; got = g } ∷ h))
unfolding added_to counts_of one_if
added kind x b₂ b₃ b₄ b₅ b₆ b₇ (transfer t) h =
    let p = calls_of_lem kind x b₂ b₃ b₄ b₅ b₆ b₇ (transfer t) (eqb kind 1) (eqb kind 2) refl refl in
    let q = replies_of_lem kind x b₂ b₃ b₄ b₅ b₆ b₇ (transfer t) (eqb kind 1) (eqb kind 2) refl refl in
    ap Some (same _ _ _ _ _ _ _ _ _ _ (omega (arith, p)) (omega arith) (omega (arith, q)) (omega arith) (omega arith))
added kind x b₂ b₃ b₄ b₅ b₆ b₇ (answer y n) h =
    let p = calls_of_lem kind x b₂ b₃ b₄ b₅ b₆ b₇ (answer y n) (eqb kind 1) (eqb kind 2) refl refl in
    let q = replies_of_lem kind x b₂ b₃ b₄ b₅ b₆ b₇ (answer y n) (eqb kind 1) (eqb kind 2) refl refl in
    ap Some (same _ _ _ _ _ _ _ _ _ _ (omega (arith, p)) (omega arith) (omega (arith, q)) (omega arith) (omega arith))
added kind x b₂ b₃ b₄ b₅ b₆ b₇ (refusal y) h =
    let p = calls_of_lem kind x b₂ b₃ b₄ b₅ b₆ b₇ (refusal y) (eqb kind 1) (eqb kind 2) refl refl in
    let q = replies_of_lem kind x b₂ b₃ b₄ b₅ b₆ b₇ (refusal y) (eqb kind 1) (eqb kind 2) refl refl in
    ap Some (same _ _ _ _ _ _ _ _ _ _ (omega (arith, p, none (eqb kind 1))) (omega arith) (omega (arith, q, none (eqb kind 2))) (omega arith) (omega arith))
  where
    none : (t : Bool) → ◌≡◌ {A = ℕ} (cond t 0 0) 0
    none true = refl
    none false = refl
