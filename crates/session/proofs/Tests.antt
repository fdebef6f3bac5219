-- A budget read that looks at all that is known decides as its new tests do, where the earlier replies were clear.
use mathlib.Core.Path.{◌≡◌, refl, ◌∙◌}
use mathlib.Core.Bool.{Bool, true, false, cond}
use mathlib.Core.List.{List, [], ◌∷◌}
use Prim.Native.Nat.{ℕ, zero, suc, ◌/◌, ◌≤◌}
use native.Mathlib.Omega.{arith}
use borrow.Author.Tests.{leb-true, leb-false, le-leb, lt-leb, eqb-true, eqb-false, ne_eqb}
use lib.Dec.{leb, eqb, ltb}
use Rattle.std.specs.Prelude.{Option, None, Some, Ok, Err, is_none}
use Rattle.clock.specs.declared.WideMclks.{WideMclks}
use Rattle.clock.specs.declared.Place.{Place}
use Rattle.clock.specs.Places.{place_number}
use Rattle.clock.specs.Clock.{mclks_of, encoded_timeout}
use Rattle.timing.specs.declared.TimingRegisters.{TimingRegisters}
use Rattle.timing.specs.declared.Entry.{Entry}
use Rattle.timing.specs.Timeouts.{pre_share}
use Rattle.timing.specs.Places.{entries_of, after, seen, first_match, first_place}
use Rattle.budget.specs.declared.DssTerm.{DssTerm}
use Rattle.budget.specs.declared.NoWord.{NoWord}
use Rattle.budget.specs.Sums.{used_sum}
use Rattle.budget.specs.Budget.{with_pre, word_of_sum, word_of_clocks, word_within, word_after, final_range_word}
use Rattle.session.specs.Instructions.{Context, panics, Verdict, onward, leap, stop, test}
use Rattle.session.specs.Steps.{by_place, by_word}
use Rattle.session.specs.Script.{Script}
use Rattle.ground.proofs.Facts.{cond_same, clash}
use Rattle.session.specs.AnySession.{decided}
use Rattle.session.proofs.Once.{none_is, places_at, by_places, final_macro, spare_sum, word_tests}

-- with no reply nothing is known
pub none_known : (r : TimingRegisters) → first_place r 0 ≡ None
unfolding first_place entries_of first_match
none_known r = refl

-- no place means that the first is none, and so are the others
first_none : (p : Option Place) (ps : List (Option Place)) → first_match (p ∷ ps) ≡ None → (p ≡ None) × (first_match ps ≡ None)
unfolding first_match
first_none None ps e = (refl, e)
first_none (Some p) ps e = clash cc

-- where the first m replies show no place, the first that one more shows is the first of its own
new_places : (m : ℕ) (es : List Entry) → first_match (seen m es) ≡ None → first_match (seen (suc m) es) ≡ first_match (places_at (suc m) es)
unfolding first_match
new_places m [] h = refl
new_places m (e ∷ es) h =
    let q = first_none (after e.needs m e.place) (seen m es) h in
    at_entry q.0 (new_places m es q.1) (leb e.needs m) refl (eqb e.needs (suc m)) refl
  where
    at_entry : after e.needs m e.place ≡ None → first_match (seen (suc m) es) ≡ first_match (places_at (suc m) es)
        → (a : Bool) → leb e.needs m ≡ a → (b : Bool) → eqb e.needs (suc m) ≡ b
        → first_match (seen (suc m) (e ∷ es)) ≡ first_match (places_at (suc m) (e ∷ es))
    at_entry z later true p b q =
        let l : e.needs ≤ m = leb-true e.needs m p in
        let known : leb e.needs (suc m) ≡ true = le-leb e.needs (suc m) (omega arith) in
        let old : eqb e.needs (suc m) ≡ false = ne_eqb e.needs (suc m) (λ w. omega arith) in
        let none : e.place ≡ None = rw p at z in
        rw (known, old, none) later
    at_entry z later false p true q =
        let known : leb e.needs (suc m) ≡ true = le-leb e.needs (suc m) (omega (arith, eqb-true e.needs (suc m) q)) in
        rw (known, q, later) refl
    at_entry z later false p false q =
        let unknown : leb e.needs (suc m) ≡ false = lt-leb e.needs (suc m) (omega (arith, leb-false e.needs m p, eqb-false e.needs (suc m) q)) in
        rw (unknown, q) later

pub new_place : (r : TimingRegisters) (m : ℕ) → first_place r m ≡ None
    → first_place r (suc m) ≡ first_match (places_at (suc m) (entries_of r))
unfolding first_place
new_place r m h = new_places m (entries_of r) h

-- the new tests pass
abbrev pub NonePanics : List (Option Place) → Type 0
NonePanics [] = Unit {0}
NonePanics (p ∷ ps) = (is_none p ≡ true) × NonePanics ps

none_first : (ps : List (Option Place)) → NonePanics ps → first_match ps ≡ None
unfolding first_match
none_first [] h = refl
none_first (p ∷ ps) h = rw (none_is p h.0) (none_first ps h.1)

-- then one reply more is clear
pub clear_on : (r : TimingRegisters) (m : ℕ) → first_place r m ≡ None → NonePanics (places_at (suc m) (entries_of r))
    → first_place r (suc m) ≡ None
clear_on r m h none = new_place r m h ∙ none_first (places_at (suc m) (entries_of r)) none

-- the first of some places as nested tests; `made` stops at a place
module _ (over : ℕ) (c : Context) (κ : ℕ → Script) (made : Option Place → Verdict) (v : Verdict)
    (ends : (p : Place) → made (Some p) ≡ stop (panics (place_number p)))
    (goes : decided (made None) over c κ ≡ decided v over c κ) where
  nested : (ps : List (Option Place)) → decided (made (first_match ps)) over c κ ≡ decided (by_places ps v) over c κ
  unfolding first_match
  nested [] = goes
  nested (None ∷ ps) = nested ps
  nested (Some p ∷ ps) = rw (ends p) refl

-- the n-th read, where the replies before it were clear
pub first_agrees : (r : TimingRegisters) (m : ℕ) → first_place r m ≡ None → (over : ℕ) (c : Context) (κ : ℕ → Script)
    → decided (by_place (first_place r (suc m))) over c κ ≡ decided (by_places (places_at (suc m) (entries_of r)) onward) over c κ
first_agrees r m h over c κ = rw (new_place r m h) (nested over c κ by_place onward (λ p. refl) refl (places_at (suc m) (entries_of r)))

-- the word of the clocks in all, and of the time left, where there is no place
module _ (dss : DssTerm) (short : Verdict) (r : TimingRegisters) (over : ℕ) (c : Context) (κ : ℕ → Script) where
  sum_agrees : (n : ℕ) → decided (by_word short (word_of_sum n)) over c κ ≡ decided (test (ltb 65535 n) (stop (panics 9)) onward) over c κ
  unfolding word_of_sum
  sum_agrees n = by (ltb 65535 n)
    where
      by : (b : Bool)
          → decided (by_word short (cond b (Err (NoWord.Panic Place.FinalTimeout)) (Ok (encoded_timeout (record { 0 = n }))))) over c κ
          ≡ decided (test b (stop (panics 9)) onward) over c κ
      by true = refl
      by false = refl

  within_agrees : (budget : ℕ)
      → decided (by_word short (word_within r (record { 0 = budget }) (used_sum r dss))) over c κ ≡ decided (word_tests dss short r budget) over c κ
  unfolding word_within mclks_of
  within_agrees budget = by (ltb budget (used_sum r dss).0) (ltb 4294967295 (spare_sum dss r budget)) (eqb (final_macro r) 0)
    where
      clocks : WideMclks
      clocks = record { 0 = spare_sum dss r budget / final_macro r }

      by : (a b z : Bool)
          → decided (by_word short (cond a (Err NoWord.NoTime) (word_of_clocks (cond b (Err Place.ToMclks) (cond z (Err Place.NoMacroPeriod) (Ok clocks))) r))) over c κ
          ≡ decided (test a short (test b (stop (panics 7)) (test z (stop (panics 8)) (test (ltb 65535 (with_pre clocks (pre_share r))) (stop (panics 9)) onward)))) over c κ
      by true b z = refl
      by false true z = refl
      by false false true = refl
      by false false false = sum_agrees (with_pre clocks (pre_share r))

-- the last read before the word is written, where the five before it were clear
pub word_agrees : (dss : DssTerm) (short : Verdict) (r : TimingRegisters) (budget : ℕ) → first_place r 5 ≡ None → (over : ℕ) (c : Context) (κ : ℕ → Script)
    → decided (by_word short (final_range_word r (record { 0 = budget }) dss)) over c κ
    ≡ decided (by_places (places_at 6 (entries_of r)) (word_tests dss short r budget)) over c κ
unfolding final_range_word
word_agrees dss short r budget h over c κ =
    rw (new_place r 5 h)
    (nested over c κ (λ x. by_word short (word_after x r (record { 0 = budget }) dss)) (word_tests dss short r budget) (λ p. refl)
    (within_agrees dss short r over c κ budget) (places_at 6 (entries_of r)))

-- where a read goes on it has found no place
pub place_same : (x : Option Place) (over : ℕ) (c : Context) (κ κ' : ℕ → Script) → (x ≡ None → κ zero ≡ κ' zero)
    → decided (by_place x) over c κ ≡ decided (by_place x) over c κ'
place_same None over c κ κ' h = h refl
place_same (Some p) over c κ κ' h = refl

-- a verdict leads on, over some instructions or to an end
pub verdict_same : (v : Verdict) (over : ℕ) (c : Context) (κ κ' : ℕ → Script) → κ zero ≡ κ' zero → κ over ≡ κ' over
    → decided v over c κ ≡ decided v over c κ'
verdict_same onward over c κ κ' p q = p
verdict_same leap over c κ κ' p q = q
verdict_same (stop x) over c κ κ' p q = refl
verdict_same (test b v w) over c κ κ' p q =
    cond_same (λ x. x) (λ x. x) b (verdict_same v over c κ κ' p q) (verdict_same w over c κ κ' p q)
