-- The events of a list, one after the other from a place on.
use mathlib.Core.Path.{◌≡◌, refl, sym, ap, ◌∙◌}
use mathlib.Core.Bool.{cond}
use mathlib.Core.Logic.{⊎_elim}
use mathlib.Core.List.{List, [], ◌∷◌}
use Prim.Native.Nat.{ℕ, zero, suc, ◌+◌, ◌-◌, ◌*◌, ◌/◌, ◌%◌, ◌≤◌, ◌<◌}
use native.Mathlib.Nat.{add-zero}
use native.Mathlib.Omega.{arith}
use lib.Dec.{eqb, leb}
use lib.ListN.{length, get_or, drop, length-drop}
use lib.Seq.{get_or-drop}
use borrow.Author.Tests.{le-leb, lt-leb, ne_eqb}
use Rattle.spad.proofs.Laws.{lt_or_ge}
use Rattle.records.specs.Records.{record_in, record_at}
use Rattle.records.proofs.Chunks.{too_few}
use Rattle.records.proofs.Turns.{records_first}
use Rattle.reader.specs.declared.Event.{Event}
use Rattle.reader.specs.Events.{event_of, last_of, events_of, event_number, event_at, place_after, place_after_all}

module _ (l : List ℕ) (i : ℕ) where
  -- where there is a record: it, and the events after it, which end as before
  same_end : i + 8 ≤ length l → last_of (drop i l) ≡ last_of (drop (i + 8) l)
  same_end h =
      let e : length (drop i l) % 8 ≡ length (drop (i + 8) l) % 8 = rw (length-drop i l, length-drop (i + 8) l) (omega arith) in
      ap (λ (n : ℕ). cond (eqb n 0) Event.End Event.Spare) e

  record_there : i + 8 ≤ length l → event_at i l ≡ event_of (record_in (record_at l i))
  unfolding event_at
  record_there h = rw (le-leb (i + 8) (length l) h) refl

  one_more : i + 8 ≤ length l → events_of (drop i l) ≡ event_at i l ∷ events_of (drop (i + 8) l)
  one_more h = rw (records_first l i h, same_end h, record_there h) refl

  -- where there is none: the end or spare bytes, and nothing after them
  last_there : length l < i + 8 → i ≤ length l → event_at i l ≡ last_of (drop i l)
  unfolding event_at
  last_there h k = rw (lt-leb (i + 8) (length l) h) (⊎_elim spare end (lt_or_ge i (length l)))
    where
      spare : i < length l → cond (leb (length l) i) Event.End Event.Spare ≡ last_of (drop i l)
      spare a =
          let some : length (drop i l) % 8 ≡ 0 → ⊥ = λ z. omega (arith, z, length-drop i l) in
          rw (lt-leb (length l) i a, ne_eqb (length (drop i l) % 8) 0 some) refl

      end : length l ≤ i → cond (leb (length l) i) Event.End Event.Spare ≡ last_of (drop i l)
      end b =
          let none : length (drop i l) % 8 ≡ 0 = rw length-drop (omega arith) in
          rw (le-leb (length l) i b, none) refl

  only : length l < i + 8 → i ≤ length l → events_of (drop i l) ≡ last_of (drop i l) ∷ []
  only h k = rw (too_few (drop i l) (rw length-drop (omega arith))) refl

-- the events after the last are that one again
past_one : (n : ℕ) (x : Event) → get_or (x ∷ []) n x ≡ x
past_one zero x = refl
past_one (suc n) x = refl

-- the n-th event from a place on, by where the reader is after n events
pub after_events : (n i : ℕ) (l : List ℕ) → i ≤ length l
    → event_at (place_after_all n i l) l ≡ get_or (events_of (drop i l)) n (last_of (drop i l))
unfolding place_after
after_events zero i l k =
    ⊎_elim
    (λ h. rw (only l i h k) (last_there l i h k))
    (λ h. rw (one_more l i h) refl)
    (lt_or_ge (length l) (i + 8))
after_events (suc n) i l k =
    ⊎_elim
    (λ h. rw (lt-leb (i + 8) (length l) h) (after_events n i l k ∙ rw (only l i h k) (past_one n (last_of (drop i l)))))
    (λ h. rw (le-leb (i + 8) (length l) h, one_more l i h, same_end l i h) (after_events n (i + 8) l h))
    (lt_or_ge (length l) (i + 8))

-- that place, while there are records
place_is : (n i : ℕ) (l : List ℕ) → i + 8 * n ≤ length l → place_after_all n i l ≡ i + 8 * n
unfolding place_after
place_is zero i l h = sym (add-zero i)
place_is (suc n) i l h =
    let e : i + 8 + 8 * n ≡ i + 8 * suc n = omega arith in
    rw (le-leb (i + 8) (length l) (omega arith)) (place_is n (i + 8) l (omega arith) ∙ e)

-- past the records there is only the last event
past : (n i : ℕ) (l : List ℕ) → i ≤ length l → length l < i + 8 * n + 8 → get_or (events_of (drop i l)) n (last_of (drop i l)) ≡ last_of (drop i l)
past zero i l k h = rw (only l i (omega arith) k) refl
past (suc n) i l k h =
    ⊎_elim
    (λ a. rw (only l i a k) refl)
    (λ a. rw (one_more l i a, same_end l i a) (past n (i + 8) l a (omega arith)))
    (lt_or_ge (length l) (i + 8))

same_test : (a b c d : ℕ) → (a ≤ b → c ≤ d) → (b < a → d < c) → leb a b ≡ leb c d
same_test a b c d f g =
    ⊎_elim (λ h. lt-leb a b h ∙ sym (lt-leb c d (g h))) (λ h. le-leb a b h ∙ sym (le-leb c d (f h))) (lt_or_ge b a)

-- what stands at a place is what stands at the start of the bytes from there on
shifted : (at : ℕ) (l : List ℕ) → at ≤ length l → event_at 0 (drop at l) ≡ event_at at l
unfolding event_at
shifted at l k =
    let n : length (drop at l) ≡ length l - at = length-drop at l in
    let there : leb (0 + 8) (length (drop at l)) ≡ leb (at + 8) (length l) = same_test (0 + 8) (length (drop at l)) (at + 8) (length l) (λ h. omega arith) (λ h. omega arith) in
    let over : leb (length (drop at l)) 0 ≡ leb (length l) at = same_test (length (drop at l)) 0 (length l) at (λ h. omega arith) (λ h. omega arith) in
    let same : record_at (drop at l) 0 ≡ record_at l at = rw (get_or-drop at l 0 0, get_or-drop at l 1 0, get_or-drop at l 2 0, get_or-drop at l 3 0, get_or-drop at l 4 0, get_or-drop at l 5 0, get_or-drop at l 6 0, get_or-drop at l 7 0, add-zero at) refl in
    rw (there, over, same) refl

pub numbered : (n : ℕ) (l : List ℕ) → 8 * n ≤ length l → event_at 0 (drop (8 * n) l) ≡ event_number n l
numbered n l h =
    let e : place_after_all n 0 l ≡ 8 * n = place_is n 0 l (omega arith) ∙ omega arith in
    shifted (8 * n) l h ∙ ap (λ (k : ℕ). event_at k l) (sym e) ∙ after_events n 0 l (omega arith)

pub numbered_last : (n : ℕ) (l : List ℕ) → length l / 8 ≤ n → event_at 0 (drop (8 * (length l / 8)) l) ≡ event_number n l
numbered_last n l h =
    numbered (length l / 8) l (omega arith)
    ∙ past (length l / 8) 0 l (omega arith) (omega arith)
    ∙ sym (past n 0 l (omega arith) (omega arith))
