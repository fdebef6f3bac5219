-- A place that the first replies have found stays the first place when more replies are known: the places are listed by the reply that they wait for.
use Rattle.std.proofs.Common.{◌≡◌, refl, sym, ap, ◌∙◌, Bool, true, false, true≢false, List, [], ◌∷◌, ℕ, ◌≤◌, ◌<◌, leb, arith, lit≤, leb-true, leb-false, le-leb, Option, None, Some, is_some}
use borrow.Author.Tests.{lt-leb}
use Rattle.clock.specs.declared.Place.{Place}
use Rattle.timing.specs.declared.TimingRegisters.{TimingRegisters}
use Rattle.timing.specs.declared.Entry.{Entry}
use Rattle.timing.specs.Places.{entries_of, seen, or_next, first_match, first_place}

-- no entry needs fewer replies than one before it
abbrev Rising : ℕ → List Entry → Type 0
Rising n [] = Unit {0}
Rising n (e ∷ es) = (n ≤ e.needs) × Rising e.needs es

none_known : (k n : ℕ) (es : List Entry) → k < n → Rising n es → first_match (seen k es) ≡ None
unfolding first_match
none_known k n [] h r = refl
none_known k n (e ∷ es) h r =
    let l : k < e.needs = omega (arith, r.0) in
    rw (lt-leb e.needs k l) (none_known k e.needs es l r.1)

stays : (k j n : ℕ) (es : List Entry) (p : Place) → k ≤ j → Rising n es → first_match (seen k es) ≡ Some p → first_match (seen j es) ≡ Some p
unfolding first_match
stays k j n [] p h r f = f
stays k j n (e ∷ es) p h r f = at_entry (stays k j e.needs es p h r.1) (leb e.needs k) refl
  where
    by_place : (first_match (seen k es) ≡ Some p → first_match (seen j es) ≡ Some p) → (x : Option Place) → or_next x (first_match (seen k es)) ≡ Some p → or_next x (first_match (seen j es)) ≡ Some p
    by_place later None g = later g
    by_place later (Some q) g = g

    at_entry :
        (first_match (seen k es) ≡ Some p → first_match (seen j es) ≡ Some p)
        → (b : Bool)
        → leb e.needs k ≡ b
        → first_match (seen j (e ∷ es)) ≡ Some p
    at_entry later true q =
        let known : leb e.needs j ≡ true = le-leb e.needs j (omega (arith, leb-true e.needs k q)) in
        rw known (by_place later e.place (rw q at f))
    at_entry later false q =
        let none : first_match (seen k es) ≡ Some p = rw q at f in
        absurd (true≢false (sym (ap is_some (sym (none_known k e.needs es (leb-false e.needs k q) r.1) ∙ none))))

rising : (r : TimingRegisters) → Rising 0 (entries_of r)
unfolding entries_of
rising r = (lit≤ tt, (lit≤ tt, (lit≤ tt, (lit≤ tt, (lit≤ tt, (lit≤ tt, (lit≤ tt, (lit≤ tt, (lit≤ tt, tt)))))))))

pub first_place_stays : (r : TimingRegisters) (k j : ℕ) (p : Place) → k ≤ j → first_place r k ≡ Some p → first_place r j ≡ Some p
unfolding first_place
first_place_stays r k j p h e = stays k j 0 (entries_of r) p h (rising r) e
