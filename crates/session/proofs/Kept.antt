-- What a reply puts in the place of what was carried: two contexts that agree on a part agree on it after the same reply, and on what it brings.
use mathlib.Core.Path.{◌≡◌, refl, sym, ap, ◌∙◌}
use mathlib.Core.Bool.{Bool, true, false, not, ◌||◌, ◌&&◌, cond}
use mathlib.Core.List.{List, [], ◌∷◌}
use Prim.Native.Nat.{ℕ, zero, suc, ◌+◌, ◌≤◌, ◌<◌}
use native.Mathlib.Omega.{arith}
use borrow.Author.Tests.{leb-true, ltb-true, eqb-true, eqb-false, not-true, ne_eqb}
use lib.Dec.{eqb, leb, ltb}
use lib.ListN.{length, set, length-set}
use lib.Seq.{sets}
use Rattle.timing.specs.Registers.{registers_of}
use Rattle.timing.specs.Timeouts.{time_in}
use Rattle.budget.specs.Budget.{measurement_timing_budget}
use Rattle.session.specs.Bus.{byte, Reply, bad, good}
use Rattle.session.specs.Instructions.{Context, Op, write, read, wait, range, bytes_from, put, budget_in}
use Rattle.session.specs.Parts.{Part, byte_in, range_byte_in, failure_code, budget_found, argument_a, argument_b, bytes_in}
use Rattle.session.specs.AnySession.{keeping}
use Rattle.ground.proofs.Facts.{both, clash}
use Rattle.session.proofs.Slots.{length_from, under, above}
use Rattle.session.proofs.Uses.{part_in, On}

-- a byte that is stored is there in both, or past the end of both
stored : (l l' : List ℕ) (k a : ℕ) → length l ≡ length l' → byte k (set l k a) ≡ byte k (set l' k a)
stored [] [] k a e = refl
stored [] (x ∷ l') k a e = absurd (omega (arith, e))
stored (x ∷ l) [] k a e = absurd (omega (arith, e))
stored (x ∷ l) (x' ∷ l') zero a e = refl
stored (x ∷ l) (x' ∷ l') (suc k) a e = let e' : length l ≡ length l' = omega (arith, e) in stored l l' k a e'

inside : (vs l l' : List ℕ) (k i : ℕ) → length l ≡ length l' → k ≤ i → i < k + length vs → byte i (sets l k vs) ≡ byte i (sets l' k vs)
inside [] l l' k i e h h' = absurd (omega (arith, h, h'))
inside (a ∷ vs) l l' k i e h h' =
    go (eqb k i) refl (λ q.
    let e' : length (set l k a) ≡ length (set l' k a) = length-set l k a ∙ e ∙ sym (length-set l' k a) in
    inside vs (set l k a) (set l' k a) (suc k) i e' (omega (arith, h, eqb-false k i q)) (omega (arith, h')))
  where
    go : (t : Bool) → eqb k i ≡ t → (eqb k i ≡ false → byte i (sets l k (a ∷ vs)) ≡ byte i (sets l' k (a ∷ vs))) → byte i (sets l k (a ∷ vs)) ≡ byte i (sets l' k (a ∷ vs))
    go true q later =
        let z : k ≡ i = eqb-true k i q in
        let lt : k < suc k = omega arith in
        rw (← z) (under vs (set l k a) (suc k) k lt ∙ stored l l' k a e ∙ sym (under vs (set l' k a) (suc k) k lt))
    go false q later = later q

-- a reply brings the part, whatever was there before
abbrev pub brings : Op → Part → Bool
brings (write reg bytes len over after) p = false
brings (read reg len slot finds over after) (byte_in i) = leb slot i && ltb i (slot + len)
brings (read reg len slot finds over after) (range_byte_in i) = false
brings (read reg len slot finds over after) failure_code = false
brings (read reg len slot finds over after) budget_found = finds && (eqb slot 15 && leb 1 len)
brings (read reg len slot finds over after) argument_a = false
brings (read reg len slot finds over after) argument_b = false
brings (wait w) p = false
brings (range reg len slot over) (byte_in i) = false
brings (range reg len slot over) (range_byte_in i) = leb slot i && ltb i (slot + len)
brings (range reg len slot over) failure_code = true
brings (range reg len slot over) budget_found = false
brings (range reg len slot over) argument_a = false
brings (range reg len slot over) argument_b = false

-- or leaves it as it was
abbrev pub leaves : Op → Part → Bool
leaves (write reg bytes len over after) p = true
leaves (read reg len slot finds over after) (byte_in i) = ltb i slot || leb (slot + len) i
leaves (read reg len slot finds over after) (range_byte_in i) = ltb i slot || leb (slot + len) i
leaves (read reg len slot finds over after) failure_code = true
leaves (read reg len slot finds over after) budget_found = not finds
leaves (read reg len slot finds over after) argument_a = true
leaves (read reg len slot finds over after) argument_b = true
leaves (wait w) p = true
leaves (range reg len slot over) (byte_in i) = ltb i slot || leb (slot + len) i
leaves (range reg len slot over) (range_byte_in i) = false
leaves (range reg len slot over) failure_code = false
leaves (range reg len slot over) budget_found = true
leaves (range reg len slot over) argument_a = true
leaves (range reg len slot over) argument_b = true

-- the budget is made of the bytes before the last
abbrev pub sources : Op → List Part
sources (write reg bytes len over after) = []
sources (read reg len slot finds over after) = cond finds (bytes_in 8 7) []
sources (wait w) = []
sources (range reg len slot over) = []

pub either : {A : Type 0} (a b : Bool) → a || b ≡ true → (a ≡ true → A) → (b ≡ true → A) → A
either true b h f g = f refl
either false b h f g = g h

outside : (i slot len : ℕ) (l bs : List ℕ) → ltb i slot || leb (slot + len) i ≡ true → byte i (put l slot (bytes_from 0 len bs)) ≡ byte i l
outside i slot len l bs h =
    either (ltb i slot) (leb (slot + len) i) h
    (λ e. under (bytes_from 0 len bs) l slot i (ltb-true i slot e))
    (λ e. let n = leb-true (slot + len) i e in above (bytes_from 0 len bs) l slot i (rw (length_from 0 len bs) n))

within_both : (i slot len : ℕ) (l l' bs : List ℕ) → length l ≡ length l' → leb slot i && ltb i (slot + len) ≡ true
    → byte i (put l slot (bytes_from 0 len bs)) ≡ byte i (put l' slot (bytes_from 0 len bs))
within_both i slot len l l' bs e h =
    let q = both (leb slot i) (ltb i (slot + len)) h in
    let lt : i < slot + len = ltb-true i (slot + len) q.1 in
    inside (bytes_from 0 len bs) l l' slot i e (leb-true slot i q.0) (rw (length_from 0 len bs) lt)

-- a good reply, or any reply to a range read
abbrev pub Goes : Op → Reply → Type 0
Goes (write reg bytes len over after) r = Unit {0}
Goes (read reg len slot finds over after) (bad e) = ⊥
Goes (read reg len slot finds over after) (good bs) = Unit {0}
Goes (wait w) r = Unit {0}
Goes (range reg len slot over) r = Unit {0}

-- the budget that the last of the first six replies gives
budget_same : (len : ℕ) (c c' : Context) (bs : List ℕ) → length c.carried ≡ length c'.carried → leb 1 len ≡ true → On (bytes_in 8 7) c c'
    → budget_in 8 (put c.carried 15 (bytes_from 0 len bs)) ≡ budget_in 8 (put c'.carried 15 (bytes_from 0 len bs))
budget_same len c c' bs m h o = ap (λ l. (time_in (measurement_timing_budget (registers_of l))).0) (eight 7 8 refl o)
  where
    vs : List ℕ
    vs = bytes_from 0 len bs

    eight : (n i : ℕ) → i + n ≡ 15 → On (bytes_in i n) c c' → bytes_from i (suc n) (put c.carried 15 vs) ≡ bytes_from i (suc n) (put c'.carried 15 vs)
    eight zero i e o =
        let one : 1 ≤ len = leb-true 1 len h in
        let at : i ≡ 15 = omega (arith, e) in
        let lt : i < 15 + length vs = rw (length_from 0 len bs) (omega (arith, one, at)) in
        rw (inside vs c.carried c'.carried 15 i m (omega (arith, at)) lt) refl
    eight (suc n) i e o =
        let lt : i < 15 = omega (arith, e) in
        rw (under vs c.carried 15 i lt, under vs c'.carried 15 i lt, o.0, eight n (suc i) (omega (arith, e)) o.1) refl

pub brought : (op : Op) (r : Reply) (p : Part) (c c' : Context) → Goes op r → length c.carried ≡ length c'.carried → On (sources op) c c' → brings op p ≡ true
    → part_in p (keeping c op r) ≡ part_in p (keeping c' op r)
brought (write reg bytes len over after) r p c c' g m o h = clash cc
brought (read reg len slot finds over after) (bad e) p c c' g m o h = absurd g
brought (read reg len slot finds over after) (good bs) (byte_in i) c c' g m o h = within_both i slot len c.carried c'.carried bs m h
brought (read reg len slot finds over after) (good bs) (range_byte_in i) c c' g m o h = clash cc
brought (read reg len slot finds over after) (good bs) failure_code c c' g m o h = clash cc
brought (read reg len slot finds over after) (good bs) budget_found c c' g m o h =
    let q = both finds (eqb slot 15 && leb 1 len) h in
    let q' = both (eqb slot 15) (leb 1 len) q.1 in
    let at : slot ≡ 15 = eqb-true slot 15 q'.0 in
    let o' : On (bytes_in 8 7) c c' = rw q.0 at o in
    rw (q.0, at) (budget_same len c c' bs m q'.1 o')
brought (read reg len slot finds over after) (good bs) argument_a c c' g m o h = clash cc
brought (read reg len slot finds over after) (good bs) argument_b c c' g m o h = clash cc
brought (wait w) r p c c' g m o h = clash cc
brought (range reg len slot over) r (byte_in i) c c' g m o h = clash cc
brought (range reg len slot over) (bad e) (range_byte_in i) c c' g m o h = rw (ne_eqb (suc e) 0 (λ z. omega (arith, z))) refl
brought (range reg len slot over) (good bs) (range_byte_in i) c c' g m o h = within_both i slot len c.carried c'.carried bs m h
brought (range reg len slot over) (bad e) failure_code c c' g m o h = refl
brought (range reg len slot over) (good bs) failure_code c c' g m o h = refl
brought (range reg len slot over) r budget_found c c' g m o h = clash cc
brought (range reg len slot over) r argument_a c c' g m o h = clash cc
brought (range reg len slot over) r argument_b c c' g m o h = clash cc

pub left_alone : (op : Op) (r : Reply) (p : Part) (c : Context) → Goes op r → leaves op p ≡ true → part_in p (keeping c op r) ≡ part_in p c
left_alone (write reg bytes len over after) r (byte_in i) c g h = refl
left_alone (write reg bytes len over after) r (range_byte_in i) c g h = refl
left_alone (write reg bytes len over after) r failure_code c g h = refl
left_alone (write reg bytes len over after) r budget_found c g h = refl
left_alone (write reg bytes len over after) r argument_a c g h = refl
left_alone (write reg bytes len over after) r argument_b c g h = refl
left_alone (read reg len slot finds over after) (bad e) p c g h = absurd g
left_alone (read reg len slot finds over after) (good bs) (byte_in i) c g h = outside i slot len c.carried bs h
left_alone (read reg len slot finds over after) (good bs) (range_byte_in i) c g h = ap (λ x. cond (eqb c.failed 0) x 0) (outside i slot len c.carried bs h)
left_alone (read reg len slot finds over after) (good bs) failure_code c g h = refl
left_alone (read reg len slot finds over after) (good bs) budget_found c g h = rw (not-true finds h) refl
left_alone (read reg len slot finds over after) (good bs) argument_a c g h = refl
left_alone (read reg len slot finds over after) (good bs) argument_b c g h = refl
left_alone (wait w) r (byte_in i) c g h = refl
left_alone (wait w) r (range_byte_in i) c g h = refl
left_alone (wait w) r failure_code c g h = refl
left_alone (wait w) r budget_found c g h = refl
left_alone (wait w) r argument_a c g h = refl
left_alone (wait w) r argument_b c g h = refl
left_alone (range reg len slot over) (bad e) (byte_in i) c g h = refl
left_alone (range reg len slot over) (good bs) (byte_in i) c g h = outside i slot len c.carried bs h
left_alone (range reg len slot over) r (range_byte_in i) c g h = clash cc
left_alone (range reg len slot over) r failure_code c g h = clash cc
left_alone (range reg len slot over) r budget_found c g h = refl
left_alone (range reg len slot over) r argument_a c g h = refl
left_alone (range reg len slot over) r argument_b c g h = refl
