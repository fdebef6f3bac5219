-- Facts that the proofs of single functions cite.
use mathlib.Core.Path.{◌≡◌, refl}
use mathlib.Core.List.{List, [], ◌∷◌, map}
use Prim.Native.Nat.{ℕ, zero, suc, ◌+◌, ◌-◌, ◌<◌}
use Rattle.std.proofs.Common.{add-one, add-zero}
use Rattle.shapes.specs.declared.instructions.TimingRead.{TimingRead}
use native.Mathlib.Omega.{arith}
use lib.ListN.{length, set, get_or}
use Rattle.session.specs.Bus.{byte}
use Rattle.session.specs.Instructions.{bytes_from, put}

-- the parts of a budget read of a table are those of the table's parts
pub by_parts : (t : List TimingRead) (n : ℕ) (d : TimingRead)
    → get_or t n d ≡ record { register = get_or (map (λ (r : TimingRead). r.register) t) n d.register; length = get_or (map (λ (r : TimingRead). r.length) t) n d.length; place = get_or (map (λ (r : TimingRead). r.place) t) n d.place }
by_parts [] n d = refl
by_parts (r ∷ t) zero d = refl
by_parts (r ∷ t) (suc n) d = by_parts t n d

-- as many bytes as are asked for, each the byte at its place
pub bytes_at : (k : ℕ) (bs xs : List ℕ) (n : ℕ) → length xs ≡ n → ((i : ℕ) → i < n → get_or xs i 0 ≡ byte (k + i) bs) → xs ≡ bytes_from k n bs
bytes_at k bs [] zero e h = refl
bytes_at k bs [] (suc n) e h = absurd (omega arith)
bytes_at k bs (x ∷ xs) zero e h = absurd (omega arith)
bytes_at k bs (x ∷ xs) (suc n) e h =
    let later : (i : ℕ) → i < n → get_or xs i 0 ≡ byte (suc k + i) bs = λ i l. let same : k + suc i ≡ suc k + i = omega arith in rw same at (h (suc i) (omega arith)) in
    let rest = bytes_at (suc k) bs xs n (omega arith) later in
    let here : x ≡ byte k bs = rw add-zero at (h 0 (omega arith)) in
    cc

-- the bytes that are left, once the one at k is stored
pub stored : (l : List ℕ) (slot k n : ℕ) (bs : List ℕ) → k < n
    → put (set l (slot + k) (byte k bs)) (slot + (k + 1)) (bytes_from (k + 1) (n - (k + 1)) bs) ≡ put l (slot + k) (bytes_from k (n - k) bs)
stored l slot k n bs h =
    let e : n - k ≡ suc (n - (k + 1)) = omega arith in
    let eᵢ : slot + (k + 1) ≡ suc (slot + k) = omega arith in
    rw (e, eᵢ, add-one) refl
