-- Facts that the proofs of single functions cite.
use mathlib.Core.Path.{◌≡◌, refl}
use mathlib.Core.Bool.{Bool, true, false, ◌||◌}
use Prim.Native.Nat.{ℕ, zero, suc}
use lib.Dec.{eqb}
use borrow.Author.Tests.{ne_eqb}
use Rattle.session.specs.declared.Rules.{Rules}
use Rattle.session.specs.declared.Session.{Session}
use Rattle.session.specs.Instructions.{Context, Verdict, onward, leap, stop, test, Final, failure}
use Rattle.session.specs.Calls.{Program, nothing, programs, program_of, by_code, range_result}
use Rattle.session.specs.Machine.{context_of}
use Rattle.ground.proofs.Facts.{clash}
use Rattle.session.proofs.Table.{of_test}
use Rattle.programs.specs.Programs.{entry_of}

failed_code : (e : ℕ) (f : Final) → (e ≡ 0 → ⊥) → by_code e f ≡ failure e
failed_code zero f n = absurd (n refl)
failed_code (suc e) f n = refl

-- the calls whose arguments decide something
abbrev is_onward : Verdict → Bool
is_onward onward = true
is_onward leap = false
is_onward (stop x) = false
is_onward (test b v w) = false

onward_is : (v : Verdict) → is_onward v ≡ true → v ≡ onward
onward_is onward h = refl
onward_is leap h = clash cc
onward_is (stop x) h = clash cc
onward_is (test b v w) h = clash cc

abbrev decides_nothing : Context → ℕ → Program → Bool
decides_nothing c code p = eqb code 3 || (eqb code 9 || (eqb code 10 || (eqb code 14 || is_onward (p.entry c))))

pub enters : (code : ℕ) (c : Context) → (code ≡ 3 → ⊥) → (code ≡ 9 → ⊥) → (code ≡ 10 → ⊥) → (code ≡ 14 → ⊥) → entry_of code c ≡ onward
unfolding entry_of programs
enters code c n₃ n₉ n₁₀ n₁₄ =
    let h : decides_nothing c code (program_of Rules.Current code) ≡ true = of_test Rules.Current (decides_nothing c) (λ k. or_true k) refl code in
    onward_is ((program_of Rules.Current code).entry c) (rw (ne_eqb code 3 n₃, ne_eqb code 9 n₉, ne_eqb code 10 n₁₀, ne_eqb code 14 n₁₄) at h)
  where
    or_true : (k : ℕ) → decides_nothing c k nothing ≡ true
    or_true k = go (eqb k 3) (eqb k 9) (eqb k 10) (eqb k 14)
      where
        go : (x y z w : Bool) → x || (y || (z || (w || true))) ≡ true
        go true y z w = refl
        go false true z w = refl
        go false false true w = refl
        go false false false true = refl
        go false false false false = refl

-- the failure of a range read
pub read_failure : (s : Session) → (s.failed ≡ 0 → ⊥) → range_result (context_of s) ≡ failure s.failed
read_failure s n = failed_code s.failed _ n
