-- What is known of each call, against the session's programs.
use mathlib.Core.Path.{◌≡◌, refl, sym, ◌∙◌, ap}
use mathlib.Core.List.{map}
use Prim.Native.Nat.{ℕ, ◌*◌, ◌≤◌}
use native.Mathlib.Omega.{arith}
use borrow.Author.Tests.{leb-true}
use lib.Dec.{leb}
use lib.ListN.{length, get_or, get_or-map}
use Rattle.session.specs.declared.Rules.{Rules}
use Rattle.session.specs.Rules.{tries_of}
use Rattle.session.specs.Calls.{Program, nothing, tuning, programs, program_of, ceiling_of}
use Rattle.session.proofs.Table.{of_test}
use Rattle.session.proofs.Unchanged.{ceiling_alike}
use Rattle.calls.specs.declared.TheConstants.{FACTS}

abbrev row_of : Program → ℕ × ℕ × ℕ × ℕ
row_of p = (length p.steps, p.greatest_a, p.greatest_b, p.ceiling)

-- the table, by computing it from the programs
table_is : map row_of (programs Rules.Current) ≡ FACTS
unfolding programs tuning
table_is = refl

pub facts_are : (code : ℕ) → get_or FACTS code (0, 0, 0, 0) ≡ row_of (program_of Rules.Current code)
unfolding program_of
facts_are code = ap (λ l. get_or l code (0, 0, 0, 0)) (sym table_is) ∙ get_or-map row_of (programs Rules.Current) code nothing

-- each of its transfers so often: it fits in 32 bits
ceiling_small : (code : ℕ) → (program_of Rules.Current code).ceiling ≤ 1000000000
unfolding programs
ceiling_small code = leb-true _ _ (of_test Rules.Current (λ k p. leb p.ceiling 1000000000) (λ k. refl) refl code)

pub ceiling_fits : (rules : Rules) (code : ℕ) → tries_of rules * (program_of Rules.Current code).ceiling ≤ 4294967294
ceiling_fits Rules.First code = omega (arith, ceiling_small code)
ceiling_fits Rules.Current code = omega (arith, ceiling_small code)

pub ceiling_is : (rules : Rules) (code : ℕ) → tries_of rules * (program_of Rules.Current code).ceiling ≡ ceiling_of rules code
unfolding ceiling_of
ceiling_is rules code = ap (λ n. tries_of rules * n) (sym (ceiling_alike rules code))
