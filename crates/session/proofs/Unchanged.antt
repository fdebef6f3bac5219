-- What the rules do not change of a call. Its instructions may be other ones, their number is not.
use mathlib.Core.Path.{◌≡◌, refl, sym, ap, ◌∙◌}
use mathlib.Core.List.{map}
use Prim.Native.Nat.{ℕ}
use lib.ListN.{length, get_or, get_or-map}
use Rattle.session.specs.declared.Rules.{Rules}
use Rattle.session.specs.Calls.{Program, nothing, tuning, programs, program_of}

same_by : {A : Type 0} (f : Program → A) (rules : Rules) → map f (programs rules) ≡ map f (programs Rules.Current) → (code : ℕ) → f (program_of rules code) ≡ f (program_of Rules.Current code)
unfolding program_of
same_by f rules e code =
    sym (get_or-map f (programs rules) code nothing) ∙ ap (λ l. get_or l code (f nothing)) e ∙ get_or-map f (programs Rules.Current) code nothing

pub steps_alike : (rules : Rules) (code : ℕ) → length (program_of rules code).steps ≡ length (program_of Rules.Current code).steps
unfolding programs tuning
steps_alike rules = same_by (λ p. length p.steps) rules refl

pub greatest_a_alike : (rules : Rules) (code : ℕ) → (program_of rules code).greatest_a ≡ (program_of Rules.Current code).greatest_a
unfolding programs
greatest_a_alike rules = same_by (λ p. p.greatest_a) rules refl

pub greatest_b_alike : (rules : Rules) (code : ℕ) → (program_of rules code).greatest_b ≡ (program_of Rules.Current code).greatest_b
unfolding programs
greatest_b_alike rules = same_by (λ p. p.greatest_b) rules refl

pub ceiling_alike : (rules : Rules) (code : ℕ) → (program_of rules code).ceiling ≡ (program_of Rules.Current code).ceiling
unfolding programs
ceiling_alike rules = same_by (λ p. p.ceiling) rules refl

pub entry_alike : (rules : Rules) (code : ℕ) → (program_of rules code).entry ≡ (program_of Rules.Current code).entry
unfolding programs
entry_alike rules = same_by (λ p. p.entry) rules refl

pub final_alike : (rules : Rules) (code : ℕ) → (program_of rules code).final ≡ (program_of Rules.Current code).final
unfolding programs
final_alike rules = same_by (λ p. p.final) rules refl
