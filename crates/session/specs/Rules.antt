-- What the machine takes from the rules, but for the last code of a call (`top_code`, Calls). SCOPE 2.6. The clauses of the first rules never change.
use Rattle.std.specs.Prelude.{ℕ, suc}
use Rattle.budget.specs.declared.DssTerm.{DssTerm}
use Rattle.session.specs.declared.Rules.{Rules}

-- SCOPE 5.4: where a budget is set, by calls 1 and 9, DSS counts as 2 × MSRC + 690
abbrev pub dss_term_of : Rules → DssTerm
dss_term_of Rules.First = DssTerm.Once
dss_term_of Rules.Current = DssTerm.Once

-- how often a transfer is made again
abbrev pub repeats_of : Rules → ℕ
repeats_of Rules.First = 0
repeats_of Rules.Current = 0

-- how often it is made at most: so many times what SCOPE 5.1 says is a call's ceiling
abbrev pub tries_of : Rules → ℕ
tries_of rules = suc (repeats_of rules)
