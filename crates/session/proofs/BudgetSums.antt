-- The Rust's budget sums, line by line, are the leaf's sums of the steps that are on.
use mathlib.Core.Path.{◌≡◌, refl, sym, fun_ext}
use mathlib.Core.Bool.{Bool, true, false, cond}
use Prim.Native.Nat.{ℕ, ◌+◌, ◌*◌}
use native.Mathlib.Nat.{add-zero}
use Rattle.timing.specs.declared.SeqStepEnables.{SeqStepEnables}
use Rattle.budget.specs.declared.DssTerm.{DssTerm}
use Rattle.budget.specs.Sums.{dss_of as overhead, dss_or_msrc, step_sum}
use Rattle.session.specs.declared.Rules.{Rules}
use Rattle.session.specs.Rules.{dss_term_of}
use Rattle.session.specs.RustCalls.{Enables, budget_microseconds, dss_microseconds, use_budget_microseconds}

abbrev pub steps_of : Enables → SeqStepEnables
steps_of e = record { tcc = e.tcc; dss = e.dss; msrc = e.msrc; prerange = e.pre_range; finalrange = e.final_range }

-- `if t { b += x }`
add_where : (t : Bool) (b x : ℕ) → cond t (b + x) b ≡ b + cond t x 0
add_where true b x = refl
add_where false b x = sym (add-zero b)

-- `if t { b += x } else if u { b += y }`
add_else : (t u : Bool) (b x y : ℕ) → cond t (b + x) (cond u (b + y) b) ≡ b + cond t x (cond u y 0)
add_else true u b x y = refl
add_else false u b x y = add_where u b y

sums : (t d m p f : Bool) (b x y z u v : ℕ)
    → (let b₁ = cond t (b + x) b in let b₂ = cond d (b₁ + y) (cond m (b₁ + z) b₁) in let b₃ = cond p (b₂ + u) b₂ in cond f (b₃ + v) b₃)
    ≡ b + cond t x 0 + cond d y (cond m z 0) + cond p u 0 + cond f v 0
sums t d m p f b x y z u v =
    rw (add_where t b x, add_else d m (b + cond t x 0) y z, add_where p (b + cond t x 0 + cond d y (cond m z 0)) u)
    (add_where f (b + cond t x 0 + cond d y (cond m z 0) + cond p u 0) v)

pub budget_is : budget_microseconds
    ≡ (λ e t. step_sum (steps_of e) 1910 DssTerm.Twice t.msrc_dss_tcc_microseconds t.pre_range_microseconds (t.final_range_microseconds + 550))
unfolding budget_microseconds step_sum dss_or_msrc
budget_is = fun_ext (λ e. fun_ext (λ t.
    let msrc = t.msrc_dss_tcc_microseconds in
    sums e.tcc e.dss e.msrc e.pre_range e.final_range (1910 + 960)
    (msrc + 590) (2 * (msrc + 690)) (msrc + 660) (t.pre_range_microseconds + 660) (t.final_range_microseconds + 550)))

-- DSS, as the rules count it
overhead_is : (rules : Rules) (msrc : ℕ) → dss_microseconds rules msrc ≡ overhead (dss_term_of rules) msrc
overhead_is Rules.First msrc = refl
overhead_is Rules.Current msrc = refl

pub used_is : (rules : Rules) → use_budget_microseconds rules
    ≡ (λ e t. step_sum (steps_of e) 1320 (dss_term_of rules) t.msrc_dss_tcc_microseconds t.pre_range_microseconds 550)
unfolding use_budget_microseconds step_sum dss_or_msrc
used_is rules = fun_ext (λ e. fun_ext (λ t.
    let msrc = t.msrc_dss_tcc_microseconds in
    rw (overhead_is rules msrc)
    (sums e.tcc e.dss e.msrc e.pre_range e.final_range (1320 + 960)
    (msrc + 590) (overhead (dss_term_of rules) msrc) (msrc + 660) (t.pre_range_microseconds + 660) 550)))
