-- Bounds: a converted time is at most 4,294,967 microseconds, so the sums of calls 9 and 15 fit 32 bits whatever the replies.
use mathlib.Core.Path.{◌≡◌, refl}
use mathlib.Core.Bool.{Bool, true, false, cond}
use Prim.Native.Nat.{ℕ, ◌+◌, ◌*◌, ◌/◌, ◌^◌, ◌≤◌, ◌<◌}
use native.Mathlib.Omega.{arith}
use borrow.Author.Tests.{ltb-false}
use lib.Dec.{ltb}
use Rattle.clock.specs.Clock.{microseconds_of}
use Rattle.clock.specs.declared.Mclks.{Mclks}
use Rattle.clock.specs.declared.Nanoseconds.{Nanoseconds}
use Rattle.std.specs.Prelude.{Ok, Err}
use Rattle.clock.specs.declared.Place.{Place}
use Rattle.timing.specs.declared.SeqStepEnables.{SeqStepEnables}
use Rattle.timing.specs.declared.TimingRegisters.{TimingRegisters}
use Rattle.timing.specs.Registers.{sequence_step_enables, when_on}
use Rattle.timing.specs.Timeouts.{time_in, msrc_time, pre_time, final_time}
use Rattle.budget.specs.declared.DssTerm.{DssTerm}
use Rattle.budget.specs.Sums.{dss_of, dss_or_msrc, step_sum, budget_sum, used_sum}

-- ---- what each step adds
pub when_le : (on : Bool) (n : ℕ) → when_on on n ≤ n
when_le true n = omega arith
when_le false n = omega arith

dss_le : (dss : DssTerm) (m : ℕ) → dss_of dss m ≤ 2 * m + 1380
dss_le DssTerm.Twice m = omega arith
dss_le DssTerm.Once m = omega arith

pub part_le : (on : SeqStepEnables) (dss : DssTerm) (m : ℕ) → dss_or_msrc on dss m ≤ 2 * m + 1380
unfolding dss_or_msrc
part_le on dss m = go on.dss
  where
    go : (b : Bool) → cond b (dss_of dss m) (when_on on.msrc (m + 660)) ≤ 2 * m + 1380
    go true = dss_le dss m
    go false = omega (arith, when_le on.msrc (m + 660))

sum_le :
    (on : SeqStepEnables) (start : ℕ) (dss : DssTerm) (m p l : ℕ)
    → step_sum on start dss m p l ≤ start + 960 + (m + 590) + (2 * m + 1380) + (p + 660) + l
unfolding step_sum
sum_le on start dss m p l =
    omega (
      arith,
      when_le on.tcc (m + 590),
      part_le on dss m,
      when_le on.prerange (p + 660),
      when_le on.finalrange l,
    )

-- ---- a time
time_le : (t : Mclks) (ns : Nanoseconds) → (time_in (microseconds_of t ns)).0 ≤ 4294967
unfolding microseconds_of
time_le t ns = go (ltb 4294967295 (t.0 * ns.0 + ns.0 / 2)) refl
  where
    go :
        (b : Bool)
        → ltb 4294967295 (t.0 * ns.0 + ns.0 / 2) ≡ b
        → (time_in (cond b (Err Place.ToMicroseconds) (Ok (record { 0 = (t.0 * ns.0 + ns.0 / 2) / 1000 })))).0 ≤ 4294967
    go true h = omega arith
    go false h = omega (arith, ltb-false 4294967295 (t.0 * ns.0 + ns.0 / 2) h)

-- ---- the sums of the two calls
module _ (r : TimingRegisters) where
  msrc_le : (time_in (msrc_time r)).0 ≤ 4294967
  unfolding msrc_time
  msrc_le = time_le _ _

  pre_le : (time_in (pre_time r)).0 ≤ 4294967
  unfolding pre_time
  pre_le = time_le _ _

  pub final_le : (time_in (final_time r)).0 ≤ 4294967
  unfolding final_time
  final_le = time_le _ _

  pub budget_fits : (budget_sum r).0 < 2 ^ 32
  unfolding budget_sum
  budget_fits =
      omega (
        arith,
        msrc_le,
        pre_le,
        final_le,
        sum_le (sequence_step_enables r.sequence) 1910 DssTerm.Twice (time_in (msrc_time r)).0 (time_in (pre_time r)).0 ((time_in (final_time r)).0 + 550),
      )

  pub used_fits : (dss : DssTerm) → (used_sum r dss).0 < 2 ^ 32
  unfolding used_sum
  used_fits dss =
      omega (
        arith,
        msrc_le,
        pre_le,
        sum_le (sequence_step_enables r.sequence) 1320 dss (time_in (msrc_time r)).0 (time_in (pre_time r)).0 550,
      )
