-- The value that the Rust's function of call 15 gives for six budget replies is the leaf's.
use mathlib.Core.Path.{◌≡◌, refl, ap, ◌∙◌}
use mathlib.Core.Bool.{Bool, true, false, cond}
use mathlib.Core.List.{List, [], ◌∷◌}
use Prim.Native.Nat.{ℕ}
use Rattle.std.specs.Prelude.{Option, None, Some, is_none}
use Rattle.std.specs.Result.{result_err}
use Rattle.clock.specs.declared.Place.{Place}
use Rattle.timing.specs.declared.TimingRegisters.{TimingRegisters}
use Rattle.timing.specs.Registers.{registers_of}
use Rattle.timing.specs.Timeouts.{time_in, msrc_time, pre_time, final_time}
use Rattle.timing.specs.Places.{timeout_place, period_place, less_place, msrc_place, entries_of, seen, first_match, first_place}
use Rattle.budget.specs.Budget.{budget_after, measurement_timing_budget}
use Rattle.session.specs.Bus.{Driver, Transfer, Answer, Reply, absent}
use Rattle.session.specs.Script.{Script, done, send, Raw, data_of, is_clean, cut, heard, play}
use Rattle.session.specs.RustFn.{Ok}
use Rattle.session.specs.RustBringUp.{method, number, calls}
use Rattle.session.specs.LaterCalls.{rust}
use Rattle.session.specs.Claim3.{good1, good2, done_value, value_of_call15}
use Rattle.session.proofs.Once.{number as place_no}
use Rattle.session.proofs.SixReads.{six}
use Rattle.session.proofs.BudgetCalls.{get_is}

unfoldable done_of : Script → List Raw → ℕ
done_of x rs = done_value (play x rs)

-- a transfer with a clean reply, and a test
read_on : (t : Transfer) (k : Reply → Script) (r : Raw) (rs : List Raw) → is_clean t r ≡ true → done_of (send t k) (r ∷ rs) ≡ done_of (k (cut t r.failure (data_of r))) rs
unfolding done_of play heard
read_on t k r rs h = rw h

test_on : (b : Bool) (x y : Script) (rs : List Raw) → done_of (cond b x y) rs ≡ cond b (done_of x rs) (done_of y rs)
test_on true x y rs = refl
test_on false x y rs = refl

-- v where there is no place among these, else 0
abbrev chain : List (Option Place) → ℕ → ℕ
chain [] v = v
chain (p ∷ ps) v = cond (is_none p) (chain ps v) 0

placed_on : (p : Option Place) (x : Script) (d : Driver) (rs : List Raw) {n : ℕ} → done_of x rs ≡ n → done_of (cond (is_none p) x (done (Answer.Panic (place_no p)) d)) rs ≡ cond (is_none p) n 0
unfolding done_of play heard
placed_on p x d rs e = test_on (is_none p) x (done (Answer.Panic (place_no p)) d) rs ∙ ap (λ n. cond (is_none p) n 0) e

end_on : (v : ℕ) → done_of (done (Answer.Done v) absent) [] ≡ v
unfolding done_of play
end_on v = refl

chain_self : (r : TimingRegisters) (ps : List (Option Place)) → chain ps (time_in (budget_after (first_match ps) r)).0 ≡ (time_in (budget_after (first_match ps) r)).0
unfolding first_match
chain_self r [] = refl
chain_self r (None ∷ ps) = chain_self r ps
chain_self r (Some p ∷ ps) = refl

module _ (b₀ b₁ b₂ b₃ b₄ b₅ b₆ b₇ : ℕ) where
  abbrev regs : TimingRegisters
  regs = registers_of (b₀ ∷ b₁ ∷ b₂ ∷ b₃ ∷ b₄ ∷ b₅ ∷ b₆ ∷ b₇ ∷ [])

  abbrev replies : List Raw
  replies = good1 b₀ ∷ good2 b₁ b₂ ∷ good2 b₃ b₄ ∷ good1 b₅ ∷ good1 b₆ ∷ good1 b₇ ∷ []

  chained : done_of (method number absent (six {A = ℕ} (λ r. Ok (time_in (measurement_timing_budget r)).0))) replies
      ≡ chain (seen 6 (entries_of regs)) (time_in (measurement_timing_budget regs)).0
  unfolding entries_of less_place
  chained =
      read_on _ _ _ _ refl
      ∙ read_on _ _ _ _ refl
      ∙ placed_on (timeout_place regs.pretimeout) _ absent _
      (read_on _ _ _ _ refl
      ∙ placed_on (timeout_place regs.finaltimeout) _ absent _
      (placed_on (less_place regs) _ absent _
      (read_on _ _ _ _ refl
      ∙ placed_on (period_place regs.preperiod) _ absent _
      (read_on _ _ _ _ refl
      ∙ placed_on (msrc_place regs.msrctimeout) _ absent _
      (read_on _ _ _ _ refl
      ∙ placed_on (period_place regs.finalperiod) _ absent _ (placed_on (result_err (msrc_time regs)) _ absent _ (placed_on (result_err (pre_time regs)) _ absent _ (placed_on (result_err (final_time regs)) _ absent _ (end_on (time_in (measurement_timing_budget regs)).0)))))))))

  pub value_is : value_of_call15 replies ≡ (time_in (measurement_timing_budget regs)).0
  unfolding value_of_call15 rust calls measurement_timing_budget first_place done_of
  value_is = rw get_is (chained ∙ chain_self regs (seen 6 (entries_of regs)))
