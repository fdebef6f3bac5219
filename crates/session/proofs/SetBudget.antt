-- All that is seen of call 9 over good replies is what the leaf's `set_budget` says. The Rust's function after its reads is put in the leaf's terms,
-- and then its trace goes through the places one by one.
use mathlib.Core.Path.{◌≡◌, refl, ap, fun_ext, ◌∙◌}
use mathlib.Core.Bool.{Bool, true, false, cond}
use mathlib.Core.List.{List, [], ◌∷◌}
use Prim.Native.Nat.{ℕ, zero, suc, ◌+◌}
use lib.Dec.{eqb, ltb}
use Rattle.std.specs.Prelude.{Option, None, Some, is_none, take, Result, Ok as Worth, Err as Fails}
use Rattle.std.specs.Result.{result_err}
use Rattle.clock.specs.declared.Place.{Place}
use Rattle.clock.specs.Places.{place_number}
use Rattle.clock.specs.Clock.{mclks_of}
use Rattle.timing.specs.declared.TimingRegisters.{TimingRegisters}
use Rattle.timing.specs.declared.Entry.{Entry}
use Rattle.timing.specs.Registers.{registers_of}
use Rattle.timing.specs.Timeouts.{msrc_time, pre_time, final_time}
use Rattle.timing.specs.Places.{timeout_place, period_place, less_place, msrc_place, entry, entries_of, seen, first_match, first_place}
use Rattle.budget.specs.declared.NoWord.{NoWord}
use Rattle.budget.specs.Sums.{used_sum}
use Rattle.budget.specs.Budget.{word_of_sum, word_within, word_after, final_range_word, set_budget}
use Rattle.session.specs.declared.Rules.{Rules}
use Rattle.session.specs.Bus.{Driver, Transfer, Answer, Reply}
use Rattle.session.specs.Machine.{Session}
use Rattle.session.specs.Rules.{dss_term_of}
use Rattle.session.specs.Script.{Script, done, send, Raw, data_of, is_clean, cut, Trace, sends, ends, heard, play}
use Rattle.session.specs.RustFn.{Fn, ◌>>◌, Ok, panic, if, set_self_budget, write_16bit}
use Rattle.session.specs.RustBringUp.{method, flag, calls}
use Rattle.session.specs.LaterCalls.{rust}
use Rattle.session.specs.Claim3.{good1}
use Rattle.session.specs.SetBudget.{good_replies, read_transfers, made_of, sends_all, by_result, trace_of_call9, RustSetsBudget, SessionSetsBudget}
use Rattle.session.proofs.Once.{number as place_no, final_macro, spare_sum, total_clocks}
use Rattle.session.proofs.SixReads.{six, six_same}
use Rattle.session.proofs.BudgetCalls.{tested, set_is}
use Rattle.session.proofs.Demand2.{demand_2}

-- ---- the Rust's function after its reads, by the leaf's result
abbrev by_word : ℕ → Result ℕ NoWord → Fn Bool
by_word budget (Worth w) = write_16bit 0x71 w >> (set_self_budget budget >> Ok true)
by_word budget (Fails NoWord.NoTime) = Ok false
by_word budget (Fails (NoWord.Panic p)) = panic (place_number p)

abbrev word : Rules → TimingRegisters → ℕ → Result ℕ NoWord
word rules r budget = final_range_word r (record { 0 = budget }) (dss_term_of rules)

cond_is : {A : Type 0} (b : Bool) {x y z : A} → (b ≡ true → x ≡ z) → (b ≡ false → y ≡ z) → cond b x y ≡ z
cond_is true f g = f refl
cond_is false f g = g refl

tested_is : (rules : Rules) (r : TimingRegisters) (budget : ℕ) → first_place r 6 ≡ None → tested rules r budget ≡ by_word budget (word rules r budget)
unfolding final_range_word word_within mclks_of word_of_sum
tested_is rules r budget h = fun_ext (λ chip. fun_ext (λ ret.
    cond_is (ltb budget (used_sum r (dss_term_of rules)).0) (λ e₁. rw (h, e₁) refl)
    (λ e₁. cond_is (ltb 4294967295 (spare_sum (dss_term_of rules) r budget)) (λ e₂. rw (h, e₁, e₂) refl)
    (λ e₂. cond_is (eqb (final_macro r) 0) (λ e₃. rw (h, e₁, e₂, e₃) refl)
    (λ e₃. cond_is (ltb 65535 (total_clocks (dss_term_of rules) r budget)) (λ e₄. rw (h, e₁, e₂, e₃, e₄) refl)
    (λ e₄. rw (h, e₁, e₂, e₃, e₄) refl))))))

words_are : (rules : Rules) (budget : ℕ) → six (λ r. tested rules r budget) ≡ six (λ r. by_word budget (word rules r budget))
words_are rules budget = six_same (λ r. tested rules r budget) (λ r. by_word budget (word rules r budget)) (λ r h. tested_is rules r budget h)

-- ---- a transfer with a clean reply, a place, the end
read_on : (t : Transfer) (k : Reply → Script) (r : Raw) (rs : List Raw) {x : Trace}
    → is_clean t r ≡ true
    → play (k (cut t r.failure (data_of r))) rs ≡ x
    → play (send t k) (r ∷ rs) ≡ sends t x
unfolding play heard
read_on t k r rs h e = rw h (ap (λ x. sends t x) e)

test_on : (b : Bool) (x y : Script) (rs : List Raw) → play (cond b x y) rs ≡ cond b (play x rs) (play y rs)
test_on true x y rs = refl
test_on false x y rs = refl

placed_on : (p : Option Place) (x : Script) (d : Driver) (rs : List Raw) {y : Trace}
    → play x rs ≡ y
    → play (cond (is_none p) x (done (Answer.Panic (place_no p)) d)) rs ≡ cond (is_none p) y (ends (Answer.Panic (place_no p)) d)
unfolding play
placed_on p x d rs e = test_on (is_none p) x (done (Answer.Panic (place_no p)) d) rs ∙ ap (λ y. cond (is_none p) y (ends (Answer.Panic (place_no p)) d)) e

end_on : (d : Driver) (budget ignored : ℕ) (x : Result ℕ NoWord)
    → play (method flag d (by_word budget x)) (good1 ignored ∷ []) ≡ by_result d budget x
unfolding play heard
end_on d budget ignored (Worth w) = refl
end_on d budget ignored (Fails NoWord.NoTime) = refl
end_on d budget ignored (Fails (NoWord.Panic p)) = refl

-- ---- nine places among six reads
-- how many of the first n reads are made, by the places and the replies that they need
abbrev made : List Entry → ℕ → ℕ
made es zero = 0
made es (suc n) = made es n + cond (is_none (first_match (seen n es))) 1 0

-- the places of entries_of, in its order
abbrev nine : (p₁ p₂ p₃ p₄ p₅ p₆ p₇ p₈ p₉ : Option Place) → List Entry
nine p₁ p₂ p₃ p₄ p₅ p₆ p₇ p₈ p₉ =
    entry 2 p₁ ∷ entry 3 p₂ ∷ entry 3 p₃ ∷ entry 4 p₄ ∷ entry 5 p₅ ∷ entry 6 p₆ ∷ entry 6 p₇ ∷ entry 6 p₈ ∷ entry 6 p₉ ∷ []

module _ (d : Driver) (t₁ t₂ t₃ t₄ t₅ t₆ : Transfer) (g : Option Place → Trace) (h : (p : Place) → ends (Answer.Panic (place_number p)) d ≡ g (Some p)) where
  abbrev or_panic : Option Place → Trace → Trace
  or_panic p x = cond (is_none p) x (ends (Answer.Panic (place_no p)) d)

  abbrev end : List Entry → Trace
  end es = g (first_match (seen 6 es))

  ordered : (p₁ p₂ p₃ p₄ p₅ p₆ p₇ p₈ p₉ : Option Place)
      → sends t₁
      (sends t₂
      (or_panic p₁
      (sends t₃
      (or_panic p₂
      (or_panic p₃
      (sends t₄
      (or_panic p₄
      (sends t₅ (or_panic p₅ (sends t₆ (or_panic p₆ (or_panic p₇ (or_panic p₈ (or_panic p₉ (end (nine p₁ p₂ p₃ p₄ p₅ p₆ p₇ p₈ p₉))))))))))))))))
      ≡ sends_all (take (made (nine p₁ p₂ p₃ p₄ p₅ p₆ p₇ p₈ p₉) 6) (t₁ ∷ t₂ ∷ t₃ ∷ t₄ ∷ t₅ ∷ t₆ ∷ [])) (end (nine p₁ p₂ p₃ p₄ p₅ p₆ p₇ p₈ p₉))
  unfolding first_match
  ordered (Some p) p₂ p₃ p₄ p₅ p₆ p₇ p₈ p₉ = ap (sends_all (t₁ ∷ t₂ ∷ [])) (h p)
  ordered None (Some p) p₃ p₄ p₅ p₆ p₇ p₈ p₉ = ap (sends_all (t₁ ∷ t₂ ∷ t₃ ∷ [])) (h p)
  ordered None None (Some p) p₄ p₅ p₆ p₇ p₈ p₉ = ap (sends_all (t₁ ∷ t₂ ∷ t₃ ∷ [])) (h p)
  ordered None None None (Some p) p₅ p₆ p₇ p₈ p₉ = ap (sends_all (t₁ ∷ t₂ ∷ t₃ ∷ t₄ ∷ [])) (h p)
  ordered None None None None (Some p) p₆ p₇ p₈ p₉ = ap (sends_all (t₁ ∷ t₂ ∷ t₃ ∷ t₄ ∷ t₅ ∷ [])) (h p)
  ordered None None None None None (Some p) p₇ p₈ p₉ = ap (sends_all (t₁ ∷ t₂ ∷ t₃ ∷ t₄ ∷ t₅ ∷ t₆ ∷ [])) (h p)
  ordered None None None None None None (Some p) p₈ p₉ = ap (sends_all (t₁ ∷ t₂ ∷ t₃ ∷ t₄ ∷ t₅ ∷ t₆ ∷ [])) (h p)
  ordered None None None None None None None (Some p) p₉ = ap (sends_all (t₁ ∷ t₂ ∷ t₃ ∷ t₄ ∷ t₅ ∷ t₆ ∷ [])) (h p)
  ordered None None None None None None None None (Some p) = ap (sends_all (t₁ ∷ t₂ ∷ t₃ ∷ t₄ ∷ t₅ ∷ t₆ ∷ [])) (h p)
  ordered None None None None None None None None None = refl

module _ (rules : Rules) (d : Driver) (budget : ℕ) (bytes : List ℕ) (ignored : ℕ) where
  abbrev regs : TimingRegisters
  regs = registers_of bytes

  after_reads : play (method flag d (six (λ r. by_word budget (word rules r budget)))) (good_replies bytes ignored)
      ≡ sends_all (take (made (entries_of regs) 6) (read_transfers d.address)) (by_result d budget (word rules regs budget))
  unfolding entries_of less_place final_range_word first_place
  after_reads =
      read_on _ _ _ _ refl
      (read_on _ _ _ _ refl
      (placed_on (timeout_place regs.pretimeout) _ d _
      (read_on _ _ _ _ refl
      (placed_on (timeout_place regs.finaltimeout) _ d _
      (placed_on (less_place regs) _ d _
      (read_on _ _ _ _ refl
      (placed_on (period_place regs.preperiod) _ d _
      (read_on _ _ _ _ refl
      (placed_on (msrc_place regs.msrctimeout) _ d _
      (read_on _ _ _ _ refl
      (placed_on (period_place regs.finalperiod) _ d _ (placed_on (result_err (msrc_time regs)) _ d _ (placed_on (result_err (pre_time regs)) _ d _ (placed_on (result_err (final_time regs)) _ d _ (end_on d budget ignored (word rules regs budget))))))))))))))))
      ∙ ordered d _ _ _ _ _ _ (λ p. by_result d budget (word_after p regs (record { 0 = budget }) (dss_term_of rules))) (λ p. refl) _ _ _ _ _ _ _ _ _

  -- below 20,000 nothing is sent
  from_the_test : (t : Bool)
      → play (method flag d (if t (Ok false) (six (λ r. tested rules r budget)))) (good_replies bytes ignored)
      ≡ sends_all (take (cond t 0 (made_of regs 6)) (read_transfers d.address)) (by_result d budget (cond t (Fails NoWord.NoTime) (word rules regs budget)))
  unfolding play first_place
  from_the_test true = refl
  from_the_test false = ap (λ m. play (method flag d m) (good_replies bytes ignored)) (words_are rules budget) ∙ after_reads

  pub rust_sets_budget : RustSetsBudget rules d budget bytes ignored
  unfolding rust calls trace_of_call9 set_budget
  rust_sets_budget = rw (set_is rules) (from_the_test (ltb budget 20000))

pub session_sets_budget : (rules : Rules) (s : Session) (budget : ℕ) (bytes : List ℕ) (ignored : ℕ) → SessionSetsBudget rules s budget bytes ignored
session_sets_budget rules s budget bytes ignored accepted =
    demand_2 rules s 9 budget 0 accepted (good_replies bytes ignored) ∙ rust_sets_budget rules s.driver budget bytes ignored
