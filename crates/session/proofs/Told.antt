-- The bus shows which transfers are reads of a wait: at each operation, `read_of` is what the table of calls says.
use mathlib.Core.Path.{◌≡◌, refl, sym, ◌∙◌}
use mathlib.Core.Bool.{Bool, true, false, not, ◌&&◌, cond}
use mathlib.Core.List.{List, [], ◌∷◌}
use Prim.Native.Nat.{ℕ}
use lib.Dec.{eqb}
use lib.ListN.{drop}
use borrow.Author.Tests.{not-true}
use Rattle.session.specs.declared.Rules.{Rules}
use Rattle.session.specs.Bus.{Reply, Condition}
use Rattle.session.specs.Instructions.{Context, Op, write, read, wait, range, send_of}
use Rattle.session.specs.Steps.{slot}
use Rattle.session.specs.Calls.{ops_of, program_of}
use Rattle.session.specs.History.{Exchange, by}
use Rattle.session.specs.Claim3.{wrote, asks, awaited, read_of}
use Rattle.ground.proofs.Facts.{both, clash}
use Rattle.session.proofs.Shape.{asks_one, waits_on, same_bool, same_bool_lem, and_false, full, edge, is_write, Known, known_at, asks_is, same_on}

abbrev pub Told : ℕ → List Op → List Exchange → Type 0
Told code [] ex = Unit {0}
Told code (op ∷ rest) ex = (c : Context) (x : Condition) → read_of x code (send_of op c) ex ≡ waits_on x op

-- status and start reads are told by the transfer alone
told_by : (code : ℕ) (op : Op) (rest : List Op) (ex : List Exchange) → ((c : Context) → Known code op rest c)
    → ((c : Context) → (asks_one 0x83 op && eqb code 1) && awaited ex ≡ waits_on Condition.DetectorReady op)
    → Told code (op ∷ rest) ex
told_by code op rest ex k h c Condition.DetectorReady = rw (asks_is 0x83 op c (k c).whole) (h c)
told_by code op rest ex k h c Condition.StatusReady = rw (asks_is 0x13 op c (k c).whole) (k c).status
told_by code op rest ex k h c Condition.Started = rw (asks_is 0x00 op c (k c).whole) (k c).start

-- at the call's start, after an operation, and at a write
pub told_first : (code : ℕ) (op : Op) (rest : List Op) → ((c : Context) → Known code op rest c) → not (waits_on Condition.DetectorReady op) ≡ true → Told code (op ∷ rest) []
told_first code op rest k f = told_by code op rest [] k (λ c. and_false (asks_one 0x83 op && eqb code 1) ∙ sym (not-true (waits_on Condition.DetectorReady op) f))

pub told_next : (code : ℕ) (prev : Op) (c₀ : Context) (r : Reply) (next : Op) (rest : List Op) (ex : List Exchange)
    → full prev c₀ ≡ true → edge code prev c₀ next ≡ true → ((c : Context) → Known code next rest c)
    → Told code (next ∷ rest) (by (send_of prev c₀) r ∷ ex)
told_next code prev c₀ r next rest ex f e k = told_by code next rest (by (send_of prev c₀) r ∷ ex) k (λ c. go (asks_one 0x83 next && eqb code 1) e)
  where
    go : (b : Bool)
        → cond b (not (asks_one 0x83 prev) && same_bool (wrote (0x83 ∷ 0x00 ∷ []) (send_of prev c₀)) (waits_on Condition.DetectorReady next)) (not (waits_on Condition.DetectorReady next)) ≡ true
        → b && awaited (by (send_of prev c₀) r ∷ ex) ≡ waits_on Condition.DetectorReady next
    go true h =
        let p = both (not (asks_one 0x83 prev)) (same_bool (wrote (0x83 ∷ 0x00 ∷ []) (send_of prev c₀)) (waits_on Condition.DetectorReady next)) h in
        rw (asks_is 0x83 prev c₀ f, not-true (asks_one 0x83 prev) p.0) (same_bool_lem _ (waits_on Condition.DetectorReady next) p.1)
    go false h = sym (not-true (waits_on Condition.DetectorReady next) h)

pub told_write : (rules : Rules) (code k : ℕ) (ex : List Exchange) → is_write (drop k (ops_of (program_of rules code))) ≡ true → Told code (drop k (ops_of (program_of rules code))) ex
told_write rules code k ex h = go (drop k (ops_of (program_of rules code))) refl h
  where
    go : (l : List Op) → drop k (ops_of (program_of rules code)) ≡ l → is_write l ≡ true → Told code l ex
    go [] e w = tt
    go (write reg bytes len over after ∷ rest) e w = told_by code (write reg bytes len over after) rest ex (known_at rules code k _ rest e) (λ c. refl)
    go (read reg len slot finds over after ∷ rest) e w = clash cc
    go (wait x ∷ rest) e w = clash cc
    go (range reg len slot over ∷ rest) e w = clash cc

-- after another read of the same wait
pub told_again : (code : ℕ) (w : Condition) (rest : List Op) (ex : List Exchange) (c₀ : Context) (r : Reply)
    → Told code (wait w ∷ rest) ex → Told code (wait w ∷ rest) (by (send_of (wait w) c₀) r ∷ ex)
told_again code w rest ex c₀ r h c Condition.StatusReady = h c Condition.StatusReady
told_again code w rest ex c₀ r h c Condition.Started = h c Condition.Started
told_again code w rest ex c₀ r h c Condition.DetectorReady = go w (h c Condition.DetectorReady)
  where
    go : (x : Condition) → (asks 0x83 (send_of (wait x) c) && eqb code 1) && awaited ex ≡ same_on Condition.DetectorReady x
        → (asks 0x83 (send_of (wait x) c) && eqb code 1) && awaited (by (send_of (wait x) c₀) r ∷ ex) ≡ same_on Condition.DetectorReady x
    go Condition.DetectorReady q = q
    go Condition.StatusReady q = q
    go Condition.Started q = q
