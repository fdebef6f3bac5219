-- The list run and the reader read the same records.
use mathlib.Core.Path.{◌≡◌, refl, ap, ◌∙◌}
use mathlib.Core.Bool.{Bool, true, false, cond}
use mathlib.Core.List.{List, [], ◌∷◌, ◌++◌, map}
use Prim.Native.Nat.{ℕ, ◌+◌, ◌*◌}
use native.Mathlib.Omega.{arith}
use lib.Dec.{eqb}
use Rattle.session.specs.declared.Rules.{Rules}
use Rattle.session.specs.declared.Session.{Session}
use Rattle.session.specs.Records.{Record, call, reply, other, record_of, records_of, is_whole}
use Rattle.session.specs.History.{run_def}
use Rattle.reader.specs.declared.Event.{Event}
use Rattle.reader.specs.Events.{event_of, last_of, events_of, records_in, ends_in, run_events, ReadsAll}
use Rattle.reader.proofs.InOrder.{after_events}

-- a record among events, by its first byte
one_record : (a b c d e f g k : ℕ) (es : List Event) → records_in (event_of (record_of a b c d e f g k) ∷ es) ≡ record_of a b c d e f g k ∷ records_in es
unfolding event_of
one_record a b c d e f g k es = by_tests (eqb a 1) (eqb a 2)
  where
    by_tests : (p q : Bool)
        → records_in (event_of (cond p (call b (c * 16777216 + d * 65536 + e * 256 + f) (g * 256 + k)) (cond q (reply b (c ∷ d ∷ e ∷ f ∷ g ∷ k ∷ [])) other)) ∷ es)
        ≡ cond p (call b (c * 16777216 + d * 65536 + e * 256 + f) (g * 256 + k)) (cond q (reply b (c ∷ d ∷ e ∷ f ∷ g ∷ k ∷ [])) other) ∷ records_in es
    by_tests true true = refl
    by_tests true false = refl
    by_tests false true = refl
    by_tests false false = refl

goes_on : (r : Record) (es : List Event) → ends_in (event_of r ∷ es) ≡ ends_in es
unfolding event_of
goes_on (call code a b) es = refl
goes_on (reply f bs) es = refl
goes_on other es = refl

none_last : (t : Bool) → records_in (cond t Event.End Event.Spare ∷ []) ≡ []
none_last true = refl
none_last false = refl

ends_last : (t : Bool) → ends_in (cond t Event.End Event.Spare ∷ []) ≡ t
ends_last true = refl
ends_last false = refl

-- of all the events of a list
all_records : (x : Event) → records_in (x ∷ []) ≡ [] → (l : List ℕ) → records_in (map event_of (records_of l) ++ (x ∷ [])) ≡ records_of l
unfolding records_of
all_records x h [] = h
all_records x h (a ∷ []) = h
all_records x h (a ∷ b ∷ []) = h
all_records x h (a ∷ b ∷ c ∷ []) = h
all_records x h (a ∷ b ∷ c ∷ d ∷ []) = h
all_records x h (a ∷ b ∷ c ∷ d ∷ e ∷ []) = h
all_records x h (a ∷ b ∷ c ∷ d ∷ e ∷ f ∷ []) = h
all_records x h (a ∷ b ∷ c ∷ d ∷ e ∷ f ∷ g ∷ []) = h
all_records x h (a ∷ b ∷ c ∷ d ∷ e ∷ f ∷ g ∷ k ∷ l) =
    one_record a b c d e f g k (map event_of (records_of l) ++ (x ∷ []))
    ∙ ap (λ (rs : List Record). record_of a b c d e f g k ∷ rs) (all_records x h l)

all_end : (x : Event) (rs : List Record) → ends_in (map event_of rs ++ (x ∷ [])) ≡ ends_in (x ∷ [])
all_end x [] = refl
all_end x (r ∷ rs) = goes_on r (map event_of rs ++ (x ∷ [])) ∙ all_end x rs

runs : (rules : Rules) (s : Session) (l : List ℕ) → run_def rules s l ≡ run_events rules s (events_of l)
unfolding run_def
runs rules s l =
    let e : ends_in (events_of l) ≡ is_whole l = all_end (last_of l) (records_of l) ∙ ends_last (is_whole l) in
    let r : records_in (events_of l) ≡ records_of l = all_records (last_of l) (none_last (is_whole l)) l in
    rw (e, r) refl

pub reads_all : ReadsAll
reads_all = record { in_their_order = λ n l. after_events n 0 l (omega arith); runs = runs }
