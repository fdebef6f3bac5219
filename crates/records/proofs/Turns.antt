-- One turn of the run: the first record of what is left is taken, and no count rises by more than one.
use mathlib.Core.Path.{◌≡◌, refl, sym}
use Rattle.std.proofs.Common.{Option, Some, None, ◌<◌}
use Rattle.std.specs.Option.{option_map}
use Rattle.records.specs.declared.runs.Progress.{Progress}
use mathlib.Core.Bool.{Bool, true, false, cond}
use mathlib.Core.List.{List, [], ◌∷◌}
use Prim.Native.Nat.{ℕ, suc, ◌+◌, ◌-◌, ◌≤◌}
use native.Mathlib.Omega.{arith}
use native.Mathlib.Numerals.{towards_suc, add-one}
use lib.Dec.{eqb}
use lib.ListN.{length, get_or, take, drop, length-drop}
use lib.Seq.{drop-cons, take_all}
use Rattle.session.specs.declared.Rules.{Rules}
use Rattle.session.specs.declared.Given.{Given}
use Rattle.session.specs.Given.{outcome_of}
use Rattle.session.specs.Bus.{byte}
use Rattle.session.specs.Records.{records_of}
use Rattle.session.specs.History.{step_def}
use Rattle.records.specs.declared.Counts.{Counts}
use Rattle.records.specs.Records.{record_in, record_at}
use Rattle.records.specs.Runs.{Room, one_if, added_to, progress_of, advance, going}

module _ (l : List ℕ) (i : ℕ) (h : i + 8 ≤ length l) where
  -- the bytes from i on: eight, and the rest
  eight_first : drop i l ≡ get_or l i 0 ∷ get_or l (i + 1) 0 ∷ get_or l (i + 2) 0 ∷ get_or l (i + 3) 0 ∷ get_or l (i + 4) 0 ∷ get_or l (i + 5) 0 ∷ get_or l (i + 6) 0 ∷ get_or l (i + 7) 0 ∷ drop (i + 8) l
  eight_first =
      simp towards_suc
      (rw (
        drop-cons l i 0 (omega arith),
        drop-cons l (suc i) 0 (omega arith),
        drop-cons l (suc (suc i)) 0 (omega arith),
        drop-cons l (suc (suc (suc i))) 0 (omega arith),
        drop-cons l (suc (suc (suc (suc i)))) 0 (omega arith),
        drop-cons l (suc (suc (suc (suc (suc i))))) 0 (omega arith),
        drop-cons l (suc (suc (suc (suc (suc (suc i)))))) 0 (omega arith),
        drop-cons l (suc (suc (suc (suc (suc (suc (suc i))))))) 0 (omega arith),
      ))

  pub records_first : records_of (drop i l) ≡ record_in (record_at l i) ∷ records_of (drop (i + 8) l)
  unfolding records_of record_in
  records_first = rw eight_first refl

-- what is left from i on
pub tail : (i : ℕ) (l : List ℕ) → take (length l - i) (drop i l) ≡ drop i l
tail i l = take_all (length l - i) (drop i l) (rw length-drop (omega arith))

-- how far the counts can be
pub at_most_one : (kind wanted : ℕ) → one_if kind wanted ≤ 1
unfolding one_if
at_most_one kind wanted = go (eqb kind wanted)
  where
    go : (t : Bool) → cond t 1 0 ≤ 1
    go true = omega arith
    go false = omega arith

room_added : (c d : Counts) (kind : ℕ) (g : Given) (n : ℕ) → Some d ≡ added_to c kind g → Room c n → Room d (n + 1)
unfolding added_to
room_added c d kind (Given.Sent t) n e h =
    let f : d ≡ record { calls = c.calls + one_if kind 1; answers = c.answers; replies = c.replies + one_if kind 2; transfers = c.transfers + 1; refused = c.refused } = cc in
    rw f
    (record {
      calls = omega (arith, h.calls, at_most_one kind 1);
      answers = omega (arith, h.answers);
      replies = omega (arith, h.replies, at_most_one kind 2);
      transfers = omega (arith, h.transfers);
      refused = omega (arith, h.refused);
    })
room_added c d kind (Given.Answered x k) n e h =
    let f : d ≡ record { calls = c.calls + one_if kind 1; answers = c.answers + 1; replies = c.replies + one_if kind 2; transfers = c.transfers; refused = c.refused } = cc in
    rw f
    (record {
      calls = omega (arith, h.calls, at_most_one kind 1);
      answers = omega (arith, h.answers);
      replies = omega (arith, h.replies, at_most_one kind 2);
      transfers = omega (arith, h.transfers);
      refused = omega (arith, h.refused);
    })
room_added c d kind (Given.Refused x) n e h =
    let f : d ≡ record { calls = c.calls; answers = c.answers; replies = c.replies; transfers = c.transfers; refused = c.refused + 1 } = cc in
    rw f
    (record {
      calls = omega (arith, h.calls);
      answers = omega (arith, h.answers);
      replies = omega (arith, h.replies);
      transfers = omega (arith, h.transfers);
      refused = omega (arith, h.refused);
    })
room_added c d kind Given.IllFormed n e h = cc

-- one record more
module _ (rules : Rules) (p q : Progress) (bs : List ℕ) (e : Some q ≡ advance rules p bs) where
  pub room_turn : (n : ℕ) → Room p.counts n → Room q.counts (n + 1)
  unfolding advance
  room_turn n h = at (added_to p.counts (byte 0 bs) (outcome_of (step_def rules p.session (record_in bs))).given) refl e
    where
      at : (x : Option Counts) → added_to p.counts (byte 0 bs) (outcome_of (step_def rules p.session (record_in bs))).given ≡ x
          → Some q ≡ option_map (progress_of (outcome_of (step_def rules p.session (record_in bs))).session) x → Room q.counts (n + 1)
      at None f e = cc
      at (Some d) f e =
          let k : q ≡ progress_of (outcome_of (step_def rules p.session (record_in bs))).session d = cc in
          rw k (room_added p.counts d (byte 0 bs) (outcome_of (step_def rules p.session (record_in bs))).given n (sym f) h)

  pub turn : (rs : List (List ℕ)) (i : ℕ) → i < length rs → bs ≡ get_or rs i [] → going rules q (drop (i + 1) rs) ≡ going rules p (drop i rs)
  turn rs i h b = rw add-one (sym (rw (drop-cons rs i [] h) (rw (← b) (rw (← e) refl))))
