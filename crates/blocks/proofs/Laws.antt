-- Blocks join, and what is printed tells the history of the list run.
use mathlib.Core.Path.{◌≡◌, refl, sym, ap, ◌∙◌}
use mathlib.Core.List.{List, [], ◌∷◌, ◌++◌, append_assoc, append-nil}
use Prim.Native.Nat.{ℕ, ◌*◌, ◌/◌, ◌%◌}
use native.Mathlib.Omega.{arith}
use borrow.Author.Tests.{eqb-true}
use lib.ListN.{length, drop, length-take, length-drop, length-append, take-append-drop}
use Rattle.session.specs.declared.Rules.{Rules}
use Rattle.session.specs.declared.Session.{Session}
use Rattle.session.specs.Machine.{Outcome as Result, sent, answered, refused, broken, fresh_session}
use Rattle.session.specs.Records.{Record, record_of, records_of}
use Rattle.session.specs.History.{step_def, Entry, run_def, got_of, session_of, session_after, Genuine, in_order}
use Rattle.session.proofs.Demand3.{demand_3}
use Rattle.session.specs.Given.{outcome_of}
use Rattle.session.specs.declared.Outcome.{Outcome}
use Rattle.lines.specs.Lines.{given_line, outcome_line, fields_line}
use Rattle.blocks.specs.Blocks.{lines_of, session_past}
use Rattle.blocks.specs.Input.{after_lines, text_from, spare_line, rolltrace_text, rollfields_text}
use Rattle.blocks.specs.Laws.{BlocksJoin, got_line, history_lines, history_fields, whole_part, TellsHistory}
use Rattle.records.proofs.Chunks.{too_few}
use Rattle.blocks.proofs.Texts.{kept_session}

-- whole records before other bytes
pub records_join : (a b : List ℕ) → length a % 8 ≡ 0 → records_of (a ++ b) ≡ records_of a ++ records_of b
unfolding records_of
records_join [] b w = refl
records_join (a₀ ∷ []) b w = absurd (omega (arith, w))
records_join (a₀ ∷ a₁ ∷ []) b w = absurd (omega (arith, w))
records_join (a₀ ∷ a₁ ∷ a₂ ∷ []) b w = absurd (omega (arith, w))
records_join (a₀ ∷ a₁ ∷ a₂ ∷ a₃ ∷ []) b w = absurd (omega (arith, w))
records_join (a₀ ∷ a₁ ∷ a₂ ∷ a₃ ∷ a₄ ∷ []) b w = absurd (omega (arith, w))
records_join (a₀ ∷ a₁ ∷ a₂ ∷ a₃ ∷ a₄ ∷ a₅ ∷ []) b w = absurd (omega (arith, w))
records_join (a₀ ∷ a₁ ∷ a₂ ∷ a₃ ∷ a₄ ∷ a₅ ∷ a₆ ∷ []) b w = absurd (omega (arith, w))
records_join (a₀ ∷ a₁ ∷ a₂ ∷ a₃ ∷ a₄ ∷ a₅ ∷ a₆ ∷ a₇ ∷ l) b w =
    ap (λ (rs : List Record). record_of a₀ a₁ a₂ a₃ a₄ a₅ a₆ a₇ ∷ rs) (records_join l b (omega (arith, w)))

module _ (line : Outcome → List ℕ) where
  lines_join : (s : Session) (rs more : List Record) → lines_of line s (rs ++ more) ≡ lines_of line s rs ++ lines_of line (session_past s rs) more
  unfolding lines_of session_past
  lines_join s [] more = refl
  lines_join s (r ∷ rs) more =
      let now = line (outcome_of (step_def Rules.Current s r)) in
      let next = session_of (step_def Rules.Current s r) in
      ap (λ (l : List ℕ). now ++ l) (lines_join next rs more) ∙ sym (append_assoc now (lines_of line next rs) (lines_of line (session_past next rs) more))

sessions_join : (s : Session) (rs more : List Record) → session_past s (rs ++ more) ≡ session_past (session_past s rs) more
unfolding session_past
sessions_join s [] more = refl
sessions_join s (r ∷ rs) more = sessions_join (session_of (step_def Rules.Current s r)) rs more

-- bytes are spare after the cut as they are in the whole
after_join : (spare a b : List ℕ) → length a % 8 ≡ 0 → after_lines spare (a ++ b) ≡ after_lines spare b
unfolding after_lines
after_join spare a b w =
    let e : length (a ++ b) % 8 ≡ length b % 8 = omega (arith, w, length-append a b) in
    rw e refl

pub blocks_join : (line : Outcome → List ℕ) (spare : List ℕ) → BlocksJoin line spare
unfolding text_from
blocks_join line spare =
    record {
      lines = λ s a b w. rw (records_join a b w) (lines_join line s (records_of a) (records_of b));
      session = λ s a b w. rw (records_join a b w) (sessions_join s (records_of a) (records_of b));
      text = λ s a b w.
          rw (records_join a b w, after_join spare a b w, lines_join line s (records_of a) (records_of b))
          (append_assoc (lines_of line s (records_of a)) (lines_of line (session_past s (records_of a)) (records_of b)) (after_lines spare b));
    }

-- the lines of a history's records, by what each record met
told : (Outcome → List ℕ) → Session → List Entry → List ℕ
told line given [] = []
told line given (e ∷ h) = told line given h ++ line (outcome_of (step_def Rules.Current (session_after Rules.Current given h) e.what))

all_told : (line : Outcome → List ℕ) (given : Session) (h : List Entry) (rs : List Record)
    → lines_of line given (in_order h rs) ≡ told line given h ++ lines_of line (session_after Rules.Current given h) rs
unfolding lines_of told
all_told line given [] rs = refl
all_told line given (e ∷ h) rs =
    let o = step_def Rules.Current (session_after Rules.Current given h) e.what in
    all_told line given h (e.what ∷ rs) ∙ sym (append_assoc (told line given h) (line (outcome_of o)) (lines_of line (session_of o) rs))

got_lines : (o : Result) → outcome_line (outcome_of o) ≡ got_line (got_of o)
unfolding outcome_of given_line got_line
got_lines (sent t s) = refl
got_lines (answered x n s) = refl
got_lines (refused x s) = refl
got_lines (broken s) = refl

told_lines : (h : List Entry) → Genuine Rules.Current fresh_session h → told outcome_line fresh_session h ≡ history_lines h
unfolding told history_lines
told_lines [] g = refl
told_lines (e ∷ h) (i, is, g) =
    let o = step_def Rules.Current (session_after Rules.Current fresh_session h) e.what in
    ap (λ (l : List ℕ). l ++ outcome_line (outcome_of o)) (told_lines h g) ∙ ap (λ (l : List ℕ). history_lines h ++ l) (got_lines o ∙ ap got_line (sym is))

told_fields : (h : List Entry) → told (λ o. fields_line o.session.driver) fresh_session h ≡ history_fields h
unfolding told history_fields
told_fields [] = refl
told_fields (e ∷ h) =
    let o = step_def Rules.Current (session_after Rules.Current fresh_session h) e.what in
    ap (λ (l : List ℕ). l ++ fields_line (outcome_of o).session.driver) (told_fields h)
    ∙ ap (λ (s : Session). history_fields h ++ fields_line s.driver) (kept_session o)

-- the lines of whole records from a fresh session
module _ (bytes : List ℕ) (w : length bytes % 8 ≡ 0) where
  abbrev history : List Entry
  history = (run_def Rules.Current fresh_session bytes).history

  told_all : (line : Outcome → List ℕ) → lines_of line fresh_session (records_of bytes) ≡ told line fresh_session history
  unfolding lines_of
  told_all line =
      let d = demand_3 Rules.Current bytes in
      let rs : in_order history [] ≡ records_of bytes = rw w at d.beyond.records in
      rw (sym rs) (all_told line fresh_session history [] ∙ append-nil (told line fresh_session history))

  lines_told : lines_of outcome_line fresh_session (records_of bytes) ≡ history_lines history
  lines_told = told_all outcome_line ∙ told_lines history (demand_3 Rules.Current bytes).beyond.genuine

  fields_told : lines_of (λ o. fields_line o.session.driver) fresh_session (records_of bytes) ≡ history_fields history
  fields_told = told_all (λ o. fields_line o.session.driver) ∙ told_fields history

-- the whole part of a list has its records
pub part_whole : (l : List ℕ) → length (whole_part l) % 8 ≡ 0
part_whole l = omega (arith, length-take (length l / 8 * 8) l)

pub part_records : (l : List ℕ) → records_of (whole_part l) ≡ records_of l
part_records l =
    let n = length l / 8 * 8 in
    let rest = drop n l in
    let none : records_of rest ≡ [] = too_few rest (omega (arith, length-drop n l)) in
    sym (append-nil (records_of (whole_part l))) ∙ ap (λ (rs : List Record). records_of (whole_part l) ++ rs) (sym none) ∙ sym (records_join (whole_part l) rest (part_whole l))
    ∙ ap records_of (take-append-drop n l)

pub tells_history : (bytes : List ℕ) → TellsHistory bytes
unfolding rolltrace_text rollfields_text text_from after_lines
tells_history bytes =
    record {
      whole = λ w. rw w (append-nil _ ∙ lines_told bytes (eqb-true (length bytes % 8) 0 w));
      spare = λ w. rw w (ap (λ (l : List ℕ). l ++ spare_line) (rw (sym (part_records bytes)) (lines_told (whole_part bytes) (part_whole bytes))));
      whole_fields = λ w. rw w (append-nil _ ∙ fields_told bytes (eqb-true (length bytes % 8) 0 w));
      spare_fields = λ w. rw w (append-nil _ ∙ rw (sym (part_records bytes)) (fields_told (whole_part bytes) (part_whole bytes)));
      part = rw (part_whole bytes) refl;
    }
