-- A line more of a text, and a list run to its end.
use mathlib.Core.Path.{◌≡◌, refl, sym, ap, ◌∙◌}
use mathlib.Core.List.{List, [], ◌∷◌, ◌++◌, append_assoc, append-nil}
use Prim.Native.Nat.{ℕ, ◌+◌, ◌*◌, ◌≤◌, ◌<◌, zero-le}
use native.Mathlib.Numerals.{add-one}
use native.Mathlib.Omega.{arith}
use lib.ListN.{length, get_or, take, drop, length-drop, length-append, take-append-drop, drop_of_length-le}
use lib.Seq.{sets-eq, length-take-le, take_at, drop_at, drop-drop, drop-cons}
use Rattle.std.specs.Prelude.{map}
use Rattle.session.specs.declared.Rules.{Rules}
use Rattle.session.specs.declared.Session.{Session}
use Rattle.session.specs.Records.{records_of}
use Rattle.session.specs.Machine.{Outcome as Result, sent, answered, refused, broken}
use Rattle.session.specs.History.{step_def, session_of}
use Rattle.session.specs.Given.{outcome_of}
use Rattle.session.specs.declared.Outcome.{Outcome}
use Rattle.records.specs.Records.{record_in}
use Rattle.lines.specs.Put.{line_room}
use Rattle.blocks.specs.declared.Printout.{Printout}
use Rattle.blocks.specs.Blocks.{lines_of, session_past, OneMore, Printed}

-- the session of an outcome
pub kept_session : (x : Result) → (outcome_of x).session ≡ session_of x
unfolding outcome_of
kept_session (sent t s) = refl
kept_session (answered y n s) = refl
kept_session (refused y s) = refl
kept_session (broken s) = refl

module _ (line_of : Outcome → List ℕ) (s₀ : Session) (chunks : List (List ℕ)) (out₀ : List ℕ) where
  -- where the printing of a list of chunks is
  pub record Going (out : List ℕ) (p : Printout) (i : ℕ) : Type 0 where
    pub room : line_room * length chunks ≤ length out₀
    pub used : p.count ≤ line_room * i
    pub size : length out ≡ length out₀
    pub after : drop p.count out ≡ drop p.count out₀
    pub text : take p.count out ++ lines_of line_of p.session (map record_in (drop i chunks)) ≡ lines_of line_of s₀ (map record_in chunks)
    pub session : session_past p.session (map record_in (drop i chunks)) ≡ session_past s₀ (map record_in chunks)

  pub going_from : line_room * length chunks ≤ length out₀ → Going out₀ (record { session = s₀; count = 0 }) 0
  going_from r = record { room = r; used = zero-le; size = refl; after = refl; text = refl; session = refl }

  pub line_fits : {out : List ℕ} {p : Printout} {i : ℕ} → Going out p i → i < length chunks → p.count + line_room ≤ length out
  line_fits g more = omega (arith, g.used, g.size, g.room, more)

  pub goes_on : {out out' : List ℕ} {p p' : Printout} {i : ℕ} (d : List ℕ) → Going out p i → i < length chunks
      → OneMore line_of p (get_or chunks i d) out out' p' → Going out' p' (i + 1)
  unfolding lines_of session_past
  goes_on {out} {out'} {p} {p'} {i} d g more m =
      let r = get_or chunks i d in
      let line = line_of (outcome_of (step_def Rules.Current p.session (record_in r))) in
      let n = m.line.ends in
      let fits = line_fits g more in
      let short : p'.count ≤ length out = omega (arith, m.short, fits) in
      let next : drop i chunks ≡ r ∷ drop (i + 1) chunks = rw (add-one i) (drop-cons chunks i d more) in
      let front : length (take p.count out ++ line) ≡ p'.count = length-append (take p.count out) line ∙ rw (length-take-le p.count out (omega (arith, fits))) (sym n) in
      let shape : out' ≡ (take p.count out ++ line) ++ drop p'.count out = m.line.puts ∙ sets-eq line out p.count (omega (arith, n, short)) ∙ rw n refl in
      record {
        room = g.room;
        used = omega (arith, m.short, g.used);
        size = ap length shape ∙ length-append (take p.count out ++ line) (drop p'.count out) ∙ rw front (rw (length-drop p'.count out) (omega (arith, short, g.size)));
        after = rw shape (drop_at (take p.count out ++ line) (drop p'.count out) p'.count front) ∙ later (length line) p'.count n;
        text = rw shape (rw (take_at (take p.count out ++ line) (drop p'.count out) p'.count front) (append_assoc (take p.count out) line (lines_of line_of p'.session (map record_in (drop (i + 1) chunks))) ∙ rw m.session (rw next at g.text)));
        session = rw m.session (rw next at g.session);
      }
    where
      later : (k n : ℕ) → n ≡ p.count + k → drop n out ≡ drop n out₀
      later k n e = rw e (sym (drop-drop k p.count out) ∙ ap (drop k) g.after ∙ drop-drop k p.count out₀)

  pub going_ends : {out : List ℕ} {p : Printout} {i : ℕ} (bytes : List ℕ) → Going out p i → length chunks ≤ i → i ≤ length chunks → records_of bytes ≡ map record_in chunks
      → Printed line_of s₀ bytes out₀ out p
  unfolding lines_of session_past
  going_ends {out} {p} {i} bytes g h h' are =
      let e : drop i chunks ≡ [] = drop_of_length-le chunks {i = i} h in
      let t : take p.count out ≡ lines_of line_of s₀ (map record_in chunks) = sym (append-nil (take p.count out)) ∙ (rw e at g.text) in
      let fits : p.count ≤ length out = omega (arith, g.used, g.size, g.room, h') in
      record {
        text = rw are (sym (take-append-drop p.count out) ∙ rw t (rw g.after refl));
        count = rw are (sym (length-take-le p.count out fits) ∙ ap length t);
        session = rw are (rw e at g.session);
      }

pub printed_fits : (line_of : Outcome → List ℕ) (s : Session) (bytes out out' : List ℕ) (r : Printout) → Printed line_of s bytes out out' r → r.count ≤ length out'
printed_fits line_of s bytes out out' r h =
    omega (arith, h.count, ap length h.text, length-append (lines_of line_of s (records_of bytes)) (drop r.count out))
