-- What is put after what was put before it, and a line where there is room for it.
use mathlib.Core.Path.{◌≡◌, refl, ap, ◌∙◌}
use mathlib.Core.List.{List, [], ◌∷◌, ◌++◌}
use Prim.Native.Nat.{ℕ, suc, ◌+◌}
use native.Mathlib.Nat.{add-zero}
use native.Mathlib.Omega.{arith}
use lib.ListN.{length, length-append}
use lib.Seq.{sets, length-sets}
use Rattle.lines.specs.declared.cursor.Cursor.{Cursor}
use Rattle.lines.specs.Cursor.{Puts}
use Rattle.lines.specs.Put.{Put}

sets_append : (l : List ℕ) (i : ℕ) (u v : List ℕ) → sets (sets l i u) (i + length u) v ≡ sets l i (u ++ v)
sets_append l i [] v = rw add-zero refl
sets_append l i (a ∷ u) v =
    let e : i + suc (length u) ≡ suc i + length u = omega arith in
    rw e (sets_append _ (suc i) u v)

pub joined : {was bytes after s t : List ℕ} {at next end : ℕ}
    → Put was at s bytes next → Put bytes next t after end → Put was at (s ++ t) after end
joined {was} {bytes} {after} {s} {t} {at} {next} {end} p q =
    record {
      puts = q.puts ∙ ap (λ (k : ℕ). sets bytes k t) p.ends ∙ ap (λ (l : List ℕ). sets l (at + length s) t) p.puts ∙ sets_append was at s t;
      ends = rw length-append (omega arith);
    }

pub keeps : {was part text : List ℕ} {at next : ℕ} → Put was at part text next → length text ≡ length was
keeps {was} {part} {text} {at} p = ap length p.puts ∙ length-sets was at part

-- the same at a cursor
pub then : {a b c : Cursor} {s t : List ℕ} → Puts a s b → Puts b t c → Puts a (s ++ t) c
then p q =
    record {
      same_text = q.same_text ∙ p.same_text;
      same_length = q.same_length ∙ p.same_length;
      put = joined p.put q.put;
    }
