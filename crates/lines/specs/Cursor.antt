-- What is put at a cursor's place.
use Rattle.std.specs.Prelude.{◌≡◌, List, ℕ, ◌+◌, ◌≤◌, length}
use Rattle.lines.specs.declared.cursor.Cursor.{Cursor}
use Rattle.lines.specs.Put.{Put}

-- n bytes go into the text from the place on
abbrev pub HasRoom : Cursor → ℕ → Type 0
HasRoom c n = c.at + n ≤ length c.text.now

-- a part was put: the cursor holds the text that it held, and stands after the part
pub record Puts (was : Cursor) (part : List ℕ) (c : Cursor) : Type 0 where
  pub same_text : c.text.ghost_name ≡ was.text.ghost_name
  pub same_length : length c.text.now ≡ length was.text.now
  pub put : Put was.text.now was.at part c.text.now c.at
