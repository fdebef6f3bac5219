-- What is put into a lent text.
use Rattle.std.specs.Prelude.{◌≡◌, List, [], ℕ, ◌+◌, ◌≤◌, ◌<◌, length}
use Rattle.std.proofs.lemmas.List.Edits.{sets}

-- a part stands in the text from `at` on, all else is as it was, and `next` is the place after it
pub record Put (was : List ℕ) (at : ℕ) (part text : List ℕ) (next : ℕ) : Type 0 where
  pub puts : text ≡ sets was at part
  pub ends : next ≡ at + length part

-- the bytes of room that a line is given: an answer may come to have five values
abbrev pub line_room : ℕ
line_room = 48

-- a line is put where there is that room, and is no longer; elsewhere nothing is put
pub record PutLine (was : List ℕ) (at : ℕ) (line text : List ℕ) (next : ℕ) : Type 0 where
  pub with_room : at + line_room ≤ length was → Put was at line text next × (next ≤ at + line_room)
  pub without : length was < at + line_room → Put was at [] text next
