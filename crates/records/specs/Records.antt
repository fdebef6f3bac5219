-- Eight bytes as a record.
use Rattle.std.specs.Prelude.{List, [], ◌∷◌, ℕ, ◌+◌, get_or}
use Rattle.session.specs.Bus.{byte}
use Rattle.session.specs.Records.{Record as Meant, call, reply, other, record_of}
use Rattle.records.specs.declared.Record.{Record}

unfoldable pub record_in : List ℕ → Meant
record_in bs = record_of (byte 0 bs) (byte 1 bs) (byte 2 bs) (byte 3 bs) (byte 4 bs) (byte 5 bs) (byte 6 bs) (byte 7 bs)

-- the eight bytes of a list from i on
abbrev pub record_at : List ℕ → ℕ → List ℕ
record_at l i =
    get_or l i 0 ∷ get_or l (i + 1) 0 ∷ get_or l (i + 2) 0 ∷ get_or l (i + 3) 0 ∷ get_or l (i + 4) 0 ∷ get_or l (i + 5) 0 ∷ get_or l (i + 6) 0 ∷ get_or l (i + 7) 0 ∷ []

-- a record as the code shows it, and back
unfoldable pub shown : Meant → Record
shown (call code a b) = Record.Call (record { code = code; a = a; b = b })
shown (reply f bs) = Record.Reply (record { failure = f; «data» = bs })
shown other = Record.Other

unfoldable pub meant : Record → Meant
meant (Record.Call c) = call c.code c.a c.b
meant (Record.Reply r) = reply r.failure r.«data»
meant Record.Other = other
