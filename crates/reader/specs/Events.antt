-- The events that a reader over lent records gives: the records in order, and then their end or spare bytes.
-- SCOPE 2.5: a reader gives one event after the other.
use Rattle.std.specs.Prelude.{◌≡◌, Bool, true, false, cond, List, [], ◌∷◌, ◌++◌, map, ℕ, zero, suc, ◌+◌, leb, length, get_or}
use Rattle.session.specs.declared.Rules.{Rules}
use Rattle.session.specs.declared.Answer.{Answer}
use Rattle.session.specs.declared.Session.{Session}
use Rattle.session.specs.History.{Run, stopped, run_records, run_def}
use Rattle.session.specs.Records.{Record, call, reply, other, records_of, is_whole}
use Rattle.records.specs.Records.{record_in, record_at}
use Rattle.reader.specs.declared.Event.{Event}

-- a record as an event
unfoldable pub event_of : Record → Event
event_of (call code a b) = Event.Call (record { code = code; a = a; b = b })
event_of (reply f bs) = Event.Reply (record { failure = f; «data» = bs })
event_of other = Event.Other

-- SCOPE 8.2: a length that is no multiple of 8 is answer 14
abbrev pub last_of : List ℕ → Event
last_of l = cond (is_whole l) Event.End Event.Spare

-- all that a reader gives, in its order
abbrev pub events_of : List ℕ → List Event
events_of l = map event_of (records_of l) ++ (last_of l ∷ [])

-- the n-th of them, counted from 0; after the last one it is given again and again
abbrev pub event_number : ℕ → List ℕ → Event
event_number n l = get_or (events_of l) n (last_of l)

-- what stands at a place: a record where there are eight bytes, else the end or spare bytes
unfoldable pub event_at : ℕ → List ℕ → Event
event_at at l = cond (leb (at + 8) (length l)) (event_of (record_in (record_at l at))) (cond (leb (length l) at) Event.End Event.Spare)

-- the place after it
unfoldable pub place_after : ℕ → List ℕ → ℕ
place_after at l = cond (leb (at + 8) (length l)) (at + 8) at

-- where a reader is that was at a place and has given n events since
abbrev pub place_after_all : ℕ → ℕ → List ℕ → ℕ
place_after_all zero at l = at
place_after_all (suc n) at l = place_after_all n (place_after at l) l

-- the records among events, up to the end
abbrev pub records_in : List Event → List Record
records_in [] = []
records_in (Event.Call c ∷ es) = call c.code c.a c.b ∷ records_in es
records_in (Event.Reply r ∷ es) = reply r.failure r.«data» ∷ records_in es
records_in (Event.Other ∷ es) = other ∷ records_in es
records_in (Event.End ∷ es) = []
records_in (Event.Spare ∷ es) = []

-- is the end reached, and no spare bytes?
abbrev pub ends_in : List Event → Bool
ends_in [] = false
ends_in (Event.Call c ∷ es) = ends_in es
ends_in (Event.Reply r ∷ es) = ends_in es
ends_in (Event.Other ∷ es) = ends_in es
ends_in (Event.End ∷ es) = true
ends_in (Event.Spare ∷ es) = false

-- the run over events: 14 where they end in spare bytes, else their records in order
abbrev pub run_events : Rules → Session → List Event → Run
run_events rules s es = cond (ends_in es) (run_records rules s (records_in es)) (stopped Answer.SpareBytes s)

-- a reader that starts at the first byte gives the events in order, and the list run is the run over them
pub record ReadsAll : Type 0 where
  pub in_their_order : (n : ℕ) (l : List ℕ) → event_at (place_after_all n 0 l) l ≡ event_number n l
  pub runs : (rules : Rules) (s : Session) (l : List ℕ) → run_def rules s l ≡ run_events rules s (events_of l)
