-- The first place of the six budget replies in the Rust's order, also of the first few of them:
-- a session that waits for the next reply looks again at all that it knows.
use Rattle.std.specs.Prelude.{◌&&◌, cond, List, [], ◌∷◌, ℕ, ◌+◌, leb, ltb, Option, None, Some}
use Rattle.std.specs.Result.{result_err}
use Rattle.clock.specs.declared.Place.{Place}
use Rattle.clock.specs.Clock.{decoded_timeout, decoded_vcsel_period}
use Rattle.timing.specs.declared.TimingRegisters.{TimingRegisters}
use Rattle.timing.specs.declared.Entry.{Entry}
use Rattle.timing.specs.Registers.{sequence_step_enables}
use Rattle.timing.specs.Timeouts.{timeout_clocks, msrc_time, pre_time, final_time}

unfoldable pub timeout_place : ℕ → Option Place
timeout_place word = result_err (decoded_timeout word)

unfoldable pub period_place : ℕ → Option Place
period_place byte = result_err (decoded_vcsel_period byte)

-- SCOPE 5.3: fewer clocks than pre-range's, while pre-range is on, are place 3
unfoldable pub less_place : TimingRegisters → Option Place
less_place r =
    cond
    ((sequence_step_enables r.sequence).prerange && ltb (timeout_clocks r.finaltimeout).0 (timeout_clocks r.pretimeout).0)
    (Some Place.FinalBelowPre)
    None

-- SCOPE 5.3: 0x46 plus 1 above 255 is place 5
abbrev pub msrc_place : ℕ → Option Place
msrc_place byte = cond (ltb 255 (byte + 1)) (Some Place.MsrcTimeout) None

abbrev pub entry : ℕ → Option Place → Entry
entry n p = record { needs = n; place = p }

-- SCOPE 5.3: each as soon as its reply is there, and the microseconds for MSRC, pre-range, final range after the last.
-- lib.rs 656 to 688, line by line
unfoldable pub entries_of : TimingRegisters → List Entry
entries_of r =
    entry 2 (timeout_place r.pretimeout)
    ∷ entry 3 (timeout_place r.finaltimeout)
    ∷ entry 3 (less_place r)
    ∷ entry 4 (period_place r.preperiod)
    ∷ entry 5 (msrc_place r.msrctimeout)
    ∷ entry 6 (period_place r.finalperiod)
    ∷ entry 6 (result_err (msrc_time r))
    ∷ entry 6 (result_err (pre_time r))
    ∷ entry 6 (result_err (final_time r))
    ∷ []

-- p, once the first n replies are known
abbrev pub after : ℕ → ℕ → Option Place → Option Place
after n known p = cond (leb n known) p None

-- the places that the first `known` replies show
abbrev pub seen : ℕ → List Entry → List (Option Place)
seen known [] = []
seen known (e ∷ es) = after e.needs known e.place ∷ seen known es

-- the first that there is
abbrev pub or_next : Option Place → Option Place → Option Place
or_next None q = q
or_next (Some p) q = Some p

unfoldable pub first_match : List (Option Place) → Option Place
first_match [] = None
first_match (p ∷ ps) = or_next p (first_match ps)

-- the first place once the first `known` replies are known
unfoldable pub first_place : TimingRegisters → ℕ → Option Place
first_place r known = first_match (seen known (entries_of r))
