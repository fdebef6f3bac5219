-- Values that the definitions of this crate give: the numbers and values of the answers, a fresh session, records, the run of SCOPE 10.1,
-- and what a session that no run leaves makes of a reply.
use Rattle.std.specs.Prelude.{◌≡◌, true, false, List, [], ◌∷◌, map, ◌++◌, ℕ, ◌+◌, ◌*◌, replicate}
use Rattle.std.proofs.lemmas.List.Edits.{sets}
use Rattle.session.specs.declared.Rules.{Rules}
use Rattle.session.specs.Bus.{Driver, Answer, transfer_of, number_of, values_of}
use Rattle.session.specs.Instructions.{timing_slot}
use Rattle.session.specs.Calls.{ceiling_of}
use Rattle.session.specs.Machine.{Session, Outcome, sent, answered, refused, broken, zeros, calling, with_place, with_kept, resting, fresh_session, reply_def}
use Rattle.session.specs.Records.{call, reply, other, call_bytes, reply_bytes, records_of}
use Rattle.session.specs.History.{step_def, transfer, answer, refusal, Entry, run_def}
use Rattle.session.specs.Claim1.{refusal_number}

-- SCOPE 10.1: the input that prints T 29 C0 1 and A 2 0 1
abbrev pub input : List ℕ
input = 0x01 ∷ 0x01 ∷ 0x00 ∷ 0x00 ∷ 0x00 ∷ 0x29 ∷ 0x00 ∷ 0x00 ∷ 0x02 ∷ 0x00 ∷ 0x00 ∷ 0x00 ∷ 0x00 ∷ 0x00 ∷ 0x00 ∷ 0x00 ∷ []

-- the number of an answer, and its one value
pub record Is (x : Answer) (n value : ℕ) : Type 0 where
  pub number : number_of x ≡ n
  pub values : values_of x ≡ value ∷ []

pub record AnswerValues : Type 0 where
  pub done : (v : ℕ) → Is (Answer.Done v) 0 v
  pub false : Is Answer.False 1 0
  pub device : (byte : ℕ) → Is (Answer.InvalidDevice byte) 2 byte
  pub bus : (code : ℕ) → Is (Answer.BusError code) 3 code
  pub timeout : Is Answer.Timeout 4 0
  pub address : (a : ℕ) → Is (Answer.InvalidAddress a) 5 a
  pub argument : Is Answer.InvalidArgument 6 0
  pub block : Is Answer.WouldBlock 7 0
  pub panic : (place : ℕ) → Is (Answer.Panic place) 8 place
  pub while_not_up : Is Answer.NotUp 9 0
  pub call_waits : Is Answer.CallWaits 10 0
  pub no_call_waits : Is Answer.NoCallWaits 11 0
  pub stray_byte : Is Answer.StrayByte 12 0
  pub ill_formed_record : Is Answer.IllFormedRecord 13 0
  pub spare_bytes : Is Answer.SpareBytes 14 0
  pub ill_formed_session : Is Answer.IllFormedSession 15 0

-- a call waits, in a session that is up at 0x29: code, A, B, step, transfers, and bytes carried from slot 8 on
abbrev pub held : ℕ → ℕ → ℕ → ℕ → ℕ → List ℕ → Session
held code a b step transfers bytes =
    with_kept 0 0 (sets zeros timing_slot bytes) (with_place step 0 transfers (calling (record { up = true; address = 0x29; stop = 0x3C; budget = 31326 }) code a b))

-- answers 8 with this place
abbrev pub Panics : Session → ℕ → Outcome → Type 0
Panics s place o = o ≡ answered (Answer.Panic place) s.transfers (resting s.driver)

-- a good reply of one byte
abbrev pub replied1 : Rules → Session → ℕ → Outcome
replied1 rules s x = reply_def rules s 0 (x ∷ 0 ∷ 0 ∷ 0 ∷ 0 ∷ 0 ∷ [])

-- call 15, waiting for its reply n + 1, with the bytes of the first n carried
abbrev pub reading : ℕ → List ℕ → Session
reading n bytes = held 15 0 0 n (n + 1) bytes

-- SCOPE 2.2: arithmetic on carried bytes gives the first place in the Rust's order, also on bytes that no run leaves
pub record CarriedPlaces (rules : Rules) : Type 0 where
  pub pre_before_final : Panics (reading 2 (0x00 ∷ 0x10 ∷ 0x00 ∷ [])) 2 (replied1 rules (reading 2 (0x00 ∷ 0x10 ∷ 0x00 ∷ [])) 1)
  pub final_before_period : Panics (reading 3 (0x00 ∷ 0x00 ∷ 0x00 ∷ 0x10 ∷ 0x00 ∷ [])) 2 (replied1 rules (reading 3 (0x00 ∷ 0x00 ∷ 0x00 ∷ 0x10 ∷ 0x00 ∷ [])) 255)
  pub less_before_period : Panics (reading 3 (0x40 ∷ 0x00 ∷ 0x96 ∷ 0x00 ∷ 0x00 ∷ [])) 3 (replied1 rules (reading 3 (0x40 ∷ 0x00 ∷ 0x96 ∷ 0x00 ∷ 0x00 ∷ [])) 255)
  pub period_before_msrc : Panics (reading 4 (0x00 ∷ 0x00 ∷ 0x00 ∷ 0x00 ∷ 0x00 ∷ 0xFF ∷ [])) 4 (replied1 rules (reading 4 (0x00 ∷ 0x00 ∷ 0x00 ∷ 0x00 ∷ 0x00 ∷ 0xFF ∷ [])) 255)
  pub pre_before_all : Panics (reading 4 (0x00 ∷ 0x10 ∷ 0x00 ∷ 0x00 ∷ 0x00 ∷ 0xFF ∷ [])) 2 (replied1 rules (reading 4 (0x00 ∷ 0x10 ∷ 0x00 ∷ 0x00 ∷ 0x00 ∷ 0xFF ∷ [])) 255)
  pub msrc_before_last : Panics (reading 5 (0xE8 ∷ 0x00 ∷ 0x96 ∷ 0x01 ∷ 0xFE ∷ 0x06 ∷ 0xFF ∷ [])) 5 (replied1 rules (reading 5 (0xE8 ∷ 0x00 ∷ 0x96 ∷ 0x01 ∷ 0xFE ∷ 0x06 ∷ 0xFF ∷ [])) 255)
  pub period_before_last : Panics (reading 5 (0xE8 ∷ 0x00 ∷ 0x96 ∷ 0x01 ∷ 0xFE ∷ 0xFF ∷ 0xFF ∷ [])) 4 (replied1 rules (reading 5 (0xE8 ∷ 0x00 ∷ 0x96 ∷ 0x01 ∷ 0xFE ∷ 0xFF ∷ 0xFF ∷ [])) 4)
  pub none : replied1 rules (reading 5 (0xE8 ∷ 0x00 ∷ 0x96 ∷ 0x01 ∷ 0xFE ∷ 0x06 ∷ 0x25 ∷ [])) 4 ≡ answered (Answer.Done 31326) 6 (resting (reading 5 []).driver)
  -- a failed reply is answer 3 before any arithmetic
  pub failed : reply_def rules (reading 2 (0x00 ∷ 0x10 ∷ 0x00 ∷ [])) 7 (0 ∷ 0 ∷ 0 ∷ 0 ∷ 0 ∷ 0 ∷ []) ≡ answered (Answer.BusError 7) 3 (resting (reading 2 []).driver)

-- a waiting call goes on as the Rust's code after its transfer, with arguments that 5, 6 or 1 would have stopped
pub record HeldValues (rules : Rules) : Type 0 where
  pub any_address : reply_def rules (held 3 0x03 0 0 1 []) 0 (0 ∷ 0 ∷ 0 ∷ 0 ∷ 0 ∷ 0 ∷ [])
      ≡ answered (Answer.Done 0) 1 (resting (record { up = true; address = 0x03; stop = 0x3C; budget = 31326 }))
  pub twelve_bits : replied1 rules (held 10 0xFFFF 0xFFFF 0 1 []) 0 ≡ sent (transfer_of 0x29 (0x0C ∷ 0x0F ∷ 0xFF ∷ []) 1) (held 10 0xFFFF 0xFFFF 1 2 [])
  pub short_budget : replied1 rules (held 9 3000 0 6 7 []) 0
      ≡ answered (Answer.Done 0) 7 (resting (record { up = true; address = 0x29; stop = 0x3C; budget = 3000 }))
  -- call 4 with period 0 at a timed step writes the product 0, and then the mode of period 0
  pub no_period : reply_def rules (held 4 0 0 7 8 []) 0 (0x12 ∷ 0x34 ∷ 0 ∷ 0 ∷ 0 ∷ 0 ∷ []) ≡ sent (transfer_of 0x29 (0x04 ∷ 0 ∷ 0 ∷ 0 ∷ 0 ∷ []) 1) (held 4 0 0 8 9 (0x12 ∷ 0x34 ∷ []))
  pub no_period_mode : replied1 rules (held 4 0 0 8 9 (0x12 ∷ 0x34 ∷ [])) 0 ≡ sent (transfer_of 0x29 (0x00 ∷ 0x02 ∷ []) 1) (held 4 0 0 9 10 (0x12 ∷ 0x34 ∷ []))
  -- SCOPE 5.1, call 11: low × 65536 + high
  pub pair : reply_def rules (held 11 0 0 1 2 (0x00 ∷ 0x96 ∷ [])) 0 (0x0F ∷ 0xFF ∷ 0 ∷ 0 ∷ 0 ∷ 0 ∷ []) ≡ answered (Answer.Done (300 * 65536 + 8190)) 2 (resting (held 11 0 0 1 2 []).driver)

-- a session that is up and rests
abbrev pub standing : Session
standing = resting (record { up = true; address = 0x29; stop = 0x3C; budget = 31326 })

-- the refusal of a call there, 0 if it is accepted
abbrev pub refusal_of : Rules → ℕ × ℕ × ℕ → ℕ
refusal_of rules x = refusal_number (step_def rules standing (call x.0 x.1 x.2))

-- codes at the edges of 1 to 15, with the arguments 0, and all of these
abbrev pub edge_codes : List (ℕ × ℕ × ℕ)
edge_codes = (0, 0, 0) ∷ (2, 0, 0) ∷ (15, 0, 0) ∷ (16, 0, 0) ∷ []

abbrev pub codes_1_to_15 : List ℕ
codes_1_to_15 = 1 ∷ 2 ∷ 3 ∷ 4 ∷ 5 ∷ 6 ∷ 7 ∷ 8 ∷ 9 ∷ 10 ∷ 11 ∷ 12 ∷ 13 ∷ 14 ∷ 15 ∷ []

-- SCOPE 2.6: what goes by the rules: which codes are calls', the ceilings, and what answer 15 makes of them. A count at
-- the ceiling passes 15, and is over it one transfer later; a session that waits past the last code is ill-formed. Those of the first rules never change
pub record FirstValues : Type 0 where
  pub codes : map (refusal_of Rules.First) edge_codes ≡ 13 ∷ 0 ∷ 0 ∷ 13 ∷ []
  pub ceilings : map (ceiling_of Rules.First) codes_1_to_15 ≡ 85688 ∷ 1 ∷ 1 ∷ 10 ∷ 6 ∷ 4 ∷ 10003 ∷ 20011 ∷ 7 ∷ 2 ∷ 2 ∷ 5 ∷ 2 ∷ 1 ∷ 6 ∷ []
  pub at_ceiling : replied1 Rules.First (held 4 0 0 0 10 []) 0 ≡ sent (transfer_of 0x29 (0xFF ∷ 0x01 ∷ []) 1) (held 4 0 0 1 11 [])
  pub over_ceiling : replied1 Rules.First (held 4 0 0 1 11 []) 0 ≡ broken (held 4 0 0 1 11 [])
  pub past_the_last : replied1 Rules.First (held 16 0 0 0 1 []) 0 ≡ broken (held 16 0 0 0 1 [])

pub record CurrentValues : Type 0 where
  pub codes : map (refusal_of Rules.Current) (edge_codes ++ (17, 0, 0) ∷ []) ≡ 13 ∷ 0 ∷ 0 ∷ 0 ∷ 13 ∷ []
  pub ceilings : map (ceiling_of Rules.Current) (codes_1_to_15 ++ 16 ∷ []) ≡ 85688 ∷ 1 ∷ 1 ∷ 10 ∷ 6 ∷ 4 ∷ 10003 ∷ 20011 ∷ 7 ∷ 2 ∷ 2 ∷ 5 ∷ 2 ∷ 1 ∷ 6 ∷ 1 ∷ []
  pub unused : map (refusal_of Rules.Current) ((16, 1, 0) ∷ (16, 0, 1) ∷ []) ≡ 13 ∷ 13 ∷ []
  pub at_ceiling : replied1 Rules.Current (held 4 0 0 0 10 []) 0 ≡ sent (transfer_of 0x29 (0xFF ∷ 0x01 ∷ []) 1) (held 4 0 0 1 11 [])
  pub over_ceiling : replied1 Rules.Current (held 4 0 0 1 11 []) 0 ≡ broken (held 4 0 0 1 11 [])
  pub past_the_last : replied1 Rules.Current (held 17 0 0 0 1 []) 0 ≡ broken (held 17 0 0 0 1 [])
  -- SCOPE 5.12: call 16 while not up; where it waits its word, high byte first, a failed reply, a stray byte, and a count over its ceiling
  pub while_not_up : refusal_number (step_def Rules.Current fresh_session (call 16 0 0)) ≡ 9
  pub limit : reply_def Rules.Current (held 16 0 0 0 1 []) 0 (0x00 ∷ 0x20 ∷ 0 ∷ 0 ∷ 0 ∷ 0 ∷ []) ≡ answered (Answer.Done 0x3E80_0000) 1 standing
  pub failed : reply_def Rules.Current (held 16 0 0 0 1 []) 13 (0 ∷ 0 ∷ 0 ∷ 0 ∷ 0 ∷ 0 ∷ []) ≡ answered (Answer.BusError 13) 1 standing
  pub third_byte : reply_def Rules.Current (held 16 0 0 0 1 []) 0 (0x00 ∷ 0x20 ∷ 1 ∷ 0 ∷ 0 ∷ 0 ∷ []) ≡ refused Answer.StrayByte (held 16 0 0 0 1 [])
  pub over_its_ceiling : reply_def Rules.Current (held 16 0 0 0 2 []) 0 (0x00 ∷ 0x20 ∷ 0 ∷ 0 ∷ 0 ∷ 0 ∷ []) ≡ broken (held 16 0 0 0 2 [])

-- SCOPE 7.2: the edges of the argument ranges, and arguments that are not used
pub record EdgeValues (rules : Rules) : Type 0 where
  pub addresses : map (refusal_of rules) ((1, 255, 0) ∷ (1, 256, 0) ∷ (3, 255, 0) ∷ (3, 256, 0) ∷ []) ≡ 0 ∷ 13 ∷ 0 ∷ 13 ∷ []
  pub thresholds : map (refusal_of rules) ((10, 65535, 65535) ∷ (10, 65536, 0) ∷ []) ≡ 0 ∷ 13 ∷ []
  pub gpio : map (refusal_of rules) ((12, 3, 1) ∷ (12, 4, 0) ∷ (12, 0, 2) ∷ []) ≡ 0 ∷ 13 ∷ 13 ∷ []
  pub long : map (refusal_of rules) ((4, 4294967295, 0) ∷ (9, 4294967295, 0) ∷ (14, 4294967295, 0) ∷ (4, 0, 1) ∷ (9, 0, 1) ∷ (14, 0, 1) ∷ []) ≡ 0 ∷ 0 ∷ 0 ∷ 13 ∷ 13 ∷ 13 ∷ []
  pub unused : map (refusal_of rules) ((2, 1, 0) ∷ (5, 0, 1) ∷ (6, 1, 0) ∷ (7, 0, 1) ∷ (8, 1, 0) ∷ (11, 0, 1) ∷ (13, 1, 0) ∷ (15, 0, 1) ∷ (1, 0, 1) ∷ (3, 0, 1) ∷ []) ≡ replicate 10 13

-- one of each refusal: call 2 while not up, a reply while no call waits, no kind, a bring-up, call 2 while it waits, a stray byte,
-- the identity, a failure with a byte beside it
abbrev pub refused_input : List ℕ
refused_input =
    call_bytes 2 0 0
    ++ reply_bytes 0 []
    ++ 0x03 ∷ 0 ∷ 0 ∷ 0 ∷ 0 ∷ 0 ∷ 0 ∷ 0 ∷ []
    ++ call_bytes 1 0x29 0
    ++ call_bytes 2 0 0
    ++ reply_bytes 0 (0xEE ∷ 0x01 ∷ [])
    ++ reply_bytes 0 (0x11 ∷ [])
    ++ call_bytes 1 0x30 0
    ++ reply_bytes 7 (0x01 ∷ [])

abbrev pub refused_history : List Entry
refused_history =
    record { what = reply 7 (0x01 ∷ 0 ∷ 0 ∷ 0 ∷ 0 ∷ 0 ∷ []); got = refusal Answer.StrayByte }
    ∷ record { what = call 1 0x30 0; got = transfer (transfer_of 0x30 (0xC0 ∷ []) 1) }
    ∷ record { what = reply 0 (0x11 ∷ 0 ∷ 0 ∷ 0 ∷ 0 ∷ 0 ∷ []); got = answer (Answer.InvalidDevice 0x11) 1 }
    ∷ record { what = reply 0 (0xEE ∷ 0x01 ∷ 0 ∷ 0 ∷ 0 ∷ 0 ∷ []); got = refusal Answer.StrayByte }
    ∷ record { what = call 2 0 0; got = refusal Answer.CallWaits }
    ∷ record { what = call 1 0x29 0; got = transfer (transfer_of 0x29 (0xC0 ∷ []) 1) }
    ∷ record { what = other; got = refusal Answer.IllFormedRecord }
    ∷ record { what = reply 0 (0 ∷ 0 ∷ 0 ∷ 0 ∷ 0 ∷ 0 ∷ []); got = refusal Answer.NoCallWaits }
    ∷ record { what = call 2 0 0; got = refusal Answer.NotUp }
    ∷ []

-- by each of the rules
pub record SessionValues (rules : Rules) : Type 0 where
  pub answers : AnswerValues
  pub carried : CarriedPlaces rules
  pub held : HeldValues rules
  -- an answer leaves the driver's fields and zeros
  pub rest : (d : Driver) → resting d ≡ record { driver = d; code = 0; a = 0; b = 0; step = 0; idle = 0; transfers = 0; failed = 0; found_budget = 0; carried = replicate 24 0 }
  pub edges : EdgeValues rules
  pub refused : (run_def rules fresh_session refused_input).history ≡ refused_history
  pub counted : (run_def rules fresh_session refused_input).counts ≡ record { calls = 2; answers = 1; replies = 1; transfers = 2; refused = 6 }
  pub fresh : fresh_session
      ≡ record {
        driver = record { up = false; address = 0; stop = 0; budget = 0 };
        code = 0;
        a = 0;
        b = 0;
        step = 0;
        idle = 0;
        transfers = 0;
        failed = 0;
        found_budget = 0;
        carried = replicate 24 0;
      }
  -- eight different bytes of each kind
  pub call_record : records_of (0x01 ∷ 0x02 ∷ 0x13 ∷ 0x24 ∷ 0x35 ∷ 0x46 ∷ 0x57 ∷ 0x68 ∷ []) ≡ call 0x02 0x13243546 0x5768 ∷ []
  pub reply_record : records_of (0x02 ∷ 0x01 ∷ 0x13 ∷ 0x24 ∷ 0x35 ∷ 0x46 ∷ 0x57 ∷ 0x68 ∷ [])
      ≡ reply 0x01 (0x13 ∷ 0x24 ∷ 0x35 ∷ 0x46 ∷ 0x57 ∷ 0x68 ∷ []) ∷ []
  pub other_records : records_of (0x03 ∷ 0x02 ∷ 0 ∷ 0 ∷ 0 ∷ 0 ∷ 0 ∷ 0 ∷ 0x0A ∷ 0x01 ∷ 0 ∷ 0 ∷ 0 ∷ 0 ∷ 0 ∷ 0 ∷ 0x00 ∷ 0x02 ∷ 0 ∷ 0 ∷ 0 ∷ 0 ∷ 0 ∷ 0 ∷ []) ≡ other ∷ other ∷ other ∷ []
  pub printed : run_def rules fresh_session input
      ≡ record {
        answer = Answer.Done 0;
        session = fresh_session;
        counts = record { calls = 1; answers = 1; replies = 1; transfers = 1; refused = 0 };
        history =
            record { what = reply 0 (0 ∷ 0 ∷ 0 ∷ 0 ∷ 0 ∷ 0 ∷ []); got = answer (Answer.InvalidDevice 0) 1 }
            ∷ record { what = call 1 0x29 0; got = transfer (record { address = 0x29; count = 1; written = 0xC0 ∷ 0 ∷ 0 ∷ 0 ∷ 0 ∷ 0 ∷ 0 ∷ []; reads = 1 }) }
            ∷ [];
      }
