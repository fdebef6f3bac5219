-- Written by oracle/traces from the Rust. Failed transfers in the other calls.
use Rattle.std.specs.Prelude.{List, [], ◌∷◌}
use Rattle.traces.specs.Trace.{Trace}

abbrev pub who_am_i_fails : Trace
who_am_i_fails =
    record {
      before = 1 ∷ 0x29 ∷ 0x3C ∷ 31326 ∷ [];
      steps =
          (1 ∷ 2 ∷ 0 ∷ 0 ∷ 0 ∷ 0 ∷ 0 ∷ 0 ∷ [], 0 ∷ 0x29 ∷ 0xC0 ∷ 1 ∷ [])
          ∷ (2 ∷ 1 ∷ 0 ∷ 0 ∷ 0 ∷ 0 ∷ 0 ∷ 0 ∷ [], 1 ∷ 3 ∷ 1 ∷ 1 ∷ [])
          ∷ [];
      after = 1 ∷ 0x29 ∷ 0x3C ∷ 31326 ∷ [];
    }

abbrev pub set_address_fails : Trace
set_address_fails =
    record {
      before = 1 ∷ 0x29 ∷ 0x3C ∷ 31326 ∷ [];
      steps =
          (1 ∷ 3 ∷ 0 ∷ 0 ∷ 0 ∷ 0x30 ∷ 0 ∷ 0 ∷ [], 0 ∷ 0x29 ∷ 0x8A ∷ 0x30 ∷ 0 ∷ [])
          ∷ (2 ∷ 2 ∷ 0 ∷ 0 ∷ 0 ∷ 0 ∷ 0 ∷ 0 ∷ [], 1 ∷ 3 ∷ 2 ∷ 1 ∷ [])
          ∷ [];
      after = 1 ∷ 0x29 ∷ 0x3C ∷ 31326 ∷ [];
    }

abbrev pub oscillator_fails : Trace
oscillator_fails =
    record {
      before = 1 ∷ 0x29 ∷ 0x3C ∷ 31326 ∷ [];
      steps =
          (1 ∷ 4 ∷ 0 ∷ 0 ∷ 0 ∷ 0x32 ∷ 0 ∷ 0 ∷ [], 0 ∷ 0x29 ∷ 0x80 ∷ 1 ∷ 1 ∷ [])
          ∷ (2 ∷ 0 ∷ 0 ∷ 0 ∷ 0 ∷ 0 ∷ 0 ∷ 0 ∷ [], 0 ∷ 0x29 ∷ 0xFF ∷ 1 ∷ 1 ∷ [])
          ∷ (2 ∷ 0 ∷ 0 ∷ 0 ∷ 0 ∷ 0 ∷ 0 ∷ 0 ∷ [], 0 ∷ 0x29 ∷ 0 ∷ 0 ∷ 1 ∷ [])
          ∷ (2 ∷ 0 ∷ 0 ∷ 0 ∷ 0 ∷ 0 ∷ 0 ∷ 0 ∷ [], 0 ∷ 0x29 ∷ 0x91 ∷ 0x3C ∷ 1 ∷ [])
          ∷ (2 ∷ 0 ∷ 0 ∷ 0 ∷ 0 ∷ 0 ∷ 0 ∷ 0 ∷ [], 0 ∷ 0x29 ∷ 0 ∷ 1 ∷ 1 ∷ [])
          ∷ (2 ∷ 0 ∷ 0 ∷ 0 ∷ 0 ∷ 0 ∷ 0 ∷ 0 ∷ [], 0 ∷ 0x29 ∷ 0xFF ∷ 0 ∷ 1 ∷ [])
          ∷ (2 ∷ 0 ∷ 0 ∷ 0 ∷ 0 ∷ 0 ∷ 0 ∷ 0 ∷ [], 0 ∷ 0x29 ∷ 0x80 ∷ 0 ∷ 1 ∷ [])
          ∷ (2 ∷ 0 ∷ 0 ∷ 0 ∷ 0 ∷ 0 ∷ 0 ∷ 0 ∷ [], 0 ∷ 0x29 ∷ 0xF8 ∷ 2 ∷ [])
          ∷ (2 ∷ 3 ∷ 0 ∷ 0 ∷ 0 ∷ 0 ∷ 0 ∷ 0 ∷ [], 1 ∷ 3 ∷ 3 ∷ 8 ∷ [])
          ∷ [];
      after = 1 ∷ 0x29 ∷ 0x3C ∷ 31326 ∷ [];
    }

abbrev pub stop_fails : Trace
stop_fails =
    record {
      before = 1 ∷ 0x29 ∷ 0x3C ∷ 31326 ∷ [];
      steps =
          (1 ∷ 5 ∷ 0 ∷ 0 ∷ 0 ∷ 0 ∷ 0 ∷ 0 ∷ [], 0 ∷ 0x29 ∷ 0 ∷ 1 ∷ 1 ∷ [])
          ∷ (2 ∷ 0 ∷ 0 ∷ 0 ∷ 0 ∷ 0 ∷ 0 ∷ 0 ∷ [], 0 ∷ 0x29 ∷ 0xFF ∷ 1 ∷ 1 ∷ [])
          ∷ (2 ∷ 0 ∷ 0 ∷ 0 ∷ 0 ∷ 0 ∷ 0 ∷ 0 ∷ [], 0 ∷ 0x29 ∷ 0 ∷ 0 ∷ 1 ∷ [])
          ∷ (2 ∷ 0 ∷ 0 ∷ 0 ∷ 0 ∷ 0 ∷ 0 ∷ 0 ∷ [], 0 ∷ 0x29 ∷ 0x91 ∷ 0 ∷ 1 ∷ [])
          ∷ (2 ∷ 0 ∷ 0 ∷ 0 ∷ 0 ∷ 0 ∷ 0 ∷ 0 ∷ [], 0 ∷ 0x29 ∷ 0 ∷ 1 ∷ 1 ∷ [])
          ∷ (2 ∷ 0 ∷ 0 ∷ 0 ∷ 0 ∷ 0 ∷ 0 ∷ 0 ∷ [], 0 ∷ 0x29 ∷ 0xFF ∷ 0 ∷ 1 ∷ [])
          ∷ (2 ∷ 4 ∷ 0 ∷ 0 ∷ 0 ∷ 0 ∷ 0 ∷ 0 ∷ [], 1 ∷ 3 ∷ 4 ∷ 6 ∷ [])
          ∷ [];
      after = 1 ∷ 0x29 ∷ 0x3C ∷ 31326 ∷ [];
    }

abbrev pub set_budget_read_fails : Trace
set_budget_read_fails =
    record {
      before = 1 ∷ 0x29 ∷ 0x3C ∷ 31326 ∷ [];
      steps =
          (1 ∷ 9 ∷ 0 ∷ 0 ∷ 0x80 ∷ 0xE8 ∷ 0 ∷ 0 ∷ [], 0 ∷ 0x29 ∷ 1 ∷ 1 ∷ [])
          ∷ (2 ∷ 0 ∷ 0xE8 ∷ 0 ∷ 0 ∷ 0 ∷ 0 ∷ 0 ∷ [], 0 ∷ 0x29 ∷ 0x51 ∷ 2 ∷ [])
          ∷ (2 ∷ 0 ∷ 0 ∷ 0x96 ∷ 0 ∷ 0 ∷ 0 ∷ 0 ∷ [], 0 ∷ 0x29 ∷ 0x71 ∷ 2 ∷ [])
          ∷ (2 ∷ 5 ∷ 0 ∷ 0 ∷ 0 ∷ 0 ∷ 0 ∷ 0 ∷ [], 1 ∷ 3 ∷ 5 ∷ 3 ∷ [])
          ∷ [];
      after = 1 ∷ 0x29 ∷ 0x3C ∷ 31326 ∷ [];
    }

abbrev pub set_budget_write_fails : Trace
set_budget_write_fails =
    record {
      before = 1 ∷ 0x29 ∷ 0x3C ∷ 31326 ∷ [];
      steps =
          (1 ∷ 9 ∷ 0 ∷ 0 ∷ 0x80 ∷ 0xE8 ∷ 0 ∷ 0 ∷ [], 0 ∷ 0x29 ∷ 1 ∷ 1 ∷ [])
          ∷ (2 ∷ 0 ∷ 0xE8 ∷ 0 ∷ 0 ∷ 0 ∷ 0 ∷ 0 ∷ [], 0 ∷ 0x29 ∷ 0x51 ∷ 2 ∷ [])
          ∷ (2 ∷ 0 ∷ 0 ∷ 0x96 ∷ 0 ∷ 0 ∷ 0 ∷ 0 ∷ [], 0 ∷ 0x29 ∷ 0x71 ∷ 2 ∷ [])
          ∷ (2 ∷ 0 ∷ 1 ∷ 0xFE ∷ 0 ∷ 0 ∷ 0 ∷ 0 ∷ [], 0 ∷ 0x29 ∷ 0x50 ∷ 1 ∷ [])
          ∷ (2 ∷ 0 ∷ 6 ∷ 0 ∷ 0 ∷ 0 ∷ 0 ∷ 0 ∷ [], 0 ∷ 0x29 ∷ 0x46 ∷ 1 ∷ [])
          ∷ (2 ∷ 0 ∷ 0x25 ∷ 0 ∷ 0 ∷ 0 ∷ 0 ∷ 0 ∷ [], 0 ∷ 0x29 ∷ 0x70 ∷ 1 ∷ [])
          ∷ (2 ∷ 0 ∷ 4 ∷ 0 ∷ 0 ∷ 0 ∷ 0 ∷ 0 ∷ [], 0 ∷ 0x29 ∷ 0x71 ∷ 2 ∷ 0x92 ∷ 1 ∷ [])
          ∷ (2 ∷ 6 ∷ 0 ∷ 0 ∷ 0 ∷ 0 ∷ 0 ∷ 0 ∷ [], 1 ∷ 3 ∷ 6 ∷ 7 ∷ [])
          ∷ [];
      after = 1 ∷ 0x29 ∷ 0x3C ∷ 31326 ∷ [];
    }

abbrev pub set_thresholds_fails : Trace
set_thresholds_fails =
    record {
      before = 1 ∷ 0x29 ∷ 0x3C ∷ 31326 ∷ [];
      steps =
          (1 ∷ 0x0A ∷ 0 ∷ 0 ∷ 1 ∷ 0x2D ∷ 0x1F ∷ 0xFE ∷ [], 0 ∷ 0x29 ∷ 0x0E ∷ 0 ∷ 0x96 ∷ 1 ∷ [])
          ∷ (2 ∷ 0 ∷ 0 ∷ 0 ∷ 0 ∷ 0 ∷ 0 ∷ 0 ∷ [], 0 ∷ 0x29 ∷ 0x0C ∷ 0x0F ∷ 0xFF ∷ 1 ∷ [])
          ∷ (2 ∷ 7 ∷ 0 ∷ 0 ∷ 0 ∷ 0 ∷ 0 ∷ 0 ∷ [], 1 ∷ 3 ∷ 7 ∷ 2 ∷ [])
          ∷ [];
      after = 1 ∷ 0x29 ∷ 0x3C ∷ 31326 ∷ [];
    }

abbrev pub get_thresholds_fails : Trace
get_thresholds_fails =
    record {
      before = 1 ∷ 0x29 ∷ 0x3C ∷ 31326 ∷ [];
      steps =
          (1 ∷ 0x0B ∷ 0 ∷ 0 ∷ 0 ∷ 0 ∷ 0 ∷ 0 ∷ [], 0 ∷ 0x29 ∷ 0x0E ∷ 2 ∷ [])
          ∷ (2 ∷ 0 ∷ 0 ∷ 9 ∷ 0 ∷ 0 ∷ 0 ∷ 0 ∷ [], 0 ∷ 0x29 ∷ 0x0C ∷ 2 ∷ [])
          ∷ (2 ∷ 8 ∷ 0 ∷ 0 ∷ 0 ∷ 0 ∷ 0 ∷ 0 ∷ [], 1 ∷ 3 ∷ 8 ∷ 2 ∷ [])
          ∷ [];
      after = 1 ∷ 0x29 ∷ 0x3C ∷ 31326 ∷ [];
    }

abbrev pub pin_fails : Trace
pin_fails =
    record {
      before = 1 ∷ 0x29 ∷ 0x3C ∷ 31326 ∷ [];
      steps =
          (1 ∷ 0x0C ∷ 0 ∷ 0 ∷ 0 ∷ 3 ∷ 0 ∷ 1 ∷ [], 0 ∷ 0x29 ∷ 0x0A ∷ 3 ∷ 1 ∷ [])
          ∷ (2 ∷ 0 ∷ 0 ∷ 0 ∷ 0 ∷ 0 ∷ 0 ∷ 0 ∷ [], 0 ∷ 0x29 ∷ 0x84 ∷ 1 ∷ [])
          ∷ (2 ∷ 9 ∷ 0 ∷ 0 ∷ 0 ∷ 0 ∷ 0 ∷ 0 ∷ [], 1 ∷ 3 ∷ 9 ∷ 2 ∷ [])
          ∷ [];
      after = 1 ∷ 0x29 ∷ 0x3C ∷ 31326 ∷ [];
    }

abbrev pub clearing_fails : Trace
clearing_fails =
    record {
      before = 1 ∷ 0x29 ∷ 0x3C ∷ 31326 ∷ [];
      steps =
          (1 ∷ 0x0D ∷ 0 ∷ 0 ∷ 0 ∷ 0 ∷ 0 ∷ 0 ∷ [], 0 ∷ 0x29 ∷ 0x0B ∷ 1 ∷ 1 ∷ [])
          ∷ (2 ∷ 0 ∷ 0 ∷ 0 ∷ 0 ∷ 0 ∷ 0 ∷ 0 ∷ [], 0 ∷ 0x29 ∷ 0x0B ∷ 0 ∷ 1 ∷ [])
          ∷ (2 ∷ 0x0A ∷ 0 ∷ 0 ∷ 0 ∷ 0 ∷ 0 ∷ 0 ∷ [], 1 ∷ 3 ∷ 10 ∷ 2 ∷ [])
          ∷ [];
      after = 1 ∷ 0x29 ∷ 0x3C ∷ 31326 ∷ [];
    }

abbrev pub rate_fails : Trace
rate_fails =
    record {
      before = 1 ∷ 0x29 ∷ 0x3C ∷ 31326 ∷ [];
      steps =
          (1 ∷ 0x0E ∷ 0x3E ∷ 0x80 ∷ 0 ∷ 0 ∷ 0 ∷ 0 ∷ [], 0 ∷ 0x29 ∷ 0x44 ∷ 0 ∷ 0x20 ∷ 1 ∷ [])
          ∷ (2 ∷ 0x0B ∷ 0 ∷ 0 ∷ 0 ∷ 0 ∷ 0 ∷ 0 ∷ [], 1 ∷ 3 ∷ 11 ∷ 1 ∷ [])
          ∷ [];
      after = 1 ∷ 0x29 ∷ 0x3C ∷ 31326 ∷ [];
    }

abbrev pub get_budget_fails : Trace
get_budget_fails =
    record {
      before = 1 ∷ 0x29 ∷ 0x3C ∷ 31326 ∷ [];
      steps =
          (1 ∷ 0x0F ∷ 0 ∷ 0 ∷ 0 ∷ 0 ∷ 0 ∷ 0 ∷ [], 0 ∷ 0x29 ∷ 1 ∷ 1 ∷ [])
          ∷ (2 ∷ 0 ∷ 0xE8 ∷ 0 ∷ 0 ∷ 0 ∷ 0 ∷ 0 ∷ [], 0 ∷ 0x29 ∷ 0x51 ∷ 2 ∷ [])
          ∷ (2 ∷ 0 ∷ 0 ∷ 0x96 ∷ 0 ∷ 0 ∷ 0 ∷ 0 ∷ [], 0 ∷ 0x29 ∷ 0x71 ∷ 2 ∷ [])
          ∷ (2 ∷ 0 ∷ 1 ∷ 0xFE ∷ 0 ∷ 0 ∷ 0 ∷ 0 ∷ [], 0 ∷ 0x29 ∷ 0x50 ∷ 1 ∷ [])
          ∷ (2 ∷ 0 ∷ 6 ∷ 0 ∷ 0 ∷ 0 ∷ 0 ∷ 0 ∷ [], 0 ∷ 0x29 ∷ 0x46 ∷ 1 ∷ [])
          ∷ (2 ∷ 0 ∷ 0x25 ∷ 0 ∷ 0 ∷ 0 ∷ 0 ∷ 0 ∷ [], 0 ∷ 0x29 ∷ 0x70 ∷ 1 ∷ [])
          ∷ (2 ∷ 0x0C ∷ 0 ∷ 0 ∷ 0 ∷ 0 ∷ 0 ∷ 0 ∷ [], 1 ∷ 3 ∷ 12 ∷ 6 ∷ [])
          ∷ [];
      after = 1 ∷ 0x29 ∷ 0x3C ∷ 31326 ∷ [];
    }

abbrev pub failed_calls : List Trace
failed_calls = who_am_i_fails ∷ set_address_fails ∷ oscillator_fails ∷ stop_fails ∷ set_budget_read_fails ∷ set_budget_write_fails ∷ set_thresholds_fails ∷ get_thresholds_fails ∷ pin_fails ∷ clearing_fails ∷ rate_fails ∷ get_budget_fails ∷ []
