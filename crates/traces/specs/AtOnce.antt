-- Written by oracle/traces from the Rust. Calls that are answered without a transfer.
use Rattle.std.specs.Prelude.{List, [], ◌∷◌}
use Rattle.traces.specs.Trace.{Trace}

abbrev pub address_below : Trace
address_below =
    record {
      before = 1 ∷ 0x29 ∷ 0x3C ∷ 31326 ∷ [];
      steps =
          (1 ∷ 3 ∷ 0 ∷ 0 ∷ 0 ∷ 7 ∷ 0 ∷ 0 ∷ [], 1 ∷ 5 ∷ 7 ∷ 0 ∷ [])
          ∷ [];
      after = 1 ∷ 0x29 ∷ 0x3C ∷ 31326 ∷ [];
    }

abbrev pub address_above : Trace
address_above =
    record {
      before = 1 ∷ 0x29 ∷ 0x3C ∷ 31326 ∷ [];
      steps =
          (1 ∷ 3 ∷ 0 ∷ 0 ∷ 0 ∷ 0x78 ∷ 0 ∷ 0 ∷ [], 1 ∷ 5 ∷ 120 ∷ 0 ∷ [])
          ∷ [];
      after = 1 ∷ 0x29 ∷ 0x3C ∷ 31326 ∷ [];
    }

abbrev pub high_above : Trace
high_above =
    record {
      before = 1 ∷ 0x29 ∷ 0x3C ∷ 31326 ∷ [];
      steps =
          (1 ∷ 0x0A ∷ 0 ∷ 0 ∷ 0 ∷ 0 ∷ 0x1F ∷ 0xFF ∷ [], 1 ∷ 6 ∷ 0 ∷ 0 ∷ [])
          ∷ [];
      after = 1 ∷ 0x29 ∷ 0x3C ∷ 31326 ∷ [];
    }

abbrev pub both_above : Trace
both_above =
    record {
      before = 1 ∷ 0x29 ∷ 0x3C ∷ 31326 ∷ [];
      steps =
          (1 ∷ 0x0A ∷ 0 ∷ 0 ∷ 0x1F ∷ 0xFF ∷ 0x1F ∷ 0xFF ∷ [], 1 ∷ 6 ∷ 0 ∷ 0 ∷ [])
          ∷ [];
      after = 1 ∷ 0x29 ∷ 0x3C ∷ 31326 ∷ [];
    }

abbrev pub low_over_high : Trace
low_over_high =
    record {
      before = 1 ∷ 0x29 ∷ 0x3C ∷ 31326 ∷ [];
      steps =
          (1 ∷ 0x0A ∷ 0 ∷ 0 ∷ 1 ∷ 0x2D ∷ 1 ∷ 0x2C ∷ [], 1 ∷ 6 ∷ 0 ∷ 0 ∷ [])
          ∷ [];
      after = 1 ∷ 0x29 ∷ 0x3C ∷ 31326 ∷ [];
    }

abbrev pub budget_below : Trace
budget_below =
    record {
      before = 1 ∷ 0x29 ∷ 0x3C ∷ 31326 ∷ [];
      steps =
          (1 ∷ 9 ∷ 0 ∷ 0 ∷ 0x4E ∷ 0x1F ∷ 0 ∷ 0 ∷ [], 1 ∷ 1 ∷ 0 ∷ 0 ∷ [])
          ∷ [];
      after = 1 ∷ 0x29 ∷ 0x3C ∷ 31326 ∷ [];
    }

abbrev pub rate_nan : Trace
rate_nan =
    record {
      before = 1 ∷ 0x29 ∷ 0x3C ∷ 31326 ∷ [];
      steps =
          (1 ∷ 0x0E ∷ 0x7F ∷ 0xC0 ∷ 0 ∷ 0 ∷ 0 ∷ 0 ∷ [], 1 ∷ 1 ∷ 0 ∷ 0 ∷ [])
          ∷ [];
      after = 1 ∷ 0x29 ∷ 0x3C ∷ 31326 ∷ [];
    }

abbrev pub rate_negative : Trace
rate_negative =
    record {
      before = 1 ∷ 0x29 ∷ 0x3C ∷ 31326 ∷ [];
      steps =
          (1 ∷ 0x0E ∷ 0x80 ∷ 0 ∷ 0 ∷ 1 ∷ 0 ∷ 0 ∷ [], 1 ∷ 1 ∷ 0 ∷ 0 ∷ [])
          ∷ [];
      after = 1 ∷ 0x29 ∷ 0x3C ∷ 31326 ∷ [];
    }

abbrev pub rate_above : Trace
rate_above =
    record {
      before = 1 ∷ 0x29 ∷ 0x3C ∷ 31326 ∷ [];
      steps =
          (1 ∷ 0x0E ∷ 0x43 ∷ 0xFF ∷ 0xFE ∷ 0xB9 ∷ 0 ∷ 0 ∷ [], 1 ∷ 1 ∷ 0 ∷ 0 ∷ [])
          ∷ [];
      after = 1 ∷ 0x29 ∷ 0x3C ∷ 31326 ∷ [];
    }

abbrev pub rate_infinite : Trace
rate_infinite =
    record {
      before = 1 ∷ 0x29 ∷ 0x3C ∷ 31326 ∷ [];
      steps =
          (1 ∷ 0x0E ∷ 0x7F ∷ 0x80 ∷ 0 ∷ 0 ∷ 0 ∷ 0 ∷ [], 1 ∷ 1 ∷ 0 ∷ 0 ∷ [])
          ∷ [];
      after = 1 ∷ 0x29 ∷ 0x3C ∷ 31326 ∷ [];
    }

abbrev pub at_once : List Trace
at_once = address_below ∷ address_above ∷ high_above ∷ both_above ∷ low_over_high ∷ budget_below ∷ rate_nan ∷ rate_negative ∷ rate_above ∷ rate_infinite ∷ []
