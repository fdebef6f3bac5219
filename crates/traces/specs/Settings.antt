-- Written by oracle/traces from the Rust. Calls 9 to 15, answered Done.
use Rattle.std.specs.Prelude.{List, [], ◌∷◌}
use Rattle.traces.specs.Trace.{Trace}

abbrev pub set_budget : Trace
set_budget =
    record {
      before = 1 ∷ 0x29 ∷ 0x3C ∷ 31326 ∷ [];
      steps =
          (1 ∷ 9 ∷ 0 ∷ 0 ∷ 0x80 ∷ 0xE8 ∷ 0 ∷ 0 ∷ [], 0 ∷ 0x29 ∷ 1 ∷ 1 ∷ [])
          ∷ (2 ∷ 0 ∷ 0xE8 ∷ 0 ∷ 0 ∷ 0 ∷ 0 ∷ 0 ∷ [], 0 ∷ 0x29 ∷ 0x51 ∷ 2 ∷ [])
          ∷ (2 ∷ 0 ∷ 0 ∷ 0x96 ∷ 0 ∷ 0 ∷ 0 ∷ 0 ∷ [], 0 ∷ 0x29 ∷ 0x71 ∷ 2 ∷ [])
          ∷ (2 ∷ 0 ∷ 1 ∷ 0xFE ∷ 0 ∷ 0 ∷ 0 ∷ 0 ∷ [], 0 ∷ 0x29 ∷ 0x50 ∷ 1 ∷ [])
          ∷ (2 ∷ 0 ∷ 6 ∷ 0 ∷ 0 ∷ 0 ∷ 0 ∷ 0 ∷ [], 0 ∷ 0x29 ∷ 0x46 ∷ 1 ∷ [])
          ∷ (2 ∷ 0 ∷ 0x25 ∷ 0 ∷ 0 ∷ 0 ∷ 0 ∷ 0 ∷ [], 0 ∷ 0x29 ∷ 0x70 ∷ 1 ∷ [])
          ∷ (2 ∷ 0 ∷ 4 ∷ 0 ∷ 0 ∷ 0 ∷ 0 ∷ 0 ∷ [], 0 ∷ 0x29 ∷ 0x71 ∷ 2 ∷ 0x92 ∷ 1 ∷ [])
          ∷ (2 ∷ 0 ∷ 0 ∷ 0 ∷ 0 ∷ 0 ∷ 0 ∷ 0 ∷ [], 1 ∷ 0 ∷ 0 ∷ 7 ∷ [])
          ∷ [];
      after = 1 ∷ 0x29 ∷ 0x3C ∷ 33000 ∷ [];
    }

abbrev pub set_thresholds : Trace
set_thresholds =
    record {
      before = 1 ∷ 0x29 ∷ 0x3C ∷ 31326 ∷ [];
      steps =
          (1 ∷ 0x0A ∷ 0 ∷ 0 ∷ 1 ∷ 0x2D ∷ 0x1F ∷ 0xFE ∷ [], 0 ∷ 0x29 ∷ 0x0E ∷ 0 ∷ 0x96 ∷ 1 ∷ [])
          ∷ (2 ∷ 0 ∷ 0 ∷ 0 ∷ 0 ∷ 0 ∷ 0 ∷ 0 ∷ [], 0 ∷ 0x29 ∷ 0x0C ∷ 0x0F ∷ 0xFF ∷ 1 ∷ [])
          ∷ (2 ∷ 0 ∷ 0 ∷ 0 ∷ 0 ∷ 0 ∷ 0 ∷ 0 ∷ [], 1 ∷ 0 ∷ 0 ∷ 2 ∷ [])
          ∷ [];
      after = 1 ∷ 0x29 ∷ 0x3C ∷ 31326 ∷ [];
    }

abbrev pub get_thresholds : Trace
get_thresholds =
    record {
      before = 1 ∷ 0x29 ∷ 0x3C ∷ 31326 ∷ [];
      steps =
          (1 ∷ 0x0B ∷ 0 ∷ 0 ∷ 0 ∷ 0 ∷ 0 ∷ 0 ∷ [], 0 ∷ 0x29 ∷ 0x0E ∷ 2 ∷ [])
          ∷ (2 ∷ 0 ∷ 0xF0 ∷ 0x96 ∷ 0 ∷ 0 ∷ 0 ∷ 0 ∷ [], 0 ∷ 0x29 ∷ 0x0C ∷ 2 ∷ [])
          ∷ (2 ∷ 0 ∷ 0x0F ∷ 0xFF ∷ 0 ∷ 0 ∷ 0 ∷ 0 ∷ [], 1 ∷ 0 ∷ 19668990 ∷ 2 ∷ [])
          ∷ [];
      after = 1 ∷ 0x29 ∷ 0x3C ∷ 31326 ∷ [];
    }

abbrev pub new_sample_low : Trace
new_sample_low =
    record {
      before = 1 ∷ 0x29 ∷ 0x3C ∷ 31326 ∷ [];
      steps =
          (1 ∷ 0x0C ∷ 0 ∷ 0 ∷ 0 ∷ 0 ∷ 0 ∷ 0 ∷ [], 0 ∷ 0x29 ∷ 0x0A ∷ 4 ∷ 1 ∷ [])
          ∷ (2 ∷ 0 ∷ 0 ∷ 0 ∷ 0 ∷ 0 ∷ 0 ∷ 0 ∷ [], 0 ∷ 0x29 ∷ 0x84 ∷ 1 ∷ [])
          ∷ (2 ∷ 0 ∷ 0xFF ∷ 0 ∷ 0 ∷ 0 ∷ 0 ∷ 0 ∷ [], 0 ∷ 0x29 ∷ 0x84 ∷ 0xEF ∷ 1 ∷ [])
          ∷ (2 ∷ 0 ∷ 0 ∷ 0 ∷ 0 ∷ 0 ∷ 0 ∷ 0 ∷ [], 0 ∷ 0x29 ∷ 0x0B ∷ 1 ∷ 1 ∷ [])
          ∷ (2 ∷ 0 ∷ 0 ∷ 0 ∷ 0 ∷ 0 ∷ 0 ∷ 0 ∷ [], 0 ∷ 0x29 ∷ 0x0B ∷ 0 ∷ 1 ∷ [])
          ∷ (2 ∷ 0 ∷ 0 ∷ 0 ∷ 0 ∷ 0 ∷ 0 ∷ 0 ∷ [], 1 ∷ 0 ∷ 0 ∷ 5 ∷ [])
          ∷ [];
      after = 1 ∷ 0x29 ∷ 0x3C ∷ 31326 ∷ [];
    }

abbrev pub new_sample_high : Trace
new_sample_high =
    record {
      before = 1 ∷ 0x29 ∷ 0x3C ∷ 31326 ∷ [];
      steps =
          (1 ∷ 0x0C ∷ 0 ∷ 0 ∷ 0 ∷ 0 ∷ 0 ∷ 1 ∷ [], 0 ∷ 0x29 ∷ 0x0A ∷ 4 ∷ 1 ∷ [])
          ∷ (2 ∷ 0 ∷ 0 ∷ 0 ∷ 0 ∷ 0 ∷ 0 ∷ 0 ∷ [], 0 ∷ 0x29 ∷ 0x84 ∷ 1 ∷ [])
          ∷ (2 ∷ 0 ∷ 0 ∷ 0 ∷ 0 ∷ 0 ∷ 0 ∷ 0 ∷ [], 0 ∷ 0x29 ∷ 0x84 ∷ 0x10 ∷ 1 ∷ [])
          ∷ (2 ∷ 0 ∷ 0 ∷ 0 ∷ 0 ∷ 0 ∷ 0 ∷ 0 ∷ [], 0 ∷ 0x29 ∷ 0x0B ∷ 1 ∷ 1 ∷ [])
          ∷ (2 ∷ 0 ∷ 0 ∷ 0 ∷ 0 ∷ 0 ∷ 0 ∷ 0 ∷ [], 0 ∷ 0x29 ∷ 0x0B ∷ 0 ∷ 1 ∷ [])
          ∷ (2 ∷ 0 ∷ 0 ∷ 0 ∷ 0 ∷ 0 ∷ 0 ∷ 0 ∷ [], 1 ∷ 0 ∷ 0 ∷ 5 ∷ [])
          ∷ [];
      after = 1 ∷ 0x29 ∷ 0x3C ∷ 31326 ∷ [];
    }

abbrev pub level_low_low : Trace
level_low_low =
    record {
      before = 1 ∷ 0x29 ∷ 0x3C ∷ 31326 ∷ [];
      steps =
          (1 ∷ 0x0C ∷ 0 ∷ 0 ∷ 0 ∷ 1 ∷ 0 ∷ 0 ∷ [], 0 ∷ 0x29 ∷ 0x0A ∷ 1 ∷ 1 ∷ [])
          ∷ (2 ∷ 0 ∷ 0 ∷ 0 ∷ 0 ∷ 0 ∷ 0 ∷ 0 ∷ [], 0 ∷ 0x29 ∷ 0x84 ∷ 1 ∷ [])
          ∷ (2 ∷ 0 ∷ 0x5A ∷ 0 ∷ 0 ∷ 0 ∷ 0 ∷ 0 ∷ [], 0 ∷ 0x29 ∷ 0x84 ∷ 0x4A ∷ 1 ∷ [])
          ∷ (2 ∷ 0 ∷ 0 ∷ 0 ∷ 0 ∷ 0 ∷ 0 ∷ 0 ∷ [], 0 ∷ 0x29 ∷ 0x0B ∷ 1 ∷ 1 ∷ [])
          ∷ (2 ∷ 0 ∷ 0 ∷ 0 ∷ 0 ∷ 0 ∷ 0 ∷ 0 ∷ [], 0 ∷ 0x29 ∷ 0x0B ∷ 0 ∷ 1 ∷ [])
          ∷ (2 ∷ 0 ∷ 0 ∷ 0 ∷ 0 ∷ 0 ∷ 0 ∷ 0 ∷ [], 1 ∷ 0 ∷ 0 ∷ 5 ∷ [])
          ∷ [];
      after = 1 ∷ 0x29 ∷ 0x3C ∷ 31326 ∷ [];
    }

abbrev pub level_low_high : Trace
level_low_high =
    record {
      before = 1 ∷ 0x29 ∷ 0x3C ∷ 31326 ∷ [];
      steps =
          (1 ∷ 0x0C ∷ 0 ∷ 0 ∷ 0 ∷ 1 ∷ 0 ∷ 1 ∷ [], 0 ∷ 0x29 ∷ 0x0A ∷ 1 ∷ 1 ∷ [])
          ∷ (2 ∷ 0 ∷ 0 ∷ 0 ∷ 0 ∷ 0 ∷ 0 ∷ 0 ∷ [], 0 ∷ 0x29 ∷ 0x84 ∷ 1 ∷ [])
          ∷ (2 ∷ 0 ∷ 0xA5 ∷ 0 ∷ 0 ∷ 0 ∷ 0 ∷ 0 ∷ [], 0 ∷ 0x29 ∷ 0x84 ∷ 0xB5 ∷ 1 ∷ [])
          ∷ (2 ∷ 0 ∷ 0 ∷ 0 ∷ 0 ∷ 0 ∷ 0 ∷ 0 ∷ [], 0 ∷ 0x29 ∷ 0x0B ∷ 1 ∷ 1 ∷ [])
          ∷ (2 ∷ 0 ∷ 0 ∷ 0 ∷ 0 ∷ 0 ∷ 0 ∷ 0 ∷ [], 0 ∷ 0x29 ∷ 0x0B ∷ 0 ∷ 1 ∷ [])
          ∷ (2 ∷ 0 ∷ 0 ∷ 0 ∷ 0 ∷ 0 ∷ 0 ∷ 0 ∷ [], 1 ∷ 0 ∷ 0 ∷ 5 ∷ [])
          ∷ [];
      after = 1 ∷ 0x29 ∷ 0x3C ∷ 31326 ∷ [];
    }

abbrev pub level_high_low : Trace
level_high_low =
    record {
      before = 1 ∷ 0x29 ∷ 0x3C ∷ 31326 ∷ [];
      steps =
          (1 ∷ 0x0C ∷ 0 ∷ 0 ∷ 0 ∷ 2 ∷ 0 ∷ 0 ∷ [], 0 ∷ 0x29 ∷ 0x0A ∷ 2 ∷ 1 ∷ [])
          ∷ (2 ∷ 0 ∷ 0 ∷ 0 ∷ 0 ∷ 0 ∷ 0 ∷ 0 ∷ [], 0 ∷ 0x29 ∷ 0x84 ∷ 1 ∷ [])
          ∷ (2 ∷ 0 ∷ 0 ∷ 0 ∷ 0 ∷ 0 ∷ 0 ∷ 0 ∷ [], 0 ∷ 0x29 ∷ 0x84 ∷ 0 ∷ 1 ∷ [])
          ∷ (2 ∷ 0 ∷ 0 ∷ 0 ∷ 0 ∷ 0 ∷ 0 ∷ 0 ∷ [], 0 ∷ 0x29 ∷ 0x0B ∷ 1 ∷ 1 ∷ [])
          ∷ (2 ∷ 0 ∷ 0 ∷ 0 ∷ 0 ∷ 0 ∷ 0 ∷ 0 ∷ [], 0 ∷ 0x29 ∷ 0x0B ∷ 0 ∷ 1 ∷ [])
          ∷ (2 ∷ 0 ∷ 0 ∷ 0 ∷ 0 ∷ 0 ∷ 0 ∷ 0 ∷ [], 1 ∷ 0 ∷ 0 ∷ 5 ∷ [])
          ∷ [];
      after = 1 ∷ 0x29 ∷ 0x3C ∷ 31326 ∷ [];
    }

abbrev pub level_high_high : Trace
level_high_high =
    record {
      before = 1 ∷ 0x29 ∷ 0x3C ∷ 31326 ∷ [];
      steps =
          (1 ∷ 0x0C ∷ 0 ∷ 0 ∷ 0 ∷ 2 ∷ 0 ∷ 1 ∷ [], 0 ∷ 0x29 ∷ 0x0A ∷ 2 ∷ 1 ∷ [])
          ∷ (2 ∷ 0 ∷ 0 ∷ 0 ∷ 0 ∷ 0 ∷ 0 ∷ 0 ∷ [], 0 ∷ 0x29 ∷ 0x84 ∷ 1 ∷ [])
          ∷ (2 ∷ 0 ∷ 0xFF ∷ 0 ∷ 0 ∷ 0 ∷ 0 ∷ 0 ∷ [], 0 ∷ 0x29 ∷ 0x84 ∷ 0xFF ∷ 1 ∷ [])
          ∷ (2 ∷ 0 ∷ 0 ∷ 0 ∷ 0 ∷ 0 ∷ 0 ∷ 0 ∷ [], 0 ∷ 0x29 ∷ 0x0B ∷ 1 ∷ 1 ∷ [])
          ∷ (2 ∷ 0 ∷ 0 ∷ 0 ∷ 0 ∷ 0 ∷ 0 ∷ 0 ∷ [], 0 ∷ 0x29 ∷ 0x0B ∷ 0 ∷ 1 ∷ [])
          ∷ (2 ∷ 0 ∷ 0 ∷ 0 ∷ 0 ∷ 0 ∷ 0 ∷ 0 ∷ [], 1 ∷ 0 ∷ 0 ∷ 5 ∷ [])
          ∷ [];
      after = 1 ∷ 0x29 ∷ 0x3C ∷ 31326 ∷ [];
    }

abbrev pub out_of_window_low : Trace
out_of_window_low =
    record {
      before = 1 ∷ 0x29 ∷ 0x3C ∷ 31326 ∷ [];
      steps =
          (1 ∷ 0x0C ∷ 0 ∷ 0 ∷ 0 ∷ 3 ∷ 0 ∷ 0 ∷ [], 0 ∷ 0x29 ∷ 0x0A ∷ 3 ∷ 1 ∷ [])
          ∷ (2 ∷ 0 ∷ 0 ∷ 0 ∷ 0 ∷ 0 ∷ 0 ∷ 0 ∷ [], 0 ∷ 0x29 ∷ 0x84 ∷ 1 ∷ [])
          ∷ (2 ∷ 0 ∷ 0x10 ∷ 0 ∷ 0 ∷ 0 ∷ 0 ∷ 0 ∷ [], 0 ∷ 0x29 ∷ 0x84 ∷ 0 ∷ 1 ∷ [])
          ∷ (2 ∷ 0 ∷ 0 ∷ 0 ∷ 0 ∷ 0 ∷ 0 ∷ 0 ∷ [], 0 ∷ 0x29 ∷ 0x0B ∷ 1 ∷ 1 ∷ [])
          ∷ (2 ∷ 0 ∷ 0 ∷ 0 ∷ 0 ∷ 0 ∷ 0 ∷ 0 ∷ [], 0 ∷ 0x29 ∷ 0x0B ∷ 0 ∷ 1 ∷ [])
          ∷ (2 ∷ 0 ∷ 0 ∷ 0 ∷ 0 ∷ 0 ∷ 0 ∷ 0 ∷ [], 1 ∷ 0 ∷ 0 ∷ 5 ∷ [])
          ∷ [];
      after = 1 ∷ 0x29 ∷ 0x3C ∷ 31326 ∷ [];
    }

abbrev pub out_of_window_high : Trace
out_of_window_high =
    record {
      before = 1 ∷ 0x29 ∷ 0x3C ∷ 31326 ∷ [];
      steps =
          (1 ∷ 0x0C ∷ 0 ∷ 0 ∷ 0 ∷ 3 ∷ 0 ∷ 1 ∷ [], 0 ∷ 0x29 ∷ 0x0A ∷ 3 ∷ 1 ∷ [])
          ∷ (2 ∷ 0 ∷ 0 ∷ 0 ∷ 0 ∷ 0 ∷ 0 ∷ 0 ∷ [], 0 ∷ 0x29 ∷ 0x84 ∷ 1 ∷ [])
          ∷ (2 ∷ 0 ∷ 0xEF ∷ 0 ∷ 0 ∷ 0 ∷ 0 ∷ 0 ∷ [], 0 ∷ 0x29 ∷ 0x84 ∷ 0xFF ∷ 1 ∷ [])
          ∷ (2 ∷ 0 ∷ 0 ∷ 0 ∷ 0 ∷ 0 ∷ 0 ∷ 0 ∷ [], 0 ∷ 0x29 ∷ 0x0B ∷ 1 ∷ 1 ∷ [])
          ∷ (2 ∷ 0 ∷ 0 ∷ 0 ∷ 0 ∷ 0 ∷ 0 ∷ 0 ∷ [], 0 ∷ 0x29 ∷ 0x0B ∷ 0 ∷ 1 ∷ [])
          ∷ (2 ∷ 0 ∷ 0 ∷ 0 ∷ 0 ∷ 0 ∷ 0 ∷ 0 ∷ [], 1 ∷ 0 ∷ 0 ∷ 5 ∷ [])
          ∷ [];
      after = 1 ∷ 0x29 ∷ 0x3C ∷ 31326 ∷ [];
    }

abbrev pub clear_interrupt_status : Trace
clear_interrupt_status =
    record {
      before = 1 ∷ 0x29 ∷ 0x3C ∷ 31326 ∷ [];
      steps =
          (1 ∷ 0x0D ∷ 0 ∷ 0 ∷ 0 ∷ 0 ∷ 0 ∷ 0 ∷ [], 0 ∷ 0x29 ∷ 0x0B ∷ 1 ∷ 1 ∷ [])
          ∷ (2 ∷ 0 ∷ 0xFF ∷ 0 ∷ 0 ∷ 0 ∷ 0 ∷ 0 ∷ [], 0 ∷ 0x29 ∷ 0x0B ∷ 0 ∷ 1 ∷ [])
          ∷ (2 ∷ 0 ∷ 0xFF ∷ 0 ∷ 0 ∷ 0 ∷ 0 ∷ 0 ∷ [], 1 ∷ 0 ∷ 0 ∷ 2 ∷ [])
          ∷ [];
      after = 1 ∷ 0x29 ∷ 0x3C ∷ 31326 ∷ [];
    }

abbrev pub highest_rate : Trace
highest_rate =
    record {
      before = 1 ∷ 0x29 ∷ 0x3C ∷ 31326 ∷ [];
      steps =
          (1 ∷ 0x0E ∷ 0x43 ∷ 0xFF ∷ 0xFE ∷ 0xB8 ∷ 0 ∷ 0 ∷ [], 0 ∷ 0x29 ∷ 0x44 ∷ 0xFF ∷ 0xFE ∷ 1 ∷ [])
          ∷ (2 ∷ 0 ∷ 0 ∷ 0 ∷ 0 ∷ 0 ∷ 0 ∷ 0 ∷ [], 1 ∷ 0 ∷ 0 ∷ 1 ∷ [])
          ∷ [];
      after = 1 ∷ 0x29 ∷ 0x3C ∷ 31326 ∷ [];
    }

abbrev pub quarter_rate : Trace
quarter_rate =
    record {
      before = 1 ∷ 0x29 ∷ 0x3C ∷ 31326 ∷ [];
      steps =
          (1 ∷ 0x0E ∷ 0x3E ∷ 0x80 ∷ 0 ∷ 0 ∷ 0 ∷ 0 ∷ [], 0 ∷ 0x29 ∷ 0x44 ∷ 0 ∷ 0x20 ∷ 1 ∷ [])
          ∷ (2 ∷ 0 ∷ 0 ∷ 0 ∷ 0 ∷ 0 ∷ 0 ∷ 0 ∷ [], 1 ∷ 0 ∷ 0 ∷ 1 ∷ [])
          ∷ [];
      after = 1 ∷ 0x29 ∷ 0x3C ∷ 31326 ∷ [];
    }

abbrev pub negative_zero_rate : Trace
negative_zero_rate =
    record {
      before = 1 ∷ 0x29 ∷ 0x3C ∷ 31326 ∷ [];
      steps =
          (1 ∷ 0x0E ∷ 0x80 ∷ 0 ∷ 0 ∷ 0 ∷ 0 ∷ 0 ∷ [], 0 ∷ 0x29 ∷ 0x44 ∷ 0 ∷ 0 ∷ 1 ∷ [])
          ∷ (2 ∷ 0 ∷ 0 ∷ 0 ∷ 0 ∷ 0 ∷ 0 ∷ 0 ∷ [], 1 ∷ 0 ∷ 0 ∷ 1 ∷ [])
          ∷ [];
      after = 1 ∷ 0x29 ∷ 0x3C ∷ 31326 ∷ [];
    }

abbrev pub get_budget : Trace
get_budget =
    record {
      before = 1 ∷ 0x29 ∷ 0x3C ∷ 31326 ∷ [];
      steps =
          (1 ∷ 0x0F ∷ 0 ∷ 0 ∷ 0 ∷ 0 ∷ 0 ∷ 0 ∷ [], 0 ∷ 0x29 ∷ 1 ∷ 1 ∷ [])
          ∷ (2 ∷ 0 ∷ 0xE8 ∷ 0 ∷ 0 ∷ 0 ∷ 0 ∷ 0 ∷ [], 0 ∷ 0x29 ∷ 0x51 ∷ 2 ∷ [])
          ∷ (2 ∷ 0 ∷ 0 ∷ 0x96 ∷ 0 ∷ 0 ∷ 0 ∷ 0 ∷ [], 0 ∷ 0x29 ∷ 0x71 ∷ 2 ∷ [])
          ∷ (2 ∷ 0 ∷ 1 ∷ 0xFE ∷ 0 ∷ 0 ∷ 0 ∷ 0 ∷ [], 0 ∷ 0x29 ∷ 0x50 ∷ 1 ∷ [])
          ∷ (2 ∷ 0 ∷ 6 ∷ 0 ∷ 0 ∷ 0 ∷ 0 ∷ 0 ∷ [], 0 ∷ 0x29 ∷ 0x46 ∷ 1 ∷ [])
          ∷ (2 ∷ 0 ∷ 0x25 ∷ 0 ∷ 0 ∷ 0 ∷ 0 ∷ 0 ∷ [], 0 ∷ 0x29 ∷ 0x70 ∷ 1 ∷ [])
          ∷ (2 ∷ 0 ∷ 4 ∷ 0 ∷ 0 ∷ 0 ∷ 0 ∷ 0 ∷ [], 1 ∷ 0 ∷ 31326 ∷ 6 ∷ [])
          ∷ [];
      after = 1 ∷ 0x29 ∷ 0x3C ∷ 31326 ∷ [];
    }

abbrev pub settings : List Trace
settings = set_budget ∷ set_thresholds ∷ get_thresholds ∷ new_sample_low ∷ new_sample_high ∷ level_low_low ∷ level_low_high ∷ level_high_low ∷ level_high_high ∷ out_of_window_low ∷ out_of_window_high ∷ clear_interrupt_status ∷ highest_rate ∷ quarter_rate ∷ negative_zero_rate ∷ get_budget ∷ []
