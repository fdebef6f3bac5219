-- Written by oracle/traces from the Rust. Calls that lib.rs does not have, as later.rs makes them.
use Rattle.std.specs.Prelude.{List, [], ◌∷◌}
use Rattle.traces.specs.Trace.{Trace}

abbrev pub get_rate_0000 : Trace
get_rate_0000 =
    record {
      before = 1 ∷ 0x29 ∷ 0x3C ∷ 31326 ∷ [];
      steps =
          (1 ∷ 0x10 ∷ 0 ∷ 0 ∷ 0 ∷ 0 ∷ 0 ∷ 0 ∷ [], 0 ∷ 0x29 ∷ 0x44 ∷ 2 ∷ [])
          ∷ (2 ∷ 0 ∷ 0 ∷ 0 ∷ 0 ∷ 0 ∷ 0 ∷ 0 ∷ [], 1 ∷ 0 ∷ 0 ∷ 1 ∷ [])
          ∷ [];
      after = 1 ∷ 0x29 ∷ 0x3C ∷ 31326 ∷ [];
    }

abbrev pub get_rate_0001 : Trace
get_rate_0001 =
    record {
      before = 1 ∷ 0x29 ∷ 0x3C ∷ 31326 ∷ [];
      steps =
          (1 ∷ 0x10 ∷ 0 ∷ 0 ∷ 0 ∷ 0 ∷ 0 ∷ 0 ∷ [], 0 ∷ 0x29 ∷ 0x44 ∷ 2 ∷ [])
          ∷ (2 ∷ 0 ∷ 0 ∷ 1 ∷ 0 ∷ 0 ∷ 0 ∷ 0 ∷ [], 1 ∷ 0 ∷ 1006632960 ∷ 1 ∷ [])
          ∷ [];
      after = 1 ∷ 0x29 ∷ 0x3C ∷ 31326 ∷ [];
    }

abbrev pub get_rate_0020 : Trace
get_rate_0020 =
    record {
      before = 1 ∷ 0x29 ∷ 0x3C ∷ 31326 ∷ [];
      steps =
          (1 ∷ 0x10 ∷ 0 ∷ 0 ∷ 0 ∷ 0 ∷ 0 ∷ 0 ∷ [], 0 ∷ 0x29 ∷ 0x44 ∷ 2 ∷ [])
          ∷ (2 ∷ 0 ∷ 0 ∷ 0x20 ∷ 0 ∷ 0 ∷ 0 ∷ 0 ∷ [], 1 ∷ 0 ∷ 1048576000 ∷ 1 ∷ [])
          ∷ [];
      after = 1 ∷ 0x29 ∷ 0x3C ∷ 31326 ∷ [];
    }

abbrev pub get_rate_0080 : Trace
get_rate_0080 =
    record {
      before = 1 ∷ 0x29 ∷ 0x3C ∷ 31326 ∷ [];
      steps =
          (1 ∷ 0x10 ∷ 0 ∷ 0 ∷ 0 ∷ 0 ∷ 0 ∷ 0 ∷ [], 0 ∷ 0x29 ∷ 0x44 ∷ 2 ∷ [])
          ∷ (2 ∷ 0 ∷ 0 ∷ 0x80 ∷ 0 ∷ 0 ∷ 0 ∷ 0 ∷ [], 1 ∷ 0 ∷ 1065353216 ∷ 1 ∷ [])
          ∷ [];
      after = 1 ∷ 0x29 ∷ 0x3C ∷ 31326 ∷ [];
    }

abbrev pub get_rate_1234 : Trace
get_rate_1234 =
    record {
      before = 1 ∷ 0x29 ∷ 0x3C ∷ 31326 ∷ [];
      steps =
          (1 ∷ 0x10 ∷ 0 ∷ 0 ∷ 0 ∷ 0 ∷ 0 ∷ 0 ∷ [], 0 ∷ 0x29 ∷ 0x44 ∷ 2 ∷ [])
          ∷ (2 ∷ 0 ∷ 0x12 ∷ 0x34 ∷ 0 ∷ 0 ∷ 0 ∷ 0 ∷ [], 1 ∷ 0 ∷ 1108451328 ∷ 1 ∷ [])
          ∷ [];
      after = 1 ∷ 0x29 ∷ 0x3C ∷ 31326 ∷ [];
    }

abbrev pub get_rate_fffe : Trace
get_rate_fffe =
    record {
      before = 1 ∷ 0x29 ∷ 0x3C ∷ 31326 ∷ [];
      steps =
          (1 ∷ 0x10 ∷ 0 ∷ 0 ∷ 0 ∷ 0 ∷ 0 ∷ 0 ∷ [], 0 ∷ 0x29 ∷ 0x44 ∷ 2 ∷ [])
          ∷ (2 ∷ 0 ∷ 0xFF ∷ 0xFE ∷ 0 ∷ 0 ∷ 0 ∷ 0 ∷ [], 1 ∷ 0 ∷ 1140850176 ∷ 1 ∷ [])
          ∷ [];
      after = 1 ∷ 0x29 ∷ 0x3C ∷ 31326 ∷ [];
    }

abbrev pub get_rate_ffff : Trace
get_rate_ffff =
    record {
      before = 1 ∷ 0x29 ∷ 0x3C ∷ 31326 ∷ [];
      steps =
          (1 ∷ 0x10 ∷ 0 ∷ 0 ∷ 0 ∷ 0 ∷ 0 ∷ 0 ∷ [], 0 ∷ 0x29 ∷ 0x44 ∷ 2 ∷ [])
          ∷ (2 ∷ 0 ∷ 0xFF ∷ 0xFF ∷ 0 ∷ 0 ∷ 0 ∷ 0 ∷ [], 1 ∷ 0 ∷ 1140850432 ∷ 1 ∷ [])
          ∷ [];
      after = 1 ∷ 0x29 ∷ 0x3C ∷ 31326 ∷ [];
    }

abbrev pub get_rate_fails : Trace
get_rate_fails =
    record {
      before = 1 ∷ 0x29 ∷ 0x3C ∷ 31326 ∷ [];
      steps =
          (1 ∷ 0x10 ∷ 0 ∷ 0 ∷ 0 ∷ 0 ∷ 0 ∷ 0 ∷ [], 0 ∷ 0x29 ∷ 0x44 ∷ 2 ∷ [])
          ∷ (2 ∷ 0x0D ∷ 0 ∷ 0 ∷ 0 ∷ 0 ∷ 0 ∷ 0 ∷ [], 1 ∷ 3 ∷ 13 ∷ 1 ∷ [])
          ∷ [];
      after = 1 ∷ 0x29 ∷ 0x3C ∷ 31326 ∷ [];
    }

abbrev pub rate_read_and_set : Trace
rate_read_and_set =
    record {
      before = 1 ∷ 0x29 ∷ 0x3C ∷ 31326 ∷ [];
      steps =
          (1 ∷ 0x10 ∷ 0 ∷ 0 ∷ 0 ∷ 0 ∷ 0 ∷ 0 ∷ [], 0 ∷ 0x29 ∷ 0x44 ∷ 2 ∷ [])
          ∷ (2 ∷ 0 ∷ 2 ∷ 3 ∷ 0 ∷ 0 ∷ 0 ∷ 0 ∷ [], 1 ∷ 0 ∷ 1082179584 ∷ 1 ∷ [])
          ∷ (1 ∷ 0x0E ∷ 0x40 ∷ 0x80 ∷ 0xC0 ∷ 0 ∷ 0 ∷ 0 ∷ [], 0 ∷ 0x29 ∷ 0x44 ∷ 2 ∷ 3 ∷ 1 ∷ [])
          ∷ (2 ∷ 0 ∷ 0 ∷ 0 ∷ 0 ∷ 0 ∷ 0 ∷ 0 ∷ [], 1 ∷ 0 ∷ 0 ∷ 1 ∷ [])
          ∷ [];
      after = 1 ∷ 0x29 ∷ 0x3C ∷ 31326 ∷ [];
    }

abbrev pub rate_read_and_not_set : Trace
rate_read_and_not_set =
    record {
      before = 1 ∷ 0x29 ∷ 0x3C ∷ 31326 ∷ [];
      steps =
          (1 ∷ 0x10 ∷ 0 ∷ 0 ∷ 0 ∷ 0 ∷ 0 ∷ 0 ∷ [], 0 ∷ 0x29 ∷ 0x44 ∷ 2 ∷ [])
          ∷ (2 ∷ 0 ∷ 0xFF ∷ 0xFF ∷ 0 ∷ 0 ∷ 0 ∷ 0 ∷ [], 1 ∷ 0 ∷ 1140850432 ∷ 1 ∷ [])
          ∷ (1 ∷ 0x0E ∷ 0x43 ∷ 0xFF ∷ 0xFF ∷ 0 ∷ 0 ∷ 0 ∷ [], 1 ∷ 1 ∷ 0 ∷ 0 ∷ [])
          ∷ [];
      after = 1 ∷ 0x29 ∷ 0x3C ∷ 31326 ∷ [];
    }

abbrev pub later_calls : List Trace
later_calls = get_rate_0000 ∷ get_rate_0001 ∷ get_rate_0020 ∷ get_rate_0080 ∷ get_rate_1234 ∷ get_rate_fffe ∷ get_rate_ffff ∷ get_rate_fails ∷ rate_read_and_set ∷ rate_read_and_not_set ∷ []
