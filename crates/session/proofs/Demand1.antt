-- Demand 1, of every session and record.
use Rattle.session.specs.declared.Rules.{Rules}
use Rattle.session.specs.Machine.{Session}
use Rattle.session.specs.Records.{Record}
use Rattle.session.specs.Claim1.{Demand1}
use Rattle.session.proofs.Single.{single}
use Rattle.session.proofs.Refused.{refused_by_table}

pub demand_1 : (rules : Rules) (s : Session) (r : Record) → Demand1 rules s r
demand_1 rules s r = record { single = single rules s r; refused = refused_by_table rules s r }
