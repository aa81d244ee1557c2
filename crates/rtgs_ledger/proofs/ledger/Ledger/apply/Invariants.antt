use Rattle.std.proofs.Common.{◌≡◌, drop}
use Rattle.rtgs_records.specs.Records.{core_in, held_of}
use Rattle.rtgs_records.specs.Held.{HasRoom}
use Rattle.rtgs_ledger.specs.Limits.{AreLimitsOf}
use Rattle.rtgs_ledger.proofs.RecordLemmas.{after}
use Rattle.rtgs_ledger.proofs.ledger.Ledger.apply.Given as goal

-- the rows that are left find their room, and lead where all of them lead; the limits are those of the records so far
abbrev pub invariant-loop-row : goal.invariant-loop-row
invariant-loop-row l = record {
  room : HasRoom (held_of l.self-inside.records) (drop l.row-index l.row-items);
  rest : after (held_of l.self-inside.records) (drop l.row-index l.row-items) ≡ after l.fn.self l.row-items;
  limits : AreLimitsOf (core_in l.self-inside.records) l.self-inside.limits;
}
