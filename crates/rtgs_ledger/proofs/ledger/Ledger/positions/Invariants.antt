use Rattle.std.proofs.Common.{◌≡◌, ◌++◌, map, drop}
use Rattle.rtgs_ledger.specs.Choosing.{position_at}
use Rattle.rtgs_ledger.proofs.ledger.Ledger.positions.Given as goal

-- with the positions of the accounts that are left, those so far are all of them
abbrev pub invariant-loop-account : goal.invariant-loop-account
invariant-loop-account l = l.positions ++ map (position_at l.self-inside.records.day.phase)
    (drop l.account-index l.account-items) ≡ map (position_at l.self-inside.records.day.phase) l.account-items
