use Rattle.std.proofs.Common.{◌≡◌, take}
use Rattle.std.specs.List.{flat_map}
use Rattle.rtgs_book.specs.Queue.{queued_numbers}
use Rattle.rtgs_records.specs.accounts.Accounts.{code_of}
use Rattle.rtgs_ledger.proofs.ledger.Ledger.queued_numbers.Given as goal

-- the numbers in the queues of the accounts so far
abbrev pub invariant-loop-account : goal.invariant-loop-account
invariant-loop-account l = record {
  numbers : l.numbers.items ≡ flat_map (λ a. queued_numbers l.self-inside.records.orders.orders (code_of a))
      (take l.account-index l.account-items);
}
