use Rattle.std.proofs.Common.{◌≡◌, ◌++◌, map, drop}
use Rattle.rtgs_book.specs.declared.account.Account.{Account}
use Rattle.rtgs_records.specs.accounts.Accounts.{code_of}
use Rattle.rtgs_ledger.specs.Choosing.{payments_in}
use Rattle.rtgs_ledger.proofs.ledger.Ledger.payments.Given as goal

-- with the queues of the accounts that are left, those so far are all of them
abbrev pub invariant-loop-account : goal.invariant-loop-account
invariant-loop-account l = l.queues ++ map (λ (a : Account). payments_in l.self.core (code_of a))
    (drop l.account-index l.account-items) ≡ map (λ (a : Account). payments_in l.self.core (code_of a))
    l.account-items
