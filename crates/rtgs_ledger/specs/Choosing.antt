-- What the resolver is given of a core, and the orders that lengths of queue beginnings take.
use Rattle.std.specs.Prelude.{ℕ, ◌+◌, List, [], ◌∷◌, ◌++◌, map, take}
use Rattle.std.specs.List.{position_or_len}
use Rattle.std.specs.Str.{bytes_eq}
use Rattle.rtgs_book.specs.declared.account.Account.{Account}
use Rattle.rtgs_book.specs.declared.order.Order.{Order}
use Rattle.rtgs_book.specs.declared.phase.Phase.{Phase}
use Rattle.rtgs_book.specs.Balance.{floor_at}
use Rattle.rtgs_book.specs.Queue.{queued_among}
use Rattle.rtgs_book.specs.declared.cores.cores.Core.{Core}
use Rattle.rtgs_gridlock.specs.declared.positions.Position.{Position}
use Rattle.rtgs_gridlock.specs.declared.queues.Payment.{Payment}
use Rattle.rtgs_records.specs.accounts.Accounts.{code_of}

-- the balance of an account, and the least that it may be
abbrev pub position_at : Phase → Account → Position
position_at phase a = record { balance = a.balance; floor = floor_at phase a.participant.credit }

abbrev pub positions_in : Core → List Position
positions_in core = map (position_at core.day.phase) core.accounts

-- the order as a payment to the index of its receiver's account
abbrev pub payment_in : Core → Order → Payment
payment_in core o = record {
  receiver = position_or_len (bytes_eq o.receiver) (map code_of core.accounts);
  amount = o.amount;
}

abbrev pub payments_in : Core → List ℕ → List Payment
payments_in core sender = map (payment_in core) (queued_among core.waiting sender)

abbrev pub queues_in : Core → List (List Payment)
queues_in core = map (λ a. payments_in core (code_of a)) core.accounts

-- account by account as many of its queued orders as the length at its index says, the oldest first
abbrev pub taken_from : (ℕ → ℕ) → List Order → ℕ → List Account → List Order
taken_from lengths queued i [] = []
taken_from lengths queued i (a ∷ accounts) = take (lengths i) (queued_among queued (code_of a))
    ++ taken_from lengths queued (i + 1) accounts
