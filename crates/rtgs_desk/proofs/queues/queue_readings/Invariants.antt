use Rattle.std.proofs.Common.{◌≡◌, take}
use Rattle.std.specs.List.{flat_map}
use Rattle.rtgs_book.specs.declared.account.Account.{Account}
use Rattle.rtgs_book.specs.declared.book.Book.{Book}
use Rattle.rtgs_book.specs.Choice.{Choice, IsGreatest}
use Rattle.rtgs_book.specs.Queue.{queue}
use Rattle.rtgs_book.specs.cores.Cores.{IsCoreOf}
use Rattle.rtgs_book.specs.cores.Following.{code_of}
use Rattle.rtgs_desk.specs.Queues.{queue_if_any}
use Rattle.rtgs_desk.proofs.queues.queue_readings.Given as goal

-- those of the first accounts
abbrev pub invariant-loop-index : goal.invariant-loop-index
invariant-loop-index l = record {
  first : (book : Book) (choice : Choice) → IsCoreOf book l.ledger.core → IsGreatest book choice
      → l.readings.items ≡ flat_map (λ (a : Account). queue_if_any book choice (code_of a) (queue book (code_of a)))
      (take l.index l.account-items);
}
