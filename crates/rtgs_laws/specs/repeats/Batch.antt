-- A batch: orders alone, and all of one sender.
use Rattle.std.specs.Prelude.{◌≡◌, ◌≢◌, ℕ, true, List, Err}
use Rattle.std.specs.List.{AllByRecursion}
use Rattle.rtgs_book.specs.declared.book.Book.{Book}
use Rattle.rtgs_book.specs.Books.{is_automatic}
use Rattle.rtgs_book.specs.declared.refusal.Refusal.TheVariants.{QueueFull}
use Rattle.rtgs_book.specs.Outcome.{Reply}
use Rattle.rtgs_book.specs.declared.command.Command.{Command}
use Rattle.rtgs_book.specs.declared.command.Command.TheVariants.{Order}

-- the command is an order of this sender
abbrev pub IsOrderOf : List ℕ → Command → Type 0
IsOrderOf sender (Order other new_order) = other ≡ sender
IsOrderOf sender command = ⊥

-- Not refused because the sender's queue was full. On an automatic day a full queue may have room later in a batch.
abbrev pub IsNotFull : Reply → Type 0
IsNotFull reply = reply ≢ Err QueueFull

-- What lets a batch be sent again: on an automatic day, that no order of it was refused for a full queue. (On other
-- days orders of one sender make no room in its queue, and nothing is asked.)
abbrev pub MayComeAgain : Book → List Reply → Type 0
MayComeAgain book replies = is_automatic book.day ≡ true → AllByRecursion IsNotFull replies
