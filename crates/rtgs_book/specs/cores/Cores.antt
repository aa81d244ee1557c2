-- What the desk needs of a book in memory, and what it looks up in the rest.
use Rattle.std.specs.Prelude.{◌≡◌, ◌+◌, map, filter, length, None}
use Rattle.rtgs_book.specs.declared.account.Account.{Account}
use Rattle.rtgs_book.specs.declared.book.Book.{Book}
use Rattle.rtgs_book.specs.declared.participant.Participant.{Participant}
use Rattle.rtgs_book.specs.declared.command.Command.{Command}
use Rattle.rtgs_book.specs.declared.command.Command.TheVariants.{Order, Withdraw, Post}
use Rattle.rtgs_book.specs.Balance.{balance}
use Rattle.rtgs_book.specs.Books.{is_waiting}
use Rattle.rtgs_book.specs.Lookup.{order_named, posting_named}
use Rattle.rtgs_book.specs.Ranges.{Fits}
use Rattle.rtgs_book.specs.Soundness.{IsSound}
use Rattle.rtgs_book.specs.declared.cores.cores.Core.{Core}
use Rattle.rtgs_book.specs.declared.cores.found.Found.{Found}

-- the participant with its balance
abbrev pub account_of : Book → Participant → Account
account_of book p = record { participant = p; balance = balance book p.code }

-- each participant with its balance, the orders that are queued or held, the day, and the number that the next record
-- of each kind gets
unfoldable pub core_of : Book → Core
core_of book = record {
  accounts = map (account_of book) book.participants;
  waiting = filter is_waiting book.orders;
  day = book.day;
  next_posting = length book.postings + 1;
  next_order = length book.orders + 1;
  next_mark = length book.marks + 1;
}

-- the core is that of this book, which is sound, with amounts in their ranges
pub record IsCoreOf (book : Book) (core : Core) : Type 0 where
  pub sound : IsSound book
  pub fits : Fits book
  pub is : core ≡ core_of book

-- What a command asks for: of an order and of a withdrawal the order of that sender and reference, of a posting that of
-- the reference. For other commands nothing is looked up.
unfoldable pub found_for : Book → Command → Found
found_for book (Order sender new_order) = record { order = order_named book sender new_order.reference; posting = None }
found_for book (Withdraw sender reference) = record { order = order_named book sender reference; posting = None }
found_for book (Post code reference cents) = record { order = None; posting = posting_named book reference }
found_for book command = record { order = None; posting = None }
