-- Two sessions with a desk, and a crash between them.
use Rattle.std.specs.Prelude.{◌≡◌, List, [], ◌∷◌}
use Rattle.rtgs_book.specs.declared.book.Book.{Book}
use Rattle.rtgs_book.specs.declared.command.Command.{Command}
use Rattle.rtgs_book.specs.Books.{new_book}
use Rattle.rtgs_book.specs.Calm.{IsCalm}
use Rattle.rtgs_book.specs.Laws.{KeepsWhatIsFinal}
use Rattle.rtgs_book.specs.Outcome.{Reply}
use Rattle.rtgs_book.specs.Run.{Run}
use Rattle.rtgs_book.specs.Session.{Session, IsLife}
use Rattle.rtgs_book.specs.Soundness.{IsSound}
use Rattle.rtgs_laws.specs.repeats.Lives.{AreLived}

-- Commands with these replies, from the new book, and more with others, from the book that the stop between them left.
-- `found` is the book that the last opening found.
pub record AreTwoSessions (commands : List Command) (replies : List Reply) (more : List Command) (others : List Reply)
    (found : Book) : Type 0 where
  -- what the opening between them found
  pub middle : Book
  pub sessions : List Session
  pub are : sessions ≡ record { start = new_book; commands = commands; replies = replies; found = middle }
      ∷ record { start = middle; commands = more; replies = others; found = found } ∷ []
  pub life : IsLife new_book sessions found
  -- one list of commands leads to it: every answered command of both with its reply, and of each at most one more
  pub all : List Command
  pub heard : List Reply
  pub lived : AreLived sessions all heard
  pub run : Run new_book all heard found
  -- what was final stands, and the book is sound
  pub sound : IsSound found
  pub stands : KeepsWhatIsFinal new_book found
  -- and each book that was found is calm
  pub calm : IsCalm middle × IsCalm found
