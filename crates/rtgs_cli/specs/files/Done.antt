-- What a run did with the desk over the file of its book.
use Rattle.rtgs_book.specs.declared.book.Book.{Book}
use Rattle.rtgs_desk.specs.Holding.{Holds}
use Rattle.rtgs_desk.specs.Seen.{Seen}
use Rattle.rtgs_book_file.specs.OverFile.{OverFile}

module _ {K U C : Type 0} (file : OverFile K U C) where
  -- A desk was opened over what the files held, and this is the desk as it was left. Where the disk gave back what was
  -- written to it, this is so of each book that the desk held.
  pub record IsDone (left : Seen K) (Does : Book → Type 0) : Type 0 where
    pub opened : Seen K
    pub over : file.keeper.is_honest left.keeper → file.facts.was_opened opened
    pub did : file.keeper.is_honest left.keeper → (book : Book) → Holds file.keeper opened book → Does book

  -- nothing was done with the desk that was opened over what the files held: it was left as it was opened
  pub record IsIdle (left : Seen K) : Type 0 where
    pub over : file.keeper.is_honest left.keeper → file.facts.was_opened left
