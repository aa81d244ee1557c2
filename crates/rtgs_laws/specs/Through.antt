-- Relations of an old book and a new one that go through the books in between.
use Rattle.rtgs_book.specs.declared.book.Book.{Book}

-- A book stands in the relation to itself. Where an old book stands in it to a book in between, and that to a new book,
-- the old one stands in it to the new one.
pub record GoesThrough (Relation : Book → Book → Type 0) : Type 0 where
  pub itself : (book : Book) → Relation book book
  pub through : (old mid new : Book) → Relation old mid → Relation mid new → Relation old new
