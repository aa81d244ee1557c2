-- What is so of a keeper between its calls.
use Rattle.std.specs.Prelude.{◌≡◌}
use Rattle.rtgs_book.specs.declared.book.Book.{Book}

-- The first parameters say of each book that it is kept, and that a crash may leave it.
pub record StandsStill (Content Leaves : Book → Type 0) (HasTables IsWhole IsUnmoved : Type 0) : Type 0 where
  -- a stop now leaves the content, and no other book
  pub settled : (book other : Book) → Content book → Leaves other → other ≡ book
  pub stays : (book : Book) → Content book → Leaves book
  -- what holds a book has its tables
  pub tabled : (book : Book) → Content book → HasTables
  -- what holds a book leaves one
  pub whole : (book : Book) → Content book → IsWhole
  -- where nothing is done, a crash leaves what it could leave before
  pub unmoved : IsUnmoved
