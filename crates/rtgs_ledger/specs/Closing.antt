-- A day that can be closed.
use Rattle.std.specs.Prelude.{◌≡◌, ℕ, true}
use Rattle.rtgs_book.specs.declared.book.Book.{Book}
use Rattle.rtgs_book.specs.Books.{is_cut_off, is_empty}
use Rattle.rtgs_book.specs.Choice.{Choice, chosen, IsGreatest}
use Rattle.rtgs_book.specs.Commands.{is_on}

-- the day was cut off on this date, and the greatest choice has no order
pub record IsClosable (book : Book) (date : ℕ) : Type 0 where
  pub choice : Choice
  pub greatest : IsGreatest book choice
  pub none : is_empty (chosen book choice) ≡ true
  pub cut : is_cut_off book.day.phase ≡ true
  pub same : is_on book date ≡ true
