-- Books in which an automatic day has left nothing to settle.
use Rattle.std.specs.Prelude.{◌≡◌, true}
use Rattle.rtgs_book.specs.Books.{Book, is_automatic, is_empty}
use Rattle.rtgs_book.specs.Choice.{Choice, chosen, IsGreatest}

-- the day is not automatic, or the greatest choice has no order
abbrev pub IsCalm : Book → Type 0
IsCalm book = is_automatic book.day ≡ true → (choice : Choice) → IsGreatest book choice
    → is_empty (chosen book choice) ≡ true
