-- The rows that close a day.
use Rattle.std.specs.Prelude.{false, List, [], ◌∷◌, ◌++◌}
use Rattle.std.specs.List.{flat_map}
use Rattle.rtgs_book.specs.declared.book.Book.{Book}
use Rattle.rtgs_book.specs.declared.change.RowChange.{RowChange}
use Rattle.rtgs_book.specs.declared.change.RowChange.TheVariants.{SetDay}
use Rattle.rtgs_book.specs.declared.order_state.OrderState.TheVariants.{Rejected}
use Rattle.rtgs_book.specs.declared.phase.Phase.TheVariants.{Closed}
use Rattle.rtgs_book.specs.Books.{is_queued}
use Rattle.rtgs_book.specs.Commands.{with_day, with_state}
use Rattle.rtgs_book.specs.Lookup.{codes_of}
use Rattle.rtgs_book.specs.Queue.{queued_numbers}
use Rattle.rtgs_choices.specs.Settling.{state_rows}

-- the book with all that was queued rejected, and its day closed
abbrev pub closed_book : Book → Book
closed_book book = with_day (with_state book is_queued Rejected) (record book.day { phase = Closed; automatic = false })

-- what is queued is rejected, account by account; then the day is closed
abbrev pub closing_rows : Book → List RowChange
closing_rows book = state_rows Rejected (flat_map (queued_numbers book.orders) (codes_of book))
    ++ SetDay (record book.day { phase = Closed; automatic = false }) ∷ []
