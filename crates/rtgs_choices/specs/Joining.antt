-- The rows of two changes as those of one, with the balances last.
use Rattle.std.specs.Prelude.{Bool, true, false, not, List, ◌++◌, map, filter}
use Rattle.std.specs.Ordering.{int_eq}
use Rattle.rtgs_book.specs.declared.book.Book.{Book}
use Rattle.rtgs_book.specs.declared.change.RowChange.{RowChange}
use Rattle.rtgs_book.specs.declared.change.RowChange.TheVariants.{SetBalance}
use Rattle.rtgs_book.specs.Balance.{balance}
use Rattle.rtgs_book.specs.Lookup.{codes_of}

abbrev pub sets_balance : RowChange → Bool
sets_balance (SetBalance code cents) = true
sets_balance row = false

abbrev pub without_balances : List RowChange → List RowChange
without_balances rows = filter (λ row. not (sets_balance row)) rows

-- the balances that are others in the new book, in code order
abbrev pub balances_between : Book → Book → List RowChange
balances_between old new = map (λ code. SetBalance code (balance new code))
    (filter (λ code. not (int_eq (balance old code) (balance new code))) (codes_of old))

-- first what the one changes, then what the other does; each balance once
abbrev pub joined_rows : Book → List RowChange → List RowChange → Book → List RowChange
joined_rows old one next new = without_balances one ++ (without_balances next ++ balances_between old new)
