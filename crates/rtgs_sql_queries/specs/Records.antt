-- The records of tables at rest.
use Rattle.std.specs.Prelude.{◌≡◌, ℕ, List, map, IsPermutation, Result, Vec, IfOk}
use Rattle.std.specs.Global.{Global}
use Rattle.std.specs.List.{AllByRecursion}
use Rattle.std.specs.Ordering.{nat_cmp}
use Rattle.std.specs.declared.cmp.Ordering.TheVariants.{Less}
use Rattle.std.specs.Cmp.Lexicographic.{slice_cmp}
use Rattle.sqlite.specs.declared.error.Error.{Error}
use Rattle.sqlite.specs.Order.{Row}
use Rattle.sqlite.specs.Tree.{IsAscending}
use Rattle.sqlite.specs.State.{State}
use Rattle.rtgs_book.specs.declared.book.Book.{Book}
use Rattle.rtgs_book.specs.declared.account.Account.{Account}
use Rattle.rtgs_rows.specs.Content.{Content, IsInOrder, RestsIn, stored_account}
use Rattle.rtgs_rows.specs.Dues.{IsHeldByDue}
use Rattle.rtgs_rows.specs.Fitting.{HasFormedValues}
use Rattle.rtgs_rows.specs.Keeping.{SameLists}
use Rattle.rtgs_rows.specs.TableRecords.{TableRecords, HasNoMoreBeyond}
use Rattle.rtgs_sql_columns.specs.Numbers.{AreReadAs}

-- What is read of such tables, sound or not: the accounts in the order of their codes, all else as it stands. Each
-- value is in its form and range, and each held order has a due date.
pub record AreRead (content : Content) (accounts : List Account) (book : Book) : Type 0 where
  pub order : IsInOrder content
  pub stored : IsPermutation (map stored_account content.holdings) accounts
  pub rising : IsAscending (λ (a b : Account). slice_cmp nat_cmp a.participant.code b.participant.code ≡ Less) accounts
  pub participants : book.participants ≡ map (λ (a : Account). a.participant) accounts
  pub lists : SameLists book content
  pub fits : HasFormedValues book
  pub dues : AllByRecursion IsHeldByDue book.orders

-- the tables of this version, at rest, have these records, all of them
abbrev pub HasRecords : ℕ → List Account → Book → State → Type 0
HasRecords version accounts book s = (content : Content) × RestsIn version content s × AreRead content accounts book
    × HasNoMoreBeyond version accounts book

-- what the query of a whole table gives that has these records: their rows, which are read as them, each in its form
pub record GivesRecords {A : Type 0} (records : TableRecords A) (all : List A) (result : Result (Vec Row Global) Error)
    : Type 0 where
  pub rows : IfOk result (λ rows. rows.items ≡ map records.shown all)
  pub read : IfOk result (λ rows. AreReadAs records rows.items all)
  pub fit : AllByRecursion records.fits all
