-- The tables together, and the book that they hold.
use Rattle.std.proofs.Common.{◌≡◌, ℕ, List, IsPermutation, sym, subst, Ok, Err, Result, IfOk, OnOk}
use Rattle.std.proofs.lemmas.List.Sorted.{IsPermutation-sym}
use Rattle.sqlite.specs.Tree.{Trees}
use Rattle.sqlite_trees.proofs.ListLemmas.{all-permutation}
use Rattle.sqlite_catalog.specs.Listing.{IsSound}
use Rattle.rtgs_book.specs.declared.book.Book.{Book}
use Rattle.rtgs_book.specs.declared.fault.Fault.{Fault}
use Rattle.rtgs_book.specs.Soundness.{IsSound as IsSoundBook}
use Rattle.rtgs_rows.specs.Tables.{schema_in, IsVersion}
use Rattle.rtgs_rows.specs.Keeping.{AreBalances}
use Rattle.rtgs_rows.specs.Migrating.{TellIn}
use Rattle.rtgs_sql_loading.proofs.AboveZero.{above_zero}
use Rattle.rtgs_rows.specs.RowLaws.{ShownRecordsAreHeld}
use Rattle.rtgs_rows.specs.Querying.{as_shown, AreWholeIn, ShowsTable, ShowsBook}
use Rattle.rtgs_book.specs.declared.account.Account.{Account}
use Rattle.rtgs_sql_loading.specs.Accounts.{AreTheRecords, AreReadOf, IsShown}
use Rattle.rtgs_sql_columns.specs.Numbers.{IsNumberedBook}
use Rattle.rtgs_sql_loading.proofs.AllTables.{both, own_records}
use Rattle.rtgs_sql_loading.proofs.OwnRows.{IsOwn, read_unchanged}

-- where the numbers are above zero, the tables show the records' own rows
pub shows_of : (version : ℕ) (trees : Trees) (accounts : List Account) (book : Book)
    → AreReadOf version trees accounts book → IsNumberedBook book → ShowsBook version trees accounts book
shows_of version trees accounts book read numbered =
    let plain : AreTheRecords version (λ table _. ShowsTable table trees) accounts book =
    both (own_records read numbered) read
    (λ table counted seen_rows own same. subst (λ seen. IsPermutation seen seen_rows) (read_unchanged counted
    (as_shown table trees) (all-permutation (IsOwn counted) _ _ (IsPermutation-sym _ _ same) own)) same) in
    record { named = read.named; shows = plain.tells; no_more = read.no_more }

-- what was read, and judged to be sound with its balances stored, is what the tables show
pub shown_book : (version : ℕ) (trees : Trees) (accounts : List Account) (book : Book) (answer : Result Book Fault)
    → AreReadOf version trees accounts book → IfOk answer (λ it. it ≡ book) → IfOk answer IsSoundBook
    → OnOk answer (AreBalances book accounts)
    → IfOk answer (IsShown version trees)
shown_book version trees accounts book (Ok it) read is right agree =
    let sound_book = subst IsSoundBook is right in
    subst (IsShown version trees) (sym is) (
      accounts,
      shows_of version trees accounts book read (above_zero book sound_book),
      agree,
    )
shown_book version trees accounts book (Err fault) read is right agree = tt

module _ (law : ShownRecordsAreHeld) where
  -- what was read, and judged to be sound with its balances stored, is what the tables hold
  pub held_book : (version : ℕ) → IsVersion version → (trees : Trees) (accounts : List Account) (book : Book)
      (answer : Result Book Fault) → IsSound (schema_in version) trees → AreWholeIn version trees
      → AreReadOf version trees accounts book
      → IfOk answer (λ it. it ≡ book) → IfOk answer IsSoundBook → OnOk answer (AreBalances book accounts)
      → IfOk answer (λ it. TellIn version it trees)
  held_book version known trees accounts book (Ok it) sound whole read is right agree =
      let sound_book = subst IsSoundBook is right in
      subst (λ b. TellIn version b trees) (sym is)
      (law version known trees book accounts sound whole sound_book read.fits
      (shows_of version trees accounts book read (above_zero book sound_book)) agree)
  held_book version known trees accounts book (Err fault) sound whole read is right agree = tt
