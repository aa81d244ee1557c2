-- What the queries of the tables show of a database, and why they show nothing, whatever its schema is.
use Rattle.std.proofs.Common.{◌≡◌, ◌⊎◌, inl, inr, ℕ, List, Ok, ◌≢◌, Err, Result, IfOk, IfErr, OnOk, sym, subst, ◌∙◌}
use Rattle.std.specs.Result.{IsErrAnd}
use Rattle.std.specs.List.{AllByRecursion}
use Rattle.sqlite.specs.Order.{Row}
use Rattle.sqlite.specs.Effect.{Database}
use Rattle.sqlite.specs.declared.error.Error.{Error}
use Rattle.sqlite.specs.State.{State, HasCleanDisk, Survives}
use Rattle.rtgs_sql_queries.specs.Answering.{KeepsTables}
use Rattle.rtgs_sql_loading.specs.Loading.{ReadsOn}
use Rattle.rtgs_book.specs.declared.book.Book.{Book}
use Rattle.rtgs_book.specs.declared.rule.Rule.{Rule}
use Rattle.rtgs_book.specs.declared.account.Account.{Account}
use Rattle.rtgs_book.specs.declared.fault.Fault.{Fault}
use Rattle.rtgs_book.specs.declared.fault.Fault.TheVariants.{OutOfMemory, StoreFault, NotADeskFile, Inconsistent}
use Rattle.rtgs_book.specs.Soundness.{IsSound}
use Rattle.rtgs_sql_columns.specs.Tables.{query_text}
use Rattle.rtgs_sql_queries.specs.Faults.{IsOfStore}
use Rattle.rtgs_sql_queries.specs.Displaying.{Displays, HasNoAnswer}
use Rattle.rtgs_rows.specs.Keeping.{AreBalances}
use Rattle.rtgs_sql_loading.specs.Accounts.{ExplainsRead}
use Rattle.rtgs_sql_loading.specs.Displaying.{IsUnread, IsIllegible, ExplainsDatabase, AreDisplayed, IsDisplayed}
use Rattle.rtgs_sql_loading.proofs.AboveZero.{above_zero}
use Rattle.rtgs_sql_loading.proofs.OwnRows.{IsOwn, read_unchanged}
use Rattle.rtgs_sql_loading.proofs.AllTables.{both, own_records}

-- ---- what a query shows

-- an answer of a query, which writes nothing
pub reads_on : {A : Type 0} (old new : State) (r : Result A Fault) → (HasCleanDisk new → HasCleanDisk old)
    → (HasCleanDisk new → KeepsTables old new) → (HasCleanDisk new → new.now ≡ old.now) → Survives old new (λ _. ⊥)
    → OnOk r (ReadsOn old new)
reads_on old new (Ok it) clean keeps same survives =
    record { clean = clean; keeps = keeps; same = same; survives = survives }
reads_on old new (Err e) clean keeps same survives = tt

-- The query has no answer, or a malformed one.
pub without_answer : {A : Type 0} (db : Database) (text : List ℕ) (AreFormed : List Row → Type 0) (fault : Fault)
    (error : Error) → (fault ≡ NotADeskFile → ¬ IsOfStore error) → IsOfStore error ⊎ HasNoAnswer db text
    → ◌≡◌ {A = Result A Fault} (Err fault) (Err NotADeskFile) → IsUnread db text AreFormed
without_answer db text AreFormed fault error wrong (inl store) e =
    let is : fault ≡ NotADeskFile = cc in
    absurd (wrong is store)
without_answer db text AreFormed fault error wrong (inr none) e = inl none

pub without_form : (db : Database) (text : List ℕ) (AreFormed : List Row → Type 0) (rows seen : List Row)
    → seen ≡ rows → Displays db text rows → ¬ AreFormed seen → IsUnread db text AreFormed
without_form db text AreFormed rows seen same shows not = inr (seen, subst (Displays db text) (sym same) shows, not)

-- ---- what was read

-- what was read, and judged to be sound with its balances stored, is what the database shows
pub displayed_book : (version : ℕ) (db : Database) (accounts : List Account) (book : Book) (answer : Result Book Fault)
    → AreDisplayed version db accounts book → IfOk answer (λ it. it ≡ book) → IfOk answer IsSound
    → OnOk answer (AreBalances book accounts) → IfOk answer (IsDisplayed version db)
displayed_book version db accounts book (Ok it) read is sound agree =
    let low = above_zero book (subst IsSound is sound) in
    subst (IsDisplayed version db) (sym is) (
      accounts,
      agree,
      both (own_records read low) read (λ table counted seen_rows own shows.
          let plain = read_unchanged counted shows.0 (subst (AllByRecursion (IsOwn counted)) (sym shows.2) own) in
          subst (Displays db (query_text table)) (sym plain ∙ shows.2) shows.1),
    )
displayed_book version db accounts book (Err fault) read is sound agree = tt

-- what was read was judged
pub explains_book : (version : ℕ) (db : Database) (accounts : List Account) (book : Book) (answer : Result Book Fault)
    → AreDisplayed version db accounts book → IfErr answer (ExplainsRead accounts book)
    → IfErr answer (ExplainsDatabase version db)
explains_book version db accounts book (Ok it) read why = tt
explains_book version db accounts book (Err OutOfMemory) read why = tt
explains_book version db accounts book (Err StoreFault) read why = tt
explains_book version db accounts book (Err NotADeskFile) read why = absurd why
explains_book version db accounts book (Err (Inconsistent rule)) read why = (accounts, book, read, why)

-- nothing was read
pub explains_none : {A : Type 0} (version : ℕ) (db : Database) (read : Result A Fault) (fault : Fault)
    (answer : Result Book Fault)
    → (read ≡ Err NotADeskFile → IsIllegible version db) → ((rule : Rule) → read ≢ Err (Inconsistent rule))
    → read ≡ Err fault → IsErrAnd answer (λ passed. passed ≡ fault) → IfErr answer (ExplainsDatabase version db)
explains_none version db read fault (Ok it) wrong rules was passed = tt
explains_none version db read OutOfMemory (Err it) wrong rules was passed =
    subst (ExplainsDatabase version db) (sym passed) tt
explains_none version db read StoreFault (Err it) wrong rules was passed =
    subst (ExplainsDatabase version db) (sym passed) tt
explains_none version db read NotADeskFile (Err it) wrong rules was passed =
    subst (ExplainsDatabase version db) (sym passed) (wrong was)
explains_none version db read (Inconsistent rule) (Err it) wrong rules was passed = absurd (rules rule was)
