-- What calls leave of a keeper. The first parameters are the members of its trait.
use Rattle.std.specs.Prelude.{◌≡◌, ◌≢◌, Bool, true, Result, Err}
use Rattle.rtgs_book.specs.declared.book.Book.{Book}
use Rattle.rtgs_book.specs.declared.fault.Fault.{Fault}
use Rattle.rtgs_book.specs.declared.fault.Fault.TheVariants.{StoreFault}
use Rattle.rtgs_keeper.specs.declared.commit_fault.CommitFault.{CommitFault}
use Rattle.rtgs_keeper.specs.declared.commit_fault.CommitFault.TheVariants.{Store, Failed}

-- what a call that only reads leaves, and when it tells that the store failed
pub record OnlyReads {K X : Type 0} (content leaves : K → Book → Type 0) (is_honest is_whole : K → Type 0)
    (leaves_no_more : K → K → Type 0) (has_failed : K → Bool) (old new : K) (result : Result X Fault) : Type 0 where
  pub honest : is_honest new → is_honest old
  -- unless the store failed, the book is kept as before
  pub same : is_honest new → (book : Book) → content old book → result ≢ Err StoreFault → content new book
  -- a crash leaves no book that it could not leave before, in the store's own terms nothing else either, and a whole
  -- one where it did
  pub stops : is_honest new → (other : Book) → leaves new other → leaves old other
  pub untouched : is_honest new → leaves_no_more old new
  pub whole : is_honest new → is_whole old → is_whole new
  pub fault : result ≡ Err StoreFault → has_failed new ≡ true
  pub only_fault : result ≢ Err StoreFault → has_failed new ≡ has_failed old
  -- where the store has failed before, nothing is done
  pub failed : has_failed old ≡ true → (result ≡ Err StoreFault) × (new ≡ old)

-- when a commit tells that the store failed, and when that it had failed before, and did nothing
pub record TellsCommitFaults {K X : Type 0} (has_failed : K → Bool) (old new : K) (result : Result X CommitFault)
    : Type 0 where
  pub fault : result ≡ Err Store → has_failed new ≡ true
  pub only_fault : result ≢ Err Store → has_failed new ≡ has_failed old
  pub failed : has_failed old ≡ true → (result ≡ Err Failed) × (new ≡ old)
  pub only_failed : result ≡ Err Failed → has_failed old ≡ true
