-- What a look-up leaves of a desk.
use Rattle.std.specs.Prelude.{◌≡◌, ◌≢◌, ◌⊎◌, true, false, Option, Some, IfSome}
use Rattle.rtgs_book.specs.declared.book.Book.{Book}
use Rattle.rtgs_book.specs.declared.fault.Fault.{Fault}
use Rattle.rtgs_book.specs.declared.fault.Fault.TheVariants as fault
use Rattle.rtgs_book.specs.declared.refusal.Refusal.{Refusal}
use Rattle.rtgs_book.specs.declared.refusal.Refusal.TheVariants.{OutOfMemory, StoreFault, Failed}
use Rattle.rtgs_keeper.specs.declared.keeper.Keeper.{Ghosts}
use Rattle.rtgs_desk.specs.Holding.{Holds, IsLeft, KeepsAsBefore}
use Rattle.rtgs_desk.specs.Seen.{Seen}

-- what is answered where the keeper meets this fault in a look-up
abbrev pub refusal_of : Fault → Refusal
refusal_of fault.OutOfMemory = OutOfMemory
refusal_of other = StoreFault

-- What a look-up that ended with this refusal, or with none, leaves of a desk. It changes nothing in the book.
pub record LooksUp {K : Type 0} (g : Ghosts K) (old new : Seen K) (ended : Option Refusal) : Type 0 where
  pub core : new.core ≡ old.core
  pub honest : g.is_honest new.keeper → g.is_honest old.keeper
  -- unless the store failed, the desk holds its book as before
  pub kept : g.is_honest new.keeper → (book : Book) → Holds g old book → ended ≢ Some StoreFault → Holds g new book
  pub left : g.is_honest new.keeper → (book : Book) → Holds g old book → IsLeft g new book
  -- so it is with what the keeper keeps, whether the desk holds a book or not
  pub keeper : g.is_honest new.keeper → ended ≢ Some StoreFault → KeepsAsBefore g old.keeper new.keeper
  pub fault : ended ≡ Some StoreFault → (g.has_failed old.keeper ≡ false) × (g.has_failed new.keeper ≡ true)
  pub only_fault : ended ≢ Some StoreFault → g.has_failed new.keeper ≡ g.has_failed old.keeper
  pub failed : g.has_failed old.keeper ≡ true → (ended ≡ Some Failed) × (new ≡ old)
  -- lack of memory, or a fault of the store
  pub kinds : g.has_failed old.keeper ≡ false → IfSome ended (λ refusal. (refusal ≡ OutOfMemory) ⊎ (refusal ≡
      StoreFault))
