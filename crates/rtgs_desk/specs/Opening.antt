-- What opening a desk makes of what an honest keeper has.
use Rattle.std.specs.Prelude.{◌≡◌, ◌≢◌, ◌⊎◌}
use Rattle.rtgs_book.specs.Calm.{IsCalm}
use Rattle.rtgs_book.specs.Soundness.{IsSound}
use Rattle.rtgs_book.specs.declared.book.Book.{Book}
use Rattle.rtgs_book.specs.declared.fault.Fault.{Fault}
use Rattle.rtgs_book.specs.declared.fault.Fault.TheVariants.{OutOfMemory, StoreFault, Inconsistent}
use Rattle.rtgs_book.specs.declared.rule.Rule.{Rule}
use Rattle.rtgs_book.specs.declared.rule.Rule.TheVariants.{Calm}
use Rattle.rtgs_keeper.specs.declared.keeper.Keeper.{Ghosts}
use Rattle.rtgs_desk.specs.Holding.{Holds, HasInMemory}
use Rattle.rtgs_desk.specs.Seen.{Seen}

-- What opening leaves of a keeper. A crash leaves what it would have left before, in the store's own terms too, and so
-- the book that was kept, whole.
pub record LeavesKept {K : Type 0} (g : Ghosts K) (old new : K) : Type 0 where
  pub honest : g.is_honest old
  pub leaves : (found : Book) → g.leaves new found → g.leaves old found
  pub untouched : g.leaves_no_more old new
  pub after_a_crash : (book found : Book) → g.content old book → g.leaves new found → found ≡ book
  pub whole_after_a_crash : (book : Book) → g.content old book → g.is_whole new

-- the desk that was opened over a keeper
pub record IsOpenedOver {K : Type 0} (g : Ghosts K) (keeper : K) (desk : Seen K) : Type 0 where
  -- it holds the book that was kept, and one where the tables are a desk's
  pub held : (book : Book) → g.content keeper book → Holds g desk book
  pub kept : g.has_tables keeper → (book : Book) × Holds g desk book
  -- it has a book in memory that the store showed
  pub shown : (book : Book) × HasInMemory desk book × g.shows keeper book
  pub not_empty : g.is_empty keeper → ⊥
  pub left : LeavesKept g keeper desk.keeper

-- a sound book that the store showed is not calm
abbrev pub IsNotCalm : {K : Type 0} → Ghosts K → K → Fault → Type 0
IsNotCalm g keeper fault = (fault ≡ Inconsistent Calm)
    × ((book : Book) × IsSound book × g.shows keeper book × ¬ IsCalm book)

-- The keeper that is handed back beside a fault. A calm book that is kept is refused for lack of memory or a fault of
-- the store alone, and one that is not calm by its rule besides; what is kept stays the same.
pub record IsHandedBack {K : Type 0} (g : Ghosts K) (keeper : K) (fault : Fault) (back : K) : Type 0 where
  pub accepted : (book : Book) → g.content keeper book → IsCalm book → (fault ≡ OutOfMemory) ⊎ (fault ≡ StoreFault)
  pub restless : (book : Book) → g.content keeper book
      → (fault ≡ OutOfMemory) ⊎ ((fault ≡ StoreFault) ⊎ (fault ≡ Inconsistent Calm))
  pub explained : (fault ≡ OutOfMemory) ⊎ (g.explains keeper fault ⊎ IsNotCalm g keeper fault)
  pub no_rule : g.is_empty keeper → (rule : Rule) → fault ≢ Inconsistent rule
  pub kept : (book : Book) → g.content keeper book → fault ≢ StoreFault → g.content back book
  pub left : LeavesKept g keeper back
