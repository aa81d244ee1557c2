use Rattle.std.proofs.Common.{take}
use Rattle.std.specs.List.{AllByRecursion}
use Rattle.rtgs_book.specs.declared.book.Book.{Book}
use Rattle.rtgs_book.specs.cores.Cores.{IsCoreOf}
use Rattle.rtgs_ledger.specs.Freeing.{GivesNothing}
use Rattle.rtgs_ledger.proofs.ledger.Ledger.rows_may_give.Given as goal

-- those so far give nothing
abbrev pub invariant-loop-row : goal.invariant-loop-row
invariant-loop-row l = (book : Book) → IsCoreOf book l.self.core
    → AllByRecursion (GivesNothing book) (take l.row-index l.rows)
