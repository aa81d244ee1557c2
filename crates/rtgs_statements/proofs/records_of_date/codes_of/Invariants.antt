use Rattle.std.proofs.Common.{◌≡◌, ◌≤◌, length, take}
use Rattle.rtgs_book.specs.declared.book.Book.{Book}
use Rattle.rtgs_book.specs.Lookup.{codes_of}
use Rattle.rtgs_statements.proofs.records_of_date.codes_of.Given as goal

-- the first codes
abbrev pub invariant-loop-index : goal.invariant-loop-index
invariant-loop-index g l = record {
  taken : (book : Book) → g.S.Source.holds l.source book
      → (l.codes.items ≡ take l.index (codes_of book)) × (l.index ≤ length (codes_of book));
}
