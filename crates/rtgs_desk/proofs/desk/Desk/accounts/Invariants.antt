use Rattle.std.proofs.Common.{◌≡◌, take}
use Rattle.rtgs_book.specs.declared.book.Book.{Book}
use Rattle.rtgs_desk.specs.Holding.{HasInMemory}
use Rattle.rtgs_desk.specs.Readings.{readings_of}
use Rattle.rtgs_desk.proofs.desk.Desk.accounts.Given as goal

-- the first of what is answered
abbrev pub invariant-loop-index : goal.invariant-loop-index
invariant-loop-index g l = record {
  answered : (book : Book) → HasInMemory l.self book → l.readings.items ≡ take l.index (readings_of book);
}
