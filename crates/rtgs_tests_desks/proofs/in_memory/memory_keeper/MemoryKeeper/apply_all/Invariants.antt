use Rattle.std.proofs.Common.{drop}
use Rattle.rtgs_book.specs.Changes.{changed}
use Rattle.rtgs_book.specs.Soundness.{IsSound}
use Rattle.rtgs_tests_desks.specs.in_memory.Memory.{book_of, ListsHaveRoom}
use Rattle.rtgs_tests_desks.proofs.in_memory.Making.{Remains}
use Rattle.rtgs_tests_desks.proofs.in_memory.memory_keeper.MemoryKeeper.apply_all.Given as goal

abbrev pub invariant-loop-row : goal.invariant-loop-row
invariant-loop-row l = record {
  room : ListsHaveRoom l.self (drop l.row-index l.rows);
  remains : IsSound (book_of l.initial.self) → IsSound (changed (book_of l.initial.self) l.rows)
      → Remains (book_of l.self) (drop l.row-index l.rows) (changed (book_of l.initial.self) l.rows);
}
