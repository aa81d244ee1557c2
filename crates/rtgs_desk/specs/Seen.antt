-- A desk, as contracts see it.
use Rattle.rtgs_book.specs.declared.cores.cores.Core.{Core}

-- its keeper, and what it has of a book in memory
pub record Seen (K : Type 0) : Type 0 where
  pub keeper : K
  pub core : Core
