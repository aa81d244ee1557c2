-- Whose key a desk tells.
use Rattle.std.specs.Prelude.{◌≡◌, false, ℕ, List, Option}
use Rattle.rtgs_book.specs.declared.book.Book.{Book}
use Rattle.rtgs_keeper.specs.declared.Keeper.{Ghosts}
use Rattle.rtgs_desk.specs.Holding.{HasParticipants}
use Rattle.rtgs_desk.specs.Seen.{Seen}
use Rattle.rtgs_ledger.specs.Keys.{code_under}

-- unless the desk has failed, the participants that it has in memory are those of a book, who have these digests
abbrev pub KnowsOf : {K : Type 0} → Ghosts K → Seen K → (List ℕ → Option (List ℕ)) → Type 0
KnowsOf g desk code_of =
    g.has_failed desk.keeper ≡ false → (book : Book) × HasParticipants desk book × (code_of ≡ code_under book)
