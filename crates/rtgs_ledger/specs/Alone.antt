-- Participants without records.
use Rattle.std.specs.Prelude.{false, List, [], None}
use Rattle.rtgs_book.specs.declared.book.Book.{Book}
use Rattle.rtgs_book.specs.declared.participant.Participant.{Participant}
use Rattle.rtgs_book.specs.declared.phase.Phase.TheVariants.{Closed}

-- the book of these participants before its first day, to whom nothing was posted
abbrev pub book_of_participants : List Participant → Book
book_of_participants participants = record {
  participants = participants;
  postings = [];
  orders = [];
  marks = [];
  day = record { date = None; phase = Closed; automatic = false };
}
