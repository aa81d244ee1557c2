-- The book that a keeper in memory has, and its room for more.
use Rattle.std.specs.Prelude.{◌≡◌, ◌+◌, ◌≤◌, Bool, true, false, List, [], ◌∷◌, count_by, ⊤}
use Rattle.std.specs.List.{AllByRecursion}
use Rattle.std.specs.Vec.{vec_len, vec_capacity}
use Rattle.rtgs_book.specs.declared.book.Book.{Book}
use Rattle.rtgs_book.specs.declared.change.RowChange.{RowChange}
use Rattle.rtgs_book.specs.declared.change.RowChange.TheVariants.{AddParticipant, AddPosting, AddOrder, AddMark}
use Rattle.rtgs_book.specs.declared.participant.Participant.{Participant}
use Rattle.rtgs_book.specs.Commands.{is_before}
use Rattle.rtgs_book.specs.Soundness.{IsSound}
use Rattle.rtgs_tests_desks.specs.declared.in_memory.memory_keeper.MemoryKeeper.{MemoryKeeper}

-- the records that the keeper has
abbrev pub book_of : MemoryKeeper → Book
book_of k = record {
  participants = k.participants.items;
  postings = k.postings.items;
  orders = k.orders.items;
  marks = k.marks.items;
  day = k.day;
}

-- the keeper has this book, and the book is sound
abbrev pub KeepsBook : MemoryKeeper → Book → Type 0
KeepsBook k book = (book_of k ≡ book) × IsSound book

-- no participant comes after one with a later code
abbrev pub AreInCodeOrder : List Participant → Type 0
AreInCodeOrder [] = ⊤
AreInCodeOrder (p ∷ ps) = AllByRecursion (λ (q : Participant). is_before q.code p.code ≡ false) ps × AreInCodeOrder ps

-- ---- room

abbrev pub adds_participant : RowChange → Bool
adds_participant (AddParticipant participant) = true
adds_participant row = false

abbrev pub adds_posting : RowChange → Bool
adds_posting (AddPosting posting) = true
adds_posting row = false

abbrev pub adds_order : RowChange → Bool
adds_order (AddOrder order) = true
adds_order row = false

abbrev pub adds_mark : RowChange → Bool
adds_mark (AddMark mark) = true
adds_mark row = false

-- each list has room for the rows that go into it
pub record ListsHaveRoom (k : MemoryKeeper) (rows : List RowChange) : Type 0 where
  pub participants : vec_len k.participants + count_by adds_participant rows ≤ vec_capacity k.participants
  pub postings : vec_len k.postings + count_by adds_posting rows ≤ vec_capacity k.postings
  pub orders : vec_len k.orders + count_by adds_order rows ≤ vec_capacity k.orders
  pub marks : vec_len k.marks + count_by adds_mark rows ≤ vec_capacity k.marks
