-- The participants by their index in code order, as the resolver of gridlocks names them.
use Rattle.std.specs.Prelude.{ℕ, List, [], map, slice_index_or, if◌then◌else◌}
use Rattle.std.specs.List.{position_or_len}
use Rattle.std.specs.Str.{bytes_eq}
use Rattle.rtgs_book.specs.declared.book.Book.{Book}
use Rattle.rtgs_book.specs.declared.order.Order.{Order}
use Rattle.rtgs_book.specs.Lookup.{codes_of, is_participant}
use Rattle.rtgs_book.specs.Balance.{balance, floor}
use Rattle.rtgs_book.specs.Queue.{queue}
use Rattle.rtgs_book.specs.Choice.{Choice}
use Rattle.rtgs_gridlock.specs.declared.positions.Position.{Position}
use Rattle.rtgs_gridlock.specs.declared.queues.Payment.{Payment}

-- the code of the participant with this index
abbrev pub code_at : Book → ℕ → List ℕ
code_at book i = slice_index_or (codes_of book) i []

-- the index of the participant with this code; for any other code, how many participants there are
unfoldable pub index_of : Book → List ℕ → ℕ
index_of book code = position_or_len (bytes_eq code) (codes_of book)

abbrev pub position_of : Book → List ℕ → Position
position_of book code = record { balance = balance book code; floor = floor book code }

-- each participant's balance and floor
unfoldable pub positions_of : Book → List Position
positions_of book = map (position_of book) (codes_of book)

abbrev pub payment_of : Book → Order → Payment
payment_of book order = record { receiver = index_of book order.receiver; amount = order.amount }

abbrev pub payments_of : Book → List ℕ → List Payment
payments_of book code = map (payment_of book) (queue book code)

-- each participant's queue
unfoldable pub queues_of : Book → List (List Payment)
queues_of book = map (payments_of book) (codes_of book)

-- of each participant's queue as many orders as the lengths say at its index
unfoldable pub by_code : Book → (ℕ → ℕ) → Choice
by_code book lengths code = if is_participant book code then lengths (index_of book code) else 0
