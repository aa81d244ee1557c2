-- The texts of readings, as they are printed. `g` has the members of the keeper's trait.
use Rattle.std.specs.Prelude.{◌≡◌, ◌≢◌, ◌⊎◌, ◌++◌, ◌∷◌, [], ℕ, List, Result, Ok, Err, None}
use Rattle.serde_json.specs.Data.{Data}
use Rattle.serde_json.specs.Written.{compact_text}
use Rattle.rtgs_book.specs.declared.book.Book.{Book}
use Rattle.rtgs_book.specs.declared.reading.Reading.{Reading}
use Rattle.rtgs_book.specs.declared.reading.Reading.TheVariants as reading
use Rattle.rtgs_book.specs.declared.refusal.Refusal.{Refusal}
use Rattle.rtgs_book.specs.declared.refusal.Refusal.TheVariants.{OutOfMemory}
use Rattle.rtgs_book.specs.Choice.{Choice}
use Rattle.rtgs_book.specs.Lookup.{participant_of}
use Rattle.rtgs_keeper.specs.declared.keeper.Keeper.{Ghosts}
use Rattle.rtgs_desk.specs.Queues.{queues_answer}
use Rattle.rtgs_desk.specs.Readings.{account_answer, accounts_answer, held_answer, order_answer, queue_answer}
use Rattle.rtgs_desk.specs.Readings.{status_answer, waiting_answer}
use Rattle.rtgs_desk.specs.Seen.{Seen}
use Rattle.rtgs_http_bodies.specs.Readings.{order_data, queue_data}
use Rattle.rtgs_http_bodies.specs.desks.Accounts.{account_data, accounts_data}
use Rattle.rtgs_http_bodies.specs.desks.Queues.{queues_data}
use Rattle.rtgs_http_bodies.specs.desks.Status.{status_data}
use Rattle.rtgs_http_bodies.specs.desks.Waiting.{held_list_data, waiting_data}
use Rattle.rtgs_http_bodies.specs.desks.Written.{IsLost, statement_wanted, report_wanted, orders_wanted, marks_wanted}

-- what is answered, as JSON without spaces, and a line feed
abbrev pub json_line : {X : Type 0} → (X → Data) → Result X Refusal → Result (List ℕ) Refusal
json_line value_of (Ok x) = Ok (compact_text (value_of x) ++ 10 ∷ [])
json_line value_of (Err refusal) = Err refusal

-- the text of a reading of a book of which this is the greatest choice, or what refuses it
abbrev pub text_wanted : Book → Choice → Reading → Result (List ℕ) Refusal
text_wanted book choice (reading.Order sender reference) = json_line order_data (order_answer book sender reference)
text_wanted book choice (reading.Account code) = json_line account_data (account_answer book code)
text_wanted book choice reading.Accounts = json_line (accounts_data book.day) (accounts_answer book)
text_wanted book choice (reading.Queue code) = json_line queue_data (queue_answer book code)
text_wanted book choice (reading.Held code) = json_line held_list_data (held_answer book code)
text_wanted book choice (reading.Waiting code) = json_line waiting_data (waiting_answer book code)
text_wanted book choice reading.Queues = json_line (queues_data book.day) (queues_answer book choice)
text_wanted book choice reading.Status = json_line status_data (status_answer book)
text_wanted book choice (reading.Statement code date) = statement_wanted book code date
text_wanted book choice (reading.Report date) = report_wanted book date
text_wanted book choice (reading.Orders date) = orders_wanted book date
text_wanted book choice (reading.Marks date) = marks_wanted book date

-- What can stand in place of a text, or of what refuses it: the store was asked, and failed. For an order memory can be
-- wanting too. Accounts, orders that wait and how the desk stands are read without asking the store, and it is not
-- asked for a code that nobody has.
abbrev pub ReadingFails : {K V : Type 0} → Ghosts K → Book → Reading → Seen K → Result V Refusal → Type 0
ReadingFails g book (reading.Order sender reference) desk result =
    (participant_of book sender ≢ None) × ((result ≡ Err OutOfMemory) ⊎ IsLost g desk result)
ReadingFails g book (reading.Account code) desk result = ⊥
ReadingFails g book reading.Accounts desk result = ⊥
ReadingFails g book (reading.Queue code) desk result = ⊥
ReadingFails g book (reading.Held code) desk result = ⊥
ReadingFails g book (reading.Waiting code) desk result = ⊥
ReadingFails g book reading.Queues desk result = ⊥
ReadingFails g book reading.Status desk result = ⊥
ReadingFails g book (reading.Statement code date) desk result = (participant_of book code ≢ None) × IsLost g desk result
ReadingFails g book (reading.Report date) desk result = IsLost g desk result
ReadingFails g book (reading.Orders date) desk result = IsLost g desk result
ReadingFails g book (reading.Marks date) desk result = IsLost g desk result
