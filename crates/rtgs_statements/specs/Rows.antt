-- The rows that show a participant's records, one after another.
use Rattle.std.specs.Prelude.{ℕ, ℤ, pos, Bool, ◌&&◌, ◌||◌, if◌then◌else◌, List, [], map, filter}
use Rattle.std.specs.Str.{bytes_eq}
use Rattle.rtgs_book.specs.declared.posting.Posting.{Posting}
use Rattle.rtgs_book.specs.declared.order.Order.{Order}
use Rattle.rtgs_book.specs.Books.{is_settled}
use Rattle.rtgs_statements.specs.declared.line.Line.TheVariants.{Record}
use Rattle.rtgs_statements.specs.declared.party.Party.{Party}
use Rattle.rtgs_statements.specs.Lines.{row_of_posting, row_of_order, row_text}
use Rattle.rtgs_statements.specs.Sums.{party_code}
use Rattle.rtgs_statements.specs.Texts.{text_of}

-- a posting to the participant
abbrev pub is_to : List ℕ → Posting → Bool
is_to code posting = bytes_eq posting.code code

-- an order that the participant sent, or a settled one that was sent to it
abbrev pub is_shown_to : List ℕ → Order → Bool
is_shown_to code order = bytes_eq order.sender code || (is_settled order && bytes_eq order.receiver code)

-- the row of one record, where the participant is shown it
abbrev pub posting_row : List ℕ → Posting → List ℕ
posting_row code posting = if is_to code posting then row_text (row_of_posting posting) else []

abbrev pub order_row : List ℕ → Order → List ℕ
order_row code order = if is_shown_to code order then row_text (row_of_order code order) else []

-- the rows of all these records
abbrev pub posting_rows : List ℕ → List Posting → List ℕ
posting_rows code postings = text_of (map (λ posting. Record (row_of_posting posting)) (filter (is_to code) postings))

abbrev pub order_rows : List ℕ → List Order → List ℕ
order_rows code orders = text_of (map (λ order. Record (row_of_order code order)) (filter (is_shown_to code) orders))

-- what one record adds to a sum
abbrev pub cents_posted_to : List ℕ → Posting → ℤ
cents_posted_to code posting = if is_to code posting then posting.cents else pos 0

abbrev pub settled_by : Party → List ℕ → Order → ℤ
settled_by party code order =
    if is_settled order && bytes_eq (party_code party order) code then pos order.amount else pos 0
