-- The orders and the marks of a date, as CSV. No field can hold a comma, a quote or a line break (they are codes,
-- references, dates, digits and words), so a line is its fields with commas between them.
use Rattle.std.specs.Prelude.{ℕ, List, [], ◌∷◌, ◌++◌, codes, decimal, Option, None, Some}
use Rattle.std.specs.Fmt.{signed_decimal}
use Rattle.rtgs_money.specs.Date.{date_text}
use Rattle.rtgs_book.specs.declared.book.Book.{Book}
use Rattle.rtgs_book.specs.declared.order.Order.{Order}
use Rattle.rtgs_book.specs.declared.order_state.OrderState.{OrderState}
use Rattle.rtgs_book.specs.declared.order_state.OrderState.TheVariants.{Settled}
use Rattle.rtgs_book.specs.declared.mark.Mark.{Mark}
use Rattle.rtgs_book.specs.Standings.{standing_of, word_of}
use Rattle.rtgs_statements.specs.Records.{orders_on, marks_on}

-- a line of these fields
unfoldable pub csv_line : List (List ℕ) → List ℕ
csv_line [] = 10 ∷ []
csv_line (field ∷ []) = field ++ 10 ∷ []
csv_line (field ∷ fields) = field ++ 44 ∷ csv_line fields

-- ---- orders

-- empty where the order has no due date
abbrev pub due_field : Option ℕ → List ℕ
due_field None = []
due_field (Some due) = date_text due

-- the number of the mark under which the order was settled, and else empty
abbrev pub mark_field : OrderState → List ℕ
mark_field (Settled mark) = decimal mark
mark_field state = []

abbrev pub orders_header : List ℕ
orders_header = csv_line (codes "number" ∷ codes "sender" ∷ codes "reference" ∷ codes "receiver" ∷ codes "amount"
    ∷ codes "due" ∷ codes "state" ∷ codes "mark" ∷ [])

-- the line of an order that shows this due date and this mark
abbrev pub line_of_order : Order → List ℕ → List ℕ → List ℕ
line_of_order order due mark = csv_line (decimal order.number ∷ order.sender ∷ order.reference ∷ order.receiver
    ∷ decimal order.amount ∷ due ∷ word_of (standing_of order.state) ∷ mark ∷ [])

abbrev pub order_line : Order → List ℕ
order_line order = line_of_order order (due_field order.due) (mark_field order.state)

abbrev pub order_lines : List Order → List ℕ
order_lines [] = []
order_lines (order ∷ orders) = order_line order ++ order_lines orders

-- the header, and a line for each order of the date by rising number
abbrev pub orders_text : Book → ℕ → List ℕ
orders_text book date = orders_header ++ order_lines (orders_on date book.orders)

-- ---- marks

abbrev pub marks_header : List ℕ
marks_header = csv_line (codes "number" ∷ codes "count" ∷ codes "value" ∷ [])

abbrev pub mark_line : Mark → List ℕ
mark_line mark = csv_line (decimal mark.number ∷ decimal mark.count ∷ signed_decimal mark.value ∷ [])

abbrev pub mark_lines : List Mark → List ℕ
mark_lines [] = []
mark_lines (mark ∷ marks) = mark_line mark ++ mark_lines marks

-- the header, and a line for each mark of the date by rising number
abbrev pub marks_text : Book → ℕ → List ℕ
marks_text book date = marks_header ++ mark_lines (marks_on date book.marks)
