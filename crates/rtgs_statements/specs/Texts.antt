-- The lines of a statement, of a report and of what is listed of a date, and their texts.
use Rattle.std.specs.Prelude.{ℕ, List, [], ◌∷◌, ◌++◌, map, filter, length, decimal, codes}
use Rattle.rtgs_money.specs.Date.{date_text}
use Rattle.rtgs_money.specs.Units.{units_text}
use Rattle.rtgs_book.specs.declared.book.Book.{Book}
use Rattle.rtgs_book.specs.declared.posting.Posting.{Posting}
use Rattle.rtgs_book.specs.declared.order.Order.{Order}
use Rattle.rtgs_book.specs.declared.mark.Mark.{Mark}
use Rattle.rtgs_book.specs.IntSum.{int_sum_by}
use Rattle.rtgs_book.specs.Lookup.{codes_of}
use Rattle.rtgs_book.specs.Standings.{stands, word_of}
use Rattle.rtgs_statements.specs.declared.line.Line.{Line}
use Rattle.rtgs_statements.specs.declared.line.Line.TheVariants.{StatementOf, Record, Sum, ReportOf, Account, Orders}
use Rattle.rtgs_statements.specs.declared.line.Line.TheVariants.{Marks, OrdersHeader, ListedOrder, MarksHeader}
use Rattle.rtgs_statements.specs.declared.line.Line.TheVariants.{ListedMark}
use Rattle.rtgs_book.specs.declared.standing.Standing.{Standing}
use Rattle.rtgs_statements.specs.declared.sums.Sums.{Sums}
use Rattle.rtgs_statements.specs.declared.total.Total.{Total}
use Rattle.rtgs_statements.specs.declared.total.Total.TheVariants.{Posted, Sent, Received, Net}
use Rattle.rtgs_statements.specs.Columns.{left_in, right_in}
use Rattle.rtgs_statements.specs.Lines.{row_of_posting, row_of_order, row_text}
use Rattle.rtgs_statements.specs.Listings.{orders_header, order_line, marks_header, mark_line}
use Rattle.rtgs_statements.specs.Records.{postings_on_statement, orders_on_statement, postings_on, orders_on, marks_on}
use Rattle.rtgs_statements.specs.Sums.{amount_of, sums_of, net}
use Rattle.rtgs_statements.specs.Tallies.{reported_standings}

abbrev pub total_text : Total → List ℕ
total_text Posted = codes "sum-posted"
total_text Sent = codes "sum-sent"
total_text Received = codes "sum-recv"
total_text Net = codes "net"

-- a label and a sum
unfoldable pub sum_columns : List ℕ → List ℕ → List ℕ
sum_columns label sum = left_in 10 label ++ 32 ∷ right_in 30 sum ++ 10 ∷ []

-- a label and a count
unfoldable pub count_columns : List ℕ → ℕ → List ℕ
count_columns label count = left_in 10 label ++ 32 ∷ right_in 9 (decimal count) ++ 10 ∷ []

-- a label, a count and a value
unfoldable pub value_columns : List ℕ → ℕ → List ℕ → List ℕ
value_columns label count value = left_in 10 label ++ 32 ∷ right_in 9 (decimal count) ++ 32 ∷ right_in 30 value ++ 10
    ∷ []

-- a code, and what was posted, sent and received
unfoldable pub account_columns : List ℕ → List ℕ → List ℕ → List ℕ → List ℕ
account_columns code posted sent received = left_in 8 code ++ 32 ∷ right_in 30 posted ++ 32 ∷ right_in 30 sent ++ 32
    ∷ right_in 30 received ++ 10 ∷ []

abbrev pub line_text : Line → List ℕ
line_text (StatementOf code date) = codes "statement " ++ code ++ 32 ∷ date_text date ++ 10 ∷ []
line_text (Record row) = row_text row
line_text (Sum total cents) = sum_columns (total_text total) (units_text cents)
line_text (ReportOf date) = codes "report " ++ date_text date ++ 10 ∷ []
line_text (Account code sums) = account_columns code (units_text sums.posted) (units_text sums.sent)
    (units_text sums.received)
line_text (Orders standing count value) = value_columns (word_of standing) count (units_text value)
line_text (Marks count) = count_columns (codes "marks") count
line_text OrdersHeader = orders_header
line_text (ListedOrder order) = order_line order
line_text MarksHeader = marks_header
line_text (ListedMark mark) = mark_line mark

-- the texts of the lines, one after another
abbrev pub text_of : List Line → List ℕ
text_of [] = []
text_of (line ∷ lines) = line_text line ++ text_of lines

abbrev pub sum_lines : Sums → List Line
sum_lines sums = Sum Posted sums.posted ∷ Sum Sent sums.sent ∷ Sum Received sums.received ∷ Sum Net (net sums) ∷ []

-- the lines of a statement with these records
abbrev pub statement_lines : List ℕ → ℕ → List Posting → List Order → List Line
statement_lines code date postings orders =
    StatementOf code date
    ∷ map (λ posting. Record (row_of_posting posting)) postings
    ++ map (λ order. Record (row_of_order code order)) orders
    ++ sum_lines (sums_of code postings orders)

-- the text of a statement with these records
unfoldable pub statement_text : List ℕ → ℕ → List Posting → List Order → List ℕ
statement_text code date postings orders = text_of (statement_lines code date postings orders)

-- the statement of the participant with this code, for this date
abbrev pub statement : Book → List ℕ → ℕ → List ℕ
statement book code date = statement_text code date (postings_on_statement code date book.postings)
    (orders_on_statement code date book.orders)

-- the orders that stand so
abbrev pub standing_orders : Standing → List Order → List Order
standing_orders standing orders = filter (λ (order : Order). stands standing order.state) orders

abbrev pub orders_line : List Order → Standing → Line
orders_line orders standing = Orders standing (length (standing_orders standing orders))
    (int_sum_by amount_of (standing_orders standing orders))

abbrev pub account_line : List Posting → List Order → List ℕ → Line
account_line postings orders code = Account code (sums_of code postings orders)

-- the lines of a report with these participants and records
abbrev pub report_lines : ℕ → List (List ℕ) → List Posting → List Order → List Mark → List Line
report_lines date codes postings orders marks =
    ReportOf date
    ∷ map (account_line postings orders) codes
    ++ map (orders_line orders) reported_standings
    ++ Marks (length marks) ∷ []

-- the text of a report with these participants and records
unfoldable pub report_text : ℕ → List (List ℕ) → List Posting → List Order → List Mark → List ℕ
report_text date codes postings orders marks = text_of (report_lines date codes postings orders marks)

-- the report of the day with this date
abbrev pub report : Book → ℕ → List ℕ
report book date = report_text date (codes_of book) (postings_on date book.postings) (orders_on date book.orders)
    (marks_on date book.marks)
