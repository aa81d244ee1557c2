-- The lines that make up a report and a statement.
use Rattle.std.proofs.Common.{◌≡◌, ◌<◌, ℕ, List, [], ◌∷◌, ◌++◌, map, length, refl}
use Rattle.rtgs_book.specs.declared.book.Book.{Book}
use Rattle.rtgs_book.specs.declared.posting.Posting.{Posting}
use Rattle.rtgs_book.specs.declared.order.Order.{Order}
use Rattle.rtgs_book.specs.declared.mark.Mark.{Mark}
use Rattle.rtgs_statements.specs.declared.line.Line.{Line}
use Rattle.rtgs_statements.specs.declared.line.Line.TheVariants.{ReportOf, Marks, Record, StatementOf}
use Rattle.rtgs_book.specs.Lookup.{codes_of}
use Rattle.rtgs_statements.specs.Lines.{row_of_posting, row_of_order}
use Rattle.rtgs_statements.specs.Records.{postings_on, orders_on, marks_on, postings_on_statement, orders_on_statement}
use Rattle.rtgs_statements.specs.Sums.{sums_of}
use Rattle.rtgs_statements.specs.Tallies.{reported_standings}
use Rattle.rtgs_statements.specs.Texts.{text_of, account_line, orders_line, report, report_text, sum_lines}
use Rattle.rtgs_statements.specs.Texts.{statement, statement_text}
use Rattle.rtgs_statements.proofs.Growth.{lines-have_bytes}

pub report_is : (date : ℕ) (codes : List (List ℕ)) (postings : List Posting) (orders : List Order) (marks : List Mark)
    (a b c d : List Line)
    → a ≡ ReportOf date ∷ [] → b ≡ map (account_line postings orders) codes
    → c ≡ map (orders_line orders) reported_standings
    → d ≡ Marks (length marks) ∷ [] → text_of (((a ++ b) ++ c) ++ d) ≡ report_text date codes postings orders marks
unfolding report_text
report_is date codes postings orders marks a b c d one two three four = rw (one, two, three, four) refl

pub report-has_bytes : (book : Book) (date : ℕ) → 0 < length (report book date)
unfolding report_text
report-has_bytes book date =
    lines-have_bytes (ReportOf date) ((map (account_line (postings_on date book.postings) (orders_on date book.orders))
    (codes_of book) ++ map (orders_line (orders_on date book.orders)) reported_standings)
    ++ (Marks (length (marks_on date book.marks)) ∷ []))

pub statement-has_bytes : (book : Book) (code : List ℕ) (date : ℕ) → 0 < length (statement book code date)
unfolding statement_text
statement-has_bytes book code date =
    let postings = postings_on_statement code date book.postings in
    let orders = orders_on_statement code date book.orders in
    lines-have_bytes (StatementOf code date) (map (λ posting. Record (row_of_posting posting)) postings
    ++ map (λ order. Record (row_of_order code order)) orders ++ sum_lines (sums_of code postings orders))
