-- A statement from its parts.
use Rattle.std.proofs.Common.{◌≡◌, ◌<◌, ◌++◌, ◌∷◌, ℕ, List, map, length, [], length-append, append_assoc, arith, sym}
use Rattle.std.proofs.Common.{ap, ◌∙◌}
use Rattle.rtgs_book.specs.declared.book.Book.{Book}
use Rattle.rtgs_statements.specs.Lines.{row_of_posting, row_of_order}
use Rattle.rtgs_statements.specs.declared.line.Line.TheVariants.{StatementOf, Record, Sum}
use Rattle.rtgs_statements.specs.declared.total.Total.TheVariants.{Posted, Sent, Received, Net}
use Rattle.std.proofs.lemmas.List.{append-nil}
use Rattle.rtgs_statements.specs.Records.{postings_on, orders_on, postings_on_statement, orders_on_statement}
use Rattle.rtgs_statements.specs.Rows.{posting_rows, order_rows}
use Rattle.rtgs_statements.specs.Sums.{sums_of, net}
use Rattle.rtgs_statements.specs.Texts.{line_text, text_of, sum_lines, statement, statement_text}
use Rattle.rtgs_statements.proofs.Agreement.{agree}
use Rattle.rtgs_statements.proofs.Growth.{text_of-append, lines-have_bytes}
use Rattle.rtgs_statements.proofs.RecordsOfDate.{postings_of_are, orders_of_are}

module _ (book : Book) (code : List ℕ) (date : ℕ) where
  abbrev pub title : List ℕ
  title = line_text (StatementOf code date)

  abbrev pub postings : List ℕ
  postings = posting_rows code (postings_on date book.postings)

  abbrev pub orders : List ℕ
  orders = order_rows code (orders_on date book.orders)

  abbrev pub sums : List ℕ
  sums = text_of (sum_lines (sums_of code (postings_on date book.postings) (orders_on date book.orders)))

  pub statement_joined : title ++ ((postings ++ orders) ++ sums) ≡ statement book code date
  unfolding statement_text
  statement_joined =
      ap (λ t. title ++ t) (
      (λ i. (text_of (map (λ posting. Record (row_of_posting posting)) (postings_of_are code date book.postings i))
      ++ text_of (map (λ order. Record (row_of_order code order)) (orders_of_are code date book.orders i)))
      ++ text_of (sum_lines (sym (agree code date book.postings book.orders) i)))
      ∙ sym (
      text_of-append (map (λ posting. Record (row_of_posting posting)) (postings_on_statement code date book.postings)
      ++ map (λ order. Record (row_of_order code order)) (orders_on_statement code date book.orders))
      (sum_lines (sums_of code (postings_on_statement code date book.postings) (orders_on_statement code date
      book.orders)))
      ∙ ap (λ t. t ++ text_of (sum_lines (sums_of code (postings_on_statement code date book.postings)
      (orders_on_statement code date book.orders))))
      (text_of-append (map (λ posting. Record (row_of_posting posting)) (postings_on_statement code date book.postings))
      (map (λ order. Record (row_of_order code order)) (orders_on_statement code date book.orders)))
      )
      )

  sums_have_bytes : 0 < length sums
  sums_have_bytes =
      let all = sums_of code (postings_on date book.postings) (orders_on date book.orders) in
      lines-have_bytes (Sum Posted all.posted) (Sum Sent all.sent ∷ Sum Received all.received ∷ Sum Net (net all) ∷ [])

  pub more_after_postings : 0 < length (orders ++ sums)
  more_after_postings = omega (arith, sums_have_bytes, length-append orders sums)

  pub more_after_orders : 0 < length sums
  more_after_orders = sums_have_bytes

  pub from_postings : title ++ (postings ++ (orders ++ sums)) ≡ statement book code date
  from_postings = ap (λ t. title ++ t) (sym (append_assoc postings orders sums)) ∙ statement_joined

  pub from_orders : (title ++ postings) ++ (orders ++ sums) ≡ statement book code date
  from_orders = append_assoc title postings (orders ++ sums) ∙ from_postings

  pub from_sums : ((title ++ postings) ++ orders) ++ sums ≡ statement book code date
  from_sums = append_assoc (title ++ postings) orders sums ∙ from_orders

  pub from_sums_on : ((title ++ postings) ++ orders) ++ (sums ++ []) ≡ statement book code date
  from_sums_on = ap (λ t. ((title ++ postings) ++ orders) ++ t) (append-nil sums) ∙ from_sums
