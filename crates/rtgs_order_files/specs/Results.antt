-- The text of a result file, as CSV.
use Rattle.std.specs.Prelude.{◌≡◌, false, ℕ, List, [], ◌∷◌, ◌++◌, codes, decimal, Option, Some, None}
use Rattle.csv.specs.Writing.{default_writer, row_text, text_written, fields_written, has_written, writer_setup}
use Rattle.csv.specs.declared.writer.Writer.{Writer}
use Rattle.rtgs_money.specs.Date.{date_text}
use Rattle.rtgs_refusals.specs.Table.{entry_of}
use Rattle.rtgs_book.specs.declared.standing.Standing.TheVariants as standing
use Rattle.rtgs_book.specs.declared.refusal.Refusal.{Refusal}
use Rattle.rtgs_book.specs.Refusals.{refusal_kind_of}
use Rattle.rtgs_book.specs.Standings.{standing_of, word_of}
use Rattle.rtgs_order_files.specs.declared.batch_result.RowReply.{RowReply}
use Rattle.rtgs_order_files.specs.declared.batch_result.RowReply.TheVariants.{Settled, Queued, Held, Repeated, Refused}
use Rattle.rtgs_book.specs.declared.new_order.NewOrder.{NewOrder}

-- a line of four fields
abbrev pub line : List ℕ → List ℕ → List ℕ → List ℕ → List ℕ
line reference result number detail = row_text default_writer (reference ∷ result ∷ number ∷ detail ∷ [])

abbrev pub header : List ℕ
header = line (codes "reference") (codes "result") (codes "number") (codes "detail")

-- the line of a row with this reference and this reply
abbrev pub reply_line : List ℕ → RowReply → List ℕ
reply_line reference (Settled number mark) = line reference (word_of standing.Settled) (decimal number) (decimal mark)
reply_line reference (Queued number place) = line reference (word_of standing.Queued) (decimal number) (decimal place)
reply_line reference (Held number due) = line reference (word_of standing.Held) (decimal number) (date_text due)
reply_line reference (Repeated number state) = line reference (codes "repeated") (decimal number)
    (word_of (standing_of state))
reply_line reference (Refused refusal) = line reference (codes "refused") []
    (decimal (entry_of (refusal_kind_of refusal)).number)

-- the line of the row at which the batch stopped
abbrev pub stop_line : List ℕ → Refusal → List ℕ
stop_line reference refusal = line reference (codes "stopped") [] (decimal (entry_of (refusal_kind_of refusal)).number)

-- a line for each row that has a reply, and one for the row at which the batch stopped
abbrev pub result_lines : List NewOrder → List RowReply → Option Refusal → List ℕ
result_lines (row ∷ rows) (reply ∷ replies) stopped = reply_line row.reference reply
    ++ result_lines rows replies stopped
result_lines (row ∷ rows) [] (Some refusal) = stop_line row.reference refusal
result_lines (row ∷ rows) [] None = []
result_lines [] replies stopped = []

abbrev pub results_text : List NewOrder → List RowReply → Option Refusal → List ℕ
results_text rows replies stopped = header ++ result_lines rows replies stopped

-- a writer of records has written this text, and begun no record more
pub record Wrote {W : Type 0} (contents : W → Option (List ℕ)) (lines : Writer W) (text : List ℕ) : Type 0 where
  pub whole : text_written contents lines ≡ Some text
  pub no_field : fields_written lines ≡ 0
  pub no_byte : has_written lines ≡ false
  pub setup : writer_setup lines ≡ default_writer
