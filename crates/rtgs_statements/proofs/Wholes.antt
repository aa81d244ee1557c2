-- Bytes that are whole lines.
use Rattle.std.proofs.Common.{◌≡◌, ◌++◌, ◌∷◌, [], ℕ, Bool, true, false, List, Option, refl, sym, ap, subst, ◌∙◌}
use Rattle.std.proofs.Common.{append_assoc, inl, inr}
use Rattle.std.specs.Prelude.{codes, if◌then◌else◌}
use Rattle.std.proofs.lemmas.List.{append-nil}
use Rattle.rtgs_money.specs.Date.{date_text}
use Rattle.rtgs_book.specs.declared.posting.Posting.{Posting}
use Rattle.rtgs_book.specs.declared.order.Order.{Order}
use Rattle.rtgs_output.specs.declared.text_fault.TextFault.{TextFault}
use Rattle.rtgs_output.specs.declared.text_fault.TextFault.TheVariants.{OutOfMemory, Write}
use Rattle.rtgs_statements.specs.declared.book_text_fault.BookTextFault.{BookTextFault}
use Rattle.rtgs_statements.specs.declared.book_text_fault.BookTextFault.TheVariants.{Refused, Text}
use Rattle.rtgs_statements.specs.declared.line.Line.{Line}
use Rattle.rtgs_statements.specs.declared.line.Line.TheVariants.{StatementOf, Record, Sum, ReportOf, Account, Orders}
use Rattle.rtgs_statements.specs.declared.line.Line.TheVariants.{Marks, OrdersHeader, ListedOrder, MarksHeader}
use Rattle.rtgs_statements.specs.declared.line.Line.TheVariants.{ListedMark}
use Rattle.rtgs_statements.specs.declared.row.Row.{Row}
use Rattle.rtgs_statements.specs.Lines.{row_columns, row_of_posting, row_of_order, row_text}
use Rattle.rtgs_statements.specs.Reads.{IsWholeLines, AppendsWholeLines, LeavesWholeLines}
use Rattle.rtgs_statements.specs.Rows.{is_to, is_shown_to, posting_row, order_row}
use Rattle.rtgs_statements.specs.Texts.{sum_columns, count_columns, value_columns, account_columns, line_text, text_of}
use Rattle.rtgs_statements.proofs.Begins.{appends-both}
use Rattle.rtgs_statements.proofs.Growth.{appends-none, csv_line-ends}

wholes-append : (one two : List ℕ) → IsWholeLines one → IsWholeLines two → IsWholeLines (one ++ two)
wholes-append one two first (inl none) =
    subst IsWholeLines (sym (append-nil one) ∙ sym (ap (λ t. one ++ t) none)) first
wholes-append one two first (inr last) =
    inr (one ++ last.0, ap (λ t. one ++ t) last.1 ∙ sym (append_assoc one last.0 (10 ∷ [])))

-- a line ends with a line feed
pub line-whole : (line : Line) → IsWholeLines (line_text line)
unfolding row_columns sum_columns count_columns value_columns account_columns
line-whole (StatementOf code date) = inr (codes "statement " ++ code ++ 32 ∷ date_text date, refl)
line-whole (Record row) = inr (_, refl)
line-whole (Sum total cents) = inr (_, refl)
line-whole (ReportOf date) = inr (codes "report " ++ date_text date, refl)
line-whole (Account code sums) = inr (_, refl)
line-whole (Orders standing count value) = inr (_, refl)
line-whole (Marks count) = inr (_, refl)
line-whole OrdersHeader = inr (csv_line-ends _)
line-whole (ListedOrder order) = inr (csv_line-ends _)
line-whole MarksHeader = inr (csv_line-ends _)
line-whole (ListedMark mark) = inr (csv_line-ends _)

-- so do lines one after another
pub lines-whole : (lines : List Line) → IsWholeLines (text_of lines)
lines-whole [] = inl refl
lines-whole (line ∷ lines) = wholes-append (line_text line) (text_of lines) (line-whole line) (lines-whole lines)

if_whole : (b : Bool) (row : Row) → IsWholeLines (if b then row_text row else [])
if_whole true row = line-whole (Record row)
if_whole false row = inl refl

-- the row of a record is a line, or none
pub posting_row-whole : (code : List ℕ) (posting : Posting) → IsWholeLines (posting_row code posting)
posting_row-whole code posting = if_whole (is_to code posting) (row_of_posting posting)

pub order_row-whole : (code : List ℕ) (order : Order) → IsWholeLines (order_row code order)
order_row-whole code order = if_whole (is_shown_to code order) (row_of_order code order)

pub none-whole : (old : Option (List ℕ)) → AppendsWholeLines old old
none-whole old = ([], appends-none old, inl refl)

pub wholes-both : (old mid new : Option (List ℕ)) → AppendsWholeLines old mid → AppendsWholeLines mid new
    → AppendsWholeLines old new
wholes-both old mid new one two = (
  one.0 ++ two.0,
  appends-both old mid new one.0 two.0 one.1 two.1,
  wholes-append one.0 two.0 one.2 two.2,
)

-- whole lines, and then what an error left
pub leaves-after : (fault : BookTextFault) (old mid new : Option (List ℕ)) → AppendsWholeLines old mid
    → LeavesWholeLines fault mid new → LeavesWholeLines fault old new
leaves-after (Refused refusal) old mid new one two = wholes-both old mid new one two
leaves-after (Text OutOfMemory) old mid new one two = wholes-both old mid new one two
leaves-after (Text (Write failed)) old mid new one two = tt

-- whole lines, and then a line that found no memory and was not begun
pub text-leaves : {W : Type 0} (contents : W → Option (List ℕ)) (fault : TextFault) (old mid new : W)
    → AppendsWholeLines (contents old) (contents mid) → (fault ≡ OutOfMemory → new ≡ mid)
    → LeavesWholeLines (Text fault) (contents old) (contents new)
text-leaves contents OutOfMemory old mid new one same =
    subst (λ w. AppendsWholeLines (contents old) (contents w)) (sym (same refl)) one
text-leaves contents (Write failed) old mid new one same = tt
