-- Texts one after another.
use Rattle.std.proofs.Common.{◌≡◌, arith, ◌<◌, ◌+◌, ◌++◌, ◌∷◌, [], ℕ, List, length, length-append, take, get_or, Option}
use Rattle.std.proofs.Common.{Some, None, refl, sym, ap, ◌∙◌, append_assoc}
use Rattle.std.specs.Prelude.{codes}
use Rattle.std.specs.Io.KnownBytes.{Appends}
use Rattle.std.proofs.lemmas.List.{take_more, append-nil}
use Rattle.rtgs_money.specs.Date.{date_text}
use Rattle.rtgs_statements.specs.declared.line.Line.{Line}
use Rattle.rtgs_statements.specs.declared.line.Line.TheVariants.{StatementOf, Record, Sum, ReportOf, Account, Orders}
use Rattle.rtgs_statements.specs.declared.line.Line.TheVariants.{Marks, OrdersHeader, ListedOrder, MarksHeader}
use Rattle.rtgs_statements.specs.declared.line.Line.TheVariants.{ListedMark}
use Rattle.rtgs_statements.specs.Lines.{row_columns}
use Rattle.rtgs_statements.specs.Listings.{csv_line}
use Rattle.rtgs_output.specs.Sent.{AppendsPart}
use Rattle.rtgs_statements.specs.Texts.{sum_columns, count_columns, value_columns, account_columns, line_text, text_of}

pub appends-none : (old : Option (List ℕ)) → Appends old old []
appends-none None = tt
appends-none (Some xs) = sym (append-nil xs)

-- nothing was written of a text that has bytes
pub none-begun : (o : Option (List ℕ)) (text : List ℕ) → 0 < length text → AppendsPart o o text
none-begun o text some = (0, some, appends-none o)

-- a text to which bytes were added has bytes
has_end : (text : List ℕ) (b : ℕ) (more : List ℕ) → 0 < length (text ++ b ∷ more)
has_end text b more = omega (arith, length-append text (b ∷ more))

-- a line of fields ends with a line feed
pub csv_line-ends : (fields : List (List ℕ)) → (before : List ℕ) × (csv_line fields ≡ before ++ 10 ∷ [])
unfolding csv_line
csv_line-ends [] = ([], refl)
csv_line-ends (field ∷ []) = (field, refl)
csv_line-ends (field ∷ next ∷ fields) =
    let rest = csv_line-ends (next ∷ fields) in (
      field ++ 44 ∷ rest.0,
      ap (λ t. field ++ 44 ∷ t) rest.1 ∙ sym (append_assoc field (44 ∷ rest.0) (10 ∷ [])),
    )

csv_line-has_bytes : (fields : List (List ℕ)) → 0 < length (csv_line fields)
csv_line-has_bytes fields =
    let ends = csv_line-ends fields in
    omega (arith, has_end ends.0 10 [], ap length ends.1)

-- a line has bytes, its end at least
pub line-has_bytes : (line : Line) → 0 < length (line_text line)
unfolding row_columns sum_columns count_columns value_columns account_columns
line-has_bytes (StatementOf code date) = has_end (codes "statement " ++ code ++ 32 ∷ date_text date) 10 []
line-has_bytes (Record row) = has_end _ 10 []
line-has_bytes (Sum total cents) = has_end _ 10 []
line-has_bytes (ReportOf date) = has_end (codes "report " ++ date_text date) 10 []
line-has_bytes (Account code sums) = has_end _ 10 []
line-has_bytes (Orders standing count value) = has_end _ 10 []
line-has_bytes (Marks count) = has_end _ 10 []
line-has_bytes OrdersHeader = csv_line-has_bytes _
line-has_bytes (ListedOrder order) = csv_line-has_bytes _
line-has_bytes MarksHeader = csv_line-has_bytes _
line-has_bytes (ListedMark mark) = csv_line-has_bytes _

-- lines have bytes, those of the first line at least
pub lines-have_bytes : (line : Line) (lines : List Line) → 0 < length (text_of (line ∷ lines))
lines-have_bytes line lines = omega (arith, line-has_bytes line, length-append (line_text line) (text_of lines))

pub text_of-append : (one two : List Line) → text_of (one ++ two) ≡ text_of one ++ text_of two
text_of-append [] two = refl
text_of-append (line ∷ one) two = ap (λ t. line_text line ++ t) (text_of-append one two)
    ∙ sym (append_assoc (line_text line) (text_of one) (text_of two))

-- after one more line
pub line-added : (lines : List Line) (i : ℕ) (line : Line) → i < length lines → line ≡ get_or lines i line
    → (old mid new text : List ℕ) → text ≡ line_text line → mid ≡ old ++ text_of (take i lines) → new ≡ mid ++ text
    → new ≡ old ++ text_of (take (i + 1) lines)
line-added lines i line less is old mid new text same before here =
    let more : text_of (take (i + 1) lines) ≡ text_of (take i lines) ++ line_text line =
    ap text_of (take_more lines i line less ∙ ap (λ l. take i lines ++ l ∷ []) (sym is))
    ∙ text_of-append (take i lines) (line ∷ [])
    ∙ ap (λ t. text_of (take i lines) ++ t) (append-nil (line_text line)) in
    here ∙ ap (λ t. mid ++ t) same ∙ ap (λ t. t ++ line_text line) before
    ∙ append_assoc old (text_of (take i lines)) (line_text line) ∙ ap (λ t. old ++ t) (sym more)

-- four groups of lines
pub all-added : (a b c d : List Line) (o p q r s : List ℕ) → o ≡ [] → p ≡ o ++ text_of a → q ≡ p ++ text_of b
    → r ≡ q ++ text_of c → s ≡ r ++ text_of d → s ≡ text_of (((a ++ b) ++ c) ++ d)
all-added a b c d o p q r s none one two three four =
    let first : p ≡ text_of a = one ∙ ap (λ t. t ++ text_of a) none in
    let second : q ≡ text_of (a ++ b) = two ∙ ap (λ t. t ++ text_of b) first ∙ sym (text_of-append a b) in
    let third : r ≡ text_of ((a ++ b) ++ c) = three ∙ ap (λ t. t ++ text_of c) second ∙ sym (text_of-append (a ++ b) c)
    in
    four ∙ ap (λ t. t ++ text_of d) third ∙ sym (text_of-append ((a ++ b) ++ c) d)
