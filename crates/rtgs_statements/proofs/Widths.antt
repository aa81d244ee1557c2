-- How long lines are.
use Rattle.std.proofs.Common.{◌≡◌, ◌≤◌, ◌<◌, ◌+◌, ◌^◌, ◌/◌, ℕ, ℤ, pos, unsigned_abs, Bool, true, false, cond, List}
use Rattle.std.proofs.Common.{length, decimal, Option, Some, None, IfSome, arith}
use Rattle.std.proofs.lemmas.List.{length-append, length-replicate}
use Rattle.std.proofs.lemmas.Fmt.{length-decimal-le_wide}
use Rattle.std.proofs.lemmas.Bool.Decides.{nat_tests}
use Rattle.std.specs.Fmt.{sign_text}
use Rattle.std.specs.Int.{is_negative}
use Rattle.std.specs.Str.{bytes_eq}
use Rattle.rtgs_money.specs.declared.reference.TheConstants.Reference as Reference
use Rattle.rtgs_money.specs.declared.code.TheConstants.Code as Code
use Rattle.rtgs_money.specs.Amounts.{IsAmount, IsPostingAmount}
use Rattle.rtgs_money.specs.Forms.{IsCode, IsReference, is_code, is_reference}
use Rattle.rtgs_money.specs.Units.{units_text}
use Rattle.rtgs_book.specs.declared.posting.Posting.{Posting}
use Rattle.rtgs_book.specs.declared.order.Order.{Order}
use Rattle.rtgs_book.specs.declared.limits.TheConstants.{LARGEST_NUMBER}
use Rattle.rtgs_statements.specs.declared.kind.Kind.{Kind}
use Rattle.rtgs_statements.specs.declared.kind.Kind.TheVariants.{Posting as OfPosting, Sent, Queued as OfQueued}
use Rattle.rtgs_statements.specs.declared.kind.Kind.TheVariants.{Held as OfHeld}
use Rattle.rtgs_statements.specs.declared.kind.Kind.TheVariants.{Withdrawn as OfWithdrawn, Rejected as OfRejected}
use Rattle.rtgs_statements.specs.declared.kind.Kind.TheVariants.{Received}
use Rattle.rtgs_statements.specs.declared.line.Line.TheVariants.{Sum}
use Rattle.rtgs_statements.specs.declared.total.Total.{Total}
use Rattle.rtgs_statements.specs.declared.total.Total.TheVariants.{Posted, Sent as SentTotal, Received as ReceivedTotal}
use Rattle.rtgs_statements.specs.declared.total.Total.TheVariants.{Net}
use Rattle.rtgs_statements.specs.Columns.{left_in, right_in, zeros_in}
use Rattle.rtgs_statements.specs.Lines.{kind_text, mark_text, mark_of, row_columns, row_text, row_of_posting}
use Rattle.rtgs_statements.specs.Lines.{row_of_order}
use Rattle.rtgs_statements.specs.Texts.{sum_columns, total_text, line_text}

left_long : (w : ℕ) (text : List ℕ) → length text ≤ w → length (left_in w text) ≡ w
unfolding left_in
left_long w text fits = simp (length-append, length-replicate) (omega arith)

right_long : (w : ℕ) (text : List ℕ) → length text ≤ w → length (right_in w text) ≡ w
unfolding right_in
right_long w text fits = simp (length-append, length-replicate) (omega arith)

nine : (n : ℕ) → n ≤ LARGEST_NUMBER → length (decimal n) ≤ 9
nine n few = length-decimal-le_wide 9 n (omega arith) (omega arith) (omega arith)

zeros_long : (n : ℕ) → n ≤ LARGEST_NUMBER → length (zeros_in 9 n) ≡ 9
unfolding zeros_in
zeros_long n few = let fits = nine n few in simp (length-append, length-replicate) (omega arith)

row_long : (kind : List ℕ) (number : ℕ) (reference party amount mark : List ℕ) → length kind ≤ 10
    → number ≤ LARGEST_NUMBER → length reference ≤ 16 → length party ≤ 8 → length amount ≤ 20 → length mark ≤ 9
    → length (row_columns kind number reference party amount mark) ≡ 78
unfolding row_columns
row_long kind number reference party amount mark k n r p a m =
    let one = left_long 10 kind k in let two = zeros_long number n in let three = left_long 16 reference r in
    let four = left_long 8 party p in let five = right_long 20 amount a in let six = right_long 9 mark m in
    simp length-append (omega arith)

sign_short : (b : Bool) → length (sign_text b) ≤ 1
sign_short true = omega arith
sign_short false = omega arith

-- the decimals, the point and the sign take four characters
units_short : (k : ℕ) (z : ℤ) → 0 < k → k < 60 → unsigned_abs z / 100 < 10 ^ k → unsigned_abs z / 100 < 10 ^ 64
    → length (units_text z) ≤ k + 4
unfolding units_text
units_short k z some few fits wide =
    let digits = length-decimal-le_wide k (unsigned_abs z / 100) some fits wide in
    let sign = sign_short (is_negative z) in
    simp length-append (omega arith)

reference_short : (reference : List ℕ) → IsReference reference → length reference ≤ Reference.LONGEST
unfolding is_reference
reference_short reference form = grind (arith, nat_tests)

code_short : (code : List ℕ) → IsCode code → length code ≤ Code.LONGEST
unfolding is_code
code_short code form = grind (arith, nat_tests)

kind_short : (kind : Kind) → length (kind_text kind) ≤ 10
kind_short OfPosting = omega arith
kind_short Sent = omega arith
kind_short OfQueued = omega arith
kind_short OfHeld = omega arith
kind_short OfWithdrawn = omega arith
kind_short OfRejected = omega arith
kind_short Received = omega arith

total_short : (total : Total) → length (total_text total) ≤ 10
total_short Posted = omega arith
total_short SentTotal = omega arith
total_short ReceivedTotal = omega arith
total_short Net = omega arith

mark_short : (mark : Option ℕ) → IfSome mark (λ m. m ≤ LARGEST_NUMBER) → length (mark_text mark) ≤ 9
mark_short None h = omega arith
mark_short (Some mark) h = nine mark h

pub posting_row_long : (posting : Posting) → posting.number ≤ LARGEST_NUMBER → IsReference posting.reference
    → IsPostingAmount posting.cents → length (row_text (row_of_posting posting)) ≡ 78
posting_row_long posting few reference cents =
    let most = cents.1 in
    row_long _ posting.number posting.reference _ (units_text posting.cents) _ (kind_short OfPosting) few
    (reference_short posting.reference reference) (omega arith)
    (let short = units_short 14 posting.cents (omega arith) (omega arith) (omega arith) (omega arith) in omega arith)
    (omega arith)

chosen_code : (b : Bool) (one other : List ℕ) → length one ≤ Code.LONGEST → length other ≤ Code.LONGEST
    → length (cond b one other) ≤ Code.LONGEST
chosen_code true one other f g = f
chosen_code false one other f g = g

pub order_row_long : (code : List ℕ) (order : Order) → order.number ≤ LARGEST_NUMBER → IsReference order.reference
    → IsCode order.sender → IsCode order.receiver → IsAmount order.amount
    → IfSome (mark_of order.state) (λ mark. mark ≤ LARGEST_NUMBER)
    → length (row_text (row_of_order code order)) ≡ 78
order_row_long code order few reference sender receiver amount mark =
    let most = amount.1 in
    row_long _ order.number order.reference _ (units_text (pos order.amount)) _ (kind_short _) few
    (reference_short order.reference reference)
    (chosen_code (bytes_eq order.sender code) order.receiver order.sender (code_short order.receiver receiver)
    (code_short order.sender sender))
    (let short = units_short 14 (pos order.amount) (omega arith) (omega arith) (omega arith) (omega arith)
    in omega arith) (mark_short (mark_of order.state) mark)

pub sum_long : (total : Total) (cents : ℤ) → unsigned_abs cents < 10 ^ 28 → length (line_text (Sum total cents)) ≡ 42
unfolding sum_columns
sum_long total cents few =
    let label = left_long 10 (total_text total) (total_short total) in
    let short = units_short 26 cents (omega arith) (omega arith) (omega arith) (omega arith) in
    let sum = right_long 30 (units_text cents) (omega arith) in
    simp length-append (omega arith)
