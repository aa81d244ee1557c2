-- The lines of a statement and of a report, and their texts.
use Rattle.std.specs.Prelude.{ℕ, pos, if◌then◌else◌, List, [], ◌∷◌, ◌++◌, decimal, codes, Option, Some, None}
use Rattle.std.specs.Str.{bytes_eq}
use Rattle.rtgs_money.specs.Units.{units_text}
use Rattle.rtgs_book.specs.declared.posting.Posting.{Posting}
use Rattle.rtgs_book.specs.declared.order.Order.{Order}
use Rattle.rtgs_book.specs.declared.order_state.OrderState.{OrderState}
use Rattle.rtgs_book.specs.declared.order_state.OrderState.TheVariants.{Queued, Held, Settled, Withdrawn, Rejected}
use Rattle.rtgs_book.specs.declared.standing.Standing.TheVariants as standing
use Rattle.rtgs_book.specs.Standings.{word_of}
use Rattle.rtgs_statements.specs.declared.kind.Kind.{Kind}
use Rattle.rtgs_statements.specs.declared.kind.Kind.TheVariants.{Posting as OfPosting, Sent, Queued as OfQueued}
use Rattle.rtgs_statements.specs.declared.kind.Kind.TheVariants.{Held as OfHeld}
use Rattle.rtgs_statements.specs.declared.kind.Kind.TheVariants.{Withdrawn as OfWithdrawn, Rejected as OfRejected}
use Rattle.rtgs_statements.specs.declared.kind.Kind.TheVariants.{Received}
use Rattle.rtgs_statements.specs.declared.row.Row.{Row}
use Rattle.rtgs_statements.specs.Columns.{left_in, right_in, zeros_in}

abbrev pub kind_text : Kind → List ℕ
kind_text OfPosting = codes "posting"
kind_text Sent = codes "sent"
kind_text OfQueued = word_of standing.Queued
kind_text OfHeld = word_of standing.Held
kind_text OfWithdrawn = word_of standing.Withdrawn
kind_text OfRejected = word_of standing.Rejected
kind_text Received = codes "received"

-- how an order is shown to its sender
abbrev pub kind_of_sent : OrderState → Kind
kind_of_sent Queued = OfQueued
kind_of_sent Held = OfHeld
kind_of_sent (Settled mark) = Sent
kind_of_sent Withdrawn = OfWithdrawn
kind_of_sent Rejected = OfRejected

abbrev pub mark_of : OrderState → Option ℕ
mark_of (Settled mark) = Some mark
mark_of state = None

abbrev pub row_of_posting : Posting → Row
row_of_posting posting =
    record {
      kind = OfPosting;
      number = posting.number;
      reference = posting.reference;
      party = None;
      amount = posting.cents;
      mark = None;
    }

-- an order as the participant sees it: one that it sent, or else one that it received
abbrev pub row_of_order : List ℕ → Order → Row
row_of_order code order =
    let is_sender = bytes_eq order.sender code in
    record {
      kind = if is_sender then kind_of_sent order.state else Received;
      number = order.number;
      reference = order.reference;
      party = Some (if is_sender then order.receiver else order.sender);
      amount = pos order.amount;
      mark = mark_of order.state;
    }

-- a dash where there is no text
abbrev pub or_dash : Option (List ℕ) → List ℕ
or_dash None = codes "-"
or_dash (Some text) = text

abbrev pub mark_text : Option ℕ → List ℕ
mark_text None = codes "-"
mark_text (Some mark) = decimal mark

-- kind, number, reference, other party, amount and mark, with a space between two columns
unfoldable pub row_columns : List ℕ → ℕ → List ℕ → List ℕ → List ℕ → List ℕ → List ℕ
row_columns kind number reference party amount mark =
    left_in 10 kind ++ 32 ∷ zeros_in 9 number ++ 32 ∷ left_in 16 reference ++ 32 ∷ left_in 8 party ++ 32
    ∷ right_in 20 amount ++ 32 ∷ right_in 9 mark ++ 10 ∷ []

abbrev pub row_text : Row → List ℕ
row_text row = row_columns (kind_text row.kind) row.number row.reference (or_dash row.party) (units_text row.amount)
    (mark_text row.mark)
