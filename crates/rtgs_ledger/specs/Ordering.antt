-- An order that has passed its tests.
use Rattle.std.specs.Prelude.{◌≡◌, ◌⊎◌, ℕ, Bool, true, false, not, Option, Some, None}
use Rattle.std.specs.Str.{bytes_eq}
use Rattle.rtgs_money.specs.Amounts.{IsAmount}
use Rattle.rtgs_book.specs.declared.answer.Answer.{Answer}
use Rattle.rtgs_book.specs.declared.answer.Answer.TheVariants.{Queued, Held}
use Rattle.rtgs_book.specs.declared.book.Book.{Book}
use Rattle.rtgs_book.specs.declared.order.Order.{Order}
use Rattle.rtgs_book.specs.declared.refusal.Refusal.{Refusal}
use Rattle.rtgs_book.specs.declared.refusal.Refusal.TheVariants.{DueNotLater, Weekend}
use Rattle.rtgs_book.specs.Commands.{order, takes_due, taken_order, as_sent, is_later, is_due_on_a_weekend}
use Rattle.rtgs_book.specs.Lookup.{order_named}

-- the order is the book's next one, its name is new, and it will be taken: it settles at once, is queued or is held
pub record IsTaken (book : Book) (o : Order) : Type 0 where
  pub next : o ≡ taken_order book o.sender (as_sent o)
  pub unused : order_named book o.sender o.reference ≡ None
  pub fits : IsAmount o.amount
  pub apart : bytes_eq o.sender o.receiver ≡ false
  pub taken : order book o.sender (as_sent o) ≡ takes_due book o o.due

-- there is a due date, and it is not later than the last date of the desk
abbrev pub is_too_early : Option ℕ → Option ℕ → Bool
is_too_early last None = false
is_too_early last (Some due) = not (is_later due last)

-- a due date is refused because it is too early, or else because it is on a weekend
abbrev pub IsDueRefused : Option ℕ → Option ℕ → Refusal → Type 0
IsDueRefused last due refusal = ((refusal ≡ DueNotLater) × (is_too_early last due ≡ true))
    ⊎ ((refusal ≡ Weekend) × (is_too_early last due ≡ false) × (is_due_on_a_weekend due ≡ true))

-- the answer to an order that waits: at this place of its queue, or until its due date
abbrev pub waiting_answer : ℕ → ℕ → Option ℕ → Answer
waiting_answer number place None = Queued number place
waiting_answer number place (Some due) = Held number due
