-- What the laws of the definitions speak of.
use Rattle.std.specs.Prelude.{◌≡◌, ◌≤◌, ℕ, ℤ, pos, true, Ok, List, ◌++◌, Some, ⊤}
use Rattle.std.specs.List.{AllByRecursion}
use Rattle.rtgs_money.specs.Amounts.{IsAmount, IsPostingAmount, IsCredit}
use Rattle.rtgs_book.specs.declared.command.Command.TheVariants.{SetCredit, Post, Order as PlaceOrder}
use Rattle.rtgs_book.specs.declared.answer.Answer.TheVariants.{Posted}
use Rattle.rtgs_book.specs.declared.limits.TheConstants.{LARGEST_BALANCE}
use Rattle.rtgs_book.specs.Books.{Book, Order, Mark, is_settled}
use Rattle.rtgs_book.specs.Lookup.{codes_of}
use Rattle.rtgs_book.specs.Balance.{balance}
use Rattle.rtgs_book.specs.Outcome.{Command, Reply, OwnReply, own_of}
use Rattle.rtgs_book.specs.Procedure.{Has}
use Rattle.rtgs_book.specs.Soundness.{is_state_under}
use Rattle.rtgs_book.specs.Totals.{Within}

-- what an accepted posting adds to all balances together
abbrev pub posted_by_itself : Command → OwnReply → ℤ
posted_by_itself (Post code reference cents) (Ok (Posted number)) = cents
posted_by_itself command reply = pos 0

abbrev pub posted : Command → Reply → ℤ
posted command reply = posted_by_itself command (own_of reply)

-- the old marks stand, and so do the old orders that were settled
pub record KeepsWhatIsFinal (old new : Book) : Type 0 where
  pub marks : (later : List Mark) × (new.marks ≡ old.marks ++ later)
  pub orders : (o : Order) → Has old.orders o → is_settled o ≡ true → Has new.orders o

-- the amount of a command is in its range
abbrev pub CommandFits : Command → Type 0
CommandFits (SetCredit code credit) = IsCredit credit
CommandFits (Post code reference cents) = IsPostingAmount cents
CommandFits (PlaceOrder sender new_order) = IsAmount new_order.amount
CommandFits command = ⊤

-- where the order has a due date, each of these marks that settled it is of that date or a later one
abbrev pub SettlesInTime : List Mark → Order → Type 0
SettlesInTime marks o = (due : ℕ) (mark : Mark) → o.due ≡ Some due → Has marks mark
    → is_state_under mark.number o.state ≡ true → due ≤ mark.date

-- no order is settled under a mark that is dated before its due date
abbrev pub NothingSettlesEarly : Book → Type 0
NothingSettlesEarly book = AllByRecursion (SettlesInTime book.marks) book.orders

-- every balance is at most LARGEST_BALANCE in magnitude, which is far below 2^63
abbrev pub BalancesFit : Book → Type 0
BalancesFit book = AllByRecursion (λ code. Within LARGEST_BALANCE (balance book code)) (codes_of book)
