-- What a command is answered that comes again.
use Rattle.std.specs.Prelude.{◌≡◌, ℕ, Bool, true, false, Some, Ok}
use Rattle.rtgs_book.specs.declared.book.Book.{Book}
use Rattle.rtgs_book.specs.declared.order.Order.{Order}
use Rattle.rtgs_book.specs.declared.order_state.OrderState.TheVariants as state
use Rattle.rtgs_book.specs.declared.command.Command.{Command}
use Rattle.rtgs_book.specs.declared.command.Command.TheVariants as command
use Rattle.rtgs_book.specs.declared.answer.Answer.TheVariants as answer
use Rattle.rtgs_book.specs.declared.answer.Known.TheVariants as known
use Rattle.rtgs_book.specs.Lookup.{order_named}
use Rattle.rtgs_book.specs.Outcome.{OwnReply, Reply, alone, own_of}

-- the commands that act once, and are known ever after
abbrev pub acts_once : Command → Bool
acts_once (command.Add code name key) = true
acts_once (command.Post code reference cents) = true
acts_once (command.Order sender new_order) = true
acts_once (command.Withdraw sender reference) = true
acts_once other = false

-- the number that an accepted posting, order or withdrawal was answered, and 0 for other answers
abbrev pub own_number : OwnReply → ℕ
own_number (Ok (answer.Posted number)) = number
own_number (Ok (answer.Settled number mark)) = number
own_number (Ok (answer.Queued number place)) = number
own_number (Ok (answer.Held number due)) = number
own_number (Ok (answer.Withdrawn number)) = number
own_number reply = 0

-- so whatever was resolved after it
abbrev pub answered_number : Reply → ℕ
answered_number reply = own_number (own_of reply)

-- The reply to the command where it comes again: the number that it was answered, and of an order its state now.
-- Nothing is resolved after it.
abbrev pub IsRepeat : Book → Command → ℕ → Reply → Type 0
IsRepeat book (command.Add code name key) number reply = reply ≡ alone (Ok (answer.Repeated known.Nothing))
IsRepeat book (command.Post code reference cents) number reply = reply
    ≡ alone (Ok (answer.Repeated (known.Posting number)))
IsRepeat book (command.Order sender new_order) number reply =
    (o : Order) × (order_named book sender new_order.reference ≡ Some o) × (o.number ≡ number)
    × (reply ≡ alone (Ok (answer.Repeated (known.Order number o.state))))
IsRepeat book (command.Withdraw sender reference) number reply = reply
    ≡ alone (Ok (answer.Repeated (known.Order number state.Withdrawn)))
IsRepeat book other number reply = ⊥
