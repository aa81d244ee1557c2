-- A batch of orders: the commands of its rows, and what was replied to them.
use Rattle.std.specs.Prelude.{◌≡◌, ◌<◌, false, ℕ, List, [], ◌∷◌, ◌++◌, map, length, take, Option, Some, None, Result}
use Rattle.std.specs.Prelude.{Ok, Err}
use Rattle.rtgs_book.specs.declared.answer.Answer.TheVariants as answer
use Rattle.rtgs_book.specs.declared.command.Command.{Command}
use Rattle.rtgs_book.specs.declared.command.Command.TheVariants.{Order}
use Rattle.rtgs_book.specs.declared.answer.Known.TheVariants as known
use Rattle.rtgs_book.specs.declared.refusal.Refusal.{Refusal}
use Rattle.rtgs_book.specs.Outcome.{OwnReply, Reply}
use Rattle.rtgs_book.specs.Session.{is_judged, open_command}
use Rattle.rtgs_order_files.specs.declared.batch_result.RowReply.{RowReply}
use Rattle.rtgs_order_files.specs.declared.batch_result.RowReply.TheVariants.{Settled, Queued, Held, Repeated, Refused}
use Rattle.rtgs_book.specs.declared.new_order.NewOrder.{NewOrder}

-- the row as an order of the sender
abbrev pub order_of : List ℕ → NewOrder → Command
order_of sender row = Order sender row

abbrev pub orders_of : List ℕ → List NewOrder → List Command
orders_of sender rows = map (order_of sender) rows

-- the desk's own reply to the row's order, which the result file shows
abbrev pub reply_of : RowReply → OwnReply
reply_of (Settled number mark) = Ok (answer.Settled number mark)
reply_of (Queued number place) = Ok (answer.Queued number place)
reply_of (Held number due) = Ok (answer.Held number due)
reply_of (Repeated number state) = Ok (answer.Repeated (known.Order number state))
reply_of (Refused refusal) = Err refusal

abbrev pub replies_of : List RowReply → List OwnReply
replies_of replies = map reply_of replies

-- the own reply to a row, or the refusal at which the batch stops
abbrev pub replied : Result RowReply Refusal → OwnReply
replied (Ok reply) = reply_of reply
replied (Err refusal) = Err refusal

-- the replies to a batch, and behind them the refusal at which it stopped
abbrev pub with_stop : List Reply → Option Refusal → List Reply
with_stop replies None = replies
with_stop replies (Some refusal) = replies ++ Err refusal ∷ []

-- the order of which nobody knows whether it acted: the one at which the store failed
abbrev pub open_order : List ℕ → List NewOrder → List Reply → Option Refusal → Option Command
open_order sender rows replies stopped =
    open_command (orders_of sender (take (length (with_stop replies stopped)) rows)) (with_stop replies stopped)

-- After this many replies a batch of this many rows is at its end, or has stopped at the next row, where the desk
-- judged nothing.
abbrev pub StopsAfter : ℕ → ℕ → Option Refusal → Type 0
StopsAfter replies rows None = replies ≡ rows
StopsAfter replies rows (Some refusal) = (replies < rows) × (is_judged (Err refusal) ≡ false)
