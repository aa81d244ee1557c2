-- What is sent for a command that comes again. `g` has the members of the keeper's trait.
use Rattle.std.specs.Prelude.{◌≡◌, false, ℕ}
use Rattle.rtgs_book.specs.Outcome.{Reply}
use Rattle.rtgs_book.specs.declared.book.Book.{Book}
use Rattle.rtgs_book.specs.declared.command.Command.{Command}
use Rattle.rtgs_desk.specs.Holding.{Holds}
use Rattle.rtgs_desk.specs.Seen.{Seen}
use Rattle.rtgs_http_server.specs.exchange.ReplyMessages.{reply_message}
use Rattle.rtgs_http_bodies.specs.replies.Messages.{Message}
use Rattle.rtgs_keeper.specs.declared.keeper.Keeper.{Ghosts}
use Rattle.rtgs_laws.specs.repeats.Repeats.{IsRepeat}

-- the command is answered as a repeat with this number, and the book stays
pub record IsRepeatedBy {K : Type 0} (g : Ghosts K) (book : Book) (command : Command) (number : ℕ) (desk : Seen K)
    (sent : Message) : Type 0 where
  pub reply : Reply
  pub repeats : IsRepeat book command number reply
  pub tells : sent ≡ reply_message reply
  pub kept : g.has_failed desk.keeper ≡ false → Holds g desk book
