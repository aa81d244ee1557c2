-- What a command gives: its result, and the book after it.
use Rattle.std.specs.Prelude.{Bool, true, false, if◌then◌else◌, List, [], ◌∷◌, Result, Ok, Err, Option, Some, None}
use Rattle.rtgs_book.specs.Books.{Book}
pub use Rattle.rtgs_book.specs.declared.command.Command.{Command}
pub use Rattle.rtgs_book.specs.declared.answer.Answer.{Answer}
pub use Rattle.rtgs_book.specs.declared.refusal.Refusal.{Refusal}
pub use Rattle.rtgs_book.specs.declared.answer.Known.{Known}
pub use Rattle.rtgs_book.specs.declared.answer.Resolution.{Resolution}
pub use Rattle.rtgs_book.specs.declared.answer.WholeAnswer.{WholeAnswer}
use Rattle.rtgs_book.specs.declared.answer.Answer.TheVariants as answer

-- ---- replies

-- to a command by itself
abbrev pub OwnReply : Type 0
OwnReply = Result Answer Refusal

-- to a command with what was resolved after it
abbrev pub Reply : Type 0
Reply = Result WholeAnswer Refusal

-- the command's own reply, and this resolution after it; a refusal has none
abbrev pub with_resolution : OwnReply → Option Resolution → Reply
with_resolution (Ok own) auto = Ok (record { own = own; auto = auto })
with_resolution (Err refusal) auto = Err refusal

-- the command's own reply, where nothing was resolved after it
abbrev pub alone : OwnReply → Reply
alone reply = with_resolution reply None

-- the command's own reply
abbrev pub own_of : Reply → OwnReply
own_of (Ok answer) = Ok answer.own
own_of (Err refusal) = Err refusal

-- what was resolved, by the reply to a resolution
abbrev pub resolution_of : OwnReply → Option Resolution
resolution_of (Ok (answer.Resolved mark count value)) = Some (record { mark = mark; count = count; value = value })
resolution_of reply = None

-- the command acted: it was neither refused nor done before
abbrev pub is_done : OwnReply → Bool
is_done (Ok (answer.Repeated known)) = false
is_done (Ok own) = true
is_done (Err refusal) = false

-- ---- outcomes

-- of a command by itself
pub record Outcome : Type 0 where
  pub reply : OwnReply
  pub book : Book

abbrev pub accepts : Answer → Book → Outcome
accepts answer book = record { reply = Ok answer; book = book }

-- The first test that holds gives the reply, and nothing changes. Where none holds, the command does what it is for.
unfoldable pub first_of : Book → List (Bool × OwnReply) → Outcome → Outcome
first_of book [] outcome = outcome
first_of book (row ∷ rows) outcome =
    if row.0 then record { reply = row.1; book = book } else first_of book rows outcome
