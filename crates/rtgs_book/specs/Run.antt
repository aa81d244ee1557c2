-- Lists of commands.
use Rattle.std.specs.Prelude.{◌≡◌, Bool, false, ◌&&◌, ◌||◌, if◌then◌else◌, List, [], ◌∷◌}
use Rattle.std.specs.List.{list_any}
use Rattle.std.specs.Str.{bytes_eq}
use Rattle.std.specs.Ordering.{int_eq}
use Rattle.rtgs_book.specs.declared.command.Command.TheVariants.{Post, Order}
use Rattle.rtgs_book.specs.Books.{Book}
use Rattle.rtgs_book.specs.Lookup.{order_named, posting_named}
use Rattle.rtgs_book.specs.Commands.{says_the_same, is_same_order, is_same_posting}
use Rattle.rtgs_book.specs.Outcome.{Command, Reply, own_of, is_done}
use Rattle.rtgs_book.specs.Step.{Step}

-- the commands one after another, each with its reply
abbrev pub Run : Book → List Command → List Reply → Book → Type 0
Run old [] [] new = new ≡ old
Run old (command ∷ commands) (reply ∷ replies) new = (mid : Book) × Step old command reply mid
    × Run mid commands replies new
Run old [] (reply ∷ replies) new = ⊥
Run old (command ∷ commands) [] new = ⊥

-- neither refused nor a repeat
abbrev pub is_accepted : Reply → Bool
is_accepted reply = is_done (own_of reply)

-- two orders, or two postings, with one name and one content
abbrev pub is_same_entry : Command → Command → Bool
is_same_entry (Order s one) (Order s' other) = bytes_eq s s' && bytes_eq one.reference other.reference
    && says_the_same one other
is_same_entry (Post code r cents) (Post code' r' cents') = bytes_eq code code' && bytes_eq r r' && int_eq cents cents'
is_same_entry one other = false

-- the book has the order or the posting, with that content
abbrev pub is_recorded : Book → Command → Bool
is_recorded book (Order sender new_order) = is_same_order (order_named book sender new_order.reference) new_order
is_recorded book (Post code reference cents) = is_same_posting (posting_named book reference) code cents
is_recorded book command = false

-- The commands without each Order and Post that the book has, or that was accepted before it in the list. `accepted`
-- has those that were accepted so far.
unfoldable pub once_after : List Command → Book → List Command → List Reply → List Command
once_after accepted book (command ∷ commands) (reply ∷ replies) =
    if is_recorded book command || list_any (is_same_entry command) accepted
    then once_after accepted book commands replies
    else command ∷ once_after (if is_accepted reply then command ∷ accepted else accepted) book commands replies
once_after accepted book commands replies = []

abbrev pub once : Book → List Command → List Reply → List Command
once book commands replies = once_after [] book commands replies
