-- The replies to the commands that are left where each Order and Post stands but once.
use Rattle.std.specs.Prelude.{◌||◌, if◌then◌else◌, List, [], ◌∷◌}
use Rattle.std.specs.List.{list_any}
use Rattle.rtgs_book.specs.declared.book.Book.{Book}
use Rattle.rtgs_book.specs.declared.command.Command.{Command}
use Rattle.rtgs_book.specs.Outcome.{Reply}
use Rattle.rtgs_book.specs.Run.{is_accepted, is_same_entry, is_recorded}

-- The replies without those to each Order and Post that the book has, or that was accepted before it in the list.
-- `accepted` has those that were accepted so far.
unfoldable pub once_replies_after : List Command → Book → List Command → List Reply → List Reply
once_replies_after accepted book (command ∷ commands) (reply ∷ replies) =
    if is_recorded book command || list_any (is_same_entry command) accepted
    then once_replies_after accepted book commands replies
    else reply ∷ once_replies_after (if is_accepted reply then command ∷ accepted else accepted) book commands replies
once_replies_after accepted book commands replies = []

abbrev pub once_replies : Book → List Command → List Reply → List Reply
once_replies book commands replies = once_replies_after [] book commands replies
