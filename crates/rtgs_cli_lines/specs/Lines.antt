-- What a run prints of what it did, without the end of the last line.
use Rattle.std.specs.Prelude.{ℕ, List, [], ◌∷◌, ◌++◌, Option, None, Some, codes, decimal}
use Rattle.std.specs.Fmt.{signed_decimal}
use Rattle.rtgs_money.specs.Date.{date_text}
use Rattle.rtgs_book.specs.declared.answer.Answer.{Answer}
use Rattle.rtgs_book.specs.declared.answer.Answer.TheVariants.{Added, CreditSet, Posted, Opened, Settled, Queued, Held}
use Rattle.rtgs_book.specs.declared.answer.Answer.TheVariants.{Withdrawn, Resolved, Nothing, CutOffDone, Closed}
use Rattle.rtgs_book.specs.declared.answer.Answer.TheVariants.{Repeated}
use Rattle.rtgs_book.specs.declared.answer.Resolution.{Resolution}
use Rattle.rtgs_book.specs.declared.answer.WholeAnswer.{WholeAnswer}
use Rattle.rtgs_book.specs.declared.standing.Standing.TheVariants as standing
use Rattle.rtgs_book.specs.Standings.{word_of}
use Rattle.rtgs_cli_lines.specs.declared.done.Done.{Done}
use Rattle.rtgs_cli_lines.specs.declared.done.Done.TheVariants as done

-- what was asked for had been done before
abbrev pub repeated_line : List ℕ
repeated_line = codes "repeated"

abbrev pub answer_line : Answer → List ℕ
answer_line Added = codes "added"
answer_line CreditSet = codes "credit set"
answer_line (Posted number) = codes "posted " ++ decimal number
answer_line Opened = codes "opened"
answer_line (Settled number mark) =
    word_of standing.Settled ++ codes " " ++ decimal number ++ codes " mark " ++ decimal mark
answer_line (Queued number place) =
    word_of standing.Queued ++ codes " " ++ decimal number ++ codes " place " ++ decimal place
answer_line (Held number due) = word_of standing.Held ++ codes " " ++ decimal number ++ codes " due " ++ date_text due
answer_line (Withdrawn number) = word_of standing.Withdrawn ++ codes " " ++ decimal number
answer_line (Resolved mark count value) =
    codes "resolved mark " ++ decimal mark ++ codes " count " ++ decimal count ++ codes " value "
    ++ signed_decimal value
answer_line Nothing = codes "nothing"
answer_line CutOffDone = codes "cut off"
answer_line (Closed rejected) = codes "closed rejected " ++ decimal rejected
answer_line (Repeated known) = repeated_line

-- a second line behind the end of the first, where something was resolved after the command
abbrev pub auto_line : Option Resolution → List ℕ
auto_line None = []
auto_line (Some auto) =
    10 ∷ codes "auto mark " ++ decimal auto.mark ++ codes " count " ++ decimal auto.count ++ codes " value "
    ++ signed_decimal auto.value

-- the command's own line, and the second where there is one
abbrev pub whole_line : WholeAnswer → List ℕ
whole_line answer = answer_line answer.own ++ auto_line answer.auto

abbrev pub done_line : Done → List ℕ
done_line done.Made = codes "initialised"
done_line done.Migrated = codes "migrated"
done_line done.Repeated = repeated_line
done_line (done.Answered answer) = whole_line answer
done_line (done.Listening port) = codes "listening " ++ decimal port
done_line (done.Served count) = codes "served " ++ decimal count
