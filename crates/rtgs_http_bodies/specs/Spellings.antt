-- What the bodies look like, byte for byte.
use Rattle.std.specs.Prelude.{ℕ, List, [], ◌++◌, codes, decimal, Option, None, Some}
use Rattle.std.specs.Fmt.{signed_decimal}
use Rattle.rtgs_money.specs.Date.{date_text}
use Rattle.rtgs_book.specs.declared.answer.Answer.{Answer}
use Rattle.rtgs_book.specs.declared.answer.Answer.TheVariants.{Added, CreditSet, Posted, Opened, Settled, Queued, Held}
use Rattle.rtgs_book.specs.declared.answer.Answer.TheVariants.{Withdrawn, Resolved, Nothing, CutOffDone, Closed}
use Rattle.rtgs_book.specs.declared.answer.Answer.TheVariants.{Repeated}
use Rattle.rtgs_book.specs.declared.answer.Known.{Known}
use Rattle.rtgs_book.specs.declared.answer.Known.TheVariants as known
use Rattle.rtgs_book.specs.declared.answer.Resolution.{Resolution}
use Rattle.rtgs_book.specs.declared.answer.WholeAnswer.{WholeAnswer}
use Rattle.rtgs_book.specs.declared.order_state.OrderState.TheVariants as state

-- what was resolved after a command, if anything was
abbrev pub auto_text : Option Resolution → List ℕ
auto_text None = []
auto_text (Some auto) = codes ",\"auto\":{\"count\":" ++ decimal auto.count ++ codes ",\"mark\":"
    ++ decimal auto.mark ++ codes ",\"value\":" ++ signed_decimal auto.value ++ codes "}"

-- `auto` is the text of what was resolved
abbrev pub repeated_text : List ℕ → Known → List ℕ
repeated_text auto known.Nothing = codes "{\"answer\":\"repeated\"" ++ auto ++ codes "}"
repeated_text auto (known.Posting number) = codes "{\"answer\":\"repeated\"" ++ auto ++ codes ",\"number\":"
    ++ decimal number ++ codes "}"
repeated_text auto (known.Order number (state.Settled mark)) = codes "{\"answer\":\"repeated\"" ++ auto
    ++ codes ",\"mark\":" ++ decimal mark ++ codes ",\"number\":" ++ decimal number
    ++ codes ",\"state\":\"settled\"}"
repeated_text auto (known.Order number state.Queued) = codes "{\"answer\":\"repeated\"" ++ auto
    ++ codes ",\"number\":" ++ decimal number ++ codes ",\"state\":\"queued\"}"
repeated_text auto (known.Order number state.Held) = codes "{\"answer\":\"repeated\"" ++ auto
    ++ codes ",\"number\":" ++ decimal number ++ codes ",\"state\":\"held\"}"
repeated_text auto (known.Order number state.Withdrawn) = codes "{\"answer\":\"repeated\"" ++ auto
    ++ codes ",\"number\":" ++ decimal number ++ codes ",\"state\":\"withdrawn\"}"
repeated_text auto (known.Order number state.Rejected) = codes "{\"answer\":\"repeated\"" ++ auto
    ++ codes ",\"number\":" ++ decimal number ++ codes ",\"state\":\"rejected\"}"

abbrev pub own_text : List ℕ → Answer → List ℕ
own_text auto Added = codes "{\"answer\":\"added\"" ++ auto ++ codes "}"
own_text auto CreditSet = codes "{\"answer\":\"credit set\"" ++ auto ++ codes "}"
own_text auto (Posted number) = codes "{\"answer\":\"posted\"" ++ auto ++ codes ",\"number\":" ++ decimal number
    ++ codes "}"
own_text auto Opened = codes "{\"answer\":\"opened\"" ++ auto ++ codes "}"
own_text auto (Settled number mark) = codes "{\"answer\":\"settled\"" ++ auto ++ codes ",\"mark\":" ++ decimal mark
    ++ codes ",\"number\":" ++ decimal number ++ codes "}"
own_text auto (Queued number place) = codes "{\"answer\":\"queued\"" ++ auto ++ codes ",\"number\":"
    ++ decimal number ++ codes ",\"place\":" ++ decimal place ++ codes "}"
own_text auto (Held number due) = codes "{\"answer\":\"held\"" ++ auto ++ codes ",\"due\":\"" ++ date_text due
    ++ codes "\",\"number\":" ++ decimal number ++ codes "}"
own_text auto (Withdrawn number) = codes "{\"answer\":\"withdrawn\"" ++ auto ++ codes ",\"number\":"
    ++ decimal number ++ codes "}"
own_text auto (Resolved mark count value) = codes "{\"answer\":\"resolved\"" ++ auto ++ codes ",\"count\":"
    ++ decimal count ++ codes ",\"mark\":" ++ decimal mark ++ codes ",\"value\":" ++ signed_decimal value
    ++ codes "}"
own_text auto Nothing = codes "{\"answer\":\"nothing\"" ++ auto ++ codes "}"
own_text auto CutOffDone = codes "{\"answer\":\"cut off\"" ++ auto ++ codes "}"
own_text auto (Closed rejected) = codes "{\"answer\":\"closed\"" ++ auto ++ codes ",\"rejected\":"
    ++ decimal rejected ++ codes "}"
own_text auto (Repeated known) = repeated_text auto known

abbrev pub answer_text : WholeAnswer → List ℕ
answer_text answer = own_text (auto_text answer.auto) answer.own
