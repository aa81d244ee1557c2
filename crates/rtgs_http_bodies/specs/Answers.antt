-- The values that the bodies of replies to commands spell. Keys stand in byte order.
use Rattle.std.specs.Prelude.{ℕ, List, codes, Option, None, Some}
use Rattle.serde_json.specs.Data.{Data, string, object, Members, member, no_members}
use Rattle.rtgs_money.specs.Date.{date_text}
use Rattle.rtgs_book.specs.declared.answer.Answer.{Answer}
use Rattle.rtgs_book.specs.declared.answer.Answer.TheVariants.{Added, CreditSet, Posted, Opened, Settled, Queued, Held}
use Rattle.rtgs_book.specs.declared.answer.Answer.TheVariants.{Withdrawn, Resolved, Nothing, CutOffDone, Closed}
use Rattle.rtgs_book.specs.declared.answer.Answer.TheVariants.{Repeated}
use Rattle.rtgs_book.specs.declared.answer.Known.{Known}
use Rattle.rtgs_book.specs.declared.answer.Known.TheVariants as known
use Rattle.rtgs_book.specs.declared.answer.Resolution.{Resolution}
use Rattle.rtgs_book.specs.declared.answer.WholeAnswer.{WholeAnswer}
use Rattle.rtgs_book.specs.declared.order_state.OrderState.{OrderState}
use Rattle.rtgs_book.specs.declared.order_state.OrderState.TheVariants as state
use Rattle.rtgs_book.specs.declared.standing.Standing.{Standing}
use Rattle.rtgs_book.specs.declared.standing.Standing.TheVariants as standing
use Rattle.rtgs_book.specs.Standings.{word_of}
use Rattle.rtgs_http_bodies.specs.replies.Bodies.{whole, signed}

-- what was resolved after a command
abbrev pub resolution_data : Resolution → Data
resolution_data auto = object (member (codes "count") (whole auto.count) (member (codes "mark") (whole auto.mark)
    (member (codes "value") (signed auto.value) no_members)))

-- what was resolved, where anything was, before other members
abbrev pub with_auto : Option Resolution → Members → Members
with_auto None members = members
with_auto (Some auto) members = member (codes "auto") (resolution_data auto) members

-- the value of an answer that this word names, with what was resolved after the command
abbrev pub answer_object : Option Resolution → List ℕ → Members → Data
answer_object auto word members = object (member (codes "answer") (string word) (with_auto auto members))

-- an order that was taken before and has not settled stands so now
abbrev pub unsettled_repeat : Option Resolution → ℕ → Standing → Data
unsettled_repeat auto number standing = answer_object auto (codes "repeated")
    (member (codes "number") (whole number) (member (codes "state") (string (word_of standing)) no_members))

-- where the order stands now; its mark is shown where it has settled
abbrev pub repeated_order : Option Resolution → ℕ → OrderState → Data
repeated_order auto number (state.Settled mark) = answer_object auto (codes "repeated")
    (member (codes "mark") (whole mark) (member (codes "number") (whole number)
    (member (codes "state") (string (word_of standing.Settled)) no_members)))
repeated_order auto number state.Queued = unsettled_repeat auto number standing.Queued
repeated_order auto number state.Held = unsettled_repeat auto number standing.Held
repeated_order auto number state.Withdrawn = unsettled_repeat auto number standing.Withdrawn
repeated_order auto number state.Rejected = unsettled_repeat auto number standing.Rejected

-- what is known now of a command that was done before
abbrev pub repeated_data : Option Resolution → Known → Data
repeated_data auto known.Nothing = answer_object auto (codes "repeated") no_members
repeated_data auto (known.Posting number) = answer_object auto (codes "repeated")
    (member (codes "number") (whole number) no_members)
repeated_data auto (known.Order number state) = repeated_order auto number state

-- the command's own answer, with what was resolved after it
abbrev pub own_data : Option Resolution → Answer → Data
own_data auto Added = answer_object auto (codes "added") no_members
own_data auto CreditSet = answer_object auto (codes "credit set") no_members
own_data auto (Posted number) = answer_object auto (codes "posted") (member (codes "number") (whole number) no_members)
own_data auto Opened = answer_object auto (codes "opened") no_members
own_data auto (Settled number mark) = answer_object auto (word_of standing.Settled)
    (member (codes "mark") (whole mark) (member (codes "number") (whole number) no_members))
own_data auto (Queued number place) = answer_object auto (word_of standing.Queued)
    (member (codes "number") (whole number) (member (codes "place") (whole place) no_members))
own_data auto (Held number due) = answer_object auto (word_of standing.Held)
    (member (codes "due") (string (date_text due)) (member (codes "number") (whole number) no_members))
own_data auto (Withdrawn number) = answer_object auto (word_of standing.Withdrawn)
    (member (codes "number") (whole number) no_members)
own_data auto (Resolved mark count value) = answer_object auto (codes "resolved")
    (member (codes "count") (whole count) (member (codes "mark") (whole mark)
    (member (codes "value") (signed value) no_members)))
own_data auto Nothing = answer_object auto (codes "nothing") no_members
own_data auto CutOffDone = answer_object auto (codes "cut off") no_members
own_data auto (Closed rejected) = answer_object auto (codes "closed")
    (member (codes "rejected") (whole rejected) no_members)
own_data auto (Repeated known) = repeated_data auto known

abbrev pub answer_data : WholeAnswer → Data
answer_data answer = own_data answer.auto answer.own
