-- The values that the bodies of replies on accounts spell. Keys stand in byte order.
use Rattle.std.specs.Prelude.{ℕ, ℤ, pos, int_lt, unsigned_abs, if◌then◌else◌, List, map, Option, Some, None, codes}
use Rattle.std.specs.Prelude.{FitsSigned}
use Rattle.std.specs.Int.{w64}
use Rattle.std.specs.List.{AllByRecursion}
use Rattle.serde_json.specs.Data.{Data, string, array, object, Members, member, no_members}
use Rattle.serde_json.specs.View.{items_of}
use Rattle.rtgs_money.specs.Date.{date_text}
use Rattle.rtgs_book.specs.declared.day.Day.{Day}
use Rattle.rtgs_book.specs.declared.phase.Phase.{Phase}
use Rattle.rtgs_book.specs.declared.phase.Phase.TheVariants as phase
use Rattle.rtgs_book.specs.declared.account_reading.AccountReading.{AccountReading}
use Rattle.rtgs_http_bodies.specs.replies.Bodies.{whole, signed}

abbrev pub phase_name : Phase → List ℕ
phase_name phase.Closed = codes "CLOSED"
phase_name phase.Open = codes "OPEN"
phase_name phase.CutOff = codes "CUTOFF"

-- an account's members from its name on; the orders of its queue pay so much together
abbrev pub account_members : ℤ → AccountReading → Members
account_members value reading = member (codes "name") (string reading.participant.name)
    (member (codes "phase") (string (phase_name reading.day.phase)) (member (codes "queued") (whole reading.queued)
    (member (codes "queued_value") (signed value) no_members)))

-- the date of the day, once there was one, before the other members
abbrev pub with_date : Option ℕ → Members → Members
with_date (Some date) members = member (codes "date") (string (date_text date)) members
with_date None members = members

-- an account whose queue pays so much
abbrev pub account_with : ℤ → AccountReading → Data
account_with value reading = object (member (codes "balance") (signed reading.balance)
    (member (codes "code") (string reading.participant.code) (member (codes "credit") (whole reading.participant.credit)
    (with_date reading.day.date (account_members value reading)))))

-- what a participant is shown of its account
abbrev pub account_data : AccountReading → Data
account_data reading = account_with reading.queued_value reading

-- what an account must still get before the day can be closed: as much as its balance is below zero
abbrev pub lacking : ℤ → ℕ
lacking balance = if int_lt balance (pos 0) then unsigned_abs balance else 0

-- one of all accounts, whose queue pays so much
abbrev pub listed_with : ℤ → AccountReading → Data
listed_with value reading = object (member (codes "balance") (signed reading.balance)
    (member (codes "code") (string reading.participant.code) (member (codes "credit") (whole reading.participant.credit)
    (member (codes "lacking") (whole (lacking reading.balance)) (member (codes "name") (string reading.participant.name)
    (member (codes "queued") (whole reading.queued) (member (codes "queued_value") (signed value) no_members)))))))

-- what the operator is shown of one of all accounts
abbrev pub listed : AccountReading → Data
listed reading = listed_with reading.queued_value reading

-- the phase of the day, after its date once there was one
abbrev pub day_members : Day → Members
day_members day = with_date day.date (member (codes "phase") (string (phase_name day.phase)) no_members)

-- what the operator is shown of all accounts on this day
abbrev pub accounts_data : Day → List AccountReading → Data
accounts_data day readings =
    object (member (codes "accounts") (array (items_of (map listed readings))) (day_members day))

-- 64 bits hold what each queue pays together
abbrev pub QueuedValuesFit : List AccountReading → Type 0
QueuedValuesFit readings = AllByRecursion (λ (reading : AccountReading). FitsSigned w64 reading.queued_value) readings
