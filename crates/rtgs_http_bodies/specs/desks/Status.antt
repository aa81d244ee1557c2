-- The value that the body of a reply on the whole desk spells. Keys stand in byte order.
use Rattle.std.specs.Prelude.{ℕ, Option, Some, None, codes, FitsSigned}
use Rattle.std.specs.Int.{w64}
use Rattle.serde_json.specs.Data.{Data, boolean, string, object, Members, member, no_members, put}
use Rattle.rtgs_money.specs.Date.{date_text}
use Rattle.rtgs_book.specs.Books.{is_automatic}
use Rattle.rtgs_book.specs.declared.status.Status.{Status}
use Rattle.rtgs_http_bodies.specs.desks.Accounts.{phase_name}
use Rattle.rtgs_http_bodies.specs.replies.Bodies.{whole, signed}
use Rattle.rtgs_release.specs.Release.{program_version}
use Rattle.rtgs_release.specs.declared.TheConstants.{TABLES_VERSION}

-- a date, if there is one, as one member more
abbrev pub dated : Option ℕ → Members → Members
dated None members = members
dated (Some date) members = put (codes "date") (string (date_text date)) members

-- what is held, how many participants there are and which numbers come next, before other members
abbrev pub counted_members : Status → Members → Members
counted_members status members = member (codes "automatic") (boolean (is_automatic status.day))
    (member (codes "held") (whole status.held.count) (member (codes "held_value") (signed status.held.value)
    (member (codes "next_mark") (whole status.next_mark) (member (codes "next_order") (whole status.next_order)
    (member (codes "next_posting") (whole status.next_posting)
    (member (codes "participants") (whole status.participants) members))))))

-- the phase, what is queued, all balances together, and the versions of the tables and of the program
abbrev pub summed_members : Status → Members
summed_members status = member (codes "phase") (string (phase_name status.day.phase))
    (member (codes "queued") (whole status.queued.count) (member (codes "queued_value") (signed status.queued.value)
    (member (codes "sum") (signed status.sum) (member (codes "tables") (whole TABLES_VERSION)
    (member (codes "version") (string program_version) no_members)))))

-- how the desk stands, with the date once a day was opened
abbrev pub status_data : Status → Data
status_data status = object (dated status.day.date (counted_members status (summed_members status)))

-- 64 bits hold each number of cents in it
pub record StatusFits (status : Status) : Type 0 where
  pub queued : FitsSigned w64 status.queued.value
  pub held : FitsSigned w64 status.held.value
  pub sum : FitsSigned w64 status.sum
