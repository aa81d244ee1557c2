-- The replies that tell why there is no answer: a status, and the value that the body spells. Keys stand in byte order.
use Rattle.std.specs.Prelude.{ℕ, List, codes}
use Rattle.serde_json.specs.Data.{Data, string, object, member, no_members}
use Rattle.rtgs_refusals.specs.Table.{entry_of}
use Rattle.rtgs_refusals.specs.declared.refusal_kind.RefusalKind.TheVariants as kind
use Rattle.rtgs_book.specs.Refusals.{refusal_kind_of}
use Rattle.rtgs_book.specs.declared.refusal.Refusal.{Refusal}
use Rattle.rtgs_book.specs.declared.refusal.Refusal.TheVariants.{Overdrawn}
use Rattle.rtgs_order_files.specs.BatchFaults.{batch_kind_of}
use Rattle.rtgs_order_files.specs.declared.batch_fault.BatchFault.{BatchFault}
use Rattle.rtgs_order_files.specs.declared.batch_fault.BatchFault.TheVariants.{BadRow}
use Rattle.rtgs_http_bodies.specs.replies.Bodies.{whole}
use Rattle.rtgs_http_bodies.specs.replies.Kinds.{kind_status, kind_data}
use Rattle.rtgs_http_bodies.specs.replies.Messages.{Message, json_message}

-- this many participants are below zero, the first in the order of codes this one
abbrev pub overdrawn_data : List ℕ → ℕ → Data
overdrawn_data first count = object (member (codes "code") (whole (entry_of kind.Overdrawn).number)
    (member (codes "count") (whole count) (member (codes "first") (string first)
    (member (codes "name") (string (entry_of kind.Overdrawn).name) no_members))))

-- the desk refused a command or a reading; of participants below zero the count and the first are shown
abbrev pub refused_data : Refusal → Data
refused_data (Overdrawn first count) = overdrawn_data first count
refused_data refusal = kind_data (refusal_kind_of refusal)

abbrev pub refused_message : Refusal → Message
refused_message refusal = json_message (kind_status (refusal_kind_of refusal)) (refused_data refusal)

-- the row with this number is bad
abbrev pub bad_row_data : ℕ → Data
bad_row_data row = object (member (codes "code") (whole (entry_of kind.BadRow).number)
    (member (codes "name") (string (entry_of kind.BadRow).name) (member (codes "row") (whole row) no_members)))

-- a file of orders was refused; of a bad row its number is shown
abbrev pub batch_refused_data : BatchFault → Data
batch_refused_data (BadRow row) = bad_row_data row
batch_refused_data fault = kind_data (batch_kind_of fault)

abbrev pub batch_refused_message : BatchFault → Message
batch_refused_message fault = json_message (kind_status (batch_kind_of fault)) (batch_refused_data fault)
