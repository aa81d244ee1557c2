-- What a run's refusal is known by, and what is printed of it.
use Rattle.std.specs.Prelude.{ℕ, List, [], ◌++◌, codes, decimal, nat_lt, if◌then◌else◌}
use Rattle.rtgs_refusals.specs.Table.{Entry, entry_of}
use Rattle.rtgs_refusals.specs.declared.refusal_kind.RefusalKind.{RefusalKind}
use Rattle.rtgs_refusals.specs.declared.refusal_kind.RefusalKind.TheVariants as kind
use Rattle.rtgs_money.specs.Lexical.{lexical_kind_of}
use Rattle.rtgs_book.specs.Refusals.{refusal_kind_of, fault_kind_of}
use Rattle.rtgs_book.specs.Judgement as rules
use Rattle.rtgs_book.specs.declared.refusal.Refusal.{Refusal}
use Rattle.rtgs_book.specs.declared.refusal.Refusal.TheVariants.{Overdrawn}
use Rattle.rtgs_book.specs.declared.fault.Fault.{Fault}
use Rattle.rtgs_book.specs.declared.fault.Fault.TheVariants as fault
use Rattle.rtgs_cli_lines.specs.declared.failure.Failure.{Failure}
use Rattle.rtgs_cli_lines.specs.declared.failure.Failure.TheVariants.{Form, Refused, Opening, InUse, FileExists}
use Rattle.rtgs_cli_lines.specs.declared.failure.Failure.TheVariants.{Orders, OrdersTooLong, NoOrders, NoListen}
use Rattle.rtgs_order_files.specs.BatchFaults.{batch_kind_of}
use Rattle.rtgs_order_files.specs.declared.batch_fault.BatchFault.{BatchFault}
use Rattle.rtgs_order_files.specs.declared.batch_fault.BatchFault.TheVariants.{BadRow}

abbrev pub failure_kind_of : Failure → RefusalKind
failure_kind_of (Form form) = lexical_kind_of form
failure_kind_of (Refused refusal) = refusal_kind_of refusal
failure_kind_of (Opening fault) = fault_kind_of fault
failure_kind_of InUse = kind.InUse
failure_kind_of FileExists = kind.FileExists
failure_kind_of (Orders fault) = batch_kind_of fault
failure_kind_of OrdersTooLong = kind.BodyTooLong
failure_kind_of NoOrders = kind.NoOrderFile
failure_kind_of NoListen = kind.NoListen

abbrev pub failure_entry_of : Failure → Entry
failure_entry_of failure = entry_of (failure_kind_of failure)

abbrev pub refusal_detail : Refusal → List ℕ
refusal_detail (Overdrawn first count) = codes " " ++ first ++ codes " " ++ decimal count
refusal_detail _ = []

abbrev pub fault_detail : Fault → List ℕ
fault_detail (fault.Inconsistent rule) = codes " " ++ decimal (rules.rule_number rule)
fault_detail fault.OutOfMemory = []
fault_detail fault.StoreFault = []
fault_detail fault.NotADeskFile = []

-- the first bad row
abbrev pub batch_detail : BatchFault → List ℕ
batch_detail (BadRow row) = codes " " ++ decimal row
batch_detail _ = []

-- what stands behind the name: the first code and the count, the broken rule, or the row
abbrev pub detail_of : Failure → List ℕ
detail_of (Refused refusal) = refusal_detail refusal
detail_of (Opening fault) = fault_detail fault
detail_of (Form form) = []
detail_of InUse = []
detail_of FileExists = []
detail_of (Orders fault) = batch_detail fault
detail_of OrdersTooLong = []
detail_of NoOrders = []
detail_of NoListen = []

-- the number in two digits
abbrev pub two_digits : ℕ → List ℕ
two_digits number = (if nat_lt number 10 then codes "0" else []) ++ decimal number

abbrev pub failure_line : Failure → List ℕ
failure_line failure =
    codes "refused " ++ two_digits (failure_entry_of failure).number ++ codes " " ++ (failure_entry_of failure).name
    ++ detail_of failure
