-- How a run ends that prints on standard output: what it did, the results of a file of orders, a statement, a report.
use Rattle.std.specs.Prelude.{◌≡◌, ℕ, ⊤, List, Result, Ok, Err, Option, None, Some}
use Rattle.std.specs.Io.KnownBytes.{Appends}
use Rattle.rtgs_refusals.specs.declared.exit_status.TheConstants.{DONE, MISUSED, FAILED}
use Rattle.rtgs_book.specs.declared.refusal.Refusal.{Refusal}
use Rattle.rtgs_book.specs.declared.refusal.Refusal.TheVariants.{OutOfMemory}
use Rattle.rtgs_output.specs.Sent.{AppendsPart}
use Rattle.rtgs_output.specs.declared.text_fault.TextFault.{TextFault}
use Rattle.rtgs_output.specs.declared.text_fault.TextFault.TheVariants as fault
use Rattle.rtgs_output.specs.declared.writer_failed.WriterFailed.{WriterFailed}
use Rattle.rtgs_cli_lines.specs.Failures.{failure_entry_of}
use Rattle.rtgs_cli_lines.specs.declared.ended.Ended.{Ended}
use Rattle.rtgs_cli_lines.specs.declared.ended.Ended.TheVariants as ended
use Rattle.rtgs_cli_lines.specs.declared.failure.Failure.{Failure}
use Rattle.rtgs_cli_lines.specs.declared.failure.Failure.TheVariants.{Refused}
use Rattle.rtgs_cli_lines.specs.declared.printed.Printed.{Printed}
use Rattle.rtgs_cli_lines.specs.declared.printed.Printed.TheVariants.{Whole, Stopped, Lost}

-- whole, or lost where the writer failed
abbrev pub printed_of : Result ⊤ WriterFailed → Printed
printed_of (Ok _) = Whole
printed_of (Err failed) = Lost failed

-- the same of a text that is made first, or a refusal for lack of memory
abbrev pub outcome_of : Result ⊤ TextFault → Result Printed Failure
outcome_of (Ok _) = Ok Whole
outcome_of (Err fault.OutOfMemory) = Err (Refused OutOfMemory)
outcome_of (Err (fault.Write failed)) = Ok (Lost failed)

-- results that were printed whole end their run where their batch stopped
abbrev pub after_batch : Printed → Option Refusal → Printed
after_batch Whole None = Whole
after_batch Whole (Some refusal) = Stopped refusal
after_batch (Stopped before) stopped = Stopped before
after_batch (Lost failed) stopped = Lost failed

-- What a writer holds where a run had this text to print, and its batch stopped so, if it did: all of the text, or
-- where the writer failed a beginning of it and not all.
abbrev pub Prints : List ℕ → Option Refusal → Printed → Option (List ℕ) → Option (List ℕ) → Type 0
Prints text stopped Whole old new = (stopped ≡ None) × Appends old new text
Prints text stopped (Stopped refusal) old new = (stopped ≡ Some refusal) × Appends old new text
Prints text stopped (Lost failed) old new = AppendsPart old new text

abbrev pub printed_status : Printed → ℕ
printed_status Whole = DONE
printed_status (Stopped refusal) = FAILED
printed_status (Lost failed) = FAILED

-- the status of the run: of what it printed, of its refusal, of help, or of misuse
abbrev pub ended_status : Ended → Option ℕ
ended_status (ended.Printed printed) = Some (printed_status printed)
ended_status (ended.Refused failure written) = (failure_entry_of failure).exit_status
ended_status (ended.Helped written) = Some (printed_status (printed_of written))
ended_status (ended.Misused written) = Some MISUSED
