-- What a run gives that wrote a text of the book like this.
use Rattle.std.specs.Prelude.{⊤, Result, Ok, Err}
use Rattle.rtgs_statements.specs.declared.book_text_fault.BookTextFault.{BookTextFault}
use Rattle.rtgs_statements.specs.declared.book_text_fault.BookTextFault.TheVariants as text
use Rattle.rtgs_cli_lines.specs.Texts.{outcome_of}
use Rattle.rtgs_cli_lines.specs.declared.failure.Failure.{Failure}
use Rattle.rtgs_cli_lines.specs.declared.failure.Failure.TheVariants.{Refused}
use Rattle.rtgs_cli_lines.specs.declared.printed.Printed.{Printed}
use Rattle.rtgs_cli_lines.specs.declared.printed.Printed.TheVariants.{Whole}

-- printed whole; refused, as a read was, or for lack of memory; or lost, where the writer failed
abbrev pub outcome_of_text : Result ⊤ BookTextFault → Result Printed Failure
outcome_of_text (Ok done) = Ok Whole
outcome_of_text (Err (text.Refused refusal)) = Err (Refused refusal)
outcome_of_text (Err (text.Text fault)) = outcome_of (Err fault)
