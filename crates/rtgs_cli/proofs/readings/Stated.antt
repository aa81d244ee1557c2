-- What is said of a book of which a statement was written, once it was closed.
use Rattle.std.proofs.Common.{◌≡◌, ◌∙◌, ℕ, true, List, Option, Result, Ok, Err, refl, sym, ap}
use Rattle.std.specs.Bool.{⊤}
use Rattle.std.specs.Result.{IfOk}
use Rattle.std.proofs.lemmas.Result.{IfOk-at_ok}
use Rattle.rtgs_book.specs.declared.reading.Reading.TheVariants as reading
use Rattle.rtgs_book.specs.declared.refusal.Refusal.TheVariants.{StoreFault, UnknownParticipant}
use Rattle.rtgs_desk.specs.Seen.{Seen}
use Rattle.rtgs_statements.specs.Reads.{LeavesLines}
use Rattle.rtgs_statements.specs.declared.book_text_fault.BookTextFault.{BookTextFault}
use Rattle.rtgs_statements.specs.declared.book_text_fault.BookTextFault.TheVariants as text
use Rattle.rtgs_output.specs.declared.text_fault.TextFault.TheVariants as fault
use Rattle.rtgs_cli_lines.specs.declared.failure.Failure.{Failure}
use Rattle.rtgs_cli_lines.specs.declared.failure.Failure.TheVariants.{Refused}
use Rattle.rtgs_cli_lines.specs.declared.printed.Printed.{Printed}
use Rattle.rtgs_book_file.specs.OverFile.{OverFile}
use Rattle.rtgs_cli.specs.declared.files.used.Used.{Used}
use Rattle.rtgs_cli.specs.declared.files.used.Used.TheVariants as used
use Rattle.rtgs_cli.specs.declared.files.touched.Touched.{Touched}
use Rattle.rtgs_cli.specs.declared.files.touched.Touched.TheVariants as traces
use Rattle.rtgs_cli.specs.readings.Outcomes.{outcome_of_text}
use Rattle.rtgs_cli.specs.readings.Readings.{IsStated, IsWritten, States}

-- what ends as an unknown code was refused so
pub refused_as_unknown : (written : Result ⊤ BookTextFault)
    → outcome_of_text written ≡ Err (Refused UnknownParticipant) → written ≡ Err (text.Refused UnknownParticipant)
refused_as_unknown (Ok done) is_outcome =
    let no : ⊥ = cc in
    absurd no
refused_as_unknown (Err (text.Refused refusal)) is_outcome =
    let same : refusal ≡ UnknownParticipant = cc in
    ap (λ refusal. Err (text.Refused refusal)) same
refused_as_unknown (Err (text.Text fault.OutOfMemory)) is_outcome =
    let no : ⊥ = cc in
    absurd no
refused_as_unknown (Err (text.Text (fault.Write failed))) is_outcome =
    let no : ⊥ = cc in
    absurd no

module _ {K B U C E O : Type 0} (A F P N : Type 0) (file : OverFile K U C) (desk_of : B → Seen K)
    (contents : O → Option (List ℕ)) (code : List ℕ) (date : ℕ) (finished : Result (B × Result ⊤ BookTextFault) E)
    (old new : O) where
  module _ (stated : IfOk finished (λ p. IsWritten file code date p.1 (contents old) (contents new) (desk_of p.0)))
      (fault : IfOk finished (λ p. p.1 ≡ Err (text.Refused StoreFault)
      → file.keeper.has_failed (desk_of p.0).keeper ≡ true))
      (lines : IfOk finished (λ p. LeavesLines p.1 (contents old) (contents new)))
      (book : B) (written : Result ⊤ BookTextFault) (is : finished ≡ Ok (book, written)) (closed : C)
      (shut : file.facts.was_closed (desk_of book).keeper closed) where
    -- what the run touched
    abbrev shown : Touched A U C (Used F P N)
    shown = traces.Book closed used.Nothing

    stated_with : IsStated file shown code date written (contents old) (contents new)
    stated_with = record {
      left = desk_of book;
      closed = (closed, refl, shut);
      stated = IfOk-at_ok (λ p. IsWritten file code date p.1 (contents old) (contents new) (desk_of p.0)) is stated;
      fault = IfOk-at_ok (λ p. p.1 ≡ Err (text.Refused StoreFault)
          → file.keeper.has_failed (desk_of p.0).keeper ≡ true) is fault;
      lines = IfOk-at_ok (λ p. LeavesLines p.1 (contents old) (contents new)) is lines;
    }

    -- it gave what the text that was written so gives
    pub states : (result outcome : Result Printed Failure) → result ≡ outcome_of_text written → result ≡ outcome
        → States file (reading.Statement code date) shown outcome (contents old) (contents new)
    states result outcome is_outcome same = (code, date, written, refl, sym same ∙ is_outcome, stated_with)
