-- What is said of one reading is said of another that is the same.
use Rattle.std.proofs.Common.{◌≡◌, ◌≢◌, ℕ, true, List, Option, Result, refl, sym, subst}
use Rattle.std.specs.Result.{IfOk, IfErr}
use Rattle.rtgs_book.specs.declared.reading.Reading.{Reading}
use Rattle.rtgs_book.specs.declared.reading.Reading.TheVariants as reading
use Rattle.rtgs_cli_lines.specs.declared.failure.Failure.{Failure}
use Rattle.rtgs_cli_lines.specs.declared.printed.Printed.{Printed}
use Rattle.rtgs_book_file.specs.OverFile.{OverFile}
use Rattle.rtgs_cli.specs.declared.files.used.Used.{Used}
use Rattle.rtgs_cli.specs.declared.files.touched.Touched.{Touched}
use Rattle.rtgs_cli.specs.readings.Readings.{is_gathered, Denies, Shows}

-- the text of each reading but a statement is gathered
pub gathered : (asked : Reading) → ((code : List ℕ) (date : ℕ) → asked ≢ reading.Statement code date)
    → is_gathered asked ≡ true
gathered (reading.Order sender reference) other = refl
gathered (reading.Account code) other = refl
gathered reading.Accounts other = refl
gathered (reading.Queue code) other = refl
gathered (reading.Held code) other = refl
gathered (reading.Waiting code) other = refl
gathered reading.Queues other = refl
gathered reading.Status other = refl
gathered (reading.Statement code date) other = absurd (other code date refl)
gathered (reading.Report date) other = refl
gathered (reading.Orders date) other = refl
gathered (reading.Marks date) other = refl

module _ {A K U C F P N : Type 0} (file : OverFile K U C) (touched : Touched A U C (Used F P N)) {asked other : Reading}
    (same : asked ≡ other) where
  pub shown_for : (result : Result Printed Failure) (old new : Option (List ℕ))
      → IfOk result (λ printed. Shows file other touched printed old new)
      → IfOk result (λ printed. Shows file asked touched printed old new)
  shown_for result old new =
      subst (λ reading. IfOk result (λ printed. Shows file reading touched printed old new)) (sym same)

  pub denied_for : {O : Type 0} (contents : O → Option (List ℕ)) (result : Result Printed Failure) (out out' : O)
      → IfErr result (λ why. Denies file contents other touched why out out')
      → IfErr result (λ why. Denies file contents asked touched why out out')
  denied_for contents result out out' =
      subst (λ reading. IfErr result (λ why. Denies file contents reading touched why out out')) (sym same)
