-- What is said of one request is said of another that is the same.
use Rattle.std.proofs.Common.{◌≡◌, ℕ, List, Option, Result, sym, subst}
use Rattle.std.specs.Result.{IfOk, IfErr}
use Rattle.rtgs_cli_arguments.specs.requests.Requests.{JudgedRequest}
use Rattle.rtgs_cli_lines.specs.declared.failure.Failure.{Failure}
use Rattle.rtgs_cli_lines.specs.declared.printed.Printed.{Printed}
use Rattle.rtgs_book_file.specs.OverFile.{OverFile}
use Rattle.rtgs_cli.specs.files.Touching.{IsOf}
use Rattle.rtgs_cli.specs.Runs.{file_of, Denies, PrintsFor, Traces}
use Rattle.rtgs_cli.specs.Writers.{Writer}

module _ {A K U C : Type 0} (file : OverFile K U C) (touched : Traces A U C) {asked other : JudgedRequest}
    (same : asked ≡ other) where
  pub printed_for : (result : Result Printed Failure) (old new : Option (List ℕ))
      → IfOk result (λ printed. PrintsFor file other touched printed old new)
      → IfOk result (λ printed. PrintsFor file asked touched printed old new)
  printed_for result old new =
      subst (λ request. IfOk result (λ printed. PrintsFor file request touched printed old new))
      (sym same)

  pub denied_for : {O : Type 0} (out : Writer O) (result : Result Printed Failure)
      → IfErr result (Denies file other out touched) → IfErr result (Denies file asked out touched)
  denied_for out result = subst (λ request. IfErr result (Denies file request out touched)) (sym same)

  pub touched_for : (result : Result Printed Failure) (old new : Option (List ℕ))
      → IfOk result (λ printed. PrintsFor file other touched printed old new) → IsOf file (file_of other) touched
      → IsOf file (file_of asked) touched
  touched_for result old new printed = subst (λ request. IsOf file (file_of request) touched) (sym same)
