-- What was taken of a file of orders, or refused, as its bytes were read.
use Rattle.std.proofs.Common.{◌≡◌, ◌⊎◌, inl, inr, ℕ, List, Result, Ok, Err, subst}
use Rattle.std.specs.Result.{IfErr}
use Rattle.std.specs.IoError.{error_kind}
use Rattle.std.specs.declared.io.Error.{Error}
use Rattle.rtgs_book.specs.declared.refusal.Refusal.TheVariants.{OutOfMemory}
use Rattle.rtgs_cli_lines.specs.declared.failure.Failure.{Failure}
use Rattle.rtgs_cli_lines.specs.declared.failure.Failure.TheVariants.{Refused, Orders}
use Rattle.rtgs_order_files.specs.OrderFile.{IsOrderFile, IsFaultOf}
use Rattle.rtgs_order_files.specs.declared.batch_fault.BatchFault.{BatchFault}
use Rattle.rtgs_book.specs.declared.new_order.NewOrder.{NewOrder}
use Rattle.rtgs_cli.specs.imports.Causes.{failure_of_reading, IsFileTaken, AreRowsOf, RefusesRows}

module _ {V : Type 0} (bytes_of : V → List ℕ) where
  -- the rows of what was taken are those of what was read
  pub rows_taken : (read : Result V Error) (bytes : V) → IsFileTaken bytes_of read (Ok bytes) → (rows : List NewOrder)
      → IsOrderFile (bytes_of bytes) rows → AreRowsOf bytes_of read rows
  rows_taken (Ok read) bytes taken rows are = (taken.1, subst (λ bytes. IsOrderFile bytes rows) taken.0 are)
  rows_taken (Err error) bytes taken rows are =
      let no : ⊥ = cc in
      absurd no

  -- what was not taken is refused
  pub not_taken : (read : Result V Error) (why : Failure) → IsFileTaken bytes_of read (Err why)
      → RefusesRows bytes_of read why
  not_taken (Ok read) why taken = inl taken
  not_taken (Err error) why taken =
      let is : why ≡ failure_of_reading (error_kind error) = cc in
      is

  -- what was taken, and then refused
  pub taken_refused : {T : Type 0} (read : Result V Error) (bytes : V) → IsFileTaken bytes_of read (Ok bytes)
      → (sent : Result T Failure) → IfErr sent (λ why. (why ≡ Refused OutOfMemory)
      ⊎ ((fault : BatchFault) × IsFaultOf (bytes_of bytes) fault × (why ≡ Orders fault)))
      → IfErr sent (λ why. RefusesRows bytes_of read why)
  taken_refused read bytes taken (Ok done) refused = tt
  taken_refused (Ok read) bytes taken (Err why) refused = inr (
    taken.1,
    subst (λ bytes. (why ≡ Refused OutOfMemory) ⊎ ((fault : BatchFault) × IsFaultOf bytes fault × (why ≡ Orders fault)))
        taken.0 refused,
  )
  taken_refused (Err error) bytes taken (Err why) refused =
      let no : ⊥ = cc in
      absurd no
