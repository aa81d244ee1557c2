-- What reading a file of orders gives.
use Rattle.std.specs.Prelude.{◌≡◌, ◌⊎◌, ◌<◌, ◌≤◌, ℕ, List, Result, Ok, Err, length}
use Rattle.std.specs.IoError.{error_kind}
use Rattle.std.specs.declared.io.Error.{Error}
use Rattle.std.specs.declared.io.ErrorKind.{ErrorKind}
use Rattle.std.specs.declared.io.ErrorKind.TheVariants as kind
use Rattle.rtgs_book.specs.declared.refusal.Refusal.TheVariants.{OutOfMemory}
use Rattle.rtgs_order_files.specs.OrderFile.{IsOrderFile, IsFaultOf}
use Rattle.rtgs_order_files.specs.declared.batch_fault.BatchFault.{BatchFault}
use Rattle.rtgs_order_files.specs.declared.limits.TheConstants.{MOST_BYTES}
use Rattle.rtgs_book.specs.declared.new_order.NewOrder.{NewOrder}
use Rattle.rtgs_cli_lines.specs.declared.failure.Failure.{Failure}
use Rattle.rtgs_cli_lines.specs.declared.failure.Failure.TheVariants.{Refused, Orders, OrdersTooLong, NoOrders}

-- lack of memory, or a file of orders that cannot be read
abbrev pub failure_of_reading : ErrorKind → Failure
failure_of_reading kind.OutOfMemory = Refused OutOfMemory
failure_of_reading _ = NoOrders

-- What was read of a file of orders is taken as it is, where it has no more bytes than such a file may have. `bytes_of`
-- gives the bytes of what was read.
abbrev pub IsFileTaken : {V : Type 0} → (V → List ℕ) → Result V Error → Result V Failure → Type 0
IsFileTaken bytes_of (Ok read) (Ok taken) = (bytes_of taken ≡ bytes_of read) × (length (bytes_of read) ≤ MOST_BYTES)
IsFileTaken bytes_of (Ok read) (Err failure) = (failure ≡ OrdersTooLong) × (MOST_BYTES < length (bytes_of read))
IsFileTaken bytes_of (Err error) result = result ≡ Err (failure_of_reading (error_kind error))

-- the rows of a file of orders, as its bytes were read
abbrev pub AreRowsOf : {V : Type 0} → (V → List ℕ) → Result V Error → List NewOrder → Type 0
AreRowsOf bytes_of (Ok read) rows = (length (bytes_of read) ≤ MOST_BYTES) × IsOrderFile (bytes_of read) rows
AreRowsOf bytes_of (Err error) rows = ⊥

-- Why no row of a file of orders is submitted that was read so: it is too long; it is not, and its bytes are no order
-- file, or memory runs out; or the error of reading it says why.
abbrev pub RefusesRows : {V : Type 0} → (V → List ℕ) → Result V Error → Failure → Type 0
RefusesRows bytes_of (Ok read) why =
    ((why ≡ OrdersTooLong) × (MOST_BYTES < length (bytes_of read)))
    ⊎ ((length (bytes_of read) ≤ MOST_BYTES) × ((why ≡ Refused OutOfMemory)
    ⊎ ((fault : BatchFault) × IsFaultOf (bytes_of read) fault × (why ≡ Orders fault))))
RefusesRows bytes_of (Err error) why = why ≡ failure_of_reading (error_kind error)
