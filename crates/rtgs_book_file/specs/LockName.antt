-- How the lock of a book's file is named, and which file was refused.
use Rattle.std.specs.Prelude.{◌≡◌, ◌++◌, ℕ, List, Option, Some, None, codes}
use Rattle.rtgs_book.specs.declared.fault.Fault.TheVariants.{OutOfMemory}
use Rattle.rtgs_book_file.specs.declared.file_fault.FileFault.{FileFault}
use Rattle.rtgs_book_file.specs.declared.file_fault.FileFault.TheVariants.{Book}

-- the name of a lock's own file, which stands beside the book's
abbrev pub lock_name : List ℕ → List ℕ
lock_name path = path ++ codes ".lock"

-- It is refused with this fault, and it is the file at this path, by the name of its lock; or memory ran out for
-- that name. `bytes_of` gives the bytes of a name.
abbrev pub IsOfLock : {N : Type 0} → (N → List ℕ) → List ℕ → Option N → FileFault → Type 0
IsOfLock bytes_of path (Some name) fault = bytes_of name ≡ lock_name path
IsOfLock bytes_of path None fault = fault ≡ Book OutOfMemory
