-- What an opening answers.
use Rattle.std.specs.Prelude.{◌≡◌, ◌⊎◌, ℕ}
use Rattle.rtgs_book.specs.declared.fault.Fault.{Fault}
use Rattle.rtgs_book.specs.declared.fault.Fault.TheVariants.{Inconsistent}
use Rattle.rtgs_book.specs.declared.rule.Rule.TheVariants.{Calm}
use Rattle.rtgs_book.specs.Refusals.{fault_kind_of}
use Rattle.rtgs_refusals.specs.Table.{entry_of}
use Rattle.rtgs_book_file.specs.stored_desk.Stored.{IsMemoryOrStore}

abbrev pub fault_number : Fault → ℕ
fault_number fault = (entry_of (fault_kind_of fault)).number

-- 90 is lack of memory, 91 a fault of the store, 93 no desk's tables, and 94 a rule that the book breaks
abbrev pub HasOpeningNumber : Fault → Type 0
HasOpeningNumber fault = (fault_number fault ≡ 90) ⊎ ((fault_number fault ≡ 91)
    ⊎ ((fault_number fault ≡ 93) ⊎ (fault_number fault ≡ 94)))

-- lack of memory, a fault of the store, or that the book is not calm
abbrev pub IsOfABook : Fault → Type 0
IsOfABook fault = IsMemoryOrStore fault ⊎ (fault ≡ Inconsistent Calm)
