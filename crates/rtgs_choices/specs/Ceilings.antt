-- For how long nothing that is queued in a book can settle.
use Rattle.std.specs.Prelude.{ℕ, ℤ, ◌-ℤ◌, ◌<ℤ◌, List}
use Rattle.std.specs.List.{AllByRecursion}
use Rattle.rtgs_book.specs.declared.book.Book.{Book}
use Rattle.rtgs_book.specs.Balance.{balance, floor}
use Rattle.rtgs_book.specs.Lookup.{codes_of}
use Rattle.rtgs_gridlock.specs.Slack.{IsCeiling}
use Rattle.rtgs_choices.specs.ByIndex.{code_at, queues_of}

-- for each code, what its headroom has to stay below
abbrev pub Limits : Type 0
Limits = List ℕ → ℤ

-- nothing of these queues can settle while each headroom is below its limit
abbrev pub IsCeilingOf : Book → Limits → Type 0
IsCeilingOf book limits = IsCeiling (queues_of book) (λ _. 0) (λ i. limits (code_at book i))

-- how far a balance is above its floor
abbrev pub headroom : Book → List ℕ → ℤ
headroom book code = balance book code -ℤ floor book code

-- each headroom is below its limit
abbrev pub AreBelow : Book → Limits → Type 0
AreBelow book limits = AllByRecursion (λ code. headroom book code <ℤ limits code) (codes_of book)
