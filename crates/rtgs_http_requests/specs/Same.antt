-- Answers that say the same.
use Rattle.std.specs.Prelude.{◌≡◌, Ok, Err}
use Rattle.rtgs_http_requests.specs.Meaning.{Answer}
use Rattle.rtgs_http_requests.specs.declared.asked.Asked.{Asked}
use Rattle.rtgs_http_requests.specs.declared.asked.Asked.TheVariants.{Submit, Batch, Read}

-- The same is asked; of a batch the rows are compared, and not the room that they have in memory.
abbrev pub AskTheSame : Asked → Asked → Type 0
AskTheSame (Submit one) (Submit other) = one ≡ other
AskTheSame (Batch one rows) (Batch other more) = (one ≡ other) × (rows.items ≡ more.items)
AskTheSame (Read one) (Read other) = one ≡ other
AskTheSame _ _ = ⊥

-- The same is asked, or both are the same fault.
abbrev pub AreTheSame : Answer → Answer → Type 0
AreTheSame (Ok one) (Ok other) = AskTheSame one other
AreTheSame (Err one) (Err other) = one ≡ other
AreTheSame _ _ = ⊥
