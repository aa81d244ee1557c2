-- How the parts of a change follow one another.
use Rattle.std.proofs.Common.{ℕ, List, Ok, Err, Result, IsTrue, OnOk, arith}
use Rattle.sqlite.specs.Order.{Row}
use Rattle.sqlite.specs.declared.error.Error.{Error}
use Rattle.sqlite.specs.Effect.{Database}
use Rattle.sqlite.specs.State.{State, HasCleanDisk, Survives, ExecutesInside}
use Rattle.rtgs_rows.specs.Content.{Content, IsUnderWay}
use Rattle.rtgs_sql_writes.specs.Staging.{ChangesTables}

-- one statement is a part
pub leads : (text : List ℕ) (values : Row) (old new : State) (before after : Content) (r : Result ℕ Error)
    → ((was : Database) → IsUnderWay was before old → ExecutesInside 0 text values old new r
    → OnOk r (IsUnderWay was after new))
    → (HasCleanDisk new → IsTrue old.in_transaction → ExecutesInside 0 text values old new r)
    → OnOk r (ChangesTables old new before after)
leads text values old new before after (Ok count) makes runs =
    λ clean was stands. makes was stands (runs clean (rw stands.inside))
leads text values old new before after (Err e) makes runs = tt

-- and so are two, one after the other
pub leads_on : (a b c : State) (first next last : Content) → Survives b c (λ _. ⊥) → ChangesTables a b first next
    → ChangesTables b c next last → ChangesTables a c first last
leads_on a b c first next last survives one two clean was stands =
    two clean was (one (omega (arith, survives.clean)) was stands)

-- where the second one may fail
pub leads_then : (a b c : State) (first next last : Content) (r : Result ℕ Error) → Survives b c (λ _. ⊥)
    → ChangesTables a b first next → OnOk r (ChangesTables b c next last) → OnOk r (ChangesTables a c first last)
leads_then a b c first next last (Ok count) survives one two = leads_on a b c first next last survives one two
leads_then a b c first next last (Err e) survives one two = tt
