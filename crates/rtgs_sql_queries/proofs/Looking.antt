-- What the look at a connection says, by a text that is no statement.
use Rattle.std.proofs.Common.{◌≡◌, ◌≢◌, inl, inr, ℕ, List, [], codes, IfOk, Ok, Err, Result, refl, subst}
use Rattle.sqlite.specs.Schema.{Schema}
use Rattle.sqlite_resolve.specs.declared.compiled.Compiled.{Compiled}
use Rattle.sqlite_resolve.specs.declared.error.CompileError.{CompileError}
use Rattle.sqlite_tied.specs.Compute.{everything}
use Rattle.sqlite.specs.declared.error.Error.{Error}
use Rattle.sqlite.specs.declared.error.Error.TheVariants.{SqlInputError}
use Rattle.sqlite.specs.Listing.{understood}
use Rattle.sqlite.specs.Outline.{Outline}
use Rattle.sqlite.specs.State.{State, IsNotRun}
use Rattle.sqlite.specs.Steps.{Outlines}
use Rattle.rtgs_sql_queries.specs.Faults.{LookFailed}

-- Whatever the schema is, the text of the look is no statement.
pub no_meaning : (schema : Schema) (c : Compiled) → understood schema (codes "OPEN") ≢ Ok c
unfolding understood everything
no_meaning schema c is = cc

no_outline : (schema : Schema) (sql : List ℕ) (shown : Outline) (meant : Result Compiled CompileError)
    → understood schema sql ≡ meant → ((c : Compiled) → understood schema sql ≢ Ok c) → ¬ Outlines meant shown
no_outline schema sql shown (Ok c) is none outlined = none c is
no_outline schema sql shown (Err e) is none outlined = outlined

-- Where a text is no statement, none is prepared.
pub not_prepared : (schema : Schema) (sql : List ℕ) (answer : Result Outline Error) (shown : Outline)
    → ((c : Compiled) → understood schema sql ≢ Ok c)
    → IfOk answer (Outlines (understood schema sql)) → answer ≢ Ok shown
not_prepared schema sql answer shown none outlines is =
    let meant = understood schema sql in
    no_outline schema sql shown meant refl none (subst (λ a. IfOk a (Outlines meant)) is outlines)

-- Where a text is no statement, and was not refused as one that is none, the call failed.
pub look_failed : (old new : State) (sql : List ℕ) (e : Error)
    → ((c : Compiled) → understood old.now.schema sql ≢ Ok c)
    → ((fault : CompileError) → e ≢ SqlInputError fault)
    → IsNotRun old new sql [] e → LookFailed old new
unfolding IsNotRun
look_failed old new sql e none other (inl (inl refused, same)) = absurd (other refused.0 refused.2)
look_failed old new sql e none other (inl (inr meant, same)) = absurd (none meant.0 meant.1)
look_failed old new sql e none other (inr failed) = (e, failed)
