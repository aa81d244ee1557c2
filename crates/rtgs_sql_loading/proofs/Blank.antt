-- A query of a table that is not there.
use Rattle.std.proofs.Common.{◌≡◌, List, Ok, Err, Result, refl, sym, ap, ◌∙◌}
use Rattle.sqlite.specs.Order.{Row}
use Rattle.sqlite.specs.Effect.{Database}
use Rattle.sqlite.specs.Listing.{understood, listing_schema}
use Rattle.sqlite.specs.State.{State}
use Rattle.sqlite_tied.specs.Compute.{everything}
use Rattle.sqlite_resolve.specs.declared.compiled.Compiled.{Compiled}
use Rattle.sqlite_resolve.specs.declared.error.CompileError.{CompileError}
use Rattle.sqlite_resolve.specs.declared.error.CompileError.TheVariants.{NoSuchTable}
use Rattle.rtgs_rows.specs.Tables.{no_schema, desk_table}
use Rattle.rtgs_sql_columns.specs.Blank.{IsBlank}
use Rattle.rtgs_sql_columns.specs.Tables.{query_text}
use Rattle.rtgs_sql_queries.specs.Displaying.{Displays}

no_desk : understood no_schema (query_text desk_table) ≡ Err NoSuchTable
unfolding understood listing_schema everything
no_desk = refl

pub unshown : (s : State) → IsBlank s → (rows : List Row) → ¬ Displays s.now (query_text desk_table) rows
unshown s blank rows shows =
    let schema = ap (λ (d : Database). d.schema) blank.clean ∙ blank.schema in
    let clash : ◌≡◌ {A = Result Compiled CompileError} (Err NoSuchTable) (Ok shows.0) = sym no_desk
    ∙ sym (ap (λ s. understood s (query_text desk_table)) schema) ∙ shows.1 in
    absurd cc
