-- What a query with parameters leaves, and what it shows.
use Rattle.std.proofs.Common.{◌≡◌, ◌⊎◌, inl, ℕ, List, [], length, false, Ok, Err, Result, IfOk, IfErr}
use Rattle.std.proofs.Common.{Vec, Global, sym, subst}
use Rattle.sqlite.specs.declared.types.Value.TheVariants.{Null}
use Rattle.sqlite.specs.declared.error.Error.{Error}
use Rattle.sqlite.specs.Order.{Row}
use Rattle.sqlite.specs.Query.{Query, IsAnswer}
use Rattle.sqlite_sql.specs.Program.{overlay}
use Rattle.sqlite.specs.State.{State, Shown, FailsToQuery, IsUnchanged, HasCleanDisk, Survives}
use Rattle.sqlite.specs.State.{CommitsShowing}
use Rattle.sqlite.specs.Held.{Held, state}
use Rattle.sqlite.proofs.Callers.{reads_as}
use Rattle.sqlite.proofs.StateLemmas.{survives_weaker}
use Rattle.sqlite_resolve.specs.Compile.{first}
use Rattle.sqlite_trees.specs.declared.store.Store.{Ghosts}
use Rattle.rtgs_rows.specs.Tables.{desk_schema}
use Rattle.rtgs_sql_queries.specs.Answering.{IsQuery, Returnless}
use Rattle.rtgs_sql_queries.specs.TableQueries.{IsOneQuery, Seeks}
use Rattle.rtgs_sql_queries.proofs.ReadingAlone.{commits_nothing, kept_after, intact_after, foreign_after}

module _ (text : List ℕ) (params : Row) (query : Query) (names : List (List ℕ))
    (is : Seeks text (length params) query names) (old new : State) (schema_is : old.now.schema ≡ desk_schema) where
  asked : IsOneQuery old.now.schema text (length params) (record { lets = []; body = query }) names
  asked = subst (λ k. IsOneQuery k text (length params) (record { lets = []; body = query }) names) (sym schema_is)
      is.asks

  -- the answer of the query
  pub answers : (r : Result (Vec Row Global) Error) → IfOk r (λ rows. Shown text params old new rows.items)
      → IfOk r (λ rows. IsAnswer query (overlay old.now.trees []) params rows.items)
  answers (Ok rows) h =
      (reads_as text params old new desk_schema schema_is _ is.asks.command is.asks.plain is.unlisted rows.items
      h).answer
      Null
  answers (Err e) h = tt

early : (text : List ℕ) (params : Row) (old new : State) (r : Result (Vec Row Global) Error)
    → IfErr r (FailsToQuery text params old new)
    → IfErr r (λ e. FailsToQuery text params old new e ⊎ IsUnchanged old new)
early text params old new (Ok rows) failed = tt
early text params old new (Err e) failed = inl failed

pub is_query : {S : Type 0} (g : Ghosts S) (text : List ℕ) (params : Row) → Returnless (first text) → (old new : Held S)
    → (r : Result (Vec Row Global) Error)
    → (HasCleanDisk (state g new) → IfOk r (λ rows. Shown text params (state g old) (state g new) rows.items))
    → (HasCleanDisk (state g new) → IfErr r (FailsToQuery text params (state g old) (state g new)))
    → (old.in_transaction ≡ false → new.in_transaction ≡ false)
    → Survives (state g old) (state g new) (CommitsShowing text params (state g old))
    → IsQuery g old new r
is_query g text params reads old new r ok err mode survives = record {
  survives = survives_weaker (state g old) (state g new) _ _
      (λ _ db commits. commits_nothing text params (state g old) db reads commits) survives;
  mode = mode;
  kept = λ clean. kept_after text params reads (state g old) (state g new) r (ok clean);
  intact = λ clean. intact_after text params reads (state g old) (state g new) r (ok clean)
      (early text params (state g old) (state g new) r (err clean));
  foreign = λ clean. foreign_after text params reads (state g old) (state g new) r
      (early text params (state g old) (state g new) r (err clean));
}
