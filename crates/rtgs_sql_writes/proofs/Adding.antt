-- What an INSERT of one record does, where a table's rows stand in the order of their numbers.
use Rattle.std.proofs.Common.{◌≡◌, ℕ, ℤ, ◌<◌, ◌/◌, List, [], ◌∷◌, ◌++◌, map, length, Ok, Err, Result, OnOk, ap, ◌∙◌}
use Rattle.std.specs.Ordering.{int_cmp}
use Rattle.std.specs.declared.cmp.Ordering.TheVariants.{Less}
use Rattle.sqlite.specs.declared.types.Value.TheVariants.{Int}
use Rattle.sqlite.specs.declared.error.Error.{Error}
use Rattle.sqlite.specs.Order.{Row}
use Rattle.sqlite.specs.Term.{Term}
use Rattle.sqlite.specs.Source.TheVariants.{Values}
use Rattle.sqlite.specs.Command.TheVariants.{Insert}
use Rattle.sqlite.specs.Edit.{edit_of, edited}
use Rattle.sqlite.specs.Rowids.TheVariants.{Chosen}
use Rattle.sqlite.specs.Rows.{stamped}
use Rattle.sqlite.specs.Tree.{Trees, put_row, rowid, IsAscending}
use Rattle.sqlite.specs.Effect.{Database, value_rows}
use Rattle.sqlite.specs.State.{State, ExecutesInside}
use Rattle.rtgs_rows.specs.Tables.{current_tables}
use Rattle.rtgs_sql_writes.specs.Building.{table_at}
use Rattle.rtgs_rows.specs.Content.{Content, IsUnderWay, tables_of, tables_for}
use Rattle.rtgs_sql_writes.proofs.Lists.{put_last, before_last}
use Rattle.rtgs_sql_writes.proofs.StateLemmas.{with_tree, framed, stands_on}
use Rattle.rtgs_sql_writes.proofs.Writing.{IsUnderstoodAs, inserted}

-- the text inserts one row of these terms into the table at that place
module _ {A : Type 0} (text : List ℕ) (at : ℕ) (low : at < length current_tables) (terms : List Term) (width : ℕ)
    (row : A → Row) (id : A → ℤ) (is_id : (a : A) → rowid (row a) ≡ Int (id a))
    (means : IsUnderstoodAs text (Insert at (Values terms width))) where
  -- and with these parameters the row of this record
  pub adds : (params : Row) (it : A) → ((trees : Trees) → edited trees (edit_of trees (table_at at) [] Chosen 0
      (value_rows (stamped (table_at at) params) width (length terms / width) terms))
      ≡ put_row (row it) (trees (table_at at).tree))
      → (was : Database) (content after : Content) (all : List A) (old new : State) (r : Result ℕ Error)
      → IsUnderWay was content old → old.now.trees (table_at at).tree ≡ map row all
      → IsAscending (λ a b. int_cmp (id a) (id b) ≡ Less) (all ++ it ∷ [])
      → tables_of (with_tree (table_at at).tree (map row (all ++ it ∷ [])) old.now.trees) ≡ tables_for after
      → ExecutesInside 0 text params old new r → OnOk r (IsUnderWay was after new)
  adds params it edit was content after all old new (Err e) stands here rise next h = tt
  adds params it edit was content after all old new (Ok count) stands here rise next h =
      let made = inserted text at low old new params count stands.schema h.0 terms width means in
      let below = before_last (λ (a b : A). int_cmp (id a) (id b) ≡ Less) all it rise in
      let rows : new.now.trees (table_at at).tree ≡ map row (all ++ it ∷ []) = made.rows ∙ edit old.now.trees
      ∙ ap (put_row (row it)) here ∙ put_last row id is_id it all below in
      stands_on was old new content after stands h.1 made.schema made.sound
      (framed (table_at at).tree old.now.trees new.now.trees _ rows made.frame ∙ next)
