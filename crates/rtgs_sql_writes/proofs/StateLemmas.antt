-- From one state of a transaction to the next.
use Rattle.std.proofs.Common.{◌≡◌, ◌≢◌, inl, inr, ℕ, ◌==◌, List, [], ◌∷◌, map, true, false, if◌then◌else◌}
use Rattle.std.proofs.Common.{eqb-true, eq-eqb, true≢false, refl, sym, ap, subst, ◌∙◌}
use Rattle.std.proofs.lemmas.Bool.{cases_Bool}
use Rattle.sqlite.specs.Order.{Row}
use Rattle.std.specs.List.{AllByRecursion}
use Rattle.sqlite.specs.Effect.{Database, IsDatabase}
use Rattle.sqlite_catalog.specs.Listing.{IsSound}
use Rattle.sqlite.specs.State.{State, HasCleanDisk, Survives, Shows}
use Rattle.sqlite.specs.Table.{Table}
use Rattle.rtgs_rows.specs.Settling.{current_is_known}
use Rattle.rtgs_rows.specs.Tables.{desk_schema, current_tables, schema_in}
use Rattle.sqlite_trees.specs.declared.store.Store.{Ghosts}
use Rattle.sqlite.specs.Tree.{Trees}
use Rattle.sqlite.specs.Held.{Held, state}
use Rattle.sqlite.proofs.StateLemmas.{survives_then}
use Rattle.sqlite.proofs.Callers.{survives_begin}
use Rattle.rtgs_rows.specs.Content.{tables_of, tables_for, Content, Holds, IsUnderWay, Rests}

-- the database, with its schema written out
abbrev pub desk_over : Trees → Database
desk_over trees = record { schema = desk_schema; trees = trees }

-- no tree of the tables has changed but this one
abbrev pub frame_but : ℕ → Trees → Trees → Type 0
frame_but tree old new = AllByRecursion (λ t. t.tree ≢ tree → new t.tree ≡ old t.tree) desk_schema.tables

-- these rows in place of those of one tree
abbrev pub with_tree : ℕ → List Row → Trees → Trees
with_tree tree rows trees t = if t == tree then rows else trees t

-- so the tables are as they were, with the rows of that tree
module _ (tree : ℕ) (old new : Trees) (rows : List Row) (here : new tree ≡ rows) where
  same_at : (t : ℕ) → (t ≢ tree → new t ≡ old t) → new t ≡ with_tree tree rows old t
  same_at t other = elim (cases_Bool (t == tree)) [
    | inl same ↦ rw same (ap new (eqb-true t tree same) ∙ here)
    | inr apart ↦ rw apart (other (λ same. absurd (true≢false (sym (eq-eqb t tree same) ∙ apart))))
  ]

  all_same : (tables : List Table) → AllByRecursion (λ t. t.tree ≢ tree → new t.tree ≡ old t.tree) tables
      → map (λ (t : Table). new t.tree) tables ≡ map (λ (t : Table). with_tree tree rows old t.tree) tables
  all_same [] others = refl
  all_same (t ∷ tables) others = λ i. same_at t.tree others.0 i ∷ all_same tables others.1 i

  pub framed : frame_but tree old new → tables_of new ≡ tables_of (with_tree tree rows old)
  unfolding schema_in
  framed others = all_same current_tables others

pub stands_on : (was : Database) (old new : State) (content after : Content) → IsUnderWay was content old
    → Shows old new new.now old.committed true → new.now.schema ≡ desk_schema → IsDatabase new.now
    → tables_of new.now.trees ≡ tables_for after
    → IsUnderWay was after new
stands_on was old new content after stands shown schema sound rows = record {
  is_open = shown.is_open;
  inside = shown.mode;
  schema = schema;
  holds = record { sound = subst (λ s. IsSound s new.now.trees) schema sound; rows = rows };
  committed = shown.committed_is ∙ stands.committed;
}

pub stands_begun : {S : Type 0} (g : Ghosts S) (h : Held S) (content : Content) → Rests content (state g h)
    → IsUnderWay (state g h).committed content (state g (record h { in_transaction = true }))
stands_begun g h content rests = record {
  is_open = rests.is_open;
  inside = refl;
  schema = ap (λ (d : Database). d.schema) rests.clean ∙ rests.schema;
  holds = subst (λ (d : Database). Holds content d.trees) (sym rests.clean) rests.holds;
  committed = refl;
}

pub rests_committed : (was : Database) (mid new : State) (content : Content) → IsUnderWay was content mid
    → Shows mid new mid.now mid.now false → Rests content new
rests_committed was mid new content stands shown = record {
  known = current_is_known;
  is_open = shown.is_open;
  schema = ap (λ (d : Database). d.schema) shown.committed_is ∙ stands.schema;
  holds = subst (λ (d : Database). Holds content d.trees) (sym shown.committed_is) stands.holds;
  clean = shown.now_is ∙ sym shown.committed_is;
}

-- a transaction in which nothing commits, and then its commit
pub survives_commit : {S : Type 0} (g : Ghosts S) (old : Held S) (mid new : State) (P : Trees → Type 0)
    → (HasCleanDisk new → P mid.now.trees)
    → Survives (state g (record old { in_transaction = true })) mid (λ _. ⊥)
    → Survives mid new (λ db. db ≡ mid.now.trees) → Survives (state g old) new P
survives_commit g old mid new P made inside ended =
    survives_then (state g old) mid new (λ _. ⊥) (λ db. db ≡ mid.now.trees) P (λ _ db none. absurd none)
    (λ clean db is. subst P (sym is) (made clean)) (survives_begin g old mid _ inside) ended
