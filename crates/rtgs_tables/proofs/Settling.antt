-- What a keeper over a connection holds after a change, and what a stop may leave of it.
use Rattle.std.proofs.Common.{◌≡◌, ◌⊎◌, inl, inr, List, sym, ◌∙◌, arith}
use Rattle.std.specs.List.{AllByRecursion}
use Rattle.sqlite_trees.specs.declared.store.Store.{Ghosts}
use Rattle.sqlite.specs.Tree.{Trees}
use Rattle.sqlite.specs.Held.{Held, state}
use Rattle.sqlite.specs.State.{State, Opens, IsLive, HasCleanDisk, Survives}
use Rattle.rtgs_book.specs.declared.book.Book.{Book}
use Rattle.rtgs_book.specs.declared.change.RowChange.{RowChange}
use Rattle.rtgs_book.specs.Changes.{IsChange}
use Rattle.rtgs_rows.specs.Content.{Content, Holds, Rests, AreInOrder, with_changes}
use Rattle.rtgs_rows.specs.Fitting.{FitsRow}
use Rattle.rtgs_sql_writes.specs.Staging.{HoldsChange}
use Rattle.rtgs_rows.specs.Keeping.{IsBookOf, HoldsBook, MayLeave, IsWhole}
use Rattle.rtgs_rows.specs.Settling.{current_is_known}
use Rattle.rtgs_rows.specs.declared.numbers.TheConstants.{VERSION}
use Rattle.rtgs_rows.specs.RowLaws.{RowsTellTheBook, ChangesStandInOrder, ChangedRowsAreTheBook, DesksAreReadAsSuch}

-- the laws of rows that a change rests on
pub record RowLaws : Type 0 where
  pub tells : RowsTellTheBook
  pub in_order : ChangesStandInOrder
  pub changes : ChangedRowsAreTheBook

-- what a stop may leave where nothing was committed
pub leaves_less : {S : Type 0} (g : Ghosts S) (old new : Held S) → Survives (state g old) (state g new) (λ _. ⊥)
    → HasCleanDisk (state g new) → (other : Book) → MayLeave g new other → MayLeave g old other
leaves_less g old new s clean other left = elim (s.crash clean left.0 left.1)
    [ inl was ↦ (left.0, was, left.2) | inr none ↦ absurd none ]

-- a crash leaves what it could leave before
pub leaves_on : (old new : State) → Survives old new (λ _. ⊥) → HasCleanDisk new → (trees : Trees) → new.may_leave trees
    → old.may_leave trees
leaves_on old new survives clean trees left = elim (survives.crash clean trees left) [
  | inl was ↦ was
  | inr none ↦ absurd none
]

pub stops_at : RowLaws → {S : Type 0} (g : Ghosts S) (old new : Held S) (rows : List RowChange)
    → Survives (state g old) (state g new) (HoldsChange (state g old) rows) → HasCleanDisk (state g new)
    → (before after other : Book) → HoldsBook g old before → IsChange before rows after → MayLeave g new other
    → MayLeave g old other ⊎ (other ≡ after)
stops_at laws g old new rows first clean before after other holds change left =
    elim (first.crash clean left.0 left.1) [
      | inl was ↦ inl (left.0, was, left.2)
      | inr made ↦
          let there = made.holds holds.0 holds.1 (laws.in_order before after rows holds.0 holds.2 change) in
          inr (laws.tells after other (with_changes holds.0 rows) left.2.0
          (laws.changes before after rows holds.0 holds.2 change made.formed) left.2.2 (sym there.rows ∙ left.2.1.rows))
    ]

pub stops : RowLaws → {S : Type 0} (g : Ghosts S) (old mid new : Held S) (rows : List RowChange)
    → Survives (state g old) (state g mid) (HoldsChange (state g old) rows)
    → Survives (state g mid) (state g new) (λ _. ⊥) → HasCleanDisk (state g new)
    → (before after other : Book) → HoldsBook g old before → IsChange before rows after → MayLeave g new other
    → MayLeave g old other ⊎ (other ≡ after)
stops laws g old mid new rows first second clean before after other holds change left =
    stops_at laws g old mid rows first (omega (arith, second.clean)) before after other holds change
    (leaves_less g mid new second clean other left)

pub done : RowLaws → {S : Type 0} (g : Ghosts S) (old new : Held S) (rows : List RowChange)
    → ((content : Content) → Rests content (state g old) → AreInOrder content rows
    → Rests (with_changes content rows) (state g new))
    → (before after : Book) → HoldsBook g old before → IsChange before rows after → AllByRecursion FitsRow rows
    → HoldsBook g new after
done laws g old new rows made before after holds change forms = (
  with_changes holds.0 rows,
  made holds.0 holds.1 (laws.in_order before after rows holds.0 holds.2 change),
  laws.changes before after rows holds.0 holds.2 change forms,
)

-- ---- a stop leaves a book

-- where nothing was committed
pub whole_still : {S : Type 0} (g : Ghosts S) (old new : Held S) → Survives (state g old) (state g new) (λ _. ⊥)
    → HasCleanDisk (state g new) → IsWhole g old → IsWhole g new
whole_still g old new s clean was trees left = elim (s.crash clean trees left)
    [ inl old ↦ was trees old | inr none ↦ absurd none ]

-- where a change was written
pub whole_at : RowLaws → {S : Type 0} (g : Ghosts S) (old new : Held S) (rows : List RowChange)
    → Survives (state g old) (state g new) (HoldsChange (state g old) rows) → HasCleanDisk (state g new) → IsWhole g old
    → (before after : Book) → HoldsBook g old before → IsChange before rows after → IsWhole g new
whole_at laws g old new rows first clean was before after holds change trees left =
    elim (first.crash clean trees left) [
      | inl old ↦ was trees old
      | inr made ↦ (
        after,
        (
          with_changes holds.0 rows,
          made.holds holds.0 holds.1 (laws.in_order before after rows holds.0 holds.2 change),
          laws.changes before after rows holds.0 holds.2 change made.formed,
        ),
      )
    ]

-- where a change was written, and the store was asked for no more
pub whole_then : RowLaws → {S : Type 0} (g : Ghosts S) (old mid new : Held S) (rows : List RowChange)
    → Survives (state g old) (state g mid) (HoldsChange (state g old) rows)
    → Survives (state g mid) (state g new) (λ _. ⊥) → HasCleanDisk (state g new) → IsWhole g old
    → (before after : Book) → HoldsBook g old before → IsChange before rows after → IsWhole g new
whole_then laws g old mid new rows first second clean was before after holds change =
    whole_still g mid new second clean (whole_at laws g old mid rows first (omega (arith, second.clean)) was before
    after holds change)

-- a database is opened whose tables hold a book
pub opened : DesksAreReadAsSuch → {S : Type 0} (g : Ghosts S) (h : Held S) (book : Book) (content : Content)
    → Opens (state g h) → IsLive (state g h) → Holds content (state g h).committed.trees → IsBookOf book content
    → HoldsBook g h book
opened read g h book content opens live holds is =
    let s = state g h in
    let rests : Rests content s = record {
      known = current_is_known;
      is_open = opens.is_open;
      schema = read VERSION s.committed.schema s.committed.trees holds.sound (live opens.is_open).1;
      holds = holds;
      clean = opens.clean;
    } in
    (content, rests, is)
