-- What a migration says of tables that are at rest.
use Rattle.std.proofs.Common.{◌≡◌, ◌≢◌, ◌⊎◌, ◌<◌, ℕ, Bool, true, false, IsTrue, Ok, Err, refl, sym, subst, inl, inr}
use Rattle.sqlite_trees.specs.declared.store.Store.{Ghosts}
use Rattle.sqlite.specs.Held.{Held, state}
use Rattle.sqlite.specs.State.{State}
use Rattle.sqlite.specs.Tree.{Trees}
use Rattle.rtgs_book.specs.declared.book.Book.{Book}
use Rattle.rtgs_book.specs.declared.fault.Fault.{Fault}
use Rattle.rtgs_book.specs.declared.fault.Fault.TheVariants.{StoreFault, Inconsistent}
use Rattle.rtgs_book.specs.declared.rule.Rule.{Rule}
use Rattle.rtgs_rows.specs.Content.{HasNoTables}
use Rattle.rtgs_rows.specs.Keeping.{HoldsBook}
use Rattle.rtgs_rows.specs.Migrating.{Migrates, TellIn}
use Rattle.rtgs_rows.specs.Settling.{current_is_known}
use Rattle.rtgs_rows.specs.Tables.{schema_in}
use Rattle.rtgs_rows.specs.declared.numbers.TheConstants.{VERSION}
use Rattle.rtgs_tables.specs.Loading.{IsDisplayed, MayLeaveNoMore}
use Rattle.rtgs_tables.specs.Migrating.{ExplainsMigration, IsWritten, WasJudged}
use Rattle.rtgs_book_file.specs.stored_desk.Migrated.{AreOlderTablesOf, AreSomeTablesOf, IsMigrated, IsUpToDate}
use Rattle.rtgs_book_file.specs.stored_desk.Migrated.{IsUnmigrated}
use Rattle.rtgs_book_file.specs.stored_desk.Migrated.{WasMigration}
use Rattle.rtgs_book_file.specs.stored_desk.Stored.{AreTablesOf, IsAtRest, IsMemoryOrStore}
use Rattle.rtgs_book_file.proofs.stored_desk.Older.{older_is_calm}
use Rattle.rtgs_book_file.proofs.stored_desk.Resting.{IsReadAs, committed_tables, file_at_rest, held_at_rest}
use Rattle.rtgs_book_file.proofs.stored_desk.Resting.{older_at_rest, tables_are}

-- a stop leaves what is committed
abbrev pub LeavesCommitted : State → Type 0
LeavesCommitted s = (trees : Trees) → s.may_leave trees → trees ≡ s.committed.trees

-- so while the store is open
abbrev pub LeavesCommittedOpen : State → Type 0
LeavesCommittedOpen s = IsTrue s.is_open → LeavesCommitted s

newest_tables : (book : Book) (trees : Trees) → TellIn VERSION book trees → AreTablesOf book trees
newest_tables book trees tells = (tells.content, tells.holds, tells.same)

module _ {S : Type 0} (g : Ghosts S) (old new : Held S) (as_such : (version : ℕ) → IsReadAs (schema_in version))
    (rest : IsAtRest (state g old)) where
  abbrev was : State
  was = state g old

  holds : (book : Book) → AreTablesOf book was.committed.trees → HoldsBook g old book
  holds = held_at_rest g old (as_such VERSION) rest

  pub wrote : Migrates g old new (Ok true) → WasJudged was true → (HasNoTables was.committed.trees → ⊥)
      → LeavesCommittedOpen (state g new) → IsMigrated was (state g new)
  wrote it made some committed = record {
    shown = (made.version, made.older refl, made.book, made.judged.sound, made.judged.loads.displayed);
    kept = λ version known schema whole.
        let file = file_at_rest version was known rest schema in
        let (book, tells, now) = it.answered version was.committed.trees file whole in (
          book,
          record {
            version = version;
            known = known;
            earlier = subst (λ other. other < VERSION) (sym (made.judged.alone version was.committed.trees file))
                (made.older refl);
            tells = tells;
          },
        );
    held = λ book older trees left.
        let holds_now = (it.migrated older.version book (older_at_rest g old as_such rest book older)).1 in
        tables_are book trees (state g new).committed.trees (committed holds_now.1.is_open trees left)
        (committed_tables g new book holds_now);
    calm = λ book older. older_is_calm book was.committed.trees older;
    not_newest = λ book tables. let bad : true ≡ false = (it.repeated book (holds book tables)).0 in cc;
    some = some;
  }

  pub stayed : Migrates g old new (Ok false) → WasJudged was false → (HasNoTables was.committed.trees → ⊥)
      → ((trees : Trees) → (state g new).may_leave trees → trees ≡ was.committed.trees) → IsUpToDate was (state g new)
  stayed it made some leaves = record {
    shown = (
      made.book,
      made.judged.sound,
      subst (λ version. IsDisplayed version was.now made.book) (made.newest refl)
          made.judged.loads.displayed,
    );
    kept = λ schema whole.
        let file = file_at_rest VERSION was current_is_known rest schema in
        let (book, tells, now) = it.answered VERSION was.committed.trees file whole in (
          book,
          newest_tables book was.committed.trees tells,
        );
    not_older = λ book older.
        let bad : false ≡ true = (it.migrated older.version book (older_at_rest g old as_such rest book older)).0 in cc;
    some = some;
    leaves = leaves;
  }

  -- what was done, whichever it was
  pub did : (wrote : Bool) → Migrates g old new (Ok wrote) → WasJudged was wrote
      → (HasNoTables was.committed.trees → ⊥) → LeavesCommitted was → LeavesCommittedOpen (state g new)
      → (wrote ≡ false → MayLeaveNoMore was (state g new)) → WasMigration wrote was (state g new)
  did true it made some settled committed only = wrote it made some committed
  did false it made some settled committed only =
      stayed it made some (λ trees left. settled trees (only refl trees left))

  module _ (fault : Fault) (it : Migrates g old new (Err fault)) where
    cause : (book : Book) → AreSomeTablesOf book was.committed.trees → IsMemoryOrStore fault
    cause book (inl older) = it.accepted older.version book (inl (older_at_rest g old as_such rest book older))
    cause book (inr newest) = it.accepted VERSION book (inr (holds book newest))

    held : (book : Book) → AreOlderTablesOf book was.committed.trees → (trees : Trees) → (state g new).may_leave trees
        → AreSomeTablesOf book trees
    held book older trees left =
        elim (it.stops older.version book (older_at_rest g old as_such rest book older) trees left) [
          | inl tells ↦ inl (record {
            version = older.version;
            known = older.known;
            earlier = older.earlier;
            tells = tells;
          })
          | inr tells ↦ inr (newest_tables book trees tells)
        ]

    pub refused : ExplainsMigration was fault
        → (HasNoTables was.committed.trees → (rule : Rule) → fault ≢ Inconsistent rule) → LeavesCommitted was
        → (fault ≢ StoreFault → MayLeaveNoMore was (state g new))
        → ((trees : Trees) → (state g new).may_leave trees → was.may_leave trees ⊎ IsWritten was trees)
        → IsUnmigrated was fault (state g new)
    refused why no_rule settled only crash = record {
      cause = cause;
      explained = λ version known schema.
          why.rows version was.committed.trees (file_at_rest version was known rest schema);
      by_queries = why.shown;
      no_rule = no_rule;
      leaves = λ other trees left. settled trees (only other trees left);
      stops = λ trees left. elim (crash trees left) [ inl found ↦ inl (settled trees found) | inr made ↦ inr made ];
      held = held;
      stays = λ book tables trees left.
          newest_tables book trees (it.stays book (holds book tables) trees left);
    }
