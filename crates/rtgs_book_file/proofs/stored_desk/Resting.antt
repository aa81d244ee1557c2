-- Tables of a store that is at rest.
use Rattle.std.proofs.Common.{◌≡◌, ◌⊎◌, ℕ, true, false, Result, Ok, Err, refl, sym, subst, inl, inr}
use Rattle.std.specs.Result.{IfErr}
use Rattle.sqlite_catalog.specs.Listing.{IsSound as IsReadBy}
use Rattle.sqlite_trees.specs.declared.store.Store.{Ghosts}
use Rattle.sqlite.specs.Held.{Held, state}
use Rattle.sqlite.specs.Schema.{Schema}
use Rattle.sqlite.specs.Effect.{Database}
use Rattle.sqlite.specs.State.{State}
use Rattle.sqlite.specs.Tree.{Trees}
use Rattle.rtgs_book.specs.declared.book.Book.{Book}
use Rattle.rtgs_book.specs.declared.fault.Fault.{Fault}
use Rattle.rtgs_book.specs.declared.fault.Fault.TheVariants.{OutOfMemory}
use Rattle.rtgs_book.specs.Books.{new_book}
use Rattle.rtgs_book.specs.Calm.{IsCalm}
use Rattle.rtgs_keeper.specs.declared.commit_fault.CommitFault.{CommitFault}
use Rattle.rtgs_keeper.specs.declared.commit_fault.CommitFault.TheVariants as commit
use Rattle.rtgs_rows.specs.Content.{Content, HasNoTables, HoldsIn, RestsIn}
use Rattle.rtgs_rows.specs.Keeping.{IsBookOf, HoldsBook}
use Rattle.rtgs_rows.specs.Migrating.{IsOlder}
use Rattle.rtgs_rows.specs.Querying.{IsFileIn}
use Rattle.rtgs_rows.specs.Settling.{current_is_known}
use Rattle.rtgs_rows.specs.declared.numbers.TheConstants.{VERSION}
use Rattle.rtgs_rows.specs.Tables.{IsVersion, no_schema, desk_schema, schema_in}
use Rattle.rtgs_tables.specs.Loading.{ExplainsTrees, ExplainsDatabase}
use Rattle.rtgs_tables.specs.Building.{IsBlank, IsNoneOrNew, first_content}
use Rattle.rtgs_book_file.specs.stored_desk.Migrated.{AreOlderTablesOf}
use Rattle.rtgs_book_file.specs.stored_desk.Stored.{AreTablesOf, IsAtRest, IsMemoryOrStore}
use Rattle.rtgs_tables.specs.Faults.{fault_of_commit}

-- trees that are a database of this schema are read with it
abbrev pub IsReadAs : Schema → Type 0
IsReadAs schema = (other : Schema) (trees : Trees) → IsReadBy schema trees → IsReadBy other trees → other ≡ schema

-- the records of tables of a version rest there
resting : (version : ℕ) (s : State) → IsReadAs (schema_in version) → IsAtRest s → IsVersion version
    → (content : Content) → HoldsIn version content s.committed.trees → RestsIn version content s
resting version s as_such rest known content holds = record {
  known = known;
  is_open = rest.is_open;
  schema = as_such s.committed.schema s.committed.trees holds.sound rest.sound;
  holds = holds;
  clean = rest.clean;
}

pub held_at_rest : {S : Type 0} (g : Ghosts S) (h : Held S) → IsReadAs desk_schema → IsAtRest (state g h)
    → (book : Book) → AreTablesOf book (state g h).committed.trees → HoldsBook g h book
held_at_rest g h as_such rest book tables =
    (tables.0, resting VERSION (state g h) as_such rest current_is_known tables.0 tables.1, tables.2)

pub older_at_rest : {S : Type 0} (g : Ghosts S) (h : Held S) → ((version : ℕ) → IsReadAs (schema_in version))
    → IsAtRest (state g h) → (book : Book) (older : AreOlderTablesOf book (state g h).committed.trees)
    → IsOlder g older.version book h
older_at_rest g h as_such rest book older =
    let tells = older.tells in
    record {
      earlier = older.earlier;
      content = tells.content;
      rests = resting older.version (state g h) (as_such older.version) rest older.known tells.content tells.holds;
      no_more = tells.no_more;
      same = tells.same;
    }

pub blank_at_rest : (s : State) → IsReadAs no_schema → IsAtRest s → HasNoTables s.committed.trees → IsBlank s
blank_at_rest s as_none rest none = record {
  is_open = rest.is_open;
  schema = as_none s.committed.schema s.committed.trees none rest.sound;
  clean = rest.clean;
}

pub file_at_rest : (version : ℕ) (s : State) → IsVersion version → IsAtRest s → s.committed.schema ≡ schema_in version
    → IsFileIn version s.committed.trees s
file_at_rest version s known rest schema = record {
  known = known;
  is_open = rest.is_open;
  schema = schema;
  trees_are = refl;
  clean = rest.clean;
}

-- what is held is in the tables that are committed
pub committed_tables : {S : Type 0} (g : Ghosts S) (h : Held S) (book : Book) → HoldsBook g h book
    → AreTablesOf book (state g h).committed.trees
committed_tables g h book holds = (holds.0, holds.1.holds, holds.2)

-- trees that are the committed ones hold the book too
pub tables_are : (book : Book) (trees at : Trees) → trees ≡ at → AreTablesOf book at → AreTablesOf book trees
tables_are book trees at same tables = subst (AreTablesOf book) (sym same) tables

pub none_or_new : IsBookOf new_book first_content → (trees : Trees) → IsNoneOrNew trees
    → HasNoTables trees ⊎ AreTablesOf new_book trees
none_or_new is trees left = elim left [ inl none ↦ inl none | inr made ↦ inr (first_content, made, is) ]

-- a new book has no automatic day
pub new_is_calm : IsCalm new_book
new_is_calm automatic choice greatest = let bad : false ≡ true = automatic in cc

-- why a desk was not opened: for lack of memory, by what a loading tells, or because the book is not calm
pub why : {Memory Displayed Restless Explained NotCalm : Type 0} → (Memory → Explained) → (Displayed → Explained)
    → (Restless → NotCalm) → Memory ⊎ (Displayed ⊎ Restless) → Explained ⊎ NotCalm
why memory displayed restless (inl it) = inl (memory it)
why memory displayed restless (inr (inl it)) = inl (displayed it)
why memory displayed restless (inr (inr it)) = inr (restless it)

pub making_cause : (fault : CommitFault) → IsMemoryOrStore (fault_of_commit fault)
making_cause commit.OutOfMemory = inl refl
making_cause commit.Store = inr refl
making_cause commit.Failed = inr refl

pub memory_explains : (trees : Trees) (fault : Fault) → fault ≡ OutOfMemory
    → ExplainsTrees VERSION trees fault
memory_explains trees fault memory = subst (ExplainsTrees VERSION trees) (sym memory) tt

-- what two clauses say of an error together
pub from_both : {T E : Type 0} (r : Result T E) (P Q R : E → Type 0) → ((e : E) → P e → Q e → R e) → IfErr r P
    → IfErr r Q → IfErr r R
from_both (Ok x) P Q R f p q = tt
from_both (Err e) P Q R f p q = f e p q

pub memory_tells : (db : Database) (fault : Fault) → fault ≡ OutOfMemory
    → ExplainsDatabase VERSION db fault
memory_tells db fault memory = subst (ExplainsDatabase VERSION db) (sym memory) tt

pub making_memory : (fault : CommitFault) → fault_of_commit fault ≡ OutOfMemory → fault ≡ commit.OutOfMemory
making_memory commit.OutOfMemory same = refl
making_memory commit.Store same = absurd cc
making_memory commit.Failed same = absurd cc
