-- The book that was loaded, and the connection after it.
use Rattle.std.proofs.Common.{◌≢◌, Ok, Err, Result, IfOk, refl, sym, subst}
use Rattle.sqlite.specs.Held.{Held, state}
use Rattle.sqlite.specs.State.{State, HasCleanDisk, Survives}
use Rattle.sqlite.specs.Tree.{Trees}
use Rattle.sqlite_trees.specs.declared.store.Store.{Ghosts}
use Rattle.rtgs_book.specs.declared.book.Book.{Book}
use Rattle.rtgs_book.specs.declared.fault.Fault.{Fault}
use Rattle.rtgs_book.specs.declared.fault.Fault.TheVariants.{StoreFault, Inconsistent}
use Rattle.rtgs_book.specs.declared.rule.Rule.{Rule}
use Rattle.rtgs_rows.specs.Content.{Content, Holds, Rests}
use Rattle.rtgs_rows.specs.Keeping.{IsBookOf}
use Rattle.rtgs_rows.specs.Migrating.{TellIn}
use Rattle.rtgs_rows.specs.Querying.{IsDeskFile}
use Rattle.rtgs_rows.specs.RowLaws.{RecordsStandInOrder}
use Rattle.rtgs_rows.specs.declared.numbers.TheConstants.{VERSION}
use Rattle.rtgs_sql_columns.specs.Blank.{IsBlank}
use Rattle.rtgs_sql_queries.specs.Answering.{KeepsTables}
use Rattle.rtgs_sql_loading.specs.Loading.{LoadsFrom}
use Rattle.rtgs_tables.specs.Loading.{AnswersBook, LeavesConnection, ShowsBalanced}
use Rattle.rtgs_tables.proofs.Settling.{leaves_less, leaves_on}
use Rattle.rtgs_tables.proofs.Accounts.{accounts_of, has_own, own_balances}
use Rattle.rtgs_tables.proofs.Judging.{accepted, explained, the_book}

-- the tables of a connection, with the records that they hold
rests_of : (content : Content) (s : State) (trees : Trees) → IsDeskFile trees s → Holds content trees → Rests content s
rests_of content s trees file holds =
    let here = subst (Holds content) (sym file.trees_are) holds in
    record {
      known = file.known;
      is_open = file.is_open;
      schema = file.schema;
      holds = here;
      clean = file.clean;
    }

-- and the connection goes on to hold it
kept_book : (s : State) (trees : Trees) (answer : Result Book Fault)
    → IfOk answer (λ it. TellIn VERSION it trees)
    → (answer ≢ Err StoreFault → IsDeskFile trees s)
    → IfOk answer (λ it. (content : Content) × Rests content s × IsBookOf it content)
kept_book s trees (Ok it) tells file =
    (tells.content, rests_of tells.content s trees (file (λ e. cc)) tells.holds, tells.same)
kept_book s trees (Err fault) tells file = tt

shown_always : (s : State) (answer : Result Book Fault) → LoadsFrom VERSION s answer → IfOk answer (ShowsBalanced s)
shown_always s (Ok it) loads = (loads.shown, loads.displayed)
shown_always s (Err fault) loads = tt

-- what a loading answers of the tables is what the connection holds
pub answers_book : RecordsStandInOrder → {S : Type 0} (g : Ghosts S) (old new : Held S) (answer : Result Book Fault)
    → LoadsFrom VERSION (state g old) answer
    → (answer ≢ Err StoreFault → KeepsTables (state g old) (state g new))
    → (IsBlank (state g old) → IfOk answer (λ _. ⊥) × ((rule : Rule) → answer ≢ Err (Inconsistent rule)))
    → AnswersBook g old new answer
answers_book in_order g old new answer loads same empty =
    let s = state g old in
    let trees = s.committed.trees in
    record {
      given = λ book holds. the_book (accounts_of book) book answer (loads.read (accounts_of book) book
          (has_own in_order VERSION s holds.0 book holds.1 refl holds.2));
      accepted = λ book holds. accepted (accounts_of book) book answer holds.2.sound (own_balances book)
          (loads.explained (accounts_of book) book (has_own in_order VERSION s holds.0 book holds.1 refl holds.2));
      explained = explained s answer loads;
      shown = shown_always s answer loads;
      kept = λ tables. kept_book (state g new) trees answer (loads.held trees tables.0 tables.1)
          (λ other. (same other).file VERSION trees tables.0);
      empty = empty;
    }

-- and what it leaves of the connection
pub leaves_connection : {S : Type 0} (g : Ghosts S) (old new : Held S) (answer : Result Book Fault)
    → HasCleanDisk (state g new) → (answer ≢ Err StoreFault → KeepsTables (state g old) (state g new))
    → Survives (state g old) (state g new) (λ _. ⊥) → LeavesConnection g old new answer
leaves_connection g old new answer clean keeps survives = record {
  same = λ book held other. (held.0, (keeps other).rests VERSION held.0 held.1, held.2);
  stops = λ other left. leaves_less g old new survives clean other left;
  untouched = λ trees left. leaves_on (state g old) (state g new) survives clean trees left;
  whole = λ whole trees left. whole trees (leaves_on (state g old) (state g new) survives clean trees left);
}
