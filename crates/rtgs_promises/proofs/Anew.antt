-- Sessions that begin with a new book.
use Rattle.std.proofs.Common.{◌≡◌, ◌∙◌, ◌⊎◌, List, [], inl, inr, ⊎_elim, refl, sym, ap, true≢false}
use Rattle.sqlite.specs.Effect.{Database}
use Rattle.sqlite.specs.State.{State}
use Rattle.sqlite.specs.Steps.{IsEmpty}
use Rattle.sqlite.specs.Tree.{Trees}
use Rattle.rtgs_book.specs.declared.book.Book.{Book}
use Rattle.rtgs_book.specs.declared.command.Command.{Command}
use Rattle.rtgs_book.specs.Books.{new_book}
use Rattle.rtgs_book.specs.Calm.{IsCalm}
use Rattle.rtgs_book.specs.Outcome.{Reply}
use Rattle.rtgs_rows.specs.Content.{Content, HasNoTables}
use Rattle.rtgs_rows.specs.Keeping.{AddsUp, IsBookOf}
use Rattle.rtgs_book_file.specs.stored_desk.Stored.{AreTablesOf}
use Rattle.rtgs_tables.specs.Building.{IsBlank}
use Rattle.rtgs_promises.specs.Headline.{AreExactly, AreRowsOf, EndsEarly, EndsEarlyAnew, IsForced}
use Rattle.rtgs_promises.specs.declared.sessions.NoSession.{NoSession}
use Rattle.rtgs_promises.proofs.Headlines.{Laws, headline}
use Rattle.rtgs_promises.proofs.Lives.{no_life}

pub new_is_blank : (s : State) → IsEmpty s → IsBlank s
new_is_blank s empty = record {
  is_open = empty.0.is_open;
  schema = ap (λ (db : Database). db.schema) (sym empty.0.clean) ∙ empty.2;
  clean = empty.0.clean;
}

-- a new book has no day
pub new_is_calm : IsCalm new_book
new_is_calm automatic choice greatest = absurd (true≢false (sym automatic))

-- tables that hold a book exactly have its rows
pub rows_of : (book : Book) (trees : Trees) → AreExactly book trees → AreRowsOf book trees
rows_of book trees it = record {
  content = it.content;
  rows = it.rows;
  records = it.records.records;
  balances = it.records.balances;
  money = it.money;
}

-- sessions over the tables of the new book that ended early
pub anew : (given : List (List Command)) (said : List (List Reply)) (cause : NoSession) (may_leave : Trees → Type 0)
    → EndsEarly new_book given said cause may_leave → EndsEarlyAnew given said cause may_leave
anew given said cause may_leave it = record {
  left = λ trees may.
      let last = it.left trees may in
      inr (last.0, rows_of last.0 trees last.1, last.2);
  forced = it.forced;
}

-- no session was had, since the tables were not made, or the store failed when they were
pub none_had : Laws → ((book : Book) (content : Content) → IsBookOf book content → AddsUp content)
    → (given : List (List Command)) (cause : NoSession) (may_leave : Trees → Type 0) → IsForced cause
    → ((trees : Trees) → may_leave trees → HasNoTables trees ⊎ AreTablesOf new_book trees)
    → EndsEarlyAnew given [] cause may_leave
none_had laws money given cause may_leave forced left = record {
  left = λ trees may. ⊎_elim (λ none. inl (none, refl))
      (λ tables. inr (
        new_book,
        rows_of new_book trees (record {
          content = tables.0;
          rows = tables.1;
          records = tables.2;
          money = money new_book tables.0 tables.2;
        }),
        headline laws new_book new_book [] [] tables.2.sound new_is_calm (no_life new_book),
      )) (left trees may);
  forced = forced;
}
