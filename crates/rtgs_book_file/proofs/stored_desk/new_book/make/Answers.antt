use Rattle.std.proofs.Common.{◌∙◌, rules, sym, subst}
use Rattle.sqlite.specs.Held.{state}
use Rattle.sqlite.specs.State.{HasCleanDisk}
use Rattle.rtgs_book.specs.Books.{new_book}
use Rattle.rtgs_rows.specs.Keeping.{HoldsBook}
use Rattle.rtgs_book_file.specs.stored_desk.Stored.{IsMade, IsMemoryOrStore}
use Rattle.rtgs_book_file.proofs.stored_desk.Resting.{committed_tables, tables_are, none_or_new, making_cause}
use Rattle.rtgs_book_file.proofs.stored_desk.Resting.{making_memory}
use Rattle.rtgs_book_file.proofs.stored_desk.new_book.make.Goals as goal

pub returns-in-Ok-clause-made : goal.returns-in-Ok-clause-made
returns-in-Ok-clause-made g c clean blank =
    subst (λ h. HoldsBook g.S.Store h new_book) (sym c.into_connection.ensures)
    (c.in-Ok.ensures.made (subst (λ h. HasCleanDisk (state g.S.Store h)) c.into_connection.ensures clean) blank)

pub returns-in-Ok-clause-stops : goal.returns-in-Ok-clause-stops
returns-in-Ok-clause-stops g c =
    let old = state g.S.Store c.args.conn in
    let made = c.in-Ok.keeper.conn in
    subst (λ h. IsMade old (state g.S.Store h)) (sym c.into_connection.ensures) (record {
      blank = c.has_no_tables.ensures.0 (search rules);
      honest = c.in-Ok.ensures.honest.0;
      leaves = λ clean blank trees left.
          let holds = c.in-Ok.ensures.made clean blank in
          tables_are new_book trees (state g.S.Store made).committed.trees
          (g.met.S.Store.settled made.store trees holds.1.is_open left)
          (committed_tables g.S.Store made new_book holds);
    })

pub returns-in-Err-clause-refused : goal.returns-in-Err-clause-refused
returns-in-Err-clause-refused g c clean blank = record {
  cause = subst IsMemoryOrStore (sym c.fault_of_commit.ensures) (making_cause c.in-Err.fault);
  leaves = λ trees left. none_or_new c.first_rows_are_the_new_book.ensures trees
      ((c.in-Err.ensures.left clean blank).tables trees left);
}

pub returns-in-Err-clause-memory : goal.returns-in-Err-clause-memory
returns-in-Err-clause-memory g c same =
    c.in-Err.ensures.memory (making_memory c.in-Err.fault (sym c.fault_of_commit.ensures ∙ same))
