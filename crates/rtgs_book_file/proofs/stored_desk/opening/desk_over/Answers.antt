use Rattle.std.proofs.Common.{◌≡◌, refl, sym, inl, inr}
use Rattle.sqlite.specs.Held.{state}
use Rattle.sqlite.specs.Tree.{Trees}
use Rattle.rtgs_book_file.proofs.stored_desk.Resting.{held_at_rest, blank_at_rest, file_at_rest, tables_are}
use Rattle.rtgs_book_file.proofs.stored_desk.Resting.{memory_explains}
use Rattle.rtgs_book_file.proofs.stored_desk.Resting.{memory_tells, why}
use Rattle.rtgs_book_file.proofs.stored_desk.opening.desk_over.Goals as goal
use Rattle.rtgs_rows.specs.Settling.{current_is_known}
use Rattle.rtgs_rows.specs.declared.numbers.TheConstants.{VERSION}

pub returns-in-Ok-clause-opened : goal.returns-in-Ok-clause-opened
returns-in-Ok-clause-opened g c honest rest =
    let was = c.args.keeper.conn in
    let now = c.in-Ok.desk.keeper.conn in
    let it = c.in-Ok.ensures.opened honest in
    let same : (trees : Trees) → (state g.S.Store now).may_leave trees
    → trees ≡ (state g.S.Store was).committed.trees = λ trees left. g.met.S.Store.settled was.store trees
    rest.is_open (it.left.untouched trees left) in
    record {
      held = λ book tables. it.held book (held_at_rest g.S.Store was
          (c.tables_of_a_desk_are_read_as_such.ensures VERSION) rest book tables);
      kept = λ schema whole.
          let found = it.kept (file_at_rest VERSION (state g.S.Store was) current_is_known rest schema, whole) in
          let left = (c.holds_a_sound_book.ensures.after_a_crash found.0 found.0 found.1).1 refl in (
            found.0,
            tables_are found.0 (state g.S.Store was).committed.trees left.0 (sym (same left.0 left.1)) left.2,
            found.1,
          );
      shown = let seen = it.shown in (seen.0, seen.1, seen.2.1);
      some = λ none. it.not_empty (blank_at_rest (state g.S.Store was) c.no_tables_are_read_as_none.ensures rest
          none);
      leaves = same;
    }

pub returns-in-Err-clause-refused : goal.returns-in-Err-clause-refused
returns-in-Err-clause-refused g c honest rest =
    let was = c.args.keeper.conn in
    let s = state g.S.Store was in
    let fault = c.in-Err.fault in
    let it = c.in-Err.ensures.refused honest in
    let as_such = c.tables_of_a_desk_are_read_as_such.ensures VERSION in
    record {
      cause = λ book tables. it.accepted book (held_at_rest g.S.Store was as_such rest book tables);
      restless = λ book tables. why (λ memory. inl memory) (λ store. inr store) (λ restless. restless)
          (it.restless book (held_at_rest g.S.Store was as_such rest book tables));
      explained = λ schema.
          let file = file_at_rest VERSION s current_is_known rest schema in
          why (λ memory. memory_explains s.committed.trees fault memory)
          (λ displayed. displayed.1.0 s.committed.trees file)
          (λ restless.
          let book = restless.1 in
          (restless.0, (book.0, book.1, book.2.0 s.committed.trees file, book.3))) it.explained;
      by_queries = why (λ memory. memory_tells s.now fault memory) (λ displayed. displayed.1.1)
          (λ restless.
          let book = restless.1 in
          (restless.0, (book.0, book.1, book.2.1, book.3))) it.explained;
      no_rule = λ none rule. it.no_rule (blank_at_rest (state g.S.Store was) c.no_tables_are_read_as_none.ensures
          rest none) rule;
      leaves = λ trees left. g.met.S.Store.settled was.store trees rest.is_open (it.left.untouched trees left);
    }

pub returns-in-Ok-clause-honest : goal.returns-in-Ok-clause-honest
returns-in-Ok-clause-honest g c honest = (c.in-Ok.ensures.opened honest).left.honest

pub returns-in-Err-clause-back : goal.returns-in-Err-clause-back
returns-in-Err-clause-back g c honest = (c.in-Err.ensures.refused honest).left.honest
