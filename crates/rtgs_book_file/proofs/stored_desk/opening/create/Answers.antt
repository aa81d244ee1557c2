use Rattle.std.proofs.Common.{inr, sym, subst}
use Rattle.sqlite.specs.Held.{state}
use Rattle.sqlite.specs.State.{HasCleanDisk}
use Rattle.rtgs_book.specs.Books.{new_book}
use Rattle.rtgs_tables.specs.Building.{IsBlank}
use Rattle.rtgs_book_file.specs.stored_desk.Stored.{IsUnmade}
use Rattle.rtgs_book_file.proofs.stored_desk.Resting.{committed_tables, tables_are, new_is_calm}
use Rattle.rtgs_book_file.proofs.stored_desk.opening.create.Goals as goal

pub returns-in-Ok-open-clause-made : goal.returns-in-Ok-open-clause-made
returns-in-Ok-open-clause-made g c clean blank =
    let it = c.in-Ok-open.ensures in
    let holds = c.in-Ok.ensures.made (it.honest clean) blank in
    (it.opened clean holds.1.is_open).held new_book (committed_tables g.S.Store c.in-Ok.made new_book holds)

pub returns-in-Err-open-clause-refused : goal.returns-in-Err-open-clause-refused
returns-in-Err-open-clause-refused g c =
    let s = state g.S.Store in
    let made = c.in-Ok.made in
    let it = c.in-Err-open.ensures in
    subst (λ h. HasCleanDisk (s h) → IsBlank (s c.args.conn) → IsUnmade c.in-Err-open.fault (s h))
    (sym c.into_connection.ensures) (λ clean blank.
    let holds = c.in-Ok.ensures.made (it.back clean) blank in
    let there = committed_tables g.S.Store made new_book holds in
    let why = it.refused clean holds.1.is_open in
    record {
      cause = why.cause new_book there new_is_calm;
      leaves = λ trees at. inr (tables_are new_book trees (s made).committed.trees (why.leaves trees at) there);
    })
