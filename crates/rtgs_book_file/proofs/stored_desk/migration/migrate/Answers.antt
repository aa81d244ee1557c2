use Rattle.std.proofs.Common.{Err, ap}
use Rattle.rtgs_book_file.proofs.stored_desk.Migrations.{did, refused}
use Rattle.rtgs_book_file.proofs.stored_desk.Resting.{blank_at_rest}
use Rattle.rtgs_book_file.proofs.stored_desk.migration.migrate.Goals as goal
use Rattle.sqlite.specs.Held.{state}

pub returns-in-Ok-clause-migrated : goal.returns-in-Ok-clause-migrated
returns-in-Ok-clause-migrated g c clean is_open =
    let was = c.args.conn.now in
    let now = c.migrate.new.conn in
    let it = c.in-Ok.ensures in
    let rest = c.rests.ensures is_open in
    did g.S.Store was now c.tables_of_a_desk_are_read_as_such.ensures rest c.in-Ok.wrote (it.migrates clean)
    (it.given clean)
    (λ none. (it.blank clean (blank_at_rest (state g.S.Store was) c.no_tables_are_read_as_none.ensures rest none)).0)
    (λ trees left. g.met.S.Store.settled was.store trees is_open left)
    (λ now_open trees left. g.met.S.Store.settled now.store trees now_open left)
    (λ stayed. (it.only clean (λ same. cc) (λ same. cc)).1)

pub returns-in-Err-clause-refused : goal.returns-in-Err-clause-refused
returns-in-Err-clause-refused g c clean is_open =
    let was = c.args.conn.now in
    let it = c.in-Err.ensures in
    let rest = c.rests.ensures is_open in
    refused g.S.Store was c.migrate.new.conn c.tables_of_a_desk_are_read_as_such.ensures rest c.in-Err.fault
    (it.migrates clean) (it.explained clean)
    (λ none rule same.
    (it.blank clean (blank_at_rest (state g.S.Store was) c.no_tables_are_read_as_none.ensures rest none)).1 rule
    (ap Err same)) (λ trees left. g.met.S.Store.settled was.store trees is_open left)
    (λ other trees left. (it.only clean (λ same. cc) (λ same. other cc)).1 trees left)
    (it.survives.crash clean)
