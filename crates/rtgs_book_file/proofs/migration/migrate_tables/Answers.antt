use Rattle.std.proofs.Common.{sym, subst}
use Rattle.rtgs_book_file.specs.Closed.{LeavesClosed}
use Rattle.rtgs_book_file.proofs.migration.migrate_tables.Goals as goal

pub returns-in-Ok-clause-migrated : goal.returns-in-Ok-clause-migrated
returns-in-Ok-clause-migrated g c =
    let it = c.in-Ok.ensures in
    let opens = c.in_ok-conn.ensures.opened in
    let now = c.migrate.new.conn in
    record {
      was = c.in_ok-conn.conn;
      now = now;
      opened = λ clean. opens (it.honest clean);
      found = λ clean. c.in_ok-conn.ensures.found (it.honest clean);
      did = λ clean. it.migrated clean (opens (it.honest clean)).0.is_open;
      closed = subst (LeavesClosed now) (sym c.release.ensures.files) c.copied.ensures.closed;
    }

pub returns-in-Err-clause-refused : goal.returns-in-Err-clause-refused
returns-in-Err-clause-refused g c =
    let it = c.in-Err.ensures in
    let opens = c.in_ok-conn.ensures.opened in
    record {
      was = c.in_ok-conn.conn;
      left = c.migrate.new.conn;
      opened = λ clean. opens (it.honest clean);
      found = λ clean. c.in_ok-conn.ensures.found (it.honest clean);
      refused = λ clean. it.refused clean (opens (it.honest clean)).0.is_open;
      abandoned = c.of.ensures;
    }
