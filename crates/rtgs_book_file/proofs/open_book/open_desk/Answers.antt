use Rattle.std.proofs.Common.{subst}
use Rattle.rtgs_book_file.specs.Closed.{LeavesNoMore}
use Rattle.rtgs_book_file.proofs.open_book.open_desk.Goals as goal

pub returns-in-Ok-clause-opened : goal.returns-in-Ok-clause-opened
returns-in-Ok-clause-opened g c honest =
    let it = c.in-Ok.ensures in
    let was_honest = it.honest honest in
    let opened = c.in_ok-conn.ensures.opened was_honest in
    record {
      was = c.in_ok-conn.conn;
      opened = opened;
      found = c.in_ok-conn.ensures.found was_honest;
      over = it.opened honest opened.0.is_open;
    }

pub returns-in-Err-clause-refused : goal.returns-in-Err-clause-refused
returns-in-Err-clause-refused g c =
    let it = c.in-Err.ensures in
    let opens = c.in_ok-conn.ensures.opened in
    let files = c.of-left.result.files.value in
    record {
      was = c.in_ok-conn.conn;
      left = c.in-Err.keeper;
      opened = λ honest. opens (it.back honest);
      found = λ honest. c.in_ok-conn.ensures.found (it.back honest);
      refused = λ honest. it.refused honest (opens (it.back honest)).0.is_open;
      failed = it.fault;
      works = it.only_fault;
      abandoned = subst (λ conn. LeavesNoMore conn files) c.into_connection.ensures c.of-left.ensures;
    }
