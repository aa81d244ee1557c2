use Rattle.std.proofs.Common.{sym, subst}
use Rattle.std.specs.Result.{IfOk, IfErr}
use Rattle.rtgs_cli.specs.imports.Causes.{AreRowsOf, RefusesRows}
use Rattle.rtgs_cli.proofs.imports.Imported.{was_sent, was_refused}
use Rattle.rtgs_cli.proofs.imports.send.Goals as goal

pub returns-clause-rows : goal.returns-clause-rows
returns-clause-rows g c =
    let it = c.submit_file-sent in
    subst (λ read. IfOk it.result (λ sent. AreRowsOf (λ bytes. bytes.items) read.answer sent.0.items))
    (sym c.of-answer.ensures) it.ensures.rows

pub returns-clause-sent : goal.returns-clause-sent
returns-clause-sent g c =
    let it = c.submit_file-sent in
    was_sent _ c.desk.ensures.value c.finish.ensures.desk c.in_ok-book.ensures.opened it.ensures.honest it.result
    c.args.sender (λ sent. sent.0.items) (λ sent. sent.1.replies.items) (λ sent. sent.1.stopped) it.ensures.sent

pub returns-clause-refused : goal.returns-clause-refused
returns-clause-refused g c =
    let it = c.submit_file-sent in
    was_refused _ c.desk.ensures.value c.finish.ensures.desk c.in_ok-book.ensures.opened it.ensures.honest it.result
    (RefusesRows (λ bytes. bytes.items) c.of-answer.result.value.answer)
    (subst (λ read. IfErr it.result (λ why. RefusesRows (λ bytes. bytes.items) read.answer why))
    (sym c.of-answer.ensures)
    it.ensures.refused) it.ensures.unchanged
