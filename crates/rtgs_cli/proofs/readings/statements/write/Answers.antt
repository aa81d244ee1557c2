use Rattle.rtgs_cli.proofs.readings.Shown.{was_written}
use Rattle.rtgs_cli.proofs.readings.statements.write.Goals as goal

pub returns-clause-written : goal.returns-clause-written
returns-clause-written g c =
    let it = c.write_statement-written in
    was_written _ c.desk.ensures.value c.finish.ensures.desk c.in_ok-book.ensures.opened it.ensures.leaves.honest
    c.args.code.now c.args.date it.result _ _ (λ honest book held.
    let left = it.ensures.leaves.left honest book held in
    record {
      kept = it.ensures.leaves.kept honest book held;
      after_a_crash = left.after_a_crash;
      whole_after_a_crash = left.whole_after_a_crash;
    }) it.ensures.written
