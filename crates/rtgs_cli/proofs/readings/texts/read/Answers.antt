use Rattle.rtgs_cli.proofs.readings.Shown.{was_read}
use Rattle.rtgs_cli.proofs.readings.texts.read.Goals as goal

pub returns-clause-read : goal.returns-clause-read
returns-clause-read g c =
    let it = c.text_of-read in
    let leaves = it.ensures.leaves in
    was_read _ c.desk.ensures.value c.finish.ensures.desk c.in_ok-book.ensures.opened leaves.honest
    (λ text. text.items) c.args.reading it.result (λ honest book held.
    let left = leaves.left honest book held in
    record {
      kept = leaves.kept honest book held;
      after_a_crash = left.after_a_crash;
      whole_after_a_crash = left.whole_after_a_crash;
    }) it.ensures.answered
