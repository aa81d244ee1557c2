use Rattle.std.proofs.Common.{refl, ◌∙◌}
use Rattle.rtgs_store_trials.proofs.tests.batches.sessions.submit_and_send.Goals as goal

pub returns : goal.returns
returns g c = λ honest book held quiet found left.
    let before = c.in_ok-batch.ensures.honest honest in
    let acts = c.submit-reply.ensures.acts before book held in
    let works = c.submit-reply.ensures.faults.only_fault quiet ∙ c.holds_a_sound_book.ensures.works book held in
    let now = acts.kept works in
    let one = acts.session acts.book ((c.holds_a_sound_book-2.ensures.after_a_crash acts.book acts.book now).1 refl) in
    let sent = c.in_ok-batch.ensures.sent honest acts.book now in (
      sent.given,
      sent.shown,
      c.sessions_join.ensures.joined _ _ one (acts.none_open works) refl (sent.session found left),
    )
