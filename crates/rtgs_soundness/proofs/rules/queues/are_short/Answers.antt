use Rattle.std.proofs.Common.{pos, ◌≤ℤ◌, true≢false, refl, sym, ◌∙◌}
use Rattle.rtgs_book.specs.declared.participant.Participant.{Participant}
use Rattle.rtgs_book.specs.declared.limits.TheConstants.{LONGEST_QUEUE}
use Rattle.rtgs_soundness.proofs.Totals.{all_more, all_of_take, codes_have, total_of}
use Rattle.rtgs_soundness.proofs.rules.queues.are_short.Goals as goal
use Rattle.rtgs_lists.proofs.Lists.{all_get}

pub loop-participant-preserved : goal.loop-participant-preserved
loop-participant-preserved c = λ length_of holds.
    all_more (λ (p : Participant). length_of p.code ≤ℤ pos LONGEST_QUEUE) c.args.participants.now
    c.loop-participant.participant-index c.participant-item.result c.loop-participant-test.true
    c.participant-item.is (c.loop-participant.invariant length_of holds)
    ((c.is_short.ensures (length_of c.participant-item.result.code)
    (total_of _ length_of c.args.lengths.now c.participant-item.result.code holds
    (codes_have (λ (p : Participant). p.code) c.args.participants.now c.loop-participant.participant-index
    c.participant-item.result c.loop-participant-test.true c.participant-item.is))).0 c.if-not-is_short.false)

pub returns-then-not-is_short : goal.returns-then-not-is_short
returns-then-not-is_short c = λ length_of holds. (
  λ e. absurd (true≢false (sym e)),
  λ all. absurd (true≢false (sym ((c.is_short.ensures (length_of c.participant-item.result.code)
      (total_of _ length_of c.args.lengths.now c.participant-item.result.code holds
      (codes_have (λ (p : Participant). p.code) c.args.participants.now c.loop-participant.participant-index
      c.participant-item.result c.loop-participant-test.true c.participant-item.is))).1
      (all_get (λ (p : Participant). length_of p.code ≤ℤ pos LONGEST_QUEUE) c.args.participants.now
      c.loop-participant.participant-index c.participant-item.result c.loop-participant-test.true
      c.participant-item.is all)) ∙ c.if-not-is_short.true)),
)

pub returns : goal.returns
returns c = λ length_of holds. (
  λ e. all_of_take (λ (p : Participant). length_of p.code ≤ℤ pos LONGEST_QUEUE) c.args.participants.now
      c.loop-participant.participant-index c.loop-participant-test.false (c.loop-participant.invariant length_of holds),
  λ all. refl,
)
