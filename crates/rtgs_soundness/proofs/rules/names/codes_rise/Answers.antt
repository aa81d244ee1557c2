use Rattle.std.proofs.Common.{sym, ◌∙◌, true≢false}
use Rattle.rtgs_book.specs.declared.participant.Participant.{Participant}
use Rattle.rtgs_soundness.proofs.Names.{slipped_below, climbed_all}
use Rattle.rtgs_soundness.proofs.rules.names.codes_rise.Goals as goal

pub returns-in-loop-participant : goal.returns-in-loop-participant
returns-in-loop-participant c = (
  λ e. absurd (true≢false (sym e)),
  λ h. absurd (slipped_below (λ (p : Participant). p.code) c.args.participants.now c.loop-participant.previous
      c.in-Some.before c.loop-participant.participant-index c.participant-item.result c.in-Some.is
      c.loop-participant.invariant c.loop-participant-test.true c.participant-item.is (sym c.ge.ensures ∙ c.if-ge.true)
      h),
)

pub returns : goal.returns
returns c = climbed_all (λ (p : Participant). p.code) c.args.participants.now c.loop-participant.previous
    c.loop-participant.participant-index c.loop-participant-test.false c.loop-participant.invariant
