use Rattle.rtgs_soundness.proofs.RuleOrder.{sound_from_rules}
use Rattle.rtgs_soundness.proofs.soundness.check.Goals as goal

pub returns-clause-sound : goal.returns-clause-sound
returns-clause-sound c = sound_from_rules c.args.book.now c.loop-rule.rule-index c.loop-rule-test.false
    c.loop-rule.invariant.kept
