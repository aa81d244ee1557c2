use Rattle.std.proofs.Common.{refl, sym, ◌∙◌}
use Rattle.rtgs_soundness.proofs.Marks.{needs_none}
use Rattle.rtgs_soundness.proofs.rules.marks.has_mark.Goals as goal

pub returns-in-Settled : goal.returns-in-Settled
returns-in-Settled c = rw c.in-Settled.is (λ e. sym c.is_dated.ensures ∙ e, λ h. c.is_dated.ensures ∙ h)

pub returns-in_default : goal.returns-in_default
returns-in_default c = (
  λ e. needs_none c.args.marks.now c.args.order.now.date c.args.order.now.state c.in_default.not-Settled,
  λ h. refl,
)
