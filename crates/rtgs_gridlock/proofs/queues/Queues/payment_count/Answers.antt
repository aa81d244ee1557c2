use Rattle.std.proofs.Common.{ap, length, ◌+◌, arith}
use Rattle.rtgs_gridlock.proofs.ChoiceLemmas.{payments_below_more, payments_below-le}
use Rattle.rtgs_gridlock.proofs.queues.Queues.payment_count.Goals as goal

pub returns-in_default : goal.returns-in_default
returns-in_default c =
    let queues = c.args.self.now in
    let index = c.loop-index.index in
    let past = c.in_default.ensures in
    omega (
      arith,
      past,
      ap length c.queue.ensures,
      c.loop-index.invariant,
      payments_below_more index queues,
      payments_below-le (index + 1) queues (omega arith),
    )
