use Rattle.rtgs_laws.proofs.repeats.Batch.{resumed}
use Rattle.rtgs_laws.proofs.repeats.laws.resumed_batch_ends_alike.Goals as goal

pub returns : goal.returns
returns c = resumed c.balance_after_order.ensures c.balance_after_settling.ensures c.own_step_keeps_soundness.ensures
    c.what_did_not_act_leaves_the_book.ensures c.step_keeps_soundness.ensures c.step_is_determined.ensures
