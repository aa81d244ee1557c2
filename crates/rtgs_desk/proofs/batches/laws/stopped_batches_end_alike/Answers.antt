use Rattle.std.proofs.Common.{◌≡◌, ◌++◌, length, take, drop, sym, ap, ◌∙◌, subst}
use Rattle.std.proofs.lemmas.List.{map-append, take-append-drop}
use Rattle.std.specs.List.{AllByRecursion}
use Rattle.rtgs_book.specs.Run.{Run}
use Rattle.rtgs_laws.specs.repeats.Batch.{IsOrderOf}
use Rattle.rtgs_desk.specs.batches.Batches.{order_of, orders_of}
use Rattle.rtgs_desk.proofs.batches.Stopped.{all_orders, next_open}
use Rattle.rtgs_desk.proofs.batches.laws.stopped_batches_end_alike.Goals as goal

pub returns : goal.returns
returns c old mid found last end sender rows replies stopped again once sound room judged stops begun may resumed
    whole =
    let n = length replies in
    let both : orders_of sender (take n rows) ++ orders_of sender (drop n rows)
    ≡ orders_of sender rows = sym (map-append (order_of sender) (take n rows) (drop n rows))
    ∙ ap (orders_of sender) (take-append-drop n rows) in
    c.stopped_batch_ends_alike.ensures old mid found last end sender (orders_of sender (take n rows))
    (orders_of sender (drop n rows)) replies again once sound
    (subst (AllByRecursion (IsOrderOf sender)) (sym both) (all_orders sender rows))
    room begun
    (next_open sender rows replies stopped mid found judged stops may)
    (subst (λ cs. Run found cs again last) (sym both) resumed)
    (subst (λ cs. Run old cs once end) (sym both) whole)
