use Rattle.std.proofs.Common.{◌≡◌, ◌++◌, take, drop, sym, ap, ◌∙◌, subst}
use Rattle.std.proofs.lemmas.List.{map-append, take-append-drop}
use Rattle.std.specs.List.{AllByRecursion}
use Rattle.rtgs_book.specs.Run.{Run}
use Rattle.rtgs_laws.specs.repeats.Batch.{IsOrderOf}
use Rattle.rtgs_desk.specs.batches.Batches.{order_of, orders_of}
use Rattle.rtgs_desk.proofs.batches.Stopped.{all_orders}
use Rattle.rtgs_desk.proofs.batches.laws.resumed_batches_end_alike.Goals as goal

pub returns : goal.returns
returns c old mid last end sender rows n first again once sound may begun resumed whole =
    let both : orders_of sender (take n rows) ++ orders_of sender (drop n rows)
    ≡ orders_of sender rows = sym (map-append (order_of sender) (take n rows) (drop n rows))
    ∙ ap (orders_of sender) (take-append-drop n rows) in
    c.resumed_batch_ends_alike.ensures old mid last end sender (orders_of sender (take n rows))
    (orders_of sender (drop n rows)) first again once sound
    (subst (AllByRecursion (IsOrderOf sender)) (sym both) (all_orders sender rows))
    may begun
    (subst (λ cs. Run mid cs again last) (sym both) resumed)
    (subst (λ cs. Run old cs once end) (sym both) whole)
