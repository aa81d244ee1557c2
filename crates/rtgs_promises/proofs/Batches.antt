-- The rows of a batch that was sent, and the desk's whole replies.
use Rattle.std.proofs.Common.{◌≡◌, ◌≢◌, ◌∙◌, List, [], ◌∷◌, map, Err, sym, ap}
use Rattle.std.specs.List.{AllByRecursion}
use Rattle.rtgs_book.specs.declared.refusal.Refusal.TheVariants.{QueueFull}
use Rattle.rtgs_book.specs.Outcome.{Reply, own_of}
use Rattle.rtgs_desk.specs.batches.Batches.{reply_of}
use Rattle.rtgs_order_files.specs.declared.batch_result.RowReply.{RowReply}
use Rattle.rtgs_order_files.specs.declared.batch_result.RowReply.TheVariants.{Settled, Queued, Held, Repeated, Refused}
use Rattle.rtgs_laws.specs.repeats.Batch.{IsNotFull}

full_row : (row : RowReply) → reply_of row ≡ Err QueueFull → row ≡ Refused QueueFull
full_row (Settled number mark) e = absurd (cc)
full_row (Queued number place) e = absurd (cc)
full_row (Held number due) e = absurd (cc)
full_row (Repeated number state) e = absurd (cc)
full_row (Refused refusal) e = cc

-- where no row says that the queue was full, no reply of the desk did
pub none_full : (given : List Reply) (rows : List RowReply) → map own_of given ≡ map reply_of rows
    → AllByRecursion (λ row. row ≢ Refused QueueFull) rows → AllByRecursion IsNotFull given
none_full [] [] e h = tt
none_full [] (row ∷ rows) e h = absurd (cc)
none_full (reply ∷ given) [] e h = absurd (cc)
none_full (reply ∷ given) (row ∷ rows) e h =
    let first : own_of reply ≡ reply_of row = cc in
    let rest : map own_of given ≡ map reply_of rows = cc in
    ((λ full. h.0 (full_row row (sym first ∙ ap own_of full))), none_full given rows rest h.1)
