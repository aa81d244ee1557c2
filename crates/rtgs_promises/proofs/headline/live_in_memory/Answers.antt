use Rattle.rtgs_book.specs.Books.{new_book}
use Rattle.rtgs_promises.proofs.Anew.{new_is_calm}
use Rattle.rtgs_promises.proofs.InMemory.{memory_is_clean, memory_store_is_clean, ended_in_memory, none_in_memory}
use Rattle.rtgs_promises.proofs.headline.live_in_memory.Goals as goal

pub returns-in-Err-clause-ended : goal.returns-in-Err-clause-ended
returns-in-Err-clause-ended c = rw c.new-none.ensures.items (none_in_memory _ _ c.in-Err.ensures.cause)

pub returns-in-Ok-live-clause-lived : goal.returns-in-Ok-live-clause-lived
returns-in-Ok-live-clause-lived c =
    let made = c.in-Ok.ensures.held in
    let got = c.in-Ok-live.ensures.lived (memory_is_clean c.in-Ok-live.desk.keeper.conn) made.0 new_book made.1 in
    (got.0, got.1, got.3)

pub returns-clause-ended : goal.returns-clause-ended
returns-clause-ended c =
    let made = c.in-Ok.ensures.held in
    rw (c.told.ensures.0, c.told.ensures.1)
    (ended_in_memory _ _ _ c.in-Err-live.unfinished.store (c.in-Err-live.ensures.ended
    (memory_store_is_clean c.in-Err-live.unfinished.store) made.0 new_book made.1 new_is_calm))
