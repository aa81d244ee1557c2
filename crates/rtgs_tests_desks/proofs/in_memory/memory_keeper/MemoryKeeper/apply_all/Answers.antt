use Rattle.std.proofs.Common.{◌≡◌, ◌+◌, ◌∙◌, [], ◌∷◌, drop, sym, ap, subst}
use Rattle.std.proofs.Math.ListN.{drop_of_length-le}
use Rattle.std.proofs.lemmas.List.{drop_more}
use Rattle.rtgs_book.specs.Changes.{changed}
use Rattle.rtgs_tests_desks.specs.in_memory.Memory.{book_of, ListsHaveRoom}
use Rattle.rtgs_tests_desks.proofs.in_memory.Making.{Remains, from_start, one_more, at_end, room_for_one}
use Rattle.rtgs_tests_desks.proofs.in_memory.memory_keeper.MemoryKeeper.apply_all.Goals as goal

pub loop-row-init : goal.loop-row-init
loop-row-init c = record {
  room = c.requires;
  remains = λ sound end. from_start (book_of c.args.self.now)
      c.args.rows.now sound;
}

pub apply-requires : goal.apply-requires
apply-requires c =
    let rows = c.args.rows.now in
    let i = c.loop-row.row-index in
    let row = c.row-item.result in
    let here : drop i rows ≡ row ∷ drop (i + 1) rows = drop_more rows i row c.loop-row-test.true
    ∙ ap (λ r. r ∷ drop (i + 1) rows) (sym c.row-item.is) in
    room_for_one c.loop-row.self row (drop (i + 1) rows) (subst (ListsHaveRoom c.loop-row.self) here
    c.loop-row.invariant.room)

pub loop-row-preserved : goal.loop-row-preserved
loop-row-preserved c =
    let rows = c.args.rows.now in
    let i = c.loop-row.row-index in
    let row = c.row-item.result in
    let start = book_of c.args.self.now in
    let here : drop i rows ≡ row ∷ drop (i + 1) rows = drop_more rows i row c.loop-row-test.true
    ∙ ap (λ r. r ∷ drop (i + 1) rows) (sym c.row-item.is) in
    record {
      room = c.apply.ensures.room (drop (i + 1) rows) (subst (ListsHaveRoom c.loop-row.self) here
          c.loop-row.invariant.room);
      remains = λ sound end. one_more (book_of c.loop-row.self) (book_of c.apply.new.self) row (drop (i + 1) rows)
          (changed start rows) end.orders_numbered
          (subst (λ left. Remains (book_of c.loop-row.self) left (changed start rows)) here
          (c.loop-row.invariant.remains sound end)) c.apply.ensures.made;
    }

pub returns : goal.returns
returns c = λ sound end.
    let none : drop c.loop-row.row-index c.args.rows.now ≡ [] =
    drop_of_length-le c.args.rows.now {i = c.loop-row.row-index} c.loop-row-test.false in
    at_end (book_of c.loop-row.self) (changed (book_of c.args.self.now) c.args.rows.now)
    (drop c.loop-row.row-index c.args.rows.now) none (c.loop-row.invariant.remains sound end)
