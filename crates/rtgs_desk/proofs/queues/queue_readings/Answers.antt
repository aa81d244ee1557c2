use Rattle.std.proofs.Common.{◌≡◌, ◌∙◌, ℕ, List, ap, slice_index, sym, rules}
use Rattle.std.proofs.lemmas.List.{take_all}
use Rattle.std.specs.List.{flat_map}
use Rattle.rtgs_book.specs.declared.account.Account.{Account}
use Rattle.rtgs_book.specs.Queue.{queue}
use Rattle.rtgs_book.specs.cores.Following.{code_of}
use Rattle.rtgs_desk.specs.Queues.{queue_if_any}
use Rattle.rtgs_desk.proofs.QueueLemmas.{at_place, flat_map_more, length_at, queues_are}
use Rattle.rtgs_desk.proofs.queues.queue_readings.Goals as goal

pub loop-index-preserved : goal.loop-index-preserved
loop-index-preserved c = record {
  first = λ book choice is greatest.
      let items = c.accounts-account-items.result.now in
      let a = c.account-item.result in
      let lengths = c.in_ok-lengths.lengths.items in
      let same : c.as_slice.result.now ≡ lengths = search rules in
      let chosen : c.chosen_at-chosen.result ≡ slice_index lengths c.loop-index.index =
      c.chosen_at-chosen.ensures ∙ ap (λ (xs : List ℕ). slice_index xs c.loop-index.index) same in
      let there = at_place items c.loop-index.index a c.loop-index-test.true c.account-item.is in
      let length = length_at book choice c.args.ledger.now.core lengths items c.loop-index.index a is
      c.accounts-account-items.ensures (c.in_ok-lengths.ensures.chosen book choice is greatest) there in
      flat_map_more (λ (a : Account). queue_if_any book choice (code_of a) (queue book (code_of a))) items
      c.loop-index.index a c.loop-index.readings.items c.add_queue.new.readings.items c.loop-index-test.true
      c.account-item.is (c.loop-index.invariant.first book choice is greatest)
      (c.in_ok-add_queue.ensures book choice is (length ∙ sym chosen));
}

pub returns-clause-answered : goal.returns-clause-answered
returns-clause-answered c book choice is greatest =
    let items = c.accounts-account-items.result.now in
    queues_are book choice c.args.ledger.now.core items c.loop-index.readings.items is c.accounts-account-items.ensures
    (c.loop-index.invariant.first book choice is greatest
    ∙ ap (flat_map (λ (a : Account). queue_if_any book choice (code_of a) (queue book (code_of a))))
    (take_all c.loop-index.index items c.loop-index-test.false))
