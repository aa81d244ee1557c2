use Rattle.std.proofs.Common.{[], ◌≡◌, ◌≤◌, ◌<◌, ◌+◌, length, get_or, arith, sum_by, ap, sym, ◌∙◌, refl, take, All}
use Rattle.std.proofs.lemmas.List.{take_all}
use Rattle.std.proofs.lemmas.List.Elements.{All-same}
use Rattle.rtgs_gridlock.specs.Choices.{queue_of, amount_to, received}
use Rattle.rtgs_gridlock.specs.Fundings.{everything}
use Rattle.rtgs_gridlock.proofs.ChoiceLemmas.{received_from, received_from_none, received_from_more, received_from_all}
use Rattle.rtgs_gridlock.proofs.ChoiceLemmas.{payments_below_more, payments_below-le}
use Rattle.rtgs_gridlock.proofs.fundings.credit_all.Goals as goal

pub loop-index-init : goal.loop-index-init
loop-index-init c = record {
  funds = λ p b. omega (arith, received_from_none c.args.queues.now (everything c.args.queues.now) p);
  small = λ p b. omega (arith, received_from_none c.args.queues.now (everything c.args.queues.now) p);
  owed = λ p. refl;
}

-- what a receiver has so far and may yet get is within what all the payments could bring
pub credit-requires-clause-room : goal.credit-requires-clause-room
credit-requires-clause-room c =
    λ k d within.
    let queues = c.args.queues.now in
    let index = c.loop-index.index in
    let receivers : All (λ payment. payment.receiver < length queues) c.queue.result.now =
    All-same (λ payment. payment.receiver < length queues) c.queue.result.now (queue_of queues index) c.queue.ensures
    (c.requires.receivers index [] (omega arith)) in
    let receiver = (get_or c.queue.result.now k d).receiver in
    let inside = receivers k d within in
    let funds = c.loop-index.invariant.funds receiver inside in
    let small = c.loop-index.invariant.small receiver inside in
    let start = c.requires.small receiver inside in
    let more = payments_below_more index queues in
    let all = payments_below-le (index + 1) queues (omega arith) in
    omega (arith, funds, small, start, more, all, ap length c.queue.ensures)

pub loop-index-preserved : goal.loop-index-preserved
loop-index-preserved c =
    let queues = c.args.queues.now in
    let index = c.loop-index.index in
    let count : length queues ≤ length c.loop-index.fundings = omega arith in
    record {
      funds = λ p b.
          let step = received_from_more index queues (everything queues) p in
          let whole : sum_by (amount_to p) (take (length (queue_of queues index)) (queue_of queues index))
          ≡ sum_by (amount_to p) c.queue.result.now =
          ap (sum_by (amount_to p)) (take_all _ (queue_of queues index) (omega arith) ∙ sym c.queue.ensures) in
          omega (arith, step, whole, c.loop-index.invariant.funds p b, c.credit.ensures.funds p (omega arith));
      small = λ p b.
          let step = received_from_more index queues (everything queues) p in
          let whole : sum_by (amount_to p) (take (length (queue_of queues index)) (queue_of queues index))
          ≡ sum_by (amount_to p) c.queue.result.now =
          ap (sum_by (amount_to p)) (take_all _ (queue_of queues index) (omega arith) ∙ sym c.queue.ensures) in
          let more = payments_below_more index queues in
          omega (
            arith,
            step,
            whole,
            more,
            c.loop-index.invariant.small p b,
            c.credit.ensures.small p (omega arith),
            ap
                length c.queue.ensures,
          );
      owed = λ p. c.credit.ensures.owed p ∙ c.loop-index.invariant.owed p;
    }

pub returns-clause-funds : goal.returns-clause-funds
returns-clause-funds c = λ p b.
    let queues = c.args.queues.now in
    let at_end : c.loop-index.index ≡ length queues = omega arith in
    let here : received_from c.loop-index.index queues (everything queues) p ≡ received queues (everything queues) p =
    ap (λ n. received_from n queues (everything queues) p) at_end ∙ sym (received_from_all queues (everything queues) p)
    in
    omega (arith, here, c.loop-index.invariant.funds p b)
