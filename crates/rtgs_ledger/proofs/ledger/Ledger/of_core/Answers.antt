use Rattle.rtgs_ledger.proofs.Loading.{of_a_book, rising, before, waiting}
use Rattle.rtgs_ledger.proofs.ledger.Ledger.of_core.Goals as goal

pub load-requires : goal.load-requires
load-requires c = of_a_book c.requires.0 c.args.core c.requires.1

pub load-requires-2-clause-rising : goal.load-requires-2-clause-rising
load-requires-2-clause-rising c = rising c.requires.0 c.args.core c.requires.1
    c.waiting_orders_can_be_loaded.ensures.rising

pub load-requires-2-clause-before : goal.load-requires-2-clause-before
load-requires-2-clause-before c = before c.requires.0 c.args.core c.requires.1
    c.waiting_orders_can_be_loaded.ensures.before

pub load-requires-2-clause-waiting : goal.load-requires-2-clause-waiting
load-requires-2-clause-waiting c = waiting c.requires.0 c.args.core c.requires.1
    c.waiting_orders_can_be_loaded.ensures.waiting

pub returns : goal.returns
returns c = λ i. record {
  accounts = c.load.ensures i;
  waiting = c.in_ok-load.ensures.orders i;
  day = c.args.core.day;
  next_posting = c.args.core.next_posting;
  next_order = c.in_ok-load.ensures.next i;
  next_mark = c.args.core.next_mark;
}
