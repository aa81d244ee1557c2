use Rattle.std.proofs.Common.{ap}
use Rattle.rtgs_book.specs.declared.cores.found.Found.{Found}
use Rattle.rtgs_book.specs.cores.Cores.{found_for}
use Rattle.rtgs_ledger.proofs.ledger.Ledger.decide_own.Goals as goal

pub returns-in-Post-clause-prepared : goal.returns-in-Post-clause-prepared
unfolding found_for
returns-in-Post-clause-prepared c book is found = rw c.in-Post.is (c.decide_post.ensures.prepared book is
    (ap (λ (f : Found). f.posting) (rw c.in-Post.is at found)))

pub returns-in-Post-clause-refused : goal.returns-in-Post-clause-refused
unfolding found_for
returns-in-Post-clause-refused c book is found = rw c.in-Post.is (c.decide_post.ensures.refused book is
    (ap (λ (f : Found). f.posting) (rw c.in-Post.is at found)))

pub returns-in-Order-clause-prepared : goal.returns-in-Order-clause-prepared
unfolding found_for
returns-in-Order-clause-prepared c book is found = rw c.in-Order.is (c.decide_order.ensures.prepared book is
    (ap (λ (f : Found). f.order) (rw c.in-Order.is at found)))

pub returns-in-Order-clause-refused : goal.returns-in-Order-clause-refused
unfolding found_for
returns-in-Order-clause-refused c book is found = rw c.in-Order.is (c.decide_order.ensures.refused book is
    (ap (λ (f : Found). f.order) (rw c.in-Order.is at found)))

pub returns-in-Withdraw-clause-prepared : goal.returns-in-Withdraw-clause-prepared
unfolding found_for
returns-in-Withdraw-clause-prepared c book is found = rw c.in-Withdraw.is (c.decide_withdraw.ensures.prepared book is
    (ap (λ (f : Found). f.order) (rw c.in-Withdraw.is at found)))

pub returns-in-Withdraw-clause-refused : goal.returns-in-Withdraw-clause-refused
unfolding found_for
returns-in-Withdraw-clause-refused c book is found = rw c.in-Withdraw.is (c.decide_withdraw.ensures.refused book is
    (ap (λ (f : Found). f.order) (rw c.in-Withdraw.is at found)))
