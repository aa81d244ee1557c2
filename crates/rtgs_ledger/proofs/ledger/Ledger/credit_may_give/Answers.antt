use Rattle.std.proofs.Common.{◌≡◌, ◌∙◌, length, ap, sym, true≢false, arith}
use Rattle.std.proofs.lemmas.Bool.Decides.{nat_tests}
use Rattle.rtgs_book.specs.declared.book.Book.{Book}
use Rattle.rtgs_book.specs.Lookup.{credit_of}
use Rattle.rtgs_ledger.proofs.Reach.{credit_at, queue_is_empty}
use Rattle.rtgs_ledger.proofs.Whole.{is_of_book, whole}
use Rattle.rtgs_ledger.proofs.ledger.Ledger.credit_may_give.Goals as goal

pub returns-then-is_empty : goal.returns-then-is_empty
returns-then-is_empty c book is none some =
    let r = c.self.inside.records in
    let of = is_of_book book r c.args.self.now c.self.view_is is in
    let test = sym c.is_empty.ensures ∙ c.if-is_empty.true in
    let few : length c.queue.result.now ≡ 0 = grind (arith, nat_tests, test) in
    absurd (true≢false (sym (queue_is_empty c.queues_are_of_the_waiting.ensures book r.orders.orders
    c.args.code.now c.queue.result.now of.waiting c.queue.ensures.numbers few) ∙ some))

pub returns : goal.returns
returns c book is none some =
    let r = c.self.inside.records in
    let of = is_of_book book r c.args.self.now c.self.view_is is in
    let found = sym c.get.ensures ∙ c.in-Some.is in
    let limit = sym (ap (λ (b : Book). credit_of b c.args.code.now) of.same)
    ∙ credit_at (whole book r) of.kept c.args.code.now c.in-Some.account found in
    grind (arith, nat_tests, none, limit)
