use Rattle.std.proofs.Common.{◌≡◌, ◌∙◌, ◌<◌, ◌-◌, length, get_or, ap, subst, sym, arith}
use Rattle.std.proofs.lemmas.Bool.Decides.{nat_tests}
use Rattle.rtgs_records.specs.Held.{Held}
use Rattle.rtgs_ledger.specs.Freeing.{IsLast}
use Rattle.rtgs_ledger.proofs.Reach.{ends_with}
use Rattle.rtgs_ledger.proofs.ledger.Ledger.is_last.Goals as goal

pub returns : goal.returns
returns c is =
    let test = sym c.is_empty.ensures ∙ c.if-is_empty.false in
    let some : 0 < length c.queue-queue.result.now = grind (arith, nat_tests, test) in
    let numbers = c.queue-queue.result.now in
    let last : get_or numbers (length numbers - 1) 0 ≡ c.args.number = grind (arith, nat_tests) in
    let ends = ends_with numbers c.args.number some last in
    subst (λ os. IsLast os c.args.number) (ap (λ (h : Held). h.core.waiting) c.self.view_is) (record {
      order = c.in-Some.order;
      found = sym c.numbered.ensures ∙ c.in-Some.is;
      last = (ends.0, sym c.queue-queue.ensures.numbers ∙ ends.1);
    })
