use Rattle.std.proofs.Common.{◌≡◌, ◌<◌, ◌≤◌, ◌==◌, true, eqb-true, eq-eqb}
use Rattle.std.proofs.lemmas.Bool.{and_parts, ltb-true, lt-ltb}
use Rattle.rtgs_book.specs.declared.posting.Posting.{Posting}
use Rattle.rtgs_book.specs.declared.order.Order.{Order}
use Rattle.rtgs_book.specs.declared.mark.Mark.{Mark}
use Rattle.rtgs_book.specs.Commands.{is_date}
use Rattle.rtgs_book.specs.cores.Nexts.{posting_after, order_after, mark_after, is_posting_after, is_order_after}
use Rattle.rtgs_book.specs.cores.Nexts.{is_mark_after}
use Rattle.rtgs_book.proofs.cores.Lists.{found_passes, found_least}
use Rattle.rtgs_lists.proofs.Bools.{and_true}
use Rattle.rtgs_lists.proofs.Lists.{all_weaker}
use Rattle.rtgs_book.proofs.cores.laws.nexts_are_the_least.Goals as goal

pub returns-clause-posting : goal.returns-clause-posting
unfolding posting_after
returns-clause-posting c book date number next sound is =
    let hit = and_parts (is_date next.date date) _ (found_passes
    (is_posting_after date number) next book.postings is) in
    let listed = c.records_are_listed.ensures.postings book sound in
    let least = found_least (λ (p : Posting). p.number) (is_posting_after date number) next book.postings
    listed.numbers is in (
      hit.0,
      ltb-true number next.number hit.1,
      all_weaker (λ (p : Posting). is_posting_after date number p ≡ true → next.number ≤ p.number)
          (λ (p : Posting). is_date p.date date ≡ true → number < p.number → next.number ≤ p.number)
          (λ p to on above. to (and_true _ _ on (lt-ltb number p.number above))) book.postings least,
    )

pub returns-clause-order : goal.returns-clause-order
unfolding order_after
returns-clause-order c book date number next sound is =
    let hit = and_parts (next.date == date) _ (found_passes (is_order_after date number) next book.orders is) in
    let numbered = c.records_are_listed.ensures.orders book sound in
    let least = found_least (λ (o : Order). o.number) (is_order_after date number) next book.orders numbered is in (
      eqb-true next.date date hit.0,
      ltb-true number next.number hit.1,
      all_weaker (λ (o : Order). is_order_after date number o ≡ true → next.number ≤ o.number)
          (λ (o : Order). o.date ≡ date → number < o.number → next.number ≤ o.number)
          (λ o to on above. to (and_true _ _ (eq-eqb o.date date on) (lt-ltb number o.number above))) book.orders least,
    )

pub returns-clause-mark : goal.returns-clause-mark
unfolding mark_after
returns-clause-mark c book date number next sound is =
    let hit = and_parts (next.date == date) _ (found_passes (is_mark_after date number) next book.marks is) in
    let listed = c.records_are_listed.ensures.marks book sound in
    let least = found_least (λ (m : Mark). m.number) (is_mark_after date number) next book.marks listed.numbers is in (
      eqb-true next.date date hit.0,
      ltb-true number next.number hit.1,
      all_weaker (λ (m : Mark). is_mark_after date number m ≡ true → next.number ≤ m.number)
          (λ (m : Mark). m.date ≡ date → number < m.number → next.number ≤ m.number)
          (λ m to on above. to (and_true _ _ (eq-eqb m.date date on) (lt-ltb number m.number above))) book.marks least,
    )
