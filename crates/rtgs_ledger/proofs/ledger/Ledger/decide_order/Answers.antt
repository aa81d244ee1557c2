use Rattle.rtgs_book.specs.declared.command.Command.TheVariants as command
use Rattle.std.proofs.Common.{◌≡◌, ◌∙◌, sym, ap, subst, find, Some, nat_le, length, true, false, not, ◌&&◌, inr}
use Rattle.std.proofs.Common.{refl, arith}
use Rattle.std.proofs.lemmas.Bool.Decides.{nat_tests}
use Rattle.std.proofs.lemmas.Result.{err_from_is_err_and}
use Rattle.rtgs_book.specs.declared.answer.Known.TheVariants as known
use Rattle.rtgs_book.specs.declared.limits.TheConstants.{LONGEST_QUEUE, LARGEST_NUMBER}
use Rattle.rtgs_book.specs.Commands.{as_sent, settles_at_once, settles_now}
use Rattle.rtgs_book.specs.Lookup.{order_named}
use Rattle.rtgs_book.specs.Queue.{waiting}
use Rattle.rtgs_records.specs.accounts.Accounts.{code_of, is_of}
use Rattle.rtgs_book.specs.cores.Cores.{IsCoreOf}
use Rattle.rtgs_ledger.specs.Ordering.{IsTaken}
use Rattle.rtgs_ledger.proofs.Reading.{numbers_are}
use Rattle.rtgs_ledger.proofs.Kept.{is_known, is_unknown, prepared_repeat}
use Rattle.rtgs_ledger.proofs.Ordering.{unknown, repeats, reference_used, not_open, unknown_receiver, same_party}
use Rattle.rtgs_ledger.proofs.Ordering.{numbers_used_up, queue_full, shut_now, open_now, settles_is, order_taken}
use Rattle.rtgs_ledger.proofs.Ordering.{due_refused, too_early_is, none_is, waiting_all}
use Rattle.rtgs_book.specs.declared.book.Book.{Book}
use Rattle.rtgs_ledger.proofs.Whole.{held_of, book_of, whole, is_of_book, to_refused, to_prepared}
use Rattle.rtgs_ledger.proofs.ledger.Ledger.decide_order.Goals as goal
use Rattle.rtgs_ledger.proofs.ledger.Ledger.decide_order.Goals.{After-count, After-settles_now}
use Rattle.rtgs_lists.proofs.Bools.{and_right_false}
use Rattle.std.proofs.lemmas.Bool.{and_parts}
use Rattle.std.proofs.Common.{is_none, None}

pub returns-in_default-clause-refused : goal.returns-in_default-clause-refused
returns-in_default-clause-refused c book is found =
    let of = is_of_book book c.self.inside.records c.args.self.now c.self.view_is is in
    let r = whole book c.self.inside.records in
    to_refused book c.self.inside.records c.args.self.now.core of
    (command.Order c.args.sender c.args.order.now) _ (inr (
      unknown (book_of r) c.args.sender c.args.order.now (is_unknown r of.kept c.args.sender
          (sym c.get.ensures ∙ c.in_default.is)),
      refl,
    ))

pub returns-then-was_sent_as-clause-prepared : goal.returns-then-was_sent_as-clause-prepared
unfolding order_named
returns-then-was_sent_as-clause-prepared c book is found =
    let of = is_of_book book c.self.inside.records c.args.self.now c.self.view_is is in
    let r = whole book c.self.inside.records in
    let found_here : c.args.found ≡ order_named (book_of r) c.args.sender c.args.order.now.reference = found
    ∙ ap (λ (b : Book). order_named b c.args.sender c.args.order.now.reference) (sym of.same) in
    let o = c.in-Some-found.found in
    let there = is_known r of.kept c.args.sender c.in-Some.sending (sym c.get.ensures ∙ c.in-Some.is) in
    let same = sym c.was_sent_as.ensures ∙ c.if-was_sent_as.true in
    let step = repeats (book_of r) c.args.sender c.args.order.now there o
    (sym found_here ∙ c.in-Some-found.is) same in
    rw (c.repeated.ensures.answer, c.repeated.ensures.change) (to_prepared book c.self.inside.records
    c.args.self.now.core of _ _ _ (prepared_repeat (held_of r) _ (known.Order o.number o.state) of.kept step))

pub returns-in-Some-found-clause-refused : goal.returns-in-Some-found-clause-refused
unfolding order_named
returns-in-Some-found-clause-refused c book is found =
    let of = is_of_book book c.self.inside.records c.args.self.now c.self.view_is is in
    let r = whole book c.self.inside.records in
    let found_here : c.args.found ≡ order_named (book_of r) c.args.sender c.args.order.now.reference = found
    ∙ ap (λ (b : Book). order_named b c.args.sender c.args.order.now.reference) (sym of.same) in
    let o = c.in-Some-found.found in
    let there = is_known r of.kept c.args.sender c.in-Some.sending (sym c.get.ensures ∙ c.in-Some.is) in
    let other = sym c.was_sent_as.ensures ∙ c.if-was_sent_as.false in
    to_refused book c.self.inside.records c.args.self.now.core of
    (command.Order c.args.sender c.args.order.now) _ (inr (
      reference_used (book_of r) c.args.sender c.args.order.now
          there o (sym found_here ∙ c.in-Some-found.is) other,
      refl,
    ))

pub returns-in_default-open_date-clause-refused : goal.returns-in_default-open_date-clause-refused
unfolding order_named
returns-in_default-open_date-clause-refused c book is found =
    let of = is_of_book book c.self.inside.records c.args.self.now c.self.view_is is in
    let r = whole book c.self.inside.records in
    let found_here : c.args.found ≡ order_named (book_of r) c.args.sender c.args.order.now.reference = found
    ∙ ap (λ (b : Book). order_named b c.args.sender c.args.order.now.reference) (sym of.same) in
    let there = is_known r of.kept c.args.sender c.in-Some.sending (sym c.get.ensures ∙ c.in-Some.is) in
    to_refused book c.self.inside.records c.args.self.now.core of
    (command.Order c.args.sender c.args.order.now) _ (inr (
      not_open (book_of r) c.args.sender c.args.order.now there
          (sym found_here ∙ c.in_default-found.is) (shut_now r of.kept
          (sym c.open_date.ensures ∙ c.in_default-open_date.is)),
      refl,
    ))

pub returns-in_default-get-clause-refused : goal.returns-in_default-get-clause-refused
unfolding order_named
returns-in_default-get-clause-refused c book is found =
    let of = is_of_book book c.self.inside.records c.args.self.now c.self.view_is is in
    let r = whole book c.self.inside.records in
    let found_here : c.args.found ≡ order_named (book_of r) c.args.sender c.args.order.now.reference = found
    ∙ ap (λ (b : Book). order_named b c.args.sender c.args.order.now.reference) (sym of.same) in
    let there = is_known r of.kept c.args.sender c.in-Some.sending (sym c.get.ensures ∙ c.in-Some.is) in
    let opened = open_now r of.kept c.in-Some-open_date.date (sym c.open_date.ensures ∙ c.in-Some-open_date.is)
    in
    to_refused book c.self.inside.records c.args.self.now.core of
    (command.Order c.args.sender c.args.order.now) _ (inr (
      unknown_receiver (book_of r) c.args.sender c.args.order.now there (sym found_here ∙ c.in_default-found.is) opened
          (is_unknown r of.kept c.args.order.now.receiver (sym c.get-2.ensures ∙ c.in_default-get.is)),
      refl,
    ))

pub returns-then-eq-clause-refused : goal.returns-then-eq-clause-refused
unfolding order_named
returns-then-eq-clause-refused c book is found =
    let of = is_of_book book c.self.inside.records c.args.self.now c.self.view_is is in
    let r = whole book c.self.inside.records in
    let found_here : c.args.found ≡ order_named (book_of r) c.args.sender c.args.order.now.reference = found
    ∙ ap (λ (b : Book). order_named b c.args.sender c.args.order.now.reference) (sym of.same) in
    let there = is_known r of.kept c.args.sender c.in-Some.sending (sym c.get.ensures ∙ c.in-Some.is) in
    let opened = open_now r of.kept c.in-Some-open_date.date (sym c.open_date.ensures ∙ c.in-Some-open_date.is)
    in
    let receiver = is_known r of.kept c.args.order.now.receiver c.in-Some-get.receiving
    (sym c.get-2.ensures ∙ c.in-Some-get.is) in
    to_refused book c.self.inside.records c.args.self.now.core of
    (command.Order c.args.sender c.args.order.now) _ (inr (
      same_party (book_of r) c.args.sender c.args.order.now
          there (sym found_here ∙ c.in_default-found.is) opened receiver (sym c.eq.ensures ∙ c.if-eq.true),
      refl,
    ))

pub returns-in_err-check_due-clause-refused : goal.returns-in_err-check_due-clause-refused
unfolding order_named
returns-in_err-check_due-clause-refused c book is found =
    let of = is_of_book book c.self.inside.records c.args.self.now c.self.view_is is in
    let r = whole book c.self.inside.records in
    let found_here : c.args.found ≡ order_named (book_of r) c.args.sender c.args.order.now.reference = found
    ∙ ap (λ (b : Book). order_named b c.args.sender c.args.order.now.reference) (sym of.same) in
    let there = is_known r of.kept c.args.sender c.in-Some.sending (sym c.get.ensures ∙ c.in-Some.is) in
    let opened = open_now r of.kept c.in-Some-open_date.date (sym c.open_date.ensures ∙ c.in-Some-open_date.is)
    in
    let receiver = is_known r of.kept c.args.order.now.receiver c.in-Some-get.receiving
    (sym c.get-2.ensures ∙ c.in-Some-get.is) in
    let given = err_from_is_err_and c.from_residual.result c.from_residual.ensures.1 in
    rw (given.1, given.2) (to_refused book c.self.inside.records c.args.self.now.core of
    (command.Order c.args.sender c.args.order.now) _ (inr (
    due_refused (book_of r) c.args.sender c.args.order.now there
    (sym found_here ∙ c.in_default-found.is) opened receiver (sym c.eq.ensures ∙ c.if-eq.false) _
    c.in_err-check_due.ensures.refused
    )))

pub returns-then-next-clause-refused : goal.returns-then-next-clause-refused
unfolding order_named
returns-then-next-clause-refused c book is found =
    let of = is_of_book book c.self.inside.records c.args.self.now c.self.view_is is in
    let r = whole book c.self.inside.records in
    let found_here : c.args.found ≡ order_named (book_of r) c.args.sender c.args.order.now.reference = found
    ∙ ap (λ (b : Book). order_named b c.args.sender c.args.order.now.reference) (sym of.same) in
    let there = is_known r of.kept c.args.sender c.in-Some.sending (sym c.get.ensures ∙ c.in-Some.is) in
    let opened = open_now r of.kept c.in-Some-open_date.date (sym c.open_date.ensures ∙ c.in-Some-open_date.is)
    in
    let receiver = is_known r of.kept c.args.order.now.receiver c.in-Some-get.receiving
    (sym c.get-2.ensures ∙ c.in-Some-get.is) in
    let many : nat_le LARGEST_NUMBER (length r.orders)
    ≡ true = (let next = c.next.ensures ∙ of.orders in let test = c.if-next.true in grind
    (arith, nat_tests, next, test)) in
    to_refused book c.self.inside.records c.args.self.now.core of
    (command.Order c.args.sender c.args.order.now) _ (inr (
      numbers_used_up (book_of r) c.args.sender c.args.order.now
          there (sym found_here ∙ c.in_default-found.is) opened receiver (sym c.eq.ensures ∙ c.if-eq.false)
          (too_early_is (book_of r) c.args.order.now.due _ c.in_ok-check_due.ensures.passed.0)
          c.in_ok-check_due.ensures.passed.1 many,
      refl,
    ))

-- whether it settles at once, as the definition says
settles_is_answered : (c : After-settles_now) (book : Book) → IsCoreOf book c.args.self.now.core
    → settles_now (book_of (whole book c.self.inside.records)) c.args.sender c.args.order.now
    ≡ c.settles_now.result
settles_is_answered c book is =
    let of = is_of_book book c.self.inside.records c.args.self.now c.self.view_is is in
    let r = whole book c.self.inside.records in
    let numbers = numbers_are c.queues_are_of_the_waiting.ensures book.orders c.self.inside.records.orders.orders
    (code_of c.in-Some.sending) of.waiting in
    ap (λ b. is_none c.args.order.now.due && b) (settles_is r of.kept c.args.sender c.in-Some.sending
    c.args.order.now.amount (sym c.get.ensures ∙ c.in-Some.is))
    ∙ (rw numbers at (sym c.settles_now.ensures.value))

-- the order that passed the tests, where it settles at once or its sender may have one more that waits
taken : (c : After-settles_now) (book : Book) → IsCoreOf book c.args.self.now.core
    → c.args.found ≡ order_named book c.args.sender c.args.order.now.reference
    → (not (settles_now (book_of (whole book c.self.inside.records)) c.args.sender c.args.order.now)
    && nat_le LONGEST_QUEUE (length (waiting (book_of (whole book c.self.inside.records)) c.args.sender))) ≡ false
    → IsTaken book c.next_order-taken.result
unfolding order_named
taken c book is found room =
    let of = is_of_book book c.self.inside.records c.args.self.now c.self.view_is is in
    let r = whole book c.self.inside.records in
    let found_here : c.args.found ≡ order_named (book_of r) c.args.sender c.args.order.now.reference = found
    ∙ ap (λ (b : Book). order_named b c.args.sender c.args.order.now.reference) (sym of.same) in
    let few : nat_le LARGEST_NUMBER (length book.orders)
    ≡ false = (let next = c.next.ensures ∙ of.orders in let test = c.if-next.false in
    grind (arith, nat_tests, next, test)) in
    order_taken book c.self.inside.records c.args.self.now.core of c.args.sender c.args.order.now
    c.in-Some-open_date.date c.in-Some.sending c.in-Some-get.receiving c.next_order-taken.result
    (rw c.date_of-order_date.ensures at c.next_order-taken.ensures) (sym c.get.ensures ∙ c.in-Some.is)
    (sym found_here ∙ c.in_default-found.is)
    (sym c.open_date.ensures ∙ c.in-Some-open_date.is) (sym c.get-2.ensures ∙ c.in-Some-get.is)
    (sym c.eq.ensures ∙ c.if-eq.false)
    (too_early_is (book_of r) c.args.order.now.due _ c.in_ok-check_due.ensures.passed.0)
    c.in_ok-check_due.ensures.passed.1 few c.settles_now.ensures.fits room

pub returns-then-settles_now-clause-prepared : goal.returns-then-settles_now-clause-prepared
returns-then-settles_now-clause-prepared c book is found =
    let of = is_of_book book c.self.inside.records c.args.self.now c.self.view_is is in
    let here = (goal.at.returns-then-settles_now-clause-prepared c).After-settles_now in
    let settles = settles_is_answered here book is ∙ c.if-settles_now.true in
    let both = and_parts (is_none c.args.order.now.due) _ settles in
    let direct = none_is c.args.order.now.due both.0 in
    let o = c.next_order-taken.result in
    let settles_it : settles_at_once book o.sender o.amount ≡ true =
    rw c.next_order-taken.ensures (subst (λ (b : Book). settles_at_once b c.args.sender c.args.order.now.amount
    ≡ true) of.same both.1)
    in
    let from_it : find (is_of o.sender) c.args.self.now.core.accounts ≡ Some c.in-Some.sending =
    rw (c.next_order-taken.ensures, ← of.accounts) (sym c.get.ensures ∙ c.in-Some.is) in
    let to_it : find (is_of o.receiver) c.args.self.now.core.accounts ≡ Some c.in-Some-get.receiving =
    rw (c.next_order-taken.ensures, ← of.accounts) (sym c.get-2.ensures ∙ c.in-Some-get.is) in
    let direct_it : o.due ≡ None = rw c.next_order-taken.ensures direct in
    rw c.next_order-taken.ensures at (c.decide_settled.ensures.prepared book is
    (taken here book is found (rw settles refl)) direct_it settles_it from_it to_it)

pub returns-then-settles_now-clause-refused : goal.returns-then-settles_now-clause-refused
returns-then-settles_now-clause-refused c book is found =
    let here = (goal.at.returns-then-settles_now-clause-refused c).After-settles_now in
    let settles = settles_is_answered here book is ∙ c.if-settles_now.true in
    rw c.next_order-taken.ensures at (c.decide_settled.ensures.refused book is
    (taken here book is found (rw settles refl)))

-- all of its sender's orders that wait are counted
count_is_answered : (c : After-count) (book : Book) → IsCoreOf book c.args.self.now.core
    → c.count.result ≡ length (waiting (book_of (whole book c.self.inside.records)) c.args.sender)
count_is_answered c book is =
    let of = is_of_book book c.self.inside.records c.args.self.now c.self.view_is is in
    c.count.ensures
    ∙ waiting_all (book_of (whole book c.self.inside.records)) c.self.inside.records.orders.orders c.args.sender
    of.waiting

pub returns-then-count-ge-LONGEST_QUEUE-clause-refused : goal.returns-then-count-ge-LONGEST_QUEUE-clause-refused
unfolding order_named
returns-then-count-ge-LONGEST_QUEUE-clause-refused c book is found =
    let of = is_of_book book c.self.inside.records c.args.self.now c.self.view_is is in
    let r = whole book c.self.inside.records in
    let found_here : c.args.found ≡ order_named (book_of r) c.args.sender c.args.order.now.reference = found
    ∙ ap (λ (b : Book). order_named b c.args.sender c.args.order.now.reference) (sym of.same) in
    let from = sym c.get.ensures ∙ c.in-Some.is in
    let opened = open_now r of.kept c.in-Some-open_date.date (sym c.open_date.ensures ∙ c.in-Some-open_date.is)
    in
    let receiver = is_known r of.kept c.args.order.now.receiver c.in-Some-get.receiving
    (sym c.get-2.ensures ∙ c.in-Some-get.is) in
    let few : nat_le LARGEST_NUMBER (length r.orders)
    ≡ false = (let next = c.next.ensures ∙ of.orders in let test = c.if-next.false in grind
    (arith, nat_tests, next, test)) in
    let here = goal.at.returns-then-count-ge-LONGEST_QUEUE-clause-refused c in
    let waits = settles_is_answered here.After-settles_now book is ∙ c.if-settles_now.false in
    let long = count_is_answered here.After-count book is in
    let full : nat_le LONGEST_QUEUE (length (waiting (book_of r) c.args.sender))
    ≡ true = grind (arith, nat_tests, long, c.if-count-ge-LONGEST_QUEUE.true) in
    to_refused book c.self.inside.records c.args.self.now.core of
    (command.Order c.args.sender c.args.order.now) _ (inr (
      queue_full (book_of r) c.args.sender c.args.order.now
          (is_known r of.kept c.args.sender c.in-Some.sending from) (sym found_here ∙ c.in_default-found.is)
          opened receiver (sym c.eq.ensures ∙ c.if-eq.false)
          (too_early_is (book_of r) c.args.order.now.due _ c.in_ok-check_due.ensures.passed.0)
          c.in_ok-check_due.ensures.passed.1 few waits full,
      refl,
    ))

pub returns-clause-prepared : goal.returns-clause-prepared
returns-clause-prepared c book is found =
    let of = is_of_book book c.self.inside.records c.args.self.now c.self.view_is is in
    let r = whole book c.self.inside.records in
    let here = goal.at.returns-clause-prepared c in
    let waits = settles_is_answered here.After-settles_now book is ∙ c.if-settles_now.false in
    let long = count_is_answered here.After-count book is in
    let short : nat_le LONGEST_QUEUE (length (waiting (book_of r) c.args.sender))
    ≡ false = grind (arith, nat_tests, long, c.if-count-ge-LONGEST_QUEUE.false) in
    let o = c.next_order-taken.result in
    let waits_it : settles_now book o.sender (as_sent o) ≡ false =
    rw c.next_order-taken.ensures (subst (λ (b : Book). settles_now b c.args.sender c.args.order.now
    ≡ false) of.same waits)
    in
    rw c.next_order-taken.ensures at (c.decide_waiting.ensures.prepared book is
    (taken here.After-settles_now book is found (and_right_false _ _ short)) waits_it)

pub returns-clause-refused : goal.returns-clause-refused
returns-clause-refused c book is found =
    let r = whole book c.self.inside.records in
    let here = goal.at.returns-clause-refused c in
    let long = count_is_answered here.After-count book is in
    let short : nat_le LONGEST_QUEUE (length (waiting (book_of r) c.args.sender))
    ≡ false = grind (arith, nat_tests, long, c.if-count-ge-LONGEST_QUEUE.false) in
    rw c.next_order-taken.ensures at (c.decide_waiting.ensures.refused book
    (taken here.After-settles_now book is found (and_right_false _ _ short)))
