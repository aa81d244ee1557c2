use Rattle.rtgs_book.specs.declared.command.Command.TheVariants as command
use Rattle.std.proofs.Common.{◌≡◌, ◌∙◌, false, Some, length, sym, inl, inr}
use Rattle.std.proofs.Common.{pos, sum_by, ◌≤◌, refl, subst, arith}
use Rattle.std.proofs.lemmas.Bool.Decides.{nat_tests}
use Rattle.std.proofs.lemmas.Result.{err_from_is_err_and}
use Rattle.rtgs_book.specs.declared.book.Book.{Book}
use Rattle.rtgs_book.specs.declared.command.Command.TheVariants.{Resolve}
use Rattle.rtgs_book.specs.declared.order.Order.{Order}
use Rattle.rtgs_book.specs.Books.{is_closed}
use Rattle.rtgs_book.specs.Lookup.{codes_of}
use Rattle.rtgs_book.specs.cores.Cores.{IsCoreOf}
use Rattle.rtgs_ledger.specs.Kept.{WouldAct}
use Rattle.rtgs_ledger.specs.Resolving.{AreSmall, IsSettlement}
use Rattle.rtgs_ledger.proofs.Resolving.{closed_now, date_now, open_now, wrong_phase, nothing_chosen, settlement_is}
use Rattle.rtgs_ledger.proofs.Resolving.{would_act}
use Rattle.rtgs_ledger.proofs.Settling.{small_of}
use Rattle.rtgs_ledger.proofs.Whole.{book_of, whole, is_of_book, marks_are_counted, to_refused}
use Rattle.rtgs_ledger.proofs.ledger.Ledger.settlement.Goals as goal
use Rattle.rtgs_ledger.proofs.ledger.Ledger.settlement.Goals.{In-Some}

pub returns-in_default-clause-refused : goal.returns-in_default-clause-refused
returns-in_default-clause-refused c book is =
    let of = is_of_book book c.self.inside.records c.args.self.now c.self.view_is is in
    let r = whole book c.self.inside.records in
    let greatest = c.greatest_exists.ensures (book_of r) of.kept.sound.floors in
    to_refused book c.self.inside.records c.args.self.now.core of command.Resolve _ (inr (
      wrong_phase (book_of r) greatest.0 greatest.1
          (closed_now r of.kept (sym c.business_date.ensures ∙ c.in_default.is)),
      refl,
    ))

-- on a business day a resolution would act
opened : (c : In-Some) (book : Book) → IsCoreOf book c.args.self.now.core → is_closed book.day.phase ≡ false
opened c book is =
    let of = is_of_book book c.self.inside.records c.args.self.now c.self.view_is is in
    subst (λ (b : Book). is_closed b.day.phase ≡ false) of.same
    (open_now (whole book c.self.inside.records) of.kept c.in-Some.date (sym c.business_date.ensures ∙ c.in-Some.is))

acts : (c : In-Some) (book : Book) → IsCoreOf book c.args.self.now.core → WouldAct book Resolve
acts c book is =
    let greatest = c.greatest_exists.ensures book is.sound.floors in
    would_act book greatest.0 greatest.1 (opened c book is)

pub returns-in_default-chosen_orders-clause-refused : goal.returns-in_default-chosen_orders-clause-refused
returns-in_default-chosen_orders-clause-refused c book is =
    inl (refl, λ _. acts (goal.at.returns-in_default-chosen_orders-clause-refused c).In-Some book is)

pub returns-in_err-accounts-clause-refused : goal.returns-in_err-accounts-clause-refused
returns-in_err-accounts-clause-refused c book is =
    let passed = err_from_is_err_and c.from_residual.result c.from_residual.ensures.1 in
    rw (passed.1, passed.2)
    (inl (refl, λ _. acts (goal.at.returns-in_err-accounts-clause-refused c).In-Some book is))

pub returns-then-is_empty-clause-none : goal.returns-then-is_empty-clause-none
returns-then-is_empty-clause-none c book is _ =
    let test = sym c.is_empty.ensures ∙ c.if-is_empty.true in
    let none : length c.in-Ok.orders.items ≡ 0 = grind (arith, nat_tests, c.in-Ok.orders.ok.0) in
    nothing_chosen book c.args.self.now.core is c.in-Ok.orders.items (c.in-Ok.ensures book is)
    c.chosen_numbers.ensures.count c.taken_are_chosen.ensures.numbers
    (opened (goal.at.returns-then-is_empty-clause-none c).In-Some book is) none

pub returns-then-not-counts_marks-clause-refused : goal.returns-then-not-counts_marks-clause-refused
returns-then-not-counts_marks-clause-refused c book is =
    let of = is_of_book book c.self.inside.records c.args.self.now c.self.view_is is in
    let counted = c.counts_marks.ensures.1 (marks_are_counted book c.self.inside.records c.args.self.now.core of) in
    let test = c.if-not-counts_marks.true in
    absurd (grind (arith, nat_tests, counted, test))

pub returns-clause-some : goal.returns-clause-some
unfolding codes_of
returns-clause-some c book is =
    let r = c.self.inside.records in
    let of = is_of_book book r c.args.self.now c.self.view_is is in
    let w = whole book r in
    let orders = c.in-Ok.orders.items in
    let chosen = c.in-Ok.ensures book is in
    let test = sym c.is_empty.ensures ∙ c.if-is_empty.false in
    let some : 1 ≤ length orders = grind (arith, nat_tests, c.in-Ok.orders.ok.0, test) in
    let date = c.in-Some.date in
    let dated : book.day.date ≡ Some date = subst (λ (b : Book). b.day.date ≡ Some date) of.same
    (date_now w of.kept date (sym c.business_date.ensures ∙ c.in-Some.is)) in
    let small = subst AreSmall of.accounts (small_of (book_of w) r.accounts.accounts of.kept.balanced
    (c.balances_are_small.ensures (book_of w) of.kept.sound of.kept.fits)) in
    let made = rw c.deref-2.ensures.value at c.mark_of-mark.ensures in
    let left = rw c.deref.ensures.value at c.in_ok-accounts.ensures in
    subst (IsSettlement book c.args.self.now.core orders c.mark_of-mark.result) (sym (left small chosen.few))
    (settlement_is book c.args.self.now.core is orders chosen c.chosen_numbers.ensures.count
    c.taken_are_chosen.ensures.numbers some c.mark_of-mark.result date dated
    (made chosen.few ∙ (λ i. record {
      number = of.marks i;
      date = date;
      count = length orders;
      value = pos (sum_by (λ (o : Order). o.amount) orders);
    })) c.taken_are_chosen.ensures.value c.taken_are_chosen.ensures.gains c.settled_balances.ensures
    c.rows_settle.ensures.step c.rows_settle.ensures.leads)
