use Rattle.rtgs_book.specs.declared.command.Command.TheVariants as command
use Rattle.std.proofs.Common.{◌≡◌, ◌∙◌, ◌≤◌, true, false, length, sym, ap, subst, inr, refl, arith}
use Rattle.std.proofs.lemmas.Bool.Decides.{nat_tests}
use Rattle.rtgs_book.specs.declared.answer.Known.TheVariants.{Nothing}
use Rattle.rtgs_book.specs.Commands.{is_date}
use Rattle.rtgs_book.specs.declared.book.Book.{Book}
use Rattle.rtgs_ledger.specs.Resolving.{AreGreatest}
use Rattle.rtgs_ledger.proofs.Closing.{repeats, wrong_phase, wrong_date, resolvable, not_cut_off_now, cut_off_now}
use Rattle.rtgs_ledger.proofs.Closing.{cut_off_today, may_lack}
use Rattle.rtgs_ledger.proofs.CuttingOff.{other_date, same_date}
use Rattle.rtgs_ledger.proofs.Kept.{prepared_repeat}
use Rattle.rtgs_ledger.proofs.Resolving.{none_chosen, some_chosen}
use Rattle.rtgs_book.specs.cores.Cores.{IsCoreOf}
use Rattle.rtgs_ledger.specs.Closing.{IsClosable}
use Rattle.rtgs_ledger.proofs.Whole.{held_of, book_of, whole, is_of_book, to_refused, to_prepared}
use Rattle.rtgs_ledger.proofs.ledger.Ledger.decide_close_day.Goals as goal
use Rattle.rtgs_ledger.proofs.ledger.Ledger.decide_close_day.Goals.{After-drop-orders-2}

pub returns-then-is_closed_on-clause-prepared : goal.returns-then-is_closed_on-clause-prepared
returns-then-is_closed_on-clause-prepared c book is =
    let of = is_of_book book c.self.inside.records c.args.self.now c.self.view_is is in
    let r = whole book c.self.inside.records in
    let greatest = c.greatest_exists.ensures (book_of r) of.kept.sound.floors in
    let step = repeats (book_of r) c.args.date greatest.0 greatest.1
    (sym c.is_closed_on.ensures ∙ c.if-is_closed_on.true) in
    rw (c.repeated.ensures.answer, c.repeated.ensures.change) (to_prepared book c.self.inside.records
    c.args.self.now.core of _ _ _ (prepared_repeat (held_of r) _ Nothing of.kept step))

pub returns-in_default-clause-refused : goal.returns-in_default-clause-refused
returns-in_default-clause-refused c book is =
    let of = is_of_book book c.self.inside.records c.args.self.now c.self.view_is is in
    let r = whole book c.self.inside.records in
    let greatest = c.greatest_exists.ensures (book_of r) of.kept.sound.floors in
    to_refused book c.self.inside.records c.args.self.now.core of (command.CloseDay c.args.date) _ (inr (
      wrong_phase (book_of r) c.args.date greatest.0 greatest.1
          (sym c.is_closed_on.ensures ∙ c.if-is_closed_on.false)
          (not_cut_off_now r of.kept (sym c.cut_off_date.ensures ∙ c.in_default.is)),
      refl,
    ))

pub returns-then-ne-clause-refused : goal.returns-then-ne-clause-refused
returns-then-ne-clause-refused c book is =
    let of = is_of_book book c.self.inside.records c.args.self.now c.self.view_is is in
    let r = whole book c.self.inside.records in
    let greatest = c.greatest_exists.ensures (book_of r) of.kept.sound.floors in
    let day = sym c.cut_off_date.ensures ∙ c.in-Some.is in
    let other : is_date r.day.date c.args.date ≡ false = ap (λ d. is_date d c.args.date)
    (cut_off_today r of.kept c.in-Some.today day)
    ∙ other_date c.in-Some.today c.args.date (sym c.ne.ensures ∙ c.if-ne.true) in
    to_refused book c.self.inside.records c.args.self.now.core of (command.CloseDay c.args.date) _ (inr (
      wrong_date (book_of r) c.args.date greatest.0 greatest.1
          (cut_off_now r of.kept c.in-Some.today day) other,
      refl,
    ))

pub returns-in_default-chosen_orders-clause-refused : goal.returns-in_default-chosen_orders-clause-refused
returns-in_default-chosen_orders-clause-refused c book is = may_lack book c.args.date

pub returns-then-not-is_empty-clause-refused : goal.returns-then-not-is_empty-clause-refused
returns-then-not-is_empty-clause-refused c book is =
    let of = is_of_book book c.self.inside.records c.args.self.now c.self.view_is is in
    let r = whole book c.self.inside.records in
    let day = sym c.cut_off_date.ensures ∙ c.in-Some.is in
    let same : is_date r.day.date c.args.date ≡ true = ap (λ d. is_date d c.args.date)
    (cut_off_today r of.kept c.in-Some.today day)
    ∙ same_date c.in-Some.today c.args.date (sym c.ne.ensures ∙ c.if-ne.false) in
    let chosen = subst (λ (b : Book). AreGreatest b c.in-Ok.orders.items) (sym of.same) (c.in-Ok.ensures book is)
    in
    let test = sym c.is_empty.ensures ∙ c.if-not-is_empty.true in
    let some : 1 ≤ length c.in-Ok.orders.items = grind (arith, nat_tests, c.in-Ok.orders.ok.0) in
    to_refused book c.self.inside.records c.args.self.now.core of (command.CloseDay c.args.date) _ (inr (
      resolvable (book_of r) c.args.date chosen.choice chosen.greatest
          (cut_off_now r of.kept c.in-Some.today day) same
          (some_chosen c.chosen_numbers.ensures.count c.taken_are_chosen.ensures.numbers (book_of r)
          c.in-Ok.orders.items chosen of.kept.sound some),
      refl,
    ))

-- where the test of the greatest choice is passed, the day can be closed
closable : (c : After-drop-orders-2) (book : Book) → IsCoreOf book c.args.self.now.core
    → IsClosable book c.args.date
closable c book is =
    let of = is_of_book book c.self.inside.records c.args.self.now c.self.view_is is in
    let r = whole book c.self.inside.records in
    let day = sym c.cut_off_date.ensures ∙ c.in-Some.is in
    let here = subst (λ (b : Book). AreGreatest b c.in-Ok.orders.items) (sym of.same) (c.in-Ok.ensures book is) in
    let test = sym c.is_empty.ensures ∙ c.if-not-is_empty.false in
    let none : length c.in-Ok.orders.items ≡ 0 = grind (arith, nat_tests, c.in-Ok.orders.ok.0) in
    subst (λ (b : Book). IsClosable b c.args.date) of.same (record {
      choice = here.choice;
      greatest = here.greatest;
      none = none_chosen c.chosen_numbers.ensures.count
          c.taken_are_chosen.ensures.numbers (book_of r) c.in-Ok.orders.items here of.kept.sound none;
      cut = cut_off_now r of.kept c.in-Some.today day;
      same = ap (λ d. is_date d c.args.date) (cut_off_today r of.kept c.in-Some.today day)
          ∙ same_date c.in-Some.today c.args.date (sym c.ne.ensures ∙ c.if-ne.false);
    })

pub returns-clause-prepared : goal.returns-clause-prepared
returns-clause-prepared c book is = c.decide_closing.ensures.prepared book is (closable c book is)

pub returns-clause-refused : goal.returns-clause-refused
returns-clause-refused c book is = c.decide_closing.ensures.refused book is (closable c book is)
