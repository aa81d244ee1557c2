use Rattle.rtgs_book.specs.declared.command.Command.TheVariants as command
use Rattle.std.proofs.Common.{◌≡◌, ◌∙◌, sym, ap, map, filter, inr, refl}
use Rattle.std.proofs.lemmas.Result.{err_from_is_err_and}
use Rattle.rtgs_book.specs.declared.book.Book.{Book}
use Rattle.rtgs_book.specs.declared.order.Order.{Order}
use Rattle.rtgs_book.specs.Commands.{is_due}
use Rattle.rtgs_book.specs.declared.answer.Known.TheVariants.{Nothing}
use Rattle.rtgs_book.specs.declared.refusal.Refusal.TheVariants.{OutOfMemory}
use Rattle.rtgs_book.specs.cores.Cores.{IsCoreOf}
use Rattle.rtgs_ledger.specs.Kept.{IsRefusedByItself}
use Rattle.rtgs_ledger.proofs.Following.{opening_frees}
use Rattle.rtgs_ledger.proofs.Kept.{prepared_repeat}
use Rattle.rtgs_ledger.proofs.Opening.{repeats, wrong_phase, wrong_date, weekend, due_among, prepared_open}
use Rattle.rtgs_ledger.proofs.Rooms.{room_to_open}
use Rattle.rtgs_ledger.proofs.Whole.{held_of, book_of, whole, is_of_book, to_lacking, to_refused, to_prepared}
use Rattle.rtgs_ledger.proofs.ledger.Ledger.decide_open_day.Goals as goal
use Rattle.rtgs_ledger.proofs.ledger.Ledger.decide_open_day.Goals.{After-balance_after_entering}

pub returns-then-is_open_on-clause-prepared : goal.returns-then-is_open_on-clause-prepared
returns-then-is_open_on-clause-prepared c book is =
    let r = c.self.inside.records in
    let of = is_of_book book r c.args.self.now c.self.view_is is in
    let step = repeats (book_of (whole book r)) c.args.new_day.now
    (sym c.is_open_on.ensures ∙ c.if-is_open_on.true) in
    rw (c.repeated.ensures.answer, c.repeated.ensures.change) (to_prepared book r c.args.self.now.core of _ _ _
    (prepared_repeat (held_of (whole book r)) _ Nothing of.kept step))

pub returns-then-not-is_closed-clause-refused : goal.returns-then-not-is_closed-clause-refused
returns-then-not-is_closed-clause-refused c book is =
    let r = c.self.inside.records in
    let of = is_of_book book r c.args.self.now c.self.view_is is in
    to_refused book r c.args.self.now.core of (command.OpenDay c.args.new_day.now) _ (inr (
      wrong_phase (book_of (whole book r)) c.args.new_day.now
          (sym c.is_open_on.ensures ∙ c.if-is_open_on.false) (sym c.is_closed.ensures ∙ c.if-not-is_closed.true),
      refl,
    ))

pub returns-then-not-is_before-clause-refused : goal.returns-then-not-is_before-clause-refused
returns-then-not-is_before-clause-refused c book is =
    let r = c.self.inside.records in
    let of = is_of_book book r c.args.self.now c.self.view_is is in
    to_refused book r c.args.self.now.core of (command.OpenDay c.args.new_day.now) _ (inr (
      wrong_date (book_of (whole book r)) c.args.new_day.now
          (sym c.is_open_on.ensures ∙ c.if-is_open_on.false) (sym c.is_closed.ensures ∙ c.if-not-is_closed.false)
          (sym c.is_before.ensures ∙ c.if-not-is_before.true),
      refl,
    ))

pub returns-then-is_weekend-clause-refused : goal.returns-then-is_weekend-clause-refused
returns-then-is_weekend-clause-refused c book is =
    let r = c.self.inside.records in
    let of = is_of_book book r c.args.self.now c.self.view_is is in
    to_refused book r c.args.self.now.core of (command.OpenDay c.args.new_day.now) _ (inr (
      weekend (book_of (whole book r)) c.args.new_day.now
          (sym c.is_open_on.ensures ∙ c.if-is_open_on.false) (sym c.is_closed.ensures ∙ c.if-not-is_closed.false)
          (sym c.is_before.ensures ∙ c.if-not-is_before.false) (sym c.is_weekend.ensures ∙ c.if-is_weekend.true),
      refl,
    ))

-- where the tests are passed, the day would be opened
lacking : (c : After-balance_after_entering) (book : Book) → IsCoreOf book c.args.self.now.core
    → IsRefusedByItself book (command.OpenDay c.args.new_day.now) OutOfMemory
lacking c book is =
    let r = c.self.inside.records in
    let of = is_of_book book r c.args.self.now c.self.view_is is in
    to_lacking book r c.args.self.now.core of _ _ _
    (prepared_open (held_of (whole book r)) of.kept c.args.new_day.now c.balance_after_entering.ensures
    c.numbers_lead_to_orders.ensures
    (sym c.is_open_on.ensures ∙ c.if-is_open_on.false) (sym c.is_closed.ensures ∙ c.if-not-is_closed.false)
    (sym c.is_before.ensures ∙ c.if-not-is_before.false) (sym c.is_weekend.ensures ∙ c.if-is_weekend.false)) refl

pub returns-in_err-numbers-clause-refused : goal.returns-in_err-numbers-clause-refused
returns-in_err-numbers-clause-refused c book is =
    let refused = err_from_is_err_and c.from_residual.result c.from_residual.ensures.1 in
    rw (refused.1, refused.2) (lacking
    (goal.at.returns-in_err-numbers-clause-refused c).After-balance_after_entering book is)

pub returns-in_err-rows-clause-refused : goal.returns-in_err-rows-clause-refused
returns-in_err-rows-clause-refused c book is =
    let refused = err_from_is_err_and c.from_residual-in_err-rows.result c.from_residual-in_err-rows.ensures.1 in
    rw (refused.1, refused.2) (lacking
    (goal.at.returns-in_err-rows-clause-refused c).After-balance_after_entering book is)

pub returns-clause-made : goal.returns-clause-made
returns-clause-made c room covers = rw (c.from_vec.ensures, c.in_ok-rows.ensures)
    (room_to_open c.args.new_day.now.date c.as_slice-2.result.now _ _)

pub returns-clause-frees : goal.returns-clause-frees
returns-clause-frees c = rw (c.from_vec.ensures, c.in_ok-rows.ensures)
    (opening_frees c.args.new_day.now.date c.as_slice-2.result.now _)

pub returns-clause-prepared : goal.returns-clause-prepared
returns-clause-prepared c book is =
    let r = c.self.inside.records in
    let of = is_of_book book r c.args.self.now c.self.view_is is in
    let here = book_of (whole book r) in
    let due_by = is_due c.args.new_day.now.date in
    let due : c.in_ok-numbers.numbers.items ≡ map (λ (o : Order). o.number) (filter due_by here.orders) =
    c.in_ok-numbers.ensures
    ∙ ap (λ os. map (λ (o : Order). o.number) (filter due_by os)) (c.as_slice.ensures ∙ of.waiting)
    ∙ ap (map (λ (o : Order). o.number)) (due_among c.args.new_day.now.date book.orders)
    ∙ ap (λ (b : Book). map (λ (o : Order). o.number) (filter due_by b.orders)) (sym of.same) in
    rw (c.from_vec.ensures, c.in_ok-rows.ensures, c.as_slice-2.ensures.value, due)
    (to_prepared book r c.args.self.now.core of _ _ _
    (prepared_open (held_of (whole book r)) of.kept c.args.new_day.now c.balance_after_entering.ensures
    c.numbers_lead_to_orders.ensures
    (sym c.is_open_on.ensures ∙ c.if-is_open_on.false) (sym c.is_closed.ensures ∙ c.if-not-is_closed.false)
    (sym c.is_before.ensures ∙ c.if-not-is_before.false) (sym c.is_weekend.ensures ∙ c.if-is_weekend.false)))
