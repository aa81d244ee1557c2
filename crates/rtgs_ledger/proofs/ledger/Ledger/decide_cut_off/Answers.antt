use Rattle.rtgs_book.specs.declared.command.Command.TheVariants as command
use Rattle.std.proofs.Common.{◌≡◌, ◌∙◌, false, sym, ap, inr, refl}
use Rattle.std.proofs.lemmas.Result.{err_from_is_err_and}
use Rattle.rtgs_book.specs.declared.answer.Known.TheVariants.{Nothing}
use Rattle.rtgs_book.specs.Commands.{is_date}
use Rattle.rtgs_ledger.proofs.Kept.{prepared_repeat}
use Rattle.rtgs_ledger.proofs.Ordering.{shut_now, open_now, is_today}
use Rattle.rtgs_ledger.proofs.CuttingOff.{other_date, same_date, repeats, wrong_phase, wrong_date, prepared_cut_off}
use Rattle.rtgs_ledger.proofs.Whole.{held_of, book_of, whole, is_of_book, to_lacking, to_refused, to_prepared}
use Rattle.rtgs_ledger.proofs.ledger.Ledger.decide_cut_off.Goals as goal

pub returns-then-is_cut_off_on-clause-prepared : goal.returns-then-is_cut_off_on-clause-prepared
returns-then-is_cut_off_on-clause-prepared c book is =
    let r = c.self.inside.records in
    let of = is_of_book book r c.args.self.now c.self.view_is is in
    let step = repeats (book_of (whole book r)) c.args.date (sym c.is_cut_off_on.ensures ∙ c.if-is_cut_off_on.true) in
    rw (c.repeated.ensures.answer, c.repeated.ensures.change) (to_prepared book r c.args.self.now.core of _ _ _
    (prepared_repeat (held_of (whole book r)) _ Nothing of.kept step))

pub returns-in_default-clause-refused : goal.returns-in_default-clause-refused
returns-in_default-clause-refused c book is =
    let r = c.self.inside.records in
    let of = is_of_book book r c.args.self.now c.self.view_is is in
    to_refused book r c.args.self.now.core of (command.CutOff c.args.date) _ (inr (
      wrong_phase (book_of (whole book r)) c.args.date
          (sym c.is_cut_off_on.ensures ∙ c.if-is_cut_off_on.false)
          (shut_now (whole book r) of.kept (sym c.open_date.ensures ∙ c.in_default.is)),
      refl,
    ))

pub returns-then-ne-clause-refused : goal.returns-then-ne-clause-refused
returns-then-ne-clause-refused c book is =
    let r = c.self.inside.records in
    let of = is_of_book book r c.args.self.now c.self.view_is is in
    let day = sym c.open_date.ensures ∙ c.in-Some.is in
    let other : is_date r.day.date c.args.date ≡ false = ap (λ d. is_date d c.args.date)
    (is_today (whole book r) of.kept c.in-Some.today day) ∙ other_date c.in-Some.today c.args.date
    (sym c.ne.ensures ∙ c.if-ne.true) in
    to_refused book r c.args.self.now.core of (command.CutOff c.args.date) _ (inr (
      wrong_date (book_of (whole book r)) c.args.date
          (sym c.is_cut_off_on.ensures ∙ c.if-is_cut_off_on.false)
          (open_now (whole book r) of.kept c.in-Some.today day) other,
      refl,
    ))

pub returns-in_err-rows-clause-refused : goal.returns-in_err-rows-clause-refused
returns-in_err-rows-clause-refused c book is =
    let r = c.self.inside.records in
    let of = is_of_book book r c.args.self.now c.self.view_is is in
    let day = sym c.open_date.ensures ∙ c.in-Some.is in
    let passed = err_from_is_err_and c.from_residual.result c.from_residual.ensures.1 in
    rw (passed.1, passed.2) (to_lacking book r c.args.self.now.core of _ _ _
    (prepared_cut_off (held_of (whole book r)) of.kept c.args.date
    (sym c.is_cut_off_on.ensures ∙ c.if-is_cut_off_on.false) (open_now (whole book r) of.kept c.in-Some.today day)
    (ap (λ d. is_date d c.args.date) (is_today (whole book r) of.kept c.in-Some.today day)
    ∙ same_date c.in-Some.today c.args.date (sym c.ne.ensures ∙ c.if-ne.false))) refl)

pub returns-clause-prepared : goal.returns-clause-prepared
returns-clause-prepared c book is =
    let r = c.self.inside.records in
    let of = is_of_book book r c.args.self.now c.self.view_is is in
    let day = sym c.open_date.ensures ∙ c.in-Some.is in
    rw (c.from_vec.ensures, c.in_ok-rows.ensures.items) (to_prepared book r c.args.self.now.core of _ _ _
    (prepared_cut_off (held_of (whole book r)) of.kept c.args.date
    (sym c.is_cut_off_on.ensures ∙ c.if-is_cut_off_on.false) (open_now (whole book r) of.kept c.in-Some.today day)
    (ap (λ d. is_date d c.args.date) (is_today (whole book r) of.kept c.in-Some.today day)
    ∙ same_date c.in-Some.today c.args.date (sym c.ne.ensures ∙ c.if-ne.false))))
