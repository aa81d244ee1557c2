use Rattle.rtgs_book.specs.declared.command.Command.TheVariants as command
use Rattle.std.proofs.Common.{◌∙◌, sym, inr, refl}
use Rattle.std.proofs.lemmas.Result.{err_from_is_err_and}
use Rattle.rtgs_ledger.proofs.Kept.{is_known, is_unknown, balance_at}
use Rattle.rtgs_ledger.proofs.Crediting.{unknown, no_cover, prepared_credit}
use Rattle.rtgs_ledger.proofs.Whole.{held_of, book_of, whole, is_of_book, to_lacking, to_refused, to_prepared}
use Rattle.rtgs_ledger.proofs.ledger.Ledger.decide_set_credit.Goals as goal

pub returns-in_default-clause-refused : goal.returns-in_default-clause-refused
returns-in_default-clause-refused c book is =
    let r = c.self.inside.records in
    let of = is_of_book book r c.args.self.now c.self.view_is is in
    to_refused book r c.args.self.now.core of (command.SetCredit c.args.code c.args.credit) _ (inr (
      unknown (book_of (whole book r)) c.args.code c.args.credit
          (is_unknown (whole book r) of.kept c.args.code (sym c.get.ensures ∙ c.in_default.is)),
      refl,
    ))

pub returns-then-is_past_limit-clause-refused : goal.returns-then-is_past_limit-clause-refused
returns-then-is_past_limit-clause-refused c book is =
    let r = c.self.inside.records in
    let of = is_of_book book r c.args.self.now c.self.view_is is in
    let found = sym c.get.ensures ∙ c.in-Some.is in
    let past = rw (balance_at (whole book r) of.kept c.args.code c.in-Some.account found) at
    (sym c.is_past_limit.ensures.value ∙ c.if-is_past_limit.true) in
    to_refused book r c.args.self.now.core of (command.SetCredit c.args.code c.args.credit) _ (inr (
      no_cover (book_of (whole book r)) c.args.code c.args.credit
          (is_known (whole book r) of.kept c.args.code c.in-Some.account found) past,
      refl,
    ))

pub returns-in_err-rows-clause-refused : goal.returns-in_err-rows-clause-refused
returns-in_err-rows-clause-refused c book is =
    let r = c.self.inside.records in
    let of = is_of_book book r c.args.self.now c.self.view_is is in
    let found = sym c.get.ensures ∙ c.in-Some.is in
    let within = rw (balance_at (whole book r) of.kept c.args.code c.in-Some.account found) at
    (sym c.is_past_limit.ensures.value ∙ c.if-is_past_limit.false) in
    let passed = err_from_is_err_and c.from_residual.result c.from_residual.ensures.1 in
    rw (passed.1, passed.2) (to_lacking book r c.args.self.now.core of _ _ _
    (prepared_credit (held_of (whole book r)) of.kept c.args.code c.args.credit c.is_past_limit.ensures.fits
    (is_known (whole book r) of.kept c.args.code c.in-Some.account found) within) refl)

pub returns-clause-prepared : goal.returns-clause-prepared
returns-clause-prepared c book is =
    let r = c.self.inside.records in
    let of = is_of_book book r c.args.self.now c.self.view_is is in
    let found = sym c.get.ensures ∙ c.in-Some.is in
    let within = rw (balance_at (whole book r) of.kept c.args.code c.in-Some.account found) at
    (sym c.is_past_limit.ensures.value ∙ c.if-is_past_limit.false) in
    rw (c.from_vec.ensures, c.in_ok-rows.ensures.items) (to_prepared book r c.args.self.now.core of _ _ _
    (prepared_credit (held_of (whole book r)) of.kept c.args.code c.args.credit c.is_past_limit.ensures.fits
    (is_known (whole book r) of.kept c.args.code c.in-Some.account found) within))
