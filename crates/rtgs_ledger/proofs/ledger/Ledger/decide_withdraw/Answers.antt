use Rattle.rtgs_book.specs.declared.command.Command.TheVariants as command
use Rattle.std.proofs.Common.{◌≡◌, ◌∙◌, sym, ap, inr, refl}
use Rattle.std.proofs.lemmas.Result.{err_from_is_err_and}
use Rattle.rtgs_book.specs.declared.answer.Known.TheVariants as known
use Rattle.rtgs_book.specs.Books.{is_withdrawn_state}
use Rattle.rtgs_book.specs.Lookup.{order_named}
use Rattle.rtgs_ledger.proofs.Kept.{is_known, is_unknown, prepared_repeat}
use Rattle.rtgs_ledger.proofs.Withdrawing.{unknown, unknown_order, repeats, is_done, is_waited, not_queued}
use Rattle.rtgs_ledger.proofs.Withdrawing.{prepared_withdraw}
use Rattle.rtgs_book.specs.declared.book.Book.{Book}
use Rattle.rtgs_ledger.proofs.Whole.{held_of, book_of, whole, is_of_book, to_lacking, to_refused, to_prepared}
use Rattle.rtgs_ledger.proofs.ledger.Ledger.decide_withdraw.Goals as goal

pub returns-in_default-clause-refused : goal.returns-in_default-clause-refused
returns-in_default-clause-refused c book is found =
    let of = is_of_book book c.self.inside.records c.args.self.now c.self.view_is is in
    let r = whole book c.self.inside.records in
    to_refused book c.self.inside.records c.args.self.now.core of (command.Withdraw c.args.sender c.args.reference) _
    (inr (
      unknown (book_of r) c.args.sender c.args.reference
          (is_unknown r of.kept c.args.sender (sym c.get.ensures ∙ c.in_default.is)),
      refl,
    ))

pub returns-in_default-found-clause-refused : goal.returns-in_default-found-clause-refused
unfolding order_named
returns-in_default-found-clause-refused c book is found =
    let of = is_of_book book c.self.inside.records c.args.self.now c.self.view_is is in
    let r = whole book c.self.inside.records in
    let found_here : c.args.found ≡ order_named (book_of r) c.args.sender c.args.reference = found
    ∙ ap (λ (b : Book). order_named b c.args.sender c.args.reference) (sym of.same) in
    let there = is_known r of.kept c.args.sender c.in-Some.field-0 (sym c.get.ensures ∙ c.in-Some.is) in
    to_refused book c.self.inside.records c.args.self.now.core of (command.Withdraw c.args.sender c.args.reference) _
    (inr (
      unknown_order (book_of r) c.args.sender c.args.reference there
          (sym found_here ∙ c.in_default-found.is),
      refl,
    ))

pub returns-in-Withdrawn-clause-prepared : goal.returns-in-Withdrawn-clause-prepared
unfolding order_named
returns-in-Withdrawn-clause-prepared c book is found =
    let of = is_of_book book c.self.inside.records c.args.self.now c.self.view_is is in
    let r = whole book c.self.inside.records in
    let found_here : c.args.found ≡ order_named (book_of r) c.args.sender c.args.reference = found
    ∙ ap (λ (b : Book). order_named b c.args.sender c.args.reference) (sym of.same) in
    let o = c.in-Some-found.found in
    let there = is_known r of.kept c.args.sender c.in-Some.field-0 (sym c.get.ensures ∙ c.in-Some.is) in
    let step = repeats (book_of r) c.args.sender c.args.reference there o (sym found_here ∙ c.in-Some-found.is)
    (ap is_withdrawn_state c.in-Withdrawn.is) in
    rw (c.repeated.ensures.answer, c.repeated.ensures.change) (to_prepared book c.self.inside.records
    c.args.self.now.core of _ _ _ (prepared_repeat (held_of r) _ (known.Order o.number o.state) of.kept step))

pub returns-in-Settled-clause-refused : goal.returns-in-Settled-clause-refused
unfolding order_named
returns-in-Settled-clause-refused c book is found =
    let of = is_of_book book c.self.inside.records c.args.self.now c.self.view_is is in
    let r = whole book c.self.inside.records in
    let found_here : c.args.found ≡ order_named (book_of r) c.args.sender c.args.reference = found
    ∙ ap (λ (b : Book). order_named b c.args.sender c.args.reference) (sym of.same) in
    let o = c.in-Some-found.found in
    let there = is_known r of.kept c.args.sender c.in-Some.field-0 (sym c.get.ensures ∙ c.in-Some.is) in
    let done = is_done o.state c.in-Settled.is in
    to_refused book c.self.inside.records c.args.self.now.core of (command.Withdraw c.args.sender c.args.reference) _
    (inr (
      not_queued (book_of r) c.args.sender c.args.reference there o
          (sym found_here ∙ c.in-Some-found.is) done.0 done.1,
      refl,
    ))

pub returns-in_err-rows-clause-refused : goal.returns-in_err-rows-clause-refused
unfolding order_named
returns-in_err-rows-clause-refused c book is found =
    let of = is_of_book book c.self.inside.records c.args.self.now c.self.view_is is in
    let r = whole book c.self.inside.records in
    let found_here : c.args.found ≡ order_named (book_of r) c.args.sender c.args.reference = found
    ∙ ap (λ (b : Book). order_named b c.args.sender c.args.reference) (sym of.same) in
    let o = c.in-Some-found.found in
    let there = is_known r of.kept c.args.sender c.in-Some.field-0 (sym c.get.ensures ∙ c.in-Some.is) in
    let passed = err_from_is_err_and c.from_residual.result c.from_residual.ensures.1 in
    rw (passed.1, passed.2) (to_lacking book c.self.inside.records c.args.self.now.core of
    _ _ _ (prepared_withdraw (held_of r) of.kept c.balance_after_restating.ensures
    c.numbers_lead_to_orders.ensures c.args.sender c.args.reference o
    (sym found_here ∙ c.in-Some-found.is) (is_waited o.state c.in-Queued.is).1
    there (is_waited o.state c.in-Queued.is).0) refl)

pub returns-clause-prepared : goal.returns-clause-prepared
unfolding order_named
returns-clause-prepared c book is found =
    let of = is_of_book book c.self.inside.records c.args.self.now c.self.view_is is in
    let r = whole book c.self.inside.records in
    let found_here : c.args.found ≡ order_named (book_of r) c.args.sender c.args.reference = found
    ∙ ap (λ (b : Book). order_named b c.args.sender c.args.reference) (sym of.same) in
    let o = c.in-Some-found.found in
    let there = is_known r of.kept c.args.sender c.in-Some.field-0 (sym c.get.ensures ∙ c.in-Some.is) in
    rw (c.from_vec.ensures, c.in_ok-rows.ensures.items) (to_prepared book c.self.inside.records c.args.self.now.core of
    _ _ _ (prepared_withdraw (held_of r) of.kept c.balance_after_restating.ensures
    c.numbers_lead_to_orders.ensures c.args.sender c.args.reference o
    (sym found_here ∙ c.in-Some-found.is) (is_waited o.state c.in-Queued.is).1
    there (is_waited o.state c.in-Queued.is).0))
