use Rattle.rtgs_book.specs.declared.command.Command.TheVariants as command
use Rattle.std.proofs.Common.{◌≡◌, ◌∙◌, ◌∷◌, [], sym, ap, subst, filter, length, inr, refl}
use Rattle.std.proofs.lemmas.Result.{err_from_is_err_and}
use Rattle.std.specs.List.{flat_map}
use Rattle.rtgs_book.specs.declared.account.Account.{Account}
use Rattle.rtgs_book.specs.declared.book.Book.{Book}
use Rattle.rtgs_book.specs.declared.change.RowChange.TheVariants.{SetDay}
use Rattle.rtgs_book.specs.declared.order_state.OrderState.TheVariants.{Rejected}
use Rattle.rtgs_book.specs.Books.{is_queued}
use Rattle.rtgs_book.specs.Lookup.{codes_of}
use Rattle.rtgs_book.specs.Queue.{queued_numbers}
use Rattle.rtgs_choices.specs.Closing.{closed_book}
use Rattle.rtgs_records.specs.accounts.Accounts.{code_of}
use Rattle.rtgs_ledger.specs.Closing.{IsClosable}
use Rattle.rtgs_records.specs.Held as seen
use Rattle.rtgs_ledger.proofs.Closing.{overdraws, nobody_below, prepared_closing, all_queued, numbers_queued}
use Rattle.rtgs_ledger.proofs.Closing.{may_lack}
use Rattle.rtgs_ledger.proofs.Rooms.{room_for_states}
use Rattle.rtgs_ledger.proofs.Whole.{held_of, book_of, whole, is_of_book, to_refused, to_prepared}
use Rattle.rtgs_ledger.proofs.ledger.Ledger.decide_closing.Goals as goal

pub returns-in-Some-clause-refused : goal.returns-in-Some-clause-refused
returns-in-Some-clause-refused c book is can =
    let of = is_of_book book c.self.inside.records c.args.self.now c.self.view_is is in
    let r = whole book c.self.inside.records in
    let at = subst (λ (b : Book). IsClosable b c.args.date) (sym of.same) can in
    rw c.overdrawn.ensures (to_refused book c.self.inside.records c.args.self.now.core of
    (command.CloseDay c.args.date) _ (inr (
      overdraws r of.kept c.args.date at c.in-Some.account
          (sym c.first_overdrawn.ensures ∙ c.in-Some.is),
      refl,
    )))

pub returns-in_err-numbers-clause-refused : goal.returns-in_err-numbers-clause-refused
returns-in_err-numbers-clause-refused c book is can =
    let passed = err_from_is_err_and c.from_residual.result c.from_residual.ensures.1 in
    rw (passed.1, passed.2) (may_lack book c.args.date)

pub returns-in_err-rows-clause-refused : goal.returns-in_err-rows-clause-refused
returns-in_err-rows-clause-refused c book is can =
    let passed = err_from_is_err_and c.from_residual-in_err-rows.result c.from_residual-in_err-rows.ensures.1 in
    rw (passed.1, passed.2) (may_lack book c.args.date)

pub returns-clause-made : goal.returns-clause-made
returns-clause-made c room covers = rw (c.from_vec.ensures, c.in_ok-rows.ensures)
    (room_for_states Rejected refl c.as_slice.result.now _
    (SetDay _ ∷ []) (λ after. (tt, tt)))

pub returns-clause-prepared : goal.returns-clause-prepared
returns-clause-prepared c book is can =
    let of = is_of_book book c.self.inside.records c.args.self.now c.self.view_is is in
    let r = whole book c.self.inside.records in
    let here = book_of r in
    let at = subst (λ (b : Book). IsClosable b c.args.date) (sym of.same) can in
    let covered = nobody_below r of.kept (sym c.first_overdrawn.ensures ∙ c.in_default.is) in
    let numbers : c.in_ok-numbers.numbers.items ≡ flat_map (queued_numbers here.orders) (codes_of here) =
    c.in_ok-numbers.ensures
    ∙ ap (λ (h : seen.Held). flat_map (λ (a : Account). queued_numbers h.core.waiting (code_of a)) h.core.accounts)
    (sym c.self.view_is)
    ∙ numbers_queued c.queues_are_of_the_waiting.ensures book.orders c.self.inside.records.orders.orders
    r.accounts.accounts of.waiting ∙ all_queued r in
    let count : c.len-rejected.result ≡ length (filter is_queued here.orders) = c.len-rejected.ensures
    ∙ c.in_ok-numbers.numbers.ok.0 ∙ ap length numbers
    ∙ sym (c.queued_are_numbered.ensures.count here of.kept.sound) in
    rw (c.from_vec.ensures, c.in_ok-rows.ensures, c.as_slice.ensures.value, numbers, count)
    (to_prepared book c.self.inside.records c.args.self.now.core of _ _ _
    (prepared_closing (held_of r) of.kept c.rows_close.ensures.balances c.args.date
    (c.rows_close.ensures.step here at.choice c.args.date at.cut at.same at.greatest at.none covered)
    (c.rows_close.ensures.leads here of.kept.sound) (c.rows_close.ensures.added here (closed_book here))))
