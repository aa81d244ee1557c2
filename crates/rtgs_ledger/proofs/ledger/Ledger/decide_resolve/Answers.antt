use Rattle.std.proofs.Common.{◌∙◌, ap, inl, refl}
use Rattle.std.proofs.lemmas.Result.{err_from_is_err_and}
use Rattle.rtgs_book.specs.declared.answer.Answer.TheVariants.{Resolved}
use Rattle.rtgs_records.specs.Held.{Held}
use Rattle.rtgs_ledger.specs.Resolving.{settling}
use Rattle.rtgs_ledger.proofs.Rooms.{room_to_settle}
use Rattle.rtgs_ledger.proofs.ledger.Ledger.decide_resolve.Goals as goal

pub returns-in_err-rows-clause-refused : goal.returns-in_err-rows-clause-refused
returns-in_err-rows-clause-refused c book is =
    let passed = err_from_is_err_and c.from_residual-in_err-rows.result c.from_residual-in_err-rows.ensures.1 in
    let found = rw c.in-Some.is at (c.in_ok-settlement.ensures.some book is) in
    let mark = c.in-Some.settlement.mark in
    rw (passed.1, passed.2) (inl (
      refl,
      λ _. (
        Resolved mark.number mark.count mark.value,
        found.prepared.book,
        found.prepared.step,
        refl,
      ),
    ))

pub returns-clause-made : goal.returns-clause-made
returns-clause-made c room covers =
    let s = c.in-Some.settlement in
    rw (c.from_vec.ensures ∙ c.in_ok-rows.ensures) (room_to_settle s.mark c.self.inside.records.accounts.accounts
    s.accounts.accounts s.orders.items _ (rw c.in-Some.is at c.in_ok-settlement.ensures.marks))

pub returns-clause-prepared : goal.returns-clause-prepared
returns-clause-prepared c book is =
    let s = c.in-Some.settlement in
    let found = rw c.in-Some.is at (c.in_ok-settlement.ensures.some book is) in
    rw (
      c.from_vec.ensures ∙ c.in_ok-rows.ensures ∙ ap (λ (h : Held). settling s.orders.items s.mark h.core.accounts
          s.accounts.accounts) c.self.view_is,
      c.resolution-mark.ensures,
    ) found.prepared
