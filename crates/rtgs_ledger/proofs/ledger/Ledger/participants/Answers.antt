use Rattle.std.proofs.Common.{◌∙◌, length, sym, ap}
use Rattle.std.proofs.lemmas.List.{length-map}
use Rattle.rtgs_book.specs.declared.book.Book.{Book}
use Rattle.rtgs_records.specs.accounts.Accounts.{participant_in}
use Rattle.rtgs_ledger.proofs.Whole.{is_of_book}
use Rattle.rtgs_ledger.proofs.ledger.Ledger.participants.Goals as goal

pub returns : goal.returns
returns c book is =
    let r = c.self.inside.records in
    let of = is_of_book book r c.args.self.now c.self.view_is is in
    c.len.ensures ∙ sym (length-map r.accounts.accounts participant_in)
    ∙ ap (λ (b : Book). length b.participants) of.same
