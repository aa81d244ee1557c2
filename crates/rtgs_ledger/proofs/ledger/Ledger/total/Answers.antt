use Rattle.std.proofs.Common.{◌≡◌, ◌∙◌, ap, rules}
use Rattle.rtgs_book.specs.Balance.{total}
use Rattle.rtgs_book.specs.IntSum.{int_sum_by}
use Rattle.rtgs_records.specs.accounts.Accounts.{balance_of}
use Rattle.rtgs_ledger.proofs.Kept.{total_at}
use Rattle.rtgs_ledger.proofs.Whole.{is_of_book, whole}
use Rattle.rtgs_ledger.proofs.ledger.Ledger.total.Goals as goal

pub returns : goal.returns
returns c book is =
    let r = c.self.inside.records in
    let of = is_of_book book r c.args.self.now c.self.view_is is in
    let sum : c.total.result ≡ int_sum_by balance_of r.accounts.accounts = search rules in
    let shown : c.new.result ≡ c.total.result = search rules in
    shown ∙ sum ∙ total_at (whole book r) of.kept ∙ ap total of.same
