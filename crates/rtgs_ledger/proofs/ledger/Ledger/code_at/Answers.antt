use Rattle.std.proofs.Common.{◌∙◌, List, ℕ, ap}
use Rattle.std.specs.Prelude.{slice_get}
use Rattle.rtgs_book.specs.Lookup.{codes_of}
use Rattle.rtgs_ledger.proofs.Kept.{codes-participants}
use Rattle.rtgs_ledger.proofs.Whole.{is_of_book}
use Rattle.rtgs_ledger.proofs.ledger.Ledger.code_at.Goals as goal

pub returns : goal.returns
unfolding codes_of
returns c book is =
    let r = c.self.inside.records in
    let of = is_of_book book r c.args.self.now c.self.view_is is in
    c.code_at.ensures
    ∙ ap (λ (codes : List (List ℕ)). slice_get codes c.args.index) (codes-participants r.accounts.accounts ∙ ap
    codes_of of.same)
