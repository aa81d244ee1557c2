use Rattle.std.proofs.Common.{◌≡◌, ◌∙◌, length, subst, sym, arith}
use Rattle.std.proofs.lemmas.Bool.Decides.{nat_tests}
use Rattle.std.specs.List.{AllByRecursion}
use Rattle.rtgs_book.specs.Changes.{Leads}
use Rattle.rtgs_ledger.specs.Freeing.{GivesNothing}
use Rattle.rtgs_ledger.proofs.Freeing.{rows_free_nothing}
use Rattle.rtgs_ledger.proofs.Reach.{only_one}
use Rattle.rtgs_ledger.proofs.ledger.Ledger.can_free.Goals as goal

pub returns-then-rows-eq1 : goal.returns-then-rows-eq1
returns-then-rows-eq1 c old new is leads sound none =
    let row = c.index-rows-0.result in
    let one : length c.as_slice-rows.result.now ≡ 1 = grind (arith, nat_tests) in
    let only = sym c.as_slice-rows.ensures ∙ only_one c.as_slice-rows.result.now row one c.index-rows-0.is in
    c.row_can_free.ensures old new is (subst (λ rows. Leads old rows new) only leads) sound none

pub returns : goal.returns
returns c old new is leads sound none =
    rows_free_nothing c.new_credit_leaves_the_accounts.ensures old new c.args.change.now leads
    (subst (AllByRecursion (GivesNothing old)) c.as_slice-rows.ensures (c.rows_may_give.ensures old is none))
