use Rattle.std.proofs.Common.{◌≡◌, ◌∙◌, ◌∷◌, [], List, IfSome, length, subst, sym, arith}
use Rattle.std.proofs.lemmas.Bool.Decides.{nat_tests}
use Rattle.std.proofs.lemmas.List.{get_or_default}
use Rattle.rtgs_book.specs.declared.change.RowChange.{RowChange}
use Rattle.rtgs_book.specs.cores.Following.{core_after}
use Rattle.rtgs_records.specs.Records.{core_in}
use Rattle.rtgs_ledger.specs.Limits.{Lowers}
use Rattle.rtgs_ledger.proofs.Leaving.{nothing_falls}
use Rattle.rtgs_ledger.proofs.Limits.{queues_kept}
use Rattle.rtgs_ledger.proofs.Reach.{only_one}
use Rattle.rtgs_ledger.proofs.ledger.lowering.lowering_by_rows.Goals as goal

pub returns-then-rows-eq1 : goal.returns-then-rows-eq1
returns-then-rows-eq1 c =
    let core = core_in c.args.records.now in
    let row = c.index-rows-0.result in
    let one : length c.args.rows.now ≡ 1 = grind (arith, nat_tests) in
    let only : c.args.rows.now ≡ row ∷ [] = only_one c.args.rows.now row one
    (c.index-rows-0.is ∙ get_or_default c.args.rows.now 0 _ row (omega (arith, one))) in
    subst (λ (rows : List RowChange). IfSome c.lowering_by.result (Lowers core (core_after core rows))) (sym only)
    c.lowering_by.ensures

pub returns : goal.returns
returns c =
    let core = core_in c.args.records.now in
    let later = core_after core c.args.rows.now in
    subst (Lowers core later) (sym c.nothing.ensures)
    (nothing_falls core later (queues_kept c.args.rows.now core (c.change_queues.ensures c.if-change_queues.false)))
