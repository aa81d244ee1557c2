use Rattle.std.proofs.Common.{◌≡◌, ◌==◌, [], ◌∷◌, option_map, arith, ap, sym, subst, ◌∙◌}
use Rattle.std.specs.List.{find}
use Rattle.sqlite.specs.Held.{state}
use Rattle.sqlite.specs.Values.{bound_value}
use Rattle.rtgs_rows.specs.Dues.{forwards_of}
use Rattle.rtgs_rows.specs.Fitting.{FitsForward}
use Rattle.rtgs_rows.specs.TableRecords.{forward_records}
use Rattle.rtgs_rows.specs.declared.forward.Forward.{Forward}
use Rattle.rtgs_sql_look_ups.specs.Finding.{under_tests, ShowsFirst}
use Rattle.rtgs_sql_look_ups.proofs.DueLemmas.{forwards_fit, none_under_past}
use Rattle.rtgs_sql_look_ups.proofs.FindingTexts.{due_asks}
use Rattle.rtgs_sql_look_ups.proofs.FindingLemmas.{fits_found, look_as, look_failed}
use Rattle.rtgs_sql_look_ups.proofs.ListingLemmas.{forward_first}
use Rattle.rtgs_sql_look_ups.proofs.orders.due_date.Goals as goal

pub returns-then-number-clause-found : goal.returns-then-number-clause-found
returns-then-number-clause-found g c clean book held = sym (none_under_past c.args.number book.orders
    (omega (arith, c.if-number.true)) (c.records_are_listed.ensures.orders book held.2.sound))

pub returns-in-Ok-Some-clause-looks : goal.returns-in-Ok-Some-clause-looks
returns-in-Ok-Some-clause-looks g c = look_as g.S.Store c.args.conn.now c.first_record-found.new.conn _ _
    (c.in-Ok-Some.ensures.looks under_tests due_asks)

pub returns-in-Ok-None-clause-looks : goal.returns-in-Ok-None-clause-looks
returns-in-Ok-None-clause-looks g c = look_as g.S.Store c.args.conn.now c.first_record-found.new.conn _ _
    (c.in-Ok-None.ensures.looks under_tests due_asks)

pub returns-in-Err-clause-looks : goal.returns-in-Err-clause-looks
returns-in-Err-clause-looks g c = look_failed g.S.Store c.args.conn.now c.first_record-found.new.conn _
    (c.in-Err.ensures.looks under_tests due_asks)

pub returns-in-Ok-Some-clause-found : goal.returns-in-Ok-Some-clause-found
returns-in-Ok-Some-clause-found g c clean book held =
    let s = state g.S.Store c.args.conn.now in
    let number = ap bound_value c.number_value.ensures in
    let dues = forwards_of book.orders in
    let one = find (λ (f : Forward). f.number == c.args.number) dues in
    let is : c.in-Ok-Some.field-0 ≡ one = c.in-Ok-Some.ensures.found clean held.0 held.1 under_tests due_asks one
    (fits_found FitsForward (λ (f : Forward). f.number == c.args.number) dues
    (forwards_fit book.orders held.2.fits.orders))
    (subst (λ given. ShowsFirst forward_records under_tests s.now.trees given one) (sym (λ i. number i ∷ []))
    (forward_first c.records_stand_in_order.ensures c.one_table_answers.ensures c.records_are_read.ensures
    c.args.number book s held.0 held.1 held.2)) in
    ap (option_map (λ (f : Forward). f.due)) (sym c.in-Ok-Some.field-0-is ∙ is)

pub returns-in-Ok-None-clause-found : goal.returns-in-Ok-None-clause-found
returns-in-Ok-None-clause-found g c clean book held =
    let s = state g.S.Store c.args.conn.now in
    let number = ap bound_value c.number_value.ensures in
    let dues = forwards_of book.orders in
    let one = find (λ (f : Forward). f.number == c.args.number) dues in
    let is : c.in-Ok-None.field-0 ≡ one = c.in-Ok-None.ensures.found clean held.0 held.1 under_tests due_asks one
    (fits_found FitsForward (λ (f : Forward). f.number == c.args.number) dues
    (forwards_fit book.orders held.2.fits.orders))
    (subst (λ given. ShowsFirst forward_records under_tests s.now.trees given one) (sym (λ i. number i ∷ []))
    (forward_first c.records_stand_in_order.ensures c.one_table_answers.ensures c.records_are_read.ensures
    c.args.number book s held.0 held.1 held.2)) in
    ap (option_map (λ (f : Forward). f.due)) (sym c.in-Ok-None.field-0-is ∙ is)
