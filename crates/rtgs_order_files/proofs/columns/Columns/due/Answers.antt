use Rattle.std.proofs.Common.{◌≡◌, Ok, Some, rules, sym, ap, ◌∙◌}
use Rattle.rtgs_order_files.proofs.DueFields.{empty_tells, date_tells}
use Rattle.rtgs_order_files.proofs.columns.Columns.due.Goals as goal

pub returns-in-WithDue-Some-clause-found : goal.returns-in-WithDue-Some-clause-found
returns-in-WithDue-Some-clause-found c due fits e =
    let p = c.in-WithDue-Some in
    ap (λ d. Some d) (empty_tells p.text.now due (sym c.is_empty.ensures ∙ c.if-is_empty.true)
    (rw (p.is-0, p.is-1) at e))

pub returns-in_ok-ok-in-WithDue-Some-2-clause-found : goal.returns-in_ok-ok-in-WithDue-Some-2-clause-found
returns-in_ok-ok-in-WithDue-Some-2-clause-found c due fits e =
    let p = c.in-WithDue-Some in
    let date = c.in_ok-ok-in-WithDue-Some-2.field-0 in
    let read : c.read.result ≡ Ok date = search rules in
    let spelt = (rw read at c.read.ensures.value).1 in
    ap (λ d. Some d) (date_tells p.text.now date due spelt
    (λ other good spelt. cc (read, c.read.ensures.found other good spelt)) (rw p.is-0 at fits)
    (rw (p.is-0, p.is-1) at e))
