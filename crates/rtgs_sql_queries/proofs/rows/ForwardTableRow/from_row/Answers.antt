use Rattle.std.proofs.Common.{◌≡◌, ◌<◌, Some, Option, length, arith, ℕ}
use Rattle.rtgs_sql_queries.proofs.AsRead.{forward_read, forward_columns}
use Rattle.rtgs_sql_queries.proofs.rows.ForwardTableRow.from_row.Goals as goal

pub returns-clause-is : goal.returns-clause-is
returns-clause-is c = (
  record { due = c.in_ok-date.ensures.is.0 },
  forward_read c.args.row.now _ (record {
    wide = c.in_ok-width.ensures.is;
    number = c.in_ok-number.ensures.is;
    due = c.in_ok-date.ensures.is.1;
  }),
)

pub returns-clause-found : goal.returns-clause-found
returns-clause-found c it fits same =
    let row = c.args.row.now in
    let at = forward_columns row it same in
    let wide = at.wide in
    let low0 : 0 < length row = omega (arith, wide) in
    let low1 : 1 < length row = omega (arith, wide) in
    let n : ◌≡◌ {A = Option ℕ} (Some c.in_ok-number.field-0) (Some it.number) =
    c.in_ok-number.ensures.found it.number low0 at.number in
    let d : ◌≡◌ {A = Option ℕ} (Some c.in_ok-date.field-0) (Some it.due) =
    c.in_ok-date.ensures.found it.due fits.due low1 at.due in
    let number : c.in_ok-number.field-0 ≡ it.number = cc in
    let due : c.in_ok-date.field-0 ≡ it.due = cc in
    λ i. Some (record { number = number i; due = due i })
