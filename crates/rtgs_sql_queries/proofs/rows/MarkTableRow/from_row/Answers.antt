use Rattle.std.proofs.Common.{◌≡◌, ◌<◌, Some, Option, length, arith, ℕ, ℤ}
use Rattle.rtgs_sql_queries.proofs.AsRead.{mark_read, mark_columns}
use Rattle.rtgs_sql_queries.proofs.rows.MarkTableRow.from_row.Goals as goal

pub returns-clause-is : goal.returns-clause-is
returns-clause-is c = (
  record { date = c.in_ok-date.ensures.is.0 },
  mark_read c.args.row.now _ (record {
    wide = c.in_ok-width.ensures.is;
    number = c.in_ok-number.ensures.is;
    date = c.in_ok-date.ensures.is.1;
    count = c.in_ok-number-2.ensures.is;
    value = c.in_ok-cents.ensures.is;
  }),
)

pub returns-clause-found : goal.returns-clause-found
returns-clause-found c it fits same =
    let row = c.args.row.now in
    let at = mark_columns row it same in
    let wide = at.wide in
    let low0 : 0 < length row = omega (arith, wide) in
    let low1 : 1 < length row = omega (arith, wide) in
    let low2 : 2 < length row = omega (arith, wide) in
    let low3 : 3 < length row = omega (arith, wide) in
    let n : ◌≡◌ {A = Option ℕ} (Some c.in_ok-number.field-0) (Some it.number) =
    c.in_ok-number.ensures.found it.number low0 at.number in
    let d : ◌≡◌ {A = Option ℕ} (Some c.in_ok-date.field-0) (Some it.date) =
    c.in_ok-date.ensures.found it.date fits.date low1 at.date in
    let k : ◌≡◌ {A = Option ℕ} (Some c.in_ok-number-2.field-0) (Some it.count) =
    c.in_ok-number-2.ensures.found it.count low2 at.count in
    let v : ◌≡◌ {A = Option ℤ} (Some c.in_ok-cents.field-0) (Some it.value) =
    c.in_ok-cents.ensures.found it.value low3 at.value in
    let number : c.in_ok-number.field-0 ≡ it.number = cc in
    let date : c.in_ok-date.field-0 ≡ it.date = cc in
    let count : c.in_ok-number-2.field-0 ≡ it.count = cc in
    let value : c.in_ok-cents.field-0 ≡ it.value = cc in
    λ i. Some (record { number = number i; date = date i; count = count i; value = value i })
