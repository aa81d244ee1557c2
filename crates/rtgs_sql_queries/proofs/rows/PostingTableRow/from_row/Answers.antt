use Rattle.std.proofs.Common.{◌≡◌, ◌<◌, ℕ, ℤ, List, Option, Some, length, arith, ap, sym, ◌∙◌, rules}
use Rattle.sqlite.specs.declared.types.Value.TheVariants.{Int}
use Rattle.rtgs_sql_queries.proofs.AsRead.{posting_read, posting_columns, date_found}
use Rattle.rtgs_sql_queries.proofs.rows.PostingTableRow.from_row.Goals as goal

pub returns-clause-is : goal.returns-clause-is
returns-clause-is c =
    let cents : c.in_ok-int.field-0 ≡ c.in_ok-from_cents.field-0 = search rules in (
      record {
        code = c.in_ok-code.ensures.is.0;
        reference = c.in_ok-reference.ensures.is.0;
        cents = search rules;
        date = c.in_ok-date_or_null.ensures.is.0;
      },
      posting_read c.args.row.now _ (record {
        wide = c.in_ok-width.ensures.is;
        number = c.in_ok-number.ensures.is;
        code = c.in_ok-code.ensures.is.1;
        reference = c.in_ok-reference.ensures.is.1;
        cents = c.in_ok-int.ensures.is ∙ ap Int cents;
        date = c.in_ok-date_or_null.ensures.is.1;
      }),
    )

pub returns-clause-found : goal.returns-clause-found
returns-clause-found c it fits same =
    let row = c.args.row.now in
    let at = posting_columns row it same in
    let wide = at.wide in
    let low0 : 0 < length row = omega (arith, wide) in
    let low1 : 1 < length row = omega (arith, wide) in
    let low2 : 2 < length row = omega (arith, wide) in
    let low3 : 3 < length row = omega (arith, wide) in
    let low4 : 4 < length row = omega (arith, wide) in
    let n : ◌≡◌ {A = Option ℕ} (Some c.in_ok-number.field-0) (Some it.number) =
    c.in_ok-number.ensures.found it.number low0 at.number in
    let k : ◌≡◌ {A = Option (List ℕ)} (Some c.in_ok-code.field-0) (Some it.code) =
    c.in_ok-code.ensures.found it.code fits.code low1 at.code in
    let r : ◌≡◌ {A = Option (List ℕ)} (Some c.in_ok-reference.field-0) (Some it.reference) =
    c.in_ok-reference.ensures.found it.reference fits.reference low2 at.reference in
    let v : ◌≡◌ {A = Option ℤ} (Some c.in_ok-int.field-0) (Some it.cents) =
    c.in_ok-int.ensures.found it.cents low3 at.cents in
    let d : ◌≡◌ {A = Option (Option ℕ)} (Some c.in_ok-date_or_null.field-0) (Some it.date) =
    date_found row it.date _ (c.in_ok-date_or_null.ensures.none low4)
    (λ day is here. c.in_ok-date_or_null.ensures.some day is low4 here) fits.date at.date in
    let number : c.in_ok-number.field-0 ≡ it.number = cc in
    let code : c.in_ok-code.field-0 ≡ it.code = cc in
    let reference : c.in_ok-reference.field-0 ≡ it.reference = cc in
    let int : c.in_ok-int.field-0 ≡ it.cents = cc in
    let back : c.in_ok-int.field-0 ≡ c.in_ok-from_cents.field-0 = search rules in
    let cents : c.in_ok-from_cents.field-0 ≡ it.cents = sym back ∙ int in
    let date : c.in_ok-date_or_null.field-0 ≡ it.date = cc in
    λ i. Some (record { number = number i; code = code i; reference = reference i; cents = cents i; date = date i })
