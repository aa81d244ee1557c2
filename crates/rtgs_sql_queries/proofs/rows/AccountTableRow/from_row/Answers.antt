use Rattle.std.proofs.Common.{ap, sym, ◌∙◌, rules, pos}
use Rattle.sqlite.specs.declared.types.Value.TheVariants.{Int, Blob}
use Rattle.rtgs_sql_queries.proofs.RowColumns.{of_five}
use Rattle.rtgs_sql_queries.proofs.rows.AccountTableRow.from_row.Goals as goal

pub returns-clause-is : goal.returns-clause-is
returns-clause-is c = (
  record {
    code = c.in_ok-code.ensures.is.0;
    name = c.in_ok-name.ensures.is.0;
    key = search rules;
    credit = search rules;
  },
  of_five c.args.row.now c.in_ok-width.ensures.is c.in_ok-code.ensures.is.1 c.in_ok-name.ensures.is.1
      (c.in_ok-blob.ensures.is ∙ ap Blob (sym c.in_ok-from_slice.ensures.value))
      (c.in_ok-unsigned.ensures.is ∙ ap (λ n. Int (pos n)) (sym c.in_ok-from_cents.ensures.value))
      c.in_ok-cents.ensures.is,
)
