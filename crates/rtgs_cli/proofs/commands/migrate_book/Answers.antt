use Rattle.std.proofs.Common.{None, refl, ap}
use Rattle.rtgs_cli.specs.files.Printing.{ended_line}
use Rattle.rtgs_cli_lines.specs.Lines.{done_line}
use Rattle.rtgs_cli.proofs.commands.migrate_book.Goals as goal

pub returns-in-Ok-clause-printed : goal.returns-in-Ok-clause-printed
returns-in-Ok-clause-printed g c = (
  ended_line (done_line c.migration.result),
  None,
  (
    c.in-Ok.wrote,
    (c.in-Ok.migrated, refl, c.in-Ok.ensures.migrated),
    ap (λ done. ended_line (done_line done)) c.migration.ensures,
    refl,
  ),
  c.say.ensures,
)

pub returns-in-Err-clause-refused : goal.returns-in-Err-clause-refused
returns-in-Err-clause-refused g c = rw c.refused.ensures (c.in-Err.unmigrated, refl, c.in-Err.ensures.refused, refl)
