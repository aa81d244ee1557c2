use Rattle.std.proofs.Common.{None, subst}
use Rattle.rtgs_cli_lines.specs.Texts.{Prints}
use Rattle.rtgs_cli.proofs.readings.texts.print_read.Goals as goal

pub returns-in-Ok-clause-printed : goal.returns-in-Ok-clause-printed
returns-in-Ok-clause-printed g c = (
  c.in-Ok.text,
  c.in-Ok.is,
  subst (λ text. Prints text None c.print_text.result (g.O.Write.contents c.args.out.now)
      (g.O.Write.contents c.print_text.new.out)) c.as_slice.ensures.value c.print_text.ensures,
)
