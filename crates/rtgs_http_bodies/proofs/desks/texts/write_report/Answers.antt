use Rattle.rtgs_http_bodies.proofs.desks.Writing.{refusal_says}
use Rattle.rtgs_http_bodies.proofs.desks.texts.write_report.Goals as goal

pub returns-clause-refused : goal.returns-clause-refused
returns-clause-refused g c refusal is = refusal_says c.write_report.result refusal
    (c.write_report.ensures.refused refusal) is
