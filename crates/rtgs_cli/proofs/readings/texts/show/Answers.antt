use Rattle.std.proofs.Common.{inl, inr}
use Rattle.std.proofs.lemmas.Result.{IfOk-weaker, IfErr-weaker}
use Rattle.rtgs_cli.proofs.readings.ForReading.{denied_for, gathered, shown_for}
use Rattle.rtgs_cli.proofs.readings.texts.show.Goals as goal
use Rattle.rtgs_lists.proofs.Results.{err_and}

pub returns-in-Statement-clause-printed : goal.returns-in-Statement-clause-printed
returns-in-Statement-clause-printed g c = shown_for _ _ c.in-Statement.is c.show_statement.result.0 _ _
    c.show_statement.ensures.printed

pub returns-in-Statement-clause-refused : goal.returns-in-Statement-clause-refused
returns-in-Statement-clause-refused g c = denied_for _ _ c.in-Statement.is g.O.Write.contents
    c.show_statement.result.0 _ _ c.show_statement.ensures.refused

pub returns-in_default-clause-printed : goal.returns-in_default-clause-printed
returns-in_default-clause-printed g c = IfOk-weaker c.show_text.result.0 _ _
    (λ printed it. inl (gathered c.args.reading c.in_default.not-Statement, it)) c.show_text.ensures.printed

pub returns-in_default-clause-refused : goal.returns-in_default-clause-refused
returns-in_default-clause-refused g c = IfErr-weaker c.show_text.result.0 _ _
    (λ why it. inl (inr (gathered c.args.reading c.in_default.not-Statement, it.0), it.1))
    (err_and c.show_text.result.0 _ _ c.show_text.ensures.refused c.show_text.ensures.unchanged)
