use Rattle.std.proofs.Common.{◌∙◌, refl, sym, subst}
use Rattle.rtgs_cli_lines.specs.Lines.{done_line}
use Rattle.rtgs_cli_lines.specs.Texts.{Prints}
use Rattle.rtgs_cli_lines.specs.SentTo.{IsSentTo}
use Rattle.rtgs_cli_lines.specs.declared.done.Done.TheVariants.{Served}
use Rattle.rtgs_cli.specs.files.Printing.{ended_line}
use Rattle.rtgs_cli.specs.serving.Serving.{server_text, stop_of_desk, TakesAsPrinted}
use Rattle.rtgs_cli.proofs.serving.ServerPrints.{lost_prints, served_prints, none_taken, taken_until, all_taken}
use Rattle.rtgs_cli.proofs.serving.serve_all.Goals as goal

pub returns-in-Err-clause-printed : goal.returns-in-Err-clause-printed
returns-in-Err-clause-printed g c =
    lost_prints c.args.service.now.port (g.C.Connections.to_come c.args.connections.now)
    (g.O.Write.contents c.args.out.now)
    (g.K.Keeper.has_failed c.args.desk.now.keeper) (g.O.Write.contents c.print.new.out) c.in-Err.failed
    c.in-Err.ensures

pub returns-in-Err-clause-taken : goal.returns-in-Err-clause-taken
returns-in-Err-clause-taken g c =
    none_taken c.args.service.now.port (g.C.Connections.to_come c.args.connections.now)
    (g.O.Write.contents c.args.out.now) _
    (g.O.Write.contents c.print.new.out) c.in-Err.failed refl

pub returns-then-failed-clause-taken : goal.returns-then-failed-clause-taken
returns-then-failed-clause-taken g c =
    taken_until c.args.service.now.port (g.C.Connections.to_come c.args.connections.now)
    (g.O.Write.contents c.args.out.now) _
    (g.O.Write.contents c.print.new.out) c.in_default.ensures

pub returns-clause-printed : goal.returns-clause-printed
returns-clause-printed g c =
    let old = g.O.Write.contents c.args.out.now in
    let mid = g.O.Write.contents c.print.new.out in
    let new = g.O.Write.contents c.print-2.new.out in
    let count = g.C.Connections.to_come c.args.connections.now in
    let failed = g.K.Keeper.has_failed c.serve_connections.new.desk.keeper in
    let appended = subst (λ count. IsSentTo c.print-2.result mid new (ended_line (done_line (Served count))))
    c.left-count.ensures c.print-2.ensures in
    subst (λ printed. Prints (server_text c.args.service.now.port count failed) (stop_of_desk failed) printed old new)
    (sym c.sent.ensures)
    (served_prints c.args.service.now.port count old failed mid new c.print-2.result
    (sym c.failed.ensures ∙ c.if-failed.false)
    c.in_default.ensures appended)

pub returns-clause-taken : goal.returns-clause-taken
returns-clause-taken g c =
    let old = g.O.Write.contents c.args.out.now in
    let mid = g.O.Write.contents c.print.new.out in
    let new = g.O.Write.contents c.print-2.new.out in
    let count = g.C.Connections.to_come c.args.connections.now in
    let left = g.C.Connections.to_come c.serve_connections.new.connections in
    subst (λ printed. TakesAsPrinted c.args.service.now.port count left printed old new) (sym c.sent.ensures)
    (all_taken c.args.service.now.port count old left mid new _ c.print-2.result
    (c.serve_connections.ensures.all (sym c.failed.ensures ∙ c.if-failed.false)) c.in_default.ensures c.print-2.ensures)
