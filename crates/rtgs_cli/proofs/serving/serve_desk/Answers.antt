use Rattle.std.proofs.Common.{sym, subst}
use Rattle.rtgs_cli_lines.specs.Texts.{Prints}
use Rattle.rtgs_cli.specs.serving.Serving.{server_text, stop_of_desk, TakesAsPrinted}
use Rattle.rtgs_cli.proofs.serving.serve_desk.Goals as goal

pub returns-in-Ok-clause-served : goal.returns-in-Ok-clause-served
returns-in-Ok-clause-served g c =
    let failed = g.B.Kept.Keeper.has_failed c.serve_all-printed.new.desk.keeper in (
      (λ honest book held.
          let works = c.serve_all-printed.ensures.works honest book held in
          let made = works.3 in
          let left = c.what_a_session_leaves.ensures book _ _ made.whole_after_a_crash made.session
          made.calm_after_a_crash in
          (works.0, works.1, works.2, made, left)),
      subst (λ count. Prints (server_text c.args.service.now.port count failed) (stop_of_desk failed)
          c.serve_all-printed.result
          (g.O.Write.contents c.args.out.now) (g.O.Write.contents c.serve_all-printed.new.out))
          c.in-Ok.ensures c.serve_all-printed.ensures.printed,
    )

pub returns-in-Ok-clause-taken : goal.returns-in-Ok-clause-taken
returns-in-Ok-clause-taken g c =
    subst (λ port. TakesAsPrinted c.args.service.now.port c.args.service.now.count port.left c.serve_all-printed.result
    (g.O.Write.contents c.args.out.now) (g.O.Write.contents c.serve_all-printed.new.out)) (sym c.of.ensures)
    (subst (λ count. TakesAsPrinted c.args.service.now.port count c.serve_all-printed.new.connections.left
    c.serve_all-printed.result
    (g.O.Write.contents c.args.out.now) (g.O.Write.contents c.serve_all-printed.new.out)) c.in-Ok.ensures
    c.serve_all-printed.ensures.taken)
