use Rattle.rtgs_cli_lines.specs.Texts.{Prints}
use Rattle.rtgs_cli.specs.serving.Serving.{IsNotListening, server_text, stop_of_desk}
use Rattle.rtgs_cli.proofs.serving.Served.{was_served, was_refused}
use Rattle.rtgs_cli.proofs.serving.serve_book.Goals as goal

pub returns-clause-served : goal.returns-clause-served
returns-clause-served g c =
    let it = c.serve_desk-served in
    was_served _ c.desk.ensures.value c.finish.ensures.desk c.in_ok-book.ensures.opened it.ensures.honest it.result.0
    c.args.service.now.operator (λ failed printed.
    Prints (server_text c.args.service.now.port c.args.service.now.count failed) (stop_of_desk failed)
    printed (g.O.Write.contents c.args.out.now) (g.O.Write.contents it.new.out)) it.ensures.served

pub returns-clause-taken : goal.returns-clause-taken
returns-clause-taken g c = c.serve_desk-served.ensures.taken

pub returns-clause-refused : goal.returns-clause-refused
returns-clause-refused g c =
    let it = c.serve_desk-served in
    was_refused _ c.desk.ensures.value c.finish.ensures.desk c.in_ok-book.ensures.opened it.ensures.honest it.result.0
    (IsNotListening it.result.1) it.ensures.refused it.ensures.idle
