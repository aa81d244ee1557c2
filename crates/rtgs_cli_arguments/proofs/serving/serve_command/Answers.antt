use Rattle.std.proofs.Common.{codes}
use Rattle.rtgs_cli_arguments.specs.CommandLine as line
use Rattle.rtgs_cli_arguments.proofs.serving.serve_command.Goals as goal

pub returns : goal.returns
returns c =
    let port = c.with_argument-serve.ensures _ line.port c.book_command-serve.ensures c.port_option.ensures in
    let count = c.with_argument-serve-2.ensures _ line.count port c.count_option.ensures in
    c.with_argument.ensures _ (line.named (line.word (codes "operator-key"))) count c.key_option.ensures.rule
