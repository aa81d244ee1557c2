use Rattle.rtgs_cli_arguments.specs.CommandLine as line
use Rattle.rtgs_cli_arguments.proofs.accounts.post_command.Goals as goal

pub returns : goal.returns
returns c =
    let code = c.with_code-post.ensures _ c.book_command-post.ensures in
    let reference = c.with_word-post.ensures _ code in
    let cents = c.with_word-post-2.ensures _ reference in
    c.with_argument.ensures _ line.debit cents c.debit_argument.ensures
