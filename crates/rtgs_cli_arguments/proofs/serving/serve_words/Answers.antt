use Rattle.std.proofs.Common.{inl, inr}
use Rattle.clap.specs.Words.{found_of, rows_of}
use Rattle.rtgs_cli_arguments.proofs.Served.{no_server}
use Rattle.rtgs_cli_arguments.proofs.serving.serve_words.Goals as goal

pub returns-in_err-port_number : goal.returns-in_err-port_number
returns-in_err-port_number c =
    let none = no_server (rows_of (found_of c.args.given.now)) (inl c.in_err-port_number.ensures) in
    rw c.from_residual.ensures none

pub returns-in_err-count_number : goal.returns-in_err-count_number
returns-in_err-count_number c =
    let none = no_server (rows_of (found_of c.args.given.now)) (inr c.in_err-count_number.ensures) in
    rw c.from_residual-in_err-count_number.ensures none
