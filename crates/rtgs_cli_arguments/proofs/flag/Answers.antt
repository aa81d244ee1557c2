use Rattle.std.proofs.Common.{◌∙◌}
use Rattle.clap.specs.Words.{found_of}
use Rattle.clap.proofs.WalkLemmas.{one_text-rows}
use Rattle.rtgs_cli_arguments.proofs.flag.Goals as goal

pub returns : goal.returns
returns c =
    let read = one_text-rows (found_of c.args.matches.now) c.args.id.now in
    record {
      absent = λ e. c.get_flag.ensures.none (read ∙ e);
      yes = λ e. c.get_flag.ensures.value (read ∙ e);
      no = λ e. c.get_flag.ensures.other (read ∙ e);
    }
