use Rattle.std.proofs.Common.{◌∙◌, IsSome, sym, ap, subst}
use Rattle.rtgs_refusals.specs.Table.{entry_of}
use Rattle.rtgs_cli_lines.proofs.Statuses.{failure_ends}
use Rattle.rtgs_cli_lines.proofs.failure.Failure.exit_status.Goals as goal

pub unwrap-requires : goal.unwrap-requires
unwrap-requires c = subst (λ status. IsSome status) (sym (c.exit_status.ensures.status
    ∙ ap (λ kind. (entry_of kind).exit_status) c.kind.ensures)) (failure_ends c.args.self.now)
