use Rattle.std.proofs.Common.{◌≢◌, ◌<◌, ℕ, get_or}
use Rattle.rtgs_refusals.specs.Table.{entry_of}
use Rattle.rtgs_refusals.specs.declared.refusal_kind.RefusalKind.{RefusalKind}
use Rattle.rtgs_refusal_texts.specs.declared.kinds.TheConstants.{KINDS}
use Rattle.rtgs_refusal_texts.proofs.kinds.kind_numbered.Given as goal

abbrev pub invariant-loop-kind : goal.invariant-loop-kind
invariant-loop-kind l = (k : ℕ) (d : RefusalKind) → k < l.kind-index → (entry_of (get_or KINDS k d)).number ≢ l.number
