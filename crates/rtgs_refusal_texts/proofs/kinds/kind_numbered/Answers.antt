use borrow.Author.Count.{below_more}
use Rattle.std.proofs.Common.{◌≢◌, ◌∙◌, ap, arith, get_or}
use Rattle.std.proofs.lemmas.List.{get_or_default}
use Rattle.rtgs_refusals.specs.Table.{entry_of}
use Rattle.rtgs_refusals.specs.declared.refusal_kind.RefusalKind.{RefusalKind}
use Rattle.rtgs_refusal_texts.specs.declared.kinds.TheConstants.{KINDS}
use Rattle.rtgs_refusal_texts.proofs.Listing.{each_listed}
use Rattle.rtgs_refusal_texts.proofs.kinds.kind_numbered.Goals as goal

pub loop-kind-preserved : goal.loop-kind-preserved
loop-kind-preserved c k d low =
    let i = c.loop-kind.kind-index in
    below_more (λ k. (d : RefusalKind) → (entry_of (get_or KINDS k d)).number ≢ c.args.number) i
    (λ k before d. c.loop-kind.invariant k d before)
    (λ d same. c.if-number.false (c.number.ensures
    ∙ ap (λ (kind : RefusalKind). (entry_of kind).number) (get_or_default KINDS i _ d c.loop-kind-test.true) ∙ same))
    k low d

pub returns-clause-unknown : goal.returns-clause-unknown
returns-clause-unknown c kind same =
    let (k, listed, low, at, is) = each_listed kind in
    c.loop-kind.invariant k listed (omega (arith, low, c.loop-kind-test.false))
    (ap (λ (kind : RefusalKind). (entry_of kind).number) (at ∙ is) ∙ same)
