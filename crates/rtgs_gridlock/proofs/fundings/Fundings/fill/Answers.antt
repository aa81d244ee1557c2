use Rattle.std.proofs.Common.{◌≡◌, ◌+◌, List, length, rules, subst, sym, ◌∙◌}
use Rattle.std.specs.Vec.{with_items}
use Rattle.std.proofs.lemmas.List.{with_items_is}
use Rattle.rtgs_gridlock.specs.Choices.{received}
use Rattle.rtgs_gridlock.specs.Fundings.{everything, funds_of, owed_of, AreFundings}
use Rattle.rtgs_gridlock.specs.declared.fundings.Funding.{Funding}
use Rattle.rtgs_gridlock.proofs.FundingLemmas.{AreFundings-filled}
use Rattle.rtgs_gridlock.proofs.fundings.Fundings.fill.Goals as goal

pub returns-clause-fundings : goal.returns-clause-fundings
returns-clause-fundings c =
    let queues = c.args.queues.now in
    let list = c.self.inside.list in
    let opened_kept : length c.open.new.fundings ≡ list.len = search rules in
    let credited_kept : length c.credit_all.new.fundings ≡ list.len = search rules in
    let opened : c.deref_mut-2.result.now ≡ c.open.new.fundings = c.deref_mut-2.ensures.value
    ∙ with_items_is list c.open.new.fundings opened_kept in
    let credited : (with_items (with_items list c.open.new.fundings) c.credit_all.new.fundings).items
    ≡ c.credit_all.new.fundings =
    with_items_is (with_items list c.open.new.fundings) c.credit_all.new.fundings credited_kept in
    subst (λ (xs : List Funding). AreFundings c.args.positions.now queues (everything queues) xs) (sym credited)
    (AreFundings-filled c.args.positions.now queues c.open.new.fundings c.credit_all.new.fundings
    c.open.ensures.funds c.open.ensures.owed
    (λ p b. subst (λ (xs : List Funding). funds_of c.credit_all.new.fundings p
    ≡ funds_of xs p + received queues (everything queues) p) opened (c.credit_all.ensures.funds p b))
    (λ p. subst (λ (xs : List Funding). owed_of c.credit_all.new.fundings p ≡ owed_of xs p) opened
    (c.credit_all.ensures.owed p)))
