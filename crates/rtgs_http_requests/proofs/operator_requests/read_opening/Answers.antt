use Rattle.serde_json.specs.View.{view}
use Rattle.rtgs_http_requests.specs.Contents.{HasOpening}
use Rattle.rtgs_http_requests.specs.Meaning.{SpellsOpening}
use Rattle.rtgs_http_requests.proofs.Chains.{without, within}
use Rattle.rtgs_http_requests.proofs.operator_requests.read_opening.Goals as goal

pub returns-in_default : goal.returns-in_default
returns-in_default c = without HasOpening (λ values. SpellsOpening values) c.args.body.now (view c.in_ok-value.value)
    c.in_ok-value.ensures (λ content. c.opening_of.ensures.none c.in_default.is content.0 content.1)

pub returns : goal.returns
returns c = within HasOpening (λ values. SpellsOpening values) c.args.body.now (view c.in_ok-value.value)
    (c.in-Some.date.now, c.in-Some.automatic) c.spell_opening.result c.in_ok-value.ensures c.in-Some.ensures.some
    c.spell_opening.ensures
