use Rattle.serde_json.specs.Data.{no_members}
use Rattle.rtgs_http_requests.proofs.contents.posting_of.Goals as goal

pub returns-in_err-reference-clause-none : goal.returns-in_err-reference-clause-none
returns-in_err-reference-clause-none c e code reference cents has =
    let shown = rw (c.in_ok-as_object.was, has.2) at c.as_object.ensures in
    let first = rw (c.iter-members.ensures.rest, c.in_ok-value_under.was) at c.value_under.ensures.some in
    let second = rw c.in_ok-code.was at c.text_under.ensures.some in
    c.text_under-2.ensures.none c.in_err-reference.was reference no_members (cc)
