use Rattle.std.proofs.Common.{codes}
use Rattle.serde_json.specs.Data.{boolean, member, no_members, string}
use Rattle.rtgs_http_requests.proofs.contents.chosen_opening_of.Goals as goal

pub returns-in_err-value_under-clause-none : goal.returns-in_err-value_under-clause-none
returns-in_err-value_under-clause-none c e date automatic has =
    let shown = rw (c.in_ok-as_object.was, has) at c.as_object.ensures in
    c.value_under.ensures.none c.in_err-value_under.was (boolean automatic)
    (member (codes "date") (string date) no_members) (rw c.iter-members.ensures.rest (cc))
