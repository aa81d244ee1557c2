use Rattle.std.proofs.Common.{rules, ◌≡◌, true, sym, ◌∙◌}
use Rattle.rtgs_http_requests.specs.heads.Targets.{is_plain_target}
use Rattle.rtgs_http_requests.proofs.heads.Texts.{plain_text}
use Rattle.rtgs_http_requests.proofs.heads.routing.plain_target.Goals as goal

pub returns-clause-none : goal.returns-clause-none
returns-clause-none c none =
    let plain : is_plain_target c.args.target.now ≡ true = sym c.is_plain_target.ensures
    ∙ c.if-not-is_plain_target.false in
    let text = plain_text c.args.target.now plain in
    search (rules, text)
