-- What pieces do behind other pieces.
use Rattle.std.specs.Prelude.{◌+◌, ℕ}
use Rattle.rtgs_http_requests.specs.declared.feeds.body_step.BodyStep.{BodyStep}
use Rattle.rtgs_http_requests.specs.declared.feeds.body_step.BodyStep.TheVariants as body
use Rattle.rtgs_http_requests.specs.declared.feeds.head_step.HeadStep.{HeadStep}
use Rattle.rtgs_http_requests.specs.declared.feeds.head_step.HeadStep.TheVariants.{More, Region, TooLong}

-- the same step of a head, where this many bytes of the piece come before
abbrev pub head_step_behind : ℕ → HeadStep → HeadStep
head_step_behind before More = More
head_step_behind before (Region taken) = Region (before + taken)
head_step_behind before TooLong = TooLong

-- the same step of a body, where this many bytes of the piece come before
abbrev pub body_step_behind : ℕ → BodyStep → BodyStep
body_step_behind before body.More = body.More
body_step_behind before (body.Full taken) = body.Full (before + taken)
