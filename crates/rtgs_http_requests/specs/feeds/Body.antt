-- A body of a known number of bytes (RFC 9112, section 6.2).
use Rattle.std.specs.Prelude.{◌≡◌, ◌<◌, ◌≤◌, ℕ, List, [], ◌++◌, length, take}
use Rattle.rtgs_http_requests.specs.declared.feeds.body_step.BodyStep.{BodyStep}
use Rattle.rtgs_http_requests.specs.declared.feeds.body_step.BodyStep.TheVariants.{More, Full}

-- how many bytes a body has, and those that have come
pub record Body : Type 0 where
  pub wanted : ℕ
  pub bytes : List ℕ

abbrev pub no_bytes_of : ℕ → Body
no_bytes_of wanted = record { wanted = wanted; bytes = [] }

-- the same body with more bytes
abbrev pub with_bytes : Body → List ℕ → Body
with_bytes body more = record body { bytes = body.bytes ++ more }

-- what a piece makes of the bytes so far
abbrev pub TakesBody : Body → List ℕ → BodyStep → Body → Type 0
TakesBody old piece More new = (new ≡ with_bytes old piece) × (length new.bytes < new.wanted)
TakesBody old piece (Full taken) new =
    (taken ≤ length piece) × (new ≡ with_bytes old (take taken piece)) × (length new.bytes ≡ new.wanted)
