use Rattle.std.proofs.Common.{◌≡◌, map, take}
use Rattle.serde_json.specs.View.{view}
use Rattle.rtgs_http_bodies.specs.desks.Accounts.{QueuedValuesFit, listed}
use Rattle.rtgs_http_bodies.proofs.desks.accounts.listed_values.Given as goal

-- the first accounts
abbrev pub invariant-loop-account : goal.invariant-loop-account
invariant-loop-account l = QueuedValuesFit l.accounts
    → map view l.items.items ≡ map listed (take l.account-index l.accounts)
