-- Bodies: how long they are, and the value that they spell.
use Rattle.std.specs.Prelude.{◌≡◌, ⊤, ℕ, nat_le, Bool, true, false, if◌then◌else◌, List, Option, Some, None, Result}
use Rattle.std.specs.Prelude.{Ok, Err, IsUtf8}
use Rattle.serde_json.specs.Data.{Data}
use Rattle.serde_json.specs.Read.{read}
use Rattle.rtgs_http_requests.specs.declared.feeds.limits.TheConstants.{LONGEST_BODY}
use Rattle.rtgs_http_requests.specs.declared.http_fault.HttpFault.{HttpFault}
use Rattle.rtgs_http_requests.specs.declared.http_fault.HttpFault.TheVariants.{NoLength, BodyTooLong, BadJson}
use Rattle.rtgs_http_requests.specs.declared.http_fault.HttpFault.TheVariants.{OutOfMemory}

-- how many bytes the body of a POST has, where the head declares a number, or nothing; a GET has no body
abbrev pub body_length : Bool → Option ℕ → Result ℕ HttpFault
body_length false declared = Ok 0
body_length true None = Err NoLength
body_length true (Some length) = if nat_le length LONGEST_BODY then Ok length else Err BodyTooLong

-- The bytes are a text of JSON with this value, or of none.
abbrev pub ReadsJson : List ℕ → Result Data HttpFault → Type 0
ReadsJson body (Ok value) = IsUtf8 body × (read body ≡ Some value)
ReadsJson body (Err BadJson) = IsUtf8 body → read body ≡ None
ReadsJson body (Err OutOfMemory) = ⊤
ReadsJson body (Err _) = ⊥
