-- The route of a method and a target.
use Rattle.std.specs.Prelude.{◌≡◌, ◌==◌, ◌&&◌, ⊤, ℕ, Bool, not, if◌then◌else◌, List, slice_index, codes, Option}
use Rattle.std.specs.Prelude.{Some, None, Result, Ok, Err}
use Rattle.std.specs.List.{list_all}
use Rattle.std.specs.Str.{bytes_eq}
use Rattle.rtgs_money.specs.Forms.{is_within}
use Rattle.rtgs_http_requests.specs.heads.Parameters.{Parts, taken}
use Rattle.rtgs_http_requests.specs.heads.Tables.{holding, read_paths, command_paths, found_in}
use Rattle.rtgs_http_requests.specs.declared.heads.parameters.Parameters.{Parameters}
use Rattle.rtgs_http_requests.specs.declared.heads.route.Route.{Route}
use Rattle.rtgs_http_requests.specs.declared.heads.head_fault.HeadFault.{HeadFault}
use Rattle.rtgs_http_requests.specs.declared.heads.head_fault.HeadFault.TheVariants.{BadHead, NoSuchRoute, OutOfMemory}

-- a visible character other than a question mark
abbrev pub is_plain_byte : ℕ → Bool
is_plain_byte byte = is_within 33 126 byte && not (byte == 63)

-- The target begins with a slash and is of plain bytes.
abbrev pub is_plain_target : List ℕ → Bool
is_plain_target target = (slice_index target 0 == 47) && list_all is_plain_byte target

abbrev pub is_get : List ℕ → Bool
is_get method = bytes_eq method (codes "GET")

abbrev pub is_post : List ℕ → Bool
is_post method = bytes_eq method (codes "POST")

-- the route of the method whose path the target matches, and what its parameters took of the target
abbrev pub routed : List ℕ → List ℕ → Option (Route × Parts)
routed method target =
    if is_plain_target target
    then (if is_get method then found_in (holding read_paths) target
    else (if is_post method then found_in (holding command_paths) target else None))
    else None

-- what a look-up in the tables answers
abbrev pub GivesRoute : List ℕ → List ℕ → Result (Route × Parameters) HeadFault → Type 0
GivesRoute method target (Ok found) = routed method target ≡ Some (found.0, taken found.1)
GivesRoute method target (Err BadHead) = ⊥
GivesRoute method target (Err NoSuchRoute) = routed method target ≡ None
GivesRoute method target (Err OutOfMemory) = ⊤
