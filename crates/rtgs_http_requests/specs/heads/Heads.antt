-- The heads that the desk serves: those of RFC 9112, sections 2 to 6, and fewer.
use Rattle.std.specs.Prelude.{◌≡◌, ◌≢◌, ◌≤◌, ℕ, List, [], length, map, Option, slice_index}
use Rattle.httparse.specs.Grammar.{RequestHead, ReadsRequest}
use Rattle.httparse.specs.Spans.{name_and_value}
use Rattle.rtgs_http_requests.specs.heads.Fields.{Fields, HasLength}
use Rattle.rtgs_http_requests.specs.declared.heads.limits.TheConstants.{MOST_FIELDS}

abbrev pub fields_of : RequestHead → Fields
fields_of head = map name_and_value head.fields

-- The region is this head and nothing else, it begins with no end of a line, and its fields are at most MOST_FIELDS.
pub record IsWholeHead (region : List ℕ) (head : RequestHead) : Type 0 where
  pub reads : ReadsRequest region head []
  pub no_return : slice_index region 0 ≢ 13
  pub no_feed : slice_index region 0 ≢ 10
  pub few : length head.fields ≤ MOST_FIELDS

-- The region is a head of version 1.1 that declares this length of its body, or none.
pub record IsGoodHead (region : List ℕ) (head : RequestHead) (declared : Option ℕ) : Type 0 where
  pub whole : IsWholeHead region head
  pub version : head.minor ≡ 1
  pub body : HasLength head.method (fields_of head) declared
