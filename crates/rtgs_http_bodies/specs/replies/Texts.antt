-- The text of a reply: its status line, its header fields, an empty line and its body (RFC 9112).
use Rattle.std.specs.Prelude.{ℕ, List, [], ◌∷◌, ◌++◌, length, codes, decimal, ◌==◌, if◌then◌else◌}
use Rattle.rtgs_http_bodies.specs.declared.replies.content_type.ContentType.{ContentType}
use Rattle.rtgs_http_bodies.specs.declared.replies.content_type.ContentType.TheVariants.{Json, Csv, Plain}

-- the reason of each status that the desk gives (RFC 9110); another has none
abbrev pub reason_of : ℕ → List ℕ
reason_of status =
    if status == 200 then codes "OK" else (
    if status == 400 then codes "Bad Request" else (
    if status == 403 then codes "Forbidden" else (
    if status == 404 then codes "Not Found" else (
    if status == 409 then codes "Conflict" else (
    if status == 411 then codes "Length Required" else (
    if status == 413 then codes "Content Too Large" else (
    if status == 503 then codes "Service Unavailable" else [])))))))

abbrev pub content_name : ContentType → List ℕ
content_name Json = codes "application/json"
content_name Csv = codes "text/csv"
content_name Plain = codes "text/plain"

-- a line of the head ends with a carriage return and a line feed
abbrev pub line : List ℕ → List ℕ
line text = text ++ 13 ∷ 10 ∷ []

-- all that stands before a body of this length
abbrev pub head_text : ℕ → ContentType → ℕ → List ℕ
head_text status content length =
    line (codes "HTTP/1.1 " ++ decimal status ++ codes " " ++ reason_of status)
    ++ line (codes "Content-Type: " ++ content_name content)
    ++ line (codes "Content-Length: " ++ decimal length)
    ++ line (codes "Connection: close")
    ++ line []

abbrev pub reply_text : ℕ → ContentType → List ℕ → List ℕ
reply_text status content body = head_text status content (length body) ++ body
