-- A head in one piece.
use Rattle.std.proofs.Common.{◌≡◌, ◌++◌, ◌∷◌, [], ℕ, List, codes, append_assoc, sym}
use Rattle.rtgs_http_bodies.specs.replies.Texts.{line}

regroup : (start number space reason end kind name measure length close : List ℕ)
    → (start ++ number ++ space ++ reason ++ end) ++ (kind ++ name ++ end) ++ (measure ++ length ++ end)
    ++ (close ++ end) ++ end
    ≡ start ++ (number ++ (space ++ (reason ++ (end ++
    (kind ++ (name ++ (end ++ (measure ++ (length ++ (end ++ (close ++ (end ++ end))))))))))))
regroup start number space reason end kind name measure length close = simp append_assoc

pub head_spelled : (number reason name length : List ℕ)
    → codes "HTTP/1.1 " ++ (number ++ (codes " " ++ (reason
    ++ (codes "\r\nContent-Type: " ++ (name ++ (codes "\r\nContent-Length: "
    ++ (length ++ codes "\r\nConnection: close\r\n\r\n")))))))
    ≡ line (codes "HTTP/1.1 " ++ number ++ codes " " ++ reason) ++ line (codes "Content-Type: " ++ name)
    ++ line (codes "Content-Length: " ++ length) ++ line (codes "Connection: close") ++ line []
head_spelled number reason name length =
    sym (regroup (codes "HTTP/1.1 ") number (codes " ") reason (13 ∷ 10 ∷ []) (codes "Content-Type: ") name
    (codes "Content-Length: ") length (codes "Connection: close"))
