-- A padded text that gains bytes at its end.
use Rattle.std.proofs.Common.{◌≡◌, ℕ, ◌+◌, ◌-◌, List, ◌++◌, length, take, drop, sym, ap, ◌∙◌, arith}
use lib.ListN.{replicate}
use borrow.Rule.Slice.PartMut.{put_mid}
use Rattle.std.proofs.lemmas.List.{length-take, length-append, drop-drop, drop-replicate}
use Rattle.std.proofs.lemmas.Slice.{take-put_mid, drop-put_mid}
use Rattle.rtgs_money.specs.Padding.{IsPadded}

-- k bytes are written behind the text
pub take-grown : (bytes more : List ℕ) (len k : ℕ) → length (take len bytes) ≡ len → length more ≡ k
    → take (len + k) (put_mid len (len + k - len) bytes more) ≡ take len bytes ++ more
take-grown bytes more len k l m = take-put_mid len (len + k - len) bytes more (len + k) (omega arith)
    (omega (arith, length-take len bytes))

pub IsPadded-grown : (size : ℕ) (bytes more : List ℕ) (len k : ℕ) → IsPadded size bytes len → length more ≡ k
    → IsPadded size (put_mid len (len + k - len) bytes more) (len + k)
IsPadded-grown size bytes more len k padding m =
    let l : length (take len bytes) ≡ len = padding.0 in
    let z : drop len bytes ≡ replicate (size - len) 0 = padding.1 in (
      ap length (take-grown bytes more len k l m) ∙ omega (arith, length-append (take len bytes) more),
      drop-put_mid len (len + k - len) bytes more (len + k) (omega arith) (omega (arith, length-take len bytes))
          (omega arith)
          ∙ sym (drop-drop k len bytes)
          ∙ ap (λ r. drop k r) z
          ∙ drop-replicate k (size - len) 0
          ∙ ap (λ n. replicate n 0) (omega arith),
    )
