-- What is left of the lines of a result file.
use Rattle.std.proofs.Common.{◌≡◌, ◌≤◌, ◌<◌, ◌+◌, ℕ, min, inl, inr, List, [], ◌∷◌, ◌++◌, length, drop, get_or, Option}
use Rattle.std.proofs.Common.{Some, None, Result, Ok, Err, OnOk, refl, sym, ap, ◌∙◌, append_assoc, append-nil, arith}
use Rattle.std.proofs.lemmas.List.{drop_more, drop_all}
use Rattle.std.proofs.lemmas.Option.{slice_get_cases}
use Rattle.rtgs_book.specs.declared.refusal.Refusal.{Refusal}
use Rattle.rtgs_order_files.specs.declared.batch_result.RowReply.{RowReply}
use Rattle.rtgs_book.specs.declared.new_order.NewOrder.{NewOrder}
use Rattle.rtgs_order_files.specs.Results.{reply_line, stop_line, result_lines}

pub lines_more : (text : List ℕ) (rows : List NewOrder) (replies : List RowReply) (stopped : Option Refusal) (n : ℕ)
    (row : NewOrder) (reply : RowReply)
    → n < length rows → n < length replies → row ≡ get_or rows n row → reply ≡ get_or replies n reply
    → (text ++ reply_line row.reference reply) ++ result_lines (drop (n + 1) rows) (drop (n + 1) replies) stopped
    ≡ text ++ result_lines (drop n rows) (drop n replies) stopped
lines_more text rows replies stopped n row reply p q e f =
    let left : drop n rows ≡ row ∷ drop (n + 1) rows = drop_more rows n row p ∙ ap (λ x. x ∷ drop (n + 1) rows) (sym e)
    in
    let rest : drop n replies ≡ reply ∷ drop (n + 1) replies = drop_more replies n reply q
    ∙ ap (λ x. x ∷ drop (n + 1) replies) (sym f) in
    rw (left, rest) (append_assoc text (reply_line row.reference reply)
    (result_lines (drop (n + 1) rows) (drop (n + 1) replies) stopped))

-- a row is left, at which the batch stopped
pub lines_stop : (rows : List NewOrder) (replies : List RowReply) (refusal : Refusal) (n : ℕ) (row : NewOrder)
    → n ≡ min (length rows) (length replies) → length replies < length rows → row ≡ get_or rows (length replies) row
    → result_lines (drop n rows) (drop n replies) (Some refusal) ≡ stop_line row.reference refusal
lines_stop rows replies refusal n row counted p e =
    let here : n ≡ length replies = omega (arith, counted, p) in
    let left : drop (length replies) rows ≡ row ∷ drop (length replies + 1) rows = drop_more rows (length replies) row p
    ∙ ap (λ x. x ∷ drop (length replies + 1) rows) (sym e) in
    rw (here, left, drop_all (length replies) replies (omega arith)) refl

-- no row is left
pub lines_end : (rows : List NewOrder) (replies : List RowReply) (stopped : Option Refusal) (n : ℕ)
    → n ≡ min (length rows) (length replies) → length rows ≤ length replies
    → result_lines (drop n rows) (drop n replies) stopped ≡ []
lines_end rows replies stopped n counted p = rw (drop_all n rows (omega (arith, counted, p))) refl

-- the batch has not stopped
pub lines_none : (rows : List NewOrder) (replies : List RowReply) (n : ℕ) → n ≡ min (length rows) (length replies)
    → result_lines (drop n rows) (drop n replies) None ≡ []
lines_none rows replies n counted = elim (slice_get_cases rows (length replies)).1 [
  | inl some ↦ rw (drop_all n replies (omega (arith, counted, some.1))) (none (drop n rows))
  | inr over ↦ lines_end rows replies None n counted over.0
]
  where
    none : (rows : List NewOrder) → result_lines rows [] None ≡ []
    none [] = refl
    none (row ∷ rows) = refl

-- what was written is the whole where nothing is left
pub is_whole : (so_far left whole : List ℕ) → left ≡ [] → so_far ++ left ≡ whole → so_far ≡ whole
is_whole so_far left whole none e = sym (append-nil so_far) ∙ ap (λ l. so_far ++ l) (sym none) ∙ e

-- what follows from what a call did follows from the call
pub at_ok : {T E : Type 0} (r : Result T E) (P Q : Type 0) → (P → Q) → OnOk r P → OnOk r Q
at_ok (Ok x) P Q f p = f p
at_ok (Err e) P Q f p = tt
