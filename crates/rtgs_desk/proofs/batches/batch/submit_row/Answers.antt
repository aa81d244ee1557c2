use Rattle.std.proofs.Common.{◌≡◌, true, false, Bool, Result, Ok, Err, refl, sym, ap}
use Rattle.rtgs_book.specs.declared.refusal.Refusal.{Refusal}
use Rattle.rtgs_book.specs.Session.{is_judged}
use Rattle.rtgs_order_files.specs.declared.batch_result.RowReply.{RowReply}
use Rattle.rtgs_order_files.specs.declared.batch_result.RowReply.TheVariants.{Refused}
use Rattle.rtgs_desk.specs.batches.Batches.{replied}
use Rattle.rtgs_desk.proofs.batches.batch.submit_row.Goals as goal

pub accepted-requires : goal.accepted-requires
accepted-requires g c = c.in-Ok.ensures.of_its_kind.0

-- a refusal is passed on as it is, whether the desk judged the order or not
passed_on : (refusal : Refusal) (result : Result RowReply Refusal)
    → (is_judged (Err refusal) ≡ true → result ≡ Ok (Refused refusal))
    → (is_judged (Err refusal) ≡ false → result ≡ Err refusal) → replied result ≡ Err refusal
passed_on refusal result judged unjudged = by (is_judged (Err refusal)) refl
  where
    by : (b : Bool) → is_judged (Err refusal) ≡ b → replied result ≡ Err refusal
    by true e = ap replied (judged e)
    by false e = ap replied (unjudged e)

pub returns-in-Err-clause-acts : goal.returns-in-Err-clause-acts
returns-in-Err-clause-acts g c = λ honest book holds. (
  Err c.in-Err.refusal,
  sym (passed_on c.in-Err.refusal c.refused.result c.refused.ensures.judged c.refused.ensures.unjudged),
  c.in-Err.ensures.acts honest book holds,
)

pub returns-in-Ok-clause-acts : goal.returns-in-Ok-clause-acts
returns-in-Ok-clause-acts g c = λ honest book holds.
    (Ok c.in-Ok.answer, sym c.accepted.ensures, c.in-Ok.ensures.acts honest book holds)
