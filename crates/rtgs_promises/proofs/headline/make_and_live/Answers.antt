use Rattle.std.proofs.Common.{refl}
use Rattle.std.proofs.lemmas.Result.{err_from_is_err_and}
use Rattle.rtgs_book.specs.Books.{new_book}
use Rattle.rtgs_promises.proofs.Anew.{anew, new_is_calm, rows_of}
use Rattle.rtgs_promises.proofs.headline.make_and_live.Goals as goal

pub returns-in_err-made-clause-ended : goal.returns-in_err-made-clause-ended
returns-in_err-made-clause-ended g c =
    let passed_on = err_from_is_err_and c.from_residual.result c.from_residual.ensures.1 in
    rw (passed_on.1, passed_on.2) (λ clean empty. c.in_err-made.ensures.ended clean empty _)

pub returns-in-Ok-clause-lived : goal.returns-in-Ok-clause-lived
returns-in-Ok-clause-lived g c clean empty =
    let made = c.in_ok-made.ensures.held (c.in-Ok.ensures.honest clean) empty in
    let got = c.in-Ok.ensures.lived clean made.0 new_book made.1 in
    let left = (c.holds_a_sound_book.ensures.after_a_crash got.0 got.0 got.1).1 refl in (
      c.holds_a_sound_book.ensures.works got.0 got.1,
      (
        got.0,
        record {
          some = (left.0, left.1);
          each = λ trees may. rows_of got.0 trees (got.2 trees may);
        },
        got.3,
      ),
    )

pub returns-in-Err-clause-ended : goal.returns-in-Err-clause-ended
returns-in-Err-clause-ended g c clean empty =
    let made = c.in_ok-made.ensures.held (c.in-Err.ensures.back clean) empty in
    anew _ _ _ _ (c.in-Err.ensures.ended clean made.0 new_book made.1 new_is_calm)
