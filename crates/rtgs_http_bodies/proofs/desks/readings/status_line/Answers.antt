use Rattle.std.proofs.Common.{◌≡◌, ◌∙◌, ◌++◌, ◌∷◌, [], sym, ap, subst}
use Rattle.serde_json.specs.Written.{compact_text}
use Rattle.rtgs_book.specs.declared.status.Status.{Status}
use Rattle.rtgs_desk.specs.Readings.{status_of}
use Rattle.rtgs_http_bodies.specs.desks.Status.{StatusFits, status_data}
use Rattle.rtgs_http_bodies.proofs.desks.readings.status_line.Goals as goal

pub returns-clause-answered : goal.returns-clause-answered
returns-clause-answered g c book held =
    let sound = c.holds_a_sound_book.ensures.sound book held in
    let answered = c.status.ensures.answered book held in
    let was = c.in_ok-status.was in
    let is : c.in_ok-status.status ≡ status_of book = cc in
    let fits = subst StatusFits (sym is) (c.status_values_fit.ensures book sound.sound sound.in_range) in
    c.in_ok-ended.ensures
    ∙ ap (λ text. text ++ 10 ∷ []) (c.in_ok-status_text.ensures fits)
    ∙ ap (λ (s : Status). compact_text (status_data s) ++ 10 ∷ []) is
