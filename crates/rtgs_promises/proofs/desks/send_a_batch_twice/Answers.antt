use Rattle.std.proofs.Common.{◌≡◌, ◌∙◌, None, Some, length, take, sym, subst, arith}
use Rattle.std.proofs.lemmas.List.{take_all}
use Rattle.rtgs_book.specs.Run.{Run}
use Rattle.rtgs_desk.specs.batches.Batches.{orders_of, StopsAfter}
use Rattle.rtgs_laws.specs.repeats.Batch.{MayComeAgain}
use Rattle.rtgs_promises.proofs.Batches.{none_full}
use Rattle.rtgs_promises.proofs.desks.send_a_batch_twice.Goals as goal

none_is_not_some : {X : Type 0} (x : X) → None ≡ Some x → ⊥
none_is_not_some x e = absurd (cc)

pub returns : goal.returns
returns g c clean start end once held room none run =
    let e1 = c.in_ok-first.ensures in
    let e2 = c.in_ok-again.ensures in
    let rows = c.args.rows.now in
    let sender = c.args.sender in
    let replies = c.in_ok-again.again.replies.items in
    let clean_next = e2.honest clean in
    let stopped = c.in_ok-next.ensures.honest clean_next in
    let next = c.in_ok-next.ensures.found clean_next in
    let one = e1.sent stopped start held in
    let may : MayComeAgain start one.given =
    λ automatic. none_full one.given c.in_ok-first.first.replies.items one.shown (room automatic) in
    let some = one.whole_after_a_crash next.0 next.1 in
    let again = next.2 some.0 some.1 in
    let two = e2.sent clean some.0 again in
    let long : length replies ≡ length rows =
    subst (λ stop. StopsAfter (length replies) (length rows) stop) none e2.stopped in
    let all : take (length replies) rows ≡ rows = take_all (length replies) rows (omega (arith, long)) in
    let whole = subst (λ some_rows. Run some.0 (orders_of sender some_rows) two.given two.last) all two.run in
    let same : two.last ≡ end = one.resumed_after_a_crash some.0 two.last end two.given once may
    (one.after_a_crash some.0 (next.0, next.1, some.1)) whole run in
    let works = e2.only_fault (λ is. none_is_not_some _ (sym none ∙ is))
    ∙ c.holds_a_sound_book.ensures.works some.0 again in
    rw same at (two.kept works)
