use Rattle.std.proofs.Common.{◌≡◌, List, true, map, ◌↔◌, sym, subst}
use Rattle.std.specs.List.{AllByRecursion}
use Rattle.rtgs_book.specs.declared.mark.Mark.{Mark}
use Rattle.rtgs_book.specs.declared.order.Order.{Order}
use Rattle.rtgs_book.specs.Soundness.{AreNumbered, HasMark}
use Rattle.rtgs_soundness.specs.Tallies.{AreTallies, IsCounted, tally_of_mark}
use Rattle.rtgs_soundness.proofs.Marks.{tallies_of}
use Rattle.rtgs_soundness.proofs.rules.marks.marks_fit.Goals as goal

pub have_marks-requires : goal.have_marks-requires
have_marks-requires c = subst (λ (marks : List Mark). AreNumbered (map (λ (m : Mark). m.number) marks))
    (sym c.as_slice-marks.ensures) c.requires.numbered

pub returns : goal.returns
returns c =
    let marks = c.as_slice-marks.ensures in
    let orders = c.as_slice-orders.ensures in
    tallies_of c.args.book.now c.are_counted.result
    (subst (λ (p : List Mark × List Order). AllByRecursion (λ (o : Order). HasMark p.0 o.date o.state) p.1)
    (λ i. (marks i, orders i)) (c.have_marks.ensures.0 c.if-not-have_marks.false))
    (subst (λ (p : List Mark × List Order). (c.are_counted.result ≡ true) ↔ AllByRecursion
    (λ (m : Mark). IsCounted m (tally_of_mark p.1 m.number)) p.0) (λ i. (marks i, orders i))
    (c.are_counted.ensures c.as_slice-orders.result.now (subst (AreTallies c.as_slice-orders.result.now)
    (sym c.as_slice.ensures.value) c.in_ok-tallies.ensures.1)))
