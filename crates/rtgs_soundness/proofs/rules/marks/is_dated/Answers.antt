use Rattle.std.proofs.Common.{◌≡◌, ◌+◌, ◌-◌, ◌<◌, ◌&&◌, ◌==◌, length, sym, ap, ◌∙◌, rules}
use Rattle.std.specs.List.{list_any}
use Rattle.rtgs_book.specs.declared.mark.Mark.{Mark}
use Rattle.rtgs_soundness.proofs.Marks.{counts, one_dated, none_dated}
use Rattle.rtgs_soundness.proofs.rules.marks.is_dated.Goals as goal

pub returns-then-contains : goal.returns-then-contains
returns-then-contains c =
    let place : 1 + (c.args.number - 1) ≡ c.args.number = search rules in
    let within : c.args.number - 1 < length c.args.marks.now = search rules in
    c.eq.ensures ∙ sym (ap (λ n. list_any (λ (m : Mark). (m.number == n) && (m.date == c.args.date)) c.args.marks.now)
    (sym place) ∙ one_dated 1 (c.args.number - 1) c.args.date c.index-marks-number.result c.args.marks.now
    (counts c.args.marks.now c.requires) within)

pub returns-else-contains : goal.returns-else-contains
returns-else-contains c = sym (none_dated 1 c.args.number c.args.date c.args.marks.now
    (counts c.args.marks.now c.requires) (λ k within is. search rules))
