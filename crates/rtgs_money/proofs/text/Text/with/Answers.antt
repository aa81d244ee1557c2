use Rattle.std.proofs.Common.{◌++◌, ◌∙◌, sym, ap, subst, List, ℕ, length}
use Rattle.std.specs.Str.{IsAscii}
use Rattle.std.proofs.lemmas.Str.{IsAscii-append}
use Rattle.rtgs_money.proofs.Padding.{take-grown, IsPadded-grown}
use Rattle.rtgs_money.proofs.text.Text.with.Goals as goal

pub invariant_of-self : goal.invariant_of-self
invariant_of-self g c =
    let more = c.copy_from_slice.ensures.after in
    let grown = take-grown c.self.inside.bytes c.copy_from_slice.new.self c.self.inside.len (length c.args.more.now)
    c.self.invariant.0.0 (ap length more) in
    let P : List ℕ → Type 0 = λ t. IsAscii t in
    let Q : List ℕ → Type 0 = λ t. IsAscii t in (
      IsPadded-grown g.row.N c.self.inside.bytes c.copy_from_slice.new.self c.self.inside.len (length c.args.more.now)
          c.self.invariant.0 (ap length more),
      subst P (sym grown) (IsAscii-append _ _ c.self.invariant.1 (subst Q (sym more) c.requires.ascii)),
    )

pub returns : goal.returns
returns g c =
    let more = c.copy_from_slice.ensures.after in
    take-grown c.self.inside.bytes c.copy_from_slice.new.self c.self.inside.len (length c.args.more.now)
    c.self.invariant.0.0 (ap length more)
    ∙ ap (λ t. t ++ c.copy_from_slice.new.self) c.self.view_is ∙ ap (λ t. c.args.self ++ t) more
