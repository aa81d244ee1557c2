use Rattle.std.proofs.Common.{ap, ◌∙◌, map}
use Rattle.rtgs_book.specs.Lookup.{codes_of}
use Rattle.rtgs_soundness.proofs.Parties.{parties_of}
use Rattle.rtgs_soundness.proofs.rules.parties.parties_are_known.Goals as goal

pub returns : goal.returns
unfolding codes_of
returns c = parties_of c.args.book.now c.in_ok-codes_of.field-0.items c.in_ok-codes.codes c.are_among.result
    (c.in_ok-codes_of.ensures ∙ ap (λ ps. map (λ p. p.code) ps) c.as_slice.ensures)
    c.in_ok-codes.ensures
    c.are_among.ensures
