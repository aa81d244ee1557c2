use Rattle.rtgs_statements.proofs.Growth.{all-added}
use Rattle.rtgs_statements.proofs.parts.text_of_parts.Goals as goal

pub returns : goal.returns
returns c = all-added c.args.first.now c.args.second.now c.args.third.now c.args.fourth.now _ _ _ _ _
    c.new-text.ensures.bytes c.in_ok-add_lines.ensures c.in_ok-add_lines-2.ensures c.in_ok-add_lines-3.ensures
    c.in_ok-add_lines-4.ensures
