use Rattle.rtgs_soundness.proofs.Names.{distinct_texts}
use Rattle.rtgs_soundness.proofs.rules.names.keys_are_distinct.Goals as goal

pub returns : goal.returns
returns c = distinct_texts c.are_distinct.result c.in_ok-keys_of.field-0.items _ c.in_ok-keys_of.ensures
    c.are_distinct.ensures
