use Rattle.rtgs_soundness.proofs.Names.{distinct_names}
use Rattle.rtgs_soundness.proofs.rules.names.order_references_are_distinct.Goals as goal

pub returns : goal.returns
returns c = distinct_names c.are_distinct.result c.in_ok-names_of.field-0.items _ c.in_ok-names_of.ensures
    c.are_distinct.ensures
