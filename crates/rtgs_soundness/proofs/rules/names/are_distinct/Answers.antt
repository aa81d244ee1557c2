use Rattle.std.proofs.Common.{rules, ◌≡◌, length, vec_len, eq-eqb, sym, ◌∙◌}
use Rattle.std.proofs.lemmas.Bool.{eqb-true}
use Rattle.std.specs.Cmp.{eq_by_cmp_equiv}
use Rattle.std.proofs.lemmas.Map.Made.{IsDistinct-from_count, distinct_count-from_IsDistinct}
use Rattle.std.proofs.lemmas.Map.Views.{btree_set_len-from_list}
use Rattle.rtgs_soundness.proofs.rules.names.are_distinct.Goals as goal

pub returns : goal.returns
returns g c =
    let total = g.met.K.Ord.total in
    let long : vec_len c.args.keys ≡ length c.args.keys.items = search rules in
    let distinct = btree_set_len-from_list total c.args.keys.items c.in_ok-distinct.distinct c.in_ok-distinct.ensures
    in (
      λ e. IsDistinct-from_count (eq_by_cmp_equiv total) c.args.keys.items
          (sym distinct ∙ sym c.len.ensures.len ∙ eqb-true c.len.result c.len-count.result e ∙ c.len-count.ensures
          ∙ long),
      λ h. eq-eqb c.len.result c.len-count.result (c.len.ensures.len ∙ distinct
          ∙ distinct_count-from_IsDistinct (eq_by_cmp_equiv total) c.args.keys.items h ∙ sym long
          ∙ sym c.len-count.ensures),
    )
