use Rattle.std.proofs.Common.{pos, map, refl, ◌∙◌}
use Rattle.std.specs.Cmp.{eq_by_cmp_equiv}
use Rattle.std.specs.BTreeMap.{IsFromIterResult}
use Rattle.std.proofs.lemmas.Result.{IfOk-weaker}
use Rattle.std.proofs.lemmas.Map.Made.{update_all_pairs}
use Rattle.rtgs_soundness.proofs.rules.totals.zeros.Goals as goal

pub returns : goal.returns
returns g c = IfOk-weaker c.with_zeros.result (IsFromIterResult g.K.Ord.cmp
    (map (λ key. (key, pos 0)) c.args.keys.items)) _
    (λ totals h q. h.0 q ∙ update_all_pairs (eq_by_cmp_equiv g.met.K.Ord.total) (λ key. pos 0) (λ x y e. refl)
    c.args.keys.items q) c.with_zeros.ensures
