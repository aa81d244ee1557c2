use Rattle.std.proofs.Common.{◌≡◌, ◌∙◌, Some, None, Option, arith, rules, length, map, take, sym, ap, subst}
use Rattle.std.proofs.Math.Seq.{take-length}
use Rattle.rtgs_sql_columns.specs.Numbers.{as_read, IsFormed}
use Rattle.rtgs_sql_queries.proofs.Decoding.{begun, one_more, map_length}
use Rattle.rtgs_sql_queries.proofs.table_row.decode.Goals as goal
use Rattle.rtgs_lists.proofs.Lists.{all_get}

pub loop-row-init : goal.loop-row-init
loop-row-init g c =
    let t = g.T.TableRow.records in
    begun t.fits (as_read t.counted) t.shown c.args.rows.now _ _ (search rules) (search rules)

pub loop-row-preserved : goal.loop-row-preserved
loop-row-preserved g c =
    let t = g.T.TableRow.records in
    one_more t.fits (as_read t.counted) t.shown c.args.rows.now c.loop-row.row-index _ _ c.loop-row.invariant
    c.row-item.result c.in-Some.record c.loop-row-test.true c.row-item.is
    c.in-Some.ensures.is.0 c.in-Some.ensures.is.1 c.in-Some.ensures.found _ _ c.push_reserved.ensures.items
    c.push_reserved.ensures.capacity

pub returns-in-None-clause-wrong : goal.returns-in-None-clause-wrong
returns-in-None-clause-wrong g c e formed =
    let at = all_get (IsFormed g.T.TableRow.records) c.args.rows.now
    c.loop-row.row-index c.row-item.result c.loop-row-test.true c.row-item.is formed in
    let clash : ◌≡◌ {A = Option g.row.T.Denot} None (Some at.0) = c.in-None.ensures.found at.0 at.1 at.2 in
    absurd cc

pub returns-clause-is : goal.returns-clause-is
returns-clause-is g c =
    let all : c.loop-row.row-index ≡ length c.args.rows.now =
    omega (arith, c.loop-row-test.false, c.loop-row.auto.row-index-end) in
    let whole = ap (λ n. take n c.args.rows.now) all ∙ take-length c.args.rows.now in (
      c.loop-row.invariant.fit,
      subst (λ rows. map (as_read g.T.TableRow.records.counted) rows
          ≡ map g.T.TableRow.records.shown c.loop-row.records.items) whole c.loop-row.invariant.is,
    )

pub returns-clause-given : goal.returns-clause-given
returns-clause-given g c found fits same =
    let all : c.loop-row.row-index ≡ length c.args.rows.now =
    omega (arith, c.loop-row-test.false, c.loop-row.auto.row-index-end) in
    let long = sym (map_length (as_read g.T.TableRow.records.counted) c.args.rows.now) ∙ ap length same
    ∙ map_length g.T.TableRow.records.shown found in
    c.loop-row.invariant.given found fits same ∙ ap (λ n. take n found) (all ∙ long) ∙ take-length found
