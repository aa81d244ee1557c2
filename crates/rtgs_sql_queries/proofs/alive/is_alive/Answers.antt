use Rattle.std.proofs.Common.{[], Err, inl, ◌∙◌, sym, ap, true≢false}
use Rattle.sqlite.specs.Held.{state}
use Rattle.rtgs_sql_queries.proofs.Refusals.{unread_text}
use Rattle.rtgs_sql_queries.proofs.Resting.{keeps_open}
use Rattle.rtgs_sql_queries.proofs.Looking.{no_meaning, not_prepared, look_failed}
use Rattle.rtgs_sql_queries.proofs.alive.is_alive.Goals.{in-Ok, in-Err+in-SqlInputError, in-Err+in_default}
use Rattle.rtgs_sql_queries.proofs.alive.is_alive.Goals as goal

pub returns-clause-alive : goal.returns-clause-alive
returns-clause-alive g c clean alive =
    let was = state g.S.Store c.args.conn.now in
    elim c.match-prepare.branch [
      | in-Ok w ↦ absurd (true≢false (sym alive ∙ w.result-is))
      | in-Err+in-SqlInputError w ↦
          unread_text was (state g.S.Store c.prepare.new.self) _ c.prepare.result w.in-SqlInputError.field-0
          (c.prepare.ensures.err clean) (w.in-Err.is ∙ ap Err w.in-SqlInputError.is)
      | in-Err+in_default w ↦ absurd (true≢false (sym alive ∙ w.result-is))
    ]

pub returns-clause-kept : goal.returns-clause-kept
returns-clause-kept g c clean alive =
    let was = state g.S.Store c.args.conn.now in
    let same = returns-clause-alive g c clean alive in (
      same.0.was_open,
      keeps_open was (state g.S.Store c.prepare.new.self) (inl same) same.0.is_open,
    )

pub returns-clause-dead : goal.returns-clause-dead
returns-clause-dead g c clean dead =
    let was = state g.S.Store c.args.conn.now in
    let none = no_meaning was.now.schema in
    elim c.match-prepare.branch [
      | in-Ok w ↦
          absurd (not_prepared was.now.schema _ c.prepare.result _ none (c.prepare.ensures.shape clean) w.in-Ok.is)
      | in-Err+in-SqlInputError w ↦ absurd (true≢false (sym w.result-is ∙ dead))
      | in-Err+in_default w ↦
          look_failed was (state g.S.Store c.prepare.new.self) _ w.in-Err.error none
          w.in_default.not-SqlInputError (w.in-Err.ensures.err clean [])
    ]
