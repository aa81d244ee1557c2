use Rattle.std.proofs.Common.{◌∙◌, refl, sym, ap}
use Rattle.std.proofs.lemmas.Result.{IfOk-weaker}
use Rattle.sqlite.specs.Effect.{Database}
use Rattle.sqlite.specs.Held.{Held, state}
use Rattle.sqlite.specs.State.{State, HasCleanDisk}
use Rattle.sqlite.specs.Steps.{over_memory, IsEmpty}
use Rattle.sqlite_trees.specs.View.{doubt}
use Rattle.sqlite_trees.specs.declared.memory.MemStore.{MemStore}
use Rattle.rtgs_tables.specs.Building.{IsBlank}
use Rattle.rtgs_keeper_trials.proofs.tests.stored_desk.lived_twice_in_memory.Goals as goal

-- memory gives back what it took
memory_is_clean : (h : Held MemStore) → HasCleanDisk (state over_memory h)
unfolding doubt
memory_is_clean h = refl

new_is_blank : (s : State) → IsEmpty s → IsBlank s
new_is_blank s empty = record {
  is_open = empty.0.is_open;
  schema = ap (λ (db : Database). db.schema) (sym empty.0.clean) ∙ empty.2;
  clean = empty.0.clean;
}

pub returns : goal.returns
returns c =
    let conn = c.in_ok-open_in_memory in
    let blank = new_is_blank (state over_memory conn.field-0) conn.ensures.empty in
    let lived = c.lived_twice.ensures in
    IfOk-weaker c.lived_twice.result _ _ (λ it so. so (memory_is_clean it.2.keeper.conn) blank) lived
