-- The state of a connection outside a transaction, by its records and by its trees.
use Rattle.std.proofs.Common.{◌≡◌, ◌⊎◌, inl, inr, ℕ, IsTrue, refl, sym, ap, subst, ◌∙◌}
use Rattle.sqlite.specs.Effect.{Database}
use Rattle.sqlite.specs.Tree.{Trees}
use Rattle.sqlite.specs.State.{State, IsUnchanged, IsRolledBack}
use Rattle.rtgs_rows.specs.Content.{Content, HoldsIn, RestsIn}
use Rattle.rtgs_rows.specs.Querying.{IsFileIn}
use Rattle.rtgs_rows.specs.Tables.{schema_in}
use Rattle.rtgs_sql_queries.specs.Answering.{KeepsTables}

file_of : (version : ℕ) (content : Content) (s : State) → RestsIn version content s
    → IsFileIn version s.committed.trees s
file_of version content s rests = record {
  known = rests.known;
  is_open = rests.is_open;
  schema = rests.schema;
  trees_are = refl;
  clean = rests.clean;
}

rests_of : (version : ℕ) (content : Content) (s : State) (trees : Trees) → IsFileIn version trees s
    → HoldsIn version content trees → RestsIn version content s
rests_of version content s trees file holds = record {
  known = file.known;
  is_open = file.is_open;
  schema = file.schema;
  holds = subst (HoldsIn version content) (sym file.trees_are) holds;
  clean = file.clean;
}

-- where the tables stay, so do their records
pub keeps : (old new : State)
    → ((version : ℕ) (trees : Trees) → IsFileIn version trees old → IsFileIn version trees new) → KeepsTables old new
keeps old new file = record {
  file = file;
  rests = λ version content rests. rests_of version content new old.committed.trees
      (file version old.committed.trees (file_of version content old rests)) rests.holds;
}

-- the tables are kept, where the connection stays open
file_on : (version : ℕ) (trees : Trees) (old new : State) → IsFileIn version trees old
    → IsUnchanged old new ⊎ IsRolledBack old new → IsTrue new.is_open → IsFileIn version trees new
file_on version trees old new file (inl same) alive = record {
  known = file.known;
  is_open = alive;
  schema = ap (λ (d : Database). d.schema) same.0.committed_is ∙ file.schema;
  trees_are = ap (λ (d : Database). d.trees) same.0.committed_is ∙ file.trees_are;
  clean = same.0.now_is ∙ file.clean ∙ sym same.0.committed_is;
}
file_on version trees old new file (inr back) alive = record {
  known = file.known;
  is_open = alive;
  schema = ap (λ (d : Database). d.schema) (back.undone alive).1 ∙ file.schema;
  trees_are = ap (λ (d : Database). d.trees) (back.undone alive).1 ∙ file.trees_are;
  clean = (back.undone alive).0 ∙ sym (back.undone alive).1;
}

-- nothing was changed, or all was rolled back
pub keeps_open : (old new : State) → IsUnchanged old new ⊎ IsRolledBack old new → IsTrue new.is_open
    → KeepsTables old new
keeps_open old new left alive = keeps old new (λ version trees file. file_on version trees old new file left alive)

pub schema_of : {version : ℕ} (trees : Trees) (s : State) → IsFileIn version trees s
    → s.now.schema ≡ schema_in version
schema_of trees s file = ap (λ (d : Database). d.schema) file.clean ∙ file.schema
