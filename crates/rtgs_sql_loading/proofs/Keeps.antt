-- What is left by a query that failed.
use Rattle.std.proofs.Common.{◌≡◌, ◌≢◌, ◌⊎◌, inl, inr, ℕ, Err, Result, IsTrue, refl, ap, ◌∙◌, arith}
use Rattle.sqlite.specs.Effect.{Database}
use Rattle.sqlite.proofs.StateLemmas.{survives_then}
use Rattle.sqlite.specs.State.{State, HasCleanDisk, IsUnchanged, Survives}
use Rattle.sqlite.specs.declared.error.Error.{Error}
use Rattle.rtgs_book.specs.declared.rule.Rule.{Rule}
use Rattle.rtgs_sql_queries.specs.Faults.{IsOfStore}
use Rattle.rtgs_sql_loading.specs.Loading.{TellsError}
use Rattle.sqlite.specs.Tree.{Trees}
use Rattle.rtgs_book.specs.declared.fault.Fault.{Fault}
use Rattle.rtgs_book.specs.declared.fault.Fault.TheVariants.{OutOfMemory, StoreFault, NotADeskFile, Inconsistent}
use Rattle.rtgs_rows.specs.Content.{Content, RestsIn}
use Rattle.rtgs_rows.specs.Querying.{IsFileIn}
use Rattle.rtgs_rows.specs.Tables.{schema_in}
use Rattle.rtgs_sql_queries.specs.Answering.{KeepsTables}

pub survives_on : (a b c : State) → Survives a b (λ _. ⊥) → Survives b c (λ _. ⊥) → Survives a c (λ _. ⊥)
survives_on a b c = survives_then a b c (λ _. ⊥) (λ _. ⊥) (λ _. ⊥) (λ _ db none. none) (λ _ db none. none)

-- what was done on a clean disk began on one
pub was_clean : (old new : State) → Survives old new (λ _. ⊥) → HasCleanDisk new → HasCleanDisk old
was_clean old new survives clean = let low = survives.clean in omega (arith, low)

pub not_foreign : {A : Type 0} (fault : Fault) → (fault ≡ OutOfMemory) ⊎ (fault ≡ StoreFault)
    → ◌≢◌ {A = Result A Fault} (Err fault) (Err NotADeskFile)
not_foreign OutOfMemory why e = absurd cc
not_foreign StoreFault why e = absurd cc
not_foreign NotADeskFile (inl m) e = absurd cc
not_foreign NotADeskFile (inr m) e = absurd cc
not_foreign (Inconsistent rule) (inl m) e = absurd cc
not_foreign (Inconsistent rule) (inr m) e = absurd cc

pub keeps_then : (old mid new : State) → KeepsTables old mid → KeepsTables mid new → KeepsTables old new
keeps_then old mid new one two = record {
  file = λ version trees file. two.file version trees (one.file version trees file);
  rests = λ version content rests. two.rests version content (one.rests version content rests);
}

pub schema_of : (version : ℕ) (trees : Trees) (s : State) → IsFileIn version trees s → s.now.schema ≡ schema_in version
schema_of version trees s file = ap (λ (d : Database). d.schema) file.clean ∙ file.schema

pub schema_at : (version : ℕ) (content : Content) (s : State) → RestsIn version content s
    → s.now.schema ≡ schema_in version
schema_at version content s rests = ap (λ (d : Database). d.schema) rests.clean ∙ rests.schema

-- the query failed, and not by the store: the tables stay
pub keeps_after : {A : Type 0} (old mid new : State) (error : Error) (fault : Fault) → TellsError error fault
    → ((rule : Rule) → fault ≢ Inconsistent rule) → (IsTrue mid.is_open → KeepsTables old mid)
    → (¬ IsOfStore error → KeepsTables old mid) → (fault ≡ OutOfMemory → IsUnchanged mid new)
    → (fault ≢ StoreFault → KeepsTables mid new) → ◌≢◌ {A = Result A Fault} (Err fault) (Err StoreFault)
    → KeepsTables old new
keeps_after old mid new error OutOfMemory tells rules alive foreign memory on other =
    keeps_then old mid new (alive (memory refl).0.was_open) (on (λ e. cc))
keeps_after old mid new error StoreFault tells rules alive foreign memory on other = absurd (other refl)
keeps_after old mid new error NotADeskFile tells rules alive foreign memory on other =
    keeps_then old mid new (foreign (tells.wrong refl)) (on (λ e. cc))
keeps_after old mid new error (Inconsistent rule) tells rules alive foreign memory on other = absurd (rules rule refl)
