-- What a statement inside a transaction leaves committed.
use Rattle.std.proofs.Common.{◌≡◌, ◌⊎◌, inl, inr, ℕ, List, false, Ok, Err, Result, IsTrue, ap, subst, ◌∙◌}
use Rattle.std.proofs.lemmas.Bool.{cases_Bool}
use Rattle.sqlite.specs.Order.{Row}
use Rattle.sqlite.proofs.StateLemmas.{survives_then}
use Rattle.sqlite.specs.State.{State, KeepsCommit, Survives, IsUnchanged, IsRolledBack, ExecutesInside}
use Rattle.sqlite.specs.declared.error.Error.{Error}
use Rattle.sqlite_trees.specs.declared.store.Store.{Ghosts}
use Rattle.sqlite.specs.Held.{Held, state}

keeps_commit : (old new : State) → IsUnchanged old new ⊎ IsRolledBack old new → KeepsCommit old new
keeps_commit old new (inl same) = record { was_open = λ _. same.0.was_open; committed = λ _. same.0.committed_is }
keeps_commit old new (inr back) = record { was_open = back.was_open; committed = λ is. (back.undone is).1 }

kept_inside : (sql : List ℕ) (params : Row) (old new : State) (r : Result ℕ Error)
    → ExecutesInside 0 sql params old new r → KeepsCommit old new
kept_inside sql params old new (Ok count) h = record { was_open = λ _. h.1.was_open; committed = λ _. h.1.committed_is }
kept_inside sql params old new (Err e) (inl h) = keeps_commit old new h.1
kept_inside sql params old new (Err e) (inr h) = keeps_commit old new (inl h.2)

kept_same : (old new : State) → new ≡ old → KeepsCommit old new
kept_same old new same = record {
  was_open = λ is. subst (λ (s : State). IsTrue s.is_open) same is;
  committed = λ _. ap (λ (s : State). s.committed) same;
}

-- in a transaction that goes on, or in one that has ended
pub kept : {S : Type 0} (g : Ghosts S) (sql : List ℕ) (params : Row) (old new : Held S) (r : Result ℕ Error)
    (error : Error)
    → ((state g old).in_transaction ≡ false → (r ≡ Err error) × (new ≡ old))
    → (IsTrue (state g old).in_transaction → ExecutesInside 0 sql params (state g old) (state g new) r)
    → KeepsCommit (state g old) (state g new)
kept g sql params old new r error ended runs = elim (cases_Bool (state g old).in_transaction) [
  | inl on ↦ kept_inside sql params (state g old) (state g new) r (runs on)
  | inr off ↦ kept_same (state g old) (state g new) (ap (state g) (ended off).1)
]

pub survives_on : (a b c : State) → Survives a b (λ _. ⊥) → Survives b c (λ _. ⊥) → Survives a c (λ _. ⊥)
survives_on a b c = survives_then a b c (λ _. ⊥) (λ _. ⊥) (λ _. ⊥) (λ _ db none. none) (λ _ db none. none)

pub keeps_on : (a b c : State) → KeepsCommit a b → KeepsCommit b c → KeepsCommit a c
keeps_on a b c one two = record {
  was_open = λ is. one.was_open (two.was_open is);
  committed = λ is. two.committed is ∙ one.committed (two.was_open is);
}
