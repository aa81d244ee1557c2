-- Why a query that is understood fails.
use Rattle.std.proofs.Common.{◌≡◌, inl, inr, ℕ, List, length, Option, [], IfErr, Ok, Err, Result, sym, ap, subst}
use Rattle.std.proofs.Common.{◌∙◌, arith, true, false, subst₂, true≢false, append-nil}
use Rattle.sqlite.specs.Order.{Row}
use Rattle.sqlite_trees.specs.declared.error.StoreError.{StoreError}
use Rattle.sqlite_trees.specs.declared.error.StoreError.TheVariants.{OutOfMemory, Io, Corrupt, Full, Broken, Unstorable}
use Rattle.sqlite_schema.specs.declared.program.Program.{Program}
use Rattle.sqlite_schema.specs.declared.command.Command.{Command}
use Rattle.sqlite.specs.Command.TheVariants.{Select}
use Rattle.sqlite_resolve.specs.declared.error.CompileError.{CompileError}
use Rattle.sqlite.specs.declared.error.Error.{Error}
use Rattle.sqlite.specs.declared.error.Error.TheVariants.{SqlInputError}
use Rattle.sqlite.specs.Listing.{reads_listing, IsSourceOf}
use Rattle.sqlite_typing.specs.Types.{accepts_program}
use Rattle.sqlite_schema.specs.Program.{lets_of}
use Rattle.sqlite_sql.specs.Program.{ProgramOverflows}
use Rattle.sqlite.specs.Effect.{Database, RefusesToRead}
use Rattle.sqlite.specs.State.{State, Fails, IsUnchanged, IsNotRun, IsNoStatement, FailsToQuery, store_error}
use Rattle.sqlite.proofs.Callers.{IsPlain, command_of}
use Rattle.rtgs_sql_queries.specs.Faults.{IsOfStore}
use Rattle.rtgs_sql_queries.specs.TableQueries.{tail_of, count_of, IsOneQuery}

pub is_of_store : (cause : StoreError) → IsOfStore (store_error cause)
is_of_store OutOfMemory = tt
is_of_store Io = tt
is_of_store Corrupt = tt
is_of_store Full = tt
is_of_store Broken = tt
is_of_store Unstorable = tt

module _ (sql : List ℕ) (params : Row) (old new : State) (q : Program) (names : List (List ℕ))
    (asks : IsOneQuery old.now.schema sql (length params) q names) (e : Error) where
  fails : (U : Type 0) → Fails old new U e → IsOfStore e
  fails U h = subst IsOfStore (sym h.1) (is_of_store h.0)

  no_statement : ¬ IsNoStatement old sql params e
  no_statement (inl bad) = subst IsPlain bad.1 asks.plain
  no_statement (inr h) =
      let known = sym (ap tail_of h.1) ∙ asks.whole in
      let many = sym (ap count_of h.1) ∙ asks.given in
      elim h.2 [
        | inl part ↦ part.0 (omega (arith, known))
        | inr (inl wrong) ↦ wrong.0 (sym many)
        | inr (inr timed) ↦ timed.0 (subst IsPlain h.1 asks.plain).1
      ]

  refuses : (limit : Option ℕ) (command : Command) (db : Database) → command ≡ Select q names → db ≡ old.now
      → accepts_program old.now.schema (lets_of q) q.body params ≡ true
      → ¬ ProgramOverflows old.now.trees params [] (lets_of q) q.body
      → RefusesToRead limit command db params e → IsOfStore e
  refuses limit command db is same typed calm h = elim (subst₂ (λ k d. RefusesToRead limit k d params e) is same h) [
    | inl bad ↦ absurd (true≢false (sym typed ∙ bad.1))
    | inr (inl bad) ↦ absurd (calm bad.1)
    | inr (inr bad) ↦ subst IsOfStore (sym bad.0) tt
  ]

  -- what the query names is there, and the engine can compute it
  pub of_store : reads_listing old.now.schema sql ≡ false
      → accepts_program old.now.schema (lets_of q) q.body params ≡ true
      → ¬ ProgramOverflows old.now.trees params [] (lets_of q) q.body → FailsToQuery sql params old new e → IsOfStore e
  unfolding FailsToQuery IsNotRun
  of_store unlisted typed calm (inl (inl h)) = absurd (no_statement h.0)
  of_store unlisted typed calm (inl (inr h)) = fails _ h
  of_store unlisted typed calm (inr h) =
      let bare = subst IsPlain h.1.is asks.plain in
      let it = rw (bare.0, bare.1, append-nil params) at h.2 in
      refuses old.step_limit h.0.command it.0 (sym (ap command_of h.1.is) ∙ asks.command)
      (subst (λ b. IsSourceOf b old.now it.0) unlisted it.1) typed calm it.2

-- A text that was read and found to be no statement changed nothing: the store was open.
pub unread_text : {A : Type 0} (old new : State) (sql : List ℕ) (answer : Result A Error) (fault : CompileError)
    → IfErr answer (λ e. (params : Row) → IsNotRun old new sql params e) → answer ≡ Err (SqlInputError fault)
    → IsUnchanged old new
unfolding IsNotRun
unread_text old new sql (Ok a) fault why is = absurd cc
unread_text {A = A} old new sql (Err e) fault why is = elim (why []) [
  | inl bad ↦ bad.1
  | inr failed ↦ let same : e ≡ SqlInputError fault = cc in absurd
      (subst IsOfStore (sym failed.1 ∙ same) (is_of_store failed.0))
]
