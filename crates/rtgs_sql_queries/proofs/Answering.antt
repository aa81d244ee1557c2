-- What a query shows and leaves whose rows are read one at a time.
use Rattle.std.proofs.Common.{◌≡◌, ◌⊎◌, ℕ, List, [], None, Ok, Err, Result, IfErr, IsTrue, Vec, Global, refl, sym}
use Rattle.std.proofs.Common.{◌≤◌, IsSome, arith, subst, inl, inr, ◌∙◌}
use Rattle.sqlite.specs.Order.{Row}
use Rattle.sqlite.specs.Schema.{Schema}
use Rattle.sqlite.specs.Tree.{Trees}
use Rattle.sqlite.specs.Clock.{timed}
use Rattle.sqlite.specs.Effect.{Database, RefusesToRead}
use Rattle.sqlite.specs.Held.{Held, state}
use Rattle.sqlite.specs.Listing.{understood, reads_listing, listing_schema, IsSourceOf}
use Rattle.sqlite.specs.State.{State, Shown, IsUnchanged, FailsToQuery, ShowsRows, FailsToShow, HasCause}
use Rattle.sqlite.specs.State.{IsNotRun, IsNoStatement, IsRolledBack, Survives}
use Rattle.sqlite.specs.Given.{HasGiven, HasBegun, Returns}
use Rattle.sqlite.specs.declared.error.Error.{Error}
use Rattle.sqlite.proofs.Callers.{unchanged_then}
use Rattle.sqlite_trees.specs.declared.error.StoreError.{StoreError}
use Rattle.sqlite_trees.specs.declared.error.StoreError.TheVariants as store
use Rattle.sqlite_trees.specs.declared.store.Store.{Ghosts}
use Rattle.sqlite_resolve.specs.Compile.{first, compiled}
use Rattle.sqlite_resolve.specs.declared.compiled.Compiled.{Compiled}
use Rattle.sqlite_resolve.specs.declared.error.CompileError.{CompileError}
use Rattle.sqlite_resolve.specs.declared.error.CompileError.TheVariants.{NoSuchTable}
use Rattle.rtgs_sql_queries.specs.Answering.{Returnless, FailsAmid}
use Rattle.rtgs_sql_queries.specs.Displaying.{HasNoAnswer}
use Rattle.rtgs_sql_queries.specs.Faults.{IsOfStore}
use Rattle.rtgs_sql_queries.proofs.ReadingAlone.{understood_none}
use Rattle.rtgs_sql_queries.specs.TableQueries.{IsQueryText}
use Rattle.rtgs_sql_queries.proofs.Displaying.{unanswered}

no_returning : (schema : Schema) (text : List ℕ) → Returnless (first text) → ¬ Returns (understood schema text)
no_returning schema text is = go (understood schema text) refl
  where
    go : (read : Result Compiled CompileError) → understood schema text ≡ read → ¬ Returns read
    go (Ok c) found some = absurd (let clash = subst IsSome (understood_none schema text c is found) some in cc)
    go (Err e) found some = absurd some

-- a query that begins gives rows, for it is no write
pub begun_query : {S : Type 0} (g : Ghosts S) (text : List ℕ) (old new : Held S) → Returnless (first text)
    → HasBegun g text [] old new → HasGiven g text [] new [] × IsUnchanged (state g old) (state g new)
begun_query g text old new is (inl begun) = begun
begun_query g text old new is (inr wrote) = absurd (no_returning old.schema text is wrote.0)

-- rows that are shown over what was not changed are shown over what was there
pub shown_from : (text : List ℕ) (old amid new : State) (rows : List Row) → Returnless (first text)
    → IsUnchanged old amid → Shown text [] amid new rows → Shown text [] old new rows
unfolding Shown
shown_from text old amid new rows is same h =
    let none = understood_none amid.now.schema text h.0 is h.1.is in
    let seen = same.0.now_is in
    let it = subst (ShowsRows amid new text h.0 _ rows) none h.2 in
    let back : ShowsRows old new text h.0 _ rows None = (
      it.0,
      subst (λ (d : Database). IsSourceOf (reads_listing d.schema text) d it.0) seen it.1,
      it.2,
      unchanged_then old amid new same it.3,
    ) in (
      h.0,
      record {
        is = subst (λ (d : Database). understood d.schema text ≡ Ok h.0) seen h.1.is;
        whole = h.1.whole;
        given = h.1.given;
        now = h.1.now;
      },
      subst (ShowsRows old new text h.0 _ rows) (sym none) back,
    )

-- a query that fails after some rows, which changed nothing, fails over what was there
module _ (text : List ℕ) (old amid new : State) (e : Error) (same : IsUnchanged old amid) where
  caused : (cause : StoreError) → old.faults ≤ amid.faults → HasCause amid new ⊥ cause → HasCause old new ⊥ cause
  caused store.OutOfMemory low h = h
  caused store.Io low h = omega (arith, h, low)
  caused store.Corrupt low h = omega (arith, h, low)
  caused store.Full low h = omega (arith, h, low)
  caused store.Broken low h = absurd (let clash = subst IsTrue h same.0.is_open in cc)
  caused store.Unstorable low h = h

  rolled_back : IsRolledBack amid new → IsRolledBack old new
  rolled_back back = record {
    was_open = λ _. same.0.was_open;
    undone = λ alive. (
      (back.undone alive).0 ∙ same.0.committed_is,
      (back.undone alive).1 ∙ same.0.committed_is,
    );
    autocommit = back.autocommit;
    unmarked = back.unmarked;
    counts = record {
      changes = back.counts.changes ∙ same.1.changes;
      last_rowid = back.counts.last_rowid ∙ same.1.last_rowid;
    };
  }

  pub fails_from : {Commits : Trees → Type 0} → Returnless (first text) → Survives old amid Commits
      → FailsToQuery text [] amid new e → FailsToQuery text [] old new e
  unfolding FailsToQuery IsNotRun
  fails_from is kept (inl (inl h)) = inl (inl (
    subst (λ (d : Database). IsNoStatement (record old { now = d }) text [] e) same.0.now_is h.0,
    unchanged_then old amid new same h.1,
  ))
  fails_from is kept (inl (inr h)) = inl (inr (h.0, h.1, caused h.0 kept.counts h.2, rolled_back h.3, h.4))
  fails_from is kept (inr h) =
      let none = understood_none amid.now.schema text h.0 is h.1.is in
      let seen = same.0.now_is in
      let params = timed [] h.0.formats h.1.now in
      let it = subst (FailsToShow amid new text h.0 params e) none h.2 in
      let back : FailsToShow old new text h.0 params e None = (
        it.0,
        subst (λ (d : Database). IsSourceOf (reads_listing d.schema text) d it.0) seen it.1,
        subst (λ limit. RefusesToRead limit h.0.command it.0 params e) kept.limit it.2,
        unchanged_then old amid new same it.3,
      ) in
      inr (
        h.0,
        record {
          is = subst (λ (d : Database). understood d.schema text ≡ Ok h.0) seen h.1.is;
          whole = h.1.whole;
          given = h.1.given;
          now = h.1.now;
        },
        subst (FailsToShow old new text h.0 params e) (sym none) back,
      )

-- the query failed, or nothing was changed
pub amid : (text : List ℕ) (old new : State) (r : Result (Vec Row Global) Error) → IfErr r (FailsAmid text old new)
    → IfErr r (λ e. FailsToQuery text [] old new e ⊎ IsUnchanged old new)
amid text old new (Ok rows) h = tt
amid text old new (Err e) (inl early) = inl early
amid text old new (Err e) (inr memory) = inr memory.1

-- the store failed, or the text has no answer
pub unanswered_amid : (text : List ℕ) (is : IsQueryText text (first text))
    (none : compiled listing_schema text ≡ Err NoSuchTable) (old new : State) (r : Result (Vec Row Global) Error)
    → IfErr r (FailsAmid text old new) → IfErr r (λ e. IsOfStore e ⊎ HasNoAnswer old.now text)
unanswered_amid text is none old new (Ok rows) h = tt
unanswered_amid text is none old new (Err e) (inl early) = unanswered text is none old new (Err e) early
unanswered_amid text is none old new (Err e) (inr memory) = inl (subst IsOfStore (sym memory.0) tt)
