-- A text that is a query commits nothing and changes nothing, whatever the schema is.
use Rattle.std.proofs.Common.{◌≡◌, ◌⊎◌, ℕ, List, Option, None, IsSome, Ok, Err, Result, IsTrue, IfOk, IfErr, OnOk}
use Rattle.std.proofs.Common.{Vec, Global, refl, sym, subst, ap, ◌∙◌, inl, inr}
use Rattle.std.proofs.lemmas.Bool.{cases_Bool}
use Rattle.sqlite.specs.Order.{Row}
use Rattle.sqlite.specs.Schema.{Schema}
use Rattle.sqlite.specs.Tree.{Trees}
use Rattle.sqlite.specs.State.{State, CommitsShowing, Shown, ShowsRows, FailsToQuery, FailsToShow, IsNotRun}
use Rattle.sqlite.specs.State.{IsUnchanged, IsRolledBack}
use Rattle.sqlite.specs.declared.error.Error.{Error}
use Rattle.sqlite.specs.Listing.{understood, reads_listing, if_select, is_select, listing_schema}
use Rattle.sqlite_schema.specs.declared.command.Command.{Command}
use Rattle.sqlite_schema.specs.declared.command.Returning.{Returning}
use Rattle.sqlite_syntax.specs.declared.statement.Parsed.{Parsed}
use Rattle.sqlite_resolve.specs.declared.compiled.Compiled.{Compiled}
use Rattle.sqlite_resolve.specs.Lowering.{Checked, and_then}
use Rattle.sqlite_resolve.specs.Compile.{first, command, returning, timed, meaning, planned, with_command, compiled}
use Rattle.rtgs_sql_queries.specs.Answering.{Returnless, KeepsTables}
use Rattle.rtgs_sql_queries.specs.Faults.{IsOfStore}
use Rattle.rtgs_sql_queries.proofs.Refusals.{is_of_store}
use Rattle.rtgs_sql_queries.proofs.Resting.{keeps_open}

-- what comes of a step that went well
pub stepped : {A B : Type 0} (r : Checked A) (next : A → Checked B) (b : B) → and_then r next ≡ Ok b
    → (a : A) × (r ≡ Ok a) × (next a ≡ Ok b)
stepped (Ok a) next b h = (a, refl, h)
stepped {B = B} (Err e) next b h = absurd (let clash : ◌≡◌ {A = Checked B} (Err e) (Ok b) = h in cc)

pub same_value : {A : Type 0} {a b : A} → ◌≡◌ {A = Checked A} (Ok a) (Ok b) → a ≡ b
same_value e = cc

pub planned_none : (schema : Schema) (p : Parsed) (plan : List (List ℕ) × (Command × Option Returning))
    → ((base : ℕ) → returning schema base p.statement ≡ Ok None) → planned schema p ≡ Ok plan → plan.1.1 ≡ None
unfolding planned meaning
planned_none schema p plan none h =
    let outer = stepped (meaning schema p _) _ plan h in
    let inner = stepped (returning schema _ p.statement) _ outer.0 outer.1 in
    let last = stepped (command schema p.formats _ p.statement) _ outer.0 inner.2 in
    let shown : ◌≡◌ {A = Checked (Option Returning)} (Ok None) (Ok inner.0) = sym (none _) ∙ inner.1 in
    let found : ◌≡◌ {A = Checked (Command × Option Returning)} (Ok (last.0, inner.0)) (Ok outer.0) = last.2 in
    let whole : ◌≡◌ {A = Checked (List (List ℕ) × (Command × Option Returning))}
    (Ok (timed schema p.formats p.statement, outer.0)) (Ok plan) = outer.2 in
    ap (λ (q : List (List ℕ) × (Command × Option Returning)). q.1.1) (sym (same_value whole))
    ∙ ap (λ (q : Command × Option Returning). q.1) (sym (same_value found)) ∙ sym (same_value shown)

compiled_none : (schema : Schema) (text : List ℕ) (c : Compiled) → Returnless (first text) → compiled schema text ≡ Ok c
    → c.returning ≡ None
unfolding compiled
compiled_none schema text c is h =
    let read = stepped (first text) _ c h in
    let plan = stepped (planned schema read.0) _ c read.2 in
    let none = planned_none schema read.0 plan.0 (subst Returnless read.1 is schema) plan.1 in
    let same : ◌≡◌ {A = Checked Compiled} (Ok (with_command read.0 plan.0)) (Ok c) = plan.2 in
    ap (λ (d : Compiled). d.returning) (sym (same_value same)) ∙ none

selected : (r : Checked Compiled) (c : Compiled) → if_select r ≡ Ok c → r ≡ Ok c
selected (Err e) c h = absurd (let clash = h in cc)
selected (Ok d) c h = elim (cases_Bool (is_select d.command))
    [ inl found ↦ (rw found at h) | inr other ↦ absurd (let clash = rw other at h in cc) ]

pub understood_none : (schema : Schema) (text : List ℕ) (c : Compiled) → Returnless (first text)
    → understood schema text ≡ Ok c → c.returning ≡ None
unfolding understood
understood_none schema text c is h = elim (cases_Bool (reads_listing schema text)) [
  | inl listing ↦ compiled_none listing_schema text c is (selected _ c (rw listing at h))
  | inr own ↦ compiled_none schema text c is (rw own at h)
]

pub commits_nothing : (text : List ℕ) (params : Row) (s : State) (db : Trees) → Returnless (first text)
    → ¬ CommitsShowing text params s db
unfolding CommitsShowing
commits_nothing text params s db is h =
    let none = understood_none s.now.schema text h.0 is h.1.is in
    absurd (let clash = subst IsSome none h.2 in cc)

-- ---- what it leaves

module _ (text : List ℕ) (params : Row) (reads : Returnless (first text)) (old new : State) where
  unchanged : (rows : List Row) → Shown text params old new rows → IsUnchanged old new
  unfolding Shown
  unchanged rows h =
      let none = understood_none old.now.schema text h.0 reads h.1.is in
      let it = subst (ShowsRows old new text h.0 _ rows) none h.2 in
      it.3

  failed : (e : Error) → FailsToQuery text params old new e → IsUnchanged old new ⊎ IsRolledBack old new
  unfolding FailsToQuery IsNotRun
  failed e (inl (inl h)) = inl h.1
  failed e (inl (inr h)) = inr h.3
  failed e (inr h) =
      let none = understood_none old.now.schema text h.0 reads h.1.is in
      let it = subst (FailsToShow old new text h.0 _ e) none h.2 in
      inl it.3

  -- the tables stay
  pub kept_after : (r : Result (Vec Row Global) Error) → IfOk r (λ rows. Shown text params old new rows.items)
      → OnOk r (KeepsTables old new)
  kept_after (Ok rows) shown =
      let same = unchanged rows.items shown in
      keeps_open old new (inl same) same.0.is_open
  kept_after (Err e) shown = tt

  -- also after a failure, where the connection is open still
  pub intact_after : (r : Result (Vec Row Global) Error) → IfOk r (λ rows. Shown text params old new rows.items)
      → IfErr r (λ e. FailsToQuery text params old new e ⊎ IsUnchanged old new) → IsTrue new.is_open
      → KeepsTables old new
  intact_after (Ok rows) shown stopped = keeps_open old new (inl (unchanged rows.items shown))
  intact_after (Err e) shown (inl early) = keeps_open old new (failed e early)
  intact_after (Err e) shown (inr same) = keeps_open old new (inl same)

  -- and after one that is not of the store
  untouched : (e : Error) → ¬ IsOfStore e → FailsToQuery text params old new e → IsUnchanged old new
  unfolding FailsToQuery IsNotRun
  untouched e other (inl (inl h)) = h.1
  untouched e other (inl (inr h)) = absurd (other (subst IsOfStore (sym h.1) (is_of_store h.0)))
  untouched e other (inr h) =
      let none = understood_none old.now.schema text h.0 reads h.1.is in
      let it = subst (FailsToShow old new text h.0 _ e) none h.2 in
      it.3

  pub foreign_after : (r : Result (Vec Row Global) Error)
      → IfErr r (λ e. FailsToQuery text params old new e ⊎ IsUnchanged old new)
      → IfErr r (λ e. ¬ IsOfStore e → KeepsTables old new)
  foreign_after (Ok rows) stopped = tt
  foreign_after (Err e) (inl early) = λ other.
      let same = untouched e other early in
      keeps_open old new (inl same) same.0.is_open
  foreign_after (Err e) (inr same) = λ other. keeps_open old new (inl same) same.0.is_open
