-- What a query shows of a database, and why it shows nothing, whatever the schema is.
use Rattle.std.proofs.Common.{◌≡◌, ◌⊎◌, inl, inr, ℕ, true, false, List, [], length, Option, None, Ok, Err, Result, IfOk}
use Rattle.std.proofs.Common.{IfErr, Vec, Global, refl, sym, ap, subst, ◌∙◌, arith}
use Rattle.std.proofs.lemmas.Bool.{cases_Bool}
use Rattle.sqlite.specs.Order.{Row}
use Rattle.sqlite.specs.Schema.{Schema}
use Rattle.sqlite.specs.Effect.{Database, Reads, RefusesToRead}
use Rattle.sqlite.specs.Listing.{understood, reads_listing, listing_schema, IsSourceOf}
use Rattle.sqlite.specs.State.{State, Shown, FailsToQuery, IsNotRun}
use Rattle.sqlite.specs.declared.error.Error.{Error}
use Rattle.sqlite_ast.specs.declared.Select.{Select as Selection}
use Rattle.sqlite_ast.specs.declared.Statement.{Statement}
use Rattle.sqlite_ast.specs.declared.Statement.TheVariants as written
use Rattle.sqlite_schema.specs.declared.command.Command.{Command}
use Rattle.sqlite_schema.specs.declared.command.Command.TheVariants.{Select}
use Rattle.sqlite_schema.specs.declared.command.Returning.{Returning}
use Rattle.sqlite_schema.specs.declared.program.Program.{Program}
use Rattle.sqlite_syntax.specs.declared.statement.Parsed.{Parsed}
use Rattle.sqlite_resolve.specs.declared.compiled.Compiled.{Compiled}
use Rattle.sqlite_resolve.specs.declared.error.CompileError.TheVariants.{NoSuchTable}
use Rattle.sqlite_resolve.specs.Lowering.{Checked}
use Rattle.sqlite_resolve.specs.Program.{query, program}
use Rattle.sqlite_resolve.specs.Compile.{first, command, read, returning, timed, meaning, planned, with_command}
use Rattle.sqlite_resolve.specs.Compile.{compiled}
use Rattle.rtgs_sql_queries.specs.Answering.{Returnless}
use Rattle.rtgs_sql_queries.specs.Faults.{IsOfStore}
use Rattle.rtgs_sql_queries.specs.TableQueries.{is_selection, IsQueryText}
use Rattle.rtgs_sql_queries.proofs.ReadingAlone.{stepped, same_value}
use Rattle.rtgs_sql_queries.proofs.Refusals.{is_of_store}
use Rattle.rtgs_sql_queries.specs.Displaying.{Displays, HasNoAnswer}

-- so it is, however it is understood
record IsPlainQuery (text : List ℕ) (c : Compiled) : Type 0 where
  pub returning : c.returning ≡ None
  pub formats : c.formats ≡ []
  pub names : c.names ≡ []
  pub whole : c.tail ≡ length text
  pub selects : (q : Program) × (names : List (List ℕ)) × (c.command ≡ Select q names)

selection : (st : Statement) → is_selection st ≡ true → (s : Selection) × (st ≡ written.Select s)
selection (written.Select s) is = (s, refl)
selection _ is = absurd cc

read_selects : (schema : Schema) (s : Selection) (c : Command) → read schema s ≡ Ok c
    → (q : Program) × (names : List (List ℕ)) × (c ≡ Select q names)
unfolding read
read_selects schema s c h =
    let found = stepped (query schema s) _ c h in
    let made = stepped (program schema found.0.1 found.0.0.0) _ c found.2 in
    (made.0, found.0.0.1, sym (same_value made.2))

meant : (schema : Schema) (formats : List (List ℕ)) (base : ℕ) (st : Statement) (c : Command)
    → is_selection st ≡ true → command schema formats base st ≡ Ok c
    → (q : Program) × (names : List (List ℕ)) × (c ≡ Select q names)
unfolding command
meant schema formats base st c is h =
    let it = selection st is in
    read_selects schema it.0 c (subst (λ s. command schema formats base s ≡ Ok c) it.1 h)

returns_nothing : (schema : Schema) (base : ℕ) (st : Statement) → is_selection st ≡ true
    → returning schema base st ≡ Ok None
unfolding returning
returns_nothing schema base st is =
    let it = selection st is in
    subst (λ s. returning schema base s ≡ Ok None) (sym it.1) refl

-- a query gives back no rows of a write
pub returnless : (text : List ℕ) (p : Checked Parsed) → IsQueryText text p → Returnless p
returnless text (Ok p) is = λ schema base. returns_nothing schema base p.statement is.0
returnless text (Err e) is = tt

times_nothing : (schema : Schema) (formats : List (List ℕ)) (st : Statement) → is_selection st ≡ true
    → timed schema formats st ≡ formats
unfolding timed
times_nothing schema formats st is =
    let it = selection st is in
    subst (λ s. timed schema formats s ≡ formats) (sym it.1) refl

plain_query : (schema : Schema) (text : List ℕ) (c : Compiled) → IsQueryText text (first text)
    → compiled schema text ≡ Ok c → IsPlainQuery text c
unfolding compiled planned meaning
plain_query schema text c is h =
    let parsed = stepped (first text) _ c h in
    let p = parsed.0 in
    let facts = subst (IsQueryText text) parsed.1 is in
    let plan = stepped (planned schema p) _ c parsed.2 in
    let outer = stepped (meaning schema p _) _ plan.0 plan.1 in
    let inner = stepped (returning schema _ p.statement) _ outer.0 outer.1 in
    let last = stepped (command schema p.formats _ p.statement) _ outer.0 inner.2 in
    let none : ◌≡◌ {A = Checked (Option Returning)} (Ok None) (Ok inner.0) =
    sym (returns_nothing schema _ p.statement facts.0) ∙ inner.1 in
    let found : (last.0, inner.0) ≡ outer.0 = same_value last.2 in
    let whole : (timed schema p.formats p.statement, outer.0) ≡ plan.0 = same_value outer.2 in
    let is_it : with_command p plan.0 ≡ c = same_value plan.2 in
    let selects = meant schema p.formats _ p.statement last.0 facts.0 last.1 in
    record {
      returning = ap (λ (d : Compiled). d.returning) (sym is_it)
          ∙ ap (λ (q : List (List ℕ) × (Command × Option Returning)). q.1.1) (sym whole)
          ∙ ap (λ (q : Command × Option Returning). q.1) (sym found) ∙ sym (same_value none);
      formats = ap (λ (d : Compiled). d.formats) (sym is_it)
          ∙ ap (λ (q : List (List ℕ) × (Command × Option Returning)). q.0) (sym whole)
          ∙ times_nothing schema p.formats p.statement facts.0 ∙ facts.2;
      names = ap (λ (d : Compiled). d.names) (sym is_it) ∙ facts.1;
      whole = ap (λ (d : Compiled). d.tail) (sym is_it) ∙ facts.3;
      selects = (
        selects.0,
        selects.1,
        ap (λ (d : Compiled). d.command) (sym is_it)
            ∙ ap (λ (q : List (List ℕ) × (Command × Option Returning)). q.1.0) (sym whole)
            ∙ ap (λ (q : Command × Option Returning). q.0) (sym found) ∙ selects.2,
      );
    }

-- it names no table of the engine's own
own_schema : (schema : Schema) (text : List ℕ) (c : Compiled) → compiled listing_schema text ≡ Err NoSuchTable
    → understood schema text ≡ Ok c → (compiled schema text ≡ Ok c) × (reads_listing schema text ≡ false)
unfolding understood
own_schema schema text c none h = elim (cases_Bool (reads_listing schema text)) [
  | inl listing ↦ absurd (let clash = rw (listing, none) at h in cc)
  | inr own ↦ (rw own at h, own)
]

-- a refusal that has nothing to do with a limit on steps
unlimited : (limit : Option ℕ) (c : Command) (db : Database) (e : Error)
    → ((q : Program) × (names : List (List ℕ)) × (c ≡ Select q names)) → RefusesToRead limit c db [] e
    → IsOfStore e ⊎ RefusesToRead None c db [] e
unlimited limit c db e is h = elim (subst (λ k. RefusesToRead limit k db [] e) is.2 h) [
  | inl bad ↦ inr (subst (λ k. RefusesToRead None k db [] e) (sym is.2) (inl bad))
  | inr (inl bad) ↦ inr (subst (λ k. RefusesToRead None k db [] e) (sym is.2) (inr (inl bad)))
  | inr (inr bad) ↦ inl (subst IsOfStore (sym bad.0) tt)
]

module _ (text : List ℕ) (is : IsQueryText text (first text)) (none : compiled listing_schema text ≡ Err NoSuchTable)
    (old new : State) where
  shown_rows : (rows : List Row) → Shown text [] old new rows → Displays old.now text rows × (new.now ≡ old.now)
  unfolding Shown
  shown_rows rows h =
      let own = own_schema old.now.schema text h.0 none h.1.is in
      let plain = plain_query old.now.schema text h.0 is own.0 in
      let it = rw (plain.returning, plain.formats) at h.2 in
      let db : it.0 ≡ old.now = subst (λ b. IsSourceOf b old.now it.0) own.1 it.1 in
      ((h.0, h.1.is, subst (λ d. Reads h.0.command d [] rows) db it.2), it.3.0.now_is)

  no_answer : (e : Error) → FailsToQuery text [] old new e → IsOfStore e ⊎ HasNoAnswer old.now text
  unfolding FailsToQuery IsNotRun
  no_answer e (inl (inl (inl bad, same))) = inr (inl (bad.0, bad.1))
  no_answer e (inl (inl (inr read, same))) =
      let own = own_schema old.now.schema text read.0 none read.1 in
      let plain = plain_query old.now.schema text read.0 is own.0 in
      absurd (elim read.2 [
        | inl part ↦ part.0 (let whole = plain.whole in omega (arith, whole))
        | inr (inl wrong) ↦ wrong.0 (sym (ap length plain.names))
        | inr (inr timed) ↦ timed.0 plain.formats
      ])
  no_answer e (inl (inr failed)) = inl (subst IsOfStore (sym failed.1) (is_of_store failed.0))
  no_answer e (inr h) =
      let own = own_schema old.now.schema text h.0 none h.1.is in
      let plain = plain_query old.now.schema text h.0 is own.0 in
      let it = rw (plain.returning, plain.formats) at h.2 in
      let db : it.0 ≡ old.now = subst (λ b. IsSourceOf b old.now it.0) own.1 it.1 in
      elim (unlimited old.step_limit h.0.command old.now e plain.selects
      (subst (λ d. RefusesToRead old.step_limit h.0.command d [] e) db it.2)) [
        | inl store ↦ inl store
        | inr why ↦ inr (inr (h.0, h.1.is, e, why))
      ]

  -- an answer is one of the database, which stays as it is
  pub displayed : (r : Result (Vec Row Global) Error) → IfOk r (λ rows. Shown text [] old new rows.items)
      → IfOk r (λ rows. Displays old.now text rows.items × (new.now ≡ old.now))
  displayed (Ok rows) h = shown_rows rows.items h
  displayed (Err e) h = tt

  -- the store failed, or the text has none
  pub unanswered : (r : Result (Vec Row Global) Error) → IfErr r (FailsToQuery text [] old new)
      → IfErr r (λ e. IsOfStore e ⊎ HasNoAnswer old.now text)
  unanswered (Ok rows) h = tt
  unanswered (Err e) h = no_answer e h
