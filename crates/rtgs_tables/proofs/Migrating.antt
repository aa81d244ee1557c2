-- What a migration finds, and what it leaves.
use Rattle.std.proofs.Common.{◌≡◌, ◌≢◌, ◌⊎◌, inl, inr, ℕ, zero, suc, ◌+◌, ◌<◌, ◌≤◌, true, false, List, [], ◌∷◌}
use Rattle.std.proofs.Common.{get_or}
use Rattle.std.proofs.Common.{Ok, Err, Result, IfOk, IfErr, IsTrue, true≢false, refl, sym, ap, subst, ◌∙◌, arith}
use Rattle.std.specs.Result.{IsErrAnd}
use Rattle.rtgs_lists.proofs.Lists.{all_get}
use Rattle.sqlite.specs.Order.{Row}
use Rattle.sqlite.specs.Table.{Table}
use Rattle.sqlite.specs.Effect.{Database}
use Rattle.sqlite.specs.Listing.{understood, listing_schema}
use Rattle.sqlite_schema.specs.Names.{same_name}
use Rattle.sqlite.specs.State.{State, HasCleanDisk, Survives}
use Rattle.sqlite.specs.Held.{Held, state}
use Rattle.sqlite.proofs.StateLemmas.{survives_then, survives_weaker}
use Rattle.sqlite.specs.Tree.{Trees}
use Rattle.sqlite_tied.specs.Compute.{everything}
use Rattle.sqlite_trees.specs.declared.store.Store.{Ghosts}
use Rattle.sqlite_resolve.specs.declared.compiled.Compiled.{Compiled}
use Rattle.sqlite_resolve.specs.declared.error.CompileError.{CompileError}
use Rattle.sqlite_resolve.specs.declared.error.CompileError.TheVariants.{NoSuchTable}
use Rattle.rtgs_book.specs.declared.account.Account.{Account}
use Rattle.rtgs_book.specs.declared.book.Book.{Book}
use Rattle.rtgs_book.specs.declared.fault.Fault.{Fault}
use Rattle.rtgs_book.specs.declared.fault.Fault.TheVariants.{OutOfMemory, StoreFault, NotADeskFile, Inconsistent}
use Rattle.rtgs_book.specs.declared.rule.Rule.{Rule}
use Rattle.rtgs_book.specs.Soundness.{IsSound}
use Rattle.rtgs_rows.specs.Content.{Content, RestsIn, Rests, Holds, HoldsIn}
use Rattle.rtgs_rows.specs.Keeping.{HoldsBook}
use Rattle.rtgs_rows.specs.Migrating.{HasNoMore, TellIn, IsOlder, LeavesEither, Migrates}
use Rattle.rtgs_rows.specs.Querying.{as_shown, IsFileIn, AreWholeIn}
use Rattle.rtgs_rows.specs.RowLaws.{RecordsStandInOrder}
use Rattle.rtgs_rows.specs.Rows.{desk_row_of, shown_desk}
use Rattle.rtgs_rows.specs.TableRecords.{desk_records}
use Rattle.rtgs_rows.specs.Tables.{IsVersion, versions, schema_in, known_tables, desk_table}
use Rattle.rtgs_rows.specs.declared.desk_row.DeskRow.{DeskRow}
use Rattle.rtgs_rows.specs.declared.numbers.TheConstants.{VERSION}
use Rattle.rtgs_sql_columns.specs.Numbers.{AreReadAs}
use Rattle.rtgs_sql_columns.specs.Tables.{query_text}
use Rattle.rtgs_sql_queries.specs.Answering.{KeepsTables}
use Rattle.rtgs_sql_queries.specs.Displaying.{Displays}
use Rattle.rtgs_sql_queries.specs.Records.{HasRecords}
use Rattle.rtgs_sql_loading.specs.Accounts.{IsDeskOf, IsOneDesk, ExplainsTrees}
use Rattle.rtgs_sql_loading.specs.Displaying.{SaysVersion, SaysNoVersion, AreDisplayed, IsDisplayed, ExplainsDatabase}
use Rattle.rtgs_sql_loading.specs.Loading.{LoadsFrom, ReadsDesk, Stops}
use Rattle.rtgs_sql_writes.specs.Building.{takes_a_name}
use Rattle.rtgs_tables.specs.Migrating.{IsJudged, IsWritten, ExplainsVersions, ExplainsMigration}
use Rattle.rtgs_tables.proofs.Accounts.{accounts_of, has_own, own_balances}
use Rattle.rtgs_tables.proofs.Judging.{of_sound}

-- ---- versions

known_range : (version : ℕ) → IsVersion version → (1 ≤ version) × (version ≤ VERSION)
known_range version known = all_get (λ v. (1 ≤ v) × (v ≤ VERSION)) versions known.0 version known.1 (sym known.2)
    ((omega arith, omega arith), ((omega arith, omega arith), ((omega arith, omega arith), tt)))

unknown : (version : ℕ) → VERSION < version → ¬ IsVersion version
unknown version high known = let range = known_range version known in omega (arith, high, range.1)

known_or_not : (version : ℕ) → IsVersion version ⊎ ¬ IsVersion version
known_or_not zero = inr (λ known. let range = known_range zero known in omega (arith, range.0))
known_or_not (suc zero) = inl (0, omega arith, refl)
known_or_not (suc (suc zero)) = inl (1, omega arith, refl)
known_or_not (suc (suc (suc zero))) = inl (2, omega arith, refl)
known_or_not (suc (suc (suc (suc more)))) = inr (unknown (suc (suc (suc (suc more)))) (omega arith))

-- what a loading does not refuse for the version is of a version that is known
known_by : {answer : Result Book Fault} (version : ℕ) → (¬ IsVersion version → answer ≡ Err NotADeskFile)
    → answer ≢ Err NotADeskFile → IsVersion version
known_by version refuses other = elim (known_or_not version) [
  | inl known ↦ known
  | inr not ↦ absurd (other (refuses not))
]

-- in tables of a version nothing has the name of one that it lacks
none_taken : (version : ℕ) → IsVersion version → takes_a_name version (schema_in version) ≡ false
unfolding schema_in same_name
none_taken version known = all_get (λ v. takes_a_name v (schema_in v) ≡ false) versions known.0 version known.1
    (sym known.2) (refl, (refl, (refl, tt)))

-- the table that came with a version, and the last of those of the first
abbrev last_table : ℕ → Table
last_table version = get_or known_tables (version + 3) desk_table

-- tables of one version are not taken for those of another
abbrev IsTheSame : ℕ → ℕ → Type 0
IsTheSame other version = (db : Database) → db.schema ≡ schema_in other
    → (version ≤ VERSION → takes_a_name version db.schema ≡ false)
    → (rows : List Row) × Displays db (query_text (last_table version)) rows → other ≡ version

-- nor those of an earlier one, which lack that table
abbrev IsUnknownIn : ℕ → ℕ → Type 0
IsUnknownIn other version = understood (schema_in other) (query_text (last_table version)) ≡ Err NoSuchTable

lacks : IsUnknownIn 1 2 × IsUnknownIn 1 3 × IsUnknownIn 2 3
unfolding understood listing_schema everything schema_in
lacks = (refl, refl, refl)

earlier : (other version : ℕ) → IsUnknownIn other version → IsTheSame other version
earlier other version none db schema free shown =
    let clash : ◌≡◌ {A = Result Compiled CompileError} (Err NoSuchTable) (Ok shown.1.0) = sym none
    ∙ sym (ap (λ s. understood s (query_text (last_table version))) schema) ∙ shown.1.1 in
    absurd cc

-- nor those of a later one, which have a name that it lacks
abbrev IsTakenIn : ℕ → ℕ → Type 0
IsTakenIn other version = takes_a_name version (schema_in other) ≡ true

taken : IsTakenIn 2 1 × IsTakenIn 3 1 × IsTakenIn 3 2
unfolding schema_in same_name
taken = (refl, refl, refl)

later : (other version : ℕ) → version ≤ VERSION → IsTakenIn other version → IsTheSame other version
later other version low some db schema free shown = absurd (true≢false (sym some
    ∙ sym (ap (takes_a_name version) schema) ∙ free low))

itself : (version : ℕ) → IsTheSame version version
itself version db schema free shown = refl

same_version : (other version : ℕ) → IsVersion other → IsVersion version → IsTheSame other version
same_version other version its known =
    let of_this = λ (v : ℕ). all_get (IsTheSame v) versions known.0 version known.1 (sym known.2) in
    all_get (λ v. IsTheSame v version) versions its.0 other its.1 (sym its.2) (
      of_this 1 (itself 1, (earlier 1 2 lacks.0, (earlier 1 3 lacks.1, tt))),
      (
        of_this 2 (later 2 1 (omega arith) taken.0, (itself 2, (earlier 2 3 lacks.2, tt))),
        (of_this 3 (later 3 1 (omega arith) taken.1, (later 3 2 (omega arith) taken.2, (itself 3, tt))), tt),
      ),
    )

-- the query of that table shows rows, where the tables are read as those of the version
last_read : (version : ℕ) → IsVersion version → (db : Database) (accounts : List Account) (book : Book)
    → AreDisplayed version db accounts book → (rows : List Row) × Displays db (query_text (last_table version)) rows
last_read version known db accounts book = all_get (λ v. AreDisplayed v db accounts book
    → (rows : List Row) × Displays db (query_text (last_table v)) rows) versions known.0 version known.1
    (sym known.2) (
      λ it. let shown = it.tells.1.1.1.1.0 in (shown.0, shown.1),
      (
        λ it. let shown = it.tells.1.1.1.1.1.0 in (shown.0, shown.1),
        (λ it. let shown = it.tells.1.1.1.1.1.1.0 in (shown.0, shown.1), tt),
      ),
    )

last_shown : (version : ℕ) → IsVersion version → (db : Database) (book : Book) → IsDisplayed version db book
    → (rows : List Row) × Displays db (query_text (last_table version)) rows
last_shown version known db book = all_get (λ v. IsDisplayed v db book
    → (rows : List Row) × Displays db (query_text (last_table v)) rows) versions known.0 version known.1
    (sym known.2) (
      λ it. (_, it.2.tells.1.1.1.1.0),
      (λ it. (_, it.2.tells.1.1.1.1.1.0), (λ it. (_, it.2.tells.1.1.1.1.1.1.0), tt)),
    )

-- ---- what the desk's row says

schema_of : (version : ℕ) (trees : Trees) (s : State) → IsFileIn version trees s → s.now.schema ≡ schema_in version
schema_of version trees s file = ap (λ (d : Database). d.schema) file.clean ∙ file.schema

file_of : (version : ℕ) (content : Content) (s : State) → RestsIn version content s
    → IsFileIn version s.committed.trees s
file_of version content s rests = record {
  known = rests.known;
  is_open = rests.is_open;
  schema = rests.schema;
  trees_are = refl;
  clean = rests.clean;
}

-- one row says one version
said_once : (desk : DeskRow) (other : ℕ) (rows : List Row) → AreReadAs desk_records rows (desk ∷ [])
    → IsDeskOf other rows → desk.version ≡ other
said_once desk other rows read one =
    let same : ◌≡◌ {A = List Row} (shown_desk desk ∷ []) (shown_desk one.0.0 ∷ []) = sym read ∙ one.0.2 in
    let alike : desk.version ≡ one.0.0.version = cc in
    alike ∙ one.1

module _ (s : State) (version : ℕ) (desk : DeskRow) (is : desk.version ≡ version) (reads : ReadsDesk s desk) where
  pub said : SaysVersion version s.now
  said = let shown = reads.shown in (shown.0, shown.1, ((desk, reads.fit, shown.2), is))

  of_records : (other : ℕ) (accounts : List Account) (book : Book) → HasRecords other accounts book s
      → version ≡ other
  of_records other accounts book held =
      let rows = reads.given other held.1.known accounts book held in
      let same : desk ≡ desk_row_of other book.day = cc in
      sym is ∙ ap (λ (d : DeskRow). d.version) same

  of_rows : (other : ℕ) (trees : Trees) → IsFileIn other trees s → IsDeskOf other (as_shown desk_table trees)
      → version ≡ other
  of_rows other trees file one = sym is
      ∙ said_once desk other (as_shown desk_table trees) (reads.rows other file.known trees file) one

  not_taken : (other : ℕ) → version ≡ other → IsVersion other → s.now.schema ≡ schema_in other
      → takes_a_name version s.now.schema ≢ true
  not_taken other same known schema taken = true≢false (sym taken ∙ ap (takes_a_name version) schema
      ∙ ap (λ v. takes_a_name v (schema_in other)) same ∙ none_taken other known)

  -- where a name is taken
  pub taken_explained : takes_a_name version s.now.schema ≡ true → ExplainsMigration s NotADeskFile
  taken_explained taken = record {
    records = λ other accounts book held.
        let file = file_of other held.0 s held.1 in
        not_taken other (of_records other accounts book held) file.known (schema_of other s.committed.trees s file)
        taken;
    rows = λ other trees file formed. not_taken other (of_rows other trees file formed.desk) file.known
        (schema_of other trees s file) taken;
    shown = inr (version, said, inr taken);
  }

  -- where no name is, and the tables were loaded, or were not
  module _ (free : version ≤ VERSION → takes_a_name version s.now.schema ≡ false) where
    pub judged : (book : Book) → IsSound book → LoadsFrom version s (Ok book) → IsJudged s version book
    judged book sound loads = record {
      known = known_by version loads.unknown (λ e. cc);
      sound = sound;
      loads = loads;
      alone = λ other trees file. same_version other version file.known
          (known_by version loads.unknown (λ e. cc)) s.now (schema_of other trees s file) free
          (last_shown version (known_by version loads.unknown (λ e. cc)) s.now book loads.displayed);
    }

    its_rows : (fault : Fault) → LoadsFrom version s (Err fault) → (other : ℕ) (trees : Trees)
        → IsFileIn other trees s → ExplainsTrees other trees fault
    its_rows OutOfMemory loads other trees file = tt
    its_rows StoreFault loads other trees file = tt
    its_rows NotADeskFile loads other trees file = λ formed.
        let same = of_rows other trees file formed.desk in
        subst (λ v. ExplainsTrees v trees NotADeskFile) same
        (loads.caused trees (subst (λ v. IsFileIn v trees s) (sym same) file)) formed
    its_rows (Inconsistent rule) loads other trees file =
        let reasons = loads.by_queries in
        let same = same_version other version file.known (known_by version loads.unknown (λ e. cc)) s.now
        (schema_of other trees s file) free
        (last_read version (known_by version loads.unknown (λ e. cc)) s.now reasons.0 reasons.1 reasons.2) in
        subst (λ v. ExplainsTrees v trees (Inconsistent rule)) (sym same)
        (loads.caused trees (subst (λ v. IsFileIn v trees s) same file))

    its_versions : (fault : Fault) → LoadsFrom version s (Err fault) → ExplainsVersions s.now fault
    its_versions OutOfMemory loads = tt
    its_versions StoreFault loads = tt
    its_versions NotADeskFile loads = inr (version, said, inl loads.by_queries)
    its_versions (Inconsistent rule) loads =
        (version, known_by version loads.unknown (λ e. cc), said, loads.by_queries)

    pub loaded_explained : (fault : Fault) → LoadsFrom version s (Err fault) → ExplainsMigration s fault
    loaded_explained fault loads = record {
      records = λ other accounts book held. loads.explained accounts book
          (subst (λ v. HasRecords v accounts book s) (sym (of_records other accounts book held)) held);
      rows = its_rows fault loads;
      shown = its_versions fault loads;
    }

-- where no version is said
pub unsaid_explained : (s mid : State) (fault : Fault) (met : Result ℕ Fault) → met ≡ Err fault → HasCleanDisk mid
    → ((version : ℕ) → Stops version s mid met (λ trees. ¬ IsOneDesk (as_shown desk_table trees)) SaysNoVersion)
    → ((rule : Rule) → met ≢ Err (Inconsistent rule)) → ExplainsMigration s fault
unsaid_explained s mid OutOfMemory met was clean stops rules = record {
  records = λ version accounts book held. tt;
  rows = λ version trees file. tt;
  shown = tt;
}
unsaid_explained s mid StoreFault met was clean stops rules = record {
  records = λ version accounts book held. tt;
  rows = λ version trees file. tt;
  shown = tt;
}
unsaid_explained s mid NotADeskFile met was clean stops rules = record {
  records = λ version accounts book held. (stops version).right clean accounts book held was;
  rows = λ version trees file formed. (stops version).wrong clean trees file was formed.desk.0;
  shown = inl ((stops 1).unread clean (0, omega arith, refl) was);
}
unsaid_explained s mid (Inconsistent rule) met was clean stops rules = absurd (rules rule was)

pub keeps_then : (old mid new : State) → KeepsTables old mid → KeepsTables mid new → KeepsTables old new
keeps_then old mid new one two = record {
  file = λ version trees file. two.file version trees (one.file version trees file);
  rests = λ version content rests. two.rests version content (one.rests version content rests);
}

-- what is loaded after a reading was there before it
pub loads_before : (version : ℕ) (old mid : State) (answer : Result Book Fault) → KeepsTables old mid
    → mid.now ≡ old.now → LoadsFrom version mid answer → LoadsFrom version old answer
loads_before version old mid answer keeps same loads = record {
  read = λ accounts book held. loads.read accounts book (held.0, keeps.rests version held.0 held.1, held.2, held.3);
  explained = λ accounts book held.
      loads.explained accounts book (held.0, keeps.rests version held.0 held.1, held.2, held.3);
  held = λ trees file whole. loads.held trees (keeps.file version trees file) whole;
  shown = λ trees file. loads.shown trees (keeps.file version trees file);
  caused = λ trees file. loads.caused trees (keeps.file version trees file);
  displayed = subst (λ (d : Database). IfOk answer (IsDisplayed version d)) same loads.displayed;
  by_queries = subst (λ (d : Database). IfErr answer (ExplainsDatabase version d)) same loads.by_queries;
  unknown = loads.unknown;
}

-- what was judged in no earlier version was of the newest
pub newest_judged : (s : State) (version : ℕ) (book : Book) → IsJudged s version book → VERSION ≤ version
    → version ≡ VERSION
newest_judged s version book judged late =
    let range = known_range version judged.known in
    omega (arith, late, range.1)

-- ---- what a migration leaves

-- what was done on a clean disk began on one
pub was_clean : {P : Trees → Type 0} (old new : State) → Survives old new P → HasCleanDisk new → HasCleanDisk old
was_clean old new survives clean = let low = survives.clean in omega (arith, low)

-- what was written after a book was judged
pub written : (old mid new : State) (version : ℕ)
    → (HasCleanDisk mid → (book : Book) × IsJudged old version book) → (HasCleanDisk mid → KeepsTables old mid)
    → version < VERSION → Survives old mid (λ _. ⊥)
    → Survives mid new (λ trees. (content : Content) → RestsIn version content mid → HasNoMore version content
    → Holds content trees) → Survives old new (IsWritten old)
written old mid new version judged keeps older one two =
    survives_then old mid new _ _ (IsWritten old) (λ clean trees none. absurd none) (λ clean trees made.
    let was = was_clean mid new two clean in
    let it = judged was in
    record {
      version = version;
      book = it.0;
      judged = it.1;
      older = older;
      holds = λ content rests none. made content ((keeps was).rests version content rests) none;
    }) one two

-- and where nothing was
pub unwritten : (old new : State) → Survives old new (λ _. ⊥) → Survives old new (IsWritten old)
unwritten old new = survives_weaker old new _ _ (λ _ trees none. absurd none)

-- a fault that is not the store's is lack of memory
pub memory_of : (fault : Fault) → (fault ≡ OutOfMemory) ⊎ (fault ≡ StoreFault) → fault ≢ StoreFault
    → fault ≡ OutOfMemory
memory_of fault (inl memory) other = memory
memory_of fault (inr store) other = absurd (other store)

-- an answer that tells a fault
pub of_fault : {A : Type 0} (P : Result A Fault → Type 0) (answer : Result A Fault) (fault : Fault)
    → IsErrAnd answer (λ passed. passed ≡ fault) → P (Err fault) → P answer
of_fault P (Ok it) fault passed is = absurd passed
of_fault {A = A} P (Err it) fault passed is = subst (λ f. P (Err f)) (sym passed) is

rests_at : (version : ℕ) (s : State) (trees : Trees) (content : Content) → IsFileIn version trees s
    → HoldsIn version content trees → RestsIn version content s
rests_at version s trees content file holds = record {
  known = file.known;
  is_open = file.is_open;
  schema = file.schema;
  holds = subst (HoldsIn version content) (sym file.trees_are) holds;
  clean = file.clean;
}

-- tables of the newest version lack none
newest_lacks_none : (content : Content) → HasNoMore VERSION content
newest_lacks_none content = refl

module _ {S : Type 0} (g : Ghosts S) (in_order : RecordsStandInOrder) (old new : Held S)
    (settled : (trees : Trees) → IsTrue (state g old).is_open → (state g old).may_leave trees
    → trees ≡ (state g old).committed.trees)
    (survives : Survives (state g old) (state g new) (IsWritten (state g old))) (clean : HasCleanDisk (state g new))
  where
    stops : (version : ℕ) (book : Book) → IsOlder g version book old → LeavesEither g version book new
    stops version book older trees left = elim (survives.crash clean trees left) [
      | inl was ↦ inl (record {
        content = older.content;
        holds = subst (HoldsIn version older.content) (sym (settled trees older.rests.is_open was)) older.rests.holds;
        no_more = older.no_more;
        same = older.same;
      })
      | inr w ↦
          let is = w.judged.alone version (state g old).committed.trees
          (file_of version older.content (state g old) older.rests) in
          inr (record {
            content = older.content;
            holds = w.holds older.content (subst (λ v. RestsIn v older.content (state g old)) is older.rests)
                (subst (λ v. HasNoMore v older.content) is older.no_more);
            no_more = newest_lacks_none older.content;
            same = older.same;
          })
    ]

    stays : (book : Book) → HoldsBook g old book → (trees : Trees) → (state g new).may_leave trees
        → TellIn VERSION book trees
    stays book holds trees left = elim (survives.crash clean trees left) [
      | inl was ↦ record {
        content = holds.0;
        holds = subst (Holds holds.0) (sym (settled trees holds.1.is_open was)) holds.1.holds;
        no_more = newest_lacks_none holds.0;
        same = holds.2;
      }
      | inr w ↦
          let is = w.judged.alone VERSION (state g old).committed.trees
          (file_of VERSION holds.0 (state g old) holds.1) in
          let older = w.older in
          absurd (omega (arith, is, older))
    ]

    -- it stopped before anything was judged, or for lack of memory or by the store
    refused : (fault : Fault) → ((version : ℕ) (book : Book) → IsOlder g version book old ⊎ HoldsBook g old book
        → (fault ≡ OutOfMemory) ⊎ (fault ≡ StoreFault)) → Migrates g old new (Err fault)
    refused fault why = record {
      migrated = λ version book older. tt;
      repeated = λ book holds. tt;
      accepted = why;
      answered = λ version trees file whole. tt;
      stops = stops;
      stays = stays;
    }

    pub explained_migrates : (fault : Fault) → ExplainsMigration (state g old) fault → Migrates g old new (Err fault)
    explained_migrates fault why = refused fault (λ version book it. elim it [
      | inl older ↦ of_sound (accounts_of book) book older.same.sound (own_balances book) fault
          (why.records version (accounts_of book) book
          (has_own in_order version (state g old) older.content book older.rests older.no_more older.same))
      | inr holds ↦ of_sound (accounts_of book) book holds.2.sound (own_balances book) fault
          (why.records VERSION (accounts_of book) book
          (has_own in_order VERSION (state g old) holds.0 book holds.1 (newest_lacks_none holds.0) holds.2))
    ])

    pub failed_migrates : (fault : Fault) → (fault ≡ OutOfMemory) ⊎ (fault ≡ StoreFault)
        → Migrates g old new (Err fault)
    failed_migrates fault why = refused fault (λ version book it. why)

    -- a book was judged
    module _ (version : ℕ) (book : Book) (judged : IsJudged (state g old) version book) where
      its_version : (other : ℕ) (content : Content) → RestsIn other content (state g old) → other ≡ version
      its_version other content rests = judged.alone other (state g old).committed.trees
          (file_of other content (state g old) rests)

      pub wrote_migrates : version < VERSION → ((content : Content) → RestsIn version content (state g old)
          → HasNoMore version content → Rests content (state g new)) → Migrates g old new (Ok true)
      wrote_migrates earlier done =
          let at = λ (other : ℕ) (content : Content) (rests : RestsIn other content (state g old))
          (none : HasNoMore other content).
          let is = its_version other content rests in
          done content (subst (λ v. RestsIn v content (state g old)) is rests)
          (subst (λ v. HasNoMore v content) is none) in
          record {
            migrated = λ other book older.
                (refl, (older.content, at other older.content older.rests older.no_more, older.same));
            repeated = λ book holds. let is = its_version VERSION holds.0 holds.1 in absurd (omega (
              arith,
              is,
              earlier,
            ));
            accepted = λ other book it. tt;
            answered = λ other trees file whole.
                let is = judged.alone other trees file in
                let tells = subst (λ v. TellIn v book trees) (sym is) (judged.loads.held trees
                (subst (λ v. IsFileIn v trees (state g old)) is file) (subst (λ v. AreWholeIn v trees) is whole)) in
                let rests = rests_at other (state g old) trees tells.content file tells.holds in
                (book, tells, (tells.content, at other tells.content rests tells.no_more, tells.same));
            stops = stops;
            stays = stays;
          }

      pub stayed_migrates : VERSION ≤ version → KeepsTables (state g old) (state g new) → Migrates g old new (Ok false)
      stayed_migrates late keeps =
          let at = λ (content : Content) (rests : RestsIn VERSION content (state g old)).
          keeps.rests VERSION content rests in
          record {
            migrated = λ other book older.
                let is = its_version other older.content older.rests in
                absurd (let low = older.earlier in omega (arith, is, low, late));
            repeated = λ book holds. (refl, (holds.0, at holds.0 holds.1, holds.2));
            accepted = λ other book it. tt;
            answered = λ other trees file whole.
                let is = judged.alone other trees file in
                let newest = at_newest other is file.known late in
                let tells = judged.loads.held trees (subst (λ v. IsFileIn v trees (state g old)) is file)
                (subst (λ v. AreWholeIn v trees) is whole) in
                let here = subst (λ v. TellIn v book trees) (sym is ∙ newest) tells in
                let rests = rests_at VERSION (state g old) trees here.content
                (subst (λ v. IsFileIn v trees (state g old)) newest file) here.holds in
                let back = subst (λ v. TellIn v book trees) (sym newest) here in
                (book, back, (here.content, at here.content rests, here.same));
            stops = stops;
            stays = stays;
          }
        where
          at_newest : (other : ℕ) → other ≡ version → IsVersion other → VERSION ≤ version → other ≡ VERSION
          at_newest other is known late = let range = known_range other known in omega (arith, is, late, range.1)
