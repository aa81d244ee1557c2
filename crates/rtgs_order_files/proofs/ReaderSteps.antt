-- The records that are left to a reader, one by one.
use Rattle.std.proofs.Common.{◌≡◌, ◌≤◌, ◌<◌, ◌+◌, ◌==◌, ◌||◌, Bool, true, false, if◌then◌else◌, ℕ, zero, suc, List, []}
use Rattle.std.proofs.Common.{◌∷◌, length, Option, Some, None, Result, Ok, Err, refl, sym, ap, subst, ◌∙◌, arith}
use Rattle.std.proofs.Common.{add-one, inl, Bor}
use Rattle.std.proofs.lemmas.Bool.{false≢true}
use Rattle.std.specs.Prelude.{IfSome}
use Rattle.csv.specs.Machine.{Read, after_end, ends_at_end, field_after, fields_after, in_field, is_end, next_record}
use Rattle.csv.specs.Machine.{start_field, start_record, step}
use Rattle.csv.specs.Reading.{AreRecords, ExplainsRead, FailStep, FlexibleStep, HeaderNext, HeaderRowStep, Reached}
use Rattle.csv.specs.Reading.{Ready, RowStep, default_config, error_kind, is_flexible, owned_rows_left}
use Rattle.csv.specs.Reading.{owned_rows_reader, reader_trim, records_from, stops_reader, strip_bom}
use Rattle.csv.specs.Records.{Row, fields_of}
use Rattle.csv.specs.declared.error.Error.{Error}
use Rattle.csv.specs.declared.error.ErrorKind.{ErrorKind}
use Rattle.csv.specs.declared.error.ErrorKind.TheVariants as kind
use Rattle.csv.specs.declared.iter.ByteRecordsIntoIter.{ByteRecordsIntoIter}
use Rattle.csv.specs.declared.parser.Action.{Action}
use Rattle.csv.specs.declared.parser.State.{State}
use Rattle.csv.specs.declared.parser.State.TheVariants as st
use Rattle.csv.specs.declared.reader.Reader.{Reader}
use Rattle.csv.specs.declared.reader.Trim.TheVariants as trim
use Rattle.csv.proofs.ReadFacts.{rows-end, rows-more}
use Rattle.rtgs_order_files.specs.OrderFile.{CsvFields, records_of}
use Rattle.rtgs_order_files.specs.Reading.{IsReading, left_of, records_after}

-- a step that ends a record leaves the machine between records
abbrev EndsBetween : State × Action → Type 0
EndsBetween step = is_end step.1 ≡ true → ends_at_end step.0 ≡ false

either : (test : Bool) (a b : State × Action) → EndsBetween a → EndsBetween b → EndsBetween (if test then a else b)
either true a b ea eb = ea
either false a b ea eb = eb

after_line : (c : ℕ) → ends_at_end (after_end default_config.terminator c) ≡ false
after_line c = by (c == 13)
  where
    by : (b : Bool) → ends_at_end (if b then st.AfterCr else st.StartRecord) ≡ false
    by true = refl
    by false = refl

in_field_ends : (c : ℕ) → EndsBetween (in_field default_config c)
in_field_ends c = either (c == 44) _ _ (λ e. cc e) (either ((c == 13) || (c == 10)) _ _ (λ _. after_line c) (λ e. cc e))

start_field_ends : (c : ℕ) → EndsBetween (start_field default_config c)
start_field_ends c = either (c == 34) _ _ (λ e. cc e) (in_field_ends c)

start_record_ends : (c : ℕ) → EndsBetween (start_record default_config c)
start_record_ends c = either ((c == 13) || (c == 10)) _ _ (λ e. cc) (start_field_ends c)

record_ends : (s : State) (c : ℕ) → EndsBetween (step default_config s c)
record_ends st.StartRecord c = start_record_ends c
record_ends st.StartField c = start_field_ends c
record_ends st.InField c = in_field_ends c
record_ends st.InQuoted c = either (c == 34) _ _ (λ e. cc e) (λ e. cc e)
record_ends st.InEscape c = λ e. cc e
record_ends st.AfterQuote c = either (c == 34) _ _ (λ e. cc e) (in_field_ends c)
record_ends st.InComment c = either (c == 10) _ _ (λ e. cc) (λ e. cc)
record_ends st.AfterCr c = either (c == 10) _ _ (λ e. cc) (start_record_ends c)

-- a record leaves no more bytes than there were, and the machine between records
shrinks : (n : ℕ) (s : State) (fields : CsvFields) (field bytes : List ℕ) → length bytes ≤ n
    → IfSome (next_record default_config s fields field bytes) (λ p. (length p.2 < suc n) × (ends_at_end p.1 ≡ false))
unfolding next_record
shrinks n s fields field [] h = by (ends_at_end s) refl
  where
    by : (b : Bool) → ends_at_end s ≡ b → IfSome (next_record default_config s fields field [])
        (λ p. (length p.2 < suc n) × (ends_at_end p.1 ≡ false))
    by true e = rw e (omega arith, refl)
    by false e = rw e tt
shrinks n s fields field (c ∷ rest) h = by (is_end (step default_config s c).1) refl
    (shrinks n (step default_config s c).0 (fields_after (step default_config s c).1 fields field)
    (field_after (step default_config s c).1 c field) rest (omega arith))
  where
    by : (b : Bool) → is_end (step default_config s c).1 ≡ b
        → IfSome (next_record default_config (step default_config s c).0
        (fields_after (step default_config s c).1 fields field) (field_after (step default_config s c).1 c field)
        rest) (λ p. (length p.2 < suc n) × (ends_at_end p.1 ≡ false))
        → IfSome (next_record default_config s fields field (c ∷ rest))
        (λ p. (length p.2 < suc n) × (ends_at_end p.1 ≡ false))
    by true e later = rw e (omega arith, record_ends s c e)
    by false e later = rw e later

-- between records, the next record takes a byte at least
takes : (s : State) (bytes : List ℕ) → ends_at_end s ≡ false
    → IfSome (next_record default_config s [] [] bytes) (λ p. (length p.2 < length bytes) × (ends_at_end p.1 ≡ false))
unfolding next_record
takes s [] e = rw e tt
takes s (c ∷ rest) e = by (is_end (step default_config s c).1) refl
  where
    by : (b : Bool) → is_end (step default_config s c).1 ≡ b
        → IfSome (next_record default_config s [] [] (c ∷ rest))
        (λ p. (length p.2 < suc (length rest)) × (ends_at_end p.1 ≡ false))
    by true e = rw e (omega arith, record_ends s c e)
    by false e = rw e (shrinks (length rest) (step default_config s c).0 _ _ rest (omega arith))

-- so a count of records above the count of bytes is enough
enough : (n m : ℕ) (s : State) (bytes : List ℕ) → ends_at_end s ≡ false → length bytes < n → length bytes < m
    → records_from default_config n s bytes ≡ records_from default_config m s bytes
unfolding records_from
enough zero m s bytes e h g = absurd (omega arith)
enough (suc n) zero s bytes e h g = absurd (omega arith)
enough (suc n) (suc m) s bytes e h g = by (next_record default_config s [] [] bytes) refl (takes s bytes e)
    (λ (s2 : State) (rest : List ℕ). enough n m s2 rest)
  where
    by : (o : Option Read) → next_record default_config s [] [] bytes ≡ o
        → IfSome o (λ p. (length p.2 < length bytes) × (ends_at_end p.1 ≡ false))
        → ((s2 : State) (rest : List ℕ) → ends_at_end s2 ≡ false → length rest < n → length rest < m
        → records_from default_config n s2 rest ≡ records_from default_config m s2 rest)
        → records_from default_config (suc n) s bytes ≡ records_from default_config (suc m) s bytes
    by None at t later = rw at refl
    by (Some p) at t later = rw at (ap (λ (rest : List CsvFields). p.0 ∷ rest)
        (later p.1 p.2 t.1 (omega arith) (omega arith)))

-- the first record of some bytes, and then those after it
first_of : (s s2 : State) (bytes rest : List ℕ) (fields : CsvFields) → ends_at_end s ≡ false
    → Reached default_config s bytes (fields ∷ []) s2 rest
    → (ends_at_end s2 ≡ false) × (records_after s (Some bytes) ≡ fields ∷ records_after s2 (Some rest))
unfolding Reached records_from
first_of s s2 bytes rest fields e (p, at, f, same) =
    let t : (length p.2 < length bytes) × (ends_at_end p.1 ≡ false) = rw at at (takes s bytes e) in
    let more = enough (length bytes) (suc (length p.2)) p.1 p.2 t.1 t.0 (omega arith) in (
      rw (← same.0) t.1,
      rw (add-one, at, f, ← same.0, ← same.1, add-one) (ap (λ (rest : List CsvFields). p.0 ∷ rest)
          more),
    )

-- no record at all
none_of : (s : State) (bytes : List ℕ) → next_record default_config s [] [] bytes ≡ None
    → records_after s (Some bytes) ≡ []
unfolding records_from
none_of s bytes e = rw (add-one, e) refl

nothing_yet : (s : State) (bytes : List ℕ) → Reached default_config s bytes [] s bytes
unfolding Reached
nothing_yet s bytes = (refl, refl)

-- a reader of records of any lengths fails for lack of memory, or where the reader underneath failed
why : {R : Type 0} (rem : R → Option (List ℕ)) (a b : Reader R) (kind : ErrorKind) → is_flexible a ≡ true
    → ExplainsRead rem a b false kind → stops_reader kind ≡ true
why rem a b (kind.Io e) f h = refl
why rem a b kind.OutOfMemory f h = refl
why rem a b (kind.UnequalLengths pos expected len) f h = absurd (false≢true (sym h.0 ∙ f))
why rem a b (kind.Utf8 pos err) f h = absurd (false≢true h.0)
why rem a b (kind.Serialize text) f h = absurd h
why rem a b (kind.Deserialize pos err) f h = absurd h

-- What one step does: it finds that no record is left, or takes the first that is, or fails for lack of memory.
abbrev pub Stepped : ByteRecordsIntoIter (Bor (List ℕ)) → ByteRecordsIntoIter (Bor (List ℕ)) → Option (Result Row Error)
    → Type 0
Stepped a b None = left_of a ≡ []
Stepped a b (Some (Ok row)) = IsReading b × (left_of a ≡ fields_of row ∷ left_of b)
Stepped a b (Some (Err error)) = stops_reader (error_kind error) ≡ true

pub stepped : (a b : ByteRecordsIntoIter (Bor (List ℕ))) (r : Option (Result Row Error)) → IsReading a
    → (0 < owned_rows_left a → reader_trim (owned_rows_reader a) ≡ trim.None
    → (Ready (owned_rows_reader a) → RowStep (λ s. Some s.now) (owned_rows_reader a) (owned_rows_reader b)
    (owned_rows_left b) r)
    × (HeaderNext (owned_rows_reader a) → HeaderRowStep (λ s. Some s.now) (owned_rows_reader a) (owned_rows_reader b)
    (owned_rows_left b) r)
    × FailStep (owned_rows_reader a) (owned_rows_reader b) (owned_rows_left b) r
    × FlexibleStep (owned_rows_reader a) (owned_rows_reader b) r)
    → Stepped a b r
stepped a b None i steps =
    let (bytes, source) = i.known in
    let read = (steps i.more i.untrimmed).0 i.ready in
    rw source (none_of a.rdr.state bytes (rows-end (λ (s : Bor (List ℕ)). Some s.now) (owned_rows_reader a)
    (owned_rows_reader b) [] default_config bytes i.plain source read))
stepped a b (Some (Ok row)) i steps =
    let (bytes, source) = i.known in
    let step = steps i.more i.untrimmed in
    let (read, first, more) = step.0 i.ready in
    let (rest, known, reached) = rows-more (λ (s : Bor (List ℕ)). Some s.now) (owned_rows_reader a)
    (owned_rows_reader b) (fields_of row) default_config a.rdr.state bytes bytes [] i.plain source
    (nothing_yet a.rdr.state bytes) read in
    let both = first_of a.rdr.state b.rdr.state bytes rest (fields_of row) i.between reached in (
      record {
        plain = read.2 ∙ i.plain;
        untrimmed = read.3 ∙ i.untrimmed;
        flexible = step.3 ∙ i.flexible;
        ready = inl first;
        between = both.0;
        known = (rest, known);
        more = more;
      },
      rw (source, known) both.1,
    )
stepped a b (Some (Err error)) i steps = why (λ (s : Bor (List ℕ)). Some s.now) (owned_rows_reader a)
    (owned_rows_reader b) (error_kind error) i.flexible ((steps i.more i.untrimmed).0 i.ready)

-- ---- all records of a text

-- records that were read one by one to the end of the bytes are these
all_of : (s : State) (bytes : List ℕ) (rows : List CsvFields) → ends_at_end s ≡ false
    → AreRecords default_config s bytes rows → records_after s (Some bytes) ≡ rows
unfolding Reached
all_of s bytes [] e (s2, rest, (same, left), none) = none_of s bytes (rw (same, left) none)
all_of s bytes (row ∷ rows) e (s2, rest, (p, at, f, more), none) =
    let first = first_of s p.1 bytes p.2 row e (p, at, f, (refl, refl)) in
    first.1 ∙ ap (λ (tail : List CsvFields). row ∷ tail) (all_of p.1 p.2 rows first.0 (s2, rest, more, none))

-- and these can be read so
read_all : (n : ℕ) (s : State) (bytes : List ℕ) → ends_at_end s ≡ false → length bytes < n
    → AreRecords default_config s bytes (records_from default_config n s bytes)
unfolding Reached records_from
read_all zero s bytes e h = absurd (omega arith)
read_all (suc n) s bytes e h = by (next_record default_config s [] [] bytes) refl (takes s bytes e)
    (λ (s2 : State) (rest : List ℕ). read_all n s2 rest)
  where
    by : (o : Option Read) → next_record default_config s [] [] bytes ≡ o
        → IfSome o (λ p. (length p.2 < length bytes) × (ends_at_end p.1 ≡ false))
        → ((s2 : State) (rest : List ℕ) → ends_at_end s2 ≡ false → length rest < n
        → AreRecords default_config s2 rest (records_from default_config n s2 rest))
        → AreRecords default_config s bytes (records_from default_config (suc n) s bytes)
    by None at t later = rw at (s, bytes, (refl, refl), at)
    by (Some p) at t later =
        let (s2, rest, reached, none) = later p.1 p.2 t.1 (omega arith) in
        rw at (s2, rest, (p, at, refl, reached), none)

pub all_records : (bytes : List ℕ) (rows : List CsvFields) → (records_of bytes ≡ rows
    → AreRecords default_config st.StartRecord (strip_bom bytes) rows)
    × (AreRecords default_config st.StartRecord (strip_bom bytes) rows → records_of bytes ≡ rows)
all_records bytes rows = (
  λ e. subst (λ (all : List CsvFields). AreRecords default_config st.StartRecord (strip_bom bytes) all) e
      (read_all (length (strip_bom bytes) + 1) st.StartRecord (strip_bom bytes) refl (omega arith)),
  all_of st.StartRecord (strip_bom bytes) rows refl,
)
