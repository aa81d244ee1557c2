-- What is left to a reader of records.
use Rattle.std.specs.Prelude.{◌≡◌, ◌<◌, ◌+◌, true, false, ℕ, List, [], length, Option, Some, None}
use Rattle.std.specs.Borrow.{Bor}
use Rattle.csv.specs.Machine.{ends_at_end}
use Rattle.csv.specs.Reading.{Ready, default_config, is_flexible, owned_rows_left, owned_rows_reader, reader_config}
use Rattle.csv.specs.Reading.{reader_state, reader_trim, records_from, source_of}
use Rattle.csv.specs.declared.iter.ByteRecordsIntoIter.{ByteRecordsIntoIter}
use Rattle.csv.specs.declared.parser.State.{State}
use Rattle.csv.specs.declared.reader.Trim.TheVariants as trim
use Rattle.rtgs_order_files.specs.OrderFile.{CsvFields}

-- the records of the bytes that follow a state, where they are known
abbrev pub records_after : State → Option (List ℕ) → List CsvFields
records_after state None = []
records_after state (Some bytes) = records_from default_config (length bytes + 1) state bytes

-- the bytes that a reader over a slice has left
abbrev pub unread : ByteRecordsIntoIter (Bor (List ℕ)) → Option (List ℕ)
unread it = source_of (λ s. Some s.now) (owned_rows_reader it)

-- the records that it has left
abbrev pub left_of : ByteRecordsIntoIter (Bor (List ℕ)) → List CsvFields
left_of it = records_after (reader_state (owned_rows_reader it)) (unread it)

-- It reads plain records of any lengths, stands between two of them, and has not failed.
abbrev pub IsReading : ByteRecordsIntoIter (Bor (List ℕ)) → Type 0
IsReading it = record {
  plain : reader_config (owned_rows_reader it) ≡ default_config;
  untrimmed : reader_trim (owned_rows_reader it) ≡ trim.None;
  flexible : is_flexible (owned_rows_reader it) ≡ true;
  ready : Ready (owned_rows_reader it);
  between : ends_at_end (reader_state (owned_rows_reader it)) ≡ false;
  known : (bytes : List ℕ) × (unread it ≡ Some bytes);
  more : 0 < owned_rows_left it;
}
