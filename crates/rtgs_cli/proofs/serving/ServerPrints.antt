-- What a server prints, from its two lines.
use Rattle.std.proofs.Common.{◌≡◌, ◌++◌, [], inl, inr, ℕ, Bool, true, false, List, take, Option, None}
use Rattle.std.proofs.Common.{Result, Ok, Err, append-nil, refl, sym, subst}
use Rattle.std.specs.Bool.{⊤}
use Rattle.std.specs.Io.KnownBytes.{Appends}
use Rattle.rtgs_book.specs.declared.refusal.Refusal.TheVariants.{Failed}
use Rattle.rtgs_output.specs.Sent.{AppendsPart}
use Rattle.rtgs_output.specs.declared.writer_failed.WriterFailed.{WriterFailed}
use Rattle.rtgs_cli_lines.specs.Lines.{done_line}
use Rattle.rtgs_cli_lines.specs.Texts.{Prints, printed_of}
use Rattle.rtgs_cli_lines.specs.SentTo.{IsSentTo}
use Rattle.rtgs_cli_lines.specs.declared.done.Done.TheVariants.{Listening, Served}
use Rattle.rtgs_cli_lines.specs.declared.printed.Printed.TheVariants.{Whole, Stopped, Lost}
use Rattle.rtgs_cli.specs.files.Printing.{ended_line}
use Rattle.rtgs_cli.specs.serving.Serving.{server_text, stop_of_desk, TakesAsPrinted}
use Rattle.rtgs_cli.proofs.serving.PrintedAfter.{appends_both, appends_part_after, appends_part_before}

both_lines : (old mid new : Option (List ℕ)) (first second : List ℕ) (sent : Result ⊤ WriterFailed)
    → Appends old mid first → IsSentTo sent mid new second → Prints (first ++ second) None (printed_of sent) old new
both_lines old mid new first second (Ok done) one two = (refl, appends_both old mid new first second one two)
both_lines old mid new first second (Err failed) one two = appends_part_after old mid new first second one two

module _ (port count : ℕ) (old : Option (List ℕ)) where
  -- all were served, as far as the desk goes
  pub served_prints : (failed : Bool) (mid new : Option (List ℕ)) (sent : Result ⊤ WriterFailed) → failed ≡ false
      → Appends old mid (ended_line (done_line (Listening port)))
      → IsSentTo sent mid new (ended_line (done_line (Served count)))
      → Prints (server_text port count failed) (stop_of_desk failed) (printed_of sent) old new
  served_prints true mid new sent works one two =
      let no : ⊥ = cc in
      absurd no
  served_prints false mid new sent works one two = both_lines old mid new _ _ sent one two

  -- the desk failed
  pub stopped_prints : (failed : Bool) (new : Option (List ℕ)) → failed ≡ true
      → Appends old new (ended_line (done_line (Listening port)))
      → Prints (server_text port count failed) (stop_of_desk failed) (Stopped Failed) old new
  stopped_prints true new fails one = (refl, subst (Appends old new) (sym (append-nil _)) one)
  stopped_prints false new fails one =
      let no : ⊥ = cc in
      absurd no

  -- nobody heard that it listens
  pub lost_prints : (failed : Bool) (new : Option (List ℕ)) (why : WriterFailed)
      → AppendsPart old new (ended_line (done_line (Listening port)))
      → Prints (server_text port count failed) (stop_of_desk failed) (Lost why) old new
  lost_prints failed new why one = appends_part_before old new _ _ one

  -- of a server of which nobody heard no connection was taken
  pub none_taken : (left : ℕ) (new : Option (List ℕ)) (why : WriterFailed) → left ≡ count
      → TakesAsPrinted port count left (Lost why) old new
  none_taken left new why same = (none_whole, inl same)
    where
      none_whole : Lost why ≡ Whole → left ≡ 0
      none_whole is =
          let no : ⊥ = cc in
          absurd no

  -- connections were taken until the desk failed
  pub taken_until : (left : ℕ) (new : Option (List ℕ)) → Appends old new (ended_line (done_line (Listening port)))
      → TakesAsPrinted port count left (Stopped Failed) old new
  taken_until left new one = (none_whole, inr ([], subst (Appends old new) (sym (append-nil _)) one))
    where
      none_whole : Stopped Failed ≡ Whole → left ≡ 0
      none_whole is =
          let no : ⊥ = cc in
          absurd no

  -- all connections were taken
  pub all_taken : (left : ℕ) (mid new : Option (List ℕ)) (second : List ℕ) (sent : Result ⊤ WriterFailed) → left ≡ 0
      → Appends old mid (ended_line (done_line (Listening port))) → IsSentTo sent mid new second
      → TakesAsPrinted port count left (printed_of sent) old new
  all_taken left mid new second (Ok done) none one two =
      ((λ _. none), inr (second, appends_both old mid new _ second one two))
  all_taken left mid new second (Err failed) none one two =
      ((λ _. none), inr (take two.0 second, appends_both old mid new _ (take two.0 second) one two.2))
