-- What a reading tells is in its bytes.
use Rattle.std.proofs.Common.{◌≡◌, ◌⊎◌, ℕ, List, Result, Ok, Err, ap, subst, inl, inr}
use Rattle.rtgs_book.specs.declared.book.Book.{Book}
use Rattle.rtgs_book.specs.declared.refusal.Refusal.{Refusal}
use Rattle.rtgs_book.specs.declared.refusal.Refusal.TheVariants.{OutOfMemory, StoreFault}
use Rattle.rtgs_book.specs.declared.reading.Reading.{Reading}
use Rattle.rtgs_book.specs.declared.reading.Reading.TheVariants as reading
use Rattle.rtgs_desk.specs.Readings.{Tells}
use Rattle.rtgs_desk.specs.Seen.{Seen}
use Rattle.rtgs_http_bodies.specs.desks.Readings.{ReadingFails, text_wanted}
use Rattle.rtgs_keeper.specs.declared.keeper.Keeper.{Ghosts}
use Rattle.rtgs_book_file.specs.OverFile.{OverFile}
use Rattle.rtgs_cli.specs.readings.Readings.{IsRead}

tells_bytes : {V : Type 0} (bytes_of : V → List ℕ) (wanted : Result (List ℕ) Refusal) (text : V)
    → Tells bytes_of wanted (Ok text) → Tells (λ read. read) wanted (Ok (bytes_of text))
tells_bytes bytes_of (Ok x) text answered = answered
tells_bytes bytes_of (Err why) text answered =
    let no : ⊥ = cc in
    absurd no

tells_refusal : {V : Type 0} (bytes_of : V → List ℕ) (wanted : Result (List ℕ) Refusal) (why : Refusal)
    → Tells bytes_of wanted (Err why) → Tells {Y = List ℕ} (λ read. read) wanted (Err why)
tells_refusal bytes_of (Ok x) why answered = answered
tells_refusal bytes_of (Err first) why answered =
    let same : why ≡ first = cc in
    ap Err same

-- what failed was not read
fails_unread : {K V : Type 0} (g : Ghosts K) (book : Book) (asked : Reading) (desk : Seen K) (text : V)
    → ReadingFails g book asked desk (Ok text) → ⊥
fails_unread g book (reading.Order sender reference) desk text (known, inl memory) = cc
fails_unread g book (reading.Order sender reference) desk text (known, inr fails) =
    let fault = fails.1 in
    cc
fails_unread g book (reading.Account code) desk text fails = fails
fails_unread g book reading.Accounts desk text fails = fails
fails_unread g book (reading.Queue code) desk text fails = fails
fails_unread g book (reading.Held code) desk text fails = fails
fails_unread g book (reading.Waiting code) desk text fails = fails
fails_unread g book reading.Queues desk text fails = fails
fails_unread g book reading.Status desk text fails = fails
fails_unread g book (reading.Statement code date) desk text (known, fails) =
    let fault = fails.1 in
    cc
fails_unread g book (reading.Report date) desk text fails =
    let fault = fails.1 in
    cc
fails_unread g book (reading.Orders date) desk text fails =
    let fault = fails.1 in
    cc
fails_unread g book (reading.Marks date) desk text fails =
    let fault = fails.1 in
    cc

fails_alike : {K : Type 0} (V : Type 0) (g : Ghosts K) (book : Book) (asked : Reading) (desk : Seen K) (why : Refusal)
    → ReadingFails {V = V} g book asked desk (Err why) → ReadingFails {V = List ℕ} g book asked desk (Err why)
fails_alike V g book (reading.Order sender reference) desk why (known, inl memory) =
    let same : why ≡ OutOfMemory = cc in
    (known, inl (ap Err same))
fails_alike V g book (reading.Order sender reference) desk why (known, inr fails) =
    let fault = fails.1 in
    let same : why ≡ StoreFault = cc in
    (known, inr (fails.0, ap Err same))
fails_alike V g book (reading.Account code) desk why fails = fails
fails_alike V g book reading.Accounts desk why fails = fails
fails_alike V g book (reading.Queue code) desk why fails = fails
fails_alike V g book (reading.Held code) desk why fails = fails
fails_alike V g book (reading.Waiting code) desk why fails = fails
fails_alike V g book reading.Queues desk why fails = fails
fails_alike V g book reading.Status desk why fails = fails
fails_alike V g book (reading.Statement code date) desk why (known, fails) =
    let fault = fails.1 in
    let same : why ≡ StoreFault = cc in
    (known, (fails.0, ap Err same))
fails_alike V g book (reading.Report date) desk why fails =
    let fault = fails.1 in
    let same : why ≡ StoreFault = cc in
    (fails.0, ap Err same)
fails_alike V g book (reading.Orders date) desk why fails =
    let fault = fails.1 in
    let same : why ≡ StoreFault = cc in
    (fails.0, ap Err same)
fails_alike V g book (reading.Marks date) desk why fails =
    let fault = fails.1 in
    let same : why ≡ StoreFault = cc in
    (fails.0, ap Err same)

module _ {K U C : Type 0} (file : OverFile K U C) {V : Type 0} (bytes_of : V → List ℕ) (asked : Reading)
    (read : Result V Refusal) (left : Seen K) (did : IsRead file bytes_of asked read left) where
  pub bytes_read : (text : V) → read ≡ Ok text → IsRead file (λ bytes. bytes) asked (Ok (bytes_of text)) left
  bytes_read text is = record {
    opened = did.opened;
    over = did.over;
    did = λ honest book held.
        let it = did.did honest book held in (
          it.0,
          λ choice greatest. by book (text_wanted book choice asked)
              (subst (λ read. Tells bytes_of (text_wanted book choice asked) read
              ⊎ ReadingFails file.keeper book asked left read) is (it.1 choice greatest)),
        );
  }
    where
      by : (book : Book) (wanted : Result (List ℕ) Refusal) → Tells bytes_of wanted (Ok text)
          ⊎ ReadingFails file.keeper book asked left (Ok text) → Tells (λ bytes. bytes) wanted (Ok (bytes_of text))
          ⊎ ReadingFails file.keeper book asked left (Ok (bytes_of text))
      by book wanted (inl answered) = inl (tells_bytes bytes_of wanted text answered)
      by book wanted (inr fails) = absurd (fails_unread file.keeper book asked left text fails)

  pub refusal_read : (why : Refusal) → read ≡ Err why → IsRead file (λ bytes. bytes) asked (Err why) left
  refusal_read why is = record {
    opened = did.opened;
    over = did.over;
    did = λ honest book held.
        let it = did.did honest book held in (
          it.0,
          λ choice greatest. by book (text_wanted book choice asked)
              (subst (λ read. Tells bytes_of (text_wanted book choice asked) read
              ⊎ ReadingFails file.keeper book asked left read) is (it.1 choice greatest)),
        );
  }
    where
      by : (book : Book) (wanted : Result (List ℕ) Refusal) → Tells bytes_of wanted (Err why)
          ⊎ ReadingFails {V = V} file.keeper book asked left (Err why) → Tells {Y = List ℕ} (λ bytes. bytes) wanted (Err
          why)
          ⊎ ReadingFails {V = List ℕ} file.keeper book asked left (Err why)
      by book wanted (inl answered) = inl (tells_refusal bytes_of wanted why answered)
      by book wanted (inr fails) = inr (fails_alike V file.keeper book asked left why fails)
