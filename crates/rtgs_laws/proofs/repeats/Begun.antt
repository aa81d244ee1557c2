-- A run over a list is one over its beginning, and from there one over the rest.
use Rattle.std.proofs.Common.{ℕ, zero, suc, List, [], ◌∷◌, take, drop, refl}
use Rattle.rtgs_book.specs.declared.book.Book.{Book}
use Rattle.rtgs_book.specs.declared.command.Command.{Command}
use Rattle.rtgs_book.specs.Outcome.{Reply}
use Rattle.rtgs_book.specs.Run.{Run}

pub begun : (old new : Book) (commands : List Command) (replies : List Reply) (n : ℕ) → Run old commands replies new
    → (mid : Book) × Run old (take n commands) (take n replies) mid × Run mid (drop n commands) (drop n replies) new
begun old new commands replies zero r = (old, refl, r)
begun old new [] [] (suc n) r = (new, r, refl)
begun old new [] (reply ∷ replies) (suc n) r = absurd r
begun old new (command ∷ commands) [] (suc n) r = absurd r
begun old new (command ∷ commands) (reply ∷ replies) (suc n) r =
    let rest = begun r.0 new commands replies n r.2 in
    (rest.0, (r.0, r.1, rest.1), rest.2)
