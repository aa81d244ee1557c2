-- A desk of which nothing was asked yet.
use Rattle.std.proofs.Common.{◌≡◌, ℕ, List, [], refl, sym, subst, arith}
use Rattle.rtgs_book.specs.Calm.{IsCalm}
use Rattle.rtgs_book.specs.declared.book.Book.{Book}
use Rattle.rtgs_keeper.specs.declared.keeper.Keeper.{Ghosts}
use Rattle.rtgs_desk.specs.Holding.{Holds}
use Rattle.rtgs_desk.specs.Seen.{Seen}
use Rattle.rtgs_http_server.specs.exchange.Handling.{Makes}
use Rattle.rtgs_http_server.specs.Requests.{WorksForAll, nothing}

pub at_rest : {K : Type 0} (g : Ghosts K) (operator : List ℕ) (book : Book) (desk : Seen K) → Holds g desk book
    → IsCalm book → ((found : Book) → g.leaves desk.keeper found → found ≡ book) → g.is_whole desk.keeper
    → WorksForAll g operator book desk
at_rest g operator book desk held calm left whole =
    let rest : Makes g book [] [] desk = record {
      last = book;
      calm = calm;
      kept = λ works. held;
      none_open = λ works. refl;
      session = λ found may. record {
        replied = omega arith;
        running = omega arith;
        last = book;
        run = refl;
        found = left found may;
      };
      whole_after_a_crash = whole;
      calm_after_a_crash = λ found may. subst IsCalm (sym (left found may)) calm;
    } in
    ([], [], nothing, rest)
