use Rattle.std.proofs.Common.{◌≡◌, ◌+◌, true}
use Rattle.rtgs_book.specs.declared.book.Book.{Book}
use Rattle.rtgs_desk.specs.Holding.{Holds}
use Rattle.rtgs_http_server.specs.Requests.{WorksForAll}
use Rattle.rtgs_http_server.proofs.serve.serve_connections.Given as goal

abbrev pub invariant-loop : goal.invariant-loop
invariant-loop g l = record {
  works : g.K.Keeper.is_honest l.desk.keeper → (book : Book) → Holds g.K.Keeper l.fn.desk book
      → WorksForAll g.K.Keeper l.operator book l.desk;
  honest : g.K.Keeper.is_honest l.desk.keeper → g.K.Keeper.is_honest l.fn.desk.keeper;
  left : g.C.Connections.to_come l.connections + l.counter ≡ l.end;
  same : g.K.Keeper.has_failed l.fn.desk.keeper ≡ true
      → (l.desk ≡ l.fn.desk) × (l.connections ≡ l.fn.connections);
}
