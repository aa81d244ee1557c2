use Rattle.std.proofs.Common.{◌≡◌, ◌∙◌, Result, Err, ap, sym, subst}
use Rattle.sqlite.specs.State.{State, Opens}
use Rattle.rtgs_tables.specs.Building.{IsBlank}
use Rattle.rtgs_book_file.specs.stored_desk.Stored.{HasNoSchema}
use Rattle.rtgs_book_file.specs.Closed.{LeavesClosed}
use Rattle.rtgs_book_file.proofs.open_book.make_tables.Goals as goal

blank_of : (s : State) → Opens s → HasNoSchema s → IsBlank s
blank_of s opens none = record {
  is_open = opens.is_open;
  schema = subst (λ database. HasNoSchema (record s { now = database })) opens.clean none;
  clean = opens.clean;
}

-- what is both of two errors is one error
one_error : {A B C : Type 0} (result : Result A (B × C)) (b d : B) (c e : C) → result ≡ Err (b, c) → result ≡ Err (d, e)
    → (b ≡ d) × (c ≡ e)
one_error {A = A} {B = B} {C = C} result b d c e one other =
    let same : ◌≡◌ {A = Result A (B × C)} (Err (b, c)) (Err (d, e)) = sym one ∙ other in
    let both : ◌≡◌ {A = B × C} (b, c) (d, e) = cc in
    (ap (λ (it : B × C). it.0) both, ap (λ (it : B × C). it.1) both)

pub returns-in-Ok-clause-made : goal.returns-in-Ok-clause-made
returns-in-Ok-clause-made g c = record {
  was = c.in_ok-conn.conn;
  now = c.in-Ok.made;
  opened = c.in_ok-conn.ensures.opened;
  found = c.in_ok-conn.ensures.found;
  blank = c.in-Ok.ensures.stops.blank;
  honest = c.in-Ok.ensures.stops.honest;
  leaves = λ clean. c.in-Ok.ensures.stops.leaves clean
      (blank_of _ (c.in_ok-conn.ensures.opened (c.in-Ok.ensures.stops.honest clean)).0 c.in-Ok.ensures.stops.blank);
  closed = subst (LeavesClosed c.in-Ok.made) (sym c.release.ensures.files) c.copied.ensures.closed;
}

pub returns-in-Err-clause-refused : goal.returns-in-Err-clause-refused
returns-in-Err-clause-refused g c = record {
  was = c.in_ok-conn.conn;
  left = c.in-Err.left;
  opened = c.in_ok-conn.ensures.opened;
  found = c.in_ok-conn.ensures.found;
  honest = c.in-Err.ensures.honest;
  taken = λ other. one_error c.make.result _ _ _ _ c.in-Err.is (c.make.ensures.taken other);
  refused = λ clean none. c.in-Err.ensures.refused clean
      (blank_of _ (c.in_ok-conn.ensures.opened (c.in-Err.ensures.honest clean)).0 none);
  abandoned = c.of.ensures;
}
