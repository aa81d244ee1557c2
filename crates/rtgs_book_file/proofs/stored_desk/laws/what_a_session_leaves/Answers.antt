use Rattle.rtgs_book_file.proofs.stored_desk.laws.what_a_session_leaves.Goals as goal

pub returns : goal.returns
returns g c start commands replies whole session calm trees left =
    let book = whole trees left in
    record {
      found = book.0;
      session = session book.0 (trees, left, book.1);
      calm = calm book.0 (trees, left, book.1);
      content = book.1.0;
      holds = book.1.1;
      records = book.1.2;
      adds_up = c.stored_balances_are_the_postings.ensures book.0 book.1.0 book.1.2;
    }
