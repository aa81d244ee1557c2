-- The records of a ledger as contracts see them.
use Rattle.rtgs_book.specs.declared.cores.cores.Core.{Core}
use Rattle.rtgs_records.specs.declared.records.Records.{Records}
use Rattle.rtgs_records.specs.Held.{Held}

abbrev pub core_in : Records → Core
core_in r = record {
  accounts = r.accounts.accounts;
  waiting = r.orders.orders;
  day = r.day;
  next_posting = r.next_posting;
  next_order = r.orders.next;
  next_mark = r.next_mark;
}

abbrev pub held_of : Records → Held
held_of r = record {
  core = core_in r;
  room = record {
    participants = r.accounts.room;
    orders = r.orders.room;
    awaited = r.orders.awaited;
    holds = r.orders.holds;
  };
}
