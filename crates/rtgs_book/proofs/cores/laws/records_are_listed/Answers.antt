use Rattle.rtgs_book.specs.declared.posting.Posting.{Posting}
use Rattle.rtgs_book.specs.declared.order.Order.{Order}
use Rattle.rtgs_book.specs.declared.mark.Mark.{Mark}
use Rattle.rtgs_book.specs.Settle.{today}
use Rattle.rtgs_book.specs.cores.Nexts.{date_of_posting}
use Rattle.rtgs_book.proofs.cores.Lists.{are_listed, are_in_order}
use Rattle.rtgs_book.proofs.cores.laws.records_are_listed.Goals as goal

pub returns-clause-postings : goal.returns-clause-postings
returns-clause-postings c book sound = are_listed (λ (p : Posting). p.number) date_of_posting (today book) book.postings
    sound.postings_numbered sound.dates.postings

pub returns-clause-orders : goal.returns-clause-orders
returns-clause-orders c book sound = are_in_order (λ (o : Order). o.number) book.orders sound.orders_numbered

pub returns-clause-marks : goal.returns-clause-marks
returns-clause-marks c book sound = are_listed (λ (m : Mark). m.number) (λ (m : Mark). m.date) (today book) book.marks
    sound.marks_numbered sound.dates.marks
