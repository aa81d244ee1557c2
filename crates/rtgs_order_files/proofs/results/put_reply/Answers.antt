use Rattle.rtgs_order_files.proofs.results.put_reply.Goals as goal

pub returns-in-Settled : goal.returns-in-Settled
returns-in-Settled g c = rw c.in-Settled.is (rw (c.as_str-reference.ensures.value, c.word.ensures.value) at
    c.put_numbers.ensures)

pub returns-in-Queued : goal.returns-in-Queued
returns-in-Queued g c = rw c.in-Queued.is (rw (c.as_str-reference.ensures.value, c.word-in-Queued.ensures.value) at
    c.put_numbers-in-Queued.ensures)

pub returns-in-Held : goal.returns-in-Held
returns-in-Held g c = rw c.in-Held.is (rw (
  c.as_str-reference.ensures.value,
  c.as_str.ensures.value,
  c.text.ensures,
  c.word-in-Held.ensures.value,
) at c.put_number.ensures)

pub returns-in-Repeated : goal.returns-in-Repeated
returns-in-Repeated g c = rw c.in-Repeated.is (rw (c.as_str-reference.ensures.value, c.word-in-Repeated.ensures.value)
    at c.put_number-in-Repeated.ensures)

pub returns-in-Refused : goal.returns-in-Refused
returns-in-Refused g c = rw c.in-Refused.is (rw (
  c.as_str-reference.ensures.value,
  c.format-detail.ensures.text,
  c.number.ensures,
  c.kind.ensures,
) at c.put_line.ensures)
