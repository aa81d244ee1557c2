-- The messages that tell what came of a request.
use Rattle.std.specs.Prelude.{◌≡◌, ◌⊎◌, ℕ, List, Result, Ok, Err}
use Rattle.rtgs_book.specs.declared.book.Book.{Book}
use Rattle.rtgs_book.specs.declared.day.Day.{Day}
use Rattle.rtgs_book.specs.declared.order.Order.{Order}
use Rattle.rtgs_book.specs.declared.refusal.Refusal.{Refusal}
use Rattle.rtgs_book.specs.Choice.{Choice}
use Rattle.rtgs_book.specs.Outcome.{Reply}
use Rattle.rtgs_desk.specs.Queues.{queues_answer}
use Rattle.rtgs_desk.specs.Readings.{account_answer, accounts_answer, held_answer, queue_answer, order_answer}
use Rattle.rtgs_desk.specs.Readings.{status_answer, waiting_answer}
use Rattle.rtgs_book.specs.declared.account_reading.AccountReading.{AccountReading}
use Rattle.rtgs_book.specs.declared.queue_reading.QueueReading.{QueueReading}
use Rattle.rtgs_book.specs.declared.status.Status.{Status}
use Rattle.rtgs_book.specs.declared.waiting_reading.WaitingReading.{WaitingReading}
use Rattle.rtgs_http_bodies.specs.Answers.{answer_data}
use Rattle.rtgs_http_bodies.specs.Readings.{order_data, queue_data}
use Rattle.rtgs_http_bodies.specs.Refusals.{refused_message, batch_refused_message}
use Rattle.rtgs_http_bodies.specs.replies.Kinds.{kind_message, no_memory, answer_lost}
use Rattle.rtgs_http_bodies.specs.replies.Messages.{Message, message, json_message}
use Rattle.rtgs_http_bodies.specs.declared.replies.content_type.ContentType.TheVariants.{Csv, Plain}
use Rattle.rtgs_http_requests.specs.Faults.{http_kind_of}
use Rattle.rtgs_http_requests.specs.declared.http_fault.HttpFault.{HttpFault}
use Rattle.rtgs_http_requests.specs.declared.http_fault.HttpFault.TheVariants.{Batch}
use Rattle.rtgs_book.specs.declared.reading.Reading.{Reading}
use Rattle.rtgs_book.specs.declared.reading.Reading.TheVariants as reading
use Rattle.rtgs_http_bodies.specs.desks.Accounts.{account_data, accounts_data}
use Rattle.rtgs_http_bodies.specs.desks.Queues.{queues_data}
use Rattle.rtgs_http_bodies.specs.desks.Status.{status_data}
use Rattle.rtgs_http_bodies.specs.desks.Waiting.{held_list_data, waiting_data}
use Rattle.rtgs_http_bodies.specs.desks.Written.{statement_wanted, report_wanted, orders_wanted, marks_wanted}

-- What is sent is this, or that there was no memory for it. No command was given.
abbrev pub IsSaid : Message → Message → Type 0
IsSaid wanted sent = (sent ≡ wanted) ⊎ (sent ≡ no_memory)

-- What is sent is this, or that there was no memory for it. The desk had answered.
abbrev pub IsSentOrLost : Message → Message → Type 0
IsSentOrLost wanted sent = (sent ≡ wanted) ⊎ (sent ≡ answer_lost)

-- why nothing is asked
abbrev pub fault_message : HttpFault → Message
fault_message (Batch fault) = batch_refused_message fault
fault_message fault = kind_message (http_kind_of fault)

-- what the desk replied to a command, with what was resolved after it
abbrev pub reply_message : Reply → Message
reply_message (Ok answer) = json_message 200 (answer_data answer)
reply_message (Err refusal) = refused_message refusal

-- what a desk says of this
abbrev pub result_message : {X : Type 0} → (X → Message) → Result X Refusal → Message
result_message say (Ok value) = say value
result_message say (Err refusal) = refused_message refusal

abbrev pub order_message : Order → Message
order_message order = json_message 200 (order_data order)

abbrev pub account_message : AccountReading → Message
account_message account = json_message 200 (account_data account)

abbrev pub accounts_message : Day → List AccountReading → Message
accounts_message day accounts = json_message 200 (accounts_data day accounts)

abbrev pub queue_message : List Order → Message
queue_message orders = json_message 200 (queue_data orders)

abbrev pub held_message : List Order → Message
held_message orders = json_message 200 (held_list_data orders)

abbrev pub waiting_message : WaitingReading → Message
waiting_message reading = json_message 200 (waiting_data reading)

abbrev pub queues_message : Day → List QueueReading → Message
queues_message day queues = json_message 200 (queues_data day queues)

abbrev pub status_message : Status → Message
status_message status = json_message 200 (status_data status)

abbrev pub text_message : List ℕ → Message
text_message text = message 200 Plain text

abbrev pub csv_message : List ℕ → Message
csv_message text = message 200 Csv text

-- what is read in a book of which this is the greatest choice
abbrev pub reading_message : Book → Choice → Reading → Message
reading_message book choice (reading.Order sender reference) =
    result_message order_message (order_answer book sender reference)
reading_message book choice (reading.Account code) = result_message account_message (account_answer book code)
reading_message book choice reading.Accounts = result_message (accounts_message book.day) (accounts_answer book)
reading_message book choice (reading.Queue code) = result_message queue_message (queue_answer book code)
reading_message book choice (reading.Held code) = result_message held_message (held_answer book code)
reading_message book choice (reading.Waiting code) = result_message waiting_message (waiting_answer book code)
reading_message book choice reading.Queues = result_message (queues_message book.day) (queues_answer book choice)
reading_message book choice reading.Status = result_message status_message (status_answer book)
reading_message book choice (reading.Statement code date) =
    result_message text_message (statement_wanted book code date)
reading_message book choice (reading.Report date) = result_message text_message (report_wanted book date)
reading_message book choice (reading.Orders date) = result_message csv_message (orders_wanted book date)
reading_message book choice (reading.Marks date) = result_message csv_message (marks_wanted book date)
