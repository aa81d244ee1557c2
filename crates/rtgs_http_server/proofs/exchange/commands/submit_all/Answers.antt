use Rattle.std.proofs.Common.{inr, ◌∙◌}
use Rattle.rtgs_order_files.specs.Results.{results_text}
use Rattle.rtgs_http_bodies.specs.Statuses.{batch_status}
use Rattle.rtgs_http_bodies.specs.replies.Messages.{message}
use Rattle.rtgs_http_bodies.specs.declared.replies.content_type.ContentType.TheVariants.{Csv}
use Rattle.rtgs_http_server.proofs.exchange.commands.submit_all.Goals as goal

pub returns-clause-submits : goal.returns-clause-submits
returns-clause-submits g c honest book held =
    let replies = c.in-Ok.batch.replies.items in
    let stopped = c.in-Ok.batch.stopped in
    inr (record {
      replies = replies;
      stopped = stopped;
      stops = c.in-Ok.ensures.stopped;
      fault = λ e. (c.in-Ok.ensures.fault e).1;
      works = λ other. c.in-Ok.ensures.only_fault other ∙ c.holds_a_sound_book.ensures.works book held;
      acts = c.in-Ok.ensures.sent honest book held;
      sent_or_lost =
          c.or_lost.ensures.sent_or_lost
          (message (batch_status stopped) Csv (results_text c.args.rows.now replies stopped))
          c.batch_reply.ensures;
      not_failed = λ e.
          let failed = c.in-Ok.ensures.only_failed e in
          let works = c.holds_a_sound_book.ensures.works book held in
          let no : ⊥ = cc in no;
    })
