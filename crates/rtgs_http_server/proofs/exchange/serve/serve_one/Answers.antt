use Rattle.std.proofs.Common.{sym}
use Rattle.rtgs_http_server.proofs.exchange.serve.serve_one.Goals as goal

pub returns-in-Ok-send-clause-served : goal.returns-in-Ok-send-clause-served
returns-in-Ok-send-clause-served g c = record {
  sent = c.in-Ok.reply;
  reply = c.in-Ok.ensures.reply;
  has_status = sym c.status-status.ensures;
  written = c.in-Ok-send.ensures.sent;
}

pub returns-clause-served : goal.returns-clause-served
returns-clause-served g c = record {
  sent = c.in-Ok.reply;
  reply = c.in-Ok.ensures.reply;
  has_status = sym c.status-status.ensures;
  written = c.in-Err-send.ensures.begun;
}
