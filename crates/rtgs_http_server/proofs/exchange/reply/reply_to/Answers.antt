use Rattle.std.proofs.lemmas.Result.{IfOk-weaker}
use Rattle.rtgs_http_server.specs.input.Input.{Requests}
use Rattle.rtgs_http_server.specs.input.Known.{KnowsOf}
use Rattle.rtgs_http_bodies.specs.replies.Messages.{Message}
use Rattle.rtgs_http_server.specs.exchange.Exchange.{Exchanges}
use Rattle.rtgs_http_server.proofs.exchange.Inputs.{of_same}
use Rattle.rtgs_http_server.proofs.exchange.reply.reply_to.Goals as goal

pub returns-clause-reply : goal.returns-clause-reply
returns-clause-reply g c =
    IfOk-weaker c.reply_to_request.result _ _
    (λ (sent : Message) made. of_same (g.R.Read.remaining c.args.reader.now)
    (λ input. Requests (KnowsOf g.K.Keeper c.args.desk.now) c.args.operator.now input c.read_request-request.result)
    (λ input. Exchanges g.K.Keeper c.args.operator.now c.args.desk.now input c.reply_to_request.new.desk sent)
    (λ input says. made c.args.operator.now input says) c.read_request-request.ensures.asked)
    c.reply_to_request.ensures.reply
