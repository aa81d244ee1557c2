use Rattle.std.proofs.Common.{◌≡◌, Result, Ok, Err, subst, rules}
use Rattle.rtgs_http_server.specs.input.Input.{Requests}
use Rattle.rtgs_http_server.specs.input.Known.{KnowsOf}
use Rattle.rtgs_http_server.specs.declared.input.unread.Unread.{Unread}
use Rattle.rtgs_http_server.specs.declared.input.unread.Unread.TheVariants.{DirectoryFailed, Faulty}
use Rattle.rtgs_http_requests.specs.declared.asked.Asked.{Asked}
use Rattle.rtgs_http_server.proofs.exchange.Exchanged.{asked_exchange, fault_exchange, failed_exchange, idle, works_of}
use Rattle.rtgs_http_server.proofs.exchange.reply.reply_to_request.Goals as goal

pub returns-in-Ok-clause-reply : goal.returns-in-Ok-clause-reply
returns-in-Ok-clause-reply g c = λ operator input says.
    asked_exchange g.K.Keeper operator input c.args.desk.now c.answer.new.desk c.in-Ok.asked c.answer.result
    c.participants_ask_for_their_own.ensures c.holds_a_sound_book.ensures.in_memory
    c.holds_a_sound_book.ensures.participants c.holds_a_sound_book.ensures.calm
    (subst (λ (r : Result Asked Unread). Requests (KnowsOf g.K.Keeper c.args.desk.now) operator input r) c.in-Ok.is
    says)
    c.answer.ensures.comes c.answer.ensures.failed

pub returns-in-Ok-clause-works : goal.returns-in-Ok-clause-works
returns-in-Ok-clause-works g c honest book held =
    works_of g.K.Keeper book (Ok c.in-Ok.asked) c.answer.new.desk c.answer.result
    (c.holds_a_sound_book.ensures.calm book held) (c.answer.ensures.comes honest book held)

pub returns-in-Err-Faulty-clause-reply : goal.returns-in-Err-Faulty-clause-reply
returns-in-Err-Faulty-clause-reply g c = λ operator input says.
    let is : c.args.request.now ≡ Err (Faulty c.in-Err-Faulty.fault) = search rules in
    fault_exchange g.K.Keeper operator input c.args.desk.now c.in-Err-Faulty.fault c.fault_reply.result
    (subst (λ (r : Result Asked Unread). Requests (KnowsOf g.K.Keeper c.args.desk.now) operator input r) is says)
    c.holds_a_sound_book.ensures.participants c.holds_a_sound_book.ensures.calm c.stands.ensures
    c.holds_a_sound_book.ensures.works c.fault_reply.ensures

pub returns-in-Err-Faulty-clause-works : goal.returns-in-Err-Faulty-clause-works
returns-in-Err-Faulty-clause-works g c honest book held =
    works_of g.K.Keeper book (Err c.in-Err-Faulty.fault) c.args.desk.now c.fault_reply.result
    (c.holds_a_sound_book.ensures.calm book held)
    (c.stands.ensures book held, c.holds_a_sound_book.ensures.works book held, c.fault_reply.ensures)

pub returns-in-Err-DirectoryFailed-clause-reply : goal.returns-in-Err-DirectoryFailed-clause-reply
returns-in-Err-DirectoryFailed-clause-reply g c = λ operator input says.
    let is : c.args.request.now ≡ Err DirectoryFailed = search rules in
    failed_exchange g.K.Keeper operator input c.args.desk.now c.failed_reply.result
    c.holds_a_sound_book.ensures.works
    (subst (λ (r : Result Asked Unread). Requests (KnowsOf g.K.Keeper c.args.desk.now) operator input r) is says)
    (c.requires.failed is) c.failed_reply.ensures

pub returns-in-Err-Reader-clause-works : goal.returns-in-Err-Reader-clause-works
returns-in-Err-Reader-clause-works g c honest book held =
    idle g.K.Keeper book c.args.desk.now (c.holds_a_sound_book.ensures.calm book held) (c.stands.ensures book held)
