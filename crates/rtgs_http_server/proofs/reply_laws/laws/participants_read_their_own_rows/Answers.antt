use Rattle.rtgs_http_server.proofs.reply_laws.OwnRows.{own_rows}
use Rattle.rtgs_http_server.proofs.reply_laws.laws.participants_read_their_own_rows.Goals as goal

pub returns : goal.returns
returns c = own_rows
