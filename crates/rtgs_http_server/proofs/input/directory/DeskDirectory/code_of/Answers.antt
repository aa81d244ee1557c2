use Rattle.std.proofs.Common.{rules}
use Rattle.rtgs_http_server.proofs.input.Believed.{believed}
use Rattle.rtgs_http_server.proofs.input.directory.DeskDirectory.code_of.Goals as goal

pub returns-in-Ok-clause-found : goal.returns-in-Ok-clause-found
returns-in-Ok-clause-found g c = λ code_of known.
    believed g.K.Keeper c.args.self.now c.args.digest.now c.code_of.result c.in-Ok.code code_of (search rules)
    c.code_of.ensures.remembered c.code_of.ensures.failed known
