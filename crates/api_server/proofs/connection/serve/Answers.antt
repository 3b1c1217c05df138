use Rattle.std.proofs.Common.{refl}
use Rattle.api_server.proofs.Sent.{serves_sent}
use Rattle.api_server.proofs.connection.serve.Goals as goal

pub returns-in-Ok-clause-serving : goal.returns-in-Ok-clause-serving
returns-in-Ok-clause-serving g c = serves_sent _ _ _ _ _ _ _ c.in-Ok.reply c.args.request.now.last _ c.in-Ok.ensures.serves refl c.send.ensures.sends
