-- Of what policy was asked along a history.
use Rattle.std.specs.Prelude.{List, [], ◌∷◌, ◌++◌}
use Rattle.sip_audit.specs.declared.record.Record.{Record}
use Rattle.sip_model.specs.state.declared.server.Server.{Server}
use Rattle.sip_model.specs.Run.{Link, under}
use Rattle.sip_model.specs.Histories.{records_at}

-- what is recorded of each step's request, from the first step on
abbrev pub asked_in : Server → List Link → List Record
asked_in server [] = []
asked_in server (link ∷ history) = asked_in server history ++ records_at (under server link.config) link.before link.act
