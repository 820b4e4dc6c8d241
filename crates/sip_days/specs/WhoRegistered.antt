-- Who was registered along a history, in the words of the model (RFC 3261 10.3).
use Rattle.std.specs.Prelude.{◌≡◌, ◌⊎◌, ℕ, Bool, List, [], ◌∷◌, Some}
use Rattle.std.specs.List.{list_any}
use Rattle.sip_uri.specs.declared.aor.Aor.{Aor}
use Rattle.sip_policy.specs.declared.operation.Operation.{Operation}
use Rattle.sip_location.specs.declared.binding.Binding.{Binding}
use Rattle.sip_model.specs.state.declared.server.Server.{Server}
use Rattle.sip_model.specs.verdict_model.declared.question.Question.{Question}
use Rattle.sip_model.specs.verdict_model.Verdict.{Bound, Register}
use Rattle.sip_model.specs.Run.{Link, under}
use Rattle.sip_model.specs.Histories.{Judged, judged_at}
use Rattle.sip_days.specs.declared.registered.Registered.{Registered}
use Rattle.sip_days.specs.Phones.{is_of}

-- A step is taken for a REGISTER with a Contact that a rule lets through, and of which the registrar makes bindings: for this address of record, at
-- this moment, and from there.
pub record Registers (server : Server) (link : Link) (row : Registered) : Type 0 where
  pub judged : Judged
  pub question : Question
  pub rule : ℕ
  pub bindings : List Binding
  pub is_judged : judged_at server link.before link.act ≡ Some judged
  pub is_taken : judged.verdict ≡ Register question rule (Bound bindings)
  pub has_contact : question.operation ≡ Operation.Register
  pub aor : row.aor ≡ question.target
  pub at : row.at ≡ judged.arrival.now
  pub source : row.source ≡ Some judged.arrival.from

-- a step of a history is, by the configuration in force then
abbrev pub WasRegistered : Server → List Link → Registered → Type 0
WasRegistered server [] row = ⊥
WasRegistered server (link ∷ history) row = Registers (under server link.config) link row ⊎ WasRegistered server history row

-- whether an address of record is among some
abbrev pub is_among : Aor → List Registered → Bool
is_among aor rows = list_any (is_of aor) rows
