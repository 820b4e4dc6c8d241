-- What a step does for a new request that is answered here, once its answer was drafted (RFC 3261 8.2, 9.2, 10.3, 16.5, 22).
use Rattle.std.specs.Prelude.{◌≡◌, ℕ, false, position, List, Option, None}
use Rattle.sip_proxy.specs.verdict.Verdict.{Is}
use Rattle.sip_proxy.specs.verdict.declared.verdict.Judged.{Judged}
use Rattle.sip_proxy.specs.verdict.declared.verdict.Verdict.TheVariants as Arrived
use Rattle.sip_uas.specs.transactions_model.Fits.{Fits}
use Rattle.sip_uas.specs.transactions_model.Matching.{AreBranched}
use Rattle.sip_location.specs.declared.binding.Binding.{Binding}
use Rattle.sip_uas.specs.transactions_model.Near.{IsWithin}
use Rattle.sip_uas.specs.forwarding.declared.arrival.Arrival.{Arrival}
use Rattle.sip_dialog_updates.specs.state.State.{has_key}
use Rattle.sip_dialog_updates.specs.state.declared.open_request.OpenRequest.{OpenRequest}
use Rattle.sip_dialog_updates.specs.state.declared.proxy_state.ProxyState.{ProxyState}
use Rattle.sip_dialog_updates.specs.state.declared.server.Server.{Server}
use Rattle.sip_proxy.specs.verdict.verdict_model.Verdict as Definition
use Rattle.sip_uas.specs.Asking.{AnswersFinally}

-- ---- what was decided

-- What policy decided about a request is some verdict on it, and if that answers at once, then with a final answer (RFC 3261 7.2).
pub record IsAnswered (server : Server) (rows : List Binding) (now : ℕ) (judged : Judged) : Type 0 where
  pub named : Option OpenRequest
  pub verdict : Definition.Verdict
  pub is : Is server rows now named verdict (Arrived.Judged judged)
  pub final : AnswersFinally verdict

-- ---- what is opened

-- A request that came in a datagram can be opened in a state: there is room for it, no open one has its key, its parts fit their
-- transactions, its moments are near that of the datagram, and its branches are targets with numbers of their own and CANCELs behind
-- them.
pub record IsOpenableIn (state : ProxyState) (a : Arrival) (r : OpenRequest) : Type 0 where
  pub space : Definition.is_full state ≡ false
  pub alone : position (has_key r.key) state.requests ≡ None
  pub number_is : r.number ≡ a.number
  pub fits : Fits r
  pub within : IsWithin a.now r
  pub branched : AreBranched r.branches
