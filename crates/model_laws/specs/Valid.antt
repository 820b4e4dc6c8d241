-- Requests that pass every check, so that what is said of valid requests isn't said of none.
use Rattle.std.specs.Prelude.{ℕ, List}
use Rattle.sip_message_form.specs.declared.message.Message.{Message}
use Rattle.sip_header.specs.declared.core_fields.CoreFields.{CoreFields}
use Rattle.sip_model.specs.state.declared.server.Server.{Server}
use Rattle.sip_model.specs.state.declared.proxy_state.ProxyState.{ProxyState}
use Rattle.sip_model.specs.Access.{IsNewRequest}

-- bytes say a request of a method that is valid, new and outside a dialog
pub record SaysNewRequest (server : Server) (state : ProxyState) (bytes : List ℕ) (m : Message) (method : List ℕ) : Type 0 where
  pub core : CoreFields
  pub is_new : IsNewRequest server state bytes m method core
