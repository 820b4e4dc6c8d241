-- Who is proven, in the headline of this server.
use Rattle.std.specs.Prelude.{ℕ, List, Option}
use Rattle.sip_message_form.specs.declared.message.Message.{Message}
use Rattle.sip_auth.specs.Proof.{proof_of, proven}
use Rattle.sip_model.specs.state.declared.server.Server.{Server}
use Rattle.sip_model.specs.state.declared.proxy_state.ProxyState.{ProxyState}

-- the user whose credential in a message is right for the configured realm and users, by a nonce of the state (RFC 2617 3.2.2, 3.3; RFC
-- 3261 22; RFC 8760 2)
abbrev pub by_digest : Server → ProxyState → ℕ → Message → Option (List ℕ)
by_digest server state now m = proven (proof_of server.config.realm server.config.users state.nonces now m)
