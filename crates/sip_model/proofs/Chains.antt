-- A history of a server is one of it under another configuration.
use Rattle.std.proofs.Common.{◌≡◌, refl, List, [], ◌∷◌}
use Rattle.sip_config_types.specs.declared.config.Config.{Config}
use Rattle.model_steps.specs.state.declared.server.Server.{Server}
use Rattle.model_steps.specs.state.declared.proxy_state.ProxyState.{ProxyState}
use Rattle.sip_model.specs.Run.{Link, under, IsChain}

-- ---- a change of the configuration

-- under its own configuration a server is itself
pub under_own : (server : Server) → under server server.config ≡ server
under_own server = refl

-- a history of a server is one of the server under another configuration: what was reached stays reached
pub chain_under : (server : Server) (config : Config) (first : ProxyState) (history : List Link) (last : ProxyState) → IsChain server first history last
    → IsChain (under server config) first history last
chain_under server config first [] last h = h
chain_under server config first (link ∷ history) last h = (h.0, h.1, chain_under server config first history link.before h.2)

-- and the other way round
pub chain_back : (server : Server) (config : Config) (first : ProxyState) (history : List Link) (last : ProxyState) → IsChain (under server config) first history last
    → IsChain server first history last
chain_back server config first [] last h = h
chain_back server config first (link ∷ history) last h = (h.0, h.1, chain_back server config first history link.before h.2)
