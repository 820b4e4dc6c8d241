-- What a Request-URI decides of, as it was read.
use Rattle.std.proofs.Common.{◌≡◌, ℕ, false, List, Option, Some, None, refl, ap}
use Rattle.std.specs.Prelude.{option_map}
use Rattle.sip_uri.specs.declared.uri.Uri.{Uri}
use Rattle.sip_uri.specs.declared.aor.Aor.{Aor}
use Rattle.sip_policy.specs.declared.decision.Decision.{Decision}
use Rattle.sip_policy.specs.User.{is_users_address, is_own_domain}
use Rattle.sip_location.specs.declared.binding.Binding.{Binding}
use Rattle.sip_location.specs.Binding.{contacts_of}
use Rattle.sip_targets.specs.Targets.{targets_for}
use Rattle.model_verdict.specs.state.declared.server.Server.{Server}
use Rattle.model_verdict.specs.Verdict.{is_own_uri, targets_by}

pub by_host : (server : Server) (uri : Option Uri) (host : List ℕ) → Some host ≡ option_map (λ u. u.host) uri
    → is_own_domain server.config.own.domains host ≡ is_own_uri server uri
by_host server None host is = absurd cc
by_host server (Some uri) host is = let same : host ≡ uri.host = cc in ap (is_own_domain server.config.own.domains) same

pub by_none : (server : Server) (uri : Option Uri) → None ≡ option_map (λ u. u.host) uri → false ≡ is_own_uri server uri
by_none server None is = refl
by_none server (Some uri) is = absurd cc

pub targets_are : (server : Server) (rows : List Binding) (now : ℕ) (target : Aor) (decision : Decision) (uri : Option Uri)
    → targets_for decision (is_users_address server.config.users server.config.own.domains target) uri (contacts_of rows now target) server.config.hops
    server.config.addresses
    ≡ targets_by server rows now target decision uri
targets_are server rows now target decision None = refl
targets_are server rows now target decision (Some uri) = refl
