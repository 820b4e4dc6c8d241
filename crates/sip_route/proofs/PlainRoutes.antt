-- Routes as proxies write them.
use Rattle.std.proofs.Common.{◌≡◌, ℕ, false, List, [], ◌∷◌, Option, sym, ap, ◌∙◌}
use Rattle.std.specs.Prelude.{◌&&◌, ◌==◌}
use Rattle.std.specs.Option.{option_map_or, unwrap_or}
use Rattle.sip_uri.specs.Port.{port_number}
use Rattle.sip_header.specs.declared.name_addr.NameAddr.{NameAddr}
use Rattle.sip_header.specs.PlainAddress.{IsBracketedHostPort}
use Rattle.sip_route.specs.declared.own.Own.{Own}
use Rattle.sip_route.specs.Own.{is_own_host}
use Rattle.sip_route.specs.Way.{names_own_host_port, begins_with_own}
use Rattle.sip_uri.proofs.PlainUris.{number_is}

pub own_at : (own : Own) (value host : List ℕ) (port : Option ℕ) → IsBracketedHostPort value host port
    → (is_own_host own host && unwrap_or port 5060 == own.port) ≡ begins_with_own own (value ∷ [])
own_at own value host port is =
    let first : begins_with_own own (value ∷ []) ≡ names_own_host_port own is.address.uri =
    ap (λ (o : Option NameAddr). option_map_or (λ route. names_own_host_port own route.uri) o false) is.is_route in
    let named : names_own_host_port own is.address.uri ≡ (is_own_host own is.uri.host && unwrap_or (port_number is.uri.port) 5060 == own.port) =
    ap (names_own_host_port own) is.has_uri in
    sym (first ∙ named ∙ ap (λ (h : List ℕ). is_own_host own h && unwrap_or (port_number is.uri.port) 5060 == own.port) is.has_host
    ∙ ap (λ (p : Option ℕ). is_own_host own host && unwrap_or p 5060 == own.port) (number_is is.uri.port port is.has_port))
