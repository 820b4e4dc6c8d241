-- Where a request goes, said with the headline's words.
use Rattle.std.proofs.Common.{◌≡◌, ℕ, Bool, true, false, cond, List, [], ◌∷◌, map, Option, Some, None, option_map, refl, sym, ap, subst}
use Rattle.std.specs.Option.{option_map_or}
use Rattle.std.specs.List.{AllZip, filter_map, cons_option}
use Rattle.sip_uri.specs.declared.addr.Addr.{Addr}
use Rattle.sip_uri.specs.declared.uri.Uri.{Uri}
use Rattle.sip_uri.specs.declared.aor.Aor.{Aor}
use Rattle.sip_uri.specs.Uri as UriText
use Rattle.sip_uri.specs.Aor.{aor_of}
use Rattle.sip_route.specs.Way.{request_uri_of}
use Rattle.sip_hops.specs.Hop.{hop_of}
use Rattle.sip_policy.specs.declared.decision.Decision.{Decision}
use Rattle.sip_policy.specs.User.{is_users_address}
use Rattle.sip_location.specs.declared.binding.Binding.{Binding}
use Rattle.sip_location.specs.Binding.{contacts_of}
use Rattle.sip_location.specs.Registering.{aor_or_nobody, to_aor}
use Rattle.sip_targets.specs.declared.target.Target.{Target}
use Rattle.sip_targets.specs.declared.targets.Targets.{Targets}
use Rattle.sip_targets.specs.Target.{target_for}
use Rattle.sip_targets.specs.Targets.{targets_at, target_by, targets_for, target_list}
use Rattle.sip_event.specs.declared.packet.Packet.{Packet}
use Rattle.sip_model.specs.state.declared.server.Server.{Server}
use Rattle.sip_model.specs.verdict_model.Verdict.{is_register}
use Rattle.sip_model.specs.Run.{Link}
use Rattle.sip_model.specs.Access.{targets_on}
use Rattle.model_laws.specs.Packets.{GoToTargets, NoMore, Goes, GoesNowhere}
use Rattle.model_laws.specs.Headline.{Came, decided, led_by, places, place_of, GoesTo}
use Rattle.model_laws.specs.Proven.{by_digest}

-- ---- packets to targets

-- the address of a target, if it has one, and the text of its URI
abbrev pub spot_of : Target → Option (Addr × List ℕ)
spot_of t = option_map (λ address. (address, UriText.text_of t.uri)) t.address

-- packets that go to some targets go to these
pub zipped : (number : ℕ) (method : List ℕ) (place : ℕ) (ts : List Target) (ps : List Packet)
    → GoToTargets number method place ts ps → AllZip (GoesTo method) ps (filter_map spot_of ts)
zipped number method _ _ _ (NoMore place) = tt
zipped number method _ _ _ (Goes place t address p ts ps is goes rest) =
    subst (λ (o : Option Addr). AllZip (GoesTo method) (p ∷ ps) (cons_option (option_map (λ (x : Addr). (x, UriText.text_of t.uri)) o) (filter_map spot_of ts))) (sym is)
    ((goes.goes_there, goes.begins), zipped number method _ ts ps rest)
zipped number method _ _ _ (GoesNowhere place t ts ps is rest) =
    subst (λ (o : Option Addr). AllZip (GoesTo method) ps (cons_option (option_map (λ (x : Addr). (x, UriText.text_of t.uri)) o) (filter_map spot_of ts))) (sym is)
    (zipped number method _ ts ps rest)

-- ---- the targets

module _ (server : Server) (rows : List Binding) (now : ℕ) where
  -- the targets of a request for an address of record, by a decision
  abbrev given : Decision → Aor → Option Uri → List Target
  given decision aor uri =
      target_list
      (targets_for decision (is_users_address server.config.users server.config.own.domains aor) uri (contacts_of rows now aor) server.config.hops
      server.config.addresses)

  spots_are : (contacts : List Uri) → filter_map spot_of (map (target_for server.config.addresses) contacts) ≡ filter_map (place_of server.config.addresses) contacts
  spots_are [] = refl
  spots_are (c ∷ cs) = ap (cons_option (place_of server.config.addresses c)) (spots_are cs)

  by_decision : (decision : Decision) (uri : Uri) → filter_map spot_of (given decision (aor_of uri) (Some uri)) ≡ led_by server rows now decision uri
  by_decision (Decision.Allow id) uri = by_known (is_users_address server.config.users server.config.own.domains (aor_of uri)) (contacts_of rows now (aor_of uri)) where
    by_known : (t : Bool) (contacts : List Uri)
        → filter_map spot_of (target_list (cond t (targets_at server.config.addresses contacts) Targets.NotFound))
        ≡ cond t (filter_map (place_of server.config.addresses) contacts) []
    by_known true [] = refl
    by_known true (c ∷ cs) = spots_are (c ∷ cs)
    by_known false contacts = refl
  by_decision (Decision.Via id hop) uri = by_hop (hop_of server.config.hops hop) where
    by_hop : (o : Option Addr) → filter_map spot_of (target_list (target_by uri o)) ≡ option_map_or (λ address. (address, UriText.text_of uri) ∷ []) o []
    by_hop None = refl
    by_hop (Some address) = refl
  by_decision (Decision.Deny id) uri = refl
  by_decision Decision.Challenge uri = refl

  by_uri : (decision : Decision) (o : Option Uri) → filter_map spot_of (given decision (aor_or_nobody o) o) ≡ option_map_or (led_by server rows now decision) o []
  by_uri decision None = refl
  by_uri decision (Some uri) = by_decision decision uri

-- those of the model
pub same_places : (server : Server) (rows : List Binding) (link : Link) (q : Came)
    → filter_map spot_of (targets_on server rows link.before q.now q.message q.method q.core) ≡ places by_digest server rows link q
same_places server rows link q = by_test (decided by_digest server link q) (is_register q.method) where
  by_test : (decision : Decision) (t : Bool)
      → filter_map spot_of
      (cond t [] (given server rows q.now decision (cond t (to_aor q.core) (aor_or_nobody (request_uri_of server.config.own q.message)))
      (request_uri_of server.config.own q.message)))
      ≡ cond t [] (option_map_or (led_by server rows q.now decision) (request_uri_of server.config.own q.message) [])
  by_test decision true = refl
  by_test decision false = by_uri server rows q.now decision (request_uri_of server.config.own q.message)
