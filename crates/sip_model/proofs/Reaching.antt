-- The targets of a request outside a dialog are the live bindings, or the hop.
use Rattle.std.proofs.Common.{◌≡◌, ℕ, List, [], ◌∷◌, map, cond, Bool, true, false, refl, ◌∙◌, ap, Option, Some}
use Rattle.sip_uri.specs.declared.uri.Uri.{Uri}
use Rattle.sip_uri.specs.declared.aor.Aor.{Aor}
use Rattle.sip_uri.specs.Aor.{aor_of}
use Rattle.sip_message_form.specs.declared.message.Message.{Message}
use Rattle.sip_header.specs.declared.core_fields.CoreFields.{CoreFields}
use Rattle.sip_route.specs.Way.{request_uri_of}
use Rattle.sip_uri.specs.declared.addr.Addr.{Addr}
use Rattle.sip_hops.specs.Hop.{hop_of}
use Rattle.sip_policy.specs.declared.decision.Decision.{Decision}
use Rattle.sip_policy.specs.User.{is_users_address}
use Rattle.sip_location.specs.declared.binding.Binding.{Binding}
use Rattle.sip_location.specs.Binding.{live, contacts_of}
use Rattle.sip_targets.specs.declared.target.Target.{Target}
use Rattle.sip_targets.specs.Target.{target_for}
use Rattle.sip_targets.specs.declared.targets.Targets.{Targets}
use Rattle.sip_targets.specs.Targets.{targets_at, target_by, target_list}
use Rattle.model_steps.specs.state.declared.server.Server.{Server}
use Rattle.sip_location.specs.Registering.{to_aor, aor_or_nobody}
use Rattle.model_steps.specs.state.declared.proxy_state.ProxyState.{ProxyState}
use Rattle.model_steps.specs.verdict_model.Verdict.{is_register, targets_by}
use Rattle.sip_model.specs.Access.{decision_on, targets_on}

-- one target for each contact, also where there is none
each_contact : (server : Server) (bindings : List Binding)
    → target_list (targets_at server.config.addresses (map (λ (b : Binding). b.uri) bindings)) ≡ map (λ (b : Binding). target_for server.config.addresses b.uri) bindings
each_contact server [] = refl
each_contact server (b ∷ bs) = ap (λ (ts : List Target). target_for server.config.addresses b.uri ∷ ts) (each_other server bs) where
  each_other : (s : Server) (others : List Binding) → map (target_for s.config.addresses) (map (λ (x : Binding). x.uri) others)
      ≡ map (λ (x : Binding). target_for s.config.addresses x.uri) others
  each_other s [] = refl
  each_other s (x ∷ xs) = ap (λ (ts : List Target). target_for s.config.addresses x.uri ∷ ts) (each_other s xs)

-- what is asked for a request that isn't a REGISTER is asked for its Request-URI's address of record
asked_aor : (b : Bool) (core : CoreFields) (o : Option Uri) (uri : Uri) → b ≡ false → o ≡ Some uri → cond b (to_aor core) (aor_or_nobody o) ≡ aor_of uri
asked_aor true core o uri r u = cc
asked_aor false core o uri r u = ap aor_or_nobody u

-- the targets that an allowing decision gives to a user's address
allowed_targets : (server : Server) (rows : List Binding) (now id : ℕ) (target : Aor) (o : Option Uri) (uri : Uri) → o ≡ Some uri → target ≡ aor_of uri
    → is_users_address server.config.users server.config.own.domains (aor_of uri) ≡ true
    → target_list (targets_by server rows now target (Decision.Allow id) o) ≡ map (λ (b : Binding). target_for server.config.addresses b.uri) (live (aor_of uri) now rows)
allowed_targets server rows now id target o uri u t known =
    ap (λ x. target_list (targets_by server rows now target (Decision.Allow id) x)) u
    ∙ ap (λ aor. target_list (targets_by server rows now aor (Decision.Allow id) (Some uri))) t
    ∙ ap (λ k. target_list (cond k (targets_at server.config.addresses (contacts_of rows now (aor_of uri))) Targets.NotFound)) known
    ∙ each_contact server (live (aor_of uri) now rows)

-- the target that a decision for a hop gives
hop_targets : (server : Server) (rows : List Binding) (now id : ℕ) (hop : ℕ) (target : Aor) (o : Option Uri) (uri : Uri) (address : Addr) → o ≡ Some uri
    → hop_of server.config.hops hop ≡ Some address
    → target_list (targets_by server rows now target (Decision.Via id hop) o) ≡ record { uri = uri; address = Some address } ∷ []
hop_targets server rows now id hop target o uri address u h =
    ap (λ x. target_list (targets_by server rows now target (Decision.Via id hop) x)) u ∙ ap (λ found. target_list (target_by uri found)) h

module _ (server : Server) (rows : List Binding) (state : ProxyState) (now : ℕ) (m : Message) (method : List ℕ) (core : CoreFields) where
  -- a request that is let through to a user's address goes to exactly the live bindings
  pub reaches_bindings : (id : ℕ) (uri : Uri) → is_register method ≡ false → decision_on server state now m method core ≡ Decision.Allow id
      → request_uri_of server.config.own m ≡ Some uri
      → is_users_address server.config.users server.config.own.domains (aor_of uri) ≡ true
      → targets_on server rows state now m method core ≡ map (λ (b : Binding). target_for server.config.addresses b.uri) (live (aor_of uri) now rows)
  reaches_bindings id uri r d u known =
      ap (λ b. cond b [] (target_list (targets_by server rows now (cond (is_register method) (to_aor core) (aor_or_nobody (request_uri_of server.config.own m)))
      (decision_on server state now m method core) (request_uri_of server.config.own m)))) r
      ∙ ap (λ decision. target_list (targets_by server rows now (cond (is_register method) (to_aor core) (aor_or_nobody (request_uri_of server.config.own m))) decision
      (request_uri_of server.config.own m))) d
      ∙ allowed_targets server rows now id (cond (is_register method) (to_aor core) (aor_or_nobody (request_uri_of server.config.own m)))
      (request_uri_of server.config.own m) uri u
      (asked_aor (is_register method) core (request_uri_of server.config.own m) uri r u) known

  -- one that is let through by a hop goes there
  pub reaches_hop : (id : ℕ) (hop : ℕ) (uri : Uri) (address : Addr) → is_register method ≡ false → decision_on server state now m method core ≡ Decision.Via id hop
      → request_uri_of server.config.own m ≡ Some uri → hop_of server.config.hops hop ≡ Some address
      → targets_on server rows state now m method core ≡ record { uri = uri; address = Some address } ∷ []
  reaches_hop id hop uri address r d u h =
      ap (λ b. cond b [] (target_list (targets_by server rows now (cond (is_register method) (to_aor core) (aor_or_nobody (request_uri_of server.config.own m)))
      (decision_on server state now m method core) (request_uri_of server.config.own m)))) r
      ∙ ap (λ decision. target_list (targets_by server rows now (cond (is_register method) (to_aor core) (aor_or_nobody (request_uri_of server.config.own m))) decision
      (request_uri_of server.config.own m))) d
      ∙ hop_targets server rows now id hop (cond (is_register method) (to_aor core) (aor_or_nobody (request_uri_of server.config.own m)))
      (request_uri_of server.config.own m) uri address u h

  -- a REGISTER goes nowhere
  pub reaches_none : is_register method ≡ true → targets_on server rows state now m method core ≡ []
  reaches_none r =
      ap (λ b. cond b [] (target_list (targets_by server rows now (cond (is_register method) (to_aor core) (aor_or_nobody (request_uri_of server.config.own m)))
      (decision_on server state now m method core) (request_uri_of server.config.own m)))) r
