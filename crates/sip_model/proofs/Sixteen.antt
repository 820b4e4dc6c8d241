-- No address of record has more than 16 live bindings, and no request more than 16 targets.
use Rattle.std.proofs.Common.{◌≡◌, ℕ, ◌+◌, ◌≤◌, Bool, true, false, cond, ◌&&◌, List, [], ◌∷◌, length, map, Option, Some, None, Ok, Err, refl, sym, subst, arith}
use Rattle.std.specs.Prelude.{Result}
use Rattle.std.specs.Option.{option_map_or}
use Rattle.std.specs.Result.{result_ok}
use Rattle.std.specs.List.{AllByRecursion}
use Rattle.sip_uri.specs.declared.uri.Uri.{Uri}
use Rattle.sip_uri.specs.declared.aor.Aor.{Aor}
use Rattle.sip_message_form.specs.declared.message.Message.{Message}
use Rattle.sip_header.specs.declared.core_fields.CoreFields.{CoreFields}
use Rattle.sip_header.specs.CoreFields.{core_of}
use Rattle.sip_route.specs.Way.{request_uri_of}
use Rattle.sip_hops.specs.declared.host_address.HostAddress.{HostAddress}
use Rattle.sip_hops.specs.Hop.{hop_of}
use Rattle.sip_uri.specs.declared.addr.Addr.{Addr}
use Rattle.sip_policy.specs.declared.decision.Decision.{Decision}
use Rattle.sip_policy.specs.User.{is_users_address}
use Rattle.sip_location.specs.declared.binding.Binding.{Binding}
use Rattle.sip_location.specs.declared.error.LocationError.{LocationError}
use Rattle.sip_location.specs.declared.error.LocationError.TheVariants.{NoMemory, BadStar, TooBrief, OldCSeq, TooMany}
use Rattle.sip_location.specs.Binding.{live, contacts_of}
use Rattle.sip_location.specs.Registration.{registered}
use Rattle.sip_location.specs.Registering.{to_aor, registration_of}
use Rattle.sip_location.proofs.Updates.{few_ever}
use Rattle.sip_targets.specs.declared.target.Target.{Target}
use Rattle.sip_targets.specs.declared.targets.Targets.{Targets}
use Rattle.sip_targets.specs.Target.{target_for}
use Rattle.sip_targets.specs.Targets.{targets_at, target_by, target_list}
use Rattle.model_steps.specs.state.declared.server.Server.{Server}
use Rattle.model_steps.specs.state.declared.proxy_state.ProxyState.{ProxyState}
use Rattle.model_steps.specs.state.State.{first_state}
use Rattle.model_steps.specs.verdict_model.declared.question.Question.{Question}
use Rattle.model_steps.specs.verdict_model.Verdict.{Refused, registered_by, is_own_uri, registration_by, targets_by, request_targets}
use Rattle.model_steps.specs.context_model.Opening.{branches_from}
use Rattle.sip_model.specs.Run.{Link, under, IsChain}
use Rattle.sip_model.specs.Bindings.{Arrived, rows_after, bindings_by, allowed_registers}
use Rattle.sip_model.proofs.Finals.{IsOfSixteen}
use Rattle.sip_model.proofs.Registers.{bindings_of_chain}

-- ---- bindings

-- rows in which no address of record has more than 16 live bindings, at any moment
abbrev HasFew : List Binding → Type 0
HasFew rows = (aor : Aor) (moment : ℕ) → length (live aor moment rows) ≤ 16

-- a registration leaves such rows
few_registered : (rows : List Binding) (outcome : Result (List Binding) LocationError) → HasFew rows → ((after : List Binding) → outcome ≡ Ok after → HasFew after)
    → HasFew (rows_after rows (registered_by outcome))
few_registered rows (Ok after) few h = h after refl
few_registered rows (Err NoMemory) few h = few
few_registered rows (Err BadStar) few h = few
few_registered rows (Err TooBrief) few h = few
few_registered rows (Err OldCSeq) few h = few
few_registered rows (Err TooMany) few h = few

-- so does a REGISTER that was let through
few_bound : (server : Server) (rows : List Binding) (now : ℕ) (m : Message) (core : CoreFields) → HasFew rows
    → HasFew (rows_after rows (registration_by server rows now m core))
few_bound server rows now m core few = by_test (is_own_uri server (request_uri_of server.config.own m)
    && is_users_address server.config.users server.config.own.domains (to_aor core)) where
      by_test : (t : Bool) → HasFew (rows_after rows (cond t (registered_by (registered rows (registration_of core m.fields) now)) (Refused 404 [])))
      by_test true =
          few_registered rows (registered rows (registration_of core m.fields) now) few
          (λ after e. λ aor moment. few_ever rows after (registration_of core m.fields) now moment e (λ other. few other moment) aor)
      by_test false = few

-- and all of some REGISTERs
few_by : (server : Server) (rs : List Arrived) → HasFew (bindings_by server rs)
few_by server [] = λ aor moment. omega arith
few_by server (r ∷ rs) = by_core (few_by server rs) (result_ok (core_of r.request)) where
  by_core : HasFew (bindings_by server rs) → (o : Option CoreFields)
      → HasFew (option_map_or (λ core. rows_after (bindings_by server rs) (registration_by (under server r.config) (bindings_by server rs) r.at r.request core)) o
      (bindings_by server rs))
  by_core few None = few
  by_core few (Some core) = few_bound (under server r.config) (bindings_by server rs) r.at r.request core few

-- no address of record has more than 16 bindings that live at a state's moment, or later
abbrev pub AreFew : ProxyState → Type 0
AreFew state = (aor : Aor) (moment : ℕ) → state.moment ≤ moment → length (live aor moment state.bindings) ≤ 16

-- none has over any history
pub few_of_chain : (server : Server) (first : ℕ) (history : List Link) (last : ProxyState) → IsChain server (first_state first) history last → AreFew last
few_of_chain server first history last h = λ aor moment after.
    subst (λ (lives : List Binding). length lives ≤ 16) (sym (bindings_of_chain server first history last h aor moment after))
    (few_by server (allowed_registers server history) aor moment)

-- ---- targets

-- as many targets as contacts, and as many contacts as bindings
pub length_mapped : {X Y : Type 0} (f : X → Y) (xs : List X) → length (map f xs) ≡ length xs
length_mapped f [] = refl
length_mapped f (x ∷ xs) = omega (arith, length_mapped f xs)

-- no more targets than contacts
few_contacts : (addresses : List HostAddress) (contacts : List Uri) → length contacts ≤ 16 → length (target_list (targets_at addresses contacts)) ≤ 16
few_contacts addresses [] few = omega arith
few_contacts addresses (contact ∷ contacts) few = omega (arith, few, length_mapped (target_for addresses) (contact ∷ contacts))

-- one by a hop
one_by_hop : (uri : Uri) (o : Option Addr) → length (target_list (target_by uri o)) ≤ 16
one_by_hop uri None = omega arith
one_by_hop uri (Some address) = omega arith

-- a request has at most 16 targets, where no address of record has more bindings
pub few_targets : (server : Server) (rows : List Binding) (now : ℕ) (m : Message) (q : Question) (decision : Decision) → ((aor : Aor) → length (live aor now rows) ≤ 16)
    → length (target_list (request_targets server rows now m q decision)) ≤ 16
few_targets server rows now m q decision few = by_uri (request_uri_of server.config.own m) decision where
  by_test : (t : Bool) → length (target_list (cond t (targets_at server.config.addresses (contacts_of rows now q.target)) Targets.NotFound)) ≤ 16
  by_test true = few_contacts server.config.addresses (contacts_of rows now q.target)
      (omega (arith, few q.target, length_mapped (λ (b : Binding). b.uri) (live q.target now rows)))
  by_test false = omega arith

  by_uri : (o : Option Uri) (d : Decision) → length (target_list (targets_by server rows now q.target d o)) ≤ 16
  by_uri None d = omega arith
  by_uri (Some uri) (Decision.Via id hop) = one_by_hop uri (hop_of server.config.hops hop)
  by_uri (Some uri) (Decision.Allow id) = by_test (is_users_address server.config.users server.config.own.domains q.target)
  by_uri (Some uri) (Decision.Deny id) = omega arith
  by_uri (Some uri) Decision.Challenge = omega arith

-- its branches are numbered up to 16
pub numbered_to_sixteen : (now first : ℕ) (targets : List Target) → first + length targets ≤ 17 → AllByRecursion IsOfSixteen (branches_from now first targets)
numbered_to_sixteen now first [] few = tt
numbered_to_sixteen now first (t ∷ ts) few = (omega (arith, few), numbered_to_sixteen now (first + 1) ts (omega (arith, few)))
