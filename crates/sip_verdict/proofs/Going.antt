-- Where a request goes in a dialog that is known, by what was read of it.
use Rattle.std.proofs.Common.{◌≡◌, ◌∙◌, ℕ, Bool, true, false, cond, List, [], ◌∷◌, length, Option, Some, None, option_map, refl, ap, sym, arith}
use Rattle.std.specs.Option.{option_and_then, option_map_or}
use Rattle.std.specs.Result.{result_ok}
use Rattle.std.proofs.lemmas.Option.{same_Some}
use Rattle.sip_dialog.specs.declared.dialog.Dialog.{Dialog}
use Rattle.sip_dialog.specs.declared.dialog.DialogId.{DialogId}
use Rattle.sip_dialog.specs.DialogId.{id_of}
use Rattle.sip_dialog.specs.Dialogs.{is_in_dialog}
use Rattle.sip_message_form.specs.declared.message.Message.{Message}
use Rattle.sip_header.specs.declared.core_fields.CoreFields.{CoreFields}
use Rattle.sip_header.specs.CoreFields.{core_of}
use Rattle.sip_header.specs.NameAddr.{sip_uri}
use Rattle.sip_header.specs.Parameters.{tag_of}
use Rattle.sip_hops.specs.HostAddress.{address_of}
use Rattle.sip_uri.specs.declared.addr.Addr.{Addr}
use Rattle.model_verdict.specs.state.declared.server.Server.{Server}
use Rattle.model_verdict.specs.state.Dialogs.{dialog_of}
use Rattle.model_verdict.specs.state.Names.{names_of, names_in, names_within, id_to}
use Rattle.model_verdict.specs.state.declared.names.DialogNames.{DialogNames}
use Rattle.sip_uri.specs.declared.uri.Uri.{Uri}
use Rattle.sip_route.specs.declared.way.Way.{Way}
use Rattle.sip_route.specs.Way.{way_of, first_route, request_uri_in, request_uri_of, next_uri}
use Rattle.model_verdict.specs.Verdict.{next_address, within_at}
use Rattle.sip_verdict.specs.Within.{GoesOn}

-- the dialog that a request names, by its core fields
named_by : (m : Message) (core : CoreFields) → result_ok (core_of m) ≡ Some core → dialog_of m ≡ id_of core
named_by m core is = ap (λ (c : Option CoreFields). option_and_then (λ (core : CoreFields). id_of core) c) is

-- the address where it is to go next, by its way
addressed_by : (server : Server) (m : Message) (way : Way) → way ≡ way_of server.config.own m
    → next_address server m ≡ option_and_then (address_of server.config.addresses) (next_uri way)
addressed_by server m way is = ap (λ (w : Way). option_and_then (address_of server.config.addresses) (next_uri w)) (sym is)

-- the Request-URI that is left on its way
pub left : (server : Server) (m : Message) (way : Way) (uri : Option Uri) → way ≡ way_of server.config.own m → uri ≡ request_uri_of server.config.own m
    → uri ≡ request_uri_in way
left server m way uri is_way is_uri = is_uri ∙ ap request_uri_in (sym is_way)

-- without a Route it goes there
straight_by : (routes : List (List ℕ)) (uri : Option Uri) → length routes ≡ 0 → uri ≡ option_map_or (λ route. sip_uri route.uri) (first_route routes) uri
straight_by [] uri none = refl
straight_by (x ∷ xs) uri none = absurd (omega (arith, none))

pub straight : (server : Server) (way : Way) (uri : Option Uri) → uri ≡ request_uri_in way → length way.routes ≡ 0
    → option_and_then (address_of server.config.addresses) uri ≡ option_and_then (address_of server.config.addresses) (next_uri way)
straight server way uri is none =
    ap (λ (u : Option Uri). option_and_then (address_of server.config.addresses) u) (is ∙ straight_by way.routes (request_uri_in way) none)

-- it names no dialog
pub unnamed : (server : Server) (dialogs : List Dialog) (now : ℕ) (m : Message) (core : CoreFields) → result_ok (core_of m) ≡ Some core → None ≡ id_of core
    → GoesOn server dialogs now m None
unnamed server dialogs now m core is_core none state same on other =
    ap (λ (id : Option DialogId). within_at state now on other id (next_address server m)) (named_by m core is_core ∙ sym none)

-- it has no address
pub unaddressed : (server : Server) (dialogs : List Dialog) (now : ℕ) (m : Message) (core : CoreFields) (way : Way) (id : DialogId) → result_ok (core_of m) ≡ Some core
    → way ≡ way_of server.config.own m → Some id ≡ id_of core → None ≡ option_and_then (address_of server.config.addresses) (next_uri way)
    → GoesOn server dialogs now m None
unaddressed server dialogs now m core way id is_core is_way is_id none state same on other =
    ap (λ (i : Option DialogId). within_at state now on other i (next_address server m)) (named_by m core is_core ∙ sym is_id)
    ∙ ap (λ (a : Option Addr). within_at state now on other (Some id) a) (addressed_by server m way is_way ∙ sym none)

-- it names a dialog and has an address, which a known dialog of that name holds or not
at_address : (server : Server) (dialogs : List Dialog) (now : ℕ) (m : Message) (core : CoreFields) (way : Way) (id : DialogId) (address : Addr) (holds : Bool)
    → result_ok (core_of m) ≡ Some core → way ≡ way_of server.config.own m → Some id ≡ id_of core
    → Some address ≡ option_and_then (address_of server.config.addresses) (next_uri way) → is_in_dialog now dialogs id address ≡ holds
    → GoesOn server dialogs now m (cond holds (Some (address, id)) None)
at_address server dialogs now m core way id address true is_core is_way is_id is_address is state same on other =
    ap (λ (i : Option DialogId). within_at state now on other i (next_address server m)) (named_by m core is_core ∙ sym is_id)
    ∙ ap (λ (a : Option Addr). within_at state now on other (Some id) a) (addressed_by server m way is_way ∙ sym is_address)
    ∙ ap (λ (b : Bool). cond b (on address id) other) (ap (λ (ds : List Dialog). is_in_dialog now ds id address) same ∙ is)
at_address server dialogs now m core way id address false is_core is_way is_id is_address is state same on other =
    ap (λ (i : Option DialogId). within_at state now on other i (next_address server m)) (named_by m core is_core ∙ sym is_id)
    ∙ ap (λ (a : Option Addr). within_at state now on other (Some id) a) (addressed_by server m way is_way ∙ sym is_address)
    ∙ ap (λ (b : Bool). cond b (on address id) other) (ap (λ (ds : List Dialog). is_in_dialog now ds id address) same ∙ is)

pub held : (server : Server) (dialogs : List Dialog) (now : ℕ) (m : Message) (core : CoreFields) (way : Way) (id : DialogId) (address : Addr)
    → result_ok (core_of m) ≡ Some core
    → way ≡ way_of server.config.own m → Some id ≡ id_of core → Some address ≡ option_and_then (address_of server.config.addresses) (next_uri way)
    → is_in_dialog now dialogs id address ≡ true → GoesOn server dialogs now m (Some (address, id))
held server dialogs now m core way id address is_core is_way is_id is_address is =
    at_address server dialogs now m core way id address true is_core is_way is_id is_address is

pub not_held : (server : Server) (dialogs : List Dialog) (now : ℕ) (m : Message) (core : CoreFields) (way : Way) (id : DialogId) (address : Addr)
    → result_ok (core_of m) ≡ Some core
    → way ≡ way_of server.config.own m → Some id ≡ id_of core → Some address ≡ option_and_then (address_of server.config.addresses) (next_uri way)
    → is_in_dialog now dialogs id address ≡ false → GoesOn server dialogs now m None
not_held server dialogs now m core way id address is_core is_way is_id is_address is =
    at_address server dialogs now m core way id address false is_core is_way is_id is_address is

-- what names the dialogs of a request that names this one
by_tag : (core : CoreFields) (id : DialogId) (tag : Option (List ℕ)) → tag_of core.to.parameters ≡ tag
    → Some id ≡ option_map (λ (t : List ℕ). id_to t (names_of core)) tag → names_within id ≡ names_of core
by_tag core id None e is = absurd cc
by_tag core id (Some tag) e is =
    ap names_within (same_Some id (id_to tag (names_of core)) is)
    ∙ ap (λ (t : Option (List ℕ)). record (names_of core) { to_tag = t }) (sym e)

pub names_are : (m : Message) (core : CoreFields) (id : DialogId) (names : DialogNames) → result_ok (core_of m) ≡ Some core → Some id ≡ id_of core
    → names ≡ names_within id
    → Some names ≡ names_in m
names_are m core id names is_core is_id is =
    ap Some (is ∙ by_tag core id (tag_of core.to.parameters) refl is_id) ∙ sym (ap (λ (c : Option CoreFields). option_map names_of c) is_core)
