-- What the model takes for a valid new request is one for the headline, and the other way round.
use Rattle.std.proofs.Common.{◌≡◌, ◌∙◌, ◌⊎◌, inl, inr, ℕ, ◌<◌, ◌||◌, Bool, true, false, cond, not, List, length, find, Contains, codes, Option, Some, None, Result, Ok}
use Rattle.std.proofs.Common.{Err, option_map, option_and_then, is_some, refl, sym, ap, subst, arith}
use Rattle.std.specs.Prelude.{nat_le}
use Rattle.std.specs.Option.{option_map_or}
use Rattle.std.specs.Result.{result_ok}
use Rattle.std.proofs.lemmas.Bool.Decides.{nat_tests}
use Rattle.sip_uri.specs.declared.addr.Addr.{Addr}
use Rattle.sip_message_form.specs.declared.message.Start.{Start}
use Rattle.sip_message_form.specs.declared.message.Start.TheVariants.{Request}
use Rattle.sip_message_form.specs.declared.message.Message.{Message}
use Rattle.sip_message.specs.Start.{IsStart}
use Rattle.sip_message.specs.Says.{Says}
use Rattle.sip_message.specs.Reading.{reading_of}
use Rattle.sip_message.proofs.SaysLaws.{says_of, reading_is}
use Rattle.sip_header.specs.declared.core_fields.CoreFields.{CoreFields}
use Rattle.sip_header.specs.declared.error.HeaderError.{HeaderError}
use Rattle.sip_header.specs.CoreFields.{core_in, core_of}
use Rattle.sip_transaction_table.specs.declared.key.TransactionKey.{TransactionKey}
use Rattle.sip_route.specs.declared.own.Own.{Own}
use Rattle.sip_validate.specs.UncheckedRequest.{UncheckedRequest, unchecked_with}
use Rattle.sip_validate.specs.Faults.{has_short_body, lacks_core_field, has_other_cseq_method, has_bad_max_forwards, has_bad_uri, has_bad_item, registers_other_scheme}
use Rattle.sip_validate.specs.Faults.{binds_other_contact, is_bad}
use Rattle.sip_validate.specs.Refusal.{Row, has_other_version, has_other_scheme, has_no_hops, has_own_via, needs_extension, has_other_route, refusal, refusal_of}
use Rattle.sip_dialog.specs.declared.dialog.DialogId.{DialogId}
use Rattle.sip_dialog.specs.DialogId.{id_of}
use Rattle.sip_event.specs.declared.event.Event.TheVariants.{Datagram}
use Rattle.sip_model.specs.state.declared.server.Server.{Server}
use Rattle.sip_model.specs.state.declared.open_request.OpenRequest.{OpenRequest}
use Rattle.sip_model.specs.state.State.{has_key}
use Rattle.sip_model.specs.state.Arrival.{Arrival}
use Rattle.sip_model.specs.verdict_model.Verdict.{message_in, is_register}
use Rattle.sip_model.specs.steps_model.Step.{Given}
use Rattle.sip_model.specs.Run.{Link}
use Rattle.sip_model.specs.Access.{IsSaidAt, IsNewRequest}
use Rattle.sip_model.proofs.Places.{none_found, found_in, contains_from_in}
use Rattle.model_laws.specs.Headline.{Came, checked, IsSaid, IsChecked, IsValid, IsNew}
use Rattle.model_laws.proofs.Belonging.{counted}
use Rattle.model_laws.proofs.OneKey.{equal_keys, same_keys}
use Rattle.model_laws.proofs.Branching.{valid_version}
use Rattle.model_laws.proofs.Heads.{reads}

-- a request that came in a datagram
abbrev pub came_in : Arrival → Message → List ℕ → CoreFields → Came
came_in a m method core = record { from = a.from; now = a.now; message = m; method = method; core = core }

-- ---- the checks

-- a request passes each of them
record Passes (r : UncheckedRequest) : Type 0 where
  is_no_bad_one : is_bad r ≡ false
  has_version : has_other_version r ≡ false
  is_sip : has_other_scheme r ≡ false
  has_hops : has_no_hops r ≡ false
  is_no_loop : has_own_via r ≡ false
  needs_nothing : needs_extension r ≡ false
  goes_by_here : has_other_route r ≡ false

-- a row that doesn't apply, and those behind it
passed : (t : Bool) (row : Row) (o : Option Row) (f : Row → ℕ × List ℕ) → option_map f (cond t (Some row) o) ≡ None → (t ≡ false) × (option_map f o ≡ None)
passed true row o f e = absurd (cc)
passed false row o f e = (refl, e)

passing_on : (t : Bool) (row : Row) (o : Option Row) (f : Row → ℕ × List ℕ) → t ≡ false → option_map f o ≡ None → option_map f (cond t (Some row) o) ≡ None
passing_on true row o f is e = absurd (cc)
passing_on false row o f is e = e

-- a request that no row refuses passes each, and one that does is refused by none
passes_all : (r : UncheckedRequest) → refusal r ≡ None → Passes r
passes_all r e =
    let f : Row → ℕ × List ℕ = λ row. (row.status, row.extra r) in
    let one = passed (is_bad r) _ _ f e in
    let two = passed (has_other_version r) _ _ f one.1 in
    let three = passed (has_other_scheme r) _ _ f two.1 in
    let four = passed (has_no_hops r) _ _ f three.1 in
    let five = passed (has_own_via r) _ _ f four.1 in
    let six = passed (needs_extension r) _ _ f five.1 in
    let seven = passed (has_other_route r) _ _ f six.1 in
    record { is_no_bad_one = one.0; has_version = two.0; is_sip = three.0; has_hops = four.0; is_no_loop = five.0; needs_nothing = six.0; goes_by_here = seven.0 }

refused_by_none : (r : UncheckedRequest) → Passes r → refusal r ≡ None
refused_by_none r p =
    let f : Row → ℕ × List ℕ = λ row. (row.status, row.extra r) in
    passing_on (is_bad r) _ _ f p.is_no_bad_one
    (passing_on (has_other_version r) _ _ f p.has_version
    (passing_on (has_other_scheme r) _ _ f p.is_sip
    (passing_on (has_no_hops r) _ _ f p.has_hops
    (passing_on (has_own_via r) _ _ f p.is_no_loop
    (passing_on (needs_extension r) _ _ f p.needs_nothing (passing_on (has_other_route r) _ None f p.goes_by_here refl))))))

-- a bad request is one by a test of its own
either : (t u : Bool) → (t || u) ≡ false → (t ≡ false) × (u ≡ false)
either true u e = absurd (cc)
either false u e = (refl, e)

neither : (t u : Bool) → t ≡ false → u ≡ false → (t || u) ≡ false
neither true u e f = absurd (cc)
neither false u e f = f

-- so one that no row refuses is checked
checks : (r : UncheckedRequest) → Passes r → IsChecked r
checks r p =
    let one = either (has_short_body r) _ p.is_no_bad_one in
    let two = either (lacks_core_field r) _ one.1 in
    let three = either (has_other_cseq_method r) _ two.1 in
    let four = either (has_bad_max_forwards r) _ three.1 in
    let five = either (has_bad_uri r) _ four.1 in
    let six = either (has_bad_item r) _ five.1 in
    let seven = either (registers_other_scheme r) _ six.1 in
    let eight = either (binds_other_contact r) _ seven.1 in
    record {
      has_its_method = three.0;
      has_a_limit = four.0;
      has_a_uri = five.0;
      has_items = six.0;
      registers_sip = seven.0;
      binds_sip = eight.0;
      is_sip = p.is_sip;
      has_hops = p.has_hops;
      is_no_loop = p.is_no_loop;
      needs_nothing = p.needs_nothing;
      goes_by_here = p.goes_by_here;
    }

-- and one that is checked is refused by none
checks_back : (own : Own) (q : Came) (uri : List ℕ) → IsChecked (checked own q uri) → refusal (checked own q uri) ≡ None
checks_back own q uri c =
    let r : UncheckedRequest = checked own q uri in
    refused_by_none r (record {
      is_no_bad_one =
          neither (has_short_body r) _ refl
          (neither (lacks_core_field r) _ refl
          (neither (has_other_cseq_method r) _ c.has_its_method
          (neither (has_bad_max_forwards r) _ c.has_a_limit
          (neither (has_bad_uri r) _ c.has_a_uri
          (neither (has_bad_item r) _ c.has_items (neither (registers_other_scheme r) _ c.registers_sip (neither (binds_other_contact r) false c.binds_sip refl)))))));
      has_version = refl;
      is_sip = c.is_sip;
      has_hops = c.has_hops;
      is_no_loop = c.is_no_loop;
      needs_nothing = c.needs_nothing;
      goes_by_here = c.goes_by_here;
    })

-- what refuses a request is what refuses it as it is checked
refusal_is : (own : Own) (q : Came) (uri : List ℕ) → q.message.start ≡ Request q.method uri (codes "SIP/2.0") → core_of q.message ≡ Ok q.core
    → refusal_of own q.message false ≡ refusal (checked own q uri)
refusal_is own q uri start core =
    ap (λ (s : Start). option_map_or refusal (unchecked_with (result_ok (core_in q.message.fields)) own q.message.fields false s) None) start
    ∙ ap
    (λ (read : Result CoreFields HeaderError).
    option_map_or refusal (unchecked_with (result_ok read) own q.message.fields false (Request q.method uri (codes "SIP/2.0"))) None)
    core

-- a request that no check refuses is valid
pub valid_of : (server : Server) (link : Link) (a : Arrival) (bytes : List ℕ) (m : Message) (method uri version : List ℕ) (core : CoreFields)
    → IsSaidAt link.before link.act a bytes m false → m.start ≡ Request method uri version → core_of m ≡ Ok core → refusal_of server.config.own m false ≡ None
    → IsValid server link (came_in a m method core)
valid_of server link a bytes m method uri version core said start is_core valid =
    let both = says_of bytes m (reads (reading_of bytes) m said.says) in
    let line : m.start ≡ Request method uri (codes "SIP/2.0") = start ∙ ap (Request method uri) (valid_version server.config.own m method uri version start valid) in
    let q : Came = came_in a m method core in
    let says : Says bytes m = both.0 in
    record {
      at = said.at;
      word = said.word;
      bytes = bytes;
      uri = uri;
      is_act = said.is_act ∙ ap (λ (from : Addr). Given (Datagram said.at said.word from bytes)) (sym (ap (λ (x : Arrival). x.from) said.is_arrival));
      is_now = sym (ap (λ (x : Arrival). x.now) said.is_arrival);
      is_said = record {
        first = says.first;
        lines = says.lines;
        rest = says.rest;
        entries = says.entries;
        is_cut = says.is_cut;
        is_line = subst (λ (s : Start). IsStart says.first s) line says.is_start;
        is_request = line;
        are_entries = says.are_entries;
        are_kept = says.are_kept;
        is_body = says.is_body;
      };
      fits = both.1;
      core_is = is_core;
      passes = checks (checked server.config.own q uri) (passes_all (checked server.config.own q uri) (sym (refusal_is server.config.own q uri line is_core) ∙ valid));
    }

-- and is refused by none
valid_to : (server : Server) (link : Link) (q : Came) → IsValid server link q → refusal_of server.config.own q.message false ≡ None
valid_to server link q v = refusal_is server.config.own q v.uri v.is_said.is_request v.core_is ∙ checks_back server.config.own q v.uri v.passes

-- its datagram says its message
says_by : (bytes : List ℕ) (q : Came) (uri : List ℕ) → IsSaid bytes q uri → Says bytes q.message
says_by bytes q uri said = record {
  first = said.first;
  lines = said.lines;
  rest = said.rest;
  entries = said.entries;
  is_cut = said.is_cut;
  is_start = subst (λ (s : Start). IsStart said.first s) (sym said.is_request) said.is_line;
  are_entries = said.are_entries;
  are_kept = said.are_kept;
  is_body = said.is_body;
}

-- ---- a new request

-- where none is found none has the key
none_has : (key : TransactionKey) (rs : List OpenRequest) → find (has_key key) rs ≡ None → (r : OpenRequest) → Contains rs r → r.key ≡ key → ⊥
none_has key rs e r there same = absurd (omega (arith, none_found (has_key key) rs e, counted (has_key key) rs r there (same_keys r.key key same)))

-- and the other way round
none_is_found : (key : TransactionKey) (rs : List OpenRequest) → ((r : OpenRequest) → Contains rs r → r.key ≡ key → ⊥) → find (has_key key) rs ≡ None
none_is_found key rs none = by_find (find (has_key key) rs) refl where
  by_find : (o : Option OpenRequest) → find (has_key key) rs ≡ o → o ≡ None
  by_find None is = refl
  by_find (Some r) is = let found = found_in (has_key key) rs r is in absurd (none r (contains_from_in rs r found.0) (equal_keys r.key key found.1))

room : (count : ℕ) → nat_le 1024 count ≡ false → count < 1024
room count e = grind (arith, nat_tests)

room_back : (count : ℕ) → count < 1024 → nat_le 1024 count ≡ false
room_back count e = grind (arith, nat_tests)

outside : (t : Bool) (o : Option DialogId) → (t || not (is_some o)) ≡ true → (t ≡ true) ⊎ (o ≡ None)
outside true o e = inl refl
outside false None e = inr refl
outside false (Some id) e = absurd (cc)

outside_back : (t : Bool) (o : Option DialogId) → (t ≡ true) ⊎ (o ≡ None) → (t || not (is_some o)) ≡ true
outside_back true o e = refl
outside_back false None e = refl
outside_back false (Some id) (inl e) = absurd (cc)
outside_back false (Some id) (inr e) = absurd (cc)

-- what the model takes for a valid new request is one
pub new_of : (server : Server) (link : Link) (a : Arrival) (bytes : List ℕ) (m : Message) (method : List ℕ) (core : CoreFields)
    → IsSaidAt link.before link.act a bytes m false
    → IsNewRequest server link.before bytes m method core
    → IsNew server link (came_in a m method core)
new_of server link a bytes m method core said new = record {
  key = new.key;
  is_valid = valid_of server link a bytes m method new.uri new.version core said new.is_request new.core_is new.is_valid;
  key_is = new.key_is;
  is_new = none_has new.key link.before.requests new.is_new;
  is_no_ack = new.is_no_ack;
  is_no_cancel = new.is_no_cancel;
  has_room = room (length link.before.requests) new.has_room;
  is_outside = outside (is_register method) (id_of core) new.is_outside_dialog;
}

-- and the other way round
pub new_to : (server : Server) (link : Link) (q : Came) (new : IsNew server link q) → IsNewRequest server link.before new.is_valid.bytes q.message q.method q.core
new_to server link q new =
    let v : IsValid server link q = new.is_valid in
    record {
      uri = v.uri;
      version = codes "SIP/2.0";
      key = new.key;
      says = ap message_in (reading_is v.bytes q.message (says_by v.bytes q v.uri v.is_said) v.fits);
      is_request = v.is_said.is_request;
      key_is = new.key_is;
      is_new = none_is_found new.key link.before.requests new.is_new;
      is_no_ack = new.is_no_ack;
      is_no_cancel = new.is_no_cancel;
      is_valid = valid_to server link q v;
      has_room = room_back (length link.before.requests) new.has_room;
      core_is = v.core_is;
      is_outside_dialog = outside_back (is_register q.method) (id_of q.core) new.is_outside;
    }

-- ---- a request of a dialog

-- core fields that name a dialog
pub record NamesDialog (m : Message) (id : DialogId) : Type 0 where
  pub core : CoreFields
  pub core_is : core_of m ≡ Ok core
  pub names : id_of core ≡ Some id

pub names_dialog : (m : Message) (id : DialogId) (read : Result CoreFields HeaderError)
    → core_of m ≡ read → option_and_then (λ core. id_of core) (result_ok read) ≡ Some id
    → NamesDialog m id
names_dialog m id (Ok core) is e = record { core = core; core_is = is; names = e }
names_dialog m id (Err error) is e = absurd (cc)
