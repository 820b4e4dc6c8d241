-- A call that goes elsewhere, and a denial without its rule, don't keep the headline.
use Rattle.std.proofs.Common.{◌≡◌, ◌∙◌, ℕ, ◌+◌, ◌==◌, ◌≤◌, Bool, false, List, [], ◌∷◌, ◌++◌, map, codes, decimal, get_or, refl, sym, ap, subst, arith}
use Rattle.std.specs.List.{AllZip, filter_map}
use Rattle.std.specs.Fmt.{digits}
use Rattle.hex.specs.Hex.{encode_with}
use Rattle.sip_uri.specs.declared.addr.Addr.{Addr}
use Rattle.sip_uri.specs.Reading as Uris
use Rattle.sip_message_fields.specs.declared.field.Field.{Field}
use Rattle.sip_message_fields.specs.declared.field_name.FieldName.TheVariants as Name
use Rattle.sip_message_form.specs.declared.message.Start.{Start}
use Rattle.sip_message_form.specs.Text.{start_text, field_text, text_of}
use Rattle.sip_hops.specs.Examples.{local}
use Rattle.sip_edit.specs.OnwardExamples.{invite}
use Rattle.sip_edit_response.specs.Extras.{denial_warning}
use Rattle.sip_policy.specs.declared.decision.Decision.{Decision}
use Rattle.sip_location.specs.declared.binding.Binding.{Binding}
use Rattle.sip_location.specs.Binding.{live}
use Rattle.sip_event.specs.declared.packet.Packet.{Packet}
use Rattle.sip_model.specs.state.declared.server.Server.{Server}
use Rattle.sip_model.specs.state.declared.proxy_state.ProxyState.{ProxyState}
use Rattle.sip_model.specs.state.Arrival.{Arrival}
use Rattle.sip_model.specs.state.State.{first_state}
use Rattle.sip_model.specs.steps_model.Examples.{sample, help, to_vault}
use Rattle.sip_model.specs.steps_model.Step.{arrival_of}
use Rattle.sip_model.specs.Run.{Link, under}
use Rattle.sip_model.specs.Lives.{sent_first}
use Rattle.sip_model.specs.Access.{IsSaidAt, IsNewRequest, decision_on}
use Rattle.model_laws.specs.Links.{saying}
use Rattle.model_laws.specs.Headline.{Came, IsNew, places, place_of, GoesTo, IsAnswered, IsServed, IsKept, Leads, Goes, Headline}
use Rattle.model_laws.specs.Proven.{by_digest}
use Rattle.model_laws.specs.WrongHeadlines.{before_call, calls, goes_elsewhere, goes_to_expired, denial_with, denied_with, denied_without_rule, denied_by_another}
use Rattle.model_laws.proofs.FirstRequests.{invite_said, new_invite, vault_said, new_vault}
use Rattle.model_laws.proofs.Checks.{came_in, new_of}
use Rattle.model_laws.proofs.Counts.{passing, of_both, text_has}

-- ---- the newest step

-- it keeps the headline over some bindings
record Kept (server : Server) (link : Link) (earlier : List Link) : Type 0 where
  rows : List Binding
  after : List Binding
  is_kept : IsKept by_digest (under server link.config) (sent_first earlier) rows link after

kept_by : (server : Server) (link : Link) (earlier : List Link) (bindings : List Binding) → Leads by_digest server (link ∷ earlier) bindings → Kept server link earlier
kept_by server _ _ _ (Goes link earlier rows after before is) = record { rows = rows; after = after; is_kept = is }

-- ---- a call

module _ (expires_at port : ℕ) (after : ProxyState) where
  abbrev call : Link
  call = calls expires_at port after

  abbrev call_arrives : Arrival
  call_arrives = arrival_of (before_call expires_at) 62000 9 (local 5070)

  abbrev caller : Came
  caller = came_in call_arrives invite (codes "INVITE") new_invite.core

  call_said : IsSaidAt (before_call expires_at) (saying 62000 5070 invite) call_arrives (text_of invite) invite false
  call_said = record { at = 62000; word = 9; from = local 5070; is_act = refl; is_arrival = refl; says = invite_said }

  -- it is valid and new
  call_is_new : IsNew sample call caller
  call_is_new =
      let new : IsNewRequest sample (first_state 1) (text_of invite) invite (codes "INVITE") new_invite.core = new_invite.is_new in
      new_of sample call call_arrives (text_of invite) invite (codes "INVITE") new_invite.core call_said (record {
        uri = new.uri;
        version = new.version;
        key = new.key;
        says = new.says;
        is_request = new.is_request;
        key_is = new.key_is;
        is_new = refl;
        is_no_ack = new.is_no_ack;
        is_no_cancel = new.is_no_cancel;
        is_valid = new.is_valid;
        has_room = refl;
        core_is = new.core_is;
        is_outside_dialog = new.is_outside_dialog;
      })

  -- it goes to the live bindings of help@host.com
  call_places : (rows : List Binding) → places by_digest sample rows call caller ≡ filter_map (place_of sample.config.addresses)
      (map (λ (b : Binding). b.uri) (live help 62000 rows))
  unfolding digits Uris.rest_of Uris.reading_of
  call_places rows = refl

  -- as they are in the state
  call_goes : (earlier : List Link) → Headline by_digest sample (call ∷ earlier)
      → AllZip (GoesTo (codes "INVITE")) call.out.packets (filter_map (place_of sample.config.addresses)
      (map (λ (b : Binding). b.uri) (live help 62000 (before_call expires_at).bindings)))
  call_goes earlier headline =
      let kept : Kept sample call earlier = kept_by sample call earlier headline.bindings headline.leads in
      let served : IsServed by_digest sample kept.rows call caller = kept.is_kept.serves caller call_is_new in
      subst (λ (bs : List Binding). AllZip (GoesTo (codes "INVITE")) call.out.packets (filter_map (place_of sample.config.addresses) (map (λ (b : Binding). b.uri) bs)))
      (sym (kept.is_kept.had help 62000 (omega arith))) (subst (λ ps. AllZip (GoesTo (codes "INVITE")) call.out.packets ps) (call_places kept.rows) served.goes)

pub elsewhere : (after : ProxyState) (earlier : List Link) → Headline by_digest sample (goes_elsewhere after ∷ earlier) → ⊥
unfolding digits
elsewhere after earlier headline =
    let one = call_goes 3602000 6666 after earlier headline in
    let ports : ◌≡◌ {A = ℕ} 6666 5082 = ap (λ (a : Addr). a.port) one.0.0 in
    absurd (omega (arith, ports))

pub expired : (after : ProxyState) (earlier : List Link) → Headline by_digest sample (goes_to_expired after ∷ earlier) → ⊥
expired after earlier headline = call_goes 60000 5082 after earlier headline

-- ---- a denial

-- whether a byte is the digit 3
is_three : ℕ → Bool
is_three b = b == 51

module _ (extras : List Field) (after : ProxyState) where
  abbrev denial : Link
  denial = denied_with extras after

  abbrev denial_arrives : Arrival
  denial_arrives = arrival_of (first_state 1) 1000 9 (local 5070)

  abbrev denied : Came
  denied = came_in denial_arrives to_vault (codes "INVITE") new_vault.core

  denied_said : IsSaidAt (first_state 1) (saying 1000 5070 to_vault) denial_arrives (text_of to_vault) to_vault false
  denied_said = record { at = 1000; word = 9; from = local 5070; is_act = refl; is_arrival = refl; says = vault_said }

  denied_is_new : IsNew sample denial denied
  denied_is_new = new_of sample denial denial_arrives (text_of to_vault) to_vault (codes "INVITE") new_vault.core denied_said new_vault.is_new

  -- by rule 3
  by_rule_3 : decision_on sample (first_state 1) 1000 to_vault (codes "INVITE") new_vault.core ≡ Decision.Deny 3
  unfolding digits Uris.rest_of Uris.reading_of
  by_rule_3 = refl

  -- so the digit 3 stands in its text three times
  has_threes : (earlier : List Link) → Headline by_digest sample (denial ∷ earlier) → 3 ≤ passing is_three (denial_with extras).bytes
  unfolding is_three digits
  has_threes earlier headline =
      let kept : Kept sample denial earlier = kept_by sample denial earlier headline.bindings headline.leads in
      let served : IsServed by_digest sample kept.rows denial denied = kept.is_kept.serves denied denied_is_new in
      let answered : IsAnswered denied denial.out.packets 403 Name.Warning (denial_warning sample.config.own 3 ∷ []) = served.denies 3 by_rule_3 in
      let packet : denial_with extras ≡ answered.packet = ap (λ (ps : List Packet). get_or ps 0 answered.packet) answered.is_alone in
      let front : List ℕ = codes "SIP/2.0 " ++ decimal 403 ++ codes " " in
      let start : passing is_three (start_text answered.response.start) ≡ passing is_three (front ++ answered.reason) =
      ap (λ (s : Start). passing is_three (start_text s)) answered.has_status in
      let one : passing is_three front ≡ 1 = refl in
      let two : passing is_three (field_text (denial_warning sample.config.own 3)) ≡ 2 = refl in
      let text : passing is_three (denial_with extras).bytes ≡ passing is_three (text_of answered.response) =
      ap (λ (p : Packet). passing is_three p.bytes) packet ∙ ap (passing is_three) answered.is_text in
      omega (
        arith,
        start,
        one,
        two,
        text,
        of_both is_three front answered.reason,
        text_has is_three answered.response Name.Warning (denial_warning sample.config.own 3)
            answered.has,
      )

pub without_rule : (after : ProxyState) (earlier : List Link) → Headline by_digest sample (denied_without_rule after ∷ earlier) → ⊥
unfolding is_three digits encode_with Uris.rest_of Uris.reading_of
without_rule after earlier headline =
    let few : passing is_three (denial_with []).bytes ≡ 1 = refl in
    absurd (omega (arith, few, has_threes [] after earlier headline))

pub by_another : (after : ProxyState) (earlier : List Link) → Headline by_digest sample (denied_by_another after ∷ earlier) → ⊥
unfolding is_three digits encode_with Uris.rest_of Uris.reading_of
by_another after earlier headline =
    let few : passing is_three (denial_with (denial_warning sample.config.own 0 ∷ [])).bytes ≡ 2 = refl in
    absurd (omega (arith, few, has_threes (denial_warning sample.config.own 0 ∷ []) after earlier headline))
