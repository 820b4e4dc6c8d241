-- Every history with `Access` keeps the headline.
use Rattle.std.proofs.Common.{◌≡◌, ◌↔◌, ◌∙◌, ℕ, false, List, [], ◌∷◌, ◌++◌, Option, Some, None, Result, refl, sym, ap, subst}
use Rattle.std.specs.Prelude.{unwrap_or}
use Rattle.std.specs.Option.{option_map_or, option_to_list}
use Rattle.std.specs.Result.{result_ok}
use Rattle.std.specs.List.{AllZip}
use Rattle.sip_uri.specs.declared.addr.Addr.{Addr}
use Rattle.sip_message_fields.specs.declared.field.Field.{Field}
use Rattle.sip_message_fields.specs.declared.field_name.FieldName.{FieldName}
use Rattle.sip_message_fields.specs.declared.field_name.FieldName.TheVariants as Name
use Rattle.sip_message_fields.specs.Named.{all_named}
use Rattle.sip_message_form.specs.declared.message.Message.{Message}
use Rattle.sip_message_form.specs.Text.{text_of}
use Rattle.sip_header.specs.declared.core_fields.CoreFields.{CoreFields}
use Rattle.sip_header.specs.declared.error.HeaderError.{HeaderError}
use Rattle.sip_edit.specs.ReceivedRequest.{received_fields}
use Rattle.sip_edit_response.specs.Extras.{denial_warning}
use Rattle.sip_edit_response.specs.Reasons.{reason_of}
use Rattle.sip_edit_response.specs.Tags.{to_tag}
use Rattle.sip_location.specs.declared.binding.Binding.{Binding}
use Rattle.sip_location.specs.Binding.{live}
use Rattle.sip_location.specs.Registering.{to_aor}
use Rattle.sip_targets.specs.declared.target.Target.{Target}
use Rattle.sip_event.specs.declared.packet.Packet.{Packet}
use Rattle.sip_event.specs.declared.event.Event.TheVariants.{Datagram, Time, Fault}
use Rattle.sip_model.specs.state.declared.server.Server.{Server}
use Rattle.sip_model.specs.state.declared.proxy_state.ProxyState.{ProxyState}
use Rattle.sip_model.specs.state.Arrival.{Arrival}
use Rattle.sip_model.specs.context_model.Sending.{made_answer, answer_packet}
use Rattle.sip_model.specs.verdict_model.Verdict.{registration_by}
use Rattle.sip_model.specs.steps_model.Effect.{contact_fields}
use Rattle.sip_model.specs.steps_model.Step.{Act, Given, Passing, arrival_of, originals}
use Rattle.sip_model.specs.Run.{Link, under}
use Rattle.sip_model.specs.Bindings.{Arrived, rows_after, after_register, bindings_by, allowed_in, allowed_at, allowed_registers, bindings_after}
use Rattle.sip_model.specs.Lives.{sent_first}
use Rattle.sip_model.specs.Access.{IsServed as GetsIts, Serves, IsAllowedRegister, rule_of, decision_on, targets_on, requests_to, branch_originals, answer_alone, Access}
use Rattle.model_laws.specs.Headline.{Came, bound_by, IsNew, IsAllowed, places, GoesTo, IsAnswered, IsServed, Binds, Registers, Stays, Leads, Begins, Goes, Headline}
use Rattle.model_laws.specs.Proven.{by_digest}
use Rattle.model_laws.proofs.Branching.{all_go}
use Rattle.model_laws.proofs.Checks.{came_in, new_of, new_to}
use Rattle.model_laws.proofs.Naming.{IsNotCopied, warning_not_copied, contact_not_copied, reply_has, all_contacts, bound_is, rows_are, IsRefusal, refusal_is}
use Rattle.model_laws.proofs.Places.{zipped, same_places}
use Rattle.model_laws.proofs.Owners.{all_belong, all_went}

-- ---- what a new request gets

-- one response that is made here, alone
alone : (server : Server) (a : Arrival) (q : Came) (packets : List Packet) (status : ℕ) (name : FieldName) (extras fields : List Field)
    → a.from ≡ q.from → IsNotCopied name
    → all_named name extras ≡ fields
    → originals packets ≡ answer_alone server a q.message status extras → IsAnswered q packets status name fields
alone server a q packets status name extras fields source copied has e =
    let response : Message = made_answer server a.number q.message a.from status extras in
    record {
      packet = answer_packet false a.number q.message a.from (text_of response);
      response = response;
      reason = reason_of status;
      is_alone = e;
      goes_back = ap (λ (from : Addr). (answer_packet false a.number q.message from (text_of response)).to) source;
      is_text = refl;
      has_status = refl;
      has = reply_has name copied status (to_tag server.word a.number) (received_fields a.from q.message.fields) extras ∙ has;
    }

module _ (server : Server) (rows : List Binding) (link : Link) (serves : Serves server rows link.before link.act link.out) (q : Came) (new : IsNew server link q) where
  -- the datagram that brought it
  abbrev arrival : Arrival
  arrival = record { number = link.before.next; now = q.now; word = new.is_valid.word; from = q.from }

  gets : GetsIts server rows link.before arrival q.message q.method q.core link.out
  gets =
      subst (λ (now : ℕ). GetsIts server rows link.before (record { number = link.before.next; now = now; word = new.is_valid.word; from = q.from }) q.message q.method
      q.core link.out) new.is_valid.is_now
      ((subst (λ (act : Act). Serves server rows link.before act link.out) new.is_valid.is_act serves) q.message q.method q.core (new_to server link q new))

  goes_there : AllZip (GoesTo q.method) (branch_originals link.out.packets) (places by_digest server rows link q)
  goes_there =
      let ts : List Target = targets_on server rows link.before q.now q.message q.method q.core in
      subst (λ (packets : List Packet). AllZip (GoesTo q.method) packets (places by_digest server rows link q)) (sym gets.reaches)
      (subst (λ (xs : List (Addr × List ℕ)). AllZip (GoesTo q.method) (requests_to server arrival q.message ts) xs) (same_places server rows link q)
      (zipped link.before.next q.method 1 ts (requests_to server arrival q.message ts)
      (all_go server arrival q.message q.method new.is_valid.uri new.is_valid.is_said.is_request 1 ts)))

  served : IsServed by_digest server rows link q
  served = record {
    goes = goes_there;
    denies = λ id e.
        alone server arrival q link.out.packets 403 Name.Warning (denial_warning server.config.own id ∷ []) (denial_warning server.config.own id ∷ []) refl
        warning_not_copied refl (gets.denies id e);
    lists = λ after allowed e.
        alone server arrival q link.out.packets 200 Name.Contact (contact_fields q.now (to_aor q.core) after) (contact_fields q.now (to_aor q.core) after) refl
        contact_not_copied
        (all_contacts q.now (live (to_aor q.core) q.now after))
        (gets.lists allowed.id after allowed.registers allowed.is_let_through (bound_is server rows q after e));
    refuses = λ allowed none.
        let refused : IsRefusal (registration_by server rows q.now q.message q.core) = refusal_is server rows q none in (
          refused.status,
          refused.is_final,
          alone server arrival q link.out.packets refused.status Name.Contact refused.extras [] refl contact_not_copied refused.lists_none
              (gets.refuses allowed.id refused.status refused.extras allowed.registers allowed.is_let_through refused.is_it),
        );
  }

-- ---- what becomes of the bindings

-- a step is taken for a datagram that lets a REGISTER through
record IsLet (server : Server) (state : ProxyState) (act : Act) (r : Arrived) : Type 0 where
  at : ℕ
  word : ℕ
  from : Addr
  bytes : List ℕ
  is_act : act ≡ Given (Datagram at word from bytes)
  is_allowed : allowed_in server state (arrival_of state at word from) bytes ≡ Some r

let_by : (server : Server) (state : ProxyState) (act : Act) (r : Arrived) → allowed_at server state act ≡ Some r → IsLet server state act r
let_by server state (Given (Datagram at word from bytes)) r e = record { at = at; word = word; from = from; bytes = bytes; is_act = refl; is_allowed = e }
let_by server state (Given (Time at)) r e = absurd (cc)
let_by server state (Given (Fault at ticket)) r e = absurd (cc)
let_by server state (Passing at) r e = absurd (cc)

module _ (law : (server : Server) (state : ProxyState) (a : Arrival) (bytes : List ℕ) (r : Arrived)
    → (allowed_in server state a bytes ≡ Some r) ↔ IsAllowedRegister server state a bytes r) where
  -- a REGISTER that is allowed is one of those of the history
  is_counted : (server : Server) (link : Link) (q : Came) → IsAllowed by_digest server link q
      → allowed_at server link.before link.act ≡ Some (record { config = server.config; at = q.now; request = q.message })
  is_counted server link q allowed =
      let said = allowed.is_new.is_valid in
      let a : Arrival = arrival_of link.before said.at said.word q.from in
      ap (allowed_at server link.before) said.is_act
      ∙ (law server link.before a said.bytes (record { config = server.config; at = q.now; request = q.message })).1
      (record {
        m = q.message;
        method = q.method;
        core = q.core;
        id = allowed.id;
        is_new = new_to server link q allowed.is_new;
        registers = allowed.registers;
        is_let_through = subst (λ (now : ℕ). rule_of (decision_on server link.before now q.message q.method q.core) ≡ Some allowed.id) (sym said.is_now)
            allowed.is_let_through;
        is_it = ap (λ (now : ℕ). record { config = server.config; at = now; request = q.message }) (sym said.is_now);
      })

  module _ (server : Server) (link : Link) (history : List Link) where
    abbrev now_under : Server
    now_under = under server link.config

    abbrev rows : List Binding
    rows = bindings_after server history

    -- by the REGISTER that a step lets through
    registers : (r : Arrived) → IsLet now_under link.before link.act r → Binds by_digest now_under link rows (after_register server r rows)
    registers r let_through =
        let a : Arrival = arrival_of link.before let_through.at let_through.word let_through.from in
        let h : IsAllowedRegister now_under link.before a let_through.bytes r = (law now_under link.before a let_through.bytes r).0 let_through.is_allowed in
        let q : Came = came_in a h.m h.method h.core in
        let new : IsNew now_under link q =
        new_of now_under link a let_through.bytes h.m h.method h.core
        (record { at = let_through.at; word = let_through.word; from = let_through.from; is_act = let_through.is_act; is_arrival = refl; says = h.is_new.says }) h.is_new
        in
        let same : after_register server r rows ≡ unwrap_or (bound_by now_under rows q) rows =
        ap (λ (x : Arrived). after_register server x rows) h.is_it
        ∙ ap (λ (read : Result CoreFields HeaderError). option_map_or (λ (core : CoreFields). rows_after rows (registration_by now_under rows a.now h.m core))
        (result_ok read) rows) h.is_new.core_is ∙ rows_are now_under rows q in
        subst (Binds by_digest now_under link rows) (sym same) (Registers q (record {
          id = h.id;
          is_new = new;
          registers = h.registers;
          is_let_through = h.is_let_through;
        }))

    none_is : (r : Arrived) → ◌≡◌ {A = Option Arrived} None (Some r) → ⊥
    none_is r e = absurd (cc)

    binds : Binds by_digest now_under link rows (bindings_after server (link ∷ history))
    binds = by_allowed (allowed_at now_under link.before link.act) refl where
      by_allowed : (o : Option Arrived) → allowed_at now_under link.before link.act ≡ o
          → Binds by_digest now_under link rows (bindings_by server (option_to_list o ++ allowed_registers server history))
      by_allowed None is = Stays (λ q allowed. none_is _ (sym is ∙ is_counted now_under link q allowed))
      by_allowed (Some r) is = registers r (let_by now_under link.before link.act r is)

  -- ---- the headline

  leads : (server : Server) (history : List Link) → Access server history → Leads by_digest server history (bindings_after server history)
  leads server [] access = Begins
  leads server (link ∷ history) access =
      Goes link history (bindings_after server history) (bindings_after server (link ∷ history)) (leads server history access.1)
      (record {
        had = access.0.bindings;
        serves = λ q new. served (under server link.config) (bindings_after server history) link access.0.serves q new;
        binds = binds server link history;
        has = access.0.binds;
        belongs = all_belong (under server link.config) (bindings_after server history) link (link ∷ history) access.0.serves access.0.owed access.0.repeats;
        went = all_went (sent_first history) link.out.packets access.0.went;
      })

  pub headline : (server : Server) (history : List Link) → Access server history → Headline by_digest server history
  headline server history access = record { bindings = bindings_after server history; leads = leads server history access }
