-- Whose bindings live is among the addresses of a day, and each of these was registered.
use Rattle.std.proofs.Common.{◌≡◌, ◌≢◌, ◌≤◌, ◌⊎◌, inl, inr, ⊎_elim, ℕ, Bool, true, false, ◌&&◌, ◌==◌, cond, List, [], ◌∷◌, ◌++◌, Option, None, Some}
use Rattle.std.proofs.Common.{Ok, Err, refl, sym, ◌∙◌, ap, subst, arith}
use Rattle.std.specs.Prelude.{ℤ, Result, map, is_some, option_map}
use Rattle.std.specs.List.{AllByRecursion, filter_map}
use Rattle.std.specs.Option.{option_map_or}
use Rattle.sip_message_fields.specs.declared.field.Field.{Field}
use Rattle.sip_message_fields.specs.declared.field_name.FieldName.{FieldName}
use Rattle.sip_message_fields.specs.declared.field_name.FieldName.TheVariants as Name
use Rattle.sip_message_fields.specs.FieldName.{is_same_name}
use Rattle.sip_message_fields.specs.Named.{all_named, first_named}
use Rattle.sip_message_fields.specs.Values.{first_value, values_of}
use Rattle.sip_message_form.specs.declared.message.Message.{Message}
use Rattle.sip_message.specs.Reading.{reading_of}
use Rattle.sip_header.specs.ContactItem.{contact_of}
use Rattle.sip_header.specs.declared.core_fields.CoreFields.{CoreFields}
use Rattle.sip_uri.specs.declared.addr.Addr.{Addr}
use Rattle.sip_uri.specs.declared.aor.Aor.{Aor}
use Rattle.sip_uri.specs.Aor.{is_same_aor}
use Rattle.sip_policy.specs.declared.decision.Decision.{Decision}
use Rattle.sip_policy.specs.declared.operation.Operation.{Operation}
use Rattle.sip_location.specs.declared.binding.Binding.{Binding}
use Rattle.sip_location.specs.declared.error.LocationError.{LocationError}
use Rattle.sip_location.specs.declared.error.LocationError.TheVariants.{NoMemory, BadStar, TooBrief, OldCSeq, TooMany}
use Rattle.sip_location.specs.declared.registration.Registration.{Registration}
use Rattle.sip_location.specs.Binding.{live}
use Rattle.sip_location.specs.Registration.{asks_nothing, registered, updated}
use Rattle.sip_location.specs.Registering.{aor_or_nobody, registration_of, to_aor}
use Rattle.sip_route.specs.Way.{request_uri_of}
use Rattle.sip_policy.specs.User.{is_users_address}
use Rattle.sip_targets.specs.declared.targets.Targets.{Targets}
use Rattle.sip_audit.specs.declared.record.AuditOutcome.{AuditOutcome}
use Rattle.sip_audit.specs.declared.record.Record.{Record}
use Rattle.sip_event.specs.declared.event.StepOut.{StepOut}
use Rattle.sip_event.specs.declared.event.Event.TheVariants.{Datagram, Time, Fault}
use Rattle.sip_model.specs.state.declared.server.Server.{Server}
use Rattle.sip_model.specs.state.declared.proxy_state.ProxyState.{ProxyState}
use Rattle.sip_model.specs.state.State.{first_state}
use Rattle.sip_model.specs.state.Arrival.{Arrival}
use Rattle.sip_model.specs.verdict_model.declared.question.Question.{Question}
use Rattle.sip_model.specs.verdict_model.Verdict.{Bound, Refused, Verdict, Drop, Respond, Copy, AckOn, Cancel, Answer, InDialog, Challenge, Deny, Send, Register}
use Rattle.sip_model.specs.verdict_model.Verdict as Verdicts
use Rattle.sip_model.specs.verdict_model.Verdict.{has_contact, is_register, is_own_uri, question_of, answer_of, registration_by, registered_by, request_targets}
use Rattle.sip_model.specs.verdict_model.Verdict.{decided, message_verdict, message_in, verdict_in}
use Rattle.sip_model.specs.steps_model.Effect.{challenge_status, counted, effect_of, nothing, record_of, recorded}
use Rattle.sip_model.specs.steps_model.Step.{Act, Given, Passing, IsStep, arrival_of}
use Rattle.sip_model.specs.Run.{Link, IsChain, under}
use Rattle.sip_model.specs.Access.{Access}
use Rattle.sip_model.specs.Histories.{Judged, judged_at, records_at, records_of, sending_outcome}
use Rattle.sip_model.proofs.Judging.{is_by_policy, judged, judged_verdict}
use Rattle.sip_model.proofs.Places.{all_weaker}
use Rattle.sip_model.proofs.Registers.{effect_binds, step_binds}
use Rattle.sip_listener.specs.Heard.{event_in, heard_at, heard_of}
use Rattle.sip_days.specs.declared.registered.Registered.{Registered}
use Rattle.sip_days.specs.Phones as Phones
use Rattle.sip_days.specs.Phones.{is_registered, phones_of, phones_with}
use Rattle.sip_days.specs.WhoRegistered.{Registers, WasRegistered, is_among}
use Rattle.sip_days.proofs.Among.{all_more, among_more, among_registered, same_is, same_itself}
use Rattle.sip_days.proofs.PhonesGrowing.{phones_more}

-- ---- tests

both : (a b : Bool) → (a && b) ≡ true → (a ≡ true) × (b ≡ true)
both true b h = (refl, h)
both false b h = absurd cc

never : (X : Type 0) (a b : Bool) → b ≡ false → (a && b) ≡ true → X
never X true b isnt h = absurd cc
never X false b isnt h = absurd cc

-- ---- a message without a Contact

none_named : (name : FieldName) (fields : List Field) → is_some (first_value name fields) ≡ false → values_of name fields ≡ []
none_named name [] h = refl
none_named name (field ∷ fields) h = by_test (λ less. none_named name fields less) (is_same_name field.name name) h where
  by_test : (is_some (first_value name fields) ≡ false → values_of name fields ≡ []) → (t : Bool)
      → is_some (option_map (λ (f : Field). f.value) (cond t (Some field) (first_named name fields))) ≡ false
      → map (λ (f : Field). f.value) (cond t (field ∷ all_named name fields) (all_named name fields)) ≡ []
  by_test rest true less = absurd cc
  by_test rest false less = rest less

-- a REGISTER without one leaves the bindings as they are
query_stays : (rows : List Binding) (core : CoreFields) (fields : List Field) (now : ℕ) → has_contact fields ≡ false
    → registered rows (registration_of core fields) now ≡ Ok rows
query_stays rows core fields now h =
    ap (λ (values : List (List ℕ)). cond (asks_nothing (filter_map contact_of values)) (Ok rows) (updated rows (registration_of core fields) now))
    (none_named Name.Contact fields h)

-- ---- what policy's verdict on a REGISTER says

let_is : (method : List ℕ) (asked q : Question) (n id : ℕ) (found outcome : Verdicts.Registered) (targets : Targets) (t : Bool) → is_register method ≡ t
    → cond t (Register asked n found) (Send asked n targets) ≡ Register q id outcome → (is_register method ≡ true) × (asked ≡ q) × (found ≡ outcome)
let_is method asked q n id found outcome targets true is h =
    let same : asked ≡ q = cc in let so : found ≡ outcome = cc in (is, same, so)
let_is method asked q n id found outcome targets false is h = absurd cc

decided_is : (server : Server) (state : ProxyState) (now : ℕ) (m : Message) (method : List ℕ) (core : CoreFields) (asked : Question) (decision : Decision)
    (q : Question) (id : ℕ) (outcome : Verdicts.Registered) → decided server state now m method core asked decision ≡ Register q id outcome
    → (is_register method ≡ true) × (asked ≡ q) × (registration_by server state.bindings now m core ≡ outcome)
decided_is server state now m method core asked Decision.Challenge q id outcome h = absurd cc
decided_is server state now m method core asked (Decision.Deny n) q id outcome h = absurd cc
decided_is server state now m method core asked (Decision.Allow n) q id outcome h =
    let_is method asked q n id (registration_by server state.bindings now m core) outcome (request_targets server state.bindings now m asked (Decision.Allow n))
    (is_register method) refl h
decided_is server state now m method core asked (Decision.Via n hop) q id outcome h =
    let_is method asked q n id (registration_by server state.bindings now m core) outcome (request_targets server state.bindings now m asked (Decision.Via n hop))
    (is_register method) refl h

bound_is : (t : Bool) (found : Result (List Binding) LocationError) (rows : List Binding) → cond t (registered_by found) (Refused 404 []) ≡ Bound rows
    → found ≡ Ok rows
bound_is true (Ok x) rows h = let same : x ≡ rows = cc in ap Ok same
bound_is true (Err NoMemory) rows h = absurd cc
bound_is true (Err BadStar) rows h = absurd cc
bound_is true (Err TooBrief) rows h = absurd cc
bound_is true (Err OldCSeq) rows h = absurd cc
bound_is true (Err TooMany) rows h = absurd cc
bound_is false found rows h = absurd cc

-- a refusal's status isn't 200
isnt_200 : (wanted status : ℕ) → (wanted == 200) ≡ false → wanted ≡ status → (status == 200) ≡ false
isnt_200 wanted status h is = subst (λ (s : ℕ). (s == 200) ≡ false) is h

refused_isnt : (t : Bool) (found : Result (List Binding) LocationError) (status : ℕ) (extras : List Field)
    → cond t (registered_by found) (Refused 404 []) ≡ Refused status extras → (status == 200) ≡ false
refused_isnt true (Ok x) status extras h = absurd cc
refused_isnt true (Err NoMemory) status extras h = isnt_200 503 status refl cc
refused_isnt true (Err BadStar) status extras h = isnt_200 400 status refl cc
refused_isnt true (Err TooBrief) status extras h = isnt_200 423 status refl cc
refused_isnt true (Err OldCSeq) status extras h = isnt_200 500 status refl cc
refused_isnt true (Err TooMany) status extras h = isnt_200 503 status refl cc
refused_isnt false found status extras h = isnt_200 404 status refl cc

-- whether bindings are made of a REGISTER: its Request-URI names an own domain, and To a user
abbrev is_served : Server → Message → CoreFields → Bool
is_served server m core =
    is_own_uri server (request_uri_of server.config.own m) && is_users_address server.config.users server.config.own.domains (to_aor core)

-- of a datagram that is registered: its REGISTER, of what policy was asked, and what the registrar makes of it
judged_is : (server : Server) (old : ProxyState) (a : Arrival) (bytes : List ℕ) (m : Message) (short : Bool) → message_in (reading_of bytes) ≡ Some (m, short)
    → (q : Question) (id : ℕ) (outcome : Verdicts.Registered) → message_verdict server old a m short ≡ Register q id outcome
    → (method : List ℕ) × (core : CoreFields) × (is_register method ≡ true) × (question_of server old.nonces a.now m method core ≡ q)
    × (registration_by server old.bindings a.now m core ≡ outcome)
judged_is server old a bytes m short said q id outcome is =
    let j = judged server old a bytes m short said (ap is_by_policy is) in
    let asked : Question = question_of server old.nonces a.now m j.0 j.1 in
    let k =
    decided_is server old a.now m j.0 j.1 asked (answer_of server asked) q id outcome
    (sym (judged_verdict server old a bytes m short j.0 j.1 j.2 j.3) ∙ is) in
    (j.0, j.1, k.0, k.1, k.2)

-- ---- what a step makes live

-- the registrar's law of other addresses
abbrev LeavesOthers : Type 0
LeavesOthers = (rows after : List Binding) (r : Registration) (now moment : ℕ) (other : Aor) → registered rows r now ≡ Ok after → other ≢ r.aor
    → live other moment after ≡ live other moment rows

-- a binding of an address lived before, or a record says that it is registered
abbrev Comes : Aor → ℕ → List Binding → List Record → Type 0
Comes aor at old records =
    (live aor at old ≢ []) ⊎ ((r : Record) × (records ≡ r ∷ []) × (is_registered r ≡ true) × (r.target ≡ aor))

stays : (aor : Aor) (at : ℕ) (old new : List Binding) (records : List Record) → new ≡ old → live aor at new ≢ [] → Comes aor at old records
stays aor at old new records same some = inl (λ none. some (ap (live aor at) same ∙ none))

module _ (untouched : LeavesOthers) (server : Server) (old : ProxyState) (a : Arrival) (aor : Aor) (at : ℕ) where
  -- one that is registered has a record of that
  registered_comes : (m : Message) (method : List ℕ) (core : CoreFields) (q : Question) (id : ℕ) (rows : List Binding) → is_register method ≡ true
      → question_of server old.nonces a.now m method core ≡ q → registered old.bindings (registration_of core m.fields) a.now ≡ Ok rows
      → live aor at rows ≢ [] → Comes aor at old.bindings (records_of server a m (Register q id (Bound rows)))
  registered_comes m method core q id rows registers asks taken some = by_test (is_same_aor aor (to_aor core)) refl where
    target : q.target ≡ to_aor core
    target = ap (λ (x : Question). x.target) (sym asks) ∙ ap (λ (t : Bool). cond t (to_aor core) (aor_or_nobody (request_uri_of server.config.own m))) registers

    operation : (has : Bool) → has_contact m.fields ≡ has → q.operation ≡ cond has Operation.Register Operation.List
    operation has is =
        ap (λ (x : Question). x.operation) (sym asks)
        ∙ ap (λ (t : Bool). cond t (cond (has_contact m.fields) Operation.Register Operation.List) (Operation.Send method)) registers
        ∙ ap (λ (t : Bool). cond t Operation.Register Operation.List) is

    by_contact : aor ≡ to_aor core → (has : Bool) → has_contact m.fields ≡ has → Comes aor at old.bindings (records_of server a m (Register q id (Bound rows)))
    by_contact same true is =
        inr (
          record_of server a m q (AuditOutcome.Answer id 200),
          refl,
          subst (λ (o : Operation). (Phones.is_register (recorded o) && Phones.is_done (AuditOutcome.Answer id 200)) ≡ true) (sym (operation true is)) refl,
          target ∙ sym same,
        )
    by_contact same false is =
        let kept : Ok old.bindings ≡ Ok rows = sym (query_stays old.bindings core m.fields a.now is) ∙ taken in
        let one : old.bindings ≡ rows = cc in stays aor at old.bindings rows (records_of server a m (Register q id (Bound rows))) (sym one) some

    by_test : (t : Bool) → is_same_aor aor (to_aor core) ≡ t → Comes aor at old.bindings (records_of server a m (Register q id (Bound rows)))
    by_test true same = by_contact (same_is aor (to_aor core) same) (has_contact m.fields) refl
    by_test false other =
        let unlike : aor ≢ to_aor core =
        λ same. let bad : is_same_aor aor (to_aor core) ≡ true = subst (λ (x : Aor). is_same_aor aor x ≡ true) same (same_itself aor) in absurd (cc) in
        inl (λ none. some (untouched old.bindings rows (registration_of core m.fields) a.now at aor taken unlike ∙ none))

  -- the bindings behind a verdict
  abbrev behind : Message → Verdict → List Binding
  behind m v = (effect_of server a m v (counted a old)).state.bindings

  verdict_stays : (m : Message) (v : Verdict) → behind m v ≡ old.bindings → live aor at (behind m v) ≢ [] → Comes aor at old.bindings (records_of server a m v)
  verdict_stays m v same some = stays aor at old.bindings (behind m v) (records_of server a m v) same some

  verdict_comes : (bytes : List ℕ) (m : Message) (short : Bool) → message_in (reading_of bytes) ≡ Some (m, short) → (v : Verdict)
      → message_verdict server old a m short ≡ v → live aor at (behind m v) ≢ [] → Comes aor at old.bindings (records_of server a m v)
  verdict_comes bytes m short said (Register q id (Bound rows)) is some =
      let k = judged_is server old a bytes m short said q id (Bound rows) is in
      registered_comes m k.0 k.1 q id rows k.2 k.3 (bound_is (is_served server m k.1) (registered old.bindings (registration_of k.1 m.fields) a.now) rows k.4)
      (subst (λ (l : List Binding). live aor at l ≢ []) (effect_binds server a m (Register q id (Bound rows)) (counted a old)) some)
  verdict_comes bytes m short said (Register q id (Refused status extras)) is some =
      verdict_stays m (Register q id (Refused status extras)) (effect_binds server a m (Register q id (Refused status extras)) (counted a old)) some
  verdict_comes bytes m short said Drop is some = verdict_stays m Drop (effect_binds server a m Drop (counted a old)) some
  verdict_comes bytes m short said (Respond r b status) is some =
      verdict_stays m (Respond r b status) (effect_binds server a m (Respond r b status) (counted a old)) some
  verdict_comes bytes m short said (Copy r) is some = verdict_stays m (Copy r) (effect_binds server a m (Copy r) (counted a old)) some
  verdict_comes bytes m short said (AckOn address id) is some =
      verdict_stays m (AckOn address id) (effect_binds server a m (AckOn address id) (counted a old)) some
  verdict_comes bytes m short said (Cancel found) is some = verdict_stays m (Cancel found) (effect_binds server a m (Cancel found) (counted a old)) some
  verdict_comes bytes m short said (Answer status extras) is some =
      verdict_stays m (Answer status extras) (effect_binds server a m (Answer status extras) (counted a old)) some
  verdict_comes bytes m short said (InDialog address id) is some =
      verdict_stays m (InDialog address id) (effect_binds server a m (InDialog address id) (counted a old)) some
  verdict_comes bytes m short said (Challenge q) is some = verdict_stays m (Challenge q) (effect_binds server a m (Challenge q) (counted a old)) some
  verdict_comes bytes m short said (Deny q id) is some = verdict_stays m (Deny q id) (effect_binds server a m (Deny q id) (counted a old)) some
  verdict_comes bytes m short said (Send q id targets) is some =
      verdict_stays m (Send q id targets) (effect_binds server a m (Send q id targets) (counted a old)) some

  said_comes : (bytes : List ℕ) (said : Option (Message × Bool)) → message_in (reading_of bytes) ≡ said
      → live aor at
      (option_map_or (λ (x : Message × Verdict). effect_of server a x.0 x.1 (counted a old)) (verdict_in server old a said) (nothing (counted a old))).state.bindings ≢ []
      → Comes aor at old.bindings (option_map_or (λ (x : Message × Verdict). records_of server a x.0 x.1) (verdict_in server old a said) [])
  said_comes bytes None is some = inl some
  said_comes bytes (Some x) is some = verdict_comes bytes x.0 x.1 is (message_verdict server old a x.0 x.1) refl some

-- a message with the verdict on it
abbrev judged_as : Arrival → Message → Verdict → Judged
judged_as a m v = record { arrival = a; message = m; verdict = v }

-- the records of what a datagram says, by its message and its verdict
records_are : (server : Server) (a : Arrival) (said : Option (Message × Verdict))
    → option_map_or (λ (j : Judged). records_of server j.arrival j.message j.verdict) (option_map (λ (x : Message × Verdict). judged_as a x.0 x.1) said) []
    ≡ option_map_or (λ (x : Message × Verdict). records_of server a x.0 x.1) said []
records_are server a None = refl
records_are server a (Some x) = refl

step_comes : LeavesOthers → (server : Server) (old : ProxyState) (act : Act) (out : StepOut) (new : ProxyState) → IsStep server old act out new
    → out.records ≡ records_at server old act → (aor : Aor) (at : ℕ) → new.moment ≤ at → live aor at new.bindings ≢ [] → Comes aor at old.bindings out.records
step_comes untouched server old (Given (Datagram when word from bytes)) out new h is aor at late some =
    let a : Arrival = arrival_of old when word from in
    let said : Option (Message × Bool) = message_in (reading_of bytes) in
    subst (λ (records : List Record). Comes aor at old.bindings records) (sym (is ∙ records_are server a (verdict_in server old a said)))
    (said_comes untouched server old a aor at bytes said refl (λ none. some (h.does.leaves.bindings aor at late ∙ none)))
step_comes untouched server old (Given (Time when)) out new h is aor at late some =
    inl (λ none. some (step_binds server old (Given (Time when)) out new h aor at late ∙ none))
step_comes untouched server old (Given (Fault when ticket)) out new h is aor at late some =
    inl (λ none. some (step_binds server old (Given (Fault when ticket)) out new h aor at late ∙ none))
step_comes untouched server old (Passing when) out new h is aor at late some =
    inl (λ none. some (step_binds server old (Passing when) out new h aor at late ∙ none))

-- ---- a history

-- no step of it goes back
abbrev Rises : Type 0
Rises = (server : Server) (first : ℕ) (link : Link) (history : List Link) (last : ProxyState) → IsChain server (first_state first) (link ∷ history) last
    → link.before.moment ≤ last.moment

-- each step has its records
abbrev AreRecorded : Server → List Link → Type 0
AreRecorded server history = AllByRecursion (λ (link : Link). link.out.records ≡ records_at (under server link.config) link.before link.act) history

pub each_binding : LeavesOthers → Rises → (server : Server) (first : ℕ) (history : List Link) (last : ProxyState) → IsChain server (first_state first) history last
    → AreRecorded server history → (aor : Aor) (at : ℕ) → last.moment ≤ at → live aor at last.bindings ≢ []
    → is_among aor (phones_of (heard_of history)) ≡ true
each_binding untouched rises server first [] last chain records aor at late some = absurd (some (ap (λ (s : ProxyState). live aor at s.bindings) chain))
each_binding untouched rises server first (link ∷ history) last chain records aor at late some =
    let offset : ℤ = link.config.offset in
    let before : List Registered = phones_of (heard_of history) in
    let after : link.after.moment ≤ at = subst (λ (s : ProxyState). s.moment ≤ at) chain.0 late in
    let lives : live aor at link.after.bindings ≢ [] = subst (λ (s : ProxyState). live aor at s.bindings ≢ []) chain.0 some in
    let earlier : link.before.moment ≤ last.moment = rises server first link history last chain in
    let sooner : link.before.moment ≤ at = omega (arith, earlier, late) in
    let comes : Comes aor at link.before.bindings link.out.records =
    step_comes untouched (under server link.config) link.before link.act link.out link.after chain.1 records.0 aor at after lives in
    let there : is_among aor (phones_with offset (event_in link.act) link.out.records before) ≡ true =
    ⊎_elim
    (λ (was : live aor at link.before.bindings ≢ []).
    among_more aor offset (event_in link.act) link.out.records before
    (each_binding untouched rises server first history link.before chain.2 records.1 aor at sooner was))
    (λ (found : (r : Record) × (link.out.records ≡ r ∷ []) × (is_registered r ≡ true) × (r.target ≡ aor)).
    subst (λ (x : Aor). is_among x (phones_with offset (event_in link.act) link.out.records before) ≡ true) found.3
    (subst (λ (l : List Record). is_among found.0.target (phones_with offset (event_in link.act) l before) ≡ true) (sym found.1)
    (among_registered offset (event_in link.act) found.0 [] before found.2))) comes in
    subst (λ (rows : List Registered). is_among aor rows ≡ true) (sym (phones_more (heard_of history) (heard_at link))) there

-- ---- none else

registers_op : (o : Operation) → Phones.is_register (recorded o) ≡ true → o ≡ Operation.Register
registers_op Operation.Register h = refl
registers_op Operation.List h = absurd cc
registers_op (Operation.Send method) h = absurd cc

-- what a record of a step says which tells of a REGISTER that was done
abbrev Tells : Server → Link → Act → Record → Type 0
Tells server link act r = is_registered r ≡ true → Registers server link (Phones.registered_by link.config.offset (event_in act) r)

module _ (server : Server) (link : Link) (when word : ℕ) (from : Addr) (bytes : List ℕ) (given : link.act ≡ Given (Datagram when word from bytes)) where
  abbrev coming : Arrival
  coming = arrival_of link.before when word from

  abbrev act : Act
  act = Given (Datagram when word from bytes)

  -- who asks for it, by a record that isn't of a REGISTER that was done
  unlike : (m : Message) (q : Question) (outcome : AuditOutcome) → Phones.is_done outcome ≡ false → Tells server link act (record_of server coming m q outcome)
  unlike m q outcome isnt =
      λ done. never (Registers server link (Phones.registered_by link.config.offset (event_in act) (record_of server coming m q outcome)))
      (Phones.is_register (recorded q.operation)) (Phones.is_done outcome) isnt done

  sent_unlike : (m : Message) (q : Question) (id : ℕ) (targets : Targets) → Tells server link act (record_of server coming m q (sending_outcome id targets))
  sent_unlike m q id Targets.NotFound = unlike m q (AuditOutcome.Answer id 404) refl
  sent_unlike m q id Targets.Unavailable = unlike m q (AuditOutcome.Answer id 480) refl
  sent_unlike m q id (Targets.Bindings targets) = unlike m q (sending_outcome id (Targets.Bindings targets)) refl
  sent_unlike m q id (Targets.Hop uri address) = unlike m q (sending_outcome id (Targets.Hop uri address)) refl

  verdict_tells : (m : Message) (short : Bool) → message_in (reading_of bytes) ≡ Some (m, short) → (v : Verdict)
      → message_verdict server link.before coming m short ≡ v → AllByRecursion (Tells server link act) (records_of server coming m v)
  verdict_tells m short said (Register q id (Bound rows)) is = (taken, tt) where
    taken : Tells server link act (record_of server coming m q (AuditOutcome.Answer id 200))
    taken done =
        record {
          judged = judged_as coming m (Register q id (Bound rows));
          question = q;
          rule = id;
          bindings = rows;
          is_judged = ap (judged_at server link.before) given
              ∙ ap (λ (s : Option (Message × Bool)). option_map (λ (x : Message × Verdict). judged_as coming x.0 x.1) (verdict_in server link.before coming s)) said
              ∙ ap (λ (v : Verdict). Some (judged_as coming m v)) is;
          is_taken = refl;
          has_contact = registers_op q.operation (both (Phones.is_register (recorded q.operation)) (Phones.is_done (AuditOutcome.Answer id 200)) done).0;
          aor = refl;
          at = refl;
          source = refl;
        }
  verdict_tells m short said (Register q id (Refused status extras)) is =
      let k = judged_is server link.before coming bytes m short said q id (Refused status extras) is in (
        unlike m q (AuditOutcome.Answer id status)
            (refused_isnt (is_served server m k.1) (registered link.before.bindings (registration_of k.1 m.fields) coming.now) status extras k.4),
        tt,
      )
  verdict_tells m short said (Challenge q) is = (unlike m q (AuditOutcome.Challenge (challenge_status q.operation)) refl, tt)
  verdict_tells m short said (Deny q id) is = (unlike m q (AuditOutcome.Deny id) refl, tt)
  verdict_tells m short said (Send q id targets) is = (sent_unlike m q id targets, tt)
  verdict_tells m short said Drop is = tt
  verdict_tells m short said (Respond r b status) is = tt
  verdict_tells m short said (Copy r) is = tt
  verdict_tells m short said (AckOn address id) is = tt
  verdict_tells m short said (Cancel found) is = tt
  verdict_tells m short said (Answer status extras) is = tt
  verdict_tells m short said (InDialog address id) is = tt

  said_tells : (said : Option (Message × Bool)) → message_in (reading_of bytes) ≡ said
      → AllByRecursion (Tells server link act) (option_map_or (λ (x : Message × Verdict). records_of server coming x.0 x.1) (verdict_in server link.before coming said) [])
  said_tells None is = tt
  said_tells (Some x) is = verdict_tells x.0 x.1 is (message_verdict server link.before coming x.0 x.1) refl

act_tells : (server : Server) (link : Link) (act : Act) → link.act ≡ act → AllByRecursion (Tells server link act) (records_at server link.before act)
act_tells server link (Given (Datagram when word from bytes)) is =
    let a : Arrival = arrival_of link.before when word from in
    subst (λ (records : List Record). AllByRecursion (Tells server link (Given (Datagram when word from bytes))) records)
    (sym (records_are server a (verdict_in server link.before a (message_in (reading_of bytes)))))
    (said_tells server link when word from bytes is (message_in (reading_of bytes)) refl)
act_tells server link (Given (Time when)) is = tt
act_tells server link (Given (Fault when ticket)) is = tt
act_tells server link (Passing when) is = tt

pub each_registered : (server : Server) (history : List Link) → Access server history → AllByRecursion (WasRegistered server history) (phones_of (heard_of history))
each_registered server [] access = tt
each_registered server (link ∷ history) access =
    let offset : ℤ = link.config.offset in
    let before : List Registered = phones_of (heard_of history) in
    let told : AllByRecursion (Tells (under server link.config) link link.act) link.out.records =
    subst (λ (records : List Record). AllByRecursion (Tells (under server link.config) link link.act) records) (sym access.0.records)
    (act_tells (under server link.config) link link.act refl) in
    subst (λ (rows : List Registered). AllByRecursion (WasRegistered server (link ∷ history)) rows) (sym (phones_more (heard_of history) (heard_at link)))
    (all_more (WasRegistered server (link ∷ history)) offset (event_in link.act) link.out.records before
    (all_weaker (Tells (under server link.config) link link.act)
    (λ (r : Record). is_registered r ≡ true → WasRegistered server (link ∷ history) (Phones.registered_by offset (event_in link.act) r)) link.out.records
    (λ r tells done. inl (tells done)) told)
    (all_weaker (WasRegistered server history) (WasRegistered server (link ∷ history)) before (λ row was. inr was) (each_registered server history access.1)))
