-- Of the fields of a Warning or a Contact a response that is made here has those that it is made with, and no others.
use Rattle.std.proofs.Common.{◌≡◌, ℕ, Option, Some, None, subst, arith, Bool, true, false, cond, List, [], ◌∷◌, ◌++◌, map, refl, sym, ap, ◌∙◌, bytes_eq, ◌==◌, ◌&&◌, ◌||◌}
use Rattle.std.specs.Option.{option_map_or, option_to_list}
use Rattle.std.specs.Result.{result_ok}
use Rattle.std.specs.Prelude.{nat_lt, length, Result, Ok, Err, unwrap_or, ◌≤◌}
use Rattle.std.proofs.lemmas.Slice.Eq.{bytes_eq-Decides}
use Rattle.std.proofs.lemmas.List.Elements.{filter-append}
use Rattle.sip_text.specs.Words.{without_case}
use Rattle.sip_message_fields.specs.declared.field.Field.{Field}
use Rattle.sip_message_fields.specs.declared.field_name.FieldName.{FieldName}
use Rattle.sip_message_fields.specs.declared.field_name.FieldName.TheVariants as Name
use Rattle.sip_message_fields.specs.FieldName.{spelling, is_same_name}
use Rattle.sip_message_fields.specs.Named.{all_named, first_named, first_of}
use Rattle.sip_uri.specs.declared.uri.Uri.{Uri}
use Rattle.sip_edit_response.specs.Extras.{min_expires}
use Rattle.sip_edit_response.specs.Reply.{answered_field, timestamp_for, reply_fields}
use Rattle.sip_location.specs.declared.binding.Binding.{Binding}
use Rattle.sip_location.specs.declared.error.LocationError.{LocationError}
use Rattle.sip_location.specs.declared.error.LocationError.TheVariants.{NoMemory, BadStar, TooBrief, OldCSeq, TooMany}
use Rattle.sip_location.specs.Registering.{to_aor, registration_of}
use Rattle.sip_location.specs.declared.registration.Registration.{Registration}
use Rattle.sip_location.specs.Binding.{live, of_others}
use Rattle.sip_location.specs.Registration.{has_bad_star, is_too_brief, has_old_cseq, edited, asks_nothing, registered}
use Rattle.sip_policy.specs.User.{is_own_domain, is_users_address}
use Rattle.sip_route.specs.Way.{request_uri_of}
use Rattle.sip_model.specs.state.declared.server.Server.{Server}
use Rattle.sip_model.specs.verdict_model.Verdict.{Registered, Bound, Refused, registered_by, registration_by, is_own_uri}
use Rattle.sip_model.specs.Bindings.{rows_after}
use Rattle.model_laws.specs.Headline.{Came, is_served_here, edited_by, bound_by}
use Rattle.sip_model.specs.steps_model.Effect.{contact_field}

-- ---- fields of another name

-- a field of one name is of no other
other_name : (f one other : FieldName) → is_same_name one other ≡ false → is_same_name f one ≡ true → is_same_name f other ≡ false
other_name f one other differ is =
    ap (λ (text : List ℕ). bytes_eq text (without_case (spelling other))) ((bytes_eq-Decides (without_case (spelling f)) (without_case (spelling one))).0 is) ∙ differ

module _ (name other : FieldName) (differ : is_same_name other name ≡ false) where
  -- all fields of another name have none of a name
  none_among : (fields : List Field) → all_named name (all_named other fields) ≡ []
  none_among [] = refl
  none_among (f ∷ fields) = by_test (is_same_name f.name other) refl (none_among fields) where
    by_test : (t : Bool) → is_same_name f.name other ≡ t → all_named name (all_named other fields) ≡ []
        → all_named name (cond t (f ∷ all_named other fields) (all_named other fields)) ≡ []
    by_test true is rest =
        ap (λ (b : Bool). cond {A = List Field} b (f ∷ all_named name (all_named other fields)) (all_named name (all_named other fields)))
        (other_name f.name other name differ is) ∙ rest
    by_test false is rest = rest

  -- nor has the first of them
  none_first : (fields : List Field) → all_named name (first_of other fields) ≡ []
  none_first [] = refl
  none_first (f ∷ fields) = by_test (is_same_name f.name other) refl (none_first fields) where
    by_test : (t : Bool) → is_same_name f.name other ≡ t → all_named name (first_of other fields) ≡ []
        → all_named name (option_to_list (cond t (Some f) (first_named other fields))) ≡ []
    by_test true is rest = ap (λ (b : Bool). cond {A = List Field} b (f ∷ []) []) (other_name f.name other name differ is)
    by_test false is rest = rest

  -- nor that with a tag
  none_answered : (status : ℕ) (tag : List ℕ) (fields : List Field) → all_named name (map (answered_field status tag) (first_of other fields)) ≡ []
  none_answered status tag [] = refl
  none_answered status tag (f ∷ fields) = by_test (is_same_name f.name other) refl (none_answered status tag fields) where
    by_test : (t : Bool) → is_same_name f.name other ≡ t → all_named name (map (answered_field status tag) (first_of other fields)) ≡ []
        → all_named name (map (answered_field status tag) (option_to_list (cond t (Some f) (first_named other fields)))) ≡ []
    by_test true is rest = ap (λ (b : Bool). cond {A = List Field} b (answered_field status tag f ∷ []) []) (other_name f.name other name differ is)
    by_test false is rest = rest

-- ---- a response that is made here

-- a name that none of the fields has which a response copies
pub record IsNotCopied (name : FieldName) : Type 0 where
  pub via : is_same_name Name.Via name ≡ false
  pub from : is_same_name Name.From name ≡ false
  pub to : is_same_name Name.To name ≡ false
  pub call_id : is_same_name Name.CallId name ≡ false
  pub cseq : is_same_name Name.CSeq name ≡ false
  pub timestamp : is_same_name Name.Timestamp name ≡ false

pub warning_not_copied : IsNotCopied Name.Warning
warning_not_copied = record { via = refl; from = refl; to = refl; call_id = refl; cseq = refl; timestamp = refl }

pub contact_not_copied : IsNotCopied Name.Contact
contact_not_copied = record { via = refl; from = refl; to = refl; call_id = refl; cseq = refl; timestamp = refl }

module _ (name : FieldName) (is : IsNotCopied name) where
  -- behind fields without the name
  behind : (xs ys : List Field) → all_named name xs ≡ [] → all_named name (xs ++ ys) ≡ all_named name ys
  behind xs ys e = filter-append (λ (f : Field). is_same_name f.name name) xs ys ∙ ap (λ (l : List Field). l ++ all_named name ys) e

  both : (xs ys : List Field) → all_named name xs ≡ [] → all_named name ys ≡ [] → all_named name (xs ++ ys) ≡ []
  both xs ys e f = behind xs ys e ∙ f

  no_timestamp : (status : ℕ) (fields : List Field) → all_named name (timestamp_for status fields) ≡ []
  no_timestamp status fields = by_test (status == 100) where
    by_test : (t : Bool) → all_named name (cond t (first_of Name.Timestamp fields) []) ≡ []
    by_test true = none_first name Name.Timestamp is.timestamp fields
    by_test false = refl

  -- it has those that it is made with
  pub reply_has : (status : ℕ) (tag : List ℕ) (fields extras : List Field) → all_named name (reply_fields status tag fields extras) ≡ all_named name extras
  reply_has status tag fields extras =
      let vias : List Field = all_named Name.Via fields in
      let froms : List Field = first_of Name.From fields in
      let tos : List Field = map (answered_field status tag) (first_of Name.To fields) in
      let ids : List Field = first_of Name.CallId fields in
      let cseqs : List Field = first_of Name.CSeq fields in
      let times : List Field = timestamp_for status fields in
      behind (vias ++ froms ++ tos ++ ids ++ cseqs ++ times) extras
      (both (vias ++ froms ++ tos ++ ids ++ cseqs) times
      (both (vias ++ froms ++ tos ++ ids) cseqs
      (both (vias ++ froms ++ tos) ids
      (both (vias ++ froms) tos (both vias froms (none_among name Name.Via is.via fields) (none_first name Name.From is.from fields))
      (none_answered name Name.To is.to status tag fields))
      (none_first name Name.CallId is.call_id fields))
      (none_first name Name.CSeq is.cseq fields))
      (no_timestamp status fields))

-- ---- what it is made with

-- the Contacts of a list are all Contacts
pub all_contacts : (now : ℕ) (bs : List Binding) → all_named Name.Contact (map (contact_field now) bs) ≡ map (contact_field now) bs
all_contacts now [] = refl
all_contacts now (b ∷ bs) = ap (λ (fields : List Field). contact_field now b ∷ fields) (all_contacts now bs)

-- ---- the registrar

module _ (server : Server) (rows : List Binding) (q : Came) where
  -- what a REGISTER comes to, by whether it is served here and by what the registrar makes of it
  abbrev comes_to : Bool → Result (List Binding) LocationError → Registered
  comes_to t r = cond t (registered_by r) (Refused 404 [])

  abbrev asked : Registration
  asked = registration_of q.core q.message.fields

  abbrev made : Result (List Binding) LocationError
  made = registered rows (registration_of q.core q.message.fields) q.now

  served_here : (o : Option Uri)
      → (is_own_uri server o && is_users_address server.config.users server.config.own.domains (to_aor q.core))
      ≡ (option_map_or (λ (uri : Uri). is_own_domain server.config.own.domains uri.host) o false
      && is_users_address server.config.users server.config.own.domains (to_aor q.core))
  served_here None = refl
  served_here (Some uri) = refl

  pub outcome_is : registration_by server rows q.now q.message q.core ≡ comes_to (is_served_here server q) made
  outcome_is = ap (λ (t : Bool). comes_to t made) (served_here (request_uri_of server.config.own q.message))

  same_edit : edited_by rows (registration_of q.core q.message.fields) q.now ≡ result_ok made
  same_edit =
      by_tests (asks_nothing asked.contacts) (has_bad_star asked) (is_too_brief asked) (has_old_cseq asked (live asked.aor q.now rows))
      (nat_lt 16 (length (edited rows asked q.now))) where
        by_tests : (asks a b c d : Bool)
            → cond asks (Some rows) (cond (a || b || c || d) None (Some (of_others asked.aor rows ++ edited rows asked q.now)))
            ≡ result_ok (cond asks (Ok rows) (cond a (Err BadStar) (cond b (Err TooBrief)
            (cond c (Err OldCSeq) (cond d (Err TooMany) (Ok (of_others asked.aor rows ++ edited rows asked q.now)))))))
        by_tests true a b c d = refl
        by_tests false true b c d = refl
        by_tests false false true c d = refl
        by_tests false false false true d = refl
        by_tests false false false false true = refl
        by_tests false false false false false = refl

  pub same_bound : bound_by server rows q ≡ cond (is_served_here server q) (result_ok made) None
  same_bound = ap (λ (o : Option (List Binding)). cond (is_served_here server q) o None) same_edit

  -- the bindings that it makes
  bound : (t : Bool) (r : Result (List Binding) LocationError) (after : List Binding) → cond t (result_ok r) None ≡ Some after → comes_to t r ≡ Bound after
  bound true (Ok x) after e = ap (λ (o : Option (List Binding)). Bound (option_map_or (λ (y : List Binding). y) o after)) e
  bound true (Err error) after e = absurd (cc)
  bound false r after e = absurd (cc)

  pub bound_is : (after : List Binding) → bound_by server rows q ≡ Some after → registration_by server rows q.now q.message q.core ≡ Bound after
  bound_is after e = outcome_is ∙ bound (is_served_here server q) made after (sym same_bound ∙ e)

  kept : (t : Bool) (r : Result (List Binding) LocationError) → rows_after rows (comes_to t r) ≡ unwrap_or (cond t (result_ok r) None) rows
  kept true (Ok x) = refl
  kept true (Err NoMemory) = refl
  kept true (Err BadStar) = refl
  kept true (Err TooBrief) = refl
  kept true (Err OldCSeq) = refl
  kept true (Err TooMany) = refl
  kept false r = refl

  pub rows_are : rows_after rows (registration_by server rows q.now q.message q.core) ≡ unwrap_or (bound_by server rows q) rows
  rows_are = ap (rows_after rows) outcome_is ∙ kept (is_served_here server q) made ∙ ap (λ (o : Option (List Binding)). unwrap_or o rows) (sym same_bound)

-- a refusal, which is a final response without a Contact
pub record IsRefusal (outcome : Registered) : Type 0 where
  pub status : ℕ
  pub extras : List Field
  pub is_it : outcome ≡ Refused status extras
  pub is_final : 300 ≤ status
  pub lists_none : all_named Name.Contact extras ≡ []

refusal_by : (t : Bool) (r : Result (List Binding) LocationError) → cond t (result_ok r) None ≡ None → IsRefusal (cond t (registered_by r) (Refused 404 []))
refusal_by true (Ok x) e = absurd (cc)
refusal_by true (Err NoMemory) e = record { status = 503; extras = []; is_it = refl; is_final = omega arith; lists_none = refl }
refusal_by true (Err BadStar) e = record { status = 400; extras = []; is_it = refl; is_final = omega arith; lists_none = refl }
refusal_by true (Err TooBrief) e = record { status = 423; extras = min_expires ∷ []; is_it = refl; is_final = omega arith; lists_none = refl }
refusal_by true (Err OldCSeq) e = record { status = 500; extras = []; is_it = refl; is_final = omega arith; lists_none = refl }
refusal_by true (Err TooMany) e = record { status = 503; extras = []; is_it = refl; is_final = omega arith; lists_none = refl }
refusal_by false r e = record { status = 404; extras = []; is_it = refl; is_final = omega arith; lists_none = refl }

-- a REGISTER of which the registrar makes no bindings is refused
pub refusal_is : (server : Server) (rows : List Binding) (q : Came) → bound_by server rows q ≡ None → IsRefusal (registration_by server rows q.now q.message q.core)
refusal_is server rows q e = subst IsRefusal (sym (outcome_is server rows q)) (refusal_by (is_served_here server q)
    (registered rows (registration_of q.core q.message.fields) q.now) (sym (same_bound server rows q) ∙ e))
