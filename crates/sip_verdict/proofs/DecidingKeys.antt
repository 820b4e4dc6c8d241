-- How the verdict on a message follows from what was read of it.
use Rattle.std.proofs.Common.{◌≡◌, ◌∙◌, ℕ, Bool, true, false, cond, List, Option, Some, None, Ok, Err, refl, sym, ap, subst}
use Rattle.std.specs.Prelude.{◌||◌, Result, IfOk, IfSome, option_map, find}
use Rattle.std.specs.Option.{option_and_then}
use Rattle.std.specs.Result.{result_ok}
use Rattle.std.specs.declared.alloc.AllocError.{AllocError}
use denote.Ref.{Bor}
use Rattle.sip_edit.specs.ReceivedRequest.{top_via}
use Rattle.sip_message_fields.specs.declared.field.Field.{Field}
use Rattle.sip_message_fields.specs.declared.field_name.FieldName.TheVariants as Name
use Rattle.sip_message_fields.specs.Values.{first_value, values_of}
use Rattle.sip_message_form.specs.declared.message.Start.{Start}
use Rattle.sip_message_form.specs.declared.message.Message.{Message}
use Rattle.sip_header.specs.declared.cseq.CSeq.{CSeq}
use Rattle.sip_header.specs.declared.via.Via.{Via}
use Rattle.sip_header.specs.CoreFields.{cseq_in}
use Rattle.sip_header.specs.Parameters.{branch_of}
use Rattle.sip_header.specs.Via.{via_of}
use Rattle.sip_transaction_table.specs.declared.key.TransactionKey.{TransactionKey}
use Rattle.sip_transaction_table.specs.Key.{key_of, start_key, via_key}
use Rattle.model_verdict.specs.state.declared.branch.Branch.{Branch}
use Rattle.model_verdict.specs.state.declared.open_request.OpenRequest.{OpenRequest}
use Rattle.model_verdict.specs.state.declared.proxy_state.ProxyState.{ProxyState}
use Rattle.model_verdict.specs.state.declared.server.Server.{Server}
use Rattle.model_verdict.specs.state.Arrival.{Arrival}
use Rattle.model_verdict.specs.context_model.FoundBranch.{found_branch}
use Rattle.sip_route.specs.declared.own.Own.{Own}
use Rattle.sip_route.specs.Own.{is_own_via}
use Rattle.model_verdict.specs.state.State.{has_key}
use Rattle.model_verdict.specs.Verdict.{Drop, Respond, is_many, response_verdict, responding, new_verdict, by_open, by_key, by_start, message_verdict}
use Rattle.sip_verdict.specs.declared.incoming.Incoming.{Incoming}
use Rattle.sip_verdict.specs.Incoming.{IsDropped, IsResponse, IsRequest, Is}

-- ---- a response

-- the branch of the Via on top, if that is of this host and port
abbrev pub own_top : Own → List Field → Option (List ℕ)
own_top own fields = option_and_then (λ (via : Via). cond (is_own_via own via) (branch_of via.parameters) None) (option_and_then via_of (first_value Name.Via fields))

-- the method of the only CSeq
abbrev pub only_method : List Field → Option (List ℕ)
only_method fields = option_map (λ (cseq : CSeq). cseq.method) (result_ok (cseq_in fields))

-- the branch with this text and method
abbrev pub named : Server → List OpenRequest → Option (List ℕ) → Option (List ℕ) → Option (OpenRequest × Branch)
named server requests text method = option_and_then (λ (t : List ℕ). option_and_then (λ (m : List ℕ). found_branch server t m requests) method) text

by_cseq : (server : Server) (requests : List OpenRequest) (text : Option (List ℕ)) (cseq : Option CSeq)
    → option_and_then (λ (t : List ℕ). option_and_then (λ (c : CSeq). found_branch server t c.method requests) cseq) text
    ≡ named server requests text (option_map (λ (c : CSeq). c.method) cseq)
by_cseq server requests None cseq = refl
by_cseq server requests (Some text) None = refl
by_cseq server requests (Some text) (Some cseq) = refl

responding_is : (server : Server) (own : Own) (requests : List OpenRequest) (fields : List Field) → server.config.own ≡ own
    → responding server requests fields ≡ named server requests (own_top own fields) (only_method fields)
responding_is server own requests fields is =
    ap (λ (o : Own). option_and_then (λ (t : List ℕ). option_and_then (λ (c : CSeq). found_branch server t c.method requests) (result_ok (cseq_in fields)))
    (own_top o fields)) is
    ∙ by_cseq server requests (own_top own fields) (result_ok (cseq_in fields))

no_method : (server : Server) (requests : List OpenRequest) (text : Option (List ℕ)) → named server requests text None ≡ None
no_method server requests None = refl
no_method server requests (Some text) = refl

-- the verdict on a response, by whether its body is short
by_status : (m : Message) (short : Bool) (status : ℕ) (reason : List ℕ) → m.start ≡ Start.Status status reason → (server : Server) (state : ProxyState) (a : Arrival)
    → message_verdict server state a m short ≡ cond short Drop (response_verdict m.fields status (responding server state.requests m.fields))
by_status m short status reason is server state a = ap (λ (s : Start). by_start server state a m short s) is

whole : (m : Message) (short : Bool) (status : ℕ) (reason : List ℕ) → m.start ≡ Start.Status status reason → short ≡ false
    → (server : Server) (state : ProxyState) (a : Arrival)
    → message_verdict server state a m short ≡ response_verdict m.fields status (responding server state.requests m.fields)
whole m short status reason is full server state a =
    by_status m short status reason is server state a ∙ ap (λ (s : Bool). cond s Drop (response_verdict m.fields status (responding server state.requests m.fields))) full

pub short_body : (own : Own) (m : Message) (short : Bool) (status : ℕ) (reason : List ℕ) → m.start ≡ Start.Status status reason → short ≡ true → IsDropped own m short
short_body own m short status reason is cut =
    λ server state a same. by_status m short status reason is server state a ∙ ap (λ (s : Bool).
    cond s Drop (response_verdict m.fields status (responding server state.requests m.fields))) cut

pub no_branch : (own : Own) (m : Message) (short : Bool) (status : ℕ) (reason : List ℕ) → m.start ≡ Start.Status status reason → short ≡ false
    → None ≡ own_top own m.fields → IsDropped own m short
no_branch own m short status reason is full none =
    λ server state a same.
    whole m short status reason is full server state a
    ∙ ap (response_verdict m.fields status) (responding_is server own state.requests m.fields same
    ∙ ap (λ (t : Option (List ℕ)). named server state.requests t (only_method m.fields)) (sym none))

pub no_cseq : (own : Own) (m : Message) (short : Bool) (status : ℕ) (reason : List ℕ) → m.start ≡ Start.Status status reason → short ≡ false
    → None ≡ only_method m.fields → IsDropped own m short
no_cseq own m short status reason is full none =
    λ server state a same.
    whole m short status reason is full server state a
    ∙ ap (response_verdict m.fields status) (responding_is server own state.requests m.fields same ∙ ap (named server state.requests (own_top own m.fields)) (sym none)
    ∙ no_method server state.requests (own_top own m.fields))

both : (server : Server) (own : Own) (requests : List OpenRequest) (fields : List Field) (text method : List ℕ) → server.config.own ≡ own → Some text ≡ own_top own fields
    → Some method ≡ only_method fields
    → responding server requests fields ≡ found_branch server text method requests
both server own requests fields text method same is_text is_method =
    responding_is server own requests fields same ∙ ap (λ (t : Option (List ℕ)). named server requests t (only_method fields)) (sym is_text)
    ∙ ap (named server requests (Some text)) (sym is_method)

pub responds : (own : Own) (m : Message) (short : Bool) (status : ℕ) (reason text method : List ℕ) (has_more_vias : Bool) → m.start ≡ Start.Status status reason
    → short ≡ false
    → Some text ≡ own_top own m.fields → Some method ≡ only_method m.fields → has_more_vias ≡ is_many (values_of Name.Via m.fields)
    → IsResponse own m short status text method has_more_vias
responds own m short status reason text method has_more_vias is full is_text is_method more =
    record {
      reason = reason;
      start_is = is;
      vias_are = sym more;
      responds = λ server requests same. both server own requests m.fields text method same is_text is_method;
      verdict_is =
          λ server state a same.
          whole m short status reason is full server state a ∙ ap (response_verdict m.fields status)
          (both server own state.requests m.fields text method same is_text is_method);
    }

-- ---- a request

-- its key, by its method and the Via on top
abbrev pub key_by : List ℕ → List Field → Option TransactionKey
key_by method fields = option_and_then (λ (value : List ℕ). option_and_then (via_key method) (via_of value)) (first_value Name.Via fields)

key_is : (m : Message) (method uri version : List ℕ) → m.start ≡ Start.Request method uri version → key_of m ≡ key_by method m.fields
key_is m method uri version is = ap (start_key m.fields) is

by_request : (m : Message) (short : Bool) (method uri version : List ℕ) (key : Option TransactionKey) → m.start ≡ Start.Request method uri version
    → key ≡ key_by method m.fields
    → (server : Server) (state : ProxyState) (a : Arrival) → message_verdict server state a m short ≡ by_key server state a m short method key
by_request m short method uri version key is is_key server state a =
    ap (λ (s : Start). by_start server state a m short s) is ∙ ap (by_key server state a m short method) (key_is m method uri version is ∙ sym is_key)

pub no_key : (own : Own) (m : Message) (short : Bool) (method uri version : List ℕ) → m.start ≡ Start.Request method uri version → None ≡ key_by method m.fields
    → IsDropped own m short
no_key own m short method uri version is none = λ server state a same. by_request m short method uri version None is none server state a

pub requests : (m : Message) (short : Bool) (method uri version : List ℕ) (via : Via) (key : TransactionKey) → m.start ≡ Start.Request method uri version
    → top_via m ≡ Some via
    → Some key ≡ key_by method m.fields → IsRequest m short method via key
requests m short method uri version via key is is_via is_key =
    record {
      uri = uri;
      version = version;
      start_is = is;
      via_is = is_via;
      key_is = key_is m method uri version is ∙ sym is_key;
      verdict_is = by_request m short method uri version (Some key) is is_key;
    }

-- the Via on top and the key, where both were found
pub no_pair : (found : Option (Via × TransactionKey)) (wanted : Option TransactionKey) → found ≡ None → option_map (λ (x : Via × TransactionKey). x.1) found ≡ wanted
    → None ≡ wanted
no_pair found wanted is e = sym (ap (λ (f : Option (Via × TransactionKey)). option_map (λ (x : Via × TransactionKey). x.1) f) is) ∙ e

pub key_found : (found : Option (Via × TransactionKey)) (via : Via) (key : TransactionKey) (wanted : Option TransactionKey) → found ≡ Some (via, key)
    → option_map (λ (x : Via × TransactionKey). x.1) found ≡ wanted
    → Some key ≡ wanted
key_found found via key wanted is e = sym (ap (λ (f : Option (Via × TransactionKey)). option_map (λ (x : Via × TransactionKey). x.1) f) is) ∙ e

pub via_found : (found : Option (Via × TransactionKey)) (via : Via) (key : TransactionKey) (m : Message) → found ≡ Some (via, key)
    → IfSome found (λ (x : Via × TransactionKey). top_via m ≡ Some x.0)
    → top_via m ≡ Some via
via_found found via key m is h = subst (λ (f : Option (Via × TransactionKey)). IfSome f (λ (x : Via × TransactionKey). top_via m ≡ Some x.0)) is h

-- ---- a result handed on

-- what a search for a part of a message found
pub found_none : (found : Option (Bor (List ℕ))) (wanted : Option (List ℕ)) → found ≡ None → option_map (λ (b : Bor (List ℕ)). b.now) found ≡ wanted → None ≡ wanted
found_none found wanted is e = sym (ap (λ (f : Option (Bor (List ℕ))). option_map (λ (b : Bor (List ℕ)). b.now) f) is) ∙ e

pub found_some : (found : Option (Bor (List ℕ))) (part : Bor (List ℕ)) (wanted : Option (List ℕ)) → found ≡ Some part
    → option_map (λ (b : Bor (List ℕ)). b.now) found ≡ wanted → Some part.now ≡ wanted
found_some found part wanted is e = sym (ap (λ (f : Option (Bor (List ℕ))). option_map (λ (b : Bor (List ℕ)). b.now) f) is) ∙ e

pub of_request : (result : Result Incoming AllocError) (own : Own) (m : Message) (short : Bool) (method uri version : List ℕ) → m.start ≡ Start.Request method uri version
    → IfOk result (λ (i : Incoming). (o : Own) (s : Bool) (u v : List ℕ) → m.start ≡ Start.Request method u v → Is o m s i)
    → IfOk result (λ (i : Incoming). Is own m short i)
of_request (Ok i) own m short method uri version is h = h own short uri version is
of_request (Err e) own m short method uri version is h = tt

pub of_response : (result : Result Incoming AllocError) (own : Own) (m : Message) (short : Bool) (status : ℕ) (reason : List ℕ) → m.start ≡ Start.Status status reason
    → IfOk result (λ (i : Incoming). (r : List ℕ) → m.start ≡ Start.Status status r → Is own m short i) → IfOk result (λ (i : Incoming). Is own m short i)
of_response (Ok i) own m short status reason is h = h reason is
of_response (Err e) own m short status reason is h = tt

-- ---- the cases of a look-up

pub lost : (own : Own) (m : Message) (short : Bool) (status : ℕ) (text method : List ℕ) (has_more_vias : Bool) → IsResponse own m short status text method has_more_vias
    → (server : Server) (state : ProxyState) (a : Arrival) → server.config.own ≡ own
    → found_branch server text method state.requests ≡ None → message_verdict server state a m short ≡ Drop
lost own m short status text method has_more_vias h server state a same none = h.verdict_is server state a same ∙ ap (response_verdict m.fields status) none

pub found : (own : Own) (m : Message) (short : Bool) (status : ℕ) (text method : List ℕ) (has_more_vias : Bool) → IsResponse own m short status text method has_more_vias
    → (server : Server) (state : ProxyState) (a : Arrival) → server.config.own ≡ own
    → (r : OpenRequest) (b : Branch) → found_branch server text method state.requests ≡ Some (r, b)
    → message_verdict server state a m short ≡ cond (b.is_cancel || has_more_vias) (Respond r b status) Drop
found own m short status text method has_more_vias h server state a same r b is =
    h.verdict_is server state a same ∙ ap (response_verdict m.fields status) is
    ∙ ap (λ (more : Bool). cond (b.is_cancel || more) (Respond r b status) Drop) h.vias_are

pub new_request : (m : Message) (short : Bool) (method : List ℕ) (via : Via) (key : TransactionKey) → IsRequest m short method via key
    → (server : Server) (state : ProxyState) (a : Arrival) → find (has_key key) state.requests ≡ None
    → message_verdict server state a m short ≡ new_verdict server state a m short method key
new_request m short method via key h server state a none = h.verdict_is server state a ∙ ap (by_open server state a m short method key) none

pub open_request : (m : Message) (short : Bool) (method : List ℕ) (via : Via) (key : TransactionKey) → IsRequest m short method via key
    → (server : Server) (state : ProxyState) (a : Arrival) (r : OpenRequest) → find (has_key key) state.requests ≡ Some r
    → message_verdict server state a m short ≡ by_open server state a m short method key (Some r)
open_request m short method via key h server state a r is = h.verdict_is server state a ∙ ap (by_open server state a m short method key) is
