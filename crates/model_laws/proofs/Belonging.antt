-- A response is given to the branch that it says.
use Rattle.std.proofs.Common.{◌≡◌, ◌≢◌, ◌⊎◌, inl, inr, ℕ, zero, suc, get_or, ◌+◌, ◌≤◌, ◌<◌, ◌^◌, Bool, true, false, cond, not, ◌&&◌, ◌==◌, List, [], ◌∷◌, length, codes}
use Rattle.std.proofs.Common.{find, count_by, Contains, Option, Some, None, Result, Ok, Err, option_map, refl, sym, ap, subst, ◌∙◌, arith, bytes_eq, true≢false}
use Rattle.std.specs.Option.{option_map_or, option_and_then}
use Rattle.std.specs.Prelude.{unwrap_or}
use Rattle.std.specs.Result.{result_ok}
use Rattle.std.specs.List.{AllByRecursion}
use Rattle.std.proofs.lemmas.Bool.Decides.{Decides-eqb}
use Rattle.std.proofs.lemmas.Slice.Eq.{bytes_eq-Decides}
use Rattle.std.proofs.lemmas.List.Sums.{sum_by-cons}
use Rattle.std.proofs.lemmas.List.Elements.{All-from_recursion, All-contains}
use Rattle.sip_message_fields.specs.declared.field.Field.{Field}
use Rattle.sip_message_fields.specs.declared.field_name.FieldName.TheVariants as Name
use Rattle.sip_message_fields.specs.Values.{first_value}
use Rattle.sip_header.specs.declared.via.Via.{Via}
use Rattle.sip_header.specs.declared.cseq.CSeq.{CSeq}
use Rattle.sip_header.specs.declared.error.HeaderError.{HeaderError}
use Rattle.sip_header.specs.Via.{via_of}
use Rattle.sip_header.specs.Parameters.{branch_of}
use Rattle.sip_header.specs.CoreFields.{cseq_in}
use Rattle.sip_route.specs.Own.{is_own_via, own_branch}
use Rattle.sip_edit.specs.declared.branch_id.BranchId.{BranchId}
use Rattle.sip_edit.specs.BranchId.{branch_id_of}
use Rattle.sip_edit.specs.OwnVia.{branch_text}
use Rattle.sip_model.specs.state.declared.server.Server.{Server}
use Rattle.sip_model.specs.state.declared.branch.Branch.{Branch}
use Rattle.sip_model.specs.state.declared.open_request.OpenRequest.{OpenRequest}
use Rattle.sip_model.specs.state.declared.proxy_state.ProxyState.{ProxyState}
use Rattle.sip_model.specs.context_model.Branches.{is_same_branch}
use Rattle.sip_model.specs.context_model.FoundBranch.{is_branch, branch_in, found_branch}
use Rattle.sip_model.specs.context_model.BranchById.{is_of_datagram, is_sent, sent_in, branch_by_id, HasNumbers}
use Rattle.sip_model.specs.verdict_model.Verdict.{top_branch, responding}
use Rattle.sip_model.specs.Order.{AreNumbered}
use Rattle.model_laws.specs.Responses.{IsMethodOf, SaysBranch, IsOfBranch, IsGivenTo}

-- ---- lists

module _ {X : Type 0} where
  pub head_there : (x : X) (xs : List X) → Contains (x ∷ xs) x
  head_there x xs = (0, omega arith, refl)

  pub tail_there : (y x : X) (xs : List X) → Contains xs x → Contains (y ∷ xs) x
  tail_there y x xs there = (suc there.0, omega (arith, there.1), there.2)

  -- what a list contains is its head, or its tail contains it
  pub head_or_tail : (y x : X) (xs : List X) → Contains (y ∷ xs) x → (y ≡ x) ⊎ Contains xs x
  head_or_tail y x xs there = by_place there.0 there.1 there.2 where
    by_place : (k : ℕ) → k < suc (length xs) → get_or (y ∷ xs) k x ≡ x → (y ≡ x) ⊎ Contains xs x
    by_place zero lt e = inl e
    by_place (suc k) lt e = inr (k, omega (arith, lt), e)

-- an element that a search found, in a list that contains it, and which passes
pub record IsFound {X : Type 0} (p : X → Bool) (xs : List X) (y : X) : Type 0 where
  pub is_there : Contains xs y
  pub passes : p y ≡ true

record Finds {X : Type 0} (p : X → Bool) (xs : List X) : Type 0 where
  first : X
  finds : find p xs ≡ Some first

module _ {X : Type 0} (p : X → Bool) where
  some_is : (x y : X) → Some x ≡ Some y → x ≡ y
  some_is x y e = ap (λ (o : Option X). unwrap_or o x) e

  pub is_found : (xs : List X) (y : X) → find p xs ≡ Some y → IsFound p xs y
  is_found [] y e = absurd (cc)
  is_found (x ∷ xs) y e = by_test (p x) refl (is_found xs y) e where
    by_test : (t : Bool) → p x ≡ t → (find p xs ≡ Some y → IsFound p xs y) → cond t (Some x) (find p xs) ≡ Some y → IsFound p (x ∷ xs) y
    by_test true passes later e =
        let same = some_is x y e in
        record { is_there = subst (λ (z : X). Contains (x ∷ xs) z) same (head_there x xs); passes = subst (λ (z : X). p z ≡ true) same passes }
    by_test false passes later e = let rest = later e in record { is_there = tail_there x y xs rest.is_there; passes = rest.passes }

  -- one is found where one passes
  finds_some : (xs : List X) (x : X) → Contains xs x → p x ≡ true → Finds p xs
  finds_some [] x there passes = absurd (omega (arith, there.1))
  finds_some (y ∷ ys) x there passes = by_test (p y) refl (finds_some ys x) (head_or_tail y x ys there) where
    by_test : (t : Bool) → p y ≡ t → (Contains ys x → p x ≡ true → Finds p ys) → (y ≡ x) ⊎ Contains ys x → Finds p (y ∷ ys)
    by_test true e later where_it_is = record { first = y; finds = ap (λ (b : Bool). cond b (Some y) (find p ys)) e }
    by_test false e later (inl same) = absurd (true≢false (sym passes ∙ sym (ap p same) ∙ e))
    by_test false e later (inr there) = let rest = later there passes in record {
      first = rest.first;
      finds = ap (λ (b : Bool). cond b (Some y) (find p ys)) e ∙ rest.finds;
    }

  count_cons : (x : X) (xs : List X) → count_by p (x ∷ xs) ≡ cond (p x) 1 0 + count_by p xs
  count_cons x xs = sum_by-cons (λ (y : X). cond {A = ℕ} (p y) 1 0) x xs

  -- one that is there and passes is counted
  pub counted : (xs : List X) (x : X) → Contains xs x → p x ≡ true → 1 ≤ count_by p xs
  counted [] x there passes = absurd (omega (arith, there.1))
  counted (y ∷ ys) x there passes = by_cases (head_or_tail y x ys there) (counted ys x) where
    by_cases : (y ≡ x) ⊎ Contains ys x → (Contains ys x → p x ≡ true → 1 ≤ count_by p ys) → 1 ≤ count_by p (y ∷ ys)
    by_cases (inl same) later = let one : cond {A = ℕ} (p y) 1 0 ≡ 1 = ap (λ (b : Bool). cond {A = ℕ} b 1 0) (ap p same ∙ passes) in omega (arith, count_cons y ys, one)
    by_cases (inr there) later = omega (arith, count_cons y ys, later there passes)

  -- where one at most passes, one that does is found
  finds_it : (xs : List X) (x : X) → Contains xs x → p x ≡ true → count_by p xs ≤ 1 → find p xs ≡ Some x
  finds_it [] x there passes one = absurd (omega (arith, there.1))
  finds_it (y ∷ ys) x there passes one = by_test (p y) refl (finds_it ys x) (head_or_tail y x ys there) where
    by_test : (t : Bool) → p y ≡ t → (Contains ys x → p x ≡ true → count_by p ys ≤ 1 → find p ys ≡ Some x) → (y ≡ x) ⊎ Contains ys x
        → cond t (Some y) (find p ys) ≡ Some x
    by_test true e later (inl same) = ap Some same
    by_test true e later (inr there) =
        let first : cond {A = ℕ} (p y) 1 0 ≡ 1 = ap (λ (b : Bool). cond {A = ℕ} b 1 0) e in
        absurd (omega (arith, one, count_cons y ys, counted ys x there passes, first))
    by_test false e later (inl same) = absurd (true≢false (sym passes ∙ sym (ap p same) ∙ e))
    by_test false e later (inr there) = later there passes (omega (arith, one, count_cons y ys))

-- ---- options

-- what a step gave was given of something
record Steps {X Y : Type 0} (f : X → Option Y) (o : Option X) (y : Y) : Type 0 where
  from : X
  is_from : o ≡ Some from
  gives : f from ≡ Some y

stepped : {X Y : Type 0} (f : X → Option Y) (o : Option X) (y : Y) → option_and_then f o ≡ Some y → Steps f o y
stepped f None y e = absurd (cc)
stepped f (Some x) y e = record { from = x; is_from = refl; gives = e }

-- ---- a branch that is found

-- the method of a branch, by its test
method_by : (r : OpenRequest) (b : Branch) (method : List ℕ) → (cond b.is_cancel (codes "CANCEL") r.key.method) ≡ method → IsMethodOf r b method
method_by r b method e = by_test b.is_cancel refl e where
  by_test : (t : Bool) → b.is_cancel ≡ t → cond t (codes "CANCEL") r.key.method ≡ method → IsMethodOf r b method
  by_test true is e = inl (is, sym e)
  by_test false is e = inr (is, sym e)

by_method : (r : OpenRequest) (b : Branch) (method : List ℕ) → IsMethodOf r b method → (cond b.is_cancel (codes "CANCEL") r.key.method) ≡ method
by_method r b method (inl is) = ap (λ (t : Bool). cond t (codes "CANCEL") r.key.method) is.0 ∙ sym is.1
by_method r b method (inr is) = ap (λ (t : Bool). cond t (codes "CANCEL") r.key.method) is.0 ∙ sym is.1

both_pass : (s t : Bool) → (s && t) ≡ true → (s ≡ true) × (t ≡ true)
both_pass true true e = (refl, refl)
both_pass true false e = absurd (cc)
both_pass false t e = absurd (cc)

-- a request and its branch among some, which a text and a method name
record IsNamed (server : Server) (text method : List ℕ) (requests : List OpenRequest) (r : OpenRequest) (b : Branch) : Type 0 where
  is_open : Contains requests r
  is_its : Contains r.branches b
  has_text : branch_text server.word r.number b.number ≡ text
  has_method : IsMethodOf r b method

named_by : (server : Server) (text method : List ℕ) (r : OpenRequest) (b : Branch) → is_branch server text method r b ≡ true
    → (branch_text server.word r.number b.number ≡ text) × IsMethodOf r b method
named_by server text method r b e =
    let both = both_pass (bytes_eq (branch_text server.word r.number b.number) text) (bytes_eq (cond b.is_cancel (codes "CANCEL") r.key.method) method) e in
    let way = (bytes_eq-Decides (cond b.is_cancel (codes "CANCEL") r.key.method) method).0 both.1 in
    ((bytes_eq-Decides (branch_text server.word r.number b.number) text).0 both.0, method_by r b method way)

named_once_found : (server : Server) (text method : List ℕ) (requests : List OpenRequest) (r : OpenRequest) (b : Branch)
    → found_branch server text method requests ≡ Some (r, b) → IsNamed server text method requests r b
named_once_found server text method [] r b e = absurd (cc)
named_once_found server text method (q ∷ qs) r b e = by_branch (branch_in server text method q) refl (named_once_found server text method qs r b) e where
  by_branch : (o : Option Branch) → branch_in server text method q ≡ o → (found_branch server text method qs ≡ Some (r, b) → IsNamed server text method qs r b)
      → option_map_or (λ c. Some (q, c)) o (found_branch server text method qs) ≡ Some (r, b) → IsNamed server text method (q ∷ qs) r b
  by_branch None is later e = let rest = later e in record {
    is_open = tail_there q r qs rest.is_open;
    is_its = rest.is_its;
    has_text = rest.has_text;
    has_method = rest.has_method;
  }
  by_branch (Some c) is later e =
      let pair : (q, c) ≡ (r, b) = ap (λ (o : Option (OpenRequest × Branch)). unwrap_or o (q, c)) e in
      let found = is_found (is_branch server text method q) q.branches c is in
      let says = named_by server text method q c found.passes in
      subst (λ (x : OpenRequest × Branch). IsNamed server text method (q ∷ qs) x.0 x.1) pair
      (record { is_open = head_there q qs; is_its = found.is_there; has_text = says.0; has_method = says.1 })

-- ---- a response that is taken

-- the Via on top, where a branch of this server's is read
own_by : (server : Server) (via : Via) (text : List ℕ) → own_branch server.config.own via ≡ Some text
    → (is_own_via server.config.own via ≡ true) × (branch_of via.parameters ≡ Some text)
own_by server via text e = by_test (is_own_via server.config.own via) e where
  by_test : (t : Bool) → cond t (branch_of via.parameters) None ≡ Some text → (t ≡ true) × (branch_of via.parameters ≡ Some text)
  by_test true e = (refl, e)
  by_test false e = absurd (cc)

one_by : (o : Result CSeq HeaderError) (cseq : CSeq) → result_ok o ≡ Some cseq → o ≡ Ok cseq
one_by (Ok c) cseq e = ap Ok (ap (λ (o : Option CSeq). unwrap_or o c) e)
one_by (Err error) cseq e = absurd (cc)

pub taken : (server : Server) (requests : List OpenRequest) (fields : List Field) (r : OpenRequest) (b : Branch) → responding server requests fields ≡ Some (r, b)
    → IsOfBranch server requests fields r b
taken server requests fields r b e =
    let text = stepped (λ text. option_and_then (λ cseq. found_branch server text cseq.method requests) (result_ok (cseq_in fields))) (top_branch server fields) (r, b) e
    in
    let cseq = stepped (λ (cseq : CSeq). found_branch server text.from cseq.method requests) (result_ok (cseq_in fields)) (r, b) text.gives in
    let via = stepped (own_branch server.config.own) (option_and_then via_of (first_value Name.Via fields)) text.from text.is_from in
    let value = stepped via_of (first_value Name.Via fields) via.from via.is_from in
    let own = own_by server via.from text.from via.gives in
    let named = named_once_found server text.from cseq.from.method requests r b cseq.gives in
    record {
      is_open = named.is_open;
      is_its = named.is_its;
      says = record {
        value = value.from;
        via = via.from;
        cseq = cseq.from;
        is_top = value.is_from;
        reads = value.gives;
        is_own = own.0;
        has_text = own.1 ∙ ap Some (sym named.has_text);
        is_one_cseq = one_by (cseq_in fields) cseq.from cseq.is_from;
        has_method = named.has_method;
      };
    }

-- ---- a response that says a branch

-- what it is given by
search_is : (server : Server) (requests : List OpenRequest) (fields : List Field) (r : OpenRequest) (b : Branch) (says : SaysBranch server r b fields)
    → responding server requests fields ≡ found_branch server (branch_text server.word r.number b.number) says.cseq.method requests
search_is server requests fields r b says =
    let top : top_branch server fields ≡ Some (branch_text server.word r.number b.number) =
    ap (λ (o : Option (List ℕ)). option_and_then (own_branch server.config.own) (option_and_then via_of o)) says.is_top
    ∙ ap (λ (o : Option Via). option_and_then (own_branch server.config.own) o) says.reads
    ∙ ap (λ (t : Bool). cond t (branch_of says.via.parameters) None) says.is_own ∙ says.has_text in
    ap (λ (o : Option (List ℕ)). option_and_then (λ text. option_and_then (λ cseq. found_branch server text cseq.method requests) (result_ok (cseq_in fields))) o) top
    ∙ ap (λ (o : Result CSeq HeaderError). option_and_then (λ (cseq : CSeq). found_branch server (branch_text server.word r.number b.number) cseq.method requests)
    (result_ok o))
    says.is_one_cseq

-- whether a branch is sent so
sent_by : (r : OpenRequest) (b : Branch) (target : ℕ) (method : List ℕ) → b.number ≡ target → IsMethodOf r b method → is_sent target method r b ≡ true
sent_by r b target method number is =
    let same : (b.number == target) ≡ true = (Decides-eqb b.number target).1 number in
    let way : bytes_eq (cond b.is_cancel (codes "CANCEL") r.key.method) method ≡ true =
    (bytes_eq-Decides (cond b.is_cancel (codes "CANCEL") r.key.method) method).1 (by_method r b method is) in
    rw same (rw way)

sent_says : (r : OpenRequest) (b : Branch) (target : ℕ) (method : List ℕ) → is_sent target method r b ≡ true → (b.number ≡ target) × IsMethodOf r b method
sent_says r b target method e =
    let both = both_pass (b.number == target) (bytes_eq (cond b.is_cancel (codes "CANCEL") r.key.method) method) e in
    ((Decides-eqb b.number target).0 both.0, method_by r b method ((bytes_eq-Decides (cond b.is_cancel (codes "CANCEL") r.key.method) method).0 both.1))

module _
    (reads_back : (boot number target : ℕ) → number < 2 ^ 64 → target < 2 ^ 32 → branch_id_of boot (branch_text boot number target)
    ≡ Some (record { number = number; target = target }))
  where
    -- where numbers differ and fit, by the numbers of its text
    pub given_by_numbers : (server : Server) (state : ProxyState) (fields : List Field) (r : OpenRequest) (b : Branch) → AreNumbered state.next state.requests
        → AllByRecursion HasNumbers state.requests
        → ((text method : List ℕ) → found_branch server text method state.requests ≡ branch_by_id server text method state.requests)
        → IsOfBranch server state.requests fields r b → IsGivenTo server state.requests fields r b
    given_by_numbers server state fields r b numbered fit by_id is =
        let fits : HasNumbers r = All-contains HasNumbers state.requests r (All-from_recursion HasNumbers state.requests fit) is.is_open in
        let target_fits : b.number < 2 ^ 32 =
        All-contains (λ (c : Branch). c.number < 2 ^ 32) r.branches b (All-from_recursion (λ (c : Branch). c.number < 2 ^ 32) r.branches fits.targets_fit) is.is_its in
        let text : List ℕ = branch_text server.word r.number b.number in
        let method : List ℕ = is.says.cseq.method in
        let its = finds_some (is_sent b.number method r) r.branches b is.is_its (sent_by r b b.number method refl is.says.has_method) in
        let found = is_found (is_sent b.number method r) r.branches its.first its.finds in
        let sent = sent_says r its.first b.number method found.passes in
        let request : find (is_of_datagram r.number) state.requests ≡ Some r =
        finds_it (is_of_datagram r.number) state.requests r is.is_open ((Decides-eqb r.number r.number).1 refl) (numbered.differ r.number) in
        let id : branch_id_of server.word text ≡ Some (record { number = r.number; target = b.number }) =
        reads_back server.word r.number b.number fits.number_fits target_fits in
        record {
          found = its.first;
          method = method;
          is_given =
              search_is server state.requests fields r b is.says ∙ by_id text method
              ∙ ap (λ (o : Option BranchId). option_and_then (λ (id : BranchId). option_and_then (sent_in id.target method)
              (find (is_of_datagram id.number) state.requests)) o) id
              ∙ ap (λ (o : Option OpenRequest). option_and_then (sent_in b.number method) o) request
              ∙ ap (λ (o : Option Branch). option_map (λ (c : Branch). (r, c)) o) its.finds;
          is_its = found.is_there;
          has_number = sent.0;
          has_method = sent.1;
          is_method = is.says.has_method;
        }

-- ---- that very branch

-- two branches of one request that are sent with one method are both CANCELs or neither, where the request is none
one_kind : (r : OpenRequest) (b c : Branch) (method : List ℕ) → IsMethodOf r b method → IsMethodOf r c method → r.key.method ≢ codes "CANCEL" → b.is_cancel ≡ c.is_cancel
one_kind r b c method (inl is) (inl also) other = is.0 ∙ sym also.0
one_kind r b c method (inl is) (inr also) other = absurd (other (sym also.1 ∙ is.1))
one_kind r b c method (inr is) (inl also) other = absurd (other (sym is.1 ∙ also.1))
one_kind r b c method (inr is) (inr also) other = is.0 ∙ sym also.0

same_by : (b c : Branch) → b.number ≡ c.number → b.is_cancel ≡ c.is_cancel → is_same_branch b c ≡ true
same_by b c number kind = by_test b.is_cancel c.is_cancel kind where
  by_test : (s t : Bool) → s ≡ t → (b.number == c.number && cond s t (not t)) ≡ true
  by_test true true e = let same : (b.number == c.number) ≡ true = (Decides-eqb b.number c.number).1 number in rw same
  by_test true false e = absurd (cc)
  by_test false true e = absurd (cc)
  by_test false false e = let same : (b.number == c.number) ≡ true = (Decides-eqb b.number c.number).1 number in rw same

pub very_same : (server : Server) (requests : List OpenRequest) (fields : List Field) (r : OpenRequest) (b found : Branch) → IsOfBranch server requests fields r b
    → responding server requests fields ≡ Some (r, found) → found.number ≡ b.number → r.key.method ≢ codes "CANCEL" → is_same_branch found b ≡ true
very_same server requests fields r b found is given number other =
    let also = taken server requests fields r found given in
    let one : also.says.cseq ≡ is.says.cseq = ok_is also.says.cseq is.says.cseq (sym also.says.is_one_cseq ∙ is.says.is_one_cseq) in
    same_by found b number (one_kind r found b is.says.cseq.method (subst (λ (c : CSeq). IsMethodOf r found c.method) one also.says.has_method) is.says.has_method other)
  where
    ok_is : (c d : CSeq) → ◌≡◌ {A = Result CSeq HeaderError} (Ok c) (Ok d) → c ≡ d
    ok_is c d e = ap (λ (o : Result CSeq HeaderError). unwrap_or (result_ok o) c) e
