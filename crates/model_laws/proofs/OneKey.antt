-- Two requests have the same key where they are of one transaction.
use Rattle.std.proofs.Common.{◌≡◌, ◌↔◌, ℕ, Bool, true, false, cond, ◌&&◌, ◌==◌, List, ◌++◌, codes, Option, Some, None, IsSome, refl, sym, ap, subst, ◌∙◌, inl, inr}
use Rattle.std.proofs.Common.{bytes_eq, unwrap_or}
use Rattle.std.specs.Option.{option_and_then}
use Rattle.std.proofs.lemmas.Bool.Decides.{Decides-eqb}
use Rattle.std.proofs.lemmas.Slice.Eq.{bytes_eq-Decides}
use Rattle.sip_text.specs.Words.{without_case}
use Rattle.sip_message_form.specs.declared.message.Message.{Message}
use Rattle.sip_header.specs.declared.via.Via.{Via}
use Rattle.sip_header.specs.Via.{via_of}
use Rattle.sip_transaction_table.specs.declared.key.TransactionKey.{TransactionKey}
use Rattle.sip_transaction_table.specs.Key.{has_cookie, key_method, key_from, via_key, start_key, key_of, same_key}
use Rattle.model_laws.specs.Keys.{SaysOnTop, IsOfInvite, AreOneMethod, IsSamePort, AreOneTransaction}

-- ---- keys

-- equal texts, by the test on them
equal_by : (left right : List ℕ) → bytes_eq left right ≡ true → left ≡ right
equal_by left right e = (bytes_eq-Decides left right).0 e

equal_test : (left right : List ℕ) → left ≡ right → bytes_eq left right ≡ true
equal_test left right e = (bytes_eq-Decides left right).1 e

-- four tests that all pass
four : (a b c d : Bool) → (a && b && c && d) ≡ true → (a ≡ true) × (b ≡ true) × (c ≡ true) × (d ≡ true)
four true true true true e = (refl, refl, refl, refl)
four true true true false e = absurd (cc)
four true true false d e = absurd (cc)
four true false c d e = absurd (cc)
four false b c d e = absurd (cc)

-- keys of equal parts are equal
pub of_parts : (left right : TransactionKey) → left.branch ≡ right.branch → left.host ≡ right.host → left.port ≡ right.port → left.method ≡ right.method → left ≡ right
of_parts left right branch host port method =
    ap (λ (b : List ℕ). record { branch = b; host = left.host; port = left.port; method = left.method }) branch
    ∙ ap (λ (h : List ℕ). record { branch = right.branch; host = h; port = left.port; method = left.method }) host
    ∙ ap (λ (p : ℕ). record { branch = right.branch; host = right.host; port = p; method = left.method }) port
    ∙ ap (λ (x : List ℕ). record { branch = right.branch; host = right.host; port = right.port; method = x }) method

-- what the test finds the same is equal
pub equal_keys : (left right : TransactionKey) → same_key left right ≡ true → left ≡ right
equal_keys left right e =
    let parts = four (bytes_eq left.branch right.branch) (bytes_eq left.host right.host) (left.port == right.port) (bytes_eq left.method right.method) e in
    of_parts left right (equal_by left.branch right.branch parts.0) (equal_by left.host right.host parts.1) ((Decides-eqb left.port right.port).0 parts.2)
    (equal_by left.method right.method parts.3)

pub same_itself : (key : TransactionKey) → same_key key key ≡ true
same_itself key =
    let branch = equal_test key.branch key.branch refl in
    let host = equal_test key.host key.host refl in
    let port = (Decides-eqb key.port key.port).1 refl in
    let method = equal_test key.method key.method refl in
    rw branch (rw host (rw port (rw method)))

pub same_keys : (left right : TransactionKey) → left ≡ right → same_key left right ≡ true
same_keys left right e = subst (λ (key : TransactionKey). same_key left key ≡ true) e (same_itself left)

pub same_turned : (left right : TransactionKey) → same_key left right ≡ true → same_key right left ≡ true
same_turned left right e = same_keys right left (sym (equal_keys left right e))

pub same_joined : (left middle right : TransactionKey) → same_key left middle ≡ true → same_key middle right ≡ true → same_key left right ≡ true
same_joined left middle right one two = same_keys left right (equal_keys left middle one ∙ equal_keys middle right two)

-- ---- the key of a request

-- the key with these parts
abbrev pub made_of : List ℕ → Via → List ℕ → TransactionKey
made_of method via branch = record { branch = branch; host = without_case via.host; port = unwrap_or via.port 5060; method = key_method method }

-- what a request says on top is all that its key is made of
key_on_top : (m : Message) (method : List ℕ) (via : Via) (branch : List ℕ) → SaysOnTop m method via branch → key_of m ≡ key_from method via branch
key_on_top m method via branch says =
    ap (start_key m.fields) says.is_request
    ∙ ap (λ (o : Option (List ℕ)). option_and_then (λ value. option_and_then (via_key method) (via_of value)) o) says.is_first
    ∙ ap (λ (o : Option Via). option_and_then (via_key method) o) says.reads
    ∙ ap (λ (o : Option (List ℕ)). option_and_then (key_from method via) o) says.has_branch

-- there is one where the branch has the magic cookie
by_cookie : (t : Bool) (made key : TransactionKey) → cond t (Some made) None ≡ Some key → key ≡ made
by_cookie true made key e = sym (ap (λ (o : Option TransactionKey). unwrap_or o made) e)
by_cookie false made key e = absurd (cc)

pub key_is : (m : Message) (method : List ℕ) (via : Via) (branch : List ℕ) (key : TransactionKey)
    → SaysOnTop m method via branch → key_of m ≡ Some key → key ≡ made_of method via branch
key_is m method via branch key says e = by_cookie (has_cookie branch) (made_of method via branch) key (sym (key_on_top m method via branch says) ∙ e)

-- ---- its parts

-- each method of an INVITE's transaction counts as INVITE
counts_as_invite : (method : List ℕ) → IsOfInvite method → key_method method ≡ codes "INVITE"
counts_as_invite method (inl e) = ap key_method e
counts_as_invite method (inr e) = ap key_method e

pub same_method : (left right : List ℕ) → AreOneMethod left right → key_method left ≡ key_method right
same_method left right (inl e) = ap key_method e
same_method left right (inr both) = counts_as_invite left both.0 ∙ sym (counts_as_invite right both.1)

-- and no others do
pub one_method : (left right : List ℕ) → key_method left ≡ key_method right → AreOneMethod left right
one_method left right e = by_tests (bytes_eq left (codes "ACK")) (bytes_eq right (codes "ACK")) refl refl e where
  by_tests : (s t : Bool) → bytes_eq left (codes "ACK") ≡ s → bytes_eq right (codes "ACK") ≡ t → cond s (codes "INVITE") left ≡ cond t (codes "INVITE") right
      → AreOneMethod left right
  by_tests true true l r e = inr (inr (equal_by left (codes "ACK") l), inr (equal_by right (codes "ACK") r))
  by_tests true false l r e = inr (inr (equal_by left (codes "ACK") l), inl (sym e))
  by_tests false true l r e = inr (inl e, inr (equal_by right (codes "ACK") r))
  by_tests false false l r e = inl e

-- ports
pub same_port : (left right : Option ℕ) → unwrap_or left 5060 ≡ unwrap_or right 5060 → IsSamePort left right
same_port None None e = tt
same_port None (Some right) e = e
same_port (Some left) None e = e
same_port (Some left) (Some right) e = e

pub port_same : (left right : Option ℕ) → IsSamePort left right → unwrap_or left 5060 ≡ unwrap_or right 5060
port_same None None e = refl
port_same None (Some right) e = e
port_same (Some left) None e = e
port_same (Some left) (Some right) e = e

-- ---- two requests

module _ (method : List ℕ) (via : Via) (branch : List ℕ) (other_method : List ℕ) (other_via : Via) (other_branch : List ℕ) where
  -- equal keys are of one transaction
  one_transaction : made_of method via branch ≡ made_of other_method other_via other_branch → AreOneTransaction method via branch other_method other_via other_branch
  one_transaction e = record {
    branches = ap (λ (k : TransactionKey). k.branch) e;
    hosts = equal_test (without_case via.host) (without_case other_via.host) (ap (λ (k : TransactionKey). k.host) e);
    ports = same_port via.port other_via.port (ap (λ (k : TransactionKey). k.port) e);
    methods = one_method method other_method (ap (λ (k : TransactionKey). k.method) e);
  }

  -- and requests of one transaction have equal keys
  equal_made : AreOneTransaction method via branch other_method other_via other_branch → made_of method via branch ≡ made_of other_method other_via other_branch
  equal_made h =
      of_parts (made_of method via branch) (made_of other_method other_via other_branch) h.branches
      (equal_by (without_case via.host) (without_case other_via.host) h.hosts)
      (port_same via.port other_via.port h.ports) (same_method method other_method h.methods)

  pub same_where_one : (m other : Message) (left right : TransactionKey) → SaysOnTop m method via branch → SaysOnTop other other_method other_via other_branch
      → key_of m ≡ Some left → key_of other ≡ Some right → (same_key left right ≡ true) ↔ AreOneTransaction method via branch other_method other_via other_branch
  same_where_one m other left right says also e d =
      let l = key_is m method via branch left says e in
      let r = key_is other other_method other_via other_branch right also d in
      ((λ same. one_transaction (sym l ∙ equal_keys left right same ∙ r)), (λ one. same_keys left right (l ∙ equal_made one ∙ sym r)))

-- ---- there is one

has_front : (rest : List ℕ) → has_cookie (codes "z9hG4bK" ++ rest) ≡ true
has_front rest = equal_test (codes "z9hG4bK") (codes "z9hG4bK") refl

some_by : (t : Bool) (made : TransactionKey) → t ≡ true → IsSome (cond t (Some made) None)
some_by true made e = refl
some_by false made e = absurd (cc)

pub is_keyed : (m : Message) (method : List ℕ) (via : Via) (branch rest : List ℕ) → SaysOnTop m method via branch → branch ≡ codes "z9hG4bK" ++ rest → IsSome (key_of m)
is_keyed m method via branch rest says e =
    subst (λ (o : Option TransactionKey). IsSome o) (sym (key_on_top m method via branch says))
    (some_by (has_cookie branch) (made_of method via branch) (ap has_cookie e ∙ has_front rest))
