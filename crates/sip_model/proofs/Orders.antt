-- What holds of the open requests of every history: keys and numbers are told apart, and no deadline is passed over.
use Rattle.std.proofs.Common.{◌≡◌, ℕ, ◌+◌, ◌≤◌, Bool, true, false, cond, ◌&&◌, ◌==◌, List, [], ◌∷◌, ◌++◌, refl, sym, ap, subst, ◌∙◌, arith, count_by, bytes_eq}
use Rattle.std.proofs.lemmas.Bool.Decides.{nat_tests}
use Rattle.std.proofs.lemmas.Slice.Eq.{bytes_eq-Decides}
use Rattle.sip_transaction_table.specs.declared.key.TransactionKey.{TransactionKey}
use Rattle.sip_transaction_table.specs.Key.{same_key}
use Rattle.model_steps.specs.state.declared.server.Server.{Server}
use Rattle.model_steps.specs.state.declared.open_request.OpenRequest.{OpenRequest}
use Rattle.model_steps.specs.state.declared.proxy_state.ProxyState.{ProxyState}
use Rattle.model_steps.specs.state.State.{first_state, has_key, is_invite}
use Rattle.model_steps.specs.context_model.Branches.{acknowledged, acknowledged_side, was_refused}
use Rattle.model_steps.specs.Effect.{replaced}
use Rattle.sip_model.specs.Run.{Link, under, IsChain}
use Rattle.sip_model.specs.Order.{KeysDiffer, is_numbered, AreNumbered, FinalAnswer}
use Rattle.sip_model.proofs.Places.{IsIn, count_push, one_at, none_at, count_replaced}
use Rattle.sip_model.proofs.Moves.{Resends, IsMove, Stays, TurnsAway, Opens, Changes, Acknowledges, kept_by_moves}
use Rattle.sip_model.proofs.Events.{resent_key, resent_number, change_event}
use Rattle.sip_model.proofs.Settling.{event_key, event_number}
use Rattle.sip_model.proofs.Openings.{opening_number}
use Rattle.sip_model.proofs.Steps.{stands_at, step_taken}

-- ---- keys

-- keys that are the same have the same parts
same_key_parts : (a b : TransactionKey) → same_key a b ≡ true → (a.branch ≡ b.branch) × (a.host ≡ b.host) × (a.port ≡ b.port) × (a.method ≡ b.method)
same_key_parts a b e =
    let branch : bytes_eq a.branch b.branch ≡ true = grind (arith, nat_tests) in
    let host : bytes_eq a.host b.host ≡ true = grind (arith, nat_tests) in
    let port : a.port ≡ b.port = grind (arith, nat_tests) in
    let method : bytes_eq a.method b.method ≡ true = grind (arith, nat_tests) in
    ((bytes_eq-Decides a.branch b.branch).0 branch, (bytes_eq-Decides a.host b.host).0 host, port, (bytes_eq-Decides a.method b.method).0 method)

-- keys that are the same are one
same_key_is : (a b : TransactionKey) → same_key a b ≡ true → a ≡ b
same_key_is a b e =
    let parts = same_key_parts a b e in
    ap (λ v. record { branch = v; host = a.host; port = a.port; method = a.method }) parts.0
    ∙ ap (λ v. record { branch = b.branch; host = v; port = a.port; method = a.method }) parts.1
    ∙ ap (λ v. record { branch = b.branch; host = b.host; port = v; method = a.method }) parts.2
    ∙ ap (λ v. record { branch = b.branch; host = b.host; port = b.port; method = v }) parts.3

-- an ACK leaves the key
acknowledged_key : (now : ℕ) (r : OpenRequest) → (acknowledged now r).key ≡ r.key
acknowledged_key now r = by_test (is_invite r && was_refused r.answer) where
  by_test : (t : Bool) → (cond t (record r { side = acknowledged_side now r.side }) r).key ≡ r.key
  by_test true = refl
  by_test false = refl

-- and the number
acknowledged_number : (now : ℕ) (r : OpenRequest) → (acknowledged now r).number ≡ r.number
acknowledged_number now r = by_test (is_invite r && was_refused r.answer) where
  by_test : (t : Bool) → (cond t (record r { side = acknowledged_side now r.side }) r).number ≡ r.number
  by_test true = refl
  by_test false = refl

-- ---- names

-- keys and numbers are told apart
pub record AreNamed (requests : List OpenRequest) (next : ℕ) : Type 0 where
  pub keys : KeysDiffer requests
  pub numbers : AreNumbered next requests

-- one more request, whose key is new
one_more_key : (requests : List OpenRequest) (r : OpenRequest) (key : TransactionKey) → KeysDiffer requests → count_by (has_key r.key) requests ≡ 0
    → count_by (has_key key) (requests ++ r ∷ []) ≤ 1
one_more_key requests r key differ is_new = by_test (same_key r.key key) refl where
  by_test : (t : Bool) → same_key r.key key ≡ t → count_by (has_key key) (requests ++ r ∷ []) ≤ 1
  by_test true is =
      let none : count_by (has_key key) requests ≡ 0 = subst (λ (k : TransactionKey). count_by (has_key k) requests ≡ 0) (same_key_is r.key key is) is_new in
      omega (arith, count_push (has_key key) requests r, one_at (same_key r.key key) is, none)
  by_test false is = omega (arith, count_push (has_key key) requests r, none_at (same_key r.key key) is, differ key)

-- a request with the next number
numbered_push : (requests : List OpenRequest) (r : OpenRequest) (next after_next : ℕ) → r.number ≡ next → next + 1 ≤ after_next → AreNumbered next requests
    → AreNumbered after_next (requests ++ r ∷ [])
numbered_push requests r next after_next e more h = record {
  differ = λ n. differ_by n (r.number == n) refl;
  are_below = λ n high. below_by n (r.number == n) refl high;
} where
  differ_by : (n : ℕ) (t : Bool) → (r.number == n) ≡ t → count_by (is_numbered n) (requests ++ r ∷ []) ≤ 1
  differ_by n true is =
      let number : r.number ≡ n = grind (arith, nat_tests) in
      let none = h.are_below n (omega arith) in
      omega (arith, count_push (is_numbered n) requests r, one_at (r.number == n) is, none)
  differ_by n false is = omega (arith, count_push (is_numbered n) requests r, none_at (r.number == n) is, h.differ n)

  below_by : (n : ℕ) (t : Bool) → (r.number == n) ≡ t → after_next ≤ n → count_by (is_numbered n) (requests ++ r ∷ []) ≡ 0
  below_by n true is high = let number : r.number ≡ n = grind (arith, nat_tests) in absurd (omega arith)
  below_by n false is high = let none = h.are_below n (omega arith) in omega (arith, count_push (is_numbered n) requests r, none_at (r.number == n) is, none)

-- a request in place of the one of its name
replaced_named : (requests : List OpenRequest) (next after_next : ℕ) (new old : OpenRequest) → IsIn old requests → new.key ≡ old.key → new.number ≡ old.number
    → next ≤ after_next
    → AreNamed requests next → AreNamed (replaced new requests) after_next
replaced_named requests next after_next new old there key number more h =
    let fewer = λ (p : OpenRequest → Bool) (same : p new ≡ p old). count_replaced p new old requests there number (h.numbers.differ old.number) same in
    record {
      keys = λ k. omega (arith, fewer (has_key k) (ap (λ (v : TransactionKey). same_key v k) key), h.keys k);
      numbers = record {
        differ = λ n. omega (arith, fewer (is_numbered n) (ap (λ (v : ℕ). v == n) number), h.numbers.differ n);
        are_below = λ n high. let none = h.numbers.are_below n (omega arith) in omega (arith, fewer (is_numbered n) (ap (λ (v : ℕ). v == n) number), none);
      };
    }

-- numbers stay below a later one
named_later : (requests : List OpenRequest) (next after_next : ℕ) → next ≤ after_next → AreNamed requests next → AreNamed requests after_next
named_later requests next after_next more h = record {
  keys = h.keys;
  numbers = record { differ = h.numbers.differ; are_below = λ n high. h.numbers.are_below n (omega arith) };
}

-- what a move makes of keys and numbers
pub move_named : (server : Server) (now : ℕ) (requests : List OpenRequest) (next : ℕ) (after : List OpenRequest) (after_next : ℕ) (finals : List FinalAnswer)
    → IsMove server now requests next after after_next finals
    → AreNamed requests next → AreNamed after after_next
move_named server now requests next after after_next finals (Stays e more up) h = subst (λ rs. AreNamed rs after_next) (sym e)
    (named_later requests next after_next more h)
move_named server now requests next after after_next finals (TurnsAway a m r opening number more e) h =
    subst (λ rs. AreNamed rs after_next) (sym e) (named_later requests next after_next (omega arith) h)
move_named server now requests next after after_next finals (Opens a m r opening at number more is_new e) h =
    subst (λ rs. AreNamed rs after_next) (sym e) (record {
      keys = λ key. one_more_key requests r key h.keys is_new;
      numbers = numbered_push requests r next after_next (opening_number server a m r finals opening ∙ number) more h.numbers;
    })
move_named server now requests next after after_next finals (Changes r change there is more e up) h =
    let event = change_event server now r change is in
    subst (λ rs. AreNamed rs after_next) (sym e) (replaced_named requests next after_next change.request r there (event_key server now r change event)
    (event_number server now r change event) more h)
move_named server now requests next after after_next finals (Resends r packets later there goes more e up) h =
    subst (λ rs. AreNamed rs after_next) (sym e) (replaced_named requests next after_next later r there (resent_key server now r packets later goes)
    (resent_number server now r packets later goes) more h)
move_named server now requests next after after_next finals (Acknowledges r there more e up) h =
    subst (λ rs. AreNamed rs after_next) (sym e) (replaced_named requests next after_next (acknowledged now r) r there (acknowledged_key now r)
    (acknowledged_number now r) more h)

-- of each state of a history keys and numbers are told apart
pub chain_named : (server : Server) (first : ℕ) (history : List Link) (last : ProxyState) → IsChain server (first_state first) history last
    → AreNamed last.requests last.next
chain_named server first [] last h =
    subst (λ (s : ProxyState). AreNamed s.requests s.next) (sym h) (record {
      keys = λ key. omega arith;
      numbers = record { differ = λ n. omega arith; are_below = λ n high. refl };
    })
chain_named server first (link ∷ history) last h =
    let taken = step_taken (under server link.config) link.before link.act link.out link.after h.1 in
    subst (λ (s : ProxyState). AreNamed s.requests s.next) (sym h.0)
    (kept_by_moves (under server link.config) (stands_at link.before link.act link.out) AreNamed
    (λ requests next after after_next finals. move_named (under server link.config) (stands_at link.before link.act link.out) requests next after after_next finals)
    link.before.requests link.before.next link.after.requests link.after.next _ taken.moves (chain_named server first history link.before h.2))
