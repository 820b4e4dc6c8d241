-- What opens a request, and changes another one then, keeps the order as what does both at once.
use Rattle.std.proofs.Common.{◌≡◌, ℕ, zero, suc, ◌≤◌, Bool, true, false, cond, List, [], ◌∷◌, ◌++◌, slice_get, Some, refl, sym, ap, ◌∙◌, subst, arith, eqb}
use Rattle.std.specs.Prelude.{count_by}
use Rattle.std.specs.List.{AllByRecursion, flat_map}
use Rattle.std.proofs.lemmas.Bool.Decides.{nat_tests}
use Rattle.std.proofs.lemmas.List.{reverse-append}
use Rattle.std.proofs.lemmas.Option.{slice_get_within, get_or_from_slice_get}
use Rattle.sip_timers.specs.declared.timer.Timer.{Timer}
use Rattle.sip_dialog_updates.specs.state.State.{has_left, with_one_more}
use Rattle.sip_dialog_updates.specs.state.declared.open_request.OpenRequest.{OpenRequest}
use Rattle.model_steps.specs.Effect.{replaced}
use Rattle.sip_request.specs.Queued.{entries}
use Rattle.sip_request.specs.transactions_model.Queue.{AreDueInOrder, Entry, entries_of, has, queue_after, request_entries, same_entry}
use Rattle.sip_request.proofs.of_entries.{all_there, entries-append, every, lacks_by_count}
use Rattle.sip_fork.specs.Firing.{IsQueueOf, KeepsOrder}

-- a request that is opened has its timers in front of all others
entries-opened : (r : OpenRequest) (requests : List OpenRequest) → entries_of (with_one_more r requests) ≡ request_entries r ++ entries_of requests
entries-opened r requests = ap (λ rs. flat_map request_entries rs) (reverse-append requests (r ∷ []))

-- what no two of are alike isn't there twice
none_behind : (front rest : List Entry) → ((e : Entry) → count_by (same_entry e) (front ++ rest) ≤ 1) → AllByRecursion (λ (o : Entry). has o rest ≡ false) front
none_behind front rest apart = every front (λ o there. lacks_by_count o rest (omega (arith, there, apart o, entries-append (same_entry o) front rest))) (all_there front)

-- another request than the last one is changed
replaced-front : (change opened : OpenRequest) (xs : List OpenRequest) (place : ℕ) (r : OpenRequest) → slice_get xs place ≡ Some r → change.number ≡ r.number
    → replaced change (with_one_more opened xs) ≡ with_one_more opened (replaced change xs)
replaced-front change opened [] place r at same = absurd (omega (arith, slice_get_within [] place r at))
replaced-front change opened (x ∷ xs) zero r at same =
    subst (λ (b : Bool). cond b (cond (has_left change) (xs ++ opened ∷ []) (change ∷ (xs ++ opened ∷ []))) (x ∷ replaced change (xs ++ opened ∷ []))
    ≡ cond b (cond (has_left change) xs (change ∷ xs)) (x ∷ replaced change xs) ++ opened ∷ [])
    (sym found) (here (has_left change)) where
      is : x ≡ r
      is = get_or_from_slice_get (x ∷ xs) zero r x at

      number_is : x.number ≡ change.number
      number_is = ap (λ (y : OpenRequest). y.number) is ∙ sym same

      found : eqb x.number change.number ≡ true
      found = grind (arith, nat_tests, number_is)

      here : (t : Bool) → cond true (cond t (xs ++ opened ∷ []) (change ∷ (xs ++ opened ∷ []))) (x ∷ replaced change (xs ++ opened ∷ []))
          ≡ cond true (cond t xs (change ∷ xs)) (x ∷ replaced change xs) ++ opened ∷ []
      here true = refl
      here false = refl
replaced-front change opened (x ∷ xs) (suc place) r at same = by_number (eqb x.number change.number) (has_left change)
    (replaced-front change opened xs place r at same) where
      by_number : (b t : Bool) → replaced change (xs ++ opened ∷ []) ≡ replaced change xs ++ opened ∷ []
          → cond b (cond t (xs ++ opened ∷ []) (change ∷ (xs ++ opened ∷ []))) (x ∷ replaced change (xs ++ opened ∷ []))
          ≡ cond b (cond t xs (change ∷ xs)) (x ∷ replaced change xs) ++ opened ∷ []
      by_number true true rest = refl
      by_number true false rest = refl
      by_number false t rest = ap (λ (ys : List OpenRequest). x ∷ ys) rest

-- two queues join
abbrev pub Joins : Type 0
Joins = (queue opened before after : List Entry) → AreDueInOrder queue → ((e : Entry) → has e queue ≡ has e before)
    → AllByRecursion (λ (o : Entry). has o before ≡ false) opened → AllByRecursion (λ (o : Entry). has o after ≡ false) opened
    → queue_after (queue_after queue (opened ++ before)) (opened ++ after) ≡ queue_after queue (opened ++ after)

pub joined : Joins → (old mid new : List Timer) (requests : List OpenRequest) (opened change r : OpenRequest) (place : ℕ) → slice_get requests place ≡ Some r
    → change.number ≡ r.number → IsQueueOf old requests
    → IsQueueOf mid (with_one_more opened requests) → IsQueueOf new (replaced change (with_one_more opened requests)) → KeepsOrder old mid (with_one_more opened requests)
    → KeepsOrder mid new (replaced change (with_one_more opened requests)) → KeepsOrder old new (replaced change (with_one_more opened requests))
joined joins old mid new requests opened change r place at same stood between stands first second =
    let after : List OpenRequest = replaced change requests in
    let as_opened : replaced change (with_one_more opened requests) ≡ with_one_more opened after = replaced-front change opened requests place r at same in
    let in_front : entries_of (with_one_more opened requests) ≡ request_entries opened ++ entries_of requests = entries-opened opened requests in
    let in_front_then : entries_of (replaced change (with_one_more opened requests)) ≡ request_entries opened ++ entries_of after =
    ap (λ rs. entries_of rs) as_opened ∙ entries-opened opened after in
    let none_before : AllByRecursion (λ (o : Entry). has o (entries_of requests) ≡ false) (request_entries opened) =
    none_behind (request_entries opened) (entries_of requests) (subst (λ (es : List Entry). (e : Entry) → count_by (same_entry e) es ≤ 1) in_front between.apart) in
    let none_after : AllByRecursion (λ (o : Entry). has o (entries_of after) ≡ false) (request_entries opened) =
    none_behind (request_entries opened) (entries_of after) (subst (λ (es : List Entry). (e : Entry) → count_by (same_entry e) es ≤ 1) in_front_then stands.apart) in
    record {
      queue = second.queue
          ∙ ap (λ es. queue_after es (entries_of (replaced change (with_one_more opened requests)))) first.queue
          ∙ ap (λ es. queue_after (queue_after (entries old) es) (entries_of (replaced change (with_one_more opened requests)))) in_front
          ∙ ap (λ es. queue_after (queue_after (entries old) (request_entries opened ++ entries_of requests)) es) in_front_then
          ∙ joins (entries old) (request_entries opened) (entries_of requests) (entries_of after) stood.in_order stood.exact none_before none_after
          ∙ ap (λ es. queue_after (entries old) es) (sym in_front_then);
    }
