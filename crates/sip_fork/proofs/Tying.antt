-- Exactly the timers that open requests name stand, also after one was opened, changed or closed.
use Rattle.std.proofs.Common.{◌≡◌, ℕ, ◌+◌, ◌<◌, ◌^◌, zero, Bool, true, false, cond, List, [], ◌∷◌, ◌++◌, map, take, drop, suc, get_or, set, remove, slice_get, position}
use Rattle.std.proofs.Common.{Some, refl, sym, ◌∙◌, ap, subst, arith, eqb}
use Rattle.std.specs.Prelude.{count_by}
use Rattle.std.specs.List.{All}
use Rattle.std.specs.Option.{option_map}
use Rattle.std.proofs.lemmas.List.{map-append, drop-map, take-map}
use Rattle.std.proofs.lemmas.List.Elements.{All-get_or, All-append, All-take, All-drop, All-set, All-push, recursion_from_All}
use Rattle.std.proofs.lemmas.List.Sums.{sum_by_push, sum_by-set, sum_by-remove, get_or-le-sum_by}
use Rattle.std.proofs.lemmas.Option.{slice_get_within, slice_get-map, get_or_from_slice_get}
use Rattle.sip_timers.specs.declared.timer.Timer.{Timer}
use Rattle.sip_timers.specs.Moves.{IsHeld, Moves}
use Rattle.sip_dialog_updates.specs.state.declared.open_request.OpenRequest.{OpenRequest}
use Rattle.sip_dialog_updates.specs.state.State.{has_left}
use Rattle.model_steps.specs.Effect.{replaced}
use Rattle.sip_fork.proofs.Walks.{removed_at, replaced_at}
use Rattle.model_steps.specs.context_model.BranchById.{HasNumbers}
use Rattle.sip_request.specs.Named.{HasKeys, IsReady, named_by}
use Rattle.sip_request.specs.Near.{IsNear}
use Rattle.sip_request.specs.transactions_model.Matching.{AreBranched}
use Rattle.sip_request.specs.declared.request.RequestPlan.{RequestPlan}
use Rattle.sip_request.specs.declared.request.Request.{Request}
use Rattle.sip_fork.specs.Contexts.{AreTied, IsFitting, IsKept}
use Rattle.sip_fork.proofs.NearTimes.{IsNear-within}
use Rattle.sip_fork.proofs.Mapped.{position-map}
use Rattle.sip_fork.proofs.Numbered.{numbered-push, numbered-remove, numbered-set}

-- what a request names at a place
pub at_place : (p : Timer → Bool) (rows : List Request) (i : ℕ) (r : Request) → slice_get rows i ≡ Some r
    → count_by p (named_by (get_or rows i r)) ≡ count_by p (named_by r)
at_place p rows i r at = ap (λ (x : Request). count_by p (named_by x)) (get_or_from_slice_get rows i r r at)

-- the request at a place is kept
pub kept_at : (pending : List Timer) (reached : ℕ) (rows : List Request) (i : ℕ) (r : Request) → AreTied pending reached rows → slice_get rows i ≡ Some r
    → IsKept reached r
kept_at pending reached rows i r h at =
    subst (λ (x : Request). IsKept reached x) (get_or_from_slice_get rows i r r at) (All-get_or (IsKept reached) rows i r (slice_get_within rows i r at) h.kept)

-- its timers stand
pub held_at : (pending : List Timer) (reached : ℕ) (rows : List Request) (i : ℕ) (r : Request) → AreTied pending reached rows → slice_get rows i ≡ Some r
    → IsHeld pending (named_by r)
held_at pending reached rows i r h at = record {
  stand = λ p. omega (arith, h.same p, get_or-le-sum_by (λ (x : Request). count_by p (named_by x)) rows i r (slice_get_within rows i r at), at_place p rows i r at);
  keys_differ = h.keys_differ;
}

-- its moments are numbers of 64 bits
pub timed_at : (pending : List Timer) (reached : ℕ) (rows : List Request) (i : ℕ) (r : Request) → AreTied pending reached rows → slice_get rows i ≡ Some r
    → IsNear (2 ^ 64) r.open_request
timed_at pending reached rows i r h at =
    let kept : IsKept reached r = kept_at pending reached rows i r h at in
    let early : reached < 2 ^ 62 = h.early in
    IsNear-within (reached + 1) (2 ^ 64) (omega (arith, early)) r.open_request kept.within

-- a request that fits can be kept
pub ready : (pending : List Timer) (reached room : ℕ) (rows : List Request) (plan : RequestPlan) → AreTied pending reached rows → HasKeys plan.request plan.keys
    → IsFitting reached room plan.request → IsReady reached room plan
ready pending reached room rows plan h keys fitting =
    let early : reached < 2 ^ 62 = h.early in
    record {
      keys = keys;
      near = IsNear-within (reached + 1) (reached + 2 ^ 30) (omega arith) plan.request fitting.within;
      room = fitting.room;
      moments = omega (arith, early);
    }

pub kept_new : (reached room : ℕ) (r : Request) (next : OpenRequest) → r.open_request ≡ next → HasKeys r.open_request r.branches → HasNumbers next
    → AreBranched next.branches → IsFitting reached room next → IsKept reached r
kept_new reached room r next is keys numbers branched fitting = record {
  keys = keys;
  fits = rw is fitting.fits;
  within = rw is fitting.within;
  numbers = rw is numbers;
  branched = rw is branched;
}

-- one was closed
pub closed : (old new : List Timer) (reached later : ℕ) (rows : List Request) (i : ℕ) (r : Request) → AreTied old reached rows → slice_get rows i ≡ Some r
    → later ≡ reached → Moves old (named_by r) new [] → AreTied new later (remove rows i)
closed old new reached later rows i r h at still m = rw still (record {
  same = λ p. omega (arith, h.same p, m.same p, sum_by-remove (λ (x : Request). count_by p (named_by x)) rows i r (slice_get_within rows i r at), at_place p rows i r at);
  keys_differ = m.keys_differ h.keys_differ;
  kept = All-append (IsKept reached) (take i rows) (drop (suc i) rows) (All-take (IsKept reached) i rows h.kept) (All-drop (IsKept reached) (suc i) rows h.kept);
  early = h.early;
  numbered = numbered-remove rows i (slice_get_within rows i r at) h.numbered;
})

-- one was changed
pub changed : (old new : List Timer) (reached later : ℕ) (rows : List Request) (i : ℕ) (r next : Request) → AreTied old reached rows → slice_get rows i ≡ Some r
    → next.open_request.number ≡ r.open_request.number → later ≡ reached → IsKept reached next
    → Moves old (named_by r) new (named_by next) → AreTied new later (set rows i next)
changed old new reached later rows i r next h at same still kept m = rw still (record {
  same = λ p. omega (
    arith,
    h.same p,
    m.same p,
    sum_by-set (λ (x : Request). count_by p (named_by x)) rows i next r (slice_get_within rows i r at),
    at_place p rows i r at,
  );
  keys_differ = m.keys_differ h.keys_differ;
  kept = All-set (IsKept reached) rows i next kept h.kept;
  early = h.early;
  numbered = numbered-set rows i r next (slice_get_within rows i r at) (get_or_from_slice_get rows i r r at) same h.numbered;
})

-- one was opened
pub opened : (old new : List Timer) (reached later : ℕ) (rows : List Request) (next : Request) → AreTied old reached rows
    → All (λ (r : Request). r.open_request.number < next.open_request.number) rows → later ≡ reached → IsKept reached next
    → Moves old [] new (named_by next) → AreTied new later (rows ++ next ∷ [])
opened old new reached later rows next h last still kept m = rw still (record {
  same = λ p. omega (arith, h.same p, m.same p, sum_by_push (λ (x : Request). count_by p (named_by x)) rows next);
  keys_differ = m.keys_differ h.keys_differ;
  kept = All-push (IsKept reached) rows next h.kept kept;
  early = h.early;
  numbered = numbered-push rows next (recursion_from_All (λ (r : Request). r.open_request.number < next.open_request.number) rows last) h.numbered;
})

-- ---- what the model says

-- what is seen of a list in which one takes another's place
pub set-map : (rows : List Request) (i : ℕ) (next : Request) → map (λ (r : Request). r.open_request) (set rows i next)
    ≡ set (map (λ (r : Request). r.open_request) rows) i next.open_request
set-map [] i next = refl
set-map (r ∷ rows) zero next = refl
set-map (r ∷ rows) (suc i) next = ap (λ (xs : List OpenRequest). r.open_request ∷ xs) (set-map rows i next)

remove-map : (rows : List Request) (i : ℕ) → map (λ (r : Request). r.open_request) (remove rows i) ≡ remove (map (λ (r : Request). r.open_request) rows) i
remove-map rows i =
    let f : Request → OpenRequest = λ r. r.open_request in
    map-append f (take i rows) (drop (suc i) rows) ∙ ap (λ xs. xs ++ map f (drop (suc i) rows)) (sym (take-map f i rows))
    ∙ ap (λ ys. take i (map f rows) ++ ys) (sym (drop-map f (suc i) rows))

walks_out : (next : OpenRequest) → has_left next ≡ true → (x : OpenRequest) (xs : List OpenRequest)
    → replaced next (x ∷ xs) ≡ cond (eqb x.number next.number) xs (x ∷ replaced next xs)
walks_out next left x xs = ap (λ (t : Bool). cond (eqb x.number next.number) (cond t xs (next ∷ xs)) (x ∷ replaced next xs)) left

walks_in : (next : OpenRequest) → has_left next ≡ false → (x : OpenRequest) (xs : List OpenRequest)
    → replaced next (x ∷ xs) ≡ cond (eqb x.number next.number) (next ∷ xs) (x ∷ replaced next xs)
walks_in next stays x xs = ap (λ (t : Bool). cond (eqb x.number next.number) (cond t xs (next ∷ xs)) (x ∷ replaced next xs)) stays

-- one that has left is taken out
pub replaced_out : (next : OpenRequest) (rows : List Request) (i : ℕ) → has_left next ≡ true
    → position (λ (x : OpenRequest). eqb x.number next.number) (map (λ (r : Request). r.open_request) rows) ≡ Some i
    → map (λ (r : Request). r.open_request) (remove rows i) ≡ replaced next (map (λ (r : Request). r.open_request) rows)
replaced_out next rows i left found =
    remove-map rows i ∙ sym (removed_at (λ (x : OpenRequest). eqb x.number next.number) (replaced next) (walks_out next left) (map (λ (r : Request). r.open_request) rows)
    i next found)

-- another one takes its place again
pub replaced_in : (next : OpenRequest) (requests : List OpenRequest) (i : ℕ) → has_left next ≡ false
    → position (λ (x : OpenRequest). eqb x.number next.number) requests ≡ Some i → set requests i next ≡ replaced next requests
replaced_in next requests i stays found = sym (replaced_at (λ (x : OpenRequest). eqb x.number next.number) (replaced next) next (walks_in next stays) requests i found)

-- the place of a request of this number
pub place_of : (next : OpenRequest) (rows : List Request) (i : ℕ) (r : Request) → next.number ≡ r.open_request.number
    → position (λ (x : Request). eqb x.open_request.number r.open_request.number) rows ≡ Some i
    → position (λ (x : OpenRequest). eqb x.number next.number) (map (λ (r : Request). r.open_request) rows) ≡ Some i
place_of next rows i r same found =
    position-map (λ (x : Request). x.open_request) (λ (x : OpenRequest). eqb x.number next.number) rows
    ∙ subst (λ (n : ℕ). position (λ (x : Request). eqb x.open_request.number n) rows ≡ Some i) (sym same) found

-- ---- what is seen of the rows

abbrev pub contexts : List Request → List OpenRequest
contexts rows = map (λ (r : Request). r.open_request) rows

pub seen_changed : (rows new : List Request) (i : ℕ) (next : Request) (request : OpenRequest) → new ≡ set rows i next → next.open_request ≡ request
    → contexts new ≡ set (contexts rows) i request
seen_changed rows new i next request e is = ap (λ (xs : List Request). contexts xs) e ∙ set-map rows i next ∙ ap (λ (x : OpenRequest). set (contexts rows) i x) is

-- what is seen at a place
pub seen_at : (rows : List Request) (i : ℕ) (r : Request) → slice_get rows i ≡ Some r → slice_get (contexts rows) i ≡ Some r.open_request
seen_at rows i r at = slice_get-map (λ (x : Request). x.open_request) rows i ∙ ap (option_map (λ (x : Request). x.open_request)) at
