-- The timers that stand are a queue in which what stood keeps its place.
use Rattle.std.proofs.Common.{◌≡◌, ℕ, zero, suc, ◌+◌, ◌<◌, ◌≤◌, Bool, true, false, cond, List, [], ◌∷◌, ◌++◌, length, map, take, drop, get_or, set, remove, slice_get}
use Rattle.std.proofs.Common.{Some, refl, sym, ap, ◌∙◌, subst, append-nil, arith, ltb}
use Rattle.std.specs.Prelude.{not, filter, count_by, reverse}
use Rattle.std.specs.List.{AllByRecursion, flat_map, sum_by}
use Rattle.std.proofs.lemmas.Bool.Decides.{nat_tests}
use Rattle.std.proofs.lemmas.List.{map-append, reverse-append}
use Rattle.std.proofs.lemmas.List.Concat.{flat_map-append}
use Rattle.std.proofs.lemmas.List.Elements.{filter-append, recursion_from_All}
use Rattle.std.proofs.lemmas.List.Sums.{sum_by-cons}
use Rattle.std.proofs.lemmas.Option.{slice_get_within, get_or_from_slice_get}
use Rattle.sip_timers.specs.declared.letter.Letter.{Letter}
use Rattle.sip_timers.specs.declared.timer.Owner.{Owner}
use Rattle.sip_timers.specs.declared.timer.Owner.TheVariants as Of
use Rattle.sip_timers.specs.declared.timer.Timer.{Timer}
use Rattle.sip_timers.specs.Setting.{all_placed, AreSome, NoMore, IsNew, SetsInOrder}
use Rattle.sip_timers.specs.Timers.{AreOrdered, due_before}
use Rattle.sip_timers.proofs.Setting.{AreSome-none}
use Rattle.sip_dialog_updates.specs.state.declared.branch.Branch.{Branch}
use Rattle.sip_dialog_updates.specs.state.declared.open_request.OpenRequest.{OpenRequest}
use Rattle.sip_request.specs.transactions_model.Matching.{AreBranched}
use Rattle.sip_request.specs.transactions_model.Queue.{Entry, entry_of, same_entry, has, part_entries, request_entries, entries_of, all_behind, AreApart, AreDueInOrder}
use Rattle.sip_request.specs.transactions_model.Queue.{queue_after}
use Rattle.sip_request.specs.transactions_model.Ties.{branch_timers, branches_timers, owner_of, part_timers, side_timers}
use Rattle.sip_request.specs.transactions_model.declared.timer_keys.TimerKeys.{TimerKeys}
use Rattle.sip_request.specs.Named.{HasKeys, named_by}
use Rattle.sip_request.specs.Order.{branches_in_order, keyed, named_in_order}
use Rattle.sip_request.specs.Queued.{entries, AreQueued}
use Rattle.sip_request.specs.declared.request.Request.{Request}
use Rattle.sip_request.proofs.of_entries.{entry_is, entries-cons, entries-append, has_counts, has_by_count, lacks_by_count, lacks_counts, all_there, every}
use Rattle.sip_request.proofs.Queued.{queued, by_entries}
use Rattle.sip_fork.specs.Contexts.{AreTied, IsKept}
use Rattle.sip_request.specs.transactions_model.Kept.{AreNumbered}
use Rattle.sip_fork.specs.Firing.{IsQueueOf, KeepsOrder}
use Rattle.sip_fork.specs.Queue.{IsQueue}
use Rattle.sip_fork.proofs.Tying.{contexts, kept_at}
use Rattle.sip_timers.proofs.Moving.{count-append, count-one}

-- ---- counts

count-entries : (p : Entry → Bool) (ts : List Timer) → count_by p (entries ts) ≡ count_by (λ t. p (entry_of t)) ts
count-entries p [] = refl
count-entries p (t ∷ ts) = omega (arith, count-entries p ts, entries-cons p (entry_of t) (entries ts), sum_by-cons (λ (u : Timer). cond (p (entry_of u)) 1 0) t ts)

count-reverse : (p : Timer → Bool) (ts : List Timer) → count_by p (reverse ts) ≡ count_by p ts
count-reverse p [] = refl
count-reverse p (t ∷ ts) =
    omega (
      arith,
      ap (λ (us : List Timer). count_by p us) (reverse-append (t ∷ []) ts),
      count-append p (reverse ts) (t ∷ []),
      count-reverse p ts,
      count-one p t,
      sum_by-cons (λ (u : Timer). cond (p u) 1 0) t ts,
    )

-- ---- what a request names, in order

map-reverse : {X Y : Type 0} (f : X → Y) (xs : List X) → map f (reverse xs) ≡ reverse (map f xs)
map-reverse f [] = refl
map-reverse f (x ∷ xs) =
    ap (λ ys. map f ys) (reverse-append (x ∷ []) xs)
    ∙ map-append f (reverse xs) (x ∷ [])
    ∙ ap (λ ys. ys ++ f x ∷ []) (map-reverse f xs)
    ∙ sym (reverse-append (f x ∷ []) (map f xs))

abbrev entry_at : ℕ → Owner → Letter × ℕ → Entry
entry_at n o t = record { due = t.1; name = record { request = n; owner = o; letter = t.0 } }

entries-part : (n : ℕ) (o : Owner) (keys : TimerKeys) (ts : List (Letter × ℕ)) → entries (part_timers n o keys ts) ≡ map (entry_at n o) ts
entries-part n o keys [] = refl
entries-part n o keys (t ∷ ts) = ap (λ es. entry_at n o t ∷ es) (entries-part n o keys ts)

entries-turned : (n : ℕ) (o : Owner) (keys : TimerKeys) (ts : List (Letter × ℕ)) → entries (reverse (part_timers n o keys ts)) ≡ part_entries n o ts
entries-turned n o keys ts = map-reverse entry_of (part_timers n o keys ts) ∙ ap (λ es. reverse es) (entries-part n o keys ts)

abbrev branch_entries : OpenRequest → Branch → List Entry
branch_entries r b = part_entries r.number (owner_of b) (branch_timers r b)

entries-branches : (r : OpenRequest) (bs : List Branch) (ks : List TimerKeys) → length ks ≡ length bs
    → entries (branches_in_order r bs ks) ≡ flat_map (branch_entries r) bs
entries-branches r [] ks e = refl
entries-branches r (b ∷ bs) [] e = absurd (cc)
entries-branches r (b ∷ bs) (k ∷ ks) e =
    map-append entry_of (reverse (part_timers r.number (owner_of b) k (branch_timers r b))) (branches_in_order r bs ks)
    ∙ ap (λ es. es ++ entries (branches_in_order r bs ks)) (entries-turned r.number (owner_of b) k (branch_timers r b))
    ∙ ap (λ es. branch_entries r b ++ es) (entries-branches r bs ks (omega (arith, e)))

pub entries-named : (r : Request) → HasKeys r.open_request r.branches → entries (named_in_order r) ≡ request_entries r.open_request
entries-named r has_keys =
    map-append entry_of (reverse (part_timers r.open_request.number Of.Server r.side (side_timers r.open_request)))
    (branches_in_order r.open_request r.open_request.branches r.branches)
    ∙ ap (λ es. es ++ entries (branches_in_order r.open_request r.open_request.branches r.branches))
    (entries-turned r.open_request.number Of.Server r.side (side_timers r.open_request))
    ∙ ap (λ es. part_entries r.open_request.number Of.Server (side_timers r.open_request) ++ es)
    (entries-branches r.open_request r.open_request.branches r.branches has_keys)

count-branches : (p : Timer → Bool) (r : OpenRequest) (bs : List Branch) (ks : List TimerKeys)
    → count_by p (branches_in_order r bs ks) ≡ count_by p (branches_timers r bs ks)
count-branches p r [] ks = refl
count-branches p r (b ∷ bs) [] = refl
count-branches p r (b ∷ bs) (k ∷ ks) =
    omega (
      arith,
      count-append p (reverse (part_timers r.number (owner_of b) k (branch_timers r b))) (branches_in_order r bs ks),
      count-append p (part_timers r.number (owner_of b) k (branch_timers r b)) (branches_timers r bs ks),
      count-reverse p (part_timers r.number (owner_of b) k (branch_timers r b)),
      count-branches p r bs ks,
    )

count-named : (p : Timer → Bool) (r : Request) → count_by p (named_in_order r) ≡ count_by p (named_by r)
count-named p r =
    let side : List Timer = part_timers r.open_request.number Of.Server r.side (side_timers r.open_request) in
    omega (
      arith,
      count-append p (reverse side) (branches_in_order r.open_request r.open_request.branches r.branches),
      count-append p side (branches_timers r.open_request r.open_request.branches r.branches),
      count-reverse p side,
      count-branches p r.open_request r.open_request.branches r.branches,
    )

pub count-row : (p : Entry → Bool) (r : Request) → HasKeys r.open_request r.branches →
    count_by (λ t. p (entry_of t)) (named_by r) ≡ count_by p (request_entries r.open_request)
count-row p r has_keys = sym (count-named (λ t. p (entry_of t)) r) ∙ sym (count-entries p (named_in_order r)) ∙ ap (λ es. count_by p es) (entries-named r has_keys)

-- ---- what all name

entries_of-append : (xs ys : List OpenRequest) → entries_of (xs ++ ys) ≡ entries_of ys ++ entries_of xs
entries_of-append xs ys = ap (λ rs. flat_map request_entries rs) (reverse-append xs ys) ∙ flat_map-append request_entries (reverse ys) (reverse xs)

entries_of-one : (r : OpenRequest) → entries_of (r ∷ []) ≡ request_entries r
entries_of-one r = append-nil (request_entries r)

abbrev AreKeyed : List Request → Type 0
AreKeyed rows = AllByRecursion (λ (r : Request). HasKeys r.open_request r.branches) rows

count-rows : (p : Entry → Bool) (rows : List Request) → AreKeyed rows → sum_by (λ (r : Request). count_by (λ t. p (entry_of t)) (named_by r)) rows
    ≡ count_by p (entries_of (contexts rows))
count-rows p [] keys = refl
count-rows p (r ∷ rows) keys =
    omega (
      arith,
      sum_by-cons (λ (x : Request). count_by (λ t. p (entry_of t)) (named_by x)) r rows,
      count-rows p rows keys.1,
      count-row p r keys.0,
      ap (λ es. count_by p es) (entries_of-append (r.open_request ∷ []) (contexts rows)),
      entries-append p (entries_of (contexts rows)) (entries_of (r.open_request ∷ [])),
      ap (λ es. count_by p es) (entries_of-one r.open_request),
    )

every-row : (reached : ℕ) (rows : List Request) → AllByRecursion (IsKept reached) rows → AreKeyed rows
every-row reached [] all = tt
every-row reached (r ∷ rows) all = (all.0.keys, every-row reached rows all.1)

exact_of : (pending : List Timer) (reached : ℕ) (rows : List Request) → AreTied pending reached rows → (p : Entry → Bool)
    → count_by p (entries pending) ≡ count_by p (entries_of (contexts rows))
exact_of pending reached rows tied p =
    count-entries p pending ∙ tied.same (λ t. p (entry_of t)) ∙ count-rows p rows (every-row reached rows (recursion_from_All (IsKept reached) rows tied.kept))

-- ---- some requests make way for others

-- a timer that is none of those before isn't among them
none_before : (before : List Timer) (t : Timer) → IsNew before t → count_by (same_entry (entry_of t)) (entries before) ≡ 0
none_before [] t new = refl
none_before (u ∷ us) t new = by_test (same_entry (entry_of t) (entry_of u)) refl (none_before us t new.1) where
  by_test : (b : Bool) → same_entry (entry_of t) (entry_of u) ≡ b → count_by (same_entry (entry_of t)) (entries us) ≡ 0
      → count_by (same_entry (entry_of t)) (entry_of u ∷ entries us) ≡ 0
  by_test true is rest =
      let e : entry_of t ≡ entry_of u = entry_is (entry_of t) (entry_of u) is in
      absurd (new.0 (sym (ap (λ (x : Entry). x.due) e)) (sym (ap (λ (x : Entry). x.name) e)))
  by_test false is rest = omega (arith, rest, entries-cons (same_entry (entry_of t)) (entry_of u) (entries us), ap (λ (b : Bool). cond {A = ℕ} b 1 0) is)

-- where each is among some, none is left of those that aren't
nothing_new : (old : List Entry) (es : List Entry) → AllByRecursion (λ e. has e old ≡ true) es → filter (λ e. not (has e old)) es ≡ []
nothing_new old [] all = refl
nothing_new old (e ∷ es) all = ap (λ (b : Bool). cond (not b) (e ∷ filter (λ x. not (has x old)) es) (filter (λ x. not (has x old)) es)) all.0 ∙ nothing_new old es all.1

module _ (old new : List Timer) (a b rs xs : List Request) (before named : List Timer)
    (exact_old : (p : Entry → Bool) → count_by p (entries old) ≡ count_by p (entries_of (contexts (a ++ (rs ++ b)))))
    (exact_new : (p : Entry → Bool) → count_by p (entries new) ≡ count_by p (entries_of (contexts (a ++ (xs ++ b)))))
    (apart_old : AreApart (contexts (a ++ (rs ++ b)))) (apart_new : AreApart (contexts (a ++ (xs ++ b))))
    (before_are : (p : Entry → Bool) → count_by p (entries before) ≡ count_by p (entries_of (contexts rs)))
    (named_are : entries named ≡ entries_of (contexts xs))
    (ordered : AreOrdered old) (sets : SetsInOrder old before new named) where
  in_three : (ys : List Request) → entries_of (contexts (a ++ (ys ++ b))) ≡ (entries_of (contexts b) ++ entries_of (contexts ys)) ++ entries_of (contexts a)
  in_three ys =
      ap (λ rs. entries_of rs) (map-append (λ (r : Request). r.open_request) a (ys ++ b)
      ∙ ap (λ rs. contexts a ++ rs) (map-append (λ (r : Request). r.open_request) ys b))
      ∙ entries_of-append (contexts a) (contexts ys ++ contexts b)
      ∙ ap (λ es. es ++ entries_of (contexts a)) (entries_of-append (contexts ys) (contexts b))

  count-three : (p : Entry → Bool) (ys : List Request) → count_by p (entries_of (contexts (a ++ (ys ++ b))))
      ≡ count_by p (entries_of (contexts b)) + count_by p (entries_of (contexts ys)) + count_by p (entries_of (contexts a))
  count-three p ys =
      omega (
        arith,
        ap (λ es. count_by p es) (in_three ys),
        entries-append p (entries_of (contexts b) ++ entries_of (contexts ys)) (entries_of (contexts a)),
        entries-append p (entries_of (contexts b)) (entries_of (contexts ys)),
      )

  abbrev pub standing : List Entry
  standing = entries_of (contexts (a ++ (xs ++ b)))

  -- none of them stood elsewhere
  none_elsewhere : (t : Timer) → 1 ≤ count_by (same_entry (entry_of t)) (entries named) → IsNew before t → has (entry_of t) (entries old) ≡ false
  none_elsewhere t names is_new = by_test (has (entry_of t) (entries old)) refl where
    by_test : (v : Bool) → has (entry_of t) (entries old) ≡ v → has (entry_of t) (entries old) ≡ false
    by_test true is =
        absurd (omega (
          arith,
          has_counts (entry_of t) (entries old) is,
          exact_old (same_entry (entry_of t)),
          count-three (same_entry (entry_of t)) rs,
          before_are (same_entry (entry_of t)),
          none_before before t is_new,
          names,
          ap (λ es. count_by (same_entry (entry_of t)) es) named_are,
          count-three (same_entry (entry_of t)) xs,
          apart_new (entry_of t),
        ))
    by_test false is = is

  -- the others stood
  others_stood : (es : List Entry) → ((p : Entry → Bool) → count_by p es ≤ count_by p (entries old)) → AllByRecursion (λ e. has e (entries old) ≡ true) es
  others_stood es fewer = every es (λ e there. has_by_count e (entries old) (omega (arith, there, fewer (same_entry e)))) (all_there es)

  first_stood : filter (λ e. not (has e (entries old))) (entries_of (contexts a)) ≡ []
  first_stood = nothing_new (entries old) (entries_of (contexts a)) (others_stood (entries_of (contexts a)) (λ p. omega (arith, exact_old p, count-three p rs)))

  last_stood : filter (λ e. not (has e (entries old))) (entries_of (contexts b)) ≡ []
  last_stood = nothing_new (entries old) (entries_of (contexts b)) (others_stood (entries_of (contexts b)) (λ p. omega (arith, exact_old p, count-three p rs)))

  left : filter (λ e. not (has e (entries old))) standing ≡ filter (λ e. not (has e (entries old))) (entries named)
  left =
      let q : Entry → Bool = λ e. not (has e (entries old)) in
      ap (λ es. filter q es) (in_three xs)
      ∙ filter-append q (entries_of (contexts b) ++ entries_of (contexts xs)) (entries_of (contexts a))
      ∙ ap (λ es. filter q (entries_of (contexts b) ++ entries_of (contexts xs)) ++ es) first_stood
      ∙ append-nil (filter q (entries_of (contexts b) ++ entries_of (contexts xs)))
      ∙ filter-append q (entries_of (contexts b)) (entries_of (contexts xs))
      ∙ ap (λ es. es ++ filter q (entries_of (contexts xs))) last_stood
      ∙ ap (λ es. filter q es) (sym named_are)

  are_queued : AreQueued old before new named standing
  are_queued = record {
    sets = sets;
    ordered = ordered;
    exact = exact_new;
    once_before = λ e. omega (arith, exact_old (same_entry e), apart_old e);
    once = apart_new;
    within = λ p. omega (arith, count-three p xs, ap (λ es. count_by p es) named_are);
    elsewhere = every named (λ t names is_new. none_elsewhere t names is_new) (by_entries (λ (e : Entry). 1 ≤ count_by (same_entry e) (entries named)) named
        (all_there (entries named)));
    others = left;
  }

  pub in_queue : entries new ≡ queue_after (entries old) standing
  in_queue = queued old before new named standing are_queued

-- ---- rows

split-at : (rows : List Request) (i : ℕ) (r : Request) → i < length rows → get_or rows i r ≡ r → rows ≡ take i rows ++ (r ∷ drop (suc i) rows)
split-at [] i r within is = absurd (omega (arith, within))
split-at (x ∷ rows) zero r within is = ap (λ (y : Request). y ∷ rows) is
split-at (x ∷ rows) (suc i) r within is = ap (λ (ys : List Request). x ∷ ys) (split-at rows i r (omega (arith, within)) is)

split-set : (rows : List Request) (i : ℕ) (x : Request) → i < length rows → set rows i x ≡ take i rows ++ (x ∷ drop (suc i) rows)
split-set [] i x within = absurd (omega (arith, within))
split-set (y ∷ rows) zero x within = refl
split-set (y ∷ rows) (suc i) x within = ap (λ (ys : List Request). y ∷ ys) (split-set rows i x (omega (arith, within)))

some_none : (ts : List Timer) → AreSome ts [] → ts ≡ []
some_none ts NoMore = refl

-- where none was named, whatever was there before, and whatever is named
pub any_named : (ts us before named : List Timer) → SetsInOrder ts [] us [] → SetsInOrder ts before us named
any_named ts us before named sets = record {
  stays = sets.stays;
  set = [];
  are_named = AreSome-none named;
  are_new = tt;
  order = λ ordered. sets.order ordered ∙ ap (λ (xs : List Timer). all_placed (filter sets.stays ts) xs) (some_none sets.set sets.are_named);
}

-- where numbers rise, and branches are targets with numbers of their own and CANCELs behind them, no two timers are alike
abbrev pub Apart : Type 0
Apart = (requests : List OpenRequest) → AreNumbered requests → AllByRecursion (λ (r : OpenRequest). AreBranched r.branches) requests → AreApart requests

branched-rows : (reached : ℕ) (rows : List Request) → AllByRecursion (IsKept reached) rows → AllByRecursion (λ (r : OpenRequest). AreBranched r.branches) (contexts rows)
branched-rows reached [] all = tt
branched-rows reached (r ∷ rows) all = (all.0.branched, branched-rows reached rows all.1)

pub apart_of : Apart → (pending : List Timer) (reached : ℕ) (rows : List Request) → AreTied pending reached rows → AreApart (contexts rows)
apart_of apart pending reached rows tied = apart (contexts rows) tied.numbered (branched-rows reached rows (recursion_from_All (IsKept reached) rows tied.kept))

module _ (apart : Apart) (old new : List Timer) (reached later : ℕ) (rows : List Request) (tied : AreTied old reached rows) (ordered : IsQueue old) where
  keys_at : (i : ℕ) (r : Request) → slice_get rows i ≡ Some r → IsKept reached r → (p : Entry → Bool)
      → count_by p (entries (named_by r)) ≡ count_by p (entries_of (contexts (r ∷ [])))
  keys_at i r at kept p = count-entries p (named_by r) ∙ count-row p r kept.keys ∙ ap (λ es. count_by p es) (sym (entries_of-one r.open_request))

  row_kept : (i : ℕ) (r : Request) → slice_get rows i ≡ Some r → IsKept reached r
  row_kept i r at = kept_at old reached rows i r tied at

  old_at : (i : ℕ) (r : Request) → slice_get rows i ≡ Some r → rows ≡ take i rows ++ ((r ∷ []) ++ drop (suc i) rows)
  old_at i r at = split-at rows i r (slice_get_within rows i r at) (get_or_from_slice_get rows i r r at)

  -- one request becomes another one
  pub changed_queue : (i : ℕ) (r x : Request) → slice_get rows i ≡ Some r → AreTied new later (set rows i x) → HasKeys x.open_request x.branches
      → SetsInOrder old (named_by r) new (named_in_order x) → KeepsOrder old new (contexts (set rows i x))
  changed_queue i r x at tied_new has_keys sets =
      let within : i < length rows = slice_get_within rows i r at in
      let a : List Request = take i rows in
      let b : List Request = drop (suc i) rows in
      let before_is : rows ≡ a ++ ((r ∷ []) ++ b) = old_at i r at in
      let after_is : set rows i x ≡ a ++ ((x ∷ []) ++ b) = split-set rows i x within in
      record {
        queue = subst (λ (ys : List Request). entries new ≡ queue_after (entries old) (entries_of (contexts ys))) (sym after_is)
            (in_queue old new a b (r ∷ []) (x ∷ []) (named_by r) (named_in_order x)
            (subst (λ (ys : List Request). (p : Entry → Bool) → count_by p (entries old) ≡ count_by p (entries_of (contexts ys))) before_is
            (exact_of old reached rows tied))
            (subst (λ (ys : List Request). (p : Entry → Bool) → count_by p (entries new) ≡ count_by p (entries_of (contexts ys))) after_is
            (exact_of new later (set rows i x) tied_new))
            (subst (λ (ys : List Request). AreApart (contexts ys)) before_is (apart_of apart old reached rows tied))
            (subst (λ (ys : List Request). AreApart (contexts ys)) after_is (apart_of apart new later (set rows i x) tied_new))
            (keys_at i r at (row_kept i r at))
            (entries-named x has_keys ∙ sym (entries_of-one x.open_request))
            ordered.ordered sets);
      }

  -- one is closed
  pub closed_queue : (i : ℕ) (r : Request) → slice_get rows i ≡ Some r → AreTied new later (remove rows i) → SetsInOrder old [] new []
      → KeepsOrder old new (contexts (remove rows i))
  closed_queue i r at tied_new sets =
      let a : List Request = take i rows in
      let b : List Request = drop (suc i) rows in
      let before_is : rows ≡ a ++ ((r ∷ []) ++ b) = old_at i r at in
      record {
        queue = in_queue old new a b (r ∷ []) [] (named_by r) []
            (subst (λ (ys : List Request). (p : Entry → Bool) → count_by p (entries old) ≡ count_by p (entries_of (contexts ys))) before_is
            (exact_of old reached rows tied))
            (exact_of new later (remove rows i) tied_new)
            (subst (λ (ys : List Request). AreApart (contexts ys)) before_is (apart_of apart old reached rows tied))
            (apart_of apart new later (remove rows i) tied_new)
            (keys_at i r at (row_kept i r at))
            refl
            ordered.ordered (any_named old new (named_by r) [] sets);
      }

  -- one is opened
  pub opened_queue : (x : Request) → AreTied new later (rows ++ x ∷ []) → HasKeys x.open_request x.branches → SetsInOrder old [] new (named_in_order x)
      → KeepsOrder old new (contexts (rows ++ x ∷ []))
  opened_queue x tied_new has_keys sets =
      record {
        queue = in_queue old new rows [] [] (x ∷ []) [] (named_in_order x)
            (subst (λ (ys : List Request). (p : Entry → Bool) → count_by p (entries old) ≡ count_by p (entries_of (contexts ys))) (sym (append-nil rows))
            (exact_of old reached rows tied))
            (exact_of new later (rows ++ x ∷ []) tied_new)
            (subst (λ (ys : List Request). AreApart (contexts ys)) (sym (append-nil rows)) (apart_of apart old reached rows tied))
            (apart_of apart new later (rows ++ x ∷ []) tied_new)
            (λ p. refl)
            (entries-named x has_keys ∙ sym (entries_of-one x.open_request))
            ordered.ordered sets;
      }

-- ---- what stands is a queue

all_due : (moment : ℕ) (ts : List Timer) → due_before moment ts ≡ 0 → AllByRecursion (λ (x : Entry). moment ≤ x.due) (entries ts)
all_due moment [] none = tt
all_due moment (t ∷ ts) none = by_due (ltb t.due moment) refl (λ fewer. all_due moment ts fewer) where
  counted : due_before moment (t ∷ ts) ≡ cond (ltb t.due moment) 1 0 + due_before moment ts
  counted = sum_by-cons (λ (u : Timer). cond (ltb u.due moment) 1 0) t ts

  by_due : (b : Bool) → ltb t.due moment ≡ b → (due_before moment ts ≡ 0 → AllByRecursion (λ (x : Entry). moment ≤ x.due) (entries ts))
      → AllByRecursion (λ (x : Entry). moment ≤ x.due) (entry_of t ∷ entries ts)
  by_due true is rest = absurd (omega (arith, none, counted, ap (λ (v : Bool). cond {A = ℕ} v 1 0) is))
  by_due false is rest = (grind (arith, nat_tests), rest (omega (arith, none, counted, ap (λ (v : Bool). cond {A = ℕ} v 1 0) is)))

due_in_order : (ts : List Timer) → AreOrdered ts → AreDueInOrder (entries ts)
due_in_order [] ordered = tt
due_in_order (t ∷ ts) ordered = (all_due t.due ts ordered.0, due_in_order ts ordered.1)

-- what is counted alike is there alike
there_alike : (e : Entry) (xs ys : List Entry) → count_by (same_entry e) xs ≡ count_by (same_entry e) ys → has e xs ≡ has e ys
there_alike e xs ys same = by_test (has e ys) refl where
  by_test : (t : Bool) → has e ys ≡ t → has e xs ≡ has e ys
  by_test true is = has_by_count e xs (omega (arith, same, has_counts e ys is)) ∙ sym is
  by_test false is = lacks_by_count e xs (omega (arith, same, lacks_counts e ys is)) ∙ sym is

pub queue_of_rows : Apart → (pending : List Timer) (reached : ℕ) (rows : List Request) → AreTied pending reached rows → IsQueue pending
    → IsQueueOf pending (contexts rows)
queue_of_rows apart pending reached rows tied ordered = record {
  in_order = due_in_order pending ordered.ordered;
  exact = λ e. there_alike e (entries pending) (entries_of (contexts rows)) (exact_of pending reached rows tied (same_entry e));
  apart = apart_of apart pending reached rows tied;
}

-- where each is among some, all that are among them are left
all_left : (these : List Entry) (es : List Entry) → AllByRecursion (λ e. has e these ≡ true) es → filter (λ e. has e these) es ≡ es
all_left these [] all = refl
all_left these (e ∷ es) all = ap (λ (b : Bool). cond b (e ∷ filter (λ x. has x these) es) (filter (λ x. has x these) es)) all.0
    ∙ ap (λ xs. e ∷ xs) (all_left these es all.1)

-- a queue of what stands stays as it is
pub queue_stays : (pending : List Timer) (requests : List OpenRequest) → IsQueueOf pending requests → KeepsOrder pending pending requests
queue_stays pending requests h =
    let queue : List Entry = entries pending in
    let standing : List Entry = entries_of requests in
    let left : filter (λ e. has e standing) queue ≡ queue =
    all_left standing queue (every queue (λ e there. sym (h.exact e) ∙ has_by_count e queue there) (all_there queue)) in
    let none : filter (λ e. not (has e queue)) standing ≡ [] =
    nothing_new queue standing (every standing (λ e there. h.exact e ∙ has_by_count e standing there) (all_there standing)) in
    record { queue = sym (ap (λ es. all_behind es (filter (λ e. not (has e queue)) standing)) left ∙ ap (λ es. all_behind queue es) none) }

-- all branches have keys
pub keyed_all : (bs : List Branch) (ks : List TimerKeys) → length ks ≡ length bs → keyed bs ks ≡ bs
keyed_all [] ks e = refl
keyed_all (b ∷ bs) [] e = absurd (cc)
keyed_all (b ∷ bs) (k ∷ ks) e = ap (λ xs. b ∷ xs) (keyed_all bs ks (omega (arith, e)))
