-- Timers that are set in order are a queue in which what stood keeps its place.
use Rattle.std.proofs.Common.{◌≡◌, ℕ, ◌+◌, ◌≤◌, List, [], ◌∷◌, cond, ltb, Bool, true, false, refl, sym, ap, ◌∙◌, subst, arith}
use Rattle.std.specs.Prelude.{not, filter, count_by}
use Rattle.std.specs.List.{AllByRecursion}
use Rattle.sip_timers.specs.declared.timer.Timer.{Timer}
use Rattle.sip_timers.specs.Timers.{placed}
use Rattle.sip_timers.specs.Setting.{all_placed, AreSome, NoMore, Takes, LeavesOut, IsNew}
use Rattle.model_transactions.specs.Queue.{Entry, entry_of, same_entry, has, behind, all_behind, queue_after}
use Rattle.sip_request.specs.Queued.{entries, AreQueued}
use Rattle.model_transactions.proofs.Entries.{entry_is, entry_itself, entries-cons, lacks_counts, has_by_count, lacks_by_count, all_there, every}

-- ---- placed and filtered

entries-placed : (t : Timer) (ts : List Timer) → entries (placed t ts) ≡ behind (entry_of t) (entries ts)
entries-placed t [] = refl
entries-placed t (u ∷ us) = by_test (ltb t.due u.due) (entries-placed t us) where
  by_test : (b : Bool) → entries (placed t us) ≡ behind (entry_of t) (entries us)
      → entries (cond b (t ∷ u ∷ us) (u ∷ placed t us)) ≡ cond b (entry_of t ∷ entry_of u ∷ entries us) (entry_of u ∷ behind (entry_of t) (entries us))
  by_test true rest = refl
  by_test false rest = ap (λ es. entry_of u ∷ es) rest

entries-all_placed : (ts us : List Timer) → entries (all_placed ts us) ≡ all_behind (entries ts) (entries us)
entries-all_placed ts [] = refl
entries-all_placed ts (u ∷ us) = entries-all_placed (placed u ts) us ∙ ap (λ es. all_behind es (entries us)) (entries-placed u ts)

-- where two tests agree, they leave the same
filter-agree : (stays : Timer → Bool) (q : Entry → Bool) (ts : List Timer) → AllByRecursion (λ t. stays t ≡ q (entry_of t)) ts
    → entries (filter stays ts) ≡ filter q (entries ts)
filter-agree stays q [] all = refl
filter-agree stays q (t ∷ ts) all = by_test (stays t) (q (entry_of t)) all.0 (filter-agree stays q ts all.1) where
  by_test : (a b : Bool) → a ≡ b → entries (filter stays ts) ≡ filter q (entries ts) →
      entries (cond a (t ∷ filter stays ts) (filter stays ts)) ≡ cond b (entry_of t ∷ filter q (entries ts)) (filter q (entries ts))
  by_test true true e rest = ap (λ es. entry_of t ∷ es) rest
  by_test true false e rest = absurd (cc)
  by_test false true e rest = absurd (cc)
  by_test false false e rest = rest

-- what stands behind, by every test
count-behind : (p : Entry → Bool) (e : Entry) (es : List Entry) → count_by p (behind e es) ≡ cond (p e) 1 0 + count_by p es
count-behind p e [] = entries-cons p e []
count-behind p e (x ∷ xs) = by_test (ltb e.due x.due) (count-behind p e xs) where
  by_test : (b : Bool) → count_by p (behind e xs) ≡ cond (p e) 1 0 + count_by p xs → count_by p (cond b (e ∷ x ∷ xs) (x ∷ behind e xs))
      ≡ cond (p e) 1 0 + count_by p (x ∷ xs)
  by_test true rest = entries-cons p e (x ∷ xs)
  by_test false rest = omega (arith, rest, entries-cons p x (behind e xs), entries-cons p x xs)

count-all_behind : (p : Entry → Bool) (es xs : List Entry) → count_by p (all_behind es xs) ≡ count_by p es + count_by p xs
count-all_behind p es [] = omega arith
count-all_behind p es (x ∷ xs) = omega (arith, count-all_behind p (behind x es) xs, count-behind p x es, entries-cons p x xs)

count-parted : (p : Entry → Bool) (q : Timer → Bool) (ts : List Timer) → count_by p (entries ts)
    ≡ count_by p (entries (filter q ts)) + count_by p (entries (filter (λ t. not (q t)) ts))
count-parted p q [] = refl
count-parted p q (t ∷ ts) = by_test (q t) (count-parted p q ts) where
  by_test : (b : Bool) → count_by p (entries ts) ≡ count_by p (entries (filter q ts)) + count_by p (entries (filter (λ u. not (q u)) ts))
      → count_by p (entry_of t ∷ entries ts) ≡ count_by p (entries (cond b (t ∷ filter q ts) (filter q ts))) + count_by p
      (entries (cond (not b) (t ∷ filter (λ u. not (q u)) ts) (filter (λ u. not (q u)) ts)))
  by_test true rest = omega (arith, rest, entries-cons p (entry_of t) (entries ts), entries-cons p (entry_of t) (entries (filter q ts)))
  by_test false rest = omega (arith, rest, entries-cons p (entry_of t) (entries ts), entries-cons p (entry_of t) (entries (filter (λ u. not (q u)) ts)))

-- ---- by all

every-two : {X : Type 0} {P Q R : X → Type 0} (xs : List X) → ((x : X) → P x → Q x → R x) → AllByRecursion P xs → AllByRecursion Q xs → AllByRecursion R xs
every-two [] both a b = tt
every-two (x ∷ xs) both a b = (both x a.0 b.0, every-two xs both a.1 b.1)

-- what each timer's entry has
pub by_entries : (P : Entry → Type 0) (ts : List Timer) → AllByRecursion P (entries ts) → AllByRecursion (λ t. P (entry_of t)) ts
by_entries P [] all = tt
by_entries P (t ∷ ts) all = (all.0, by_entries P ts all.1)

-- some are no more than all
some_counts : (p : Entry → Bool) (ts us : List Timer) → AreSome ts us → count_by p (entries ts) ≤ count_by p (entries us)
some_counts p ts us NoMore = omega arith
some_counts p ts us (Takes t ts' us' rest) = omega (
  arith,
  some_counts p ts' us' rest,
  entries-cons p (entry_of t) (entries ts'),
  entries-cons p (entry_of t) (entries us'),
)
some_counts p ts us (LeavesOut t ts' us' rest) = omega (arith, some_counts p ts' us' rest, entries-cons p (entry_of t) (entries us'))

some_all : (P : Timer → Type 0) (ts us : List Timer) → AreSome ts us → AllByRecursion P us → AllByRecursion P ts
some_all P ts us NoMore all = tt
some_all P ts us (Takes t ts' us' rest) all = (all.0, some_all P ts' us' rest all.1)
some_all P ts us (LeavesOut t ts' us' rest) all = some_all P ts' us' rest all.1

-- one more with another entry
differs : (e x : Entry) (es : List Entry) → 1 ≤ count_by (same_entry e) es → count_by (same_entry e) (x ∷ es) ≤ 1 → same_entry e x ≡ false
differs e x es there once = by_test (same_entry e x) refl where
  by_test : (b : Bool) → same_entry e x ≡ b → same_entry e x ≡ false
  by_test true is = absurd (omega (arith, there, once, entries-cons (same_entry e) x es, ap (λ (b : Bool). cond {A = ℕ} b 1 0) is))
  by_test false is = is

-- those of the named ones that pass a test, where they are those that were set
some_pass : (q : Entry → Bool) (set named : List Timer) → AreSome set named → ((e : Entry) → count_by (same_entry e) (entries named) ≤ 1)
    → AllByRecursion (λ t. q (entry_of t) ≡ true) set
    → AllByRecursion (λ t. q (entry_of t) ≡ true → 1 ≤ count_by (same_entry (entry_of t)) (entries set)) named → entries set ≡ filter q (entries named)
some_pass q set named NoMore once pass there = refl
some_pass q set named (Takes t ts us rest) once pass there =
    let fewer : (e : Entry) → count_by (same_entry e) (entries us) ≤ 1 = λ e. omega (arith, once e, entries-cons (same_entry e) (entry_of t) (entries us)) in
    let others : AllByRecursion (λ (u : Timer). q (entry_of u) ≡ true → 1 ≤ count_by (same_entry (entry_of u)) (entries ts)) us =
    every-two us (λ u stands is passes. omega (
      arith,
      is passes,
      entries-cons (same_entry (entry_of u)) (entry_of t) (entries ts),
      ap (λ (b : Bool). cond {A = ℕ} b 1 0) (differs (entry_of u) (entry_of t) (entries us) stands (once (entry_of u))),
    ))
    (by_entries (λ (e : Entry). 1 ≤ count_by (same_entry e) (entries us)) us (all_there (entries us))) there.1 in
    ap (λ es. entry_of t ∷ es) (some_pass q ts us rest fewer pass.1 others) ∙ ap (λ (b : Bool). cond b (entry_of t ∷ filter q (entries us)) (filter q (entries us)))
    (sym pass.0)
some_pass q set named (LeavesOut t ts us rest) once pass there =
    let fewer : (e : Entry) → count_by (same_entry e) (entries us) ≤ 1 = λ e. omega (arith, once e, entries-cons (same_entry e) (entry_of t) (entries us)) in
    some_pass q ts us rest fewer pass there.1
    ∙ by_test (q (entry_of t)) refl (λ passes. there.0 passes) (some_counts (same_entry (entry_of t)) ts us rest) where
      by_test : (b : Bool) → q (entry_of t) ≡ b → (q (entry_of t) ≡ true → 1 ≤ count_by (same_entry (entry_of t)) (entries ts))
          → count_by (same_entry (entry_of t)) (entries ts) ≤ count_by (same_entry (entry_of t)) (entries us)
          → filter q (entries us) ≡ cond b (entry_of t ∷ filter q (entries us)) (filter q (entries us))
      by_test true is stands fewer =
          absurd (omega (
            arith,
            stands is,
            fewer,
            once (entry_of t),
            entries-cons (same_entry (entry_of t)) (entry_of t) (entries us),
            ap (λ (b : Bool). cond {A = ℕ} b 1 0) (entry_itself (entry_of t)),
          ))
      by_test false is stands fewer = refl

-- what holds of those that pass a test
of_filter : (P : Timer → Type 0) (q : Timer → Bool) (ts : List Timer) → AllByRecursion P (filter q ts) → AllByRecursion (λ t. q t ≡ true → P t) ts
of_filter P q [] all = tt
of_filter P q (t ∷ ts) all = by_test (q t) refl all (λ rest. of_filter P q ts rest) where
  by_test : (b : Bool) → q t ≡ b → AllByRecursion P (cond b (t ∷ filter q ts) (filter q ts))
      → (AllByRecursion P (filter q ts) → AllByRecursion (λ u. q u ≡ true → P u) ts) → AllByRecursion (λ u. q u ≡ true → P u) (t ∷ ts)
  by_test true is each rest = (λ passes. each.0, rest each.1)
  by_test false is each rest = (λ passes. absurd (cc), rest each)

not-true : (b : Bool) → not b ≡ true → b ≡ false
not-true true e = absurd (cc)
not-true false e = refl

-- ---- the queue

-- none of some timers, all of which are none of those of a list, is one of that list
none_among : (old set : List Timer) (t : Timer) → has (entry_of t) (entries old) ≡ true → AllByRecursion (λ s. has (entry_of s) (entries old) ≡ false) set
    → count_by (same_entry (entry_of t)) (entries set) ≡ 0
none_among old [] t stands all = refl
none_among old (s ∷ ss) t stands all = by_test (same_entry (entry_of t) (entry_of s)) refl (none_among old ss t stands all.1) where
  by_test : (b : Bool) → same_entry (entry_of t) (entry_of s) ≡ b → count_by (same_entry (entry_of t)) (entries ss) ≡ 0
      → count_by (same_entry (entry_of t)) (entry_of s ∷ entries ss) ≡ 0
  by_test true is rest =
      let lacks : has (entry_of t) (entries old) ≡ false = subst (λ (e : Entry). has e (entries old) ≡ false) (sym (entry_is (entry_of t) (entry_of s) is)) all.0 in
      absurd (cc)
  by_test false is rest = omega (arith, rest, entries-cons (same_entry (entry_of t)) (entry_of s) (entries ss), ap (λ (b : Bool). cond {A = ℕ} b 1 0) is)

module _ (old before new named : List Timer) (standing : List Entry) (h : AreQueued old before new named standing) where
  abbrev kept : List Timer
  kept = filter h.sets.stays old

  abbrev gone : List Timer
  gone = filter (λ t. not (h.sets.stays t)) old

  abbrev set : List Timer
  set = h.sets.set

  is_all : entries new ≡ all_behind (entries kept) (entries set)
  is_all = ap (λ ts. entries ts) (h.sets.order h.ordered) ∙ entries-all_placed kept set

  counted : (p : Entry → Bool) → count_by p standing ≡ count_by p (entries kept) + count_by p (entries set)
  counted p = omega (arith, h.exact p, ap (λ es. count_by p es) is_all, count-all_behind p (entries kept) (entries set))

  -- what was set didn't stand
  set_is_new : AllByRecursion (λ s. has (entry_of s) (entries old) ≡ false) set
  set_is_new = every-two set (λ s elsewhere new. elsewhere new) (some_all (λ (t : Timer). IsNew before t → has (entry_of t) (entries old) ≡ false) set named
      h.sets.are_named h.elsewhere) h.sets.are_new

  stood : AllByRecursion (λ t. 1 ≤ count_by (same_entry (entry_of t)) (entries old)) old
  stood = by_entries (λ (e : Entry). 1 ≤ count_by (same_entry e) (entries old)) old (all_there (entries old))

  in_kept : AllByRecursion (λ t. h.sets.stays t ≡ true → 1 ≤ count_by (same_entry (entry_of t)) (entries kept)) old
  in_kept = of_filter (λ (t : Timer). 1 ≤ count_by (same_entry (entry_of t)) (entries kept)) h.sets.stays old
      (by_entries (λ (e : Entry). 1 ≤ count_by (same_entry e) (entries kept)) kept (all_there (entries kept)))

  in_gone : AllByRecursion (λ t. not (h.sets.stays t) ≡ true → 1 ≤ count_by (same_entry (entry_of t)) (entries gone)) old
  in_gone = of_filter (λ (t : Timer). 1 ≤ count_by (same_entry (entry_of t)) (entries gone)) (λ t. not (h.sets.stays t)) old
      (by_entries (λ (e : Entry). 1 ≤ count_by (same_entry e) (entries gone)) gone (all_there (entries gone)))

  none_set : (t : Timer) → 1 ≤ count_by (same_entry (entry_of t)) (entries old) → count_by (same_entry (entry_of t)) (entries set) ≡ 0
  none_set t stands = none_among old set t (has_by_count (entry_of t) (entries old) stands) set_is_new

  -- a timer stays exactly where it is to stand
  stays_by : (t : Timer) (b : Bool) → h.sets.stays t ≡ b → 1 ≤ count_by (same_entry (entry_of t)) (entries old)
      → (h.sets.stays t ≡ true → 1 ≤ count_by (same_entry (entry_of t)) (entries kept))
      → (not (h.sets.stays t) ≡ true → 1 ≤ count_by (same_entry (entry_of t)) (entries gone)) → b ≡ has (entry_of t) standing
  stays_by t true is stands left out = sym (has_by_count (entry_of t) standing (omega (arith, counted (same_entry (entry_of t)), left is)))
  stays_by t false is stands left out =
      sym (lacks_by_count (entry_of t) standing (omega (
        arith,
        counted (same_entry (entry_of t)),
        out (ap not is),
        h.once_before (entry_of t),
        count-parted (same_entry (entry_of t)) h.sets.stays old,
        none_set t stands,
      )))

  in_parts : AllByRecursion (λ t. (h.sets.stays t ≡ true → 1 ≤ count_by (same_entry (entry_of t)) (entries kept))
      × (not (h.sets.stays t) ≡ true → 1 ≤ count_by (same_entry (entry_of t)) (entries gone))) old
  in_parts = every-two old (λ t left out. (left, out)) in_kept in_gone

  agree : AllByRecursion (λ t. h.sets.stays t ≡ has (entry_of t) standing) old
  agree = every-two old (λ t stands both. stays_by t (h.sets.stays t) refl stands both.0 both.1) stood in_parts

  -- what is set is what didn't stand
  is_set : (t : Timer) → 1 ≤ count_by (same_entry (entry_of t)) (entries named) → not (has (entry_of t) (entries old)) ≡ true
      → 1 ≤ count_by (same_entry (entry_of t)) (entries set)
  is_set t names lacks =
      let none : count_by (same_entry (entry_of t)) (entries old) ≡ 0 = lacks_counts (entry_of t) (entries old) (not-true (has (entry_of t) (entries old)) lacks) in
      omega (arith, names, none, h.within (same_entry (entry_of t)), counted (same_entry (entry_of t)), count-parted (same_entry (entry_of t)) h.sets.stays old)

  set_are : entries set ≡ filter (λ e. not (has e (entries old))) (entries named)
  set_are = some_pass (λ e. not (has e (entries old))) set named h.sets.are_named
      (λ e. omega (arith, h.within (same_entry e), h.once e))
      (every set (λ s lacks. ap not lacks) set_is_new)
      (every named (λ t names lacks. is_set t names lacks) (by_entries (λ (e : Entry). 1 ≤ count_by (same_entry e) (entries named)) named (all_there (entries named))))

  pub queued : entries new ≡ queue_after (entries old) standing
  queued = is_all ∙ ap (λ es. all_behind es (entries set)) (filter-agree h.sets.stays (λ e. has e standing) old agree)
      ∙ ap (λ es. all_behind (filter (λ e. has e standing) (entries old)) es) (set_are ∙ sym h.others)
