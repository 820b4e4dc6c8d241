-- In which order timers of slots and parts are set, and that they are new.
use Rattle.std.proofs.Common.{◌≡◌, ◌≢◌, ℕ, List, [], ◌∷◌, ◌++◌, Option, Some, None, refl, sym, ap, ◌∙◌, subst, arith, append-nil}
use Rattle.std.specs.Prelude.{reverse}
use Rattle.std.specs.List.{AllByRecursion}
use Rattle.std.proofs.lemmas.List.{reverse-append}
use Rattle.sip_timers.specs.declared.letter.Letter.{Letter}
use Rattle.sip_timers.specs.declared.timer.Name.{Name}
use Rattle.sip_timers.specs.declared.timer.Owner.{Owner}
use Rattle.sip_timers.specs.declared.timer.Timer.{Timer}
use Rattle.sip_timers.specs.Timers.{placed, without}
use Rattle.sip_timers.specs.Setting.{IsNew, SetsInOrder}
use Rattle.sip_timers.proofs.Setting.{SetsInOrder-none, SetsInOrder-beside, SetsInOrder-stopped, SetsInOrder-started, SetsInOrder-both, SetsInOrder-further, all-append}
use Rattle.model_transactions.specs.declared.timer_keys.TimerKeys.{TimerKeys}
use Rattle.model_transactions.specs.Ties.{part_timers}
use Rattle.sip_request.specs.declared.part.RequestPart.{RequestPart}
use Rattle.sip_request.specs.Order.{slot_of, IsInSlot, AreInSlots, part_in_order}
use Rattle.sip_request.specs.Slots.{part_standing, slot_timers}

-- ---- what is new

pub all-weaker : (P Q : Timer → Type 0) (ts : List Timer) → ((t : Timer) → P t → Q t) → AllByRecursion P ts → AllByRecursion Q ts
all-weaker P Q [] each a = tt
all-weaker P Q (t ∷ ts) each a = (each t a.0, all-weaker P Q ts each a.1)

pub all-reverse : (P : Timer → Type 0) (ts : List Timer) → AllByRecursion P ts → AllByRecursion P (reverse ts)
all-reverse P [] a = tt
all-reverse P (t ∷ ts) a =
    subst (λ (us : List Timer). AllByRecursion P us) (sym (reverse-append (t ∷ []) ts)) (all-append P (reverse ts) (t ∷ []) (all-reverse P ts a.1) (a.0, tt))

pub new-append : (ts us : List Timer) (t : Timer) → IsNew ts t → IsNew us t → IsNew (ts ++ us) t
new-append ts us t a b = all-append (λ (u : Timer). u.due ≡ t.due → u.name ≢ t.name) ts us a b

-- a timer that is stopped makes way for another one
pub replaced_in_order : (ts vs : List Timer) (was t : Timer) → vs ≡ placed t (without was.key ts) → IsNew (was ∷ []) t → SetsInOrder ts (was ∷ []) vs (t ∷ [])
replaced_in_order ts vs was t set is_new =
    let us : List Timer = without was.key ts in
    subst (λ (xs : List Timer). SetsInOrder ts (was ∷ []) xs (t ∷ [])) (sym set)
    (SetsInOrder-both ts us (placed t us) (was ∷ []) [] (t ∷ []) (SetsInOrder-stopped ts (was ∷ []) was.key []) (SetsInOrder-started us (was ∷ []) t is_new))

-- none is set
pub stays_in_order : (ts before named : List Timer) → SetsInOrder ts before ts named
stays_in_order ts before named = SetsInOrder-none ts before named

-- none was named
pub beside_in_order : (ts others us : List Timer) → SetsInOrder ts [] us [] → SetsInOrder ts others us []
beside_in_order ts others us a = SetsInOrder-beside ts [] others us a

-- a timer is set where none was
pub set_in_order : (ts vs : List Timer) (t : Timer) → vs ≡ placed t ts → SetsInOrder ts [] vs (t ∷ [])
set_in_order ts vs t set = subst (λ (xs : List Timer). SetsInOrder ts [] xs (t ∷ [])) (sym set) (SetsInOrder-started ts [] t tt)

-- one is stopped
pub stopped_in_order : (ts vs before named : List Timer) (key : ℕ) → vs ≡ without key ts → SetsInOrder ts before vs named
stopped_in_order ts vs before named key gone = subst (λ (xs : List Timer). SetsInOrder ts before xs named) (sym gone) (SetsInOrder-stopped ts before key named)

-- ---- a part: three slots

-- a timer of another slot is new
new_in_slot : (n : ℕ) (o : Owner) (key slot : ℕ) (stood : Option (Letter × ℕ)) (t : Timer) → IsInSlot slot stood → slot_of t.name.letter ≢ slot
    → IsNew (slot_timers n o key stood) t
new_in_slot n o key slot None t is other = tt
new_in_slot n o key slot (Some s) t is other = (λ at same. other (sym (ap (λ (x : Name). slot_of x.letter) same) ∙ is), tt)

each_in_slot : (n : ℕ) (o : Owner) (key slot : ℕ) (next : Option (Letter × ℕ)) (before all : List Timer) → IsInSlot slot next
    → ((t : Timer) → slot_of t.name.letter ≡ slot → IsNew before t → IsNew all t)
    → AllByRecursion (λ t. IsNew before t → IsNew all t) (slot_timers n o key next)
each_in_slot n o key slot None before all is each = tt
each_in_slot n o key slot (Some s) before all is each = (each (record { key = key; due = s.1; name = record { request = n; owner = o; letter = s.0 } }) is, tt)

module _ (keys : TimerKeys) (part : RequestPart) (slots : AreInSlots part.timers) where
  abbrev again : List Timer
  again = slot_timers part.request part.owner keys.again part.timers.again

  abbrev last : List Timer
  last = slot_timers part.request part.owner keys.last part.timers.last

  abbrev call : List Timer
  call = slot_timers part.request part.owner keys.call part.timers.call

  not_again : (t : Timer) → slot_of t.name.letter ≢ 0 → IsNew again t
  not_again t other = new_in_slot part.request part.owner keys.again 0 part.timers.again t slots.again other

  not_last : (t : Timer) → slot_of t.name.letter ≢ 1 → IsNew last t
  not_last t other = new_in_slot part.request part.owner keys.last 1 part.timers.last t slots.last other

  not_call : (t : Timer) → slot_of t.name.letter ≢ 2 → IsNew call t
  not_call t other = new_in_slot part.request part.owner keys.call 2 part.timers.call t slots.call other

  new_call : (t : Timer) → slot_of t.name.letter ≡ 2 → IsNew call t → IsNew (part_standing keys part) t
  new_call t is new = new-append again (last ++ call) t (not_again t (λ e. omega (arith, e, is))) (new-append last call t (not_last t (λ e. omega (arith, e, is))) new)

  new_last : (t : Timer) → slot_of t.name.letter ≡ 1 → IsNew last t → IsNew (part_standing keys part) t
  new_last t is new = new-append again (last ++ call) t (not_again t (λ e. omega (arith, e, is))) (new-append last call t new (not_call t (λ e. omega (arith, e, is))))

  new_again : (t : Timer) → slot_of t.name.letter ≡ 0 → IsNew again t → IsNew (part_standing keys part) t
  new_again t is new = new-append again (last ++ call) t new (new-append last call t (not_last t (λ e. omega (arith, e, is))) (not_call t (λ e. omega (arith, e, is))))

turned : (n : ℕ) (o : Owner) (keys : TimerKeys) (again last call : Option (Letter × ℕ))
    → (slot_timers n o keys.call call ++ slot_timers n o keys.last last) ++ slot_timers n o keys.again again
    ≡ reverse (slot_timers n o keys.again again ++ (slot_timers n o keys.last last ++ slot_timers n o keys.call call))
turned n o keys None None None = refl
turned n o keys None None (Some c) = refl
turned n o keys None (Some l) None = refl
turned n o keys None (Some l) (Some c) = refl
turned n o keys (Some a) None None = refl
turned n o keys (Some a) None (Some c) = refl
turned n o keys (Some a) (Some l) None = refl
turned n o keys (Some a) (Some l) (Some c) = refl

-- each slot is set anew, or stays
pub part_synced : (ts us vs ws : List Timer) (stood keys : TimerKeys) (was next : RequestPart) → AreInSlots was.timers → AreInSlots next.timers
    → SetsInOrder ts (slot_timers was.request was.owner stood.call was.timers.call) us (slot_timers next.request next.owner keys.call next.timers.call)
    → SetsInOrder us (slot_timers was.request was.owner stood.last was.timers.last) vs (slot_timers next.request next.owner keys.last next.timers.last)
    → SetsInOrder vs (slot_timers was.request was.owner stood.again was.timers.again) ws (slot_timers next.request next.owner keys.again next.timers.again)
    → SetsInOrder ts (part_standing stood was) ws (part_in_order keys next)
part_synced ts us vs ws stood keys was next in_slots next_in_slots by_call by_last by_again =
    let all : List Timer = part_standing stood was in
    let c : List Timer = slot_timers next.request next.owner keys.call next.timers.call in
    let l : List Timer = slot_timers next.request next.owner keys.last next.timers.last in
    let a : List Timer = slot_timers next.request next.owner keys.again next.timers.again in
    let first : SetsInOrder ts all us c = SetsInOrder-further ts (slot_timers was.request was.owner stood.call was.timers.call) all us c by_call
    (each_in_slot next.request next.owner keys.call 2 next.timers.call (slot_timers was.request was.owner stood.call was.timers.call) all next_in_slots.call
    (new_call stood was in_slots)) in
    let second : SetsInOrder us all vs l = SetsInOrder-further us (slot_timers was.request was.owner stood.last was.timers.last) all vs l by_last
    (each_in_slot next.request next.owner keys.last 1 next.timers.last (slot_timers was.request was.owner stood.last was.timers.last) all next_in_slots.last
    (new_last stood was in_slots)) in
    let third : SetsInOrder vs all ws a = SetsInOrder-further vs (slot_timers was.request was.owner stood.again was.timers.again) all ws a by_again
    (each_in_slot next.request next.owner keys.again 0 next.timers.again (slot_timers was.request was.owner stood.again was.timers.again) all next_in_slots.again
    (new_again stood was in_slots)) in
    subst (λ (xs : List Timer). SetsInOrder ts all ws xs) (turned next.request next.owner keys next.timers.again next.timers.last next.timers.call)
    (SetsInOrder-both ts vs ws all (c ++ l) a (SetsInOrder-both ts us vs all c l first second) third)

-- each slot is set
pub part_set : (ts us vs ws : List Timer) (keys : TimerKeys) (part : RequestPart)
    → SetsInOrder ts [] us (slot_timers part.request part.owner keys.call part.timers.call)
    → SetsInOrder us [] vs (slot_timers part.request part.owner keys.last part.timers.last)
    → SetsInOrder vs [] ws (slot_timers part.request part.owner keys.again part.timers.again)
    → SetsInOrder ts [] ws (part_in_order keys part)
part_set ts us vs ws keys part by_call by_last by_again =
    let c : List Timer = slot_timers part.request part.owner keys.call part.timers.call in
    let l : List Timer = slot_timers part.request part.owner keys.last part.timers.last in
    let a : List Timer = slot_timers part.request part.owner keys.again part.timers.again in
    subst (λ (xs : List Timer). SetsInOrder ts [] ws xs) (turned part.request part.owner keys part.timers.again part.timers.last part.timers.call)
    (SetsInOrder-both ts vs ws [] (c ++ l) a (SetsInOrder-both ts us vs [] c l by_call by_last) by_again)

-- some are stopped, and then others
pub both_stopped : (ts us vs before : List Timer) → SetsInOrder ts before us [] → SetsInOrder us before vs [] → SetsInOrder ts before vs []
both_stopped ts us vs before a b = SetsInOrder-both ts us vs before [] [] a b

-- ---- whose timers they are

pub owned : (n : ℕ) (o : Owner) (keys : TimerKeys) (ts : List (Letter × ℕ)) → AllByRecursion (λ (t : Timer). t.name.owner ≡ o) (part_timers n o keys ts)
owned n o keys [] = tt
owned n o keys (t ∷ ts) = (refl, owned n o keys ts)

-- a timer of another owner is new
pub new_of_owner : (n : ℕ) (o : Owner) (keys : TimerKeys) (ts : List (Letter × ℕ)) (t : Timer) → o ≢ t.name.owner → IsNew (part_timers n o keys ts) t
new_of_owner n o keys [] t other = tt
new_of_owner n o keys (u ∷ us) t other = (λ at same. other (ap (λ (x : Name). x.owner) same), new_of_owner n o keys us t other)

-- ---- as they are named

pub as_named : (ts us met before standing named : List Timer) → before ≡ met → standing ≡ named → SetsInOrder ts before us (reverse standing)
    → SetsInOrder ts met us (reverse named)
as_named ts us met before standing named e f sets =
    subst (λ (xs : List Timer). SetsInOrder ts xs us (reverse named)) e (subst (λ (xs : List Timer). SetsInOrder ts before us (reverse xs)) f sets)

-- the side is set, then the branches, where nothing stood
pub begun_in_order : (ts us vs standing named others behind : List Timer) → standing ≡ named → others ≡ [] → SetsInOrder ts [] us (reverse standing)
    → SetsInOrder us others vs behind → SetsInOrder ts [] vs (reverse named ++ behind)
begun_in_order ts us vs standing named others behind e f side branches =
    SetsInOrder-both ts us vs [] (reverse named) behind (subst (λ (xs : List Timer). SetsInOrder ts [] us (reverse xs)) e side)
    (subst (λ (xs : List Timer). SetsInOrder us xs vs behind) f branches)

-- all are set, and what is left is stopped
pub over_in_order : (ts us vs before done after : List Timer) → done ≡ after → SetsInOrder ts before us done → SetsInOrder us [] vs [] → SetsInOrder ts before vs after
over_in_order ts us vs before done after e sets stops =
    subst (λ (xs : List Timer). SetsInOrder ts before vs xs) (append-nil done ∙ e) (SetsInOrder-both ts us vs before done [] sets
    (SetsInOrder-beside us [] before vs stops))
