-- The walk over the branches of an open request, before and after an event.
use Rattle.std.proofs.Common.{◌≡◌, ℕ, ◌+◌, ◌<◌, ◌≤◌, List, [], ◌∷◌, ◌++◌, length, take, drop, set, get_or, Option, Some, None, refl, sym, ap, ◌∙◌, subst, append_assoc}
use Rattle.std.proofs.Common.{arith}
use Rattle.std.specs.Option.{option_to_list}
use Rattle.std.specs.List.{AllByRecursion}
use Rattle.std.proofs.lemmas.List.{append-nil, drop_all, drop_more, take_all, take_more, take_more_set, length-take}
use Rattle.std.proofs.lemmas.List.Elements.{All-from_recursion, All-get_or}
use Rattle.sip_timers.specs.declared.letter.Letter.{Letter}
use Rattle.sip_timers.specs.declared.timer.Timer.{Timer}
use Rattle.sip_timers.specs.Timers.{KeysDiffer}
use Rattle.sip_timers.specs.Moves.{IsHeld, Moves}
use Rattle.model_transactions.specs.state.declared.branch.Branch.{Branch}
use Rattle.model_transactions.specs.state.declared.open_request.OpenRequest.{OpenRequest}
use Rattle.model_transactions.specs.Ties.{branch_timers, branches_timers, owner_of, part_timers}
use Rattle.model_transactions.specs.declared.timer_keys.TimerKeys.{TimerKeys}
use Rattle.sip_request.specs.declared.part.PartTimers.{PartTimers}
use Rattle.sip_request.specs.Near.{AreBefore, IsNear}
use Rattle.sip_request.specs.Slots.{IsBefore, IsPartNear, listed}
use Rattle.sip_request.specs.Walk.{left_timers}
use Rattle.sip_request.proofs.Moving.{Moves-stays}
use Rattle.sip_timers.proofs.Moving.{count-append}

-- ---- moments

pub AreBefore-weaker : (a b : ℕ) (ts : List (Letter × ℕ)) → a ≤ b → AreBefore a ts → AreBefore b ts
AreBefore-weaker a b [] h all = tt
AreBefore-weaker a b (t ∷ ts) h all = (omega (arith, all.0), AreBefore-weaker a b ts h all.1)

AreBefore-front : (bound : ℕ) (ts us : List (Letter × ℕ)) → AreBefore bound (ts ++ us) → AreBefore bound ts
AreBefore-front bound [] us all = tt
AreBefore-front bound (t ∷ ts) us all = (all.0, AreBefore-front bound ts us all.1)

AreBefore-back : (bound : ℕ) (ts us : List (Letter × ℕ)) → AreBefore bound (ts ++ us) → AreBefore bound us
AreBefore-back bound [] us all = all
AreBefore-back bound (t ∷ ts) us all = AreBefore-back bound ts us all.1

slot_near : (bound : ℕ) (slot : Option (Letter × ℕ)) → AreBefore bound (option_to_list slot) → IsBefore bound slot
slot_near bound None all = tt
slot_near bound (Some t) all = all.0

pub part_near : (bound : ℕ) (p : PartTimers) (ts : List (Letter × ℕ)) → listed p ≡ ts → AreBefore bound ts → IsPartNear bound p
part_near bound p ts is all =
    let of_all : AreBefore bound (listed p) = subst (λ us. AreBefore bound us) (sym is) all in
    let of_rest : AreBefore bound (option_to_list p.last ++ option_to_list p.call) = AreBefore-back bound (option_to_list p.again)
    (option_to_list p.last ++ option_to_list p.call) of_all in
    record {
      again = slot_near bound p.again (AreBefore-front bound (option_to_list p.again) (option_to_list p.last ++ option_to_list p.call) of_all);
      last = slot_near bound p.last (AreBefore-front bound (option_to_list p.last) (option_to_list p.call) of_rest);
      call = slot_near bound p.call (AreBefore-back bound (option_to_list p.last) (option_to_list p.call) of_rest);
    }

pub near_at : (bound : ℕ) (r : OpenRequest) (bs : List Branch) (i : ℕ) (b : Branch) → IsNear bound r → bs ≡ r.branches → i < length bs → b ≡ get_or bs i b
    → AreBefore bound (branch_timers r b)
near_at bound r bs i b near e within is =
    let P : Branch → Type 0 = λ x. AreBefore bound (branch_timers r x) in
    let all : AllByRecursion P bs = subst (λ xs. AllByRecursion P xs) (sym e) near.branches in
    subst P (sym is) (All-get_or P bs i b within (All-from_recursion P bs all))

all_weaker : (a b : ℕ) (r : OpenRequest) (bs : List Branch) → a ≤ b → AllByRecursion (λ (x : Branch). AreBefore a (branch_timers r x)) bs
    → AllByRecursion (λ (x : Branch). AreBefore b (branch_timers r x)) bs
all_weaker a b r [] h all = tt
all_weaker a b r (x ∷ bs) h all = (AreBefore-weaker a b (branch_timers r x) h all.0, all_weaker a b r bs h all.1)

pub IsNear-later : (a b : ℕ) (r : OpenRequest) → a ≤ b → IsNear a r → IsNear b r
IsNear-later a b r h near = record { side = AreBefore-weaker a b _ h near.side; branches = all_weaker a b r r.branches h near.branches }

-- ---- the branches before: from a place on

pub without_keys : (r : OpenRequest) (bs : List Branch) → branches_timers r bs [] ≡ []
without_keys r [] = refl
without_keys r (b ∷ bs) = refl

pub left_over : (r : OpenRequest) (bs : List Branch) (keys : List TimerKeys) (place : ℕ) → bs ≡ r.branches → length bs ≤ place → left_timers r keys place ≡ []
left_over r bs keys place e h = ap (λ xs. branches_timers r (drop place xs) (drop place keys)) (sym e)
    ∙ ap (λ xs. branches_timers r xs (drop place keys)) (drop_all place bs h)

pub left_without_keys : (r : OpenRequest) (keys : List TimerKeys) (place : ℕ) → length keys ≤ place → left_timers r keys place ≡ []
left_without_keys r keys place h = ap (λ ks. branches_timers r (drop place r.branches) ks) (drop_all place keys h) ∙ without_keys r (drop place r.branches)

pub left_more : (r : OpenRequest) (bs : List Branch) (keys : List TimerKeys) (place : ℕ) (b : Branch) (k : TimerKeys) (ts : List Timer) → bs ≡ r.branches
    → place < length bs → place < length keys → b ≡ get_or bs place b → k ≡ get_or keys place k
    → ts ≡ part_timers r.number (owner_of b) k (branch_timers r b) → left_timers r keys place ≡ ts ++ left_timers r keys (place + 1)
left_more r bs keys place b k ts e in_branches in_keys is_branch is_keys is_part =
    let of_branch : drop place bs ≡ b ∷ drop (place + 1) bs = drop_more bs place b in_branches ∙ ap (λ x. x ∷ drop (place + 1) bs) (sym is_branch) in
    let of_keys : drop place keys ≡ k ∷ drop (place + 1) keys = drop_more keys place k in_keys ∙ ap (λ x. x ∷ drop (place + 1) keys) (sym is_keys) in
    ap (λ xs. branches_timers r (drop place xs) (drop place keys)) (sym e)
    ∙ ap (λ xs. branches_timers r xs (drop place keys)) of_branch
    ∙ ap (λ ks. branches_timers r (b ∷ drop (place + 1) bs) ks) of_keys
    ∙ ap (λ xs. xs ++ branches_timers r (drop (place + 1) bs) (drop (place + 1) keys)) (sym is_part)
    ∙ ap (λ xs. ts ++ branches_timers r (drop (place + 1) xs) (drop (place + 1) keys)) e

-- ---- the branches after: up to a place

one_more : (r : OpenRequest) (bs : List Branch) (ks : List TimerKeys) (b : Branch) (k : TimerKeys) → length bs ≡ length ks
    → branches_timers r (bs ++ b ∷ []) (ks ++ k ∷ []) ≡ branches_timers r bs ks ++ part_timers r.number (owner_of b) k (branch_timers r b)
one_more r [] [] b k same = append-nil (part_timers r.number (owner_of b) k (branch_timers r b))
one_more r [] (y ∷ ks) b k same = absurd (cc)
one_more r (x ∷ bs) [] b k same = absurd (cc)
one_more r (x ∷ bs) (y ∷ ks) b k same =
    ap (λ ts. part_timers r.number (owner_of x) y (branch_timers r x) ++ ts) (one_more r bs ks b k (omega (arith, same)))
    ∙ sym (append_assoc (part_timers r.number (owner_of x) y (branch_timers r x)) (branches_timers r bs ks) (part_timers r.number (owner_of b) k (branch_timers r b)))

same_length : (bs : List Branch) (xs : List TimerKeys) (n : ℕ) → n < length bs → length xs ≡ length bs → length (take n bs) ≡ length (take n xs)
same_length bs xs n h e = omega (arith, length-take n bs, length-take n xs)

pub done_more : (r : OpenRequest) (bs : List Branch) (ks : List TimerKeys) (i : ℕ) (b : Branch) (k : TimerKeys) → i < length bs → length ks ≡ length bs
    → b ≡ get_or bs i b
    → branches_timers r (take (i + 1) bs) (take (i + 1) (set ks i k)) ≡ branches_timers r (take i bs) (take i ks)
    ++ part_timers r.number (owner_of b) k (branch_timers r b)
done_more r bs ks i b k within long is =
    let of_branch : take (i + 1) bs ≡ take i bs ++ b ∷ [] = take_more bs i b within ∙ ap (λ x. take i bs ++ x ∷ []) (sym is) in
    let of_keys : take (i + 1) (set ks i k) ≡ take i ks ++ k ∷ [] = take_more_set ks i k (omega arith) in
    ap (λ xs. branches_timers r xs (take (i + 1) (set ks i k))) of_branch
    ∙ ap (λ xs. branches_timers r (take i bs ++ b ∷ []) xs) of_keys
    ∙ one_more r (take i bs) (take i ks) b k (same_length bs ks i within long)

pub all_done : (r : OpenRequest) (bs : List Branch) (ks : List TimerKeys) (i : ℕ) → bs ≡ r.branches → length bs ≤ i → length ks ≡ length bs
    → branches_timers r (take i bs) (take i ks) ≡ branches_timers r r.branches ks
all_done r bs ks i e h long = ap (λ xs. branches_timers r xs (take i ks)) (take_all i bs h) ∙ ap (λ xs. branches_timers r bs xs) (take_all i ks (omega arith))
    ∙ ap (λ xs. branches_timers r xs ks) e

-- ---- moves on the way

-- what is still to be looked at stands
pub held_left : (ts us all done left : List Timer) → IsHeld ts all → Moves ts all us (done ++ left) → IsHeld us left
held_left ts us all done left h m = record { stand = λ p. omega (arith, h.stand p, m.same p, count-append p done left); keys_differ = m.keys_differ h.keys_differ }

-- its front does
pub held_front : (ts left front back : List Timer) → left ≡ front ++ back → IsHeld ts left → IsHeld ts front
held_front ts left front back e h =
    let whole : IsHeld ts (front ++ back) = subst (λ us. IsHeld ts us) e h in
    record { stand = λ p. omega (arith, whole.stand p, count-append p front back); keys_differ = whole.keys_differ }

-- the front is moved, and the back stays as it is
pub Moves-matched : (ts us left front back part named : List Timer) → left ≡ front ++ back → part ≡ named → Moves ts front us part → Moves ts left us (named ++ back)
Moves-matched ts us left front back part named e f m =
    subst (λ xs. Moves ts xs us (named ++ back)) (sym e) (subst (λ xs. Moves ts (front ++ back) us (xs ++ back)) f (record {
      same = λ p. omega (arith, m.same p, count-append p front back, count-append p part back);
      keys_differ = m.keys_differ;
    }))

-- one branch further
pub Moves-further : (ts us vs all done left part rest more : List Timer) → more ≡ done ++ part → Moves ts all us (done ++ left) → Moves us left vs (part ++ rest)
    → Moves ts all vs (more ++ rest)
Moves-further ts us vs all done left part rest more e m n = subst (λ xs. Moves ts all vs (xs ++ rest)) (sym e) (record {
  same = λ p. omega (arith, m.same p, n.same p, count-append p done left, count-append p part rest, count-append p (done ++ part) rest, count-append p done part);
  keys_differ = λ differ. n.keys_differ (m.keys_differ differ);
})

-- what is left is stopped
pub Moves-over : (ts us vs all done left after : List Timer) → done ≡ after → Moves ts all us (done ++ left) → Moves us left vs [] → Moves ts all vs after
Moves-over ts us vs all done left after e m n = subst (λ xs. Moves ts all vs xs) e (record {
  same = λ p. omega (arith, m.same p, n.same p, count-append p done left);
  keys_differ = λ differ. n.keys_differ (m.keys_differ differ);
})

-- nothing is left
pub Moves-all : (ts us all done left after : List Timer) → done ≡ after → left ≡ [] → Moves ts all us (done ++ left) → Moves ts all us after
Moves-all ts us all done left after e f m = Moves-over ts us us all done left after e m (subst (λ xs. Moves us xs us []) (sym f) (Moves-stays us []))

-- the front is stopped, of what is left to be stopped
pub Moves-less : (ts us vs all left front back : List Timer) → left ≡ front ++ back → Moves ts all us left → Moves us front vs [] → Moves ts all vs back
Moves-less ts us vs all left front back e m n =
    let k : Moves ts all us (front ++ back) = subst (λ xs. Moves ts all us xs) e m in
    record { same = λ p. omega (arith, k.same p, n.same p, count-append p front back); keys_differ = λ differ. n.keys_differ (k.keys_differ differ) }

-- of what was left, less is left
pub Moves-passed : (ts us vs all left rest : List Timer) → Moves ts all us left → Moves us left vs rest → Moves ts all vs rest
Moves-passed ts us vs all left rest m n = record { same = λ p. omega (arith, m.same p, n.same p); keys_differ = λ differ. n.keys_differ (m.keys_differ differ) }

-- nothing is left to be stopped
pub Moves-through : (ts us all left : List Timer) → left ≡ [] → Moves ts all us left → Moves ts all us []
Moves-through ts us all left e m = subst (λ xs. Moves ts all us xs) e m

-- ---- the side, then the branches

pub held_side : (ts standing named back : List Timer) → standing ≡ named → IsHeld ts (named ++ back) → IsHeld ts standing
held_side ts standing named back e h = subst (λ us. IsHeld ts us) (sym e) (record {
  stand = λ p. omega (arith, h.stand p, count-append p named back);
  keys_differ = h.keys_differ;
})

pub held_behind : (ts us standing named back after : List Timer) → standing ≡ named → IsHeld ts (named ++ back) → Moves ts standing us after → IsHeld us back
held_behind ts us standing named back after e h m =
    let k : Moves ts named us after = subst (λ xs. Moves ts xs us after) e m in
    record { stand = λ p. omega (arith, h.stand p, k.same p, count-append p named back); keys_differ = k.keys_differ h.keys_differ }

pub Moves-pair : (ts us vs standing named back after called behind : List Timer) → standing ≡ named → after ≡ called → Moves ts standing us after
    → Moves us back vs behind → Moves ts (named ++ back) vs (called ++ behind)
Moves-pair ts us vs standing named back after called behind e f m n =
    let k : Moves ts named us called = subst (λ xs. Moves ts xs us called) e (subst (λ xs. Moves ts standing us xs) f m) in
    record {
      same = λ p. omega (arith, k.same p, n.same p, count-append p named back, count-append p called behind);
      keys_differ = λ differ. n.keys_differ (k.keys_differ differ);
    }

-- nothing stood before: the side is set, then the branches
pub held_begun : (ts us none after others : List Timer) → none ≡ [] → others ≡ [] → KeysDiffer ts → Moves ts none us after → IsHeld us others
held_begun ts us none after others e f differ m = subst (λ xs. IsHeld us xs) (sym f) (record { stand = λ p. omega arith; keys_differ = m.keys_differ differ })

pub Moves-begun : (ts us vs none others after called behind : List Timer) → none ≡ [] → others ≡ [] → after ≡ called → Moves ts none us after → Moves us others vs behind
    → Moves ts [] vs (called ++ behind)
Moves-begun ts us vs none others after called behind e f d m n =
    let k : Moves ts [] us called = subst (λ xs. Moves ts xs us called) e (subst (λ xs. Moves ts none us xs) d m) in
    let l : Moves us [] vs behind = subst (λ xs. Moves us xs vs behind) f n in
    record {
      same = λ p. omega (arith, k.same p, l.same p, count-append p called behind);
      keys_differ = λ differ. l.keys_differ (k.keys_differ differ);
    }
