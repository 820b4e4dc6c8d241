-- The parts of a text are those that make it up, uncut and closed.
use Rattle.std.proofs.Common.{◌≡◌, ◌≢◌, ℕ, Bool, true, false, cond, List, [], ◌∷◌, ◌++◌, Option, Some, None, refl, sym, ap, ◌∙◌, arith}
use Rattle.std.specs.List.{AllByRecursion, join_with_byte}
use Rattle.std.proofs.lemmas.Bool.{eqb-true}
use Rattle.sip_text.specs.declared.cuts.Quoting.{Quoting}
use Rattle.sip_text.specs.declared.cuts.Quoting.TheVariants.{Outside, Inside, Escaped}
use Rattle.sip_text.specs.Lists.{onto}
use Rattle.sip_text.specs.Splits.{in_front}
use Rattle.sip_text.specs.Cuts.{quoting_after, quoting_behind, is_mark, split_from, split_outside, parts_from, parts_at, AreClosed, IsParted}

abbrev IsUncut : Quoting → ℕ → List ℕ → Type 0
IsUncut quoting mark part = split_from quoting mark part ≡ None

-- parts of which the first goes on at a place
abbrev AreUncut : Quoting → ℕ → List (List ℕ) → Type 0
AreUncut quoting mark [] = ⊥
AreUncut quoting mark (first ∷ others) = IsUncut quoting mark first × AllByRecursion (λ part. split_outside mark part ≡ None) others

abbrev AreClosedFrom : Quoting → List (List ℕ) → Type 0
AreClosedFrom quoting [] = ⊥
AreClosedFrom quoting (first ∷ []) = Unit {0}
AreClosedFrom quoting (first ∷ next ∷ others) = (quoting_behind quoting first ≡ Outside) × AreClosed (next ∷ others)

record Parted (quoting : Quoting) (mark : ℕ) (text : List ℕ) (parts : List (List ℕ)) : Type 0 where
  whole : join_with_byte mark parts ≡ text
  uncut : AreUncut quoting mark parts
  closed : AreClosedFrom quoting parts

at_mark : (quoting : Quoting) (mark b : ℕ) → is_mark quoting mark b ≡ true → (quoting ≡ Outside) × (b ≡ mark)
at_mark Outside mark b is = (refl, eqb-true b mark is)
at_mark Inside mark b is = absurd cc
at_mark Escaped mark b is = absurd cc

-- ---- the parts of a text are such parts

closed_out : (parts : List (List ℕ)) → AreClosedFrom Outside parts → AreClosed parts
closed_out [] h = absurd h
closed_out (first ∷ []) h = tt
closed_out (first ∷ next ∷ others) h = h

uncut_out : (mark : ℕ) (parts : List (List ℕ)) → AreUncut Outside mark parts → AllByRecursion (λ part. split_outside mark part ≡ None) parts
uncut_out mark [] h = absurd h
uncut_out mark (first ∷ others) h = h

cut_here : (quoting : Quoting) (mark b : ℕ) (bs : List ℕ) (parts : List (List ℕ)) → (quoting ≡ Outside) × (b ≡ mark) → Parted Outside mark bs parts
    → Parted quoting mark (b ∷ bs) ([] ∷ parts)
cut_here quoting mark b bs [] at p = absurd p.uncut
cut_here quoting mark b bs (first ∷ others) at p =
    record {
      whole = ap (λ (w : List ℕ). mark ∷ w) p.whole ∙ ap (λ (k : ℕ). k ∷ bs) (sym at.1);
      uncut = (refl, uncut_out mark (first ∷ others) p.uncut);
      closed = (at.0, closed_out (first ∷ others) p.closed);
    }

join_onto : (mark b : ℕ) (first : List ℕ) (others : List (List ℕ)) → join_with_byte mark ((b ∷ first) ∷ others) ≡ b ∷ join_with_byte mark (first ∷ others)
join_onto mark b first [] = refl
join_onto mark b first (next ∷ others) = refl

closed_onto : (quoting : Quoting) (b : ℕ) (first : List ℕ) (others : List (List ℕ)) → AreClosedFrom (quoting_after quoting b) (first ∷ others)
    → AreClosedFrom quoting ((b ∷ first) ∷ others)
closed_onto quoting b first [] h = tt
closed_onto quoting b first (next ∷ others) h = h

one_more : (quoting : Quoting) (mark b : ℕ) (bs : List ℕ) (parts : List (List ℕ)) → is_mark quoting mark b ≡ false → Parted (quoting_after quoting b) mark bs parts
    → Parted quoting mark (b ∷ bs) (onto (b ∷ []) parts)
one_more quoting mark b bs [] is p = absurd p.uncut
one_more quoting mark b bs (first ∷ others) is p =
    let none : split_from quoting mark (b ∷ first) ≡ None = rw (is, p.uncut.0) refl in
    record {
      whole = join_onto mark b first others ∙ ap (λ (w : List ℕ). b ∷ w) p.whole;
      uncut = (none, p.uncut.1);
      closed = closed_onto quoting b first others p.closed;
    }

by_test : (quoting : Quoting) (mark b : ℕ) (bs : List ℕ) (t : Bool) → is_mark quoting mark b ≡ t → Parted Outside mark bs (parts_from Outside mark bs)
    → Parted (quoting_after quoting b) mark bs (parts_from (quoting_after quoting b) mark bs)
    → Parted quoting mark (b ∷ bs) (parts_from quoting mark (b ∷ bs))
by_test quoting mark b bs true is out on = rw is (cut_here quoting mark b bs (parts_from Outside mark bs) (at_mark quoting mark b is) out)
by_test quoting mark b bs false is out on = rw is (one_more quoting mark b bs (parts_from (quoting_after quoting b) mark bs) is on)

parted : (quoting : Quoting) (mark : ℕ) (text : List ℕ) → Parted quoting mark text (parts_from quoting mark text)
parted quoting mark [] = record { whole = refl; uncut = (refl, tt); closed = tt }
parted quoting mark (b ∷ bs) = by_test quoting mark b bs (is_mark quoting mark b) refl (parted Outside mark bs) (parted (quoting_after quoting b) mark bs)

some_parts : (quoting : Quoting) (mark : ℕ) (parts : List (List ℕ)) → AreUncut quoting mark parts → parts ≢ []
some_parts quoting mark [] h e = h
some_parts quoting mark (first ∷ others) h e = cc

pub are_parted : (mark : ℕ) (text : List ℕ) → IsParted mark text (parts_at mark text)
are_parted mark text =
    let p : Parted Outside mark text (parts_at mark text) = parted Outside mark text in
    record {
      whole = p.whole;
      uncut = uncut_out mark (parts_at mark text) p.uncut;
      closed = closed_out (parts_at mark text) p.closed;
      some = some_parts Outside mark (parts_at mark text) p.uncut;
    }

-- ---- and no others are

uncut_rest : (mark b : ℕ) (o : Option (List ℕ × List ℕ)) (t : Bool) (bs : List ℕ) → cond t (Some ([], bs)) (in_front (b ∷ []) o) ≡ None → (t ≡ false) × (o ≡ None)
uncut_rest mark b o true bs e = absurd cc
uncut_rest mark b None false bs e = (refl, refl)
uncut_rest mark b (Some x) false bs e = absurd cc

last_part : (quoting : Quoting) (mark : ℕ) (part : List ℕ) → IsUncut quoting mark part → parts_from quoting mark part ≡ part ∷ []
last_part quoting mark [] uncut = refl
last_part quoting mark (b ∷ bs) uncut =
    let r = uncut_rest mark b (split_from (quoting_after quoting b) mark bs) (is_mark quoting mark b) bs uncut in
    let not_here : is_mark quoting mark b ≡ false = r.0 in
    rw not_here (ap (onto (b ∷ [])) (last_part (quoting_after quoting b) mark bs r.1))

next_part : (quoting : Quoting) (mark : ℕ) (part rest : List ℕ) → IsUncut quoting mark part → quoting_behind quoting part ≡ Outside
    → parts_from quoting mark (part ++ mark ∷ rest) ≡ part ∷ parts_at mark rest
next_part quoting mark [] rest uncut out = rw out (rw (same mark) refl)
  where
    same : (n : ℕ) → is_mark Outside n n ≡ true
    same n = grind arith
next_part quoting mark (b ∷ bs) rest uncut out =
    let r = uncut_rest mark b (split_from (quoting_after quoting b) mark bs) (is_mark quoting mark b) bs uncut in
    let not_here : is_mark quoting mark b ≡ false = r.0 in
    rw not_here (ap (onto (b ∷ [])) (next_part (quoting_after quoting b) mark bs rest r.1 out))

parts_again : (mark : ℕ) (parts : List (List ℕ)) → parts ≢ [] → AllByRecursion (λ part. split_outside mark part ≡ None) parts → AreClosed parts
    → parts_at mark (join_with_byte mark parts) ≡ parts
parts_again mark [] some uncut closed = absurd (some refl)
parts_again mark (part ∷ []) some uncut closed = last_part Outside mark part uncut.0
parts_again mark (part ∷ next ∷ others) some uncut closed =
    next_part Outside mark part (join_with_byte mark (next ∷ others)) uncut.0 closed.0
    ∙ ap (λ (ps : List (List ℕ)). part ∷ ps) (parts_again mark (next ∷ others) (λ e. cc) uncut.1 closed.1)

pub only_parts : (mark : ℕ) (text : List ℕ) (parts : List (List ℕ)) → IsParted mark text parts → parts ≡ parts_at mark text
only_parts mark text parts is = sym (parts_again mark parts is.some is.uncut is.closed) ∙ ap (parts_at mark) is.whole
