-- Texts written in parts, and fronts of texts.
use Rattle.std.proofs.Common.{◌≡◌, ℕ, ◌+◌, ◌<◌, get_or, ◌-◌, ◌≤◌, List, [], ◌∷◌, ◌++◌, length, take, drop, Option, None, Some, refl, sym, ◌∙◌, ap, subst, append-nil}
use Rattle.std.proofs.Common.{append_assoc, take-append-drop, length-drop, arith}
use Rattle.std.specs.Io.KnownBytes.{Appends, Keeps}
use Rattle.std.proofs.KnownBytes.{Appends-nil, Appends-trans}
use Rattle.std.proofs.lemmas.List.{take_all, take_rest, take_more}
use Rattle.std.proofs.Math.Seq.{take-add}
use Rattle.std.specs.List.{flat_map}
use Rattle.std.proofs.lemmas.Grind.{flat_map-append}
use Rattle.sip_replay_script.specs.Devices.{WritesFront}

-- a write that took nothing
pub appends_none : (old new : Option (List ℕ)) → Keeps old new → Appends old new []
appends_none None new h = tt
appends_none (Some before) None h = h
appends_none (Some before) (Some after) h = h ∙ sym (append-nil before)

-- one more part of a text
pub appends_more : (a b c : Option (List ℕ)) (text : List ℕ) (i n : ℕ) → Appends a b (take i text) → Appends b c (take n (drop i text)) → Appends a c (take (i + n) text)
appends_more a b c text i n h1 h2 = subst (λ list. Appends a c list) (sym (take-add i n text)) (Appends-trans a b c _ _ h1 h2)

-- the whole text
pub appends_all : (a b : Option (List ℕ)) (text : List ℕ) (i : ℕ) → length text ≤ i → Appends a b (take i text) → Appends a b text
appends_all a b text i past h = subst (λ list. Appends a b list) (take_all i text past) h

pub appends_slice : (a b c : Option (List ℕ)) (text : List ℕ) (i n : ℕ) → Appends a b (take i text) → Appends b c (take n (take (length text - i) (drop i text)))
    → Appends a c (take (i + n) text)
appends_slice a b c text i n h1 h2 = appends_more a b c text i n h1 (subst (λ list. Appends b c (take n list)) (take_rest text i) h2)

-- a part of a text is a front of it
pub front_of : (a b : Option (List ℕ)) (text : List ℕ) (i : ℕ) → Appends a b (take i text) → WritesFront a b text
front_of a b text i h = record { done = take i text; rest = drop i text; cut = sym (take-append-drop i text); written = h }

pub front_kept : (a b c : Option (List ℕ)) (text : List ℕ) (i : ℕ) → Appends a b (take i text) → Appends b c [] → WritesFront a c text
front_kept a b c text i h1 h2 = front_of a c text i (subst (λ list. Appends a c list) (append-nil (take i text)) (Appends-trans a b c _ _ h1 h2))

-- nothing of a text that has no bytes
pub nothing_of : (a : Option (List ℕ)) (text : List ℕ) → length text ≡ 0 → Appends a a text
nothing_of a [] none = Appends-nil a
nothing_of a (b ∷ bs) none = absurd (omega (arith, none))

-- the rest behind a part
pub appends_rest : (a b c : Option (List ℕ)) (text : List ℕ) (i : ℕ) → Appends a b (take i text) → Appends b c (take (length text - i) (drop i text)) → Appends a c text
appends_rest a b c text i h1 h2 =
    subst (λ list. Appends a c list) (take-append-drop i text) (Appends-trans a b c _ _ h1
    (subst (λ list. Appends b c list) (take_all (length text - i) (drop i text) (omega (arith, length-drop i text))) h2))

-- nothing of it
pub front_none : (a : Option (List ℕ)) (text : List ℕ) → WritesFront a a text
front_none a text = record { done = []; rest = text; cut = refl; written = Appends-nil a }

-- all of it
pub front_all : (a b : Option (List ℕ)) (text : List ℕ) → Appends a b text → WritesFront a b text
front_all a b text h = record { done = text; rest = []; cut = sym (append-nil text); written = h }

-- what is kept
pub appends_kept : (a b c : Option (List ℕ)) (text : List ℕ) → Appends a b text → Keeps b c → Appends a c text
appends_kept None b c text h k = tt
appends_kept (Some x) None c text h k = absurd h
appends_kept (Some x) (Some y) None text h k = k
appends_kept (Some x) (Some y) (Some z) text h k = k ∙ h

pub front_still : (a b c : Option (List ℕ)) (text : List ℕ) → WritesFront a b text → Keeps b c → WritesFront a c text
front_still a b c text h k = record { done = h.done; rest = h.rest; cut = h.cut; written = appends_kept a b c h.done h.written k }

-- a front of the first of two texts, and of the second behind the first
pub front_first : (a b : Option (List ℕ)) (first second : List ℕ) → WritesFront a b first → WritesFront a b (first ++ second)
front_first a b first second h = record {
  done = h.done;
  rest = h.rest ++ second;
  cut = ap (λ list. list ++ second) h.cut ∙ append_assoc h.done h.rest second;
  written = h.written;
}

pub front_second : (a b c : Option (List ℕ)) (first second : List ℕ) → Appends a b first → WritesFront b c second → WritesFront a c (first ++ second)
front_second a b c first second h1 h2 = record {
  done = first ++ h2.done;
  rest = h2.rest;
  cut = ap (λ list. first ++ list) h2.cut ∙ sym (append_assoc first h2.done h2.rest);
  written = Appends-trans a b c _ _ h1 h2.written;
}

-- a front of the rest behind a part
pub front_rest : (a b c : Option (List ℕ)) (text : List ℕ) (i : ℕ) → Appends a b (take i text) → WritesFront b c (take (length text - i) (drop i text))
    → WritesFront a c text
front_rest a b c text i h1 h2 =
    subst (λ list. WritesFront a c list) (take-append-drop i text)
    (front_second a b c (take i text) (drop i text) h1 (subst (λ list. WritesFront b c list)
    (take_all (length text - i) (drop i text) (omega (arith, length-drop i text))) h2))

-- no byte of it
pub front_nothing : (a b : Option (List ℕ)) (text : List ℕ) → Appends a b [] → WritesFront a b text
front_nothing a b text h = record { done = []; rest = text; cut = refl; written = h }

-- parts, up to one that isn't written whole
pub front_part : {X : Type 0} (f : X → List ℕ) (xs : List X) (i : ℕ) (x : X) (a b c : Option (List ℕ)) → i < length xs → x ≡ get_or xs i x
    → Appends a b (flat_map f (take i xs)) → WritesFront b c (f x) → WritesFront a c (flat_map f xs)
front_part f xs i x a b c lt is h front =
    let same : flat_map f (take (i + 1) xs) ≡ flat_map f (take i xs) ++ f x =
    ap (flat_map f) (take_more xs i x lt) ∙ flat_map-append f (take i xs) (get_or xs i x ∷ []) ∙ ap (λ l. flat_map f (take i xs) ++ l) (append-nil (f (get_or xs i x)))
    ∙ ap (λ y. flat_map f (take i xs) ++ f y) (sym is) in
    let all : flat_map f xs ≡ flat_map f (take (i + 1) xs) ++ flat_map f (drop (i + 1) xs) =
    ap (flat_map f) (sym (take-append-drop (i + 1) xs)) ∙ flat_map-append f (take (i + 1) xs) (drop (i + 1) xs) in
    subst (λ l. WritesFront a c l) (sym all) (front_first a c (flat_map f (take (i + 1) xs)) (flat_map f (drop (i + 1) xs))
    (subst (λ l. WritesFront a c l) (sym same) (front_second a b c (flat_map f (take i xs)) (f x) h front)))
