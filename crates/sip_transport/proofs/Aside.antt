-- What a link over memory heard and set aside.
use Rattle.std.proofs.Common.{◌≡◌, ℕ, zero, suc, ◌+◌, ◌<◌, ◌≤◌, Bool, true, false, List, [], ◌∷◌, ◌++◌, Option, None, Some, length, map, take, drop, slice_set}
use Rattle.std.proofs.Common.{slice_index_or, unwrap_or, refl, sym, ◌∙◌, ap, subst, arith}
use Rattle.std.proofs.lemmas.List.{append_assoc, append-nil}
use Rattle.sip_transport.specs.Told.{left_of, SetsAside}
use Rattle.sip_transport.specs.MemoryLink.{IsFresh, aside_by, aside_one, datagram_of, heard_by, heard_one, last_bytes, nothings, silence_of}
use Rattle.sip_transport.specs.declared.datagram.Instead.{Instead}
use Rattle.sip_transport.specs.declared.datagram.Instead.TheVariants.{AskedAgain, HeardNothing}
use Rattle.sip_transport.specs.declared.datagram.HeardDatagram.{HeardDatagram}
use Rattle.sip_transport.specs.declared.posted.Posted.{Posted}
use Rattle.sip_transport.proofs.Turns.{noted}
use Rattle.sip_uri.specs.declared.addr.Addr.{Addr}

-- the datagrams, with one of them set aside
abbrev pub flagged : List Posted → ℕ → Posted → List Posted
flagged list n d = slice_set list n (record (slice_index_or list n d) { is_aside = true })

but_last : {A : Type 0} → List A → List A
but_last [] = []
but_last (x ∷ []) = []
but_last (x ∷ y ∷ rest) = x ∷ but_last (y ∷ rest)

last_of : {A : Type 0} → A → List A → A
last_of none [] = none
last_of none (x ∷ rest) = last_of x rest

but_last_snoc : {A : Type 0} (xs : List A) (x : A) → but_last (xs ++ x ∷ []) ≡ xs
unfolding but_last
but_last_snoc [] x = refl
but_last_snoc (a ∷ []) x = refl
but_last_snoc (a ∷ b ∷ rest) x = ap (λ list. a ∷ list) (but_last_snoc (b ∷ rest) x)

last_snoc : {A : Type 0} (none : A) (xs : List A) (x : A) → last_of none (xs ++ x ∷ []) ≡ x
unfolding last_of
last_snoc none [] x = refl
last_snoc none (a ∷ rest) x = last_snoc a rest x

heard_flag : (list : List Posted) (n : ℕ) (d : Posted) → n < length list → (slice_index_or list n d).is_aside ≡ false
    → heard_by (take (suc n) list) ≡ heard_by (take (suc n) (flagged list n d)) ++ Some (slice_index_or list n d).datagram ∷ []
heard_flag [] n d h e = absurd (omega (arith, h))
heard_flag (posted ∷ list) zero d h e =
    let silence = nothings posted.silent in
    ap (λ (aside : Bool). (silence ++ heard_one aside posted.datagram) ++ []) e ∙ append-nil (silence ++ Some posted.datagram ∷ [])
    ∙ ap (λ (front : List (Option HeardDatagram)). front ++ Some posted.datagram ∷ []) (sym (append-nil silence) ∙ sym (append-nil (silence ++ [])))
heard_flag (posted ∷ list) (suc n) d h e =
    let front = nothings posted.silent ++ heard_one posted.is_aside posted.datagram in
    ap (λ rest. front ++ rest) (heard_flag list n d (omega (arith, h)) e)
    ∙ sym (append_assoc front (heard_by (take (suc n) (flagged list n d))) (Some (slice_index_or list n d).datagram ∷ []))

aside_flag : (list : List Posted) (n : ℕ) (d : Posted) → n < length list → (slice_index_or list n d).is_aside ≡ false
    → aside_by (take (suc n) (flagged list n d)) ≡ aside_by (take (suc n) list) ++ (slice_index_or list n d).datagram ∷ []
aside_flag [] n d h e = absurd (omega (arith, h))
aside_flag (posted ∷ list) zero d h e = ap (λ (aside : Bool). (aside_one aside posted.datagram ++ []) ++ posted.datagram ∷ []) (sym e)
aside_flag (posted ∷ list) (suc n) d h e =
    let front = aside_one posted.is_aside posted.datagram in
    ap (λ rest. front ++ rest) (aside_flag list n d (omega (arith, h)) e)
    ∙ sym (append_assoc front (aside_by (take (suc n) list)) ((slice_index_or list n d).datagram ∷ []))

waiting_flag : (list : List Posted) (n : ℕ) (d : Posted) → map datagram_of (drop (suc n) (flagged list n d)) ≡ map datagram_of (drop (suc n) list)
waiting_flag [] n d = refl
waiting_flag (posted ∷ list) zero d = refl
waiting_flag (posted ∷ list) (suc n) d = waiting_flag list n d

held_flag : (none : List ℕ) (list : List Posted) (n : ℕ) (d : Posted) → last_bytes none (take (suc n) (flagged list n d)) ≡ last_bytes none (take (suc n) list)
held_flag none [] n d = refl
held_flag none (posted ∷ list) zero d = refl
held_flag none (posted ∷ list) (suc n) d = held_flag posted.datagram.bytes list n d

-- the last datagram that was heard, which is set aside
told_apart : (datagram other : HeardDatagram) (front rest : List (Option HeardDatagram)) → front ++ Some datagram ∷ [] ≡ rest ++ Some other ∷ []
    → (front ≡ rest) × (datagram ≡ other)
told_apart datagram other front rest e = (
  sym (but_last_snoc front (Some datagram)) ∙ ap but_last e ∙ but_last_snoc rest (Some other),
  ap (λ (last : Option HeardDatagram). unwrap_or last datagram) (sym (last_snoc None front (Some datagram)) ∙ ap (last_of None) e ∙ last_snoc None rest (Some other)),
)

-- what is heard by then
heard_then : (instead : Instead) (front rest : List (Option HeardDatagram)) → front ≡ rest → Some (front ++ nothings (silence_of instead)) ≡ left_of instead (Some rest)
heard_then AskedAgain front rest e = ap Some (append-nil front ∙ e)
heard_then HeardNothing front rest e = ap (λ (list : List (Option HeardDatagram)). Some (list ++ None ∷ [])) e

-- it is none any more of those that were heard
sets_it_aside : (instead : Instead) (other datagram : HeardDatagram) (front all : List (Option HeardDatagram)) (aside : List HeardDatagram)
    → all ≡ front ++ Some datagram ∷ []
    → SetsAside other instead (Some all) (Some (front ++ nothings (silence_of instead))) (Some aside) (Some (aside ++ datagram ∷ []))
sets_it_aside instead other datagram front all aside e None h = absurd cc
sets_it_aside instead other datagram front all aside e (Some before) h =
    let same : all ≡ before ++ Some other ∷ [] = ap (λ (told : Option (List (Option HeardDatagram))). unwrap_or told all) h in
    let both = told_apart datagram other front before (sym e ∙ same) in
    (heard_then instead front before both.0, ap (λ (d : HeardDatagram). Some (aside ++ d ∷ [])) both.1)

-- the last of those that were taken, where it was heard
fresh_last : (list : List Posted) (n : ℕ) (d : Posted) → IsFresh list (suc n) → (slice_index_or list n d).is_aside ≡ false
fresh_last [] n d fresh = absurd fresh
fresh_last (posted ∷ list) zero d fresh = fresh
fresh_last (posted ∷ list) (suc n) d fresh = fresh_last list n d fresh

pub fresh_at : (list : List Posted) (taken place : ℕ) (d : Posted) → IsFresh list taken → place + 1 ≡ taken → (slice_index_or list place d).is_aside ≡ false
fresh_at list taken place d fresh e =
    let same : taken ≡ suc place = omega (arith, e) in
    fresh_last list place d (subst (IsFresh list) same fresh)

fresh_next : (list : List Posted) (n silent : ℕ) (d : Posted) → n < length list → IsFresh (noted list n silent d) (suc n)
fresh_next [] n silent d h = absurd (omega (arith, h))
fresh_next (posted ∷ list) zero silent d h = refl
fresh_next (posted ∷ list) (suc n) silent d h = fresh_next list n silent d (omega (arith, h))

pub fresh_noted : (list : List Posted) (n silent : ℕ) (d : Posted) → n < length list → IsFresh (noted list n silent d) (n + 1)
fresh_noted list n silent d h = let e : n + 1 ≡ suc n = omega arith in rw e (fresh_next list n silent d h)

-- one was taken
pub taken_some : (list : List Posted) (taken : ℕ) → IsFresh list taken → 1 ≤ taken
taken_some [] taken fresh = absurd fresh
taken_some (posted ∷ list) zero fresh = absurd fresh
taken_some (posted ∷ list) (suc n) fresh = omega arith

-- one more that is yet to be heard
pub fresh_still : (list : List Posted) (taken : ℕ) (more : Posted) → IsFresh list taken → IsFresh (list ++ more ∷ []) taken
fresh_still [] taken more fresh = absurd fresh
fresh_still (posted ∷ list) zero more fresh = absurd fresh
fresh_still (posted ∷ list) (suc zero) more fresh = fresh
fresh_still (posted ∷ list) (suc (suc n)) more fresh = fresh_still list (suc n) more fresh

-- the same link once what it heard last is set aside
pub set_aside : (list : List Posted) (taken place : ℕ) (d : Posted) (from : Addr) (instead : Instead) → taken ≤ length list → place + 1 ≡ taken → IsFresh list taken
    → SetsAside (record { from = from; bytes = last_bytes [] (take taken list) }) instead (Some (heard_by (take taken list) ++ []))
    (Some (heard_by (take taken (flagged list place d)) ++ nothings (silence_of instead))) (Some (aside_by (take taken list)))
    (Some (aside_by (take taken (flagged list place d))))
set_aside list taken place d from instead h e fresh =
    let same : taken ≡ suc place = omega (arith, e) in
    let below : place < length list = omega (arith, h, e) in
    let kept : (slice_index_or list place d).is_aside ≡ false = fresh_at list taken place d fresh e in
    let datagram = (slice_index_or list place d).datagram in
    let other : HeardDatagram = record { from = from; bytes = last_bytes [] (take taken list) } in
    let left = heard_by (take taken (flagged list place d)) in
    let heard : heard_by (take taken list) ++ [] ≡ left ++ Some datagram ∷ [] = append-nil (heard_by (take taken list)) ∙ rw same (heard_flag list place d below kept) in
    let aside : aside_by (take taken (flagged list place d)) ≡ aside_by (take taken list) ++ datagram ∷ [] = rw same (aside_flag list place d below kept) in
    subst (λ (list_aside : List HeardDatagram). SetsAside other instead (Some (heard_by (take taken list) ++ [])) (Some (left ++ nothings (silence_of instead)))
    (Some (aside_by (take taken list))) (Some list_aside)) (sym aside)
    (sets_it_aside instead other datagram left (heard_by (take taken list) ++ []) (aside_by (take taken list)) heard)

-- and the rest of it stays
pub rest_stays : (list : List Posted) (taken place : ℕ) (d : Posted) → place + 1 ≡ taken
    → (map datagram_of (drop taken (flagged list place d)) ≡ map datagram_of (drop taken list))
    × (last_bytes [] (take taken (flagged list place d)) ≡ last_bytes [] (take taken list))
rest_stays list taken place d e = let same : taken ≡ suc place = omega (arith, e) in rw same (waiting_flag list place d, held_flag [] list place d)
