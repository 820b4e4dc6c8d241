-- What a link over memory heard, turn by turn.
use Rattle.std.proofs.Common.{◌≡◌, ℕ, zero, suc, ◌+◌, ◌<◌, ◌≤◌, Bool, List, [], ◌∷◌, ◌++◌, Option, None, Some, true, false, length, map, take, drop, slice_set}
use Rattle.std.proofs.Common.{slice_index_or, refl, sym, ◌∙◌, ap, arith}
use Rattle.std.proofs.Math.Bridge.{le_prop}
use Rattle.std.proofs.lemmas.List.{append_assoc, append-nil}
use Rattle.sip_transport.specs.Told.{IsWritable}
use Rattle.sip_transport.specs.Examples.{here}
use Rattle.sip_transport.specs.MemoryLink.{MemoryState, aside_by, aside_one, heard_by, heard_one, nothings, datagram_of, last_bytes, hearing, first_from}
use Rattle.sip_transport.specs.declared.datagram.HeardDatagram.{HeardDatagram}
use Rattle.sip_transport.specs.declared.posted.Posted.{Posted}
use Rattle.sip_uri.specs.declared.addr.Addr.{Addr}

-- a datagram that can be written
pub some_posted : Posted
some_posted = record { silent = 0; is_aside = false; datagram = record { from = here; bytes = [] }; writable = (λ e. omega (arith, e), omega arith) }

writable_is_prop : (from : Addr) (bytes : List ℕ) → IsProp (IsWritable from bytes)
writable_is_prop from bytes = hlevel (le_prop)

-- a datagram before which so much silence is noted, and which is set aside or isn't
pub silenced : (silent : ℕ) (aside : Bool) (p q : Posted) (writable : IsWritable p.datagram.from p.datagram.bytes) → p ≡ q
    → record { silent = silent; is_aside = aside; datagram = p.datagram; writable = writable } ≡ record q { silent = silent; is_aside = aside }
silenced silent aside p q writable e =
    let one : Posted = record { silent = silent; is_aside = aside; datagram = p.datagram; writable = writable } in
    let other : Posted = record p { silent = silent; is_aside = aside } in
    let same : one ≡ other =
    ap (λ (w : IsWritable p.datagram.from p.datagram.bytes). let posted : Posted = record { silent = silent; is_aside = aside; datagram = p.datagram; writable = w } in
    posted)
    (writable_is_prop p.datagram.from p.datagram.bytes writable p.writable)
    in
    same ∙ ap (λ (posted : Posted). record posted { silent = silent; is_aside = aside }) e

-- a datagram that is set aside
pub put_aside : (p q : Posted) (writable : IsWritable p.datagram.from p.datagram.bytes) → p ≡ q
    → record { silent = p.silent; is_aside = true; datagram = p.datagram; writable = writable } ≡ record q { is_aside = true }
put_aside p q writable e =
    let one : Posted = record { silent = p.silent; is_aside = true; datagram = p.datagram; writable = writable } in
    let other : Posted = record p { is_aside = true } in
    let same : one ≡ other =
    ap (λ (w : IsWritable p.datagram.from p.datagram.bytes). let posted : Posted = record { silent = p.silent; is_aside = true; datagram = p.datagram; writable = w } in
    posted)
    (writable_is_prop p.datagram.from p.datagram.bytes writable p.writable)
    in
    same ∙ ap (λ (posted : Posted). record posted { is_aside = true }) e

next : (n : ℕ) → nothings (suc n) ≡ nothings n ++ None ∷ []
next zero = refl
next (suc n) = ap (λ rest. None ∷ rest) (next n)

nothings_next : (front : List (Option HeardDatagram)) (n : ℕ) → front ++ nothings (n + 1) ≡ front ++ nothings n ++ None ∷ []
nothings_next front n =
    let e : n + 1 ≡ suc n = omega arith in
    rw e (ap (λ rest. front ++ rest) (next n) ∙ sym (append_assoc front (nothings n) (None ∷ [])))

-- the datagrams, with so much silence noted before one of them
abbrev pub noted : List Posted → ℕ → ℕ → Posted → List Posted
noted list n silent d = slice_set list n (record (slice_index_or list n d) { silent = silent; is_aside = false })

waiting_none : (list : List Posted) (n : ℕ) → n ≡ length list → map datagram_of (drop n list) ≡ []
waiting_none [] zero e = refl
waiting_none [] (suc n) e = refl
waiting_none (posted ∷ list) zero e = absurd (omega (arith, e))
waiting_none (posted ∷ list) (suc n) e = waiting_none list n (omega (arith, e))

waiting_some : (list : List Posted) (n silent : ℕ) (d : Posted) → n < length list
    → map datagram_of (drop n list) ≡ (slice_index_or list n d).datagram ∷ map datagram_of (drop (suc n) (noted list n silent d))
waiting_some [] n silent d h = absurd (omega (arith, h))
waiting_some (posted ∷ list) zero silent d h = refl
waiting_some (posted ∷ list) (suc n) silent d h = waiting_some list n silent d (omega (arith, h))

heard_some : (list : List Posted) (n silent : ℕ) (d : Posted) → n < length list
    → heard_by (take (suc n) (noted list n silent d)) ≡ heard_by (take n list) ++ nothings silent ++ Some (slice_index_or list n d).datagram ∷ []
heard_some [] n silent d h = absurd (omega (arith, h))
heard_some (posted ∷ list) zero silent d h = append-nil (nothings silent ++ Some posted.datagram ∷ [])
heard_some (posted ∷ list) (suc n) silent d h =
    let front = nothings posted.silent ++ heard_one posted.is_aside posted.datagram in
    let middle = heard_by (take n list) in
    let last = Some (slice_index_or list n d).datagram ∷ [] in
    ap (λ rest. front ++ rest) (heard_some list n silent d (omega (arith, h)))
    ∙ sym (append_assoc front (middle ++ nothings silent) last)
    ∙ ap (λ rest. rest ++ last) (sym (append_assoc front middle (nothings silent)))

aside_some : (list : List Posted) (n silent : ℕ) (d : Posted) → n < length list
    → aside_by (take (suc n) (noted list n silent d)) ≡ aside_by (take n list)
aside_some [] n silent d h = absurd (omega (arith, h))
aside_some (posted ∷ list) zero silent d h = refl
aside_some (posted ∷ list) (suc n) silent d h = ap (λ rest. aside_one posted.is_aside posted.datagram ++ rest) (aside_some list n silent d (omega (arith, h)))

held_some : (none : List ℕ) (list : List Posted) (n silent : ℕ) (d : Posted) → n < length list
    → last_bytes none (take (suc n) (noted list n silent d)) ≡ (slice_index_or list n d).datagram.bytes
held_some none [] n silent d h = absurd (omega (arith, h))
held_some none (posted ∷ list) zero silent d h = refl
held_some none (posted ∷ list) (suc n) silent d h = held_some posted.datagram.bytes list n silent d (omega (arith, h))

held_at : (none : List ℕ) (list : List Posted) (n : ℕ) (d : Posted) → n < length list
    → last_bytes none (take (suc n) list) ≡ (slice_index_or list n d).datagram.bytes
held_at none [] n d h = absurd (omega (arith, h))
held_at none (posted ∷ list) zero d h = refl
held_at none (posted ∷ list) (suc n) d h = held_at posted.datagram.bytes list n d (omega (arith, h))

pub held_is : (list : List Posted) (taken place : ℕ) (d : Posted) → taken ≤ length list → place + 1 ≡ taken
    → (slice_index_or list place d).datagram.bytes ≡ last_bytes [] (take taken list)
held_is list taken place d h e =
    let e' : taken ≡ suc place = omega (arith, e) in
    rw e' (sym (held_at [] list place d (omega (arith, h, e))))

pub first_none : (list : List Posted) (n : ℕ) → n ≡ length list → None ≡ first_from (map datagram_of (drop n list))
first_none list n e = rw (waiting_none list n e) refl

pub first_some : (list : List Posted) (n : ℕ) (d : Posted) → n < length list → Some (slice_index_or list n d).datagram.from ≡ first_from (map datagram_of (drop n list))
first_some list n d h = rw (waiting_some list n 0 d h) refl

-- what is heard next can be written
pub writable_next : (list : List Posted) (n silent : ℕ) (d : Posted) (from : Addr) → n < length list → from ≡ (slice_index_or list n d).datagram.from
    → IsWritable from (last_bytes [] (take (n + 1) (noted list n silent d)))
writable_next list n silent d from h e =
    let e' : n + 1 ≡ suc n = omega arith in
    rw (e, e', held_some [] list n silent d h) ((slice_index_or list n d).writable)

nothing_heard : (waiting : List HeardDatagram) (link : MemoryState) → waiting ≡ [] → hearing waiting link ≡ record link { heard = link.heard ++ None ∷ []; fresh = false }
nothing_heard waiting link e = rw e refl

first_heard : (waiting rest : List HeardDatagram) (datagram : HeardDatagram) (link : MemoryState) → waiting ≡ datagram ∷ rest
    → hearing waiting link ≡ record link { waiting = rest; heard = link.heard ++ Some datagram ∷ []; fresh = true; held = datagram.bytes }
first_heard waiting rest datagram link e = rw e refl

-- a link that hears nothing
pub hears_none : (list : List Posted) (n silent : ℕ) (link : MemoryState) → n ≡ length list
    → link.heard ≡ heard_by (take n list) ++ nothings silent
    → hearing (map datagram_of (drop n list)) link ≡ record link { heard = heard_by (take n list) ++ nothings (silent + 1); fresh = false }
hears_none list n silent link e h =
    nothing_heard (map datagram_of (drop n list)) link (waiting_none list n e)
    ∙ ap (λ told. record link { heard = told; fresh = false }) (ap (λ told. told ++ None ∷ []) h ∙ sym (nothings_next (heard_by (take n list)) silent))

-- a link that hears the next datagram
pub hears_some : (list : List Posted) (n silent : ℕ) (d : Posted) (link : MemoryState) → n < length list
    → link.heard ≡ heard_by (take n list) ++ nothings silent → link.aside ≡ aside_by (take n list)
    → hearing (map datagram_of (drop n list)) link ≡ record link {
      waiting = map datagram_of (drop (n + 1) (noted list n silent d));
      heard = heard_by (take (n + 1) (noted list n silent d)) ++ [];
      fresh = true;
      aside = aside_by (take (n + 1) (noted list n silent d));
      held = last_bytes [] (take (n + 1) (noted list n silent d));
    }
hears_some list n silent d link l h a =
    let e : n + 1 ≡ suc n = omega arith in
    let told : link.heard ++ Some (slice_index_or list n d).datagram ∷ [] ≡ heard_by (take (suc n) (noted list n silent d)) ++ [] =
    ap (λ told. told ++ Some (slice_index_or list n d).datagram ∷ []) h ∙ sym (heard_some list n silent d l)
    ∙ sym (append-nil (heard_by (take (suc n) (noted list n silent d))))
    in
    let held : (slice_index_or list n d).datagram.bytes ≡ last_bytes [] (take (suc n) (noted list n silent d)) = sym (held_some [] list n silent d l) in
    let aside : link.aside ≡ aside_by (take (suc n) (noted list n silent d)) = a ∙ sym (aside_some list n silent d l) in
    let rest = map datagram_of (drop (suc n) (noted list n silent d)) in
    rw e (
    first_heard (map datagram_of (drop n list)) rest (slice_index_or list n d).datagram link (waiting_some list n silent d l)
    ∙ ap (λ told. record link { waiting = rest; heard = told; fresh = true; held = (slice_index_or list n d).datagram.bytes }) told
    ∙ ap (λ aside. record link {
      waiting = rest;
      heard = heard_by (take (suc n) (noted list n silent d)) ++ [];
      fresh = true;
      aside = aside;
      held = (slice_index_or list n d).datagram.bytes;
    }) aside
    ∙ ap (λ held. record link {
      waiting = rest;
      heard = heard_by (take (suc n) (noted list n silent d)) ++ [];
      fresh = true;
      aside = aside_by (take (suc n) (noted list n silent d));
      held = held;
    }) held
    )
