-- How the links of the rows last.
use Rattle.std.proofs.Common.{◌≡◌, ◌≢◌, ℕ, zero, suc, ◌+◌, ◌-◌, ◌%◌, ◌<◌, ◌≤◌, List, [], ◌∷◌, ◌++◌, length, map, drop, get_or, set, Some, None, refl, sym, ap, subst, ◌∙◌}
use Rattle.std.proofs.Common.{arith, inl, inr}
use Rattle.std.specs.Prelude.{position, slice_set, slice_get}
use Rattle.std.proofs.lemmas.Bool.{cases_lt, cases_eq}
use Rattle.std.proofs.lemmas.List.{get_or_append_left, get_or_push, get_or-set_same, get_or-set_other, length-set, length-map, length_push, drop-map, map-set, map_push}
use Rattle.std.specs.Option.{option_map}
use Rattle.std.proofs.lemmas.Option.{slice_get-map}
use Rattle.sip_digest.specs.declared.nonces.Nonce.{Nonce}
use Rattle.sip_digest.specs.declared.nonces.NonceRow.{NonceRow}
use Rattle.sip_digest.specs.Nonces.{keep_last, is_this, counted}
use Rattle.sip_digest.specs.Rows.{bucket_of, nonces_in, buckets_of, gaps_in, passed_since, IsNewest, AreLinked, AreKept}
use Rattle.sip_digest.proofs.Counting.{with_count, counted_at, is_there}

-- ---- the newest of a bucket

-- what comes behind the end doesn't matter
newest_in_front : (b : ℕ) (bs : List ℕ) (x end front : ℕ) → end ≤ length bs → IsNewest b bs end front → IsNewest b (bs ++ x ∷ []) end front
newest_in_front b bs x end front le n = record {
  within = n.within;
  none_behind = λ j ge lt e. n.none_behind j ge lt (sym (get_or_append_left bs (x ∷ []) 0 j (omega arith)) ∙ e);
  stands = λ j lt e.
      get_or_append_left bs (x ∷ []) 0 (front - 1) (omega (arith, n.within)) ∙ n.stands j lt (sym (get_or_append_left bs (x ∷ []) 0 j (omega (arith, n.within))) ∙ e);
}

-- no row of the bucket is among these, if it has none and the row that comes is of another
none_then : (b : ℕ) (bs : List ℕ) (x front : ℕ) → x ≢ b → IsNewest b bs (length bs) front → (j : ℕ) → front ≤ j → j < length bs + 1 → get_or (bs ++ x ∷ []) j 0 ≢ b
none_then b bs x front other n j ge lt e = elim (cases_lt j (length bs)) [
  | inl below ↦ n.none_behind j ge below (sym (get_or_append_left bs (x ∷ []) 0 j below) ∙ e)
  | inr top ↦ (let at : length bs ≡ j = omega arith in other (sym (get_or_push bs x 0 j at) ∙ e))
]

-- a row of another bucket comes
newest_past : (b : ℕ) (bs : List ℕ) (x front : ℕ) → x ≢ b → IsNewest b bs (length bs) front → IsNewest b (bs ++ x ∷ []) (length bs + 1) front
newest_past b bs x front other n =
    let still = newest_in_front b bs x (length bs) front (omega arith) n in
    record {
      within = omega (arith, n.within);
      none_behind = none_then b bs x front other n;
      stands = still.stands;
    }

-- a row of another bucket comes where there is none of this one
newest_anew : (b : ℕ) (bs : List ℕ) (x : ℕ) → x ≢ b → IsNewest b bs (length bs) 0 → IsNewest b (bs ++ x ∷ []) (length bs + 1) (length bs + 1)
newest_anew b bs x other n = record {
  within = omega arith;
  none_behind = λ j ge lt e. absurd (omega arith);
  stands = λ j lt e. absurd (none_then b bs x 0 other n j (omega arith) lt e);
}

-- a row of this bucket comes
newest_comes : (b : ℕ) (bs : List ℕ) → IsNewest b (bs ++ b ∷ []) (length bs + 1) (length bs + 1)
newest_comes b bs = record {
  within = omega arith;
  none_behind = λ j ge lt e. absurd (omega arith);
  stands = λ j lt e. get_or_push bs b 0 (length bs + 1 - 1) (omega arith);
}

-- the oldest row goes
newest_left : (b x : ℕ) (bs : List ℕ) (end front left : ℕ) → left ≡ front - 1 → IsNewest b (x ∷ bs) (suc end) front → IsNewest b bs end left
newest_left b x bs end front left is n = record {
  within = omega (arith, n.within);
  none_behind = λ j ge lt e. n.none_behind (suc j) (omega arith) (omega arith) e;
  stands = λ j lt e.
      let at : front - 1 ≡ suc (left - 1) = omega arith in
      ap (λ (k : ℕ). get_or (x ∷ bs) k 0) (sym at) ∙ n.stands (suc j) (omega arith) e;
}

-- ---- links

linked_left : (x g : ℕ) (bs gs : List ℕ) → AreLinked (x ∷ bs) (g ∷ gs) → AreLinked bs gs
linked_left x g bs gs links i lt = newest_left (get_or bs i 0) x bs i (suc i - get_or gs i 0) (i - get_or gs i 0) (omega arith) (links (suc i) (omega arith))

linked_then : (x g : ℕ) (bs gs : List ℕ) → length gs ≡ length bs → IsNewest x bs (length bs) (length bs - g) → AreLinked bs gs → AreLinked (bs ++ x ∷ []) (gs ++ g ∷ [])
linked_then x g bs gs sized new links i lt = elim (cases_lt i (length bs)) [
  | inl below ↦ old below
  | inr top ↦ last (omega (arith, length_push bs x))
] where
  old : i < length bs → IsNewest (get_or (bs ++ x ∷ []) i 0) (bs ++ x ∷ []) i (i - get_or (gs ++ g ∷ []) i 0)
  old below =
      let e = get_or_append_left bs (x ∷ []) 0 i below in
      let f = get_or_append_left gs (g ∷ []) 0 i (omega arith) in
      subst (λ (b : ℕ). IsNewest b (bs ++ x ∷ []) i (i - get_or (gs ++ g ∷ []) i 0)) (sym e)
      (subst (λ (k : ℕ). IsNewest (get_or bs i 0) (bs ++ x ∷ []) i (i - k)) (sym f) (newest_in_front (get_or bs i 0) bs x i (i - get_or gs i 0) (omega arith)
      (links i below)))

  last : length bs ≡ i → IsNewest (get_or (bs ++ x ∷ []) i 0) (bs ++ x ∷ []) i (i - get_or (gs ++ g ∷ []) i 0)
  last at =
      let e = get_or_push bs x 0 i at in
      let f = get_or_push gs g 0 i (sized ∙ at) in
      subst (λ (b : ℕ). IsNewest b (bs ++ x ∷ []) i (i - get_or (gs ++ g ∷ []) i 0)) (sym e)
      (subst (λ (k : ℕ). IsNewest x (bs ++ x ∷ []) i (i - k)) (sym f)
      (subst (λ (n : ℕ). IsNewest x (bs ++ x ∷ []) n (n - g)) at (newest_in_front x bs x (length bs) (length bs - g) (omega arith) new)))

-- ---- rows

-- at first there is none
pub kept_none : (turn : ℕ) (marks : List ℕ) → length marks ≡ 4096 → AreKept [] [] turn marks
kept_none turn marks sized = record {
  few = omega arith;
  gapped = refl;
  linked = λ i lt. absurd (omega arith);
  marked = λ b lt. record { within = omega arith; none_behind = λ j ge below e. absurd (omega arith); stands = λ j below e. absurd (omega arith) };
  sized = sized;
}

kept_left : (x g : ℕ) (bs gs : List ℕ) (turn : ℕ) (marks : List ℕ) → AreKept (x ∷ bs) (g ∷ gs) turn marks → AreKept bs gs turn marks
kept_left x g bs gs turn marks k = record {
  few = omega (arith, k.few);
  gapped = omega (arith, k.gapped);
  linked = linked_left x g bs gs k.linked;
  marked = λ b lt. newest_left b x bs (length bs) (suc (length bs) - passed_since (get_or marks b 0) turn) (length bs - passed_since (get_or marks b 0) turn)
      (omega arith) (k.marked b lt);
  sized = k.sized;
}

-- a mark that was made in this turn
passed_none : (turn : ℕ) → passed_since ((turn + 1) % 65536) ((turn + 1) % 65536) ≡ 0
passed_none turn = omega arith

-- a turn more
passed_more : (mark turn : ℕ) → passed_since mark ((turn + 1) % 65536) ≡ (passed_since mark turn + 1) % 65536
passed_more mark turn = turns (65536 - mark) where
  turns : (k : ℕ) → ((turn + 1) % 65536 + k) % 65536 ≡ ((turn + k) % 65536 + 1) % 65536
  turns k = omega arith

abbrev next_turn : ℕ → ℕ
next_turn turn = (turn + 1) % 65536

marked_then : (x : ℕ) (bs : List ℕ) (turn : ℕ) (marks : List ℕ) (b : ℕ) → length bs < 4096 → x < 4096 → length marks ≡ 4096 → b < 4096
    → IsNewest b bs (length bs) (length bs - passed_since (get_or marks b 0) turn)
    → IsNewest b (bs ++ x ∷ []) (length bs + 1) (length bs + 1 - passed_since (get_or (set marks x (next_turn turn)) b 0) (next_turn turn))
marked_then x bs turn marks b few low sized lt n = elim (cases_eq x b) [
  | inl same ↦ here same
  | inr other ↦ elsewhere other
] where
  here : x ≡ b → IsNewest b (bs ++ x ∷ []) (length bs + 1) (length bs + 1 - passed_since (get_or (set marks x (next_turn turn)) b 0) (next_turn turn))
  here same =
      let mark : get_or (set marks x (next_turn turn)) b 0 ≡ next_turn turn = subst (λ (y : ℕ). get_or (set marks x (next_turn turn)) y 0 ≡ next_turn turn) same
      (get_or-set_same marks x (next_turn turn) 0 (omega arith)) in
      let none : passed_since (get_or (set marks x (next_turn turn)) b 0) (next_turn turn) ≡ 0 = ap (λ (m : ℕ). passed_since m (next_turn turn)) mark ∙ passed_none turn
      in
      let front : length bs + 1 ≡ length bs + 1 - passed_since (get_or (set marks x (next_turn turn)) b 0) (next_turn turn) = omega arith in
      subst (λ (f : ℕ). IsNewest b (bs ++ x ∷ []) (length bs + 1) f) front
      (subst (λ (y : ℕ). IsNewest b (bs ++ y ∷ []) (length bs + 1) (length bs + 1)) (sym same) (newest_comes b bs))

  by_turn : (p q : ℕ) → x ≢ b → q ≡ (p + 1) % 65536 → p < 65536 → IsNewest b bs (length bs) (length bs - p)
      → IsNewest b (bs ++ x ∷ []) (length bs + 1) (length bs + 1 - q)
  by_turn p q other is small m = elim (cases_lt p 65535) [
    | inl below ↦ (let e : length bs - p ≡ length bs + 1 - q = omega arith in subst (λ (f : ℕ). IsNewest b (bs ++ x ∷ []) (length bs + 1) f) e
        (newest_past b bs x (length bs - p) other m))
    | inr top ↦ (let e : length bs + 1 ≡ length bs + 1 - q = omega arith in
        let none : length bs - p ≡ 0 = omega arith in
        subst (λ (f : ℕ). IsNewest b (bs ++ x ∷ []) (length bs + 1) f) e (newest_anew b bs x other (subst (λ (f : ℕ). IsNewest b bs (length bs) f) none m)))
  ]

  elsewhere : x ≢ b → IsNewest b (bs ++ x ∷ []) (length bs + 1) (length bs + 1 - passed_since (get_or (set marks x (next_turn turn)) b 0) (next_turn turn))
  elsewhere other =
      let mark : get_or (set marks x (next_turn turn)) b 0 ≡ get_or marks b 0 = get_or-set_other marks x b (next_turn turn) 0 (λ e. other (sym e)) in
      by_turn (passed_since (get_or marks b 0) turn) _ other (ap (λ (m : ℕ). passed_since m (next_turn turn)) mark ∙ passed_more (get_or marks b 0) turn) (omega arith) n

-- a row comes, and there is room
kept_then : (x g : ℕ) (bs gs : List ℕ) (turn : ℕ) (marks : List ℕ) → length bs < 4096 → x < 4096 → g ≡ passed_since (get_or marks x 0) turn → AreKept bs gs turn marks
    → AreKept (bs ++ x ∷ []) (gs ++ g ∷ []) (next_turn turn) (set marks x (next_turn turn))
kept_then x g bs gs turn marks room low is k = record {
  few = omega (arith, length_push bs x);
  gapped = omega (arith, length_push bs x, length_push gs g, k.gapped);
  linked = linked_then x g bs gs k.gapped (subst (λ (p : ℕ). IsNewest x bs (length bs) (length bs - p)) (sym is) (k.marked x low)) k.linked;
  marked = λ b lt.
      subst (λ (n : ℕ). IsNewest b (bs ++ x ∷ []) n (n - passed_since (get_or (set marks x (next_turn turn)) b 0) (next_turn turn))) (sym (length_push bs x))
      (marked_then x bs turn marks b room low k.sized lt (k.marked b lt));
  sized = length-set marks x (next_turn turn) ∙ k.sized;
}

roomy : {X : Type 0} (xs : List X) (x : X) → length xs < 4096 → xs ++ x ∷ [] ≡ keep_last 4096 (xs ++ x ∷ [])
roomy xs x lt = ap (λ (n : ℕ). drop n (xs ++ x ∷ [])) (let e : 0 ≡ length (xs ++ x ∷ []) - 4096 = omega (arith, length_push xs x) in e)

full : {X : Type 0} (y : X) (ys : List X) (x : X) → suc (length ys) ≡ 4096 → ys ++ x ∷ [] ≡ keep_last 4096 (y ∷ (ys ++ x ∷ []))
full y ys x e = ap (λ (n : ℕ). drop n (y ∷ (ys ++ x ∷ []))) (let e : 1 ≡ suc (length (ys ++ x ∷ [])) - 4096 = omega (arith, length_push ys x) in e)

-- a row comes, and the oldest of 4,096 goes
kept_on : (x g : ℕ) (bs gs : List ℕ) (turn : ℕ) (marks : List ℕ) → x < 4096 → g ≡ passed_since (get_or marks x 0) turn → AreKept bs gs turn marks
    → AreKept (keep_last 4096 (bs ++ x ∷ [])) (keep_last 4096 (gs ++ g ∷ [])) (next_turn turn) (set marks x (next_turn turn))
kept_on x g bs gs turn marks low is k = elim (cases_lt (length bs) 4096) [
  | inl room ↦ (let r : length gs < 4096 = omega (arith, k.gapped) in
      subst (λ (cs : List ℕ). AreKept cs (keep_last 4096 (gs ++ g ∷ [])) (next_turn turn) (set marks x (next_turn turn))) (roomy bs x room)
      (subst (λ (hs : List ℕ). AreKept (bs ++ x ∷ []) hs (next_turn turn) (set marks x (next_turn turn))) (roomy gs g r) (kept_then x g bs gs turn marks room low is k)))
  | inr top ↦ at_full bs gs (omega (arith, k.few)) k
] where
  at_full : (bs gs : List ℕ) → length bs ≡ 4096 → AreKept bs gs turn marks
      → AreKept (keep_last 4096 (bs ++ x ∷ [])) (keep_last 4096 (gs ++ g ∷ [])) (next_turn turn) (set marks x (next_turn turn))
  at_full [] gs e k = absurd (omega arith)
  at_full (b ∷ bs) [] e k = absurd (omega (arith, k.gapped))
  at_full (b ∷ bs) (h ∷ gs) e k =
      subst (λ (cs : List ℕ). AreKept cs (keep_last 4096 (h ∷ (gs ++ g ∷ []))) (next_turn turn) (set marks x (next_turn turn))) (full b bs x e)
      (subst (λ (hs : List ℕ). AreKept (bs ++ x ∷ []) hs (next_turn turn) (set marks x (next_turn turn))) (full h gs g (omega (arith, k.gapped)))
      (kept_then x g bs gs turn marks (omega arith) low is (kept_left b h bs gs turn marks k)))

-- what is kept of things is what is kept of their images
map_kept : {X Y : Type 0} (f : X → Y) (xs : List X) (x : X) → map f (keep_last 4096 (xs ++ x ∷ [])) ≡ keep_last 4096 (map f xs ++ f x ∷ [])
map_kept {X = X} {Y = Y} f xs x =
    sym (drop-map f (length (xs ++ x ∷ []) - 4096) (xs ++ x ∷ []))
    ∙ ap (λ (n : ℕ). drop (n - 4096) (map f (xs ++ x ∷ []))) (sym (length-map (xs ++ x ∷ []) f))
    ∙ ap (λ (ys : List Y). keep_last 4096 ys) (map_push f xs x)

nonces_kept : (rows : List NonceRow) (row : NonceRow) → nonces_in (keep_last 4096 (rows ++ row ∷ [])) ≡ keep_last 4096 (nonces_in rows ++ row.nonce ∷ [])
nonces_kept rows row = map_kept (λ r. r.nonce) rows row

-- a row comes into a state
rows_kept : (rows : List NonceRow) (row : NonceRow) (turn : ℕ) (marks : List ℕ) → row.gap ≡ passed_since (get_or marks (bucket_of row.nonce.word) 0) turn
    → AreKept (buckets_of (nonces_in rows)) (gaps_in rows) turn marks
    → AreKept (buckets_of (nonces_in (keep_last 4096 (rows ++ row ∷ [])))) (gaps_in (keep_last 4096 (rows ++ row ∷ []))) ((turn + 1) % 65536)
    (slice_set marks (bucket_of row.nonce.word) ((turn + 1) % 65536))
rows_kept rows row turn marks is k =
    let after : ℕ = (turn + 1) % 65536 in
    let bucket : ℕ = bucket_of row.nonce.word in
    let e : buckets_of (nonces_in (keep_last 4096 (rows ++ row ∷ []))) ≡ keep_last 4096 (buckets_of (nonces_in rows) ++ bucket ∷ []) =
    ap buckets_of (nonces_kept rows row) ∙ map_kept (λ (n : Nonce). bucket_of n.word) (nonces_in rows) row.nonce in
    let f : gaps_in (keep_last 4096 (rows ++ row ∷ [])) ≡ keep_last 4096 (gaps_in rows ++ row.gap ∷ []) = map_kept (λ (r : NonceRow). r.gap) rows row in
    subst (λ (bs : List ℕ). AreKept bs (gaps_in (keep_last 4096 (rows ++ row ∷ []))) after (set marks bucket after)) (sym e)
    (subst (λ (gs : List ℕ). AreKept (keep_last 4096 (buckets_of (nonces_in rows) ++ bucket ∷ [])) gs after (set marks bucket after)) (sym f)
    (kept_on bucket row.gap (buckets_of (nonces_in rows)) (gaps_in rows) turn marks (omega arith) is k))

-- the same of a row that is put behind the others
pub kept_behind : (before after : List NonceRow) (row : NonceRow) (bucket turn : ℕ) (marks : List ℕ) → after ≡ keep_last 4096 (before ++ row ∷ [])
    → bucket ≡ bucket_of row.nonce.word → row.gap ≡ passed_since (get_or marks bucket 0) turn → AreKept (buckets_of (nonces_in before)) (gaps_in before) turn marks
    → AreKept (buckets_of (nonces_in after)) (gaps_in after) ((turn + 1) % 65536) (slice_set marks bucket ((turn + 1) % 65536))
kept_behind before after row bucket turn marks e b is k =
    subst (λ (rows : List NonceRow). AreKept (buckets_of (nonces_in rows)) (gaps_in rows) ((turn + 1) % 65536) (slice_set marks bucket ((turn + 1) % 65536))) (sym e)
    (subst (λ (m : ℕ). AreKept (buckets_of (nonces_in (keep_last 4096 (before ++ row ∷ [])))) (gaps_in (keep_last 4096 (before ++ row ∷ []))) ((turn + 1) % 65536)
    (slice_set marks m ((turn + 1) % 65536))) (sym b)
    (rows_kept before row turn marks (is ∙ ap (λ (m : ℕ). passed_since (get_or marks m 0) turn) b) k))

pub nonces_behind : (before after : List NonceRow) (row : NonceRow) (was : List Nonce) → after ≡ keep_last 4096 (before ++ row ∷ []) → nonces_in before ≡ was
    → nonces_in after ≡ keep_last 4096 (was ++ row.nonce ∷ [])
nonces_behind before after row was e is =
    ap nonces_in e ∙ nonces_kept before row ∙ ap (λ (ns : List Nonce). keep_last 4096 (ns ++ row.nonce ∷ [])) is

-- ---- a count is written

unchanged : {X Y : Type 0} (f : X → Y) (xs : List X) (i : ℕ) (x y : X) → slice_get xs i ≡ Some x → f y ≡ f x → map f (set xs i y) ≡ map f xs
unchanged f [] i x y got e = refl
unchanged {X = X} {Y = Y} f (z ∷ zs) zero x y got e =
    let same : z ≡ x = cc in ap (λ (v : Y). v ∷ map f zs) (e ∙ ap f (sym same))
unchanged {X = X} {Y = Y} f (z ∷ zs) (suc i) x y got e = ap (λ (ys : List Y). f z ∷ ys) (unchanged f zs i x y got e)

abbrev pub row_with : NonceRow → ℕ → NonceRow
row_with row count = record { nonce = with_count row.nonce count; gap = row.gap }

pub nonce_at : (rows : List NonceRow) (i : ℕ) (row : NonceRow) → slice_get rows i ≡ Some row → slice_get (nonces_in rows) i ≡ Some row.nonce
nonce_at rows i row got = slice_get-map (λ (r : NonceRow). r.nonce) rows i ∙ ap (option_map (λ (r : NonceRow). r.nonce)) got

nonces_with : (rows : List NonceRow) (i count : ℕ) (row : NonceRow) → nonces_in (set rows i (row_with row count)) ≡ set (nonces_in rows) i (with_count row.nonce count)
nonces_with rows i count row = map-set (λ (r : NonceRow). r.nonce) rows i (row_with row count)

pub kept_with : (rows : List NonceRow) (turn : ℕ) (marks : List ℕ) (i count : ℕ) (row : NonceRow) → slice_get rows i ≡ Some row
    → AreKept (buckets_of (nonces_in rows)) (gaps_in rows) turn marks
    → AreKept (buckets_of (nonces_in (slice_set rows i (row_with row count)))) (gaps_in (slice_set rows i (row_with row count))) turn marks
kept_with rows turn marks i count row got k =
    let e : buckets_of (nonces_in (set rows i (row_with row count))) ≡ buckets_of (nonces_in rows) =
    ap buckets_of (nonces_with rows i count row) ∙ unchanged (λ (n : Nonce). bucket_of n.word) (nonces_in rows) i row.nonce (with_count row.nonce count)
    (nonce_at rows i row got) refl in
    let f : gaps_in (set rows i (row_with row count)) ≡ gaps_in rows = unchanged (λ (r : NonceRow). r.gap) rows i row (row_with row count) got refl in
    subst (λ (bs : List ℕ). AreKept bs (gaps_in (set rows i (row_with row count))) turn marks) (sym e)
    (subst (λ (gs : List ℕ). AreKept (buckets_of (nonces_in rows)) gs turn marks) (sym f) k)

pub counted_with : (rows : List NonceRow) (nonces : List Nonce) (word now count i : ℕ) (row : NonceRow) → nonces_in rows ≡ nonces
    → position (is_this word now) nonces ≡ Some i
    → slice_get rows i ≡ Some row → nonces_in (slice_set rows i (row_with row count)) ≡ counted word count nonces now
counted_with rows nonces word now count i row is found got =
    nonces_with rows i count row
    ∙ counted_at word now count (nonces_in rows) i row.nonce (ap (position (is_this word now)) is ∙ found) (nonce_at rows i row got)
    ∙ ap (λ (ns : List Nonce). counted word count ns now) is

-- a place that was found has a row
pub found_row : (rows : List NonceRow) (nonces : List Nonce) (word now i : ℕ) → nonces_in rows ≡ nonces → position (is_this word now) nonces ≡ Some i
    → slice_get rows i ≡ None
    → ⊥
found_row rows nonces word now i is found none =
    is_there word now (nonces_in rows) i (ap (position (is_this word now)) is ∙ found)
    (slice_get-map (λ (r : NonceRow). r.nonce) rows i ∙ ap (option_map (λ (r : NonceRow). r.nonce)) none)
