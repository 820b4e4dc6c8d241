-- The first LF of some bytes, and lines read in parts.
use Rattle.std.proofs.Common.{◌≡◌, ℕ, zero, suc, ◌+◌, ◌-◌, ◌<◌, ◌≤◌, List, ◌∷◌, ◌++◌, length, take, drop, get_or, Bool, true, false, Option, None, Some, MatchOption}
use Rattle.std.proofs.Common.{refl, sym, ◌∙◌, ap, subst, arith, append-nil, append_assoc, length-append, [], add-one, take-append-drop, slice_range, inl, inr, ⊎_elim}
use Rattle.std.specs.Prelude.{count_by, cond, ◌≢◌, IfSome, IfErr, Result, Ok, Err}
use Rattle.std.specs.Io.KnownBytes.{Consumes, Keeps, IsAtEnd}
use Rattle.std.proofs.lemmas.Bool.{cases_Bool, cases_lt, cond-true, cond-false, false≢true}
use Rattle.std.proofs.lemmas.Bool.Decides.{nat_tests}
use Rattle.std.proofs.lemmas.List.{take_all, drop-take, drop-drop, length-take, take-append-le}
use Rattle.std.proofs.lemmas.List.Sums.{count_by_more_no, sum_by-append, sum_by-take-le}
use Rattle.std.proofs.Math.Seq.{drop-cons}
use Rattle.memchr.specs.Find.{IsFirstByte, NoneBefore, Nowhere, Passes, TakesFirst, is_byte, places, places_from}
use Rattle.sip_replay_script.specs.Lines.{Reading, is_end, pending, EndsAt, EndsLine, IsLine, IsLong, IsUnfinished, IsTooLong, LineStops, PartStops}
use Rattle.sip_replay_script.specs.declared.read_stop.ReadStop.{ReadStop}
use Rattle.sip_replay_script.specs.declared.read_stop.ReadStop.TheVariants as stops

not_true : (b : Bool) → (b ≡ true → ⊥) → b ≡ false
not_true true h = absurd (h refl)
not_true false h = refl

-- none of the first bytes is LF
none_before : (text : List ℕ) (i : ℕ) → i ≤ length text → ((k : ℕ) → k < i → is_end (get_or text k 0) ≡ false) → count_by is_end (take i text) ≡ 0
none_before text zero le h = refl
none_before text (suc i) le h =
    let lt : i < length text = omega arith in
    let rest : count_by is_end (take i text) ≡ 0 = none_before text i (omega arith) (λ k b. h k (omega arith)) in
    let more : count_by is_end (take (i + 1) text) ≡ count_by is_end (take i text) = count_by_more_no is_end text i 0 lt (h i (omega arith)) in
    let same : suc i ≡ i + 1 = omega arith in
    ap (λ n. count_by is_end (take n text)) same ∙ more ∙ rest

pub ends_at : (text : List ℕ) (place : ℕ) → place < length text → ((k : ℕ) → k < place → is_end (get_or text k 0) ≡ false) → get_or text place 0 ≡ 10 → EndsAt text place
ends_at text place lt before is = record {
  inside = lt;
  single = none_before text place (omega arith) before;
  cut = sym (take-append-drop place text) ∙ ap (λ l. take place text ++ l) (drop-cons text place 0 lt ∙ ap (λ b. b ∷ drop (suc place) text) is
      ∙ ap (λ n. 10 ∷ drop n text) (sym (add-one place)));
}

pub first_end : (text : List ℕ) (place : Option ℕ) → IsFirstByte (is_byte 10) text place → MatchOption place (count_by is_end text ≡ 0) (λ i. EndsAt text i)
first_end text None h =
    subst (λ l. count_by is_end l ≡ 0) (take_all (length text) text (omega arith)) (none_before text (length text) (omega arith)
    (λ k b. not_true (is_end (get_or text k 0)) (h k (omega arith) b)))
first_end text (Some i) h =
    let first = h.0 in
    let is : get_or text i 0 ≡ 10 = grind (arith, nat_tests, h.1) in
    ends_at text i first.high (λ k b. not_true (is_end (get_or text k 0)) (first.before k (omega arith) b)) is

-- ---- the first of a byte as the first of its places

-- what the places from one on tell of the first of them
abbrev HeadIs : ℕ → List ℕ → ℕ → ℕ → List ℕ → Type 0
HeadIs mark text i n [] = Nowhere (Passes (is_byte mark) text) i (i + n)
HeadIs mark text i n (k ∷ ks) = NoneBefore (Passes (is_byte mark) text) i (i + n) k × Passes (is_byte mark) text k

not_here : (mark : ℕ) (text : List ℕ) (i j : ℕ) → ¬ Passes (is_byte mark) text i → Nowhere (Passes (is_byte mark) text) (i + 1) j
    → Nowhere (Passes (is_byte mark) text) i j
not_here mark text i j fails later k low high passes =
    elim (cases_lt i k) [
      | inl over ↦ later k (omega (arith, over)) high passes
      | inr under ↦ let same : k ≡ i = omega (arith, low, under) in fails (subst (Passes (is_byte mark) text) same passes)
    ]

head_further : (mark : ℕ) (text : List ℕ) (i n : ℕ) → ¬ Passes (is_byte mark) text i → (ks : List ℕ) → HeadIs mark text (i + 1) n ks → HeadIs mark text i (suc n) ks
head_further mark text i n fails [] h = not_here mark text i (i + suc n) fails (λ k low high. h k low (omega (arith, high)))
head_further mark text i n fails (k ∷ ks) h =
    let first = h.0 in
    let low : i + 1 ≤ k = first.low in
    let high : k < i + 1 + n = first.high in
    (record { low = omega (arith, low); high = omega (arith, high); before = not_here mark text i k fails first.before }, h.1)

head_is : (mark : ℕ) (text : List ℕ) (i n : ℕ) → HeadIs mark text i n (places_from (is_byte mark) text i n)
unfolding places_from
head_is mark text i zero = λ k low high. absurd (omega (arith, low, high))
head_is mark text i (suc n) =
    let later = places_from (is_byte mark) text (i + 1) n in
    ⊎_elim
    (λ passes. subst (HeadIs mark text i (suc n)) (sym (cond-true _ (i ∷ later) later passes))
    (record { low = omega arith; high = omega arith; before = λ k low high. absurd (omega (arith, low, high)) }, passes))
    (λ fails. subst (HeadIs mark text i (suc n)) (sym (cond-false _ (i ∷ later) later fails))
    (head_further mark text i n (λ passes. absurd (false≢true (sym fails ∙ passes))) later (head_is mark text (i + 1) n)))
    (cases_Bool (is_byte mark (get_or text i 0)))

by_place : (mark : ℕ) (text : List ℕ) (place : Option ℕ) (all rest : List ℕ) → HeadIs mark text 0 (length text) all → TakesFirst all place rest
    → IsFirstByte (is_byte mark) text place
by_place mark text None all rest h takes =
    let whole : 0 + length text ≡ length text = omega arith in
    subst (λ n. Nowhere (Passes (is_byte mark) text) 0 n) whole (subst (HeadIs mark text 0 (length text)) takes.0 h)
by_place mark text (Some k) all rest h takes =
    let whole : 0 + length text ≡ length text = omega arith in
    subst (λ n. NoneBefore (Passes (is_byte mark) text) 0 n k × Passes (is_byte mark) text k) whole (subst (HeadIs mark text 0 (length text)) takes h)

pub first_place : (mark : ℕ) (text : List ℕ) (place : Option ℕ) (rest : List ℕ) → TakesFirst (places (is_byte mark) text) place rest
    → IsFirstByte (is_byte mark) text place
first_place mark text place rest takes =
    let whole : length text - 0 ≡ length text = omega arith in
    by_place mark text place (places (is_byte mark) text) rest (subst (λ n. HeadIs mark text 0 (length text) (places_from (is_byte mark) text 0 n)) (sym whole)
    (head_is mark text 0 (length text))) takes

-- what is left of a part behind its front
pub range_rest : (xs : List ℕ) (start stop n : ℕ) → start + n ≤ stop → slice_range xs (start + n) stop ≡ drop n (slice_range xs start stop)
range_rest xs start stop n le =
    let sizes : n + (stop - (start + n)) ≡ stop - start = omega arith in
    ap (take (stop - (start + n))) (sym (drop-drop n start xs)) ∙ sym (drop-take n (stop - (start + n)) (drop start xs)) ∙ ap (λ m. drop n (take m (drop start xs))) sizes

-- a line is passed that stands in a part
pub range_behind : (xs unread : List ℕ) (start stop count : ℕ) → slice_range xs start stop ≡ unread → start ≤ stop → count < length unread
    → slice_range xs (start + count + 1) stop ≡ drop (count + 1) unread
range_behind xs unread start stop count is le lt =
    let most : length (slice_range xs start stop) ≤ stop - start = omega (arith, length-take (stop - start) (drop start xs)) in
    let same : start + count + 1 ≡ start + (count + 1) = omega arith in
    ap (λ n. slice_range xs n stop) same ∙ range_rest xs start stop (count + 1) (omega (arith, most, ap length is, lt, le)) ∙ ap (drop (count + 1)) is

-- and so many bytes
pub range_further : (xs unread : List ℕ) (start stop count : ℕ) → slice_range xs start stop ≡ unread → start ≤ stop → count ≤ length unread
    → slice_range xs (start + count) stop ≡ drop count unread
range_further xs unread start stop count is le few =
    let most : length (slice_range xs start stop) ≤ stop - start = omega (arith, length-take (stop - start) (drop start xs)) in
    range_rest xs start stop count (omega (arith, most, ap length is, few, le)) ∙ ap (drop count) is

-- a line ends in a part
pub part_ends : (xs ys : List ℕ) (start stop asks number place : ℕ) (before after : List ℕ) → ys ≡ xs → EndsAt (slice_range ys start stop) place
    → after ≡ before ++ take place (slice_range ys start stop)
    → EndsLine (record { unread = slice_range xs start stop; asks = asks; number = number })
    (record { unread = slice_range xs (start + (place + 1)) stop; asks = asks; number = number + 1 }) before after
part_ends xs ys start stop asks number place before after same ends grown =
    let most : length (slice_range ys start stop) ≤ stop - start = omega (arith, length-take (stop - start) (drop start ys)) in
    let inside : place < length (slice_range ys start stop) = ends.inside in
    let rest : slice_range xs (start + (place + 1)) stop ≡ drop (place + 1) (slice_range xs start stop) = range_rest xs start stop (place + 1) (omega arith) in
    let cut : slice_range xs start stop ≡ take place (slice_range ys start stop) ++ 10 ∷ drop (place + 1) (slice_range ys start stop) =
    ap (λ l. slice_range l start stop) (sym same) ∙ ends.cut in
    record {
      part = take place (slice_range ys start stop);
      grown = grown;
      single = ends.single;
      unread = cut ∙ ap (λ l. take place (slice_range ys start stop) ++ 10 ∷ l) (ap (λ l. drop (place + 1) (slice_range l start stop)) same ∙ sym rest);
      number = refl;
      asks = refl;
    }

-- ---- how many LFs there are

pub ends_add : (text more : List ℕ) → count_by is_end (text ++ more) ≡ count_by is_end text + count_by is_end more
ends_add text more = sum_by-append (λ b. cond (is_end b) 1 0) text more

-- a line with its LF has one
pub one_end : (line : List ℕ) → IsLine line → count_by is_end (line ++ 10 ∷ []) ≡ 1
one_end line h = let single : count_by is_end line ≡ 0 = h.single in let sum : count_by is_end (line ++ 10 ∷ []) ≡ count_by is_end line + 1 = ends_add line (10 ∷ []) in
    omega (arith, single, sum)

-- ---- where no line stands

-- none in a front that is long enough
none_in_front : (n : ℕ) (front more : List ℕ) → n ≤ length front → count_by is_end front ≡ 0 → count_by is_end (take n (front ++ more)) ≡ 0
none_in_front n front more le none =
    let least : count_by is_end (take n front) ≤ count_by is_end front = sum_by-take-le (λ b. cond (is_end b) 1 0) front n in
    ap (count_by is_end) (take-append-le n front more le) ∙ omega (arith, least, none)

-- the script ends where a line has begun
pub unended_at_end : (a b c : Option (List ℕ)) (line : List ℕ) → Consumes a b line → Keeps b c → IsAtEnd c → line ≢ [] → IsLine line → IfSome a (IsUnfinished line)
unended_at_end None b c line h k e begun is_line = tt
unended_at_end (Some xs) None c line h k e begun is_line = absurd h
unended_at_end (Some xs) (Some ys) None line h k e begun is_line = absurd k
unended_at_end (Some xs) (Some ys) (Some zs) line h k e begun is_line =
    record { all = h ∙ ap (λ l. line ++ l) (sym k ∙ e) ∙ append-nil line; begun = begun; is_line = is_line }

-- a line is too long
long_front : (xs line part rest : List ℕ) → xs ≡ line ++ (part ++ rest) → count_by is_end line ≡ 0 → count_by is_end part ≡ 0 → 200000 < length line + length part
    → IsLong xs
long_front xs line part rest is none none_more long =
    let front : xs ≡ (line ++ part) ++ rest = is ∙ sym (append_assoc line part rest) in
    let size : length (line ++ part) ≡ length line + length part = length-append line part in
    let total : length ((line ++ part) ++ rest) ≡ length (line ++ part) + length rest = length-append (line ++ part) rest in
    let sum : count_by is_end (line ++ part) ≡ count_by is_end line + count_by is_end part = ends_add line part in
    record {
      long = omega (arith, ap length front, size, total, long);
      unended = ap (λ l. count_by is_end (take 200001 l)) front ∙ none_in_front 200001 (line ++ part) rest (omega (arith, size, long))
          (omega (arith, sum, none, none_more));
    }

pub too_long : (a b : Option (List ℕ)) (r : Reading) (c : Option (List ℕ)) (line : List ℕ) → Consumes a b line → Keeps b (pending r c) → count_by is_end line ≡ 0
    → IsTooLong r.unread line → IfSome a IsLong
too_long None b r c line h k none long = tt
too_long (Some xs) None r c line h k none long = absurd h
too_long (Some xs) (Some ys) r None line h k none long = absurd k
too_long (Some xs) (Some ys) r (Some zs) line h k none long =
    long_front xs line long.part (long.rest ++ zs)
    (h ∙ ap (λ l. line ++ l) (sym k ∙ ap (λ l. l ++ zs) long.cut ∙ append_assoc long.part long.rest zs)) none long.single long.long

-- why no line is given, at the end and where one is too long
pub over_stops : (F : Type 0) (a b c : Option (List ℕ)) (line seen : List ℕ) (r : Result Bool ReadStop) → Consumes a b line → Keeps b c → IsAtEnd c → IsLine line
    → seen ≡ line
    → IfErr r (λ stop. (stop ≡ stops.Cut) × (seen ≢ [])) → IfErr r (LineStops F a line)
over_stops F a b c line seen (Ok more) h k e is_line same s = tt
over_stops F a b c line seen (Err stop) h k e is_line same s =
    subst (λ x. LineStops F a line x) (sym s.0) (unended_at_end a b c line h k e (λ is. s.1 (same ∙ is)) is_line)

pub part_stops_line : (F : Type 0) (a b : Option (List ℕ)) (r : Reading) (c : Option (List ℕ)) (line seen : List ℕ) (stop : ReadStop) → Consumes a b line
    → Keeps b (pending r c) → IsLine line → PartStops r.unread line stop → LineStops F a seen stop
part_stops_line F a b r c line seen stops.NoMemory h k is_line s = tt
part_stops_line F a b r c line seen stops.Damaged h k is_line s = too_long a b r c line h k is_line.single s
part_stops_line F a b r c line seen stops.Cut h k is_line s = absurd s
part_stops_line F a b r c line seen stops.Read h k is_line s = absurd s
