-- Lines that are read in parts.
use Rattle.std.proofs.Common.{◌≡◌, ℕ, zero, suc, ◌+◌, ◌-◌, ◌<◌, ◌≤◌, List, ◌∷◌, ◌++◌, length, take, drop, Bool, true, false, cond, map, Option, None, Some}
use Rattle.std.proofs.Common.{refl, sym, ◌∙◌, ap, subst, arith, append-nil, append_assoc, length-append, [], min}
use Rattle.std.specs.Prelude.{count_by, if◌then◌else◌, ◌==◌}
use Rattle.std.specs.Io.KnownBytes.{prepend_known, Consumes, Keeps, IsAtEnd}
use Rattle.std.proofs.lemmas.List.{take_min, length-take, drop_all}
use Rattle.std.proofs.lemmas.List.Sums.{sum_by-append}
use Rattle.sip_replay_script.specs.Lines.{Reading, is_end, pending, left, EndsAt}
use Rattle.sipd_report.specs.Entries.{lines_of, in_first, fronts_of}
use Rattle.sipd_report.specs.Lines.{EndsLine, GoesOn, GivesFront}

-- ---- parts

-- one byte more
pub some_left : (byte : ℕ) (unread : List ℕ) → (rest : List ℕ) × (unread ≡ byte ∷ rest) → 1 ≤ length unread
some_left byte unread more = subst (λ (l : List ℕ). 1 ≤ length l) (sym more.1) (omega arith)

-- a line ends in a part
pub part_ends : (r s : Reading) (ys before after : List ℕ) (place : ℕ) → ys ≡ r.unread → EndsAt r.unread place → after ≡ take 200001 (before ++ take place ys)
    → s.unread ≡ drop (place + 1) r.unread → s.asks ≡ r.asks → EndsLine r s before after
part_ends r s ys before after place same ends grown unread asks = record {
  part = take place r.unread;
  grown = grown ∙ ap (λ (l : List ℕ). take 200001 (before ++ take place l)) same;
  single = ends.single;
  unread = ends.cut ∙ ap (λ l. take place r.unread ++ 10 ∷ l) (sym unread);
  asks = asks;
}

-- it goes on behind one
pub part_goes_on : (r s : Reading) (ys before after : List ℕ) → ys ≡ r.unread → count_by is_end r.unread ≡ 0 → after ≡ take 200001 (before ++ ys)
    → s.unread ≡ drop (length ys) r.unread → s.asks ≡ r.asks → GoesOn r s before after
part_goes_on r s ys before after same none grown unread asks = record {
  grown = grown ∙ ap (λ (l : List ℕ). take 200001 (before ++ l)) same;
  single = none;
  unread = unread ∙ ap (λ (l : List ℕ). drop (length l) r.unread) same ∙ drop_all (length r.unread) r.unread (omega arith);
  asks = asks;
}

-- ---- lines

count_cons : (b : ℕ) (bs : List ℕ) → count_by is_end (b ∷ bs) ≡ cond (is_end b) 1 0 + count_by is_end bs
count_cons b bs = sum_by-append (λ c. cond (is_end c) 1 0) (b ∷ []) bs ∙ ap (λ n. n + count_by is_end bs) (from_zero (cond (is_end b) 1 0))
  where
    from_zero : (n : ℕ) → 0 + n ≡ n
    from_zero n = omega arith

-- a line in front of others
pub front_line : (front rest : List ℕ) → count_by is_end front ≡ 0 → lines_of (front ++ 10 ∷ rest) ≡ front ∷ lines_of rest
front_line [] rest none = refl
front_line (b ∷ bs) rest none = by (b == 10) (sym (count_cons b bs) ∙ none) (front_line bs rest)
  where
    by : (is : Bool) → cond is 1 0 + count_by is_end bs ≡ 0 → (count_by is_end bs ≡ 0 → lines_of (bs ++ 10 ∷ rest) ≡ bs ∷ lines_of rest)
        → (if is then [] ∷ lines_of (bs ++ 10 ∷ rest) else in_first b (lines_of (bs ++ 10 ∷ rest))) ≡ (b ∷ bs) ∷ lines_of rest
    by true none more = absurd (omega (arith, none))
    by false none more = ap (in_first b) (more (omega (arith, none)))

-- the last line, without LF
pub last_line : (b : ℕ) (bs : List ℕ) → count_by is_end (b ∷ bs) ≡ 0 → lines_of (b ∷ bs) ≡ (b ∷ bs) ∷ []
last_line b [] none = by (b == 10) (sym (count_cons b []) ∙ none)
  where
    by : (is : Bool) → cond is 1 0 + count_by is_end [] ≡ 0 → (if is then [] ∷ lines_of [] else in_first b (lines_of [])) ≡ (b ∷ []) ∷ []
    by true none = absurd (omega (arith, none))
    by false none = refl
last_line b (c ∷ cs) none = by (b == 10) (sym (count_cons b (c ∷ cs)) ∙ none) (last_line c cs)
  where
    by : (is : Bool) → cond is 1 0 + count_by is_end (c ∷ cs) ≡ 0 → (count_by is_end (c ∷ cs) ≡ 0 → lines_of (c ∷ cs) ≡ (c ∷ cs) ∷ [])
        → (if is then [] ∷ lines_of (c ∷ cs) else in_first b (lines_of (c ∷ cs))) ≡ (b ∷ c ∷ cs) ∷ []
    by true none more = absurd (omega (arith, none))
    by false none more = ap (in_first b) (more (omega (arith, none)))

-- what is kept of a line that grows
take_front : (n : ℕ) (xs ys : List ℕ) → take n (take n xs ++ ys) ≡ take n (xs ++ ys)
take_front zero xs ys = refl
take_front (suc n) [] ys = refl
take_front (suc n) (x ∷ xs) ys = ap (λ l. x ∷ l) (take_front n xs ys)

-- a line was begun: what the input lost of it has no LF, and its front is kept
pub record Gathers (a b : Option (List ℕ)) (line : List ℕ) : Type 0 where
  pub whole : List ℕ
  pub single : count_by is_end whole ≡ 0
  pub consumes : Consumes a b whole
  pub kept : line ≡ take 200001 whole

consumes_nothing : (a : Option (List ℕ)) → Consumes a a []
consumes_nothing None = tt
consumes_nothing (Some xs) = refl

pub gathers_nothing : (a : Option (List ℕ)) (line : List ℕ) → line ≡ [] → Gathers a a line
gathers_nothing a line is = record { whole = []; single = refl; consumes = consumes_nothing a; kept = is }

consumes_keeps : (a b c : Option (List ℕ)) (whole : List ℕ) → Consumes a b whole → Keeps b c → Consumes a c whole
consumes_keeps None b c whole h k = tt
consumes_keeps (Some x) None c whole h k = absurd h
consumes_keeps (Some x) (Some y) None whole h k = absurd k
consumes_keeps (Some x) (Some y) (Some z) whole h k = h ∙ ap (λ l. whole ++ l) (sym k)

pub gathers_kept : (a b c : Option (List ℕ)) (line : List ℕ) → Gathers a b line → Keeps b c → Gathers a c line
gathers_kept a b c line g k = record { whole = g.whole; single = g.single; consumes = consumes_keeps a b c g.whole g.consumes k; kept = g.kept }

-- all that was read went to the line
consumes_more : (a c : Option (List ℕ)) (whole unread rest : List ℕ) → rest ≡ [] → Consumes a (prepend_known unread c) whole
    → Consumes a (prepend_known rest c) (whole ++ unread)
consumes_more None c whole unread rest is h = tt
consumes_more (Some xs) None whole unread rest is h = absurd h
consumes_more (Some xs) (Some zs) whole unread rest is h = h ∙ sym (append_assoc whole unread zs) ∙ ap (λ l. (whole ++ unread) ++ (l ++ zs)) (sym is)

pub gathers_more : (a c : Option (List ℕ)) (r s : Reading) (line more : List ℕ) → Gathers a (pending r c) line → GoesOn r s line more → Gathers a (pending s c) more
gathers_more a c r s line more g goes = record {
  whole = g.whole ++ r.unread;
  single = sum_by-append (λ b. cond (is_end b) 1 0) g.whole r.unread ∙ (let h1 = g.single in let h2 = goes.single in omega (arith, h1, h2));
  consumes = consumes_more a c g.whole r.unread s.unread goes.unread g.consumes;
  kept = goes.grown ∙ ap (λ l. take 200001 (l ++ r.unread)) g.kept ∙ take_front 200001 g.whole r.unread;
}

-- an LF ends it
ends_known : (xs whole part rest zs line : List ℕ) → xs ≡ whole ++ ((part ++ 10 ∷ rest) ++ zs) → count_by is_end whole ≡ 0 → count_by is_end part ≡ 0
    → line ≡ take 200001 (whole ++ part) → fronts_of xs ≡ line ∷ fronts_of (rest ++ zs)
ends_known xs whole part rest zs line is none none_more kept =
    let cut : xs ≡ (whole ++ part) ++ 10 ∷ (rest ++ zs) = is ∙ ap (λ l. whole ++ l) (append_assoc part (10 ∷ rest) zs) ∙ sym (append_assoc whole part (10 ∷ (rest ++ zs)))
    in
    let sum : count_by is_end (whole ++ part) ≡ count_by is_end whole + count_by is_end part = sum_by-append (λ b. cond (is_end b) 1 0) whole part in
    let single : count_by is_end (whole ++ part) ≡ 0 = omega (arith, sum, none, none_more) in
    ap fronts_of cut ∙ ap (map (take 200001)) (front_line (whole ++ part) (rest ++ zs) single) ∙ ap (λ l. l ∷ fronts_of (rest ++ zs)) (sym kept)

gives_by : (a c : Option (List ℕ)) (whole unread part rest line : List ℕ) → Consumes a (prepend_known unread c) whole
    → unread ≡ part ++ 10 ∷ rest
    → count_by is_end whole ≡ 0 → count_by is_end part ≡ 0 → line ≡ take 200001 (whole ++ part) → GivesFront a (prepend_known rest c) line
gives_by None c whole unread part rest line h is none none_more kept = tt
gives_by (Some xs) None whole unread part rest line h is none none_more kept = absurd h
gives_by (Some xs) (Some zs) whole unread part rest line h is none none_more kept = ends_known xs whole part rest zs line (h ∙ ap (λ l. whole ++ (l ++ zs)) is) none
    none_more kept

pub gathers_end : (a c : Option (List ℕ)) (r s : Reading) (line more : List ℕ) → Gathers a (pending r c) line → EndsLine r s line more → GivesFront a (pending s c) more
gathers_end a c r s line more g ends =
    gives_by a c g.whole r.unread ends.part s.unread more g.consumes ends.unread g.single ends.single
    (ends.grown ∙ ap (λ l. take 200001 (l ++ ends.part)) g.kept ∙ take_front 200001 g.whole ends.part)

-- the input ends it
last_known : (xs whole zs line : List ℕ) → xs ≡ whole ++ zs → zs ≡ [] → count_by is_end whole ≡ 0 → line ≡ take 200001 whole → 1 ≤ length line
    → fronts_of xs ≡ line ∷ fronts_of zs
last_known xs [] zs line is end none kept some = absurd (omega (arith, some, ap length kept))
last_known xs (b ∷ bs) zs line is end none kept some =
    ap fronts_of (is ∙ ap (λ l. (b ∷ bs) ++ l) end ∙ append-nil (b ∷ bs)) ∙ ap (map (take 200001)) (last_line b bs none) ∙ ap (λ l. l ∷ []) (sym kept)
    ∙ ap (λ l. line ∷ fronts_of l) (sym end)

pub gathers_last : (a b : Option (List ℕ)) (line : List ℕ) → Gathers a b line → IsAtEnd b → 1 ≤ length line → GivesFront a b line
gathers_last a b line g end some = by a b g.consumes end
  where
    by : (a b : Option (List ℕ)) → Consumes a b g.whole → IsAtEnd b → GivesFront a b line
    by None b h end = tt
    by (Some xs) None h end = absurd h
    by (Some xs) (Some zs) h end = last_known xs g.whole zs line h end g.single g.kept some

-- no line was begun
pub gathers_none : (a b : Option (List ℕ)) (line : List ℕ) → Gathers a b line → line ≡ [] → Keeps a b
gathers_none a b line g is = by a b g.whole g.consumes (sym g.kept ∙ is)
  where
    by : (a b : Option (List ℕ)) (whole : List ℕ) → Consumes a b whole → take 200001 whole ≡ [] → Keeps a b
    by None b whole h e = tt
    by (Some xs) None whole h e = absurd h
    by (Some xs) (Some ys) [] h e = sym h
    by (Some xs) (Some ys) (w ∷ ws) h e = absurd (let sizes : suc (length (take 200000 ws)) ≡ 0 = ap length e in omega (arith, sizes))

-- ---- what is left

pub ends_left : (r s : Reading) (line more : List ℕ) → EndsLine r s line more → left s < left r
ends_left r s line more ends =
    let size : length r.unread ≡ length ends.part + suc (length s.unread) = ap length ends.unread ∙ length-append ends.part (10 ∷ s.unread) in
    let same : s.asks ≡ r.asks = ends.asks in
    omega (arith, size, same)

pub goes_left : (r s : Reading) (line more : List ℕ) → GoesOn r s line more → (left s + length more ≤ left r + length line) × (left s + length r.unread ≤ left r)
goes_left r s line more goes =
    let none : length s.unread ≡ 0 = ap length goes.unread in
    let same : s.asks ≡ r.asks = goes.asks in
    let size : length more ≡ length (take 200001 (line ++ r.unread)) = ap length goes.grown in
    let most : length (take 200001 (line ++ r.unread)) ≡ min 200001 (length (line ++ r.unread)) = length-take 200001 (line ++ r.unread) in
    let sum : length (line ++ r.unread) ≡ length line + length r.unread = length-append line r.unread in
    (omega (arith, none, same, size, most, sum), omega (arith, none, same))

-- ---- what is kept

take_room : (n : ℕ) (xs ys : List ℕ) → length xs ≤ n → xs ++ take (n - length xs) ys ≡ take n (xs ++ ys)
take_room n [] ys le = ap (λ m. take m ys) same
  where
    same : n - 0 ≡ n
    same = omega arith
take_room zero (x ∷ xs) ys le = absurd (omega (arith, le))
take_room (suc n) (x ∷ xs) ys le =
    let same : suc n - suc (length xs) ≡ n - length xs = omega arith in
    ap (λ m. x ∷ (xs ++ take m ys)) same ∙ ap (λ l. x ∷ l) (take_room n xs ys (omega (arith, le)))

-- the front of a part
pub front_of : (n : ℕ) (part : List ℕ) (count : ℕ) → count ≡ min n (length part) → take count part ≡ take n part
front_of n part count is = ap (λ m. take m part) is ∙ take_min n part

-- as much of a part as there is room for
pub put_kept : (line part grown : List ℕ) (count : ℕ) → count ≡ min (200001 - length line) (length part) → length line ≤ 200001 → grown ≡ line ++ take count part
    → grown ≡ take 200001 (line ++ part)
put_kept line part grown count is short h =
    h ∙ ap (λ l. line ++ l) (front_of (200001 - length line) part count is) ∙ take_room 200001 line part short

-- ---- several parts in a row

pub four_parts : (text a b c d t1 t2 t3 t4 : List ℕ) → t1 ≡ text ++ a → t2 ≡ t1 ++ b → t3 ≡ t2 ++ c → t4 ≡ t3 ++ d → t4 ≡ text ++ (a ++ b ++ c ++ d)
four_parts text a b c d t1 t2 t3 t4 h1 h2 h3 h4 =
    h4 ∙ ap (λ l. l ++ d) (h3 ∙ ap (λ l. l ++ c) (h2 ∙ ap (λ l. l ++ b) h1 ∙ append_assoc text a b) ∙ append_assoc text (a ++ b) c) ∙ append_assoc text (a ++ b ++ c) d

pub five_parts : (text a b c d e t1 t2 t3 t4 t5 : List ℕ) → t1 ≡ text ++ a → t2 ≡ t1 ++ b → t3 ≡ t2 ++ c → t4 ≡ t3 ++ d → t5 ≡ t4 ++ e
    → t5 ≡ text ++ (a ++ b ++ c ++ d ++ e)
five_parts text a b c d e t1 t2 t3 t4 t5 h1 h2 h3 h4 h5 =
    h5 ∙ ap (λ l. l ++ e) (four_parts text a b c d t1 t2 t3 t4 h1 h2 h3 h4) ∙ append_assoc text (a ++ b ++ c ++ d) e

-- a date, and behind a mark a time of day
pub behind_date : (text date clock t1 t2 : List ℕ) (mark : ℕ) → t1 ≡ text ++ date → t2 ≡ t1 ++ mark ∷ clock → t2 ≡ text ++ (date ++ (mark ∷ []) ++ clock)
behind_date text date clock t1 t2 mark h1 h2 =
    h2 ∙ ap (λ l. l ++ mark ∷ clock) h1 ∙ append_assoc text date (mark ∷ clock) ∙ ap (λ l. text ++ l) (sym (append_assoc date (mark ∷ []) clock))
