-- What is still to come of an expanded text, where some of it was read, made or given.
use Rattle.std.proofs.Common.{◌≡◌, ℕ, zero, suc, ◌+◌, ◌-◌, ◌<◌, ◌≤◌, Bool, true, false, List, [], ◌∷◌, ◌++◌, length, take, drop, Option, Some, None}
use Rattle.std.proofs.Common.{refl, sym, ap, subst, ◌∙◌, arith, inl, inr, append_assoc, length-append, length-drop, take-append-drop}
use Rattle.std.specs.Prelude.{◌⊎◌, ◌&&◌, not, count_by, option_map}
use Rattle.std.specs.Io.KnownBytes.{Consumes, Keeps, IsAtEnd}
use Rattle.std.proofs.KnownBytes.{Keeps-trans}
use Rattle.std.proofs.lemmas.Bool.{cases_lt}
use Rattle.std.proofs.lemmas.List.{drop_all, drop-drop, drop-append-le, length-take, take-append-le, take_all}
use Rattle.sip_replay_script.specs.Events.{ended}
use Rattle.sip_replay_script.specs.Lines.{is_end}
use Rattle.sip_record_omitted.specs.Fronts.{BeginsOmitted, BeginsPlain, IsPart}
use Rattle.sip_record_omitted.specs.Holding.{Holding, ahead, made_text, text_from, IsKnown, IsOver, IsReady, IsSettled, IsShort, MakesLines, PassesMade, PassesRead}
use Rattle.sip_record_omitted.specs.Omitted.{expanded, left_out_line, left_out_text, passed}
use Rattle.sip_record_omitted.proofs.LineLaws.{omitted_is}
use Rattle.sip_record_omitted.proofs.Texts.{end_stays, line_ends, pass_on, passed_ends, so_many}

-- ---- lines that are made

-- none
pub made_none : (h : Holding) → h.lines ≡ 0 → made_text h ≡ []
made_none h none = ap (λ (n : ℕ). drop h.given (left_out_text n)) none ∙ drop_all h.given [] (omega arith)

ahead_read : (h : Holding) (rest : List ℕ) → h.lines ≡ 0 → ahead h rest ≡ text_from h.inside (h.unread ++ rest)
ahead_read h rest none = ap (λ (l : List ℕ). l ++ text_from h.inside (h.unread ++ rest)) (made_none h none)

-- a line that is taken for them
behind_ended : (line rest : List ℕ) (size : ℕ) → size ≡ length line → drop (size + 1) (line ++ 10 ∷ rest) ≡ rest
behind_ended [] rest size is = ap (λ (n : ℕ). drop (n + 1) (10 ∷ rest)) is
behind_ended (b ∷ bs) rest size is =
    let same : size + 1 ≡ suc (length bs + 1) = omega (arith, is) in
    ap (λ (n : ℕ). drop n ((b ∷ bs) ++ 10 ∷ rest)) same ∙ behind_ended bs rest (length bs) refl

pub made_same : (h k : Holding) (count size : ℕ) (rest : List ℕ) → h.lines ≡ 0 → h.inside ≡ false → BeginsOmitted h.unread count size → MakesLines h k count size
    → ahead k rest ≡ ahead h rest
made_same h k count size rest none outside b makes =
    let more = b.begins.rest in
    let new : ahead k rest ≡ left_out_text count ++ expanded (more ++ rest) =
    ap (λ (n : ℕ). drop k.given (left_out_text n) ++ text_from k.inside (k.unread ++ rest)) makes.lines
    ∙ ap (λ (n : ℕ). drop n (left_out_text count) ++ text_from k.inside (k.unread ++ rest)) makes.given
    ∙ ap (λ (t : Bool). left_out_text count ++ text_from t (k.unread ++ rest)) (makes.inside ∙ outside)
    ∙ ap (λ (l : List ℕ). left_out_text count ++ expanded (l ++ rest))
    (makes.unread ∙ ap (drop (size + 1)) b.begins.cut ∙ behind_ended b.line more size b.size_is) in
    let old : ahead h rest ≡ expanded (b.line ++ 10 ∷ (more ++ rest)) =
    ahead_read h rest none ∙ ap (λ (t : Bool). text_from t (h.unread ++ rest)) outside
    ∙ ap (λ (l : List ℕ). expanded l) (ap (λ (l : List ℕ). l ++ rest) b.begins.cut ∙ append_assoc b.line (10 ∷ more) rest) in
    new ∙ sym (old ∙ line_ends b.line (more ++ rest) b.begins.is_line.single ∙ ap (λ (l : List ℕ). l ++ expanded (more ++ rest)) (so_many b.line count b.says))

pub made_ready : (h k : Holding) (count size : ℕ) → BeginsOmitted h.unread count size → MakesLines h k count size → IsReady k
made_ready h k count size b makes =
    let some : 1 ≤ count = (omitted_is b.line count b.says).1 in
    λ none. absurd (omega (arith, some, none, makes.lines))

pub size_within : (unread : List ℕ) (count size : ℕ) → BeginsOmitted unread count size → size < length unread
size_within unread count size b =
    let sum : length (b.line ++ 10 ∷ b.begins.rest) ≡ length b.line + length (10 ∷ b.begins.rest) = length-append b.line (10 ∷ b.begins.rest) in
    omega (arith, sum, ap length b.begins.cut, b.size_is)

-- a line that stays
pub stays_same : (h k : Holding) (rest : List ℕ) → h.lines ≡ 0 → h.inside ≡ false → BeginsPlain h.unread → k ≡ record h { inside = true } → ahead k rest ≡ ahead h rest
stays_same h k rest none outside b is =
    ap (λ (j : Holding). ahead j rest) is ∙ ahead_read (record h { inside = true }) rest none ∙ sym (b.stays rest)
    ∙ ap (λ (t : Bool). text_from t (h.unread ++ rest)) (sym outside) ∙ sym (ahead_read h rest none)

pub none_short : (h : Holding) → h.lines ≡ 0 → h.unread ≡ [] → IsShort h
none_short h none empty = record {
  lines = none;
  few = omega (arith, ap length empty);
  single = ap (λ (l : List ℕ). count_by is_end l) empty;
}

-- ---- more is read

pub keeps_read : (a b : Option (List ℕ)) (h k : Holding) (part : List ℕ) → Consumes a b part → k.unread ≡ h.unread ++ part → k.lines ≡ h.lines → k.given ≡ h.given
    → k.inside ≡ h.inside → Keeps (option_map (ahead h) a) (option_map (ahead k) b)
keeps_read None b h k part c grown lines given inside = tt
keeps_read (Some xs) None h k part c grown lines given inside = absurd c
keeps_read (Some xs) (Some ys) h k part c grown lines given inside =
    ap (λ (n : ℕ). drop k.given (left_out_text n) ++ text_from k.inside (k.unread ++ ys)) lines
    ∙ ap (λ (n : ℕ). drop n (left_out_text h.lines) ++ text_from k.inside (k.unread ++ ys)) given
    ∙ ap (λ (t : Bool). made_text h ++ text_from t (k.unread ++ ys)) inside
    ∙ ap (λ (l : List ℕ). made_text h ++ text_from h.inside l)
    (ap (λ (l : List ℕ). l ++ ys) grown ∙ append_assoc h.unread part ys ∙ ap (λ (l : List ℕ). h.unread ++ l) (sym c))

-- nothing was
pub keeps_moved : (a b : Option (List ℕ)) (h k : Holding) → Keeps a b → k ≡ h → Keeps (option_map (ahead h) a) (option_map (ahead k) b)
keeps_moved None b h k c same = tt
keeps_moved (Some xs) None h k c same = absurd c
keeps_moved (Some xs) (Some ys) h k c same = ap (λ (j : Holding). ahead j ys) same ∙ ap (ahead h) c

-- what is held was looked at
pub keeps_same : (a : Option (List ℕ)) (h k : Holding) → ((rest : List ℕ) → ahead k rest ≡ ahead h rest) → Keeps (option_map (ahead h) a) (option_map (ahead k) a)
keeps_same None h k same = tt
keeps_same (Some xs) h k same = same xs

pub keeps_on : (a b c : Option (List ℕ)) → Keeps a b → Keeps b c → Keeps a c
keeps_on a b c h1 h2 = Keeps-trans a b c h1 h2

-- nothing more comes
pub keeps_ended : (a : Option (List ℕ)) (h k : Holding) → IsAtEnd a → ahead k [] ≡ ahead h [] → Keeps (option_map (ahead h) a) (option_map (ahead k) a)
keeps_ended None h k end same = tt
keeps_ended (Some xs) h k end same = ap (ahead k) end ∙ same ∙ ap (ahead h) (sym end)

-- so that what is left stays
ended_by : (was : Bool) (bytes : List ℕ) → count_by is_end bytes ≡ 0 → text_from true (bytes ++ []) ≡ text_from was (bytes ++ [])
ended_by true bytes none = refl
ended_by false bytes none = sym (end_stays bytes none)

pub ended_same : (h k : Holding) → IsShort h → k ≡ record h { inside = true } → ahead k [] ≡ ahead h []
ended_same h k short is =
    ap (λ (j : Holding). ahead j []) is ∙ ahead_read (record h { inside = true }) [] short.lines ∙ ended_by h.inside h.unread short.single
    ∙ sym (ahead_read h [] short.lines)

-- ---- what can be given is known

pub ready_known : (h : Holding) (a : Option (List ℕ)) → IsReady h → IsKnown h a
ready_known h a ready = record { settled = λ none outside. let never : true ≡ false = sym (ready none).0 ∙ outside in absurd cc; some = inl ready }

known_by : (h : Holding) (a : Option (List ℕ)) (unread : List ℕ) → h.unread ≡ unread → IsAtEnd a → h.lines ≡ 0 → (1 ≤ length h.unread → h.inside ≡ true)
    → IsReady h ⊎ IsOver h a
known_by h a [] is end none inside = inr (record { lines = none; unread = is; at_end = end })
known_by h a (b ∷ bs) is end none inside =
    let some : 1 ≤ length h.unread = omega (arith, ap length is) in
    inl (λ e. (inside some, some))

pub ended_known : (h : Holding) (a : Option (List ℕ)) → IsAtEnd a → h.lines ≡ 0 → IsSettled h → (1 ≤ length h.unread → h.inside ≡ true) → IsKnown h a
ended_known h a end none settled inside = record { settled = settled; some = known_by h a h.unread refl end none inside }

-- what is left of a room that is ready is read
pub ready_read : (h : Holding) → IsReady h → h.lines ≡ 0 → 1 ≤ length h.unread
ready_read h ready none = (ready none).1

-- ---- what is given

left_out_size : length (ended left_out_line) ≡ 54
left_out_size = refl

-- some bytes of the first of several lines
cut_first : (line more : List ℕ) (given count : ℕ) → given + count ≤ length line
    → drop given (line ++ more) ≡ take count (drop given line) ++ drop (given + count) (line ++ more)
cut_first line more given count le =
    let size : length (drop given line) ≡ length line - given = length-drop given line in
    let rest : drop count (drop given (line ++ more)) ≡ drop (given + count) (line ++ more) = drop-drop count given (line ++ more) in
    let front : take count (drop given (line ++ more)) ≡ take count (drop given line) =
    ap (take count) (drop-append-le given line more (omega (arith, le))) ∙ take-append-le count (drop given line) more (omega (arith, size, le)) in
    sym (take-append-drop count (drop given (line ++ more))) ∙ ap (λ (l : List ℕ). take count (drop given (line ++ more)) ++ l) rest
    ∙ ap (λ (l : List ℕ). l ++ drop (given + count) (line ++ more)) front

whole_first : (line more : List ℕ) (n : ℕ) → n ≡ length line → drop n (line ++ more) ≡ more
whole_first [] more n is = ap (λ (k : ℕ). drop k more) is
whole_first (b ∷ bs) more n is = ap (λ (k : ℕ). drop k ((b ∷ bs) ++ more)) is ∙ whole_first bs more (length bs) refl

part_or_whole : (n m : ℕ) → n ≤ m → (n < m) ⊎ (n ≡ m)
part_or_whole n m le = elim (cases_lt n m) [ inl lt ↦ inl lt | inr over ↦ inr (omega (arith, le, over)) ]

made_rest : (h k : Holding) (count lines : ℕ) → h.lines ≡ suc lines → h.given + count ≤ 54 → PassesMade h k count
    → drop (h.given + count) (left_out_text (suc lines)) ≡ made_text k
made_rest h k count lines are le passes = by_size (part_or_whole (h.given + count) 54 le)
  where
    by_size : (h.given + count < 54) ⊎ (h.given + count ≡ 54) → drop (h.given + count) (left_out_text (suc lines)) ≡ made_text k
    by_size (inl lt) =
        let p = passes.part lt in
        ap (λ (n : ℕ). drop n (left_out_text (suc lines))) (sym p.1) ∙ ap (λ (n : ℕ). drop k.given (left_out_text n)) (sym (p.0 ∙ are))
    by_size (inr is) =
        let w = passes.whole is in
        let fewer : lines ≡ k.lines = omega (arith, w.0, are) in
        whole_first (ended left_out_line) (left_out_text lines) (h.given + count) (is ∙ sym left_out_size)
        ∙ ap (λ (n : ℕ). left_out_text n) fewer ∙ ap (λ (n : ℕ). drop n (left_out_text k.lines)) (sym w.1)

-- of a line that was made
pub made_given : (h k : Holding) (count : ℕ) (part rest : List ℕ) → 1 ≤ h.lines → h.given + count ≤ 54 → PassesMade h k count
    → part ≡ take count (drop h.given (ended left_out_line)) → ahead h rest ≡ part ++ ahead k rest
made_given h k count part rest some le passes is = by_lines h.lines refl
  where
    by_lines : (lines : ℕ) → h.lines ≡ lines → ahead h rest ≡ part ++ ahead k rest
    by_lines zero none = absurd (omega (arith, some, none))
    by_lines (suc lines) are =
        let text = text_from h.inside (h.unread ++ rest) in
        let cut : made_text h ≡ part ++ made_text k =
        ap (λ (n : ℕ). drop h.given (left_out_text n)) are ∙ cut_first (ended left_out_line) (left_out_text lines) h.given count (omega (arith, le, left_out_size))
        ∙ ap (λ (l : List ℕ). l ++ drop (h.given + count) (left_out_text (suc lines))) (sym is)
        ∙ ap (λ (l : List ℕ). part ++ l) (made_rest h k count lines are le passes) in
        ap (λ (l : List ℕ). l ++ text) cut ∙ append_assoc part (made_text k) text
        ∙ ap (λ (l : List ℕ). part ++ (made_text k ++ l))
        (ap (λ (t : Bool). text_from t (h.unread ++ rest)) (sym passes.inside) ∙ ap (λ (l : List ℕ). text_from k.inside (l ++ rest)) (sym passes.unread))

-- of what was read, in a line that stays
read_by : (ends : Bool) (bytes rest : List ℕ) (most count : ℕ) → IsPart bytes most (record { count = count; ends = ends })
    → passed (bytes ++ rest) ≡ take count bytes ++ text_from (not ends) (drop count bytes ++ rest)
read_by true bytes rest most count part =
    let line = (part.whole refl).line in
    let cut : take count bytes ≡ line ++ 10 ∷ [] = (part.whole refl).cut in
    let all : bytes ++ rest ≡ line ++ 10 ∷ (drop count bytes ++ rest) =
    ap (λ (l : List ℕ). l ++ rest) (sym (take-append-drop count bytes) ∙ ap (λ (l : List ℕ). l ++ drop count bytes) cut)
    ∙ append_assoc (line ++ 10 ∷ []) (drop count bytes) rest ∙ append_assoc line (10 ∷ []) (drop count bytes ++ rest) in
    ap (λ (l : List ℕ). passed l) all ∙ passed_ends line (drop count bytes ++ rest) (part.whole refl).single
    ∙ sym (append_assoc line (10 ∷ []) (expanded (drop count bytes ++ rest))) ∙ ap (λ (l : List ℕ). l ++ expanded (drop count bytes ++ rest)) (sym cut)
read_by false bytes rest most count part =
    let all : bytes ++ rest ≡ take count bytes ++ (drop count bytes ++ rest) =
    ap (λ (l : List ℕ). l ++ rest) (sym (take-append-drop count bytes)) ∙ append_assoc (take count bytes) (drop count bytes) rest in
    ap (λ (l : List ℕ). passed l) all ∙ pass_on (take count bytes) (drop count bytes ++ rest) (part.part refl)

pub read_given : (h k : Holding) (ends : Bool) (most count : ℕ) (rest : List ℕ) → h.lines ≡ 0 → h.inside ≡ true
    → IsPart h.unread most (record { count = count; ends = ends }) → PassesRead h k count (h.inside && not ends) → ahead h rest ≡ take count h.unread ++ ahead k rest
read_given h k ends most count rest none inside part passes =
    let goes : k.inside ≡ not ends = passes.inside ∙ ap (λ (t : Bool). t && not ends) inside in
    ahead_read h rest none ∙ ap (λ (t : Bool). text_from t (h.unread ++ rest)) inside ∙ read_by ends h.unread rest most count part
    ∙ ap (λ (l : List ℕ). take count h.unread ++ l) (sym (ahead_read k rest (passes.lines ∙ none)
    ∙ ap (λ (t : Bool). text_from t (k.unread ++ rest)) goes ∙ ap (λ (l : List ℕ). text_from (not ends) (l ++ rest)) passes.unread))

-- where nothing was read
pub none_given : (h k : Holding) (count : ℕ) (rest : List ℕ) → h.lines ≡ 0 → h.inside ≡ false → h.unread ≡ [] → PassesRead h k count false
    → ahead h rest ≡ take count h.unread ++ ahead k rest
none_given h k count rest none outside empty passes =
    let nothing : take count h.unread ≡ [] = ap (take count) empty ∙ take_all count [] (omega arith) in
    let left : k.unread ≡ [] = passes.unread ∙ ap (drop count) empty ∙ drop_all count [] (omega arith) in
    ahead_read h rest none ∙ ap (λ (t : Bool). text_from t (h.unread ++ rest)) outside ∙ ap (λ (l : List ℕ). expanded (l ++ rest)) empty
    ∙ sym (ap (λ (l : List ℕ). l ++ ahead k rest) nothing ∙ ahead_read k rest (passes.lines ∙ none) ∙ ap (λ (t : Bool). text_from t (k.unread ++ rest)) passes.inside
    ∙ ap (λ (l : List ℕ). expanded (l ++ rest)) left)

room_front : (room bytes : List ℕ) (count : ℕ) → count ≤ length bytes → take (length (take count bytes)) room ≡ take count bytes → take count room ≡ take count bytes
room_front room bytes count le is =
    let size : length (take count bytes) ≡ count = omega (arith, length-take count bytes, le) in
    ap (λ (n : ℕ). take n room) (sym size) ∙ is

-- of either
pub read_on : (h k : Holding) (ends goes : Bool) (most count : ℕ) (room rest : List ℕ) → h.lines ≡ 0 → (h.inside ≡ false → h.unread ≡ [])
    → IsPart h.unread most (record { count = count; ends = ends }) → goes ≡ (h.inside && not ends) → PassesRead h k count goes
    → take (length (take count h.unread)) room ≡ take count h.unread → ahead h rest ≡ take count room ++ ahead k rest
read_on h k ends goes most count room rest none empty part same passes put = by h.inside refl
  where
    put_back : take count h.unread ++ ahead k rest ≡ take count room ++ ahead k rest
    put_back = ap (λ (l : List ℕ). l ++ ahead k rest) (sym (room_front room h.unread count part.within put))

    by : (inside : Bool) → h.inside ≡ inside → ahead h rest ≡ take count room ++ ahead k rest
    by true is = read_given h k ends most count rest none is part (subst (λ (t : Bool). PassesRead h k count t) same passes) ∙ put_back
    by false is =
        none_given h k count rest none is (empty is)
        (subst (λ (t : Bool). PassesRead h k count t) (same ∙ ap (λ (t : Bool). t && not ends) is) passes) ∙ put_back

-- ---- a call

pub gives : (a b : Option (List ℕ)) (h k : Holding) (part : List ℕ) → Keeps a (option_map (ahead h) b) → ((rest : List ℕ) → ahead h rest ≡ part ++ ahead k rest)
    → Consumes a (option_map (ahead k) b) part
gives None b h k part kept given = tt
gives (Some xs) None h k part kept given = absurd kept
gives (Some xs) (Some ys) h k part kept given = sym kept ∙ given ys

over_by : (h k : Holding) (a : Option (List ℕ)) (room : List ℕ) → IsOver h a → ((rest : List ℕ) → ahead h rest ≡ take 0 room ++ ahead k rest)
    → IsAtEnd (option_map (ahead k) a)
over_by h k None room over given = tt
over_by h k (Some xs) room over given =
    let nothing : ahead h [] ≡ [] = ahead_read h [] over.lines ∙ ap (λ (l : List ℕ). text_from h.inside (l ++ [])) over.unread ∙ empty h.inside in
    ap (ahead k) over.at_end ∙ sym (given []) ∙ nothing
  where
    empty : (inside : Bool) → text_from inside [] ≡ []
    empty true = refl
    empty false = refl

-- nothing is given of a room only at the end
pub gives_all : (a : Option (List ℕ)) (h k : Holding) (room : List ℕ) (count : ℕ) → IsKnown h a → (IsReady h → 1 ≤ length room → 1 ≤ count)
    → ((rest : List ℕ) → ahead h rest ≡ take count room ++ ahead k rest) → count ≡ 0 → 0 < length room → IsAtEnd (option_map (ahead k) a)
gives_all a h k room count known some given none wide = by known.some
  where
    by : IsReady h ⊎ IsOver h a → IsAtEnd (option_map (ahead k) a)
    by (inl ready) = let least : 1 ≤ count = some ready (omega (arith, wide)) in absurd (omega (arith, least, none))
    by (inr over) = over_by h k a room over (λ rest. given rest ∙ ap (λ (n : ℕ). take n room ++ ahead k rest) none)
