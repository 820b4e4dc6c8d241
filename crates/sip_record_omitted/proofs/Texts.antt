-- The text that bytes stand for, in parts.
use Rattle.std.proofs.Common.{◌≡◌, ℕ, ◌+◌, Bool, true, false, cond, List, [], ◌∷◌, ◌++◌, Option, Some, None, refl, sym, ap, ◌∙◌, arith, append-nil, append_assoc}
use Rattle.std.specs.Prelude.{◌==◌, count_by, if◌then◌else◌}
use Rattle.std.specs.List.{flat_map, AllByRecursion}
use Rattle.std.proofs.lemmas.List.Concat.{flat_map-append}
use Rattle.std.proofs.lemmas.List.Sums.{sum_by-append}
use Rattle.sip_replay_script.specs.Lines.{is_end}
use Rattle.sip_replay_script.specs.Events.{ended}
use Rattle.sip_record_omitted.specs.Omitted.{expanded, expanded_on, left_out_text, lines_by, lines_for, omitted_of, passed, text_for}

pub count_cons : (b : ℕ) (bs : List ℕ) → count_by is_end (b ∷ bs) ≡ cond (is_end b) 1 0 + count_by is_end bs
count_cons b bs = sum_by-append (λ c. cond (is_end c) 1 0) (b ∷ []) bs ∙ ap (λ n. n + count_by is_end bs) (from_zero (cond (is_end b) 1 0))
  where
    from_zero : (n : ℕ) → 0 + n ≡ n
    from_zero n = omega arith

-- ---- what a line stands for

pub same_line : (line : List ℕ) → omitted_of line ≡ None → text_for line ≡ line ++ 10 ∷ []
same_line line none = ap (λ (o : Option ℕ). flat_map ended (lines_by line o)) none ∙ append-nil (line ++ 10 ∷ [])

pub so_many : (line : List ℕ) (count : ℕ) → omitted_of line ≡ Some count → text_for line ≡ left_out_text count
so_many line count is = ap (λ (o : Option ℕ). flat_map ended (lines_by line o)) is

-- ---- bytes without LF

-- they go on with the line
pub go_on : (line part rest : List ℕ) → count_by is_end part ≡ 0 → expanded_on line (part ++ rest) ≡ expanded_on (line ++ part) rest
go_on line [] rest none = ap (λ (l : List ℕ). expanded_on l rest) (sym (append-nil line))
go_on line (b ∷ bs) rest none = by (b == 10) (sym (count_cons b bs) ∙ none) (go_on (line ++ b ∷ []) bs rest)
  where
    by : (is : Bool) → cond is 1 0 + count_by is_end bs ≡ 0
        → (count_by is_end bs ≡ 0 → expanded_on (line ++ b ∷ []) (bs ++ rest) ≡ expanded_on ((line ++ b ∷ []) ++ bs) rest)
        → (if is then text_for line ++ expanded (bs ++ rest) else expanded_on (line ++ b ∷ []) (bs ++ rest)) ≡ expanded_on (line ++ b ∷ bs) rest
    by true none more = absurd (omega (arith, none))
    by false none more = more (omega (arith, none)) ∙ ap (λ (l : List ℕ). expanded_on l rest) (append_assoc line (b ∷ []) bs)

-- and are passed, where the line stays
pub pass_on : (part rest : List ℕ) → count_by is_end part ≡ 0 → passed (part ++ rest) ≡ part ++ passed rest
pass_on [] rest none = refl
pass_on (b ∷ bs) rest none = by (b == 10) (sym (count_cons b bs) ∙ none) (pass_on bs rest)
  where
    by : (is : Bool) → cond is 1 0 + count_by is_end bs ≡ 0 → (count_by is_end bs ≡ 0 → passed (bs ++ rest) ≡ bs ++ passed rest)
        → (if is then 10 ∷ expanded (bs ++ rest) else b ∷ passed (bs ++ rest)) ≡ b ∷ (bs ++ passed rest)
    by true none more = absurd (omega (arith, none))
    by false none more = ap (λ (l : List ℕ). b ∷ l) (more (omega (arith, none)))

-- nothing behind them
pub last_stays : (last : List ℕ) → count_by is_end last ≡ 0 → expanded last ≡ last
last_stays last none = ap (λ (l : List ℕ). expanded l) (sym (append-nil last)) ∙ go_on [] last [] none

pub end_stays : (last : List ℕ) → count_by is_end last ≡ 0 → expanded (last ++ []) ≡ passed (last ++ [])
end_stays last none = go_on [] last [] none ∙ sym (append-nil last) ∙ sym (pass_on last [] none)

-- ---- a line and its LF

pub line_ends : (line rest : List ℕ) → count_by is_end line ≡ 0 → expanded (line ++ 10 ∷ rest) ≡ text_for line ++ expanded rest
line_ends line rest none = go_on [] line (10 ∷ rest) none

pub passed_ends : (part rest : List ℕ) → count_by is_end part ≡ 0 → passed (part ++ 10 ∷ rest) ≡ part ++ 10 ∷ expanded rest
passed_ends part rest none = pass_on part (10 ∷ rest) none

pub line_itself : (line rest : List ℕ) → count_by is_end line ≡ 0 → omitted_of line ≡ None → expanded (ended line ++ rest) ≡ ended line ++ expanded rest
line_itself line rest none is =
    ap (λ (l : List ℕ). expanded l) (append_assoc line (10 ∷ []) rest) ∙ line_ends line rest none ∙ ap (λ (l : List ℕ). l ++ expanded rest) (same_line line is)

-- such a line stays
pub line_stays : (line rest : List ℕ) → count_by is_end line ≡ 0 → omitted_of line ≡ None → expanded (line ++ 10 ∷ rest) ≡ passed (line ++ 10 ∷ rest)
line_stays line rest none is =
    line_ends line rest none ∙ ap (λ (l : List ℕ). l ++ expanded rest) (same_line line is) ∙ append_assoc line (10 ∷ []) (expanded rest)
    ∙ sym (passed_ends line rest none)

-- and so does one whose front goes on to no line that stands for others
pub front_stays : (front rest : List ℕ) → ((more : List ℕ) → omitted_of (front ++ more) ≡ None) → expanded_on front rest ≡ front ++ passed rest
front_stays front [] never = sym (append-nil front)
front_stays front (b ∷ bs) never =
    by (b == 10) (front_stays (front ++ b ∷ []) bs (λ more. ap omitted_of (append_assoc front (b ∷ []) more) ∙ never (b ∷ more)))
  where
    none : omitted_of front ≡ None
    none = ap omitted_of (sym (append-nil front)) ∙ never []

    by : (is : Bool) → expanded_on (front ++ b ∷ []) bs ≡ (front ++ b ∷ []) ++ passed bs
        → (if is then text_for front ++ expanded bs else expanded_on (front ++ b ∷ []) bs) ≡ front ++ (if is then 10 ∷ expanded bs else b ∷ passed bs)
    by true more = ap (λ (l : List ℕ). l ++ expanded bs) (same_line front none) ∙ append_assoc front (10 ∷ []) (expanded bs)
    by false more = more ∙ append_assoc front (b ∷ []) (passed bs)

pub long_stays : (front rest : List ℕ) → count_by is_end front ≡ 0 → ((more : List ℕ) → omitted_of (front ++ more) ≡ None)
    → expanded (front ++ rest) ≡ passed (front ++ rest)
long_stays front rest none never = go_on [] front rest none ∙ front_stays front rest never ∙ sym (pass_on front rest none)

-- ---- lines

pub by_lines : (lines : List (List ℕ)) (last : List ℕ) → AllByRecursion (λ line. count_by is_end line ≡ 0) lines → count_by is_end last ≡ 0
    → expanded (flat_map ended lines ++ last) ≡ flat_map ended (flat_map lines_for lines) ++ last
by_lines [] last all none = last_stays last none
by_lines (line ∷ lines) last all none =
    ap (λ (l : List ℕ). expanded l) (append_assoc (ended line) (flat_map ended lines) last ∙ append_assoc line (10 ∷ []) (flat_map ended lines ++ last))
    ∙ line_ends line (flat_map ended lines ++ last) all.0
    ∙ ap (λ (l : List ℕ). text_for line ++ l) (by_lines lines last all.1 none)
    ∙ sym (append_assoc (text_for line) (flat_map ended (flat_map lines_for lines)) last)
    ∙ ap (λ (l : List ℕ). l ++ last) (sym (flat_map-append ended (lines_for line) (flat_map lines_for lines)))

pub by_themselves : (lines : List (List ℕ)) (last : List ℕ) → AllByRecursion (λ line. count_by is_end line ≡ 0) lines
    → AllByRecursion (λ line. omitted_of line ≡ None) lines → count_by is_end last ≡ 0 → expanded (flat_map ended lines ++ last) ≡ flat_map ended lines ++ last
by_themselves [] last all stay none = last_stays last none
by_themselves (line ∷ lines) last all stay none =
    ap (λ (l : List ℕ). expanded l) (append_assoc (ended line) (flat_map ended lines) last)
    ∙ line_itself line (flat_map ended lines ++ last) all.0 stay.0
    ∙ ap (λ (l : List ℕ). ended line ++ l) (by_themselves lines last all.1 stay.1 none)
    ∙ sym (append_assoc (ended line) (flat_map ended lines) last)
