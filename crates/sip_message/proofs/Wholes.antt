-- A line with its folds, and what follows them.
use Rattle.std.proofs.Common.{◌≡◌, ℕ, ◌-◌, ◌≤◌, Bool, true, false, List, [], ◌∷◌, length, take, drop, Option, Some, None, refl, sym, ap, subst, ◌∙◌, arith}
use Rattle.std.specs.Prelude.{option_map, MatchOption}
use Rattle.std.proofs.lemmas.List.{take_all, length-take, length-drop}
use denote.Ref.{Bor}
use Rattle.sip_text.specs.Splits.{in_front}
use Rattle.sip_message_fields.specs.declared.piece.ViewPiece.{ViewPiece}
use Rattle.sip_message_fields.specs.declared.piece.ViewPiece.TheVariants as Whole
use Rattle.sip_message_fields.specs.Slice.{IsSliceOf, IsCutFrom, IsPieceOf, is_joined}
use Rattle.sip_message.specs.declared.line.WholeLine.{WholeLine}
use Rattle.sip_message.specs.declared.line.WholeLine.TheVariants.{Part}
use Rattle.sip_message.specs.Lines.{is_crlf, is_fold, joined, unfolded, line_at, lines_at, head_at, folds_of}
use Rattle.sip_message.specs.Line.{line_piece, line_bytes, has_fold}
use Rattle.sip_message.specs.HeadContent.{heads_on, flags_on, before, flags_before, IsWhole}
use Rattle.sip_message.proofs.Cuts.{crlf_is}
use Rattle.sip_message.proofs.CutLaws.{pair_is}
use Rattle.sip_message.proofs.Rows.{is_empty, line_first, by_line, by_first_line}

pub itself : (slice : Bor (List ℕ)) → IsCutFrom slice slice
itself slice = record { of_whole = λ whole is. is }

pub cut_again : (a b c : Bor (List ℕ)) → IsCutFrom a b → IsCutFrom b c → IsCutFrom a c
cut_again a b c first second = record { of_whole = λ whole is. second.of_whole whole (first.of_whole whole is) }

pub all_of_it : (slice : Bor (List ℕ)) → IsSliceOf slice slice
all_of_it slice =
    let none : length slice.now - 0 ≡ length slice.now = omega arith in record {
      span = record { start = 0; end = length slice.now };
      within = record { ordered = omega arith; inside = omega arith };
      bytes = sym (ap (λ (n : ℕ). take n slice.now) none ∙ take_all (length slice.now) slice.now (omega arith));
      block = refl;
      place = omega arith;
    }

-- what is cut from a slice is no longer
pub cut_length : (a b : Bor (List ℕ)) → IsCutFrom a b → length b.now ≤ length a.now
cut_length a b cut =
    let is : IsSliceOf a b = cut.of_whole a (all_of_it a) in
    omega (arith, ap length is.bytes, length-take (is.span.end - is.span.start) (drop is.span.start a.now), length-drop is.span.start a.now)

-- ---- the front of a line

after_front : (b c : ℕ) (rest line after : List ℕ) (o : Option (List ℕ × List ℕ)) → Some (line, after) ≡ in_front (b ∷ []) o → is_fold line ≡ is_fold (b ∷ c ∷ rest)
after_front b c rest line after None e = absurd cc
after_front b c rest line after (Some x) e = ap is_fold (pair_is (line, after) (b ∷ x.0, x.1) e).0

-- a line that isn't empty begins as the bytes do
pub same_front : (bytes line after : List ℕ) → Some (line, after) ≡ line_at bytes → is_empty line ≡ false → is_fold line ≡ is_fold bytes
same_front [] line after e full = absurd cc
same_front (b ∷ []) line after e full = absurd cc
same_front (b ∷ c ∷ rest) line after e full = by_test (is_crlf b c) refl
  where
    by_test : (t : Bool) → is_crlf b c ≡ t → is_fold line ≡ is_fold (b ∷ c ∷ rest)
    by_test true is =
        let here : line_at (b ∷ c ∷ rest) ≡ Some ([], rest) = rw is refl in
        let none : line ≡ [] = (pair_is (line, after) ([], rest) (e ∙ here)).0 in
        let k : true ≡ false = ap is_empty (sym none) ∙ full in
        absurd cc
    by_test false is =
        let here : line_at (b ∷ c ∷ rest) ≡ in_front (b ∷ []) (line_at (c ∷ rest)) = rw is refl in
        after_front b c rest line after (line_at (c ∷ rest)) (e ∙ here)

front_full : (b : ℕ) (line after : List ℕ) (o : Option (List ℕ × List ℕ)) → Some (line, after) ≡ in_front (b ∷ []) o → is_empty line ≡ false
front_full b line after None e = absurd cc
front_full b line after (Some x) e = ap is_empty (pair_is (line, after) (b ∷ x.0, x.1) e).0

-- a line that begins with a blank isn't empty
pub fold_full : (bytes line after : List ℕ) → Some (line, after) ≡ line_at bytes → is_fold bytes ≡ true → is_empty line ≡ false
fold_full [] line after e is = absurd cc
fold_full (b ∷ []) line after e is = absurd cc
fold_full (b ∷ c ∷ rest) line after e is = by_test (is_crlf b c) refl
  where
    by_test : (t : Bool) → is_crlf b c ≡ t → is_empty line ≡ false
    by_test true end =
        let k : is_fold (13 ∷ c ∷ rest) ≡ true = subst (λ (x : ℕ). is_fold (x ∷ c ∷ rest) ≡ true) (crlf_is b c end).0 is in
        absurd cc
    by_test false end =
        let here : line_at (b ∷ c ∷ rest) ≡ in_front (b ∷ []) (line_at (c ∷ rest)) = rw end refl in
        front_full b line after (line_at (c ∷ rest)) (e ∙ here)

-- the lines behind a line that isn't empty
pub lines_behind : (rest line after : List ℕ) → Some (line, after) ≡ line_at rest → is_empty line ≡ false → lines_at false rest ≡ line_first line (lines_at false after)
lines_behind rest line after is full = by_first_line rest ∙ ap by_line (sym is) ∙ rw full refl

pub lines_end : (rest line after : List ℕ) → Some (line, after) ≡ line_at rest → is_empty line ≡ true → lines_at false rest ≡ Some ([], after)
lines_end rest line after is none = by_first_line rest ∙ ap by_line (sym is) ∙ rw none refl

pub no_lines : (rest : List ℕ) → None ≡ line_at rest → lines_at false rest ≡ None
no_lines rest none = by_first_line rest ∙ ap by_line (sym none)

-- ---- folds

heads_fold : (line fold : List ℕ) (o : Option (List (List ℕ) × List ℕ)) → is_fold fold ≡ true → heads_on line (line_first fold o) ≡ heads_on (joined line fold) o
heads_fold line fold None is = refl
heads_fold line fold (Some x) is = rw is refl

flags_fold : (flag : Bool) (fold : List ℕ) (o : Option (List (List ℕ) × List ℕ)) → is_fold fold ≡ true → flags_on flag (line_first fold o) ≡ flags_on true o
flags_fold flag fold None is = refl
flags_fold flag fold (Some x) is = rw is refl

abbrev unfold_all : Option (List (List ℕ) × List ℕ) → Option (List (List ℕ) × List ℕ)
unfold_all o = option_map (λ x. (unfolded x.0, x.1)) o

abbrev flag_all : Option (List (List ℕ) × List ℕ) → Option (List Bool)
flag_all o = option_map (λ x. folds_of x.0) o

-- lines the first of which is no fold
abbrev StartsAnew : Option (List (List ℕ) × List ℕ) → Type 0
StartsAnew None = Unit {0}
StartsAnew (Some ([], rest)) = Unit {0}
StartsAnew (Some (line ∷ lines, rest)) = is_fold line ≡ false

heads_anew : (line : List ℕ) (o : Option (List (List ℕ) × List ℕ)) → StartsAnew o → heads_on line o ≡ before (line ∷ []) (unfold_all o)
heads_anew line None new = refl
heads_anew line (Some ([], rest)) new = refl
heads_anew line (Some (next ∷ lines, rest)) new = rw new refl

flags_anew : (flag : Bool) (o : Option (List (List ℕ) × List ℕ)) → StartsAnew o → flags_on flag o ≡ flags_before (flag ∷ []) (flag_all o)
flags_anew flag None new = refl
flags_anew flag (Some ([], rest)) new = refl
flags_anew flag (Some (next ∷ lines, rest)) new = rw new refl

anew_first : (line : List ℕ) (o : Option (List (List ℕ) × List ℕ)) → is_fold line ≡ false → StartsAnew (line_first line o)
anew_first line None is = tt
anew_first line (Some x) is = is

anew : (rest : List ℕ) → is_fold rest ≡ false → StartsAnew (lines_at false rest)
anew rest is = by_front (line_at rest) refl
  where
    by_empty : (line after : List ℕ) (t : Bool) → is_empty line ≡ t → Some (line, after) ≡ line_at rest → StartsAnew (lines_at false rest)
    by_empty line after true none e = subst StartsAnew (sym (lines_end rest line after e none)) tt
    by_empty line after false full e = subst StartsAnew (sym (lines_behind rest line after e full))
        (anew_first line (lines_at false after) (same_front rest line after e full ∙ is))

    by_front : (o : Option (List ℕ × List ℕ)) → line_at rest ≡ o → StartsAnew (lines_at false rest)
    by_front None e = subst StartsAnew (sym (no_lines rest (sym e))) tt
    by_front (Some x) e = by_empty x.0 x.1 (is_empty x.0) refl (sym e)

-- ---- a line, once some of its folds were joined to it

pub record GoesOn (first : WholeLine) (after : Bor (List ℕ)) (whole : WholeLine) (rest : Bor (List ℕ)) : Type 0 where
  pub bytes : heads_on (line_bytes first) (lines_at false after.now) ≡ heads_on (line_bytes whole) (lines_at false rest.now)
  pub folds : flags_on (has_fold first) (lines_at false after.now) ≡ flags_on (has_fold whole) (lines_at false rest.now)
  pub slice : (source : Bor (List ℕ)) → IsPieceOf source (line_piece first) → IsPieceOf source (line_piece whole)
  pub cut : IsCutFrom after rest

pub begun : (first : WholeLine) (after : Bor (List ℕ)) → GoesOn first after first after
begun first after = record { bytes = refl; folds = refl; slice = λ source is. is; cut = itself after }

joined_stands : (source : Bor (List ℕ)) (piece : ViewPiece) → is_joined piece ≡ true → IsPieceOf source piece
joined_stands source (Whole.Part slice) is = absurd cc
joined_stands source (Whole.Joined bytes) is = tt

pub fold_more : (first : WholeLine) (after rest fold next : Bor (List ℕ)) (old new : WholeLine) → GoesOn first after old rest → is_fold rest.now ≡ true
    → Some (fold.now, next.now) ≡ line_at rest.now → IsCutFrom rest next
    → line_bytes new ≡ joined (line_bytes old) fold.now → has_fold new ≡ true → GoesOn first after new next
fold_more first after rest fold next old new so_far is some next_cut bytes flag =
    let full : is_empty fold.now ≡ false = fold_full rest.now fold.now next.now some is in
    let here : lines_at false rest.now ≡ line_first fold.now (lines_at false next.now) = lines_behind rest.now fold.now next.now some full in
    let folded : is_fold fold.now ≡ true = same_front rest.now fold.now next.now some full ∙ is in record {
      bytes = so_far.bytes ∙ ap (heads_on (line_bytes old)) here ∙ heads_fold (line_bytes old) fold.now (lines_at false next.now) folded
          ∙ ap (λ (w : List ℕ). heads_on w (lines_at false next.now)) (sym bytes);
      folds = so_far.folds ∙ ap (flags_on (has_fold old)) here ∙ flags_fold (has_fold old) fold.now (lines_at false next.now) folded
          ∙ ap (λ (w : Bool). flags_on w (lines_at false next.now)) (sym flag);
      slice = λ source of. joined_stands source (line_piece new) flag;
      cut = cut_again after rest next so_far.cut next_cut;
    }

whole_of : (line after rest : Bor (List ℕ)) (whole : WholeLine) → GoesOn (Part line) after whole rest → StartsAnew (lines_at false rest.now)
    → IsWhole line after whole rest
whole_of line after rest whole so_far new = record {
  bytes = so_far.bytes ∙ heads_anew (line_bytes whole) (lines_at false rest.now) new;
  folds = so_far.folds ∙ flags_anew (has_fold whole) (lines_at false rest.now) new;
  slice = so_far.slice;
  cut = so_far.cut;
}

pub no_more_folds : (line after rest : Bor (List ℕ)) (whole : WholeLine) → GoesOn (Part line) after whole rest → is_fold rest.now ≡ false → IsWhole line after whole rest
no_more_folds line after rest whole so_far is = whole_of line after rest whole so_far (anew rest.now is)

pub never_ends : (line after rest : Bor (List ℕ)) (whole : WholeLine) → GoesOn (Part line) after whole rest → None ≡ line_at rest.now → IsWhole line after whole rest
never_ends line after rest whole so_far none = whole_of line after rest whole so_far (subst StartsAnew (sym (no_lines rest.now none)) tt)

pub without_folds : (line after : Bor (List ℕ)) → is_fold after.now ≡ false → IsWhole line after (Part line) after
without_folds line after is = no_more_folds line after after (Part line) (begun (Part line) after) is

-- ---- whether a head ends

abbrev pub ends : Option (List (List ℕ) × List ℕ) → Bool
ends None = false
ends (Some x) = true

ends_first : (line : List ℕ) (o : Option (List (List ℕ) × List ℕ)) → ends (line_first line o) ≡ ends o
ends_first line None = refl
ends_first line (Some x) = refl

pub ends_behind : (rest line after : List ℕ) (end : Bool) → Some (line, after) ≡ line_at rest → is_empty line ≡ false → ends (lines_at false rest) ≡ end
    → ends (lines_at false after) ≡ end
ends_behind rest line after end is full so_far = sym (ends_first line (lines_at false after)) ∙ sym (ap ends (lines_behind rest line after is full)) ∙ so_far

by_end : (end : Bool) (o : Option (List (List ℕ) × List ℕ)) → ends o ≡ end → MatchOption (unfold_all o) (end ≡ false) (λ x. end ≡ true)
by_end end None is = sym is
by_end end (Some x) is = sym is

pub has_end : (bytes rest line after : List ℕ) → Some (line, after) ≡ line_at rest → is_empty line ≡ true → ends (lines_at false rest) ≡ ends (lines_at false bytes)
    → MatchOption (head_at bytes) (true ≡ false) (λ x. true ≡ true)
has_end bytes rest line after is none so_far = by_end true (lines_at false bytes) (sym so_far ∙ ap ends (lines_end rest line after is none))

pub has_none : (bytes rest : List ℕ) → None ≡ line_at rest → ends (lines_at false rest) ≡ ends (lines_at false bytes)
    → MatchOption (head_at bytes) (false ≡ false) (λ x. false ≡ true)
has_none bytes rest none so_far = by_end false (lines_at false bytes) (sym so_far ∙ ap ends (no_lines rest none))
