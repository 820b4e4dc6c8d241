-- Parts of a room, and how much of a line is given.
use Rattle.std.proofs.Common.{◌≡◌, ℕ, ◌+◌, ◌-◌, ◌<◌, ◌≤◌, min, true, false, List, [], ◌∷◌, ◌++◌, length, take, drop, slice_range, sym, ap, ◌∙◌, arith, append_assoc}
use Rattle.std.proofs.Common.{length-append, length-drop, take-append-drop}
use Rattle.std.specs.Prelude.{count_by, cond}
use Rattle.std.proofs.lemmas.List.{drop-take, drop-drop, length-take, take-take}
use Rattle.std.proofs.lemmas.List.Edits.{take-paste}
use Rattle.std.proofs.lemmas.List.Sums.{sum_by-take-le}
use lib.Seq.{paste, take-append_seam}
use Rattle.sip_replay_script.specs.Lines.{is_end, EndsAt}
use Rattle.sip_record_omitted.specs.Fronts.{IsPart}

-- ---- ranges

-- what is left of a range behind its front
pub range_rest : (xs : List ℕ) (start stop n : ℕ) → start + n ≤ stop → slice_range xs (start + n) stop ≡ drop n (slice_range xs start stop)
range_rest xs start stop n le =
    let sizes : n + (stop - (start + n)) ≡ stop - start = omega arith in
    ap (take (stop - (start + n))) (sym (drop-drop n start xs)) ∙ sym (drop-take n (stop - (start + n)) (drop start xs)) ∙ ap (λ m. drop n (take m (drop start xs))) sizes

pub range_size : (xs : List ℕ) (start stop : ℕ) → stop ≤ length xs → length (slice_range xs start stop) ≡ stop - start
range_size xs start stop le =
    let size : length (drop start xs) ≡ length xs - start = length-drop start xs in
    let most : length (take (stop - start) (drop start xs)) ≡ min (stop - start) (length (drop start xs)) = length-take (stop - start) (drop start xs) in
    omega (arith, size, most)

-- a line is passed that stands in a range, with its LF
pub behind_line : (xs unread : List ℕ) (start stop size : ℕ) → slice_range xs start stop ≡ unread → start ≤ stop → size < length unread
    → slice_range xs (start + size + 1) stop ≡ drop (size + 1) unread
behind_line xs unread start stop size is le lt =
    let most : length (slice_range xs start stop) ≤ stop - start = omega (arith, length-take (stop - start) (drop start xs)) in
    let same : start + size + 1 ≡ start + (size + 1) = omega arith in
    ap (λ n. slice_range xs n stop) same ∙ range_rest xs start stop (size + 1) (omega (arith, most, ap length is, lt, le)) ∙ ap (drop (size + 1)) is

-- and so many bytes
pub behind_part : (xs unread : List ℕ) (start stop count : ℕ) → slice_range xs start stop ≡ unread → start ≤ stop → count ≤ length unread
    → slice_range xs (start + count) stop ≡ drop count unread
behind_part xs unread start stop count is le few =
    let most : length (slice_range xs start stop) ≤ stop - start = omega (arith, length-take (stop - start) (drop start xs)) in
    range_rest xs start stop count (omega (arith, most, ap length is, few, le)) ∙ ap (drop count) is

-- bytes that stand at the front of a room, and others behind them
pub grown_range : (xs : List ℕ) (size count : ℕ) → size ≤ length xs → slice_range xs 0 (size + count) ≡ take size xs ++ take count (drop size xs)
grown_range xs size count le =
    let whole : size + count - 0 ≡ size + count = omega arith in
    ap (λ (n : ℕ). take n xs) whole ∙ sym (take-append-drop size (take (size + count) xs))
    ∙ ap (λ (l : List ℕ). l ++ drop size (take (size + count) xs)) (take-take size (size + count) xs (omega arith))
    ∙ ap (λ (l : List ℕ). take size xs ++ l) (drop-take size count xs)

-- bytes that were moved to the front
pub moved_front : (xs ys : List ℕ) (start stop : ℕ) → start ≤ stop → stop ≤ length xs → ys ≡ paste xs 0 (drop start xs) (stop - start)
    → take (stop - start) ys ≡ take (stop - start) (drop start xs)
moved_front xs ys start stop le within is =
    let same : stop - start ≡ 0 + (stop - start) = omega arith in
    ap (take (stop - start)) is ∙ ap (λ (n : ℕ). take n (paste xs 0 (drop start xs) (stop - start))) same
    ∙ take-paste xs 0 (drop start xs) (stop - start) (omega arith) (omega (arith, le, within, length-drop start xs))

-- ---- parts of a line

front_of : (front rest : List ℕ) (n : ℕ) → n ≡ length front → take n (front ++ rest) ≡ front
front_of front rest n is = ap (λ (k : ℕ). take k (front ++ rest)) is ∙ take-append_seam front rest

pub whole_part : (bytes : List ℕ) (most place : ℕ) → EndsAt bytes place → place < most → IsPart bytes most (record { count = place + 1; ends = true })
whole_part bytes most place ends lt =
    let inside : place < length bytes = ends.inside in
    let line = take place bytes in
    let size : length line ≡ min place (length bytes) = length-take place bytes in
    let more : line ++ 10 ∷ drop (place + 1) bytes ≡ (line ++ 10 ∷ []) ++ drop (place + 1) bytes = sym (append_assoc line (10 ∷ []) (drop (place + 1) bytes)) in
    let long : length (line ++ 10 ∷ []) ≡ length line + 1 = length-append line (10 ∷ []) in
    let cut : take (place + 1) bytes ≡ line ++ 10 ∷ [] =
    ap (take (place + 1)) (ends.cut ∙ more) ∙ front_of (line ++ 10 ∷ []) (drop (place + 1) bytes) (place + 1) (omega (arith, long, size, inside)) in
    record {
      within = omega (arith, inside);
      few = omega (arith, lt);
      some = λ a b. omega arith;
      whole = λ e. record { line = line; single = ends.single; cut = cut };
      part = λ e. absurd cc;
    }

fewer_ends : (bytes : List ℕ) (n : ℕ) → count_by is_end bytes ≡ 0 → count_by is_end (take n bytes) ≡ 0
fewer_ends bytes n none =
    let least : count_by is_end (take n bytes) ≤ count_by is_end bytes = sum_by-take-le (λ b. cond (is_end b) 1 0) bytes n in
    omega (arith, least, none)

-- no more than wanted of a line that is longer
pub long_part : (bytes : List ℕ) (most place count : ℕ) → EndsAt bytes place → most ≤ place → count ≡ min most (length bytes)
    → IsPart bytes most (record { count = count; ends = false })
long_part bytes most place count ends le is =
    let inside : place < length bytes = ends.inside in
    let less : count ≤ place = omega (arith, inside, le, is) in
    record {
      within = omega (arith, is);
      few = omega (arith, is);
      some = λ a b. omega (arith, is, a, b);
      whole = λ e. absurd cc;
      part = λ e. ap (λ (l : List ℕ). count_by is_end l) (sym (take-take count place bytes less)) ∙ fewer_ends (take place bytes) count ends.single;
    }

-- and of one whose LF wasn't read
pub open_part : (bytes : List ℕ) (most count : ℕ) → count_by is_end bytes ≡ 0 → count ≡ min most (length bytes)
    → IsPart bytes most (record { count = count; ends = false })
open_part bytes most count none is = record {
  within = omega (arith, is);
  few = omega (arith, is);
  some = λ a b. omega (arith, is, a, b);
  whole = λ e. absurd cc;
  part = λ e. fewer_ends bytes count none;
}
