-- The text of a datagram, put at a place of room part by part.
use Rattle.std.proofs.Common.{◌≡◌, ℕ, ◌+◌, ◌-◌, ◌<◌, ◌≤◌, true, List, [], ◌∷◌, ◌++◌, length, take, drop, get_or, take-append-drop, sym, ap, ap₂, ◌∙◌, arith}
use Rattle.std.proofs.Common.{append_assoc, append-nil}
use Rattle.std.specs.Prelude.{slice_index, slice_set}
use Rattle.std.proofs.lemmas.List.{drop-drop, drop_all, drop_more, length-set, take_more_set}
use Rattle.httparse.specs.Pieces.{AllPassBetween, IsRunIn}
use Rattle.sip_replay_script.specs.Escaped.{byte_text, escaped, is_plain, text_with}
use Rattle.sip_replay_script.proofs.ByteTexts.{escaped_both, escaped_first, escaped_none, escaped_plain, plain_text}
use Rattle.sip_replay_script.proofs.Gathering.{cut_back, two_put}
use Rattle.sip_replay_script.proofs.PlainRuns.{part_plain}

-- ---- the text of one byte

pub plain_put : (xs : List ℕ) (at b : ℕ) → at < length xs → is_plain b ≡ true → take (at + 1) (slice_set xs at b) ≡ take at xs ++ byte_text b
plain_put xs at b fits plain = take_more_set xs at b fits ∙ ap (λ l. take at xs ++ l) (sym (plain_text b plain))

pub letter_put : (xs : List ℕ) (at b letter : ℕ) → at + 2 ≤ length xs → byte_text b ≡ 92 ∷ letter ∷ []
    → take (at + 2) (slice_set (slice_set xs at 92) (at + 1) letter) ≡ take at xs ++ byte_text b
letter_put xs at b letter fits is = two_put xs at 92 letter fits ∙ ap (λ l. take at xs ++ l) (sym is)

three_put : (xs : List ℕ) (at x y z : ℕ) → at + 3 ≤ length xs
    → take (at + 3) (slice_set (slice_set (slice_set xs at x) (at + 1) y) (at + 2) z) ≡ take at xs ++ x ∷ y ∷ z ∷ []
three_put xs at x y z fits =
    let three : at + 3 ≡ at + 2 + 1 = omega arith in
    let ys : List ℕ = slice_set (slice_set xs at x) (at + 1) y in
    let first : length (slice_set xs at x) ≡ length xs = length-set xs at x in
    let long : length ys ≡ length (slice_set xs at x) = length-set (slice_set xs at x) (at + 1) y in
    ap (λ n. take n (slice_set ys (at + 2) z)) three ∙ take_more_set ys (at + 2) z (omega (arith, first, long, fits))
    ∙ ap (λ l. l ++ z ∷ []) (two_put xs at x y (omega (arith, fits))) ∙ append_assoc (take at xs) (x ∷ y ∷ []) (z ∷ [])

pub digits_put : (xs : List ℕ) (at b high low : ℕ) → at + 3 ≤ length xs → byte_text b ≡ 92 ∷ high ∷ low ∷ []
    → take (at + 3) (slice_set (slice_set (slice_set xs at 92) (at + 1) high) (at + 2) low) ≡ take at xs ++ byte_text b
digits_put xs at b high low fits is = three_put xs at 92 high low fits ∙ ap (λ l. take at xs ++ l) (sym is)

-- ---- so many bytes at once

-- what is left behind some more
rest_behind : (bytes : List ℕ) (from run : ℕ) → AllPassBetween is_plain bytes from (from + run)
    → escaped (drop from bytes) ≡ take run (drop from bytes) ++ escaped (drop (from + run) bytes)
rest_behind bytes from run pass =
    ap escaped (sym (take-append-drop run (drop from bytes))) ∙ escaped_both (take run (drop from bytes)) (drop run (drop from bytes))
    ∙ ap₂ (λ (l m : List ℕ). l ++ m) (escaped_plain (take run (drop from bytes)) (part_plain bytes from run pass)) (ap escaped (drop-drop run from bytes))

-- and one that doesn't stand for itself
first_behind : (bytes : List ℕ) (at : ℕ) → at < length bytes → escaped (drop at bytes) ≡ byte_text (slice_index bytes at) ++ escaped (drop (at + 1) bytes)
first_behind bytes at inside = ap escaped (drop_more bytes at 0 inside) ∙ escaped_first (get_or bytes at 0) (drop (at + 1) bytes)

-- all of them stand for themselves
pub whole_put : (bytes old new : List ℕ) (from at run : ℕ) → take (at + 16) new ≡ take at old ++ take 16 (drop from bytes) → IsRunIn is_plain bytes from 16 run
    → 16 ≤ run → text_with new (at + 16) (drop (from + 16) bytes) ≡ text_with old at (drop from bytes)
whole_put bytes old new from at run copied is all =
    let pass : AllPassBetween is_plain bytes from (from + 16) = λ k low high. is.0.1 k low (omega (arith, high, all)) in
    ap (λ l. l ++ escaped (drop (from + 16) bytes)) copied ∙ append_assoc (take at old) (take 16 (drop from bytes)) (escaped (drop (from + 16) bytes))
    ∙ ap (λ l. take at old ++ l) (sym (rest_behind bytes from 16 pass))

-- some of them do, and the next one doesn't
pub run_put : (bytes old mid new : List ℕ) (from at run end : ℕ) → from + 16 ≤ length bytes → at ≤ length old
    → take (at + 16) mid ≡ take at old ++ take 16 (drop from bytes) → IsRunIn is_plain bytes from 16 run → run < 16
    → take end new ≡ take (at + run) mid ++ byte_text (slice_index bytes (from + run)) → at + run < end
    → text_with new (at + (end - at)) (drop (from + (run + 1)) bytes) ≡ text_with old at (drop from bytes)
run_put bytes old mid new from at run end fits room copied is few put more =
    let place : at + (end - at) ≡ end = omega (arith, more) in
    let next : from + (run + 1) ≡ from + run + 1 = omega arith in
    let front : List ℕ = take run (drop from bytes) in
    let byte : List ℕ = byte_text (slice_index bytes (from + run)) in
    let rest : List ℕ = escaped (drop (from + run + 1) bytes) in
    let kept : take (at + run) mid ≡ take at old ++ front = cut_back mid old (drop from bytes) at 16 run (omega (arith, few)) room copied in
    let left : escaped (drop from bytes) ≡ front ++ (byte ++ rest) =
    rest_behind bytes from run is.0.1 ∙ ap (λ l. front ++ l) (first_behind bytes (from + run) (omega (arith, fits, few))) in
    ap₂ (λ n m. take n new ++ escaped (drop m bytes)) place next
    ∙ ap (λ l. l ++ rest) (put ∙ ap (λ l. l ++ byte) kept)
    ∙ append_assoc (take at old ++ front) byte rest ∙ append_assoc (take at old) front (byte ++ rest)
    ∙ ap (λ l. take at old ++ l) (sym left)

-- ---- one by one

pub one_put : (bytes room new total : List ℕ) (end next done : ℕ) → done < length bytes → take next new ≡ take end room ++ byte_text (slice_index bytes done)
    → text_with room end (drop done bytes) ≡ total → text_with new next (drop (done + 1) bytes) ≡ total
one_put bytes room new total end next done inside put so_far =
    ap (λ l. l ++ escaped (drop (done + 1) bytes)) put
    ∙ append_assoc (take end room) (byte_text (slice_index bytes done)) (escaped (drop (done + 1) bytes))
    ∙ ap (λ l. take end room ++ l) (sym (first_behind bytes done inside)) ∙ so_far

pub all_put : (bytes room total : List ℕ) (end done : ℕ) → length bytes ≤ done → text_with room end (drop done bytes) ≡ total → take end room ≡ total
all_put bytes room total end done over so_far =
    sym (append-nil (take end room)) ∙ ap (λ l. take end room ++ l) (sym (ap escaped (drop_all done bytes over) ∙ escaped_none)) ∙ so_far
