-- What the bytes at the front of a line say of it.
use Rattle.std.proofs.Common.{◌≡◌, ℕ, ◌+◌, ◌<◌, ◌≤◌, min, List, ◌∷◌, ◌++◌, length, take, drop, None, sym, ap, ◌∙◌, arith, append_assoc, length-append}
use Rattle.std.proofs.Common.{take-append-drop}
use Rattle.std.specs.Prelude.{count_by}
use Rattle.std.proofs.lemmas.List.{take_all, take_min, take-take, length-take}
use Rattle.sip_replay_script.specs.Lines.{is_end, BeginsWith, EndsAt}
use Rattle.sip_record_omitted.specs.declared.front.Front.{Front}
use Rattle.sip_record_omitted.specs.declared.front.Front.TheVariants.{Omitted, Stays, Short}
use Rattle.sip_record_omitted.specs.Omitted.{expanded, omitted_of, passed}
use Rattle.sip_record_omitted.specs.Fronts.{BeginsPlain, IsFront, IsSaidBy}
use Rattle.sip_record_omitted.proofs.LineLaws.{longer_is_none}
use Rattle.sip_record_omitted.proofs.Texts.{line_stays, long_stays}

-- ---- the first LF among the first 28 bytes

among : (bytes : List ℕ) (count : ℕ) → count ≡ min 28 (length bytes) → take count bytes ≡ take 28 bytes
among bytes count is = ap (λ (n : ℕ). take n bytes) is ∙ take_min 28 bytes

pub none_among : (bytes : List ℕ) (count : ℕ) → count ≡ min 28 (length bytes) → count_by is_end (take count bytes) ≡ 0 → count_by is_end (take 28 bytes) ≡ 0
none_among bytes count is none = ap (λ (l : List ℕ). count_by is_end l) (sym (among bytes count is)) ∙ none

pub ends_among : (bytes : List ℕ) (count place : ℕ) → count ≡ min 28 (length bytes) → EndsAt (take count bytes) place
    → (place < 28) × BeginsWith bytes (take place bytes)
ends_among bytes count place is ends =
    let inside : place < length (take count bytes) = ends.inside in
    let most : length (take count bytes) ≡ min count (length bytes) = length-take count bytes in
    let few : place < 28 = omega (arith, inside, most, is) in
    let same : take place (take count bytes) ≡ take place bytes = take-take place count bytes (omega (arith, inside, most)) in
    let short : length (take place bytes) ≡ min place (length bytes) = length-take place bytes in
    let behind = drop (place + 1) (take count bytes) in (
      few,
      record {
        rest = behind ++ drop count bytes;
        is_line = record {
          short = omega (arith, short, few);
          single = ap (λ (l : List ℕ). count_by is_end l) (sym same) ∙ ends.single;
        };
        cut = sym (take-append-drop count bytes) ∙ ap (λ (l : List ℕ). l ++ drop count bytes) ends.cut
            ∙ append_assoc (take place (take count bytes)) (10 ∷ behind) (drop count bytes)
            ∙ ap (λ (l : List ℕ). l ++ 10 ∷ (behind ++ drop count bytes)) same;
      },
    )

-- ---- what they say

some_there : (bytes line rest : List ℕ) → bytes ≡ line ++ 10 ∷ rest → 1 ≤ length bytes
some_there bytes line rest cut =
    let size : length (line ++ 10 ∷ rest) ≡ length line + length (10 ∷ rest) = length-append line (10 ∷ rest) in
    omega (arith, size, ap length cut)

plain : (bytes line : List ℕ) → BeginsWith bytes line → omitted_of line ≡ None → BeginsPlain bytes
plain bytes line b none = record {
  some = some_there bytes line b.rest b.cut;
  stays = λ rest.
      let cut : bytes ++ rest ≡ line ++ 10 ∷ (b.rest ++ rest) = ap (λ (l : List ℕ). l ++ rest) b.cut ∙ append_assoc line (10 ∷ b.rest) rest in
      ap (λ (l : List ℕ). expanded l) cut ∙ line_stays line (b.rest ++ rest) b.is_line.single none ∙ ap (λ (l : List ℕ). passed l) (sym cut);
}

pub front_said : (said : Front) (bytes line : List ℕ) → BeginsWith bytes line → IsSaidBy said line → IsFront said bytes
front_said (Omitted count size) bytes line begins says = record { line = line; begins = begins; size_is = says.1; says = says.0 }
front_said Stays bytes line begins says = plain bytes line begins says
front_said Short bytes line begins says = absurd says

pub front_long : (bytes : List ℕ) → 28 ≤ length bytes → count_by is_end (take 28 bytes) ≡ 0 → BeginsPlain bytes
front_long bytes long none =
    let front = take 28 bytes in
    let size : length front ≡ min 28 (length bytes) = length-take 28 bytes in
    record {
      some = omega (arith, long);
      stays = λ rest.
          let cut : bytes ++ rest ≡ front ++ (drop 28 bytes ++ rest) =
          ap (λ (l : List ℕ). l ++ rest) (sym (take-append-drop 28 bytes)) ∙ append_assoc front (drop 28 bytes) rest in
          let never : (more : List ℕ) → omitted_of (front ++ more) ≡ None =
          λ more. let sum : length (front ++ more) ≡ length front + length more = length-append front more in
          longer_is_none (front ++ more) (omega (arith, sum, size, long)) in
          ap (λ (l : List ℕ). expanded l) cut ∙ long_stays front (drop 28 bytes ++ rest) none never ∙ ap (λ (l : List ℕ). passed l) (sym cut);
    }

pub front_short : (bytes : List ℕ) → length bytes < 28 → count_by is_end (take 28 bytes) ≡ 0 → (length bytes < 28) × (count_by is_end bytes ≡ 0)
front_short bytes few none = (few, ap (λ (l : List ℕ). count_by is_end l) (sym (take_all 28 bytes (omega (arith, few)))) ∙ none)
