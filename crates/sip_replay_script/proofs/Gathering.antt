-- Lines that are copied where they are looked for.
use Rattle.std.proofs.Common.{◌≡◌, ℕ, zero, suc, ◌+◌, ◌-◌, ◌%◌, ◌^◌, ◌<◌, ◌≤◌, Bool, true, false, List, map, w16, [], ◌∷◌, ◌++◌, length, take, drop, get_or, refl, sym}
use Rattle.std.proofs.Common.{ap, subst, ◌∙◌, arith, inl, inr, append-nil, take-add, length-drop, length-append}
use Rattle.std.specs.Prelude.{◌==◌, ◌≢◌, not, count_by, slice_index, slice_set}
use Rattle.std.proofs.lemmas.Bool.{cases_lt, eqb-true, ne_eqb}
use Rattle.std.proofs.lemmas.Simd.{mask_l-lt, mask_l-mod, trailing_mask_l}
use Rattle.std.proofs.lemmas.Nat.Bits.{bit_at-trailing_zeros}
use Rattle.std.proofs.lemmas.List.{get_or-drop, take-take, take_more_set, length-set, length-take-le, length-map, append_assoc, drop-drop}
use lib.Lanes.{mask_l, top}
use lib.Count.{count_trailing_zeros}
use Rattle.std.proofs.Math.Seq.{take-append-add}
use Rattle.httparse.specs.Pieces.{AllPassBetween, IsRunIn, first_set}
use Rattle.sip_replay_script.specs.Lines.{is_end, EndsAt, IsLine}
use Rattle.sip_replay_script.specs.Events.{ended, said, SaysBytes}
use Rattle.sip_replay_script.specs.Gathered.{is_inside, CopiesLine, CopiesLines}
use Rattle.sip_replay_script.proofs.Datagrams.{not_dot, not_stuffed, says_more}
use Rattle.sip_replay_script.proofs.LineEnds.{ends_add, ends_at, one_end}

-- what is kept of what stands at a place
pub cut_back : (new old run : List ℕ) (at k n : ℕ) → n ≤ k → at ≤ length old → take (at + k) new ≡ take at old ++ take k run
    → take (at + n) new ≡ take at old ++ take n run
cut_back new old run at k n le within e =
    let long = length-take-le at old within in
    sym (take-take (at + n) (at + k) new (omega arith)) ∙ ap (take (at + n)) e ∙ ap (λ j. take (j + n) (take at old ++ take k run)) (sym long)
    ∙ take-append-add (take at old) (take k run) n ∙ ap (λ x. take at old ++ x) (take-take n k run le)

no_end : (b : ℕ) → is_inside b ≡ true → is_end b ≡ false
no_end b e = by_test (is_end b) e where
  by_test : (t : Bool) → not t ≡ true → t ≡ false
  by_test true h = absurd cc
  by_test false h = refl

an_end : (b : ℕ) → is_inside b ≡ false → b ≡ 10
an_end b e = eqb-true b 10 (by_test (is_end b) e) where
  by_test : (t : Bool) → not t ≡ false → t ≡ true
  by_test true h = refl
  by_test false h = absurd cc

-- the lowest bit of the mask of sixteen lanes
few_lanes : (lanes : List ℕ) → length lanes ≡ 16 → 0 < mask_l (map (top 7) lanes) → count_trailing_zeros 64 (mask_l (map (top 7) lanes)) < 16
few_lanes lanes long some =
    let sixteen : length (map (top 7) lanes) ≡ 16 = length-map lanes (top 7) ∙ long in
    let few : mask_l (map (top 7) lanes) < 2 ^ 16 = rw sixteen at (mask_l-lt (map (top 7) lanes)) in
    let lowest : count_trailing_zeros 16 (mask_l (map (top 7) lanes)) < 16 = (bit_at-trailing_zeros w16 (mask_l (map (top 7) lanes)) some few).0 in
    let wide = trailing_mask_l (top 7) 64 lanes (omega (arith, long)) some in
    let narrow = trailing_mask_l (top 7) 16 lanes (omega (arith, long)) some in
    omega (arith, wide, narrow, lowest)

-- what one load tells of LF: that none of sixteen bytes is one
pub no_end_in : (text : List ℕ) (at mask : ℕ) → IsRunIn is_inside text at 16 (first_set mask 16) → mask ≡ 0 → AllPassBetween is_inside text at (at + 16)
no_end_in text at mask run none = (subst (λ (m : ℕ). IsRunIn is_inside text at 16 (first_set m 16)) none run).0.1

-- or the place of the first
pub end_in : (text : List ℕ) (at : ℕ) (lanes : List ℕ) → length lanes ≡ 16 → IsRunIn is_inside text at 16 (first_set (mask_l (map (top 7) lanes) % 2 ^ 64) 16)
    → mask_l (map (top 7) lanes) % 2 ^ 64 ≢ 0
    → IsRunIn is_inside text at 16 (count_trailing_zeros 64 (mask_l (map (top 7) lanes) % 2 ^ 64)) × (count_trailing_zeros 64 (mask_l (map (top 7) lanes) % 2 ^ 64) < 16)
end_in text at lanes long run some =
    let mask : ℕ = mask_l (map (top 7) lanes) in
    let sixteen : length (map (top 7) lanes) ≡ 16 = length-map lanes (top 7) ∙ long in
    let whole : mask % 2 ^ 64 ≡ mask = mask_l-mod (map (top 7) lanes) 64 (omega (arith, sixteen)) in
    let first : first_set (mask % 2 ^ 64) 16 ≡ count_trailing_zeros 64 (mask % 2 ^ 64) = rw (ne_eqb (mask % 2 ^ 64) 0 some) refl in (
      subst (λ (r : ℕ). IsRunIn is_inside text at 16 r) first run,
      subst (λ (m : ℕ). count_trailing_zeros 64 m < 16) (sym whole) (few_lanes lanes long (positive mask (λ e. some (whole ∙ e)))),
    )
  where
    positive : (n : ℕ) → n ≢ 0 → 0 < n
    positive zero e = absurd (e refl)
    positive (suc n) e = omega arith

-- a run further
pub passed_more : (text : List ℕ) (from at run : ℕ) → AllPassBetween is_inside text from at → IsRunIn is_inside text at 16 run
    → AllPassBetween is_inside text from (at + run)
passed_more text from at run so_far more k low high = elim (cases_lt k at) [ inl early ↦ so_far k low early | inr late ↦ more.0.1 k late high ]

-- the first LF of what follows a place
pub line_ends : (text : List ℕ) (from done run : ℕ) → AllPassBetween is_inside text from (from + done) → IsRunIn is_inside text (from + done) 16 run → run < 16
    → from + done + 16 ≤ length text
    → EndsAt (drop from text) (done + run)
line_ends text from done run so_far more lt fits =
    let long : length (drop from text) ≡ length text - from = length-drop from text in
    let sum : from + (done + run) ≡ from + done + run = omega arith in
    ends_at (drop from text) (done + run) (omega (arith, long))
    (λ k below.
    let inside : is_inside (get_or text (from + k) 0) ≡ true = passed_more text from (from + done) run so_far more (from + k) (omega arith) (omega (arith, below)) in
    no_end (get_or (drop from text) k 0) (ap is_inside (get_or-drop from text k 0) ∙ inside))
    (an_end (get_or (drop from text) (done + run) 0) (ap is_inside (get_or-drop from text (done + run) 0 ∙ ap (λ n. get_or text n 0) sum) ∙ more.1 lt))

-- sixteen bytes further
pub copied_more : (text old mid new : List ℕ) (at done : ℕ) → take (at + done) mid ≡ take at old ++ take done text
    → take (at + done + 16) new ≡ take (at + done) mid ++ take 16 (drop done text)
    → take (at + (done + 16)) new ≡ take at old ++ take (done + 16) text
copied_more text old mid new at done so_far more =
    let same : at + (done + 16) ≡ at + done + 16 = omega arith in
    ap (λ n. take n new) same ∙ more ∙ ap (λ l. l ++ take 16 (drop done text)) so_far ∙ append_assoc (take at old) (take done text) (take 16 (drop done text))
    ∙ ap (λ l. take at old ++ l) (sym (take-add done 16 text))

-- the same of what follows a place
pub copied_behind : (text old mid new : List ℕ) (from at done : ℕ) → take (at + done) mid ≡ take at old ++ take done (drop from text)
    → take (at + done + 16) new ≡ take (at + done) mid ++ take 16 (drop (from + done) text)
    → take (at + (done + 16)) new ≡ take at old ++ take (done + 16) (drop from text)
copied_behind text old mid new from at done so_far more =
    copied_more (drop from text) old mid new at done so_far (more ∙ ap (λ l. take (at + done) mid ++ take 16 l) (sym (drop-drop done from text)))

pub all_passed : (text : List ℕ) (from at : ℕ) → AllPassBetween is_inside text from at → AllPassBetween is_inside text at (at + 16)
    → AllPassBetween is_inside text from (at + 16)
all_passed text from at so_far more k low high = elim (cases_lt k at) [ inl early ↦ so_far k low early | inr late ↦ more k late high ]

-- what stood before the place stays
pub nothing_before : (new old text : List ℕ) (at done : ℕ) → at ≤ length old → take (at + done) new ≡ take at old ++ take done text → take at new ≡ take at old
nothing_before new old text at done within e =
    let none : at + 0 ≡ at = omega arith in
    sym (ap (λ n. take n new) none) ∙ cut_back new old text at done 0 (omega arith) within e ∙ append-nil (take at old)

-- two bytes, one after the other
pub two_put : (xs : List ℕ) (at x y : ℕ) → at + 2 ≤ length xs → take (at + 2) (slice_set (slice_set xs at x) (at + 1) y) ≡ take at xs ++ x ∷ y ∷ []
two_put xs at x y fits =
    let two : at + 2 ≡ at + 1 + 1 = omega arith in
    let long : length (slice_set xs at x) ≡ length xs = length-set xs at x in
    ap (λ n. take n (slice_set (slice_set xs at x) (at + 1) y)) two ∙ take_more_set (slice_set xs at x) (at + 1) y (omega (arith, long, fits))
    ∙ ap (λ l. l ++ y ∷ []) (take_more_set xs at x (omega (arith, fits))) ∙ append_assoc (take at xs) (x ∷ []) (y ∷ [])

-- ---- lines one after the other

-- a line with its LF
line_and_end : (rest : List ℕ) (size : ℕ) → EndsAt rest size → take (size + 1) rest ≡ ended (take size rest)
line_and_end rest size ends =
    let inside : size < length rest = ends.inside in
    let long : length (take size rest) ≡ size = length-take-le size rest (omega (arith, inside)) in
    ap (take (size + 1)) ends.cut ∙ ap (λ n. take (n + 1) (take size rest ++ 10 ∷ drop (size + 1) rest)) (sym long)
    ∙ take-append-add (take size rest) (10 ∷ drop (size + 1) rest) 1

more_copied : (old mid copied new whole line : List ℕ) (at k size : ℕ) → take (at + k) mid ≡ take at old ++ whole
    → take (at + k + size) copied ≡ take (at + k) mid ++ line
    → take (at + k + size + 2) new ≡ take (at + k + size) copied ++ 13 ∷ 10 ∷ [] → take (at + k + size + 2) new ≡ take at old ++ (whole ++ (line ++ 13 ∷ 10 ∷ []))
more_copied old mid copied new whole line at k size so_far one put =
    put ∙ ap (λ l. l ++ 13 ∷ 10 ∷ []) (one ∙ ap (λ l. l ++ line) so_far) ∙ append_assoc (take at old ++ whole) line (13 ∷ 10 ∷ [])
    ∙ append_assoc (take at old) whole (line ++ 13 ∷ 10 ∷ [])

-- a line more
pub copies_more : (text old mid copied new : List ℕ) (at count lines size : ℕ) → CopiesLines text old mid at count lines
    → CopiesLine (drop count text) mid copied (at + count + lines) size
    → take (at + count + lines + size + 2) new ≡ take (at + count + lines + size) copied ++ 13 ∷ 10 ∷ [] → (slice_index text count == 46) ≡ false → length text ≤ 8192
    → CopiesLines text old new at (count + (size + 1)) (lines + 1)
copies_more text old mid copied new at count lines size c one put undotted few =
    let rest : List ℕ = drop count text in
    let line : List ℕ = take size rest in
    let ends : EndsAt rest size = one.ends in
    let inside : size < length rest = ends.inside in
    let sizes : length rest ≡ length text - count = length-drop count text in
    let long : length line ≡ size = length-take-le size rest (omega (arith, inside)) in
    let zero_on : count + 0 ≡ count = omega arith in
    let first : slice_index rest 0 ≡ slice_index text count = get_or-drop count text 0 0 ∙ ap (λ n. get_or text n 0) zero_on in
    let undot : (slice_index rest 0 == 46) ≡ false = ap (λ b. b == 46) first ∙ undotted in
    let is_line : IsLine line = record { short = omega (arith, long, inside, sizes, few); single = ends.single } in
    let plain : said line ≡ line ++ 13 ∷ 10 ∷ [] = ap (λ l. l ++ 13 ∷ 10 ∷ []) (not_stuffed rest size undot) in
    let more : take (count + (size + 1)) text ≡ take count text ++ ended line = take-add count (size + 1) text
    ∙ ap (λ l. take count text ++ l) (line_and_end rest size ends) in
    let single : count_by is_end (ended line) ≡ 1 = one_end line is_line in
    let sum : count_by is_end (take count text ++ ended line) ≡ count_by is_end (take count text) + count_by is_end (ended line) = ends_add (take count text) (ended line)
    in
    let counted : count_by is_end (take count text) ≡ lines = c.counted in
    let size_so_far : length c.whole ≡ count + lines = c.size in
    let both : length (c.whole ++ said line) ≡ length c.whole + length (said line) = length-append c.whole (said line) in
    let said_long : length (said line) ≡ size + 2 = ap length plain ∙ length-append line (13 ∷ 10 ∷ []) ∙ ap (λ n. n + 2) long in
    let fewer : lines ≤ count = c.fewer in
    let k : at + count + lines ≡ at + (count + lines) = omega arith in
    let end : at + (count + (size + 1) + (lines + 1)) ≡ at + (count + lines) + size + 2 = omega arith in
    let one_at : take (at + (count + lines) + size) copied ≡ take (at + (count + lines)) mid ++ line =
    subst (λ (n : ℕ). take (n + size) copied ≡ take n mid ++ line) k one.copied in
    let put_at : take (at + (count + lines) + size + 2) new ≡ take (at + (count + lines) + size) copied ++ 13 ∷ 10 ∷ [] =
    subst (λ (n : ℕ). take (n + size + 2) new ≡ take (n + size) copied ++ 13 ∷ 10 ∷ []) k put in
    record {
      whole = c.whole ++ said line;
      within = omega (arith, inside, sizes);
      says = subst (λ l. SaysBytes l (c.whole ++ said line)) (sym more) (says_more (take count text) c.whole line c.says is_line (not_dot rest size undot));
      counted = ap (count_by is_end) more ∙ omega (arith, sum, single, counted);
      size = omega (arith, both, said_long, size_so_far);
      fewer = omega (arith, fewer);
      copied = ap (λ n. take n new) end ∙ more_copied old mid copied new c.whole line at (count + lines) size c.copied one_at put_at
          ∙ ap (λ l. take at old ++ (c.whole ++ l)) (sym plain);
    }
