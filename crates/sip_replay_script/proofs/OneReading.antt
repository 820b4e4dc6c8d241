-- A script says its events in one way, and where it says one, none is refused.
use Rattle.std.proofs.Common.{◌≡◌, ℕ, suc, ◌+◌, ◌-◌, ◌<◌, List, [], ◌∷◌, ◌++◌, length, take, Bool, true, false, Option, Some, None, inl, inr, refl, sym, ◌∙◌, ap, ap₂}
use Rattle.std.proofs.Common.{subst, arith, append-nil, append_assoc, length-append}
use Rattle.std.specs.Prelude.{◌==◌, ◌||◌, ◌≢◌, count_by, cond, All}
use Rattle.std.specs.List.{flat_map, list_any}
use Rattle.std.proofs.lemmas.List.Sums.{sum_by-cons}
use Rattle.std.proofs.Math.Seq.{take-append-add}
use Rattle.sip_event.specs.declared.event.Event.{Event}
use Rattle.sip_text.specs.Splits.{in_front, split_at_byte}
use Rattle.sip_replay_script.specs.declared.script.DatagramHead.{DatagramHead}
use Rattle.sip_replay_script.specs.declared.script.EventLine.TheVariants.{Head, Whole}
use Rattle.sip_replay_script.specs.Lines.{IsLine, HasNoLine, is_end}
use Rattle.sip_replay_script.specs.Script.{line_of, datagram_at}
use Rattle.sip_replay_script.specs.Events.{ended, is_dot, said, SaysBytes, SaysDatagram, SaysEvent, IsNoDatagram, IsNoEvent}
use Rattle.sip_replay_script.proofs.LineEnds.{ends_add, one_end}

-- ---- one line

none_first : (t : Bool) (n : ℕ) → cond t 1 0 + n ≡ 0 → (t ≡ false) × (n ≡ 0)
none_first true n e = absurd (omega (arith, e))
none_first false n e = (refl, omega (arith, e))

cut_again : (line rest : List ℕ) → count_by is_end line ≡ 0 → split_at_byte 10 (line ++ 10 ∷ rest) ≡ Some (line, rest)
cut_again [] rest none = refl
cut_again (b ∷ line) rest none =
    let both = none_first (b == 10) (count_by is_end line) (sym (sum_by-cons (λ c. cond (is_end c) 1 0) b line) ∙ none) in
    let later : split_at_byte 10 (line ++ 10 ∷ rest) ≡ Some (line, rest) = cut_again line rest both.1 in
    let here : split_at_byte 10 (b ∷ (line ++ 10 ∷ rest)) ≡ in_front (b ∷ []) (split_at_byte 10 (line ++ 10 ∷ rest)) = rw both.0 refl in
    here ∙ ap (in_front (b ∷ [])) later

some_same : {A : Type 0} (x y : A) → Some x ≡ Some y → x ≡ y
some_same x y e = cc

pair_same : (a x b y : List ℕ) → ◌≡◌ {A = Option (List ℕ × List ℕ)} (Some (a, x)) (Some (b, y)) → (a ≡ b) × (x ≡ y)
pair_same a x b y e =
    let first : List ℕ × List ℕ = (a, x) in
    let second : List ℕ × List ℕ = (b, y) in
    let p : first ≡ second = some_same first second e in
    (ap (λ (q : List ℕ × List ℕ). q.0) p, ap (λ (q : List ℕ × List ℕ). q.1) p)

-- two texts that are the same begin with the same line
pub same_line : (a b x y : List ℕ) → count_by is_end a ≡ 0 → count_by is_end b ≡ 0 → ended a ++ x ≡ ended b ++ y → (a ≡ b) × (x ≡ y)
same_line a b x y none_a none_b h =
    pair_same a x b y (sym (cut_again a x none_a) ∙ ap (split_at_byte 10) (sym (append_assoc a (10 ∷ []) x) ∙ h ∙ append_assoc b (10 ∷ []) y) ∙ cut_again b y none_b)

-- where a text begins with a line, a line stands
line_in_front : (n : ℕ) (line rest : List ℕ) → IsLine line → length line < n → count_by is_end (take n (ended line ++ rest)) ≡ 0 → ⊥
line_in_front n line rest is lt none =
    let size : length (ended line) ≡ length line + 1 = length-append line (10 ∷ []) in
    let sum : length (ended line) + (n - length (ended line)) ≡ n = omega (arith, size, lt) in
    let cut : take n (ended line ++ rest) ≡ ended line ++ take (n - length (ended line)) rest =
    ap (λ m. take m (ended line ++ rest)) (sym sum) ∙ take-append-add (ended line) rest (n - length (ended line)) in
    let count : count_by is_end (ended line ++ take (n - length (ended line)) rest) ≡ count_by is_end (ended line) + count_by is_end
    (take (n - length (ended line)) rest) =
    ends_add (ended line) (take (n - length (ended line)) rest) in
    let all : count_by is_end (ended line ++ take (n - length (ended line)) rest) ≡ 0 = ap (count_by is_end) (sym cut) ∙ none in
    let one : count_by is_end (ended line) ≡ 1 = one_end line is in
    absurd (omega (arith, all, count, one))

pub line_stands : (line rest : List ℕ) → IsLine line → HasNoLine (ended line ++ rest) → ⊥
line_stands line rest is none = line_in_front 200001 line rest is (omega (arith, is.short)) none

-- ---- the lines of a datagram

pub dot_line : IsLine (46 ∷ [])
dot_line = record { short = omega arith; single = refl }

true_or_false : (b : Bool) → b ≡ true → b ≡ false → ⊥
true_or_false true e h = cc
true_or_false false e h = cc

or_both : (a b : Bool) → (a || b) ≡ false → (a ≡ false) × (b ≡ false)
or_both true b e = absurd (cc)
or_both false b e = (refl, e)

no_dot_behind : (line : List ℕ) (lines : List (List ℕ)) → list_any is_dot (line ∷ lines) ≡ false → list_any is_dot lines ≡ false
no_dot_behind line lines none = (or_both (is_dot line) (list_any is_dot lines) none).1

first_line : (line : List ℕ) (lines : List (List ℕ)) → All IsLine (line ∷ lines) → IsLine line
first_line line lines are = are 0 line (omega arith)

other_lines : (line : List ℕ) (lines : List (List ℕ)) → All IsLine (line ∷ lines) → All IsLine lines
other_lines line lines are = λ k d lt. are (suc k) d (omega (arith, lt))

not_dot : (line : List ℕ) (lines : List (List ℕ)) → list_any is_dot (line ∷ lines) ≡ false → 46 ∷ [] ≡ line → ⊥
not_dot line lines none is =
    let fails : is_dot line ≡ false = (or_both (is_dot line) (list_any is_dot lines) none).0 in
    let holds : is_dot line ≡ true = ap is_dot (sym is) in
    true_or_false (is_dot line) holds fails

-- the same lines stand in front of the dot
same_lines : (lines others : List (List ℕ)) (more further : List ℕ) → All IsLine lines → All IsLine others → list_any is_dot lines ≡ false
    → list_any is_dot others ≡ false
    → flat_map ended lines ++ 46 ∷ 10 ∷ more ≡ flat_map ended others ++ 46 ∷ 10 ∷ further → (lines ≡ others) × (more ≡ further)
same_lines [] [] more further are are_others no_dot none h = (refl, (same_line (46 ∷ []) (46 ∷ []) more further refl refl h).1)
same_lines [] (m ∷ others) more further are are_others no_dot none h =
    absurd (not_dot m others none (same_line (46 ∷ []) m more _ refl (first_line m others are_others).single
    (h ∙ append_assoc (ended m) (flat_map ended others) (46 ∷ 10 ∷ further))).0)
same_lines (l ∷ lines) [] more further are are_others no_dot none h =
    absurd (not_dot l lines no_dot (same_line (46 ∷ []) l further _ refl (first_line l lines are).single
    (sym h ∙ append_assoc (ended l) (flat_map ended lines) (46 ∷ 10 ∷ more))).0)
same_lines (l ∷ lines) (m ∷ others) more further are are_others no_dot none h =
    let first = same_line l m _ _ (first_line l lines are).single (first_line m others are_others).single
    (sym (append_assoc (ended l) (flat_map ended lines) (46 ∷ 10 ∷ more)) ∙ h ∙ append_assoc (ended m) (flat_map ended others) (46 ∷ 10 ∷ further)) in
    let rest = same_lines lines others more further (other_lines l lines are) (other_lines m others are_others) (no_dot_behind l lines no_dot)
    (no_dot_behind m others none) first.1 in
    (ap₂ (λ (x : List ℕ) (xs : List (List ℕ)). x ∷ xs) first.0 rest.0, rest.1)

-- a datagram's text and bytes
pub record SameDatagram (text other more further bytes second : List ℕ) : Type 0 where
  pub text_is : text ≡ other
  pub more_is : more ≡ further
  pub bytes_are : bytes ≡ second

dotted : (before text whole bytes more : List ℕ) (says : SaysBytes before whole) → text ≡ before ++ 46 ∷ 10 ∷ []
    → text ++ more ≡ flat_map ended says.lines ++ 46 ∷ 10 ∷ more
dotted before text whole bytes more says is =
    ap (λ (l : List ℕ). l ++ more) (is ∙ ap (λ (l : List ℕ). l ++ 46 ∷ 10 ∷ []) says.text_is) ∙ append_assoc (flat_map ended says.lines) (46 ∷ 10 ∷ []) more

dotted_text : (before text whole : List ℕ) (says : SaysBytes before whole) → text ≡ before ++ 46 ∷ 10 ∷ [] → text ≡ flat_map ended says.lines ++ 46 ∷ 10 ∷ []
dotted_text before text whole says is = is ∙ ap (λ (l : List ℕ). l ++ 46 ∷ 10 ∷ []) says.text_is

same_datagram : (text other more further bytes second : List ℕ) → SaysDatagram text bytes → SaysDatagram other second → text ++ more ≡ other ++ further
    → SameDatagram text other more further bytes second
same_datagram text other more further bytes second a b h =
    let lines = same_lines a.says.lines b.says.lines more further a.says.are_lines b.says.are_lines a.says.no_dot b.says.no_dot
    (sym (dotted a.before text a.whole bytes more a.says a.text_is) ∙ h ∙ dotted b.before other b.whole second further b.says b.text_is) in
    record {
      text_is = dotted_text a.before text a.whole a.says a.text_is ∙ ap (λ (xs : List (List ℕ)). flat_map ended xs ++ 46 ∷ 10 ∷ []) lines.0
          ∙ sym (dotted_text b.before other b.whole b.says b.text_is);
      more_is = lines.1;
      bytes_are = a.kept ∙ ap (take 65508) (a.says.bytes_are ∙ ap (flat_map said) lines.0 ∙ sym b.says.bytes_are) ∙ sym b.kept;
    }

-- ---- one event

-- where two texts begin with a line
lines_meet : (a b text other x y more further : List ℕ) → IsLine a → IsLine b → text ≡ ended a ++ x → other ≡ ended b ++ y → text ++ more ≡ other ++ further
    → (a ≡ b) × (x ++ more ≡ y ++ further)
lines_meet a b text other x y more further is_a is_b text_is other_is h =
    same_line a b (x ++ more) (y ++ further) is_a.single is_b.single
    (sym (ap (λ (l : List ℕ). l ++ more) text_is ∙ append_assoc (ended a) x more) ∙ h ∙ ap (λ (l : List ℕ). l ++ further) other_is ∙ append_assoc (ended b) y further)

no_more : (line text : List ℕ) → text ≡ ended line → text ≡ ended line ++ []
no_more line text is = is ∙ sym (append-nil (ended line))

whole_is : (a b : Event) → Some (Whole a) ≡ Some (Whole b) → a ≡ b
whole_is a b e = cc

head_is : (a b : DatagramHead) → Some (Head a) ≡ Some (Head b) → a ≡ b
head_is a b e = cc

pub not_both : (a : Event) (b : DatagramHead) → Some (Whole a) ≡ Some (Head b) → ⊥
not_both a b e = cc

pub same_event : (text other more further : List ℕ) (event second : Event) → SaysEvent text event → SaysEvent other second → text ++ more ≡ other ++ further
    → (text ≡ other) × (event ≡ second)
same_event text other more further event second (inl a) (inl b) h =
    let lines = lines_meet a.line b.line text other [] [] more further a.is_line b.is_line (no_more a.line text a.text_is) (no_more b.line other b.text_is) h in
    (a.text_is ∙ ap ended lines.0 ∙ sym b.text_is, whole_is event second (sym a.says ∙ ap line_of lines.0 ∙ b.says))
same_event text other more further event second (inl a) (inr b) h =
    let lines = lines_meet a.line b.line text other [] b.rest more further a.is_line b.is_line (no_more a.line text a.text_is) b.text_is h in
    absurd (not_both event b.head (sym a.says ∙ ap line_of lines.0 ∙ b.says))
same_event text other more further event second (inr a) (inl b) h =
    let lines = lines_meet a.line b.line text other a.rest [] more further a.is_line b.is_line a.text_is (no_more b.line other b.text_is) h in
    absurd (not_both second a.head (sym b.says ∙ ap line_of (sym lines.0) ∙ a.says))
same_event text other more further event second (inr a) (inr b) h =
    let lines = lines_meet a.line b.line text other a.rest b.rest more further a.is_line b.is_line a.text_is b.text_is h in
    let head : a.head ≡ b.head = head_is a.head b.head (sym a.says ∙ ap line_of lines.0 ∙ b.says) in
    let rest = same_datagram a.rest b.rest more further a.bytes b.bytes a.lines b.lines lines.1 in
    (a.text_is ∙ ap₂ (λ (l m : List ℕ). ended l ++ m) lines.0 rest.text_is ∙ sym b.text_is, a.event_is ∙ ap₂ datagram_at head rest.bytes_are ∙ sym b.event_is)

-- ---- none is refused

-- the lines of a datagram, and of none
none_of_lines : (lines others : List (List ℕ)) (more rest : List ℕ) → All IsLine lines → All IsLine others → list_any is_dot others ≡ false → HasNoLine rest
    → flat_map ended lines ++ 46 ∷ 10 ∷ more ≡ flat_map ended others ++ rest → ⊥
none_of_lines [] [] more rest are are_others none unended h = line_stands (46 ∷ []) more dot_line (subst HasNoLine (sym h) unended)
none_of_lines (l ∷ lines) [] more rest are are_others none unended h =
    line_stands l (flat_map ended lines ++ 46 ∷ 10 ∷ more) (first_line l lines are) (subst HasNoLine
    (sym h ∙ append_assoc (ended l) (flat_map ended lines) (46 ∷ 10 ∷ more)) unended)
none_of_lines [] (m ∷ others) more rest are are_others none unended h =
    not_dot m others none (same_line (46 ∷ []) m more (flat_map ended others ++ rest) refl (first_line m others are_others).single
    (h ∙ append_assoc (ended m) (flat_map ended others) rest)).0
none_of_lines (l ∷ lines) (m ∷ others) more rest are are_others none unended h =
    let first = same_line l m (flat_map ended lines ++ 46 ∷ 10 ∷ more) (flat_map ended others ++ rest) (first_line l lines are).single
    (first_line m others are_others).single
    (sym (append_assoc (ended l) (flat_map ended lines) (46 ∷ 10 ∷ more)) ∙ h ∙ append_assoc (ended m) (flat_map ended others) rest) in
    none_of_lines lines others more rest (other_lines l lines are) (other_lines m others are_others) (no_dot_behind m others none) unended first.1

no_datagram : (text more bytes rest : List ℕ) → SaysDatagram text bytes → text ++ more ≡ rest → IsNoDatagram rest → ⊥
no_datagram text more bytes rest a h none =
    none_of_lines a.says.lines none.says.lines more none.more a.says.are_lines none.says.are_lines none.says.no_dot none.unended
    (sym (dotted a.before text a.whole bytes more a.says a.text_is) ∙ h ∙ none.cut ∙ ap (λ (l : List ℕ). l ++ none.more) none.says.text_is)

-- where a text begins with a line
begins : (a text x more rest : List ℕ) → text ≡ ended a ++ x → text ++ more ≡ rest → rest ≡ ended a ++ (x ++ more)
begins a text x more rest is h = sym h ∙ ap (λ (l : List ℕ). l ++ more) is ∙ append_assoc (ended a) x more

none_whole : (line : List ℕ) (event : Event) → line_of line ≡ Some (Whole event) → line_of line ≡ None → ⊥
none_whole line event is none = absurd (cc)

none_head : (line : List ℕ) (head : DatagramHead) → line_of line ≡ Some (Head head) → line_of line ≡ None → ⊥
none_head line head is none = absurd (cc)

pub no_refusal : (text more rest : List ℕ) (event : Event) → SaysEvent text event → text ++ more ≡ rest → IsNoEvent rest → ⊥
no_refusal text more rest event (inl a) h (inl unended) =
    line_stands a.line ([] ++ more) a.is_line (subst HasNoLine (begins a.line text [] more rest (no_more a.line text a.text_is) h) unended.1)
no_refusal text more rest event (inl a) h (inr (inl o)) =
    let lines = same_line a.line o.line more o.more a.is_line.single o.is_line.single (sym (begins a.line text [] more rest (no_more a.line text a.text_is) h) ∙ o.cut) in
    none_whole a.line event a.says (ap line_of lines.0 ∙ o.says)
no_refusal text more rest event (inl a) h (inr (inr c)) =
    let lines = same_line a.line c.line more c.more a.is_line.single c.is_line.single (sym (begins a.line text [] more rest (no_more a.line text a.text_is) h) ∙ c.cut) in
    not_both event c.head (sym a.says ∙ ap line_of lines.0 ∙ c.says)
no_refusal text more rest event (inr a) h (inl unended) =
    line_stands a.line (a.rest ++ more) a.is_line (subst HasNoLine (begins a.line text a.rest more rest a.text_is h) unended.1)
no_refusal text more rest event (inr a) h (inr (inl o)) =
    let lines = same_line a.line o.line (a.rest ++ more) o.more a.is_line.single o.is_line.single (sym (begins a.line text a.rest more rest a.text_is h) ∙ o.cut) in
    none_head a.line a.head a.says (ap line_of lines.0 ∙ o.says)
no_refusal text more rest event (inr a) h (inr (inr c)) =
    let lines = same_line a.line c.line (a.rest ++ more) c.more a.is_line.single c.is_line.single (sym (begins a.line text a.rest more rest a.text_is h) ∙ c.cut) in
    no_datagram a.rest more a.bytes c.more a.lines lines.1 c.lines

pub says_something : (text : List ℕ) (event : Event) → SaysEvent text event → text ≢ []
says_something text event (inl a) is = absurd (omega (arith, ap length (sym is ∙ a.text_is), length-append a.line (10 ∷ [])))
says_something text event (inr a) is = absurd (omega (arith, ap length (sym is ∙ a.text_is), length-append (ended a.line) a.rest, length-append a.line (10 ∷ [])))

pub refuses_something : (rest : List ℕ) → IsNoEvent rest → rest ≢ []
refuses_something rest (inl unended) is = unended.0 is
refuses_something rest (inr (inl o)) is = absurd (omega (arith, ap length (sym is ∙ o.cut), length-append (ended o.line) o.more, length-append o.line (10 ∷ [])))
refuses_something rest (inr (inr c)) is = absurd (omega (arith, ap length (sym is ∙ c.cut), length-append (ended c.line) c.more, length-append c.line (10 ∷ [])))
