-- Text that says an event, cut before its end, says none.
use Rattle.std.proofs.Common.{◌≡◌, ◌≢◌, ℕ, suc, ◌+◌, List, [], ◌∷◌, ◌++◌, length, take, drop, get_or, false, refl, sym, ◌∙◌, ap, arith, inl, inr, append_assoc}
use Rattle.std.proofs.Common.{take-append-drop}
use Rattle.std.specs.Prelude.{◌⊎◌, count_by, All}
use Rattle.std.specs.List.{flat_map, list_any}
use Rattle.std.proofs.lemmas.Bool.{or_parts}
use Rattle.sip_event.specs.declared.event.Event.{Event}
use Rattle.sip_replay_script.specs.Lines.{IsLine, HasNoLine, is_end}
use Rattle.sip_replay_script.specs.Events.{ended, is_dot, said, SaysDatagram, SaysEvent, IsNoDatagram, IsNoEvent}
use Rattle.sip_replay_script.proofs.Datagrams.{no_lines, says_more, says_both}
use Rattle.sip_replay_script.proofs.LineEnds.{ends_add}

-- ---- where a text is cut that has two parts

pub head_is : (a b : ℕ) (xs ys : List ℕ) → a ∷ xs ≡ b ∷ ys → a ≡ b
head_is a b xs ys e = ap (λ (l : List ℕ). get_or l 0 0) e

pub tail_is : (a b : ℕ) (xs ys : List ℕ) → a ∷ xs ≡ b ∷ ys → xs ≡ ys
tail_is a b xs ys e = ap (λ (l : List ℕ). drop 1 l) e

-- within the first of them
pub record CutsFirst (first front : List ℕ) : Type 0 where
  pub more : List ℕ
  pub some : more ≢ []
  pub is : first ≡ front ++ more

-- or behind it
pub record CutsSecond (first second front rest : List ℕ) : Type 0 where
  pub more : List ℕ
  pub is : front ≡ first ++ more
  pub left : second ≡ more ++ rest

one_first : (b c : ℕ) (first front : List ℕ) → b ≡ c → CutsFirst first front → CutsFirst (b ∷ first) (c ∷ front)
one_first b c first front e h = record { more = h.more; some = h.some; is = ap (λ (k : ℕ). k ∷ first) e ∙ ap (λ (l : List ℕ). c ∷ l) h.is }

one_second : (b c : ℕ) (first second front rest : List ℕ) → b ≡ c → CutsSecond first second front rest → CutsSecond (b ∷ first) second (c ∷ front) rest
one_second b c first second front rest e h = record { more = h.more; is = ap (λ (k : ℕ). k ∷ front) (sym e) ∙ ap (λ (l : List ℕ). b ∷ l) h.is; left = h.left }

pub not_nil : (b : ℕ) (bs : List ℕ) → b ∷ bs ≢ []
not_nil b bs e = absurd (let none : length (b ∷ bs) ≡ 0 = ap length e in omega (arith, none))

pub cut_at : (first second front rest : List ℕ) → first ++ second ≡ front ++ rest → CutsFirst first front ⊎ CutsSecond first second front rest
cut_at [] second front rest e = inr (record { more = front; is = refl; left = e })
cut_at (b ∷ first) second [] rest e = inl (record { more = b ∷ first; some = not_nil b first; is = refl })
cut_at (b ∷ first) second (c ∷ front) rest e =
    let same : b ≡ c = head_is b c (first ++ second) (front ++ rest) e in
    elim (cut_at first second front rest (tail_is b c (first ++ second) (front ++ rest) e)) [
      | inl h ↦ inl (one_first b c first front same h)
      | inr h ↦ inr (one_second b c first second front rest same h)
    ]

-- ---- cut in a line

front_of_nil : (front rest : List ℕ) → [] ≡ front ++ rest → rest ≡ []
front_of_nil [] rest e = sym e
front_of_nil (b ∷ front) rest e = absurd (not_nil b (front ++ rest) (sym e))

-- a line cut before its end has no LF
cut_line : (line front rest : List ℕ) → count_by is_end line ≡ 0 → ended line ≡ front ++ rest → rest ≢ [] → count_by is_end front ≡ 0
cut_line line [] rest single e some = refl
cut_line [] (b ∷ front) rest single e some = absurd (some (front_of_nil front rest (tail_is 10 b [] (front ++ rest) e)))
cut_line (a ∷ line) (b ∷ front) rest single e some =
    let one : count_by is_end (a ∷ []) + count_by is_end line ≡ 0 = sym (ends_add (a ∷ []) line) ∙ single in
    let same : a ≡ b = head_is a b (ended line) (front ++ rest) e in
    let later : count_by is_end front ≡ 0 = cut_line line front rest (omega (arith, one)) (tail_is a b (ended line) (front ++ rest) e) some in
    let first : count_by is_end (b ∷ []) ≡ count_by is_end (a ∷ []) = ap (λ (k : ℕ). count_by is_end (k ∷ [])) (sym same) in
    let sum : count_by is_end (b ∷ front) ≡ count_by is_end (b ∷ []) + count_by is_end front = ends_add (b ∷ []) front in
    omega (arith, one, later, first, sum)

pub no_line : (text : List ℕ) → count_by is_end text ≡ 0 → HasNoLine text
no_line text none =
    let sum : count_by is_end (take 200001 text ++ drop 200001 text) ≡ count_by is_end (take 200001 text) + count_by is_end (drop 200001 text) =
    ends_add (take 200001 text) (drop 200001 text) in
    let same : count_by is_end (take 200001 text ++ drop 200001 text) ≡ count_by is_end text = ap (count_by is_end) (take-append-drop 200001 text) in
    omega (arith, none, sum, same)

-- ---- cut in the lines of a datagram

unended : (front : List ℕ) → count_by is_end front ≡ 0 → IsNoDatagram front
unended front none = record { front = []; bytes = []; more = front; cut = refl; says = no_lines; unended = no_line front none }

-- one line more in front
one_more : (line front more : List ℕ) → IsLine line → is_dot line ≡ false → front ≡ ended line ++ more → IsNoDatagram more → IsNoDatagram front
one_more line front more is_line no_dot e d = record {
  front = ended line ++ d.front;
  bytes = said line ++ d.bytes;
  more = d.more;
  cut = e ∙ ap (λ (l : List ℕ). ended line ++ l) d.cut ∙ sym (append_assoc (ended line) d.front d.more);
  says = says_both (ended line) (said line) d.front d.bytes (says_more [] [] line no_lines is_line no_dot) d.says;
  unended = d.unended;
}

later_lines : (line : List ℕ) (lines : List (List ℕ)) → All IsLine (line ∷ lines) → All IsLine lines
later_lines line lines are k d lt = are (suc k) d (omega (arith, lt))

cut_lines : (lines : List (List ℕ)) (front rest : List ℕ) → All IsLine lines → list_any is_dot lines ≡ false → flat_map ended lines ++ 46 ∷ 10 ∷ [] ≡ front ++ rest
    → rest ≢ [] → IsNoDatagram front
cut_lines [] front rest are no_dot e some = unended front (cut_line (46 ∷ []) front rest refl e some)
cut_lines (line ∷ lines) front rest are no_dot e some =
    let first : IsLine line = are 0 [] (omega arith) in
    let tests = or_parts (is_dot line) (list_any is_dot lines) no_dot in
    elim (cut_at (ended line) (flat_map ended lines ++ 46 ∷ 10 ∷ []) front rest (sym (append_assoc (ended line) (flat_map ended lines) (46 ∷ 10 ∷ [])) ∙ e)) [
      | inl h ↦ unended front (cut_line line front h.more first.single h.is h.some)
      | inr h ↦ one_more line front h.more first tests.0 h.is (cut_lines lines h.more rest (later_lines line lines are) tests.1 h.left some)
    ]

cut_datagram : (text bytes front rest : List ℕ) → SaysDatagram text bytes → text ≡ front ++ rest → rest ≢ [] → IsNoDatagram front
cut_datagram text bytes front rest d e some =
    cut_lines d.says.lines front rest d.says.are_lines d.says.no_dot (ap (λ (l : List ℕ). l ++ 46 ∷ 10 ∷ []) (sym d.says.text_is) ∙ sym d.text_is ∙ e) some

-- ---- cut in an event

pub cut_event : (event : Event) (front rest : List ℕ) → SaysEvent (front ++ rest) event → front ≢ [] → rest ≢ [] → IsNoEvent front
cut_event event front rest (inl w) begun some = inl (begun, no_line front (cut_line w.line front rest w.is_line.single (sym w.text_is) some))
cut_event event front rest (inr h) begun some =
    elim (cut_at (ended h.line) h.rest front rest (sym h.text_is)) [
      | inl c ↦ inl (begun, no_line front (cut_line h.line front c.more h.is_line.single c.is c.some))
      | inr c ↦ inr (inr (record {
        line = h.line;
        head = h.head;
        more = c.more;
        is_line = h.is_line;
        cut = c.is;
        says = h.says;
        lines = cut_datagram h.rest h.bytes c.more rest h.lines c.left some;
      }))
    ]
