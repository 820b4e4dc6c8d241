-- The tags of a text.
use Rattle.std.proofs.Common.{◌≡◌, ◌<◌, ◌==◌, ◌&&◌, ℕ, zero, suc, ◌+◌, ◌/◌, ◌%◌, Bool, true, false, cond, List, [], ◌∷◌, ◌++◌, length, decimal}
use Rattle.std.proofs.Common.{arith, refl, ap, ap₂, ◌∙◌, ltb, ltb-true, ne_eqb}
use Rattle.std.specs.Prelude.{codes, fold, if◌then◌else◌}
use Rattle.std.specs.Fmt.{digit_glyph, digits, digits_onto}
use Rattle.std.specs.Str.{byte}
use Rattle.std.proofs.lemmas.List.Sums.{sum_by-append}
use Rattle.sip_audit.specs.Lines.{target_text}
use Rattle.sip_days.specs.declared.call.Call.{Call}
use Rattle.sip_days.specs.Results.{result_of, ring_of, talk_of}
use Rattle.sip_uri.specs.Addresses.{ip_text}
use Rattle.sipd_report.specs.Html.{escaped, escaped_byte}
use Rattle.sipd_report.specs.Totals.{capped}
use Rattle.sipd_calls.specs.declared.notation.Notation.TheVariants.{Html}
use Rattle.sipd_calls.specs.Moments.{iso_text}
use Rattle.sipd_calls.specs.Notation.{Said, Words, Number, Nothing, end_text, first_text, further_text, html_text, html_value}
use Rattle.sipd_calls.specs.Program.{asked_text, call_text, called_member, came_text, ended_said, lasted_text, number_said, result_member}
use Rattle.sipd_calls.specs.Program.{source_member, source_said, start_member, words_said}
use Rattle.sipd_calls.specs.Words.{result_text, ruled_text}
use Rattle.sipd_matrix_forms.specs.Html.{text_block}
use Rattle.sipd_sources.specs.declared.source.Source.{Source}
use Rattle.sipd_sources.specs.declared.source.SourceMoment.{SourceMoment}
use Rattle.sipd_sources.specs.Program.{address_member, heard_text, moment_member, proven_text, source_text, times_text}
use Rattle.sipd_page_sections.specs.declared.entries.Entry.{Entry}
use Rattle.sipd_page_sections.specs.Log.{line_at, line_text, number_text, other_text, same_front, same_text, verdict_text}
use Rattle.sipd_page_sections.specs.Sections.{denial_row, heading, value_cell}
use Rattle.sipd_page_sections.specs.Tags.{tags_in}

-- ---- texts behind one another

behind : (a b : List ℕ) → tags_in (a ++ b) ≡ tags_in a + tags_in b
behind a b = sum_by-append (λ (x : ℕ). cond {A = ℕ} (x == byte "<") 1 0) a b

two : (a b : List ℕ) (i j : ℕ) → tags_in a ≡ i → tags_in b ≡ j → tags_in (a ++ b) ≡ i + j
two a b i j x y = behind a b ∙ ap₂ (λ (n m : ℕ). n + m) x y

three : (a b c : List ℕ) (i j k : ℕ) → tags_in a ≡ i → tags_in b ≡ j → tags_in c ≡ k → tags_in (a ++ b ++ c) ≡ i + j + k
three a b c i j k x y z = two (a ++ b) c (i + j) k (two a b i j x y) z

four : (a b c d : List ℕ) (i j k l : ℕ) → tags_in a ≡ i → tags_in b ≡ j → tags_in c ≡ k → tags_in d ≡ l → tags_in (a ++ b ++ c ++ d) ≡ i + j + k + l
four a b c d i j k l x y z w = two (a ++ b ++ c) d (i + j + k) l (three a b c i j k x y z) w

-- ---- a text that is escaped has none

by_byte : (b : ℕ) (amp lt gt quote tick : Bool) → (b == byte "<") ≡ lt
    → tags_in (cond amp (codes "&amp;") (cond lt (codes "&lt;") (cond gt (codes "&gt;") (cond quote (codes "&quot;") (cond tick (codes "&#39;") (b ∷ [])))))) ≡ 0
by_byte b true lt gt quote tick e = refl
by_byte b false true gt quote tick e = refl
by_byte b false false true quote tick e = refl
by_byte b false false false true tick e = refl
by_byte b false false false false true e = refl
by_byte b false false false false false e = ap (λ (x : Bool). 0 + cond {A = ℕ} x 1 0) e

of_byte : (b : ℕ) → tags_in (escaped_byte b) ≡ 0
of_byte b = by_byte b (b == byte "&") (b == byte "<") (b == byte ">") (b == byte "\"") (b == byte "'") refl

of_text : (text : List ℕ) → tags_in (escaped text) ≡ 0
of_text [] = refl
of_text (b ∷ bs) = two (escaped_byte b) (escaped bs) 0 0 (of_byte b) (of_text bs)

-- ---- nor has a number

glyph_by : (d : ℕ) (low : Bool) → ltb d 10 ≡ low → (cond {A = ℕ} low (48 + d) (87 + d) == byte "<") ≡ false
glyph_by d true is =
    let small : d < 10 = ltb-true d 10 is in
    ne_eqb (48 + d) 60 (λ e. omega (arith, e, small))
glyph_by d false is = ne_eqb (87 + d) 60 (λ e. omega (arith, e))

one_more : (b : ℕ) (text : List ℕ) → (b == byte "<") ≡ false → tags_in (b ∷ text) ≡ tags_in text
one_more b text other =
    ap (λ (x : Bool). fold (λ (n y : ℕ). n + cond {A = ℕ} (y == byte "<") 1 0) (0 + cond {A = ℕ} x 1 0) text) other

digit : (n : ℕ) (text : List ℕ) → tags_in (digit_glyph false (n % 10) ∷ text) ≡ tags_in text
digit n text = one_more (digit_glyph false (n % 10)) text (glyph_by (n % 10) (ltb (n % 10) 10) refl)

digits_by : (k n : ℕ) (text : List ℕ) (last : Bool)
    → tags_in (digits_onto k 10 false (n / 10) (digit_glyph false (n % 10) ∷ text)) ≡ tags_in (digit_glyph false (n % 10) ∷ text)
    → tags_in (cond last (digit_glyph false (n % 10) ∷ text) (digits_onto k 10 false (n / 10) (digit_glyph false (n % 10) ∷ text))) ≡ tags_in text
digits_by k n text true more = digit n text
digits_by k n text false more = more ∙ digit n text

of_digits : (k n : ℕ) (text : List ℕ) → tags_in (digits_onto k 10 false n text) ≡ tags_in text
of_digits zero n text = refl
of_digits (suc k) n text = digits_by k n text (n / 10 == 0) (of_digits k (n / 10) (digit_glyph false (n % 10) ∷ text))

of_number : (n : ℕ) → tags_in (decimal n) ≡ 0
unfolding digits
of_number n = of_digits 64 n []

-- ---- cells and lines

within : (front text back : List ℕ) (i j : ℕ) → tags_in front ≡ i → tags_in text ≡ 0 → tags_in back ≡ j → tags_in (front ++ text ++ back) ≡ i + 0 + j
within front text back i j x none y = three front text back i 0 j x none y

pub of_cell : (text : List ℕ) → tags_in (html_text text) ≡ 2
of_cell text = within (codes "<td>") (escaped text) (codes "</td>") 1 1 refl (of_text text) refl

pub of_block : (text : List ℕ) → tags_in (text_block text) ≡ 2
of_block text = within (codes "<pre>") (escaped text) (codes "</pre>\n") 1 1 refl (of_text text) refl

pub of_heading : (path : List ℕ) → tags_in (heading path) ≡ 2
of_heading path = within (codes "<h2>") (escaped path) (codes "</h2>\n") 1 1 refl (of_text path) refl

pub of_value_cell : (value : List ℕ) → tags_in (value_cell value) ≡ 6
of_value_cell value = within (codes "</th><td><code>") (escaped value) (codes "</code></td></tr>\n") 3 3 refl (of_text value) refl

-- ---- a log

of_same : (count : ℕ) → tags_in (same_text count) ≡ 2
of_same count =
    within (codes "<p class=\"allow\">The log comes out of the records again, byte for byte. Lines: ") (decimal count) (codes "</p>\n") 1 1 refl (of_number count) refl

of_first : (number : ℕ) → tags_in (number_text number) ≡ 2
of_first number =
    within (codes "<p class=\"deny\">The log does not come out of the records again. The first line that differs: ") (decimal number) (codes "</p>\n") 1 1 refl
    (of_number number) refl

of_other : (number : ℕ) (logged own : List ℕ) → tags_in (other_text number logged own) ≡ 10
of_other number logged own =
    three (number_text number) (line_text (codes "<p>In the log:</p>\n") logged) (line_text (codes "<p>By the records:</p>\n") own) 2 4 4 (of_first number)
    (two (codes "<p>In the log:</p>\n") (text_block logged) 2 2 refl (of_block logged))
    (two (codes "<p>By the records:</p>\n") (text_block own) 2 2 refl (of_block own))

verdict_by : (whole : Bool) (same number : ℕ) (logged own : List ℕ)
    → tags_in (if whole then same_text same else other_text number logged own) ≡ (if whole then 2 else 10)
verdict_by true same number logged own = of_same same
verdict_by false same number logged own = of_other number logged own

pub of_verdict : (log lines : List (List ℕ)) → tags_in (verdict_text log lines)
    ≡ (if (same_front log lines == length log) && (same_front log lines == length lines) then 2 else 10)
of_verdict log lines =
    verdict_by ((same_front log lines == length log) && (same_front log lines == length lines)) (same_front log lines) (capped (same_front log lines + 1))
    (line_at (same_front log lines) log) (line_at (same_front log lines) lines)

-- ---- rows

of_said : (said : Said) → tags_in (html_value said) ≡ 2
of_said (Words text) = of_cell text
of_said (Number n) = within (codes "<td class=\"n\">") (decimal n) (codes "</td>") 1 1 refl (of_number n) refl
of_said Nothing = refl

first : (said : Said) → tags_in (codes "<tr>" ++ html_value said) ≡ 3
first said = two (codes "<tr>") (html_value said) 1 2 refl (of_said said)

of_asked : (call : Call) → tags_in (asked_text Html call) ≡ 9
of_asked call =
    four (first_text Html (codes "number") (Number call.decision.number)) (start_member Html call) (further_text Html (codes "caller") (words_said call.decision.who))
    (source_member Html call.source) 3 2 2 2 (first (Number call.decision.number)) (of_said (Words (iso_text call.offset call.decision.at)))
    (of_said (words_said call.decision.who)) (of_said (source_said call.source))

of_came : (call : Call) → tags_in (came_text Html call) ≡ 6
of_came call =
    three (called_member Html call) (further_text Html (codes "rule") (words_said (ruled_text call.decision.outcome call.decision.minute)))
    (result_member Html call) 2 2 2 (of_said (Words (target_text call.decision.target)))
    (of_said (words_said (ruled_text call.decision.outcome call.decision.minute))) (of_said (Words (result_text (result_of call))))

of_lasted : (call : Call) → tags_in (lasted_text Html call) ≡ 8
of_lasted call =
    four (further_text Html (codes "ring_ms") (number_said (ring_of call))) (further_text Html (codes "talk_ms") (number_said (talk_of call)))
    (further_text Html (codes "ended_by") (ended_said call.ending)) (further_text Html (codes "call_id") (words_said call.call_id)) 2 2 2 2
    (of_said (number_said (ring_of call))) (of_said (number_said (talk_of call))) (of_said (ended_said call.ending)) (of_said (words_said call.call_id))

pub of_call : (call : Call) → tags_in (call_text Html call) ≡ 24
of_call call =
    four (asked_text Html call) (came_text Html call) (lasted_text Html call) (end_text Html) 9 6 8 1 (of_asked call) (of_came call) (of_lasted call) refl

of_moment : (name : List ℕ) (moment : SourceMoment) → tags_in (moment_member Html name moment) ≡ 2
of_moment name moment = of_said (Words (iso_text moment.offset moment.at))

of_heard : (s : Source) → tags_in (heard_text Html s) ≡ 7
of_heard s =
    three (address_member Html s.ip) (further_text Html (codes "heard") (Number s.heard)) (further_text Html (codes "asked") (Number s.challenged)) 3 2 2
    (first (Words (ip_text s.ip))) (of_said (Number s.heard)) (of_said (Number s.challenged))

of_proven : (s : Source) → tags_in (proven_text Html s) ≡ 6
of_proven s =
    three (further_text Html (codes "proven") (Number s.proven)) (further_text Html (codes "wrong") (Number s.wrong))
    (further_text Html (codes "names") (Number s.names)) 2 2 2
    (of_said (Number s.proven)) (of_said (Number s.wrong)) (of_said (Number s.names))

of_times : (s : Source) → tags_in (times_text Html s) ≡ 5
of_times s =
    three (moment_member Html (codes "first") s.first) (moment_member Html (codes "last") s.last) (end_text Html) 2 2 1 (of_moment (codes "first") s.first)
    (of_moment (codes "last") s.last) refl

pub of_source : (s : Source) → tags_in (source_text Html s) ≡ 18
of_source s = three (heard_text Html s) (proven_text Html s) (times_text Html s) 7 6 5 (of_heard s) (of_proven s) (of_times s)

pub of_denial : (row : Entry) → tags_in (denial_row row) ≡ 6
of_denial row =
    three (first_text Html (codes "rule") (Words row.key)) (further_text Html (codes "denied") (Number row.value)) (end_text Html) 3 2 1 (first (Words row.key))
    (of_said (Number row.value)) refl
