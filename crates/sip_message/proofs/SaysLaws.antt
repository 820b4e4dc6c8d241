-- What is read is what the bytes say.
use Rattle.std.proofs.Common.{◌≡◌, ◌≢◌, ℕ, ◌<◌, ◌≤◌, Bool, true, false, cond, List, [], ◌∷◌, ◌++◌, length, take, Option, Some, None, Result, Ok, Err, refl, sym, ap}
use Rattle.std.proofs.Common.{subst, ◌∙◌, arith, inl, inr}
use Rattle.std.specs.Prelude.{option_map, nat_lt, IfOk, IfErr, ◌↔◌, ◌⊎◌}
use Rattle.std.specs.Result.{result_err}
use Rattle.std.specs.Option.{ok_or}
use Rattle.std.proofs.lemmas.Bool.{ltb-false, le-ltb, lt-ltb}
use Rattle.std.proofs.lemmas.List.{length-take, length-take-le}
use Rattle.sip_text.specs.Words.{decimal_of}
use Rattle.sip_message_form.specs.declared.error.ReadError.{ReadError}
use Rattle.sip_message_form.specs.declared.error.ReadError.TheVariants.{NoMemory, TooLong, NotSip, BadField, TooManyFields, ShortBody}
use Rattle.sip_message_fields.specs.declared.field.Field.{Field}
use Rattle.sip_message_form.specs.declared.message.Start.{Start}
use Rattle.sip_message_form.specs.declared.message.Message.{Message}
use Rattle.sip_message.specs.Lines.{after_blanks, line_at, lines_at, unfolded, head_at, as_lines}
use Rattle.sip_message.specs.Start.{start_of}
use Rattle.sip_message.specs.Field.{entries_of, kept, IsField}
use Rattle.sip_message.specs.Body.{lengths, one_length, body_of, is_short, IsBody}
use Rattle.sip_message_form.specs.Text.{text_of}
use Rattle.sip_message.specs.Says.{Says, IsWithinLimits}
use Rattle.sip_message.specs.Reading.{◌>>=◌, Gives, with_body, limited, message_from, datagram_of, reading_of, fault_of}
use Rattle.std.specs.List.{AllZip}
use Rattle.sip_message.proofs.FieldLaws.{entries_zip, zip_entries}
use Rattle.sip_message.proofs.StartLaws.{start_is, start_found}
use Rattle.sip_message.proofs.CutLaws.{some_is, pair_is, cut_is, cut_first, lines_again}

pub bind_ok : {A B : Type 0} (r : Result A ReadError) (f : A → Result B ReadError) (y : B) → (r >>= f) ≡ Ok y → (x : A) × (r ≡ Ok x) × (f x ≡ Ok y)
bind_ok (Ok x) f y e = (x, refl, e)
bind_ok (Err d) f y e = absurd cc

pub found : {A : Type 0} (o : Option A) (d : ReadError) (x : A) → ok_or o d ≡ Ok x → o ≡ Some x
found None d x e = absurd cc
found (Some y) d x e = ap (λ w. Some w) cc

pub passes : {A : Type 0} (b : Bool) (d : ReadError) (r : Result A ReadError) (x : A) → cond b (Err d) r ≡ Ok x → (b ≡ false) × (r ≡ Ok x)
passes true d r x e = absurd cc
passes false d r x e = (refl, e)

ok_is : {A : Type 0} (x y : A) → ◌≡◌ {A = Result A ReadError} (Ok x) (Ok y) → x ≡ y
ok_is x y e = cc

-- ---- the body

body_part : (ls : List (List ℕ)) (l : Option ℕ) (rest : List ℕ) → one_length ls ≡ Some l → is_short l rest ≡ false → IsBody ls rest (body_of l rest)
body_part [] l rest e short =
    let n : None ≡ l = some_is None l e in
    rw (← n) refl
body_part (d ∷ []) l rest e short = by_number (decimal_of d) refl e short
  where
    by_number : (o : Option ℕ) → decimal_of d ≡ o → option_map (λ n. Some n) o ≡ Some l → is_short l rest ≡ false → IsBody (d ∷ []) rest (body_of l rest)
    by_number None is e' short' = absurd cc
    by_number (Some n) is e' short' =
        let same : Some n ≡ l = some_is (Some n) l e' in
        let long : nat_lt (length rest) n ≡ false = ap (λ k. is_short k rest) same ∙ short' in
        let len : length (take n rest) ≡ n = length-take-le n rest (ltb-false (length rest) n long) in
        subst (λ k. IsBody (d ∷ []) rest (body_of k rest)) same (is ∙ ap (λ (k : ℕ). Some k) (sym len), ap (λ (k : ℕ). take k rest) (sym len))
body_part (d ∷ f ∷ ds) l rest e short = absurd cc

record IsLengthOf (ls : List (List ℕ)) (rest body : List ℕ) : Type 0 where
  number : Option ℕ
  is_one : one_length ls ≡ Some number
  long : is_short number rest ≡ false
  part : body_of number rest ≡ body

take_len : (body rest : List ℕ) → body ≡ take (length body) rest → length body ≤ length rest
take_len body rest e = omega (arith, length-take (length body) rest, ap length e)

length_of_body : (ls : List (List ℕ)) (rest body : List ℕ) → IsBody ls rest body → IsLengthOf ls rest body
length_of_body [] rest body is = record { number = None; is_one = refl; long = refl; part = sym is }
length_of_body (d ∷ []) rest body is = record {
  number = Some (length body);
  is_one = ap (option_map (λ n. Some n)) is.0;
  long = le-ltb (length rest) (length body) (take_len body rest is.1);
  part = sym is.1;
}
length_of_body (d ∷ f ∷ ds) rest body is = absurd is

-- ---- the whole

pub first_some : (start : Start) (first : List ℕ) → start_of first ≡ Some start → first ≢ []
first_some start first e none =
    let never : None ≡ Some start = ap start_of (sym none) ∙ e in
    cc

head_lines : (bytes : List ℕ) (x : List (List ℕ) × List ℕ) → head_at bytes ≡ Some x → (lines : List (List ℕ)) × (lines_at false bytes ≡ Some (lines, x.1))
    × (unfolded lines ≡ x.0)
head_lines bytes x e = by_lines (lines_at false bytes) refl e
  where
    by_lines : (o : Option (List (List ℕ) × List ℕ)) → lines_at false bytes ≡ o → option_map (λ x. (unfolded x.0, x.1)) o ≡ Some x
        → (lines : List (List ℕ)) × (lines_at false bytes ≡ Some (lines, x.1)) × (unfolded lines ≡ x.0)
    by_lines None is e' = absurd cc
    by_lines (Some y) is e' =
        let p = pair_is (unfolded y.0, y.1) x e' in
        (y.0, is ∙ ap (λ (w : List ℕ). Some (y.0, w)) p.1, p.0)

record IsFrom (start : Start) (lines : List (List ℕ)) (rest : List ℕ) (m : Message) : Type 0 where
  entries : List Field
  start_is : start ≡ m.start
  are_entries : entries_of lines ≡ Some entries
  are_kept : kept entries ≡ Some m.fields
  is_body : IsBody (lengths entries) rest m.body
  few : length m.fields ≤ 256
  small : length (text_of m) ≤ 49152

message_is : (start : Start) (lines : List (List ℕ)) (rest : List ℕ) (m : Message) → message_from start lines rest ≡ Ok m → IsFrom start lines rest m
unfolding message_from
message_is start lines rest m e =
    let a = bind_ok (ok_or (entries_of lines) BadField) (λ entries. ok_or (one_length (lengths entries)) BadField >>= λ n. ok_or (kept entries) BadField >>=
    λ fields. limited (is_short n rest) (with_body start fields n rest)) m e in
    let b = bind_ok (ok_or (one_length (lengths a.0)) BadField) (λ n. ok_or (kept a.0) BadField >>= λ fields. limited (is_short n rest) (with_body start fields n rest)) m
    a.2 in
    let c = bind_ok (ok_or (kept a.0) BadField) (λ fields. limited (is_short b.0 rest) (with_body start fields b.0 rest)) m b.2 in
    let whole : Message = with_body start c.0 b.0 rest in
    let g = passes (nat_lt 256 (length c.0)) TooManyFields (cond (nat_lt 49152 (length (text_of whole))) (Err TooLong)
    (cond (is_short b.0 rest) (Err (ShortBody whole)) (Ok whole))) m c.2 in
    let h = passes (nat_lt 49152 (length (text_of whole))) TooLong (cond (is_short b.0 rest) (Err (ShortBody whole)) (Ok whole)) m g.1 in
    let i = passes (is_short b.0 rest) (ShortBody whole) (Ok whole) m h.1 in
    let same : whole ≡ m = ok_is whole m i.1 in
    subst (IsFrom start lines rest) same (record {
      entries = a.0;
      start_is = refl;
      are_entries = found (entries_of lines) BadField a.0 a.1;
      are_kept = found (kept a.0) BadField c.0 c.1;
      is_body = body_part (lengths a.0) b.0 rest (found (one_length (lengths a.0)) BadField b.0 b.1) i.0;
      few = ltb-false 256 (length c.0) g.0;
      small = ltb-false 49152 (length (text_of whole)) h.0;
    })

-- what is read is said
pub says_of : (bytes : List ℕ) (m : Message) → reading_of bytes ≡ Ok m → Says bytes m × IsWithinLimits bytes m
unfolding reading_of datagram_of
says_of bytes m e =
    let w = passes (nat_lt 65507 (length bytes)) TooLong (datagram_of bytes) m e in
    let a = bind_ok (ok_or (line_at (after_blanks bytes)) NotSip) (λ first. ok_or (start_of first.0) NotSip >>= λ start. ok_or (head_at first.1) NotSip >>=
    λ head. message_from start head.0 head.1) m w.1 in
    let b = bind_ok (ok_or (start_of a.0.0) NotSip) (λ start. ok_or (head_at a.0.1) NotSip >>= λ head. message_from start head.0 head.1) m a.2 in
    let c = bind_ok (ok_or (head_at a.0.1) NotSip) (λ head. message_from b.0 head.0 head.1) m b.2 in
    let f : IsFrom b.0 c.0.0 c.0.1 m = message_is b.0 c.0.0 c.0.1 m c.2 in
    let is_start : start_of a.0.0 ≡ Some b.0 = found (start_of a.0.0) NotSip b.0 b.1 in
    let l = head_lines a.0.1 c.0 (found (head_at a.0.1) NotSip c.0 c.1) in (
      record {
        first = a.0.0;
        lines = l.0;
        rest = c.0.1;
        entries = f.entries;
        is_cut = cut_is bytes a.0.0 a.0.1 l.0 c.0.1 (found (line_at (after_blanks bytes)) NotSip a.0 a.1) (first_some b.0 a.0.0 is_start) l.1;
        is_start = start_is a.0.0 m.start (is_start ∙ ap (λ s. Some s) f.start_is);
        are_entries = subst (λ ls. AllZip IsField ls f.entries) (sym l.2) (entries_zip c.0.0 f.entries f.are_entries);
        are_kept = f.are_kept;
        is_body = f.is_body;
      },
      record { datagram = ltb-false 65507 (length bytes) w.0; fields = f.few; written = f.small },
    )

-- what is said is read
pub reading_is : (bytes : List ℕ) (m : Message) → Says bytes m → IsWithinLimits bytes m → reading_of bytes ≡ Ok m
unfolding reading_of datagram_of message_from
reading_is bytes m s w =
    let first = cut_first bytes s.first s.lines s.rest s.is_cut in
    let head : head_at (as_lines s.lines ++ 13 ∷ 10 ∷ s.rest) ≡ Some (unfolded s.lines, s.rest) =
    ap (option_map (λ x. (unfolded x.0, x.1))) (lines_again s.lines s.rest s.is_cut.are_lines) in
    let n : IsLengthOf (lengths s.entries) s.rest m.body = length_of_body (lengths s.entries) s.rest m.body s.is_body in
    let few : nat_lt 256 (length m.fields) ≡ false = le-ltb 256 (length m.fields) w.fields in
    let small : nat_lt 49152 (length (text_of m)) ≡ false = le-ltb 49152 (length (text_of m)) w.written in
    let fits : nat_lt 65507 (length bytes) ≡ false = le-ltb 65507 (length bytes) w.datagram in
    let last : limited false m ≡ Ok m = rw (few, small) refl in
    rw (fits, first, start_found s.first m.start s.is_start, head, zip_entries (unfolded s.lines) s.entries s.are_entries, n.is_one, s.are_kept, n.long, n.part) last

pub is_said : (bytes : List ℕ) (r : Result Message ReadError) → Gives (λ m. m) r (reading_of bytes) → IfOk r (λ m. Says bytes m × IsWithinLimits bytes m)
is_said bytes (Ok m) e = says_of bytes m e
is_said bytes (Err d) e = tt

-- ---- one message

abbrev made : Start → List Field → List ℕ → Message
made start fields body = record { start = start; fields = fields; body = body }

pub same_message : (m n : Message) → m.start ≡ n.start → m.fields ≡ n.fields → m.body ≡ n.body → m ≡ n
same_message m n s f b = ap (λ x. made x m.fields m.body) s ∙ ap (λ x. made n.start x m.body) f ∙ ap (λ x. made n.start n.fields x) b

pub one_said : (bytes : List ℕ) (m n : Message) → Says bytes m → Says bytes n → m ≡ n
one_said bytes m n s t =
    let p = pair_is (s.first, as_lines s.lines ++ 13 ∷ 10 ∷ s.rest) (t.first, as_lines t.lines ++ 13 ∷ 10 ∷ t.rest)
    (sym (cut_first bytes s.first s.lines s.rest s.is_cut) ∙ cut_first bytes t.first t.lines t.rest t.is_cut) in
    let q = pair_is (s.lines, s.rest) (t.lines, t.rest) (sym (lines_again s.lines s.rest s.is_cut.are_lines) ∙ ap (lines_at false) p.1
    ∙ lines_again t.lines t.rest t.is_cut.are_lines) in
    let start : m.start ≡ n.start = some_is m.start n.start (sym (start_found s.first m.start s.is_start) ∙ ap start_of p.0 ∙ start_found t.first n.start t.is_start) in
    let entries : s.entries ≡ t.entries = some_is s.entries t.entries (sym (zip_entries (unfolded s.lines) s.entries s.are_entries)
    ∙ ap (λ ls. entries_of (unfolded ls)) q.0 ∙ zip_entries (unfolded t.lines) t.entries t.are_entries) in
    let fields : m.fields ≡ n.fields = some_is m.fields n.fields (sym s.are_kept ∙ ap kept entries ∙ t.are_kept) in
    let a : IsLengthOf (lengths s.entries) s.rest m.body = length_of_body (lengths s.entries) s.rest m.body s.is_body in
    let b : IsLengthOf (lengths t.entries) t.rest n.body = length_of_body (lengths t.entries) t.rest n.body t.is_body in
    let number : a.number ≡ b.number = some_is a.number b.number (sym a.is_one ∙ ap (λ fs. one_length (lengths fs)) entries ∙ b.is_one) in
    let body : m.body ≡ n.body = sym a.part ∙ ap (λ k. body_of k s.rest) number ∙ ap (body_of b.number) q.1 ∙ b.part in
    same_message m n start fields body

-- ---- refusals

pub is_refused : (bytes : List ℕ) (r : Result Message ReadError) → Gives (λ m. m) r (reading_of bytes) → IfErr r (λ e. (e ≡ NoMemory) ⊎ (fault_of bytes ≡ Some e))
is_refused bytes (Ok m) e = tt
is_refused bytes (Err d) (inl memory) = inl memory
is_refused bytes (Err d) (inr fault) = inr (ap result_err fault)

no_fault : (r : Result Message ReadError) → result_err r ≡ None → (m : Message) × (r ≡ Ok m)
no_fault (Ok m) e = (m, refl)
no_fault (Err d) e = absurd cc

pub readable : (bytes : List ℕ) → (fault_of bytes ≡ None) ↔ ((m : Message) × Says bytes m × IsWithinLimits bytes m)
readable bytes = (
  λ none.
      let r = no_fault (reading_of bytes) none in
      let says = says_of bytes r.0 r.1 in
      (r.0, says.0, says.1),
  λ said. ap result_err (reading_is bytes said.0 said.1 said.2),
)

pub over : (bytes : List ℕ) → 65507 < length bytes → fault_of bytes ≡ Some TooLong
unfolding reading_of
over bytes lt =
    let is : nat_lt 65507 (length bytes) ≡ true = lt-ltb 65507 (length bytes) lt in
    rw is refl
