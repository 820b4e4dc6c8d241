-- A line whose last field may be cut within an escape: it goes on by an end of its sample, or by one of two digits.
use Rattle.std.proofs.Common.{◌≡◌, ℕ, zero, suc, ◌+◌, ◌<◌, ◌≤◌, false, List, [], ◌∷◌, ◌++◌, length, refl, sym, ap, subst, ◌∙◌, arith, inl, inr, append_assoc, append-nil}
use Rattle.std.proofs.Common.{length-append, Some, None}
use Rattle.std.specs.Prelude.{◌⊎◌, ◌==◌}
use Rattle.std.proofs.lemmas.Bool.{cond-false, ne_eqb}
use Rattle.sip_replay_script.specs.Escaped.{Nothing, text_bytes_of, unescaped}
use Rattle.sip_replay_script.proofs.CutEvents.{cut_at, head_is, tail_is}
use Rattle.sip_replay_script.proofs.Samples.{Finished, HasSample, Parts}
use Rattle.sip_replay_script.proofs.Unescaping.{Ended, EndsBy, some_said, text_ends}

-- a text goes on by an end of the sample, or of one of two others
abbrev pub FinishedBy : (List ℕ → Type 0) → List ℕ → List ℕ → List ℕ → List ℕ → List ℕ → Type 0
FinishedBy A sample other another text more = Finished A sample text more ⊎ (Finished A other text more ⊎ Finished A another text more)

-- wherever a field is cut, it goes on so
pub record HasEnds (A : List ℕ → Type 0) (sample other another : List ℕ) : Type 0 where
  pub whole : A sample
  pub shortest : (text : List ℕ) → A text → length sample ≤ length text
  pub finishes : (text more : List ℕ) → A (text ++ more) → FinishedBy A sample other another text more

-- ---- a field in front of such a one

module _ (A B : List ℕ → Type 0) (mark : ℕ) (s t u v : List ℕ) (a : HasSample A s) (b : HasEnds B t u v) where
  in_first : (text more m second : List ℕ) → text ++ more ≡ (text ++ m) ++ mark ∷ second → A (text ++ m) → B second → Finished (Parts A B mark) (s ++ mark ∷ t) text more
  in_first text more m second e is_first is_second =
      let f = a.finishes text m is_first in
      let least : length t ≤ length second = b.shortest second is_second in
      let fits : length f.tail ≤ length m = f.short in
      let one : length (text ++ more) ≡ length text + length more = length-append text more in
      let two : length ((text ++ m) ++ mark ∷ second) ≡ length (text ++ m) + length (mark ∷ second) = length-append (text ++ m) (mark ∷ second) in
      let three : length (text ++ m) ≡ length text + length m = length-append text m in
      let four : length (f.tail ++ mark ∷ t) ≡ length f.tail + length (mark ∷ t) = length-append f.tail (mark ∷ t) in
      record {
        front = f.front;
        tail = f.tail ++ mark ∷ t;
        cut = ap (λ (l : List ℕ). l ++ mark ∷ t) f.cut ∙ append_assoc f.front f.tail (mark ∷ t);
        short = omega (arith, fits, least, ap length e, one, two, three, four);
        accepts = record { first = text ++ f.tail; second = t; cut = sym (append_assoc text f.tail (mark ∷ t)); is_first = f.accepts; is_second = b.whole };
      }

  -- cut in the second one, which goes on by an end of a sample
  second_ends : (w : List ℕ) (text more first m : List ℕ) → text ≡ first ++ mark ∷ m → A first → Finished B w m more → Finished (Parts A B mark) w text more
  second_ends w text more first m cut is_first g = record {
    front = g.front;
    tail = g.tail;
    cut = g.cut;
    short = g.short;
    accepts = record {
      first = first;
      second = m ++ g.tail;
      cut = ap (λ (l : List ℕ). l ++ g.tail) cut ∙ append_assoc first (mark ∷ m) g.tail;
      is_first = is_first;
      is_second = g.accepts;
    };
  }

  -- an end of the second one's sample is one of the whole
  longer : (text more : List ℕ) → Finished (Parts A B mark) t text more → Finished (Parts A B mark) (s ++ mark ∷ t) text more
  longer text more f = record {
    front = s ++ mark ∷ f.front;
    tail = f.tail;
    cut = ap (λ (l : List ℕ). s ++ mark ∷ l) f.cut ∙ sym (append_assoc s (mark ∷ f.front) f.tail);
    short = f.short;
    accepts = f.accepts;
  }

  in_second : (text more first m second : List ℕ) → text ≡ first ++ mark ∷ m → second ≡ m ++ more → A first → B second
      → FinishedBy (Parts A B mark) (s ++ mark ∷ t) u v text more
  in_second text more first m second cut rest is_first is_second =
      elim (b.finishes m more (subst B rest is_second)) [
        | inl f ↦ inl (longer text more (second_ends t text more first m cut is_first f))
        | inr other ↦ elim other [
          | inl f ↦ inr (inl (second_ends u text more first m cut is_first f))
          | inr f ↦ inr (inr (second_ends v text more first m cut is_first f))
        ]
      ]

  at_mark : (text more first m second : List ℕ) → text ≡ first ++ m → mark ∷ second ≡ m ++ more → A first → B second
      → FinishedBy (Parts A B mark) (s ++ mark ∷ t) u v text more
  at_mark text more first [] second cut rest is_first is_second =
      let same : first ≡ text ++ [] = sym (append-nil first) ∙ sym cut ∙ sym (append-nil text) in
      inl (in_first text more [] second (ap (λ (l : List ℕ). text ++ l) (sym rest) ∙ ap (λ (l : List ℕ). l ++ mark ∷ second) (sym (append-nil text)))
      (subst A same is_first) is_second)
  at_mark text more first (x ∷ m) second cut rest is_first is_second =
      let here : mark ≡ x = head_is mark x second (m ++ more) rest in
      in_second text more first m second (cut ∙ ap (λ (k : ℕ). first ++ k ∷ m) (sym here)) (tail_is mark x second (m ++ more) rest) is_first is_second

  both_finish : (text more : List ℕ) → Parts A B mark (text ++ more) → FinishedBy (Parts A B mark) (s ++ mark ∷ t) u v text more
  both_finish text more p =
      elim (cut_at p.first (mark ∷ p.second) text more (sym p.cut)) [
        | inl c ↦
            inl (in_first text more c.more p.second (p.cut ∙ ap (λ (l : List ℕ). l ++ mark ∷ p.second) c.is) (subst A c.is p.is_first) p.is_second)
        | inr c ↦ at_mark text more p.first c.more p.second c.is c.left p.is_first p.is_second
      ]

  pub both_ends : HasEnds (Parts A B mark) (s ++ mark ∷ t) u v
  both_ends = record {
    whole = record { first = s; second = t; cut = refl; is_first = a.whole; is_second = b.whole };
    shortest = λ text p.
        let one : length s ≤ length p.first = a.shortest p.first p.is_first in
        let two : length t ≤ length p.second = b.shortest p.second p.is_second in
        let three : length (s ++ mark ∷ t) ≡ length s + length (mark ∷ t) = length-append s (mark ∷ t) in
        let four : length (p.first ++ mark ∷ p.second) ≡ length p.first + length (mark ∷ p.second) = length-append p.first (mark ∷ p.second) in
        omega (arith, ap length p.cut, one, two, three, four);
    finishes = both_finish;
  }

-- ---- the text of a datagram

pub record IsText (text : List ℕ) : Type 0 where
  pub bytes : List ℕ
  pub says : text_bytes_of text ≡ Some bytes

text_whole : IsText (110 ∷ [])
text_whole = record { bytes = 110 ∷ []; says = refl }

some_length : (n : ℕ) → (n == 0) ≡ false → 0 < n
some_length zero e = absurd cc
some_length (suc n) e = omega arith

text_long : (text : List ℕ) → IsText text → 1 ≤ length text
text_long text is =
    let some : 0 < length text = some_length (length text) (some_said text is.bytes (length text == 0) refl is.says).0 in
    omega (arith, some)

is_text : (text bytes : List ℕ) → 0 < length text → unescaped text ≡ Some bytes → IsText text
is_text text bytes some said = record {
  bytes = bytes;
  says = cond-false (length text == 0) None (unescaped text) (ne_eqb (length text) 0 (λ e. omega (arith, e, some))) ∙ said;
}

-- what goes on so is such a text, whichever sample ends with that
finished : (sample front text more tail : List ℕ) → 0 < length text → sample ≡ front ++ tail → Ended text Nothing more tail → Finished IsText sample text more
finished sample front text more tail some cut d = record {
  front = front;
  tail = tail;
  cut = cut;
  short = d.short;
  accepts = is_text (text ++ tail) d.bytes (omega (arith, some, length-append text tail)) d.says;
}

finished_by : (text more : List ℕ) → 0 < length text → EndsBy text Nothing more → FinishedBy IsText (110 ∷ []) (48 ∷ []) (102 ∷ []) text more
finished_by text more some (inl d) = inl (finished (110 ∷ []) (110 ∷ []) text more [] some refl d)
finished_by text more some (inr (inl d)) = inl (finished (110 ∷ []) [] text more (110 ∷ []) some refl d)
finished_by text more some (inr (inr (inl d))) = inr (inl (finished (48 ∷ []) [] text more (48 ∷ []) some refl d))
finished_by text more some (inr (inr (inr d))) = inr (inr (finished (102 ∷ []) [] text more (102 ∷ []) some refl d))

text_finish : (text more : List ℕ) → IsText (text ++ more) → FinishedBy IsText (110 ∷ []) (48 ∷ []) (102 ∷ []) text more
text_finish [] more is = inl (record { front = []; tail = 110 ∷ []; cut = refl; short = text_long more is; accepts = text_whole })
text_finish (b ∷ text) more is =
    let said = (some_said ((b ∷ text) ++ more) is.bytes (length ((b ∷ text) ++ more) == 0) refl is.says).1 in
    finished_by (b ∷ text) more (omega arith) (text_ends (b ∷ text) Nothing more is.bytes said)

pub text_ends_so : HasEnds IsText (110 ∷ []) (48 ∷ []) (102 ∷ [])
text_ends_so = record { whole = text_whole; shortest = text_long; finishes = text_finish }
