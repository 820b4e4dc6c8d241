-- What comes next in a record, by its first byte.
use Rattle.std.proofs.Common.{◌≡◌, ℕ, List, [], ◌∷◌, ◌++◌, Bool, true, false, Option, Some, None, inl, inr, refl, sym, ◌∙◌, ap, subst, append_assoc, append-nil}
use Rattle.std.specs.Prelude.{◌||◌, ◌==◌, ◌⊎◌, IfSome}
use Rattle.std.specs.List.{flat_map}
use Rattle.std.specs.Io.KnownBytes.{Keeps}
use Rattle.std.proofs.lemmas.Bool.{eqb-true}
use Rattle.sip_event.specs.declared.event.Event.{Event}
use Rattle.sip_text.specs.Splits.{in_front, split_at_byte}
use Rattle.sip_replay_script.specs.declared.script.EventLine.{EventLine}
use Rattle.sip_replay_script.specs.declared.script.EventLine.TheVariants.{Head, Whole}
use Rattle.sip_replay_script.specs.Lines.{Reading, pending}
use Rattle.sip_replay_script.specs.Script.{line_of, line_of_kind, ◌>>=◌}
use Rattle.sip_replay_script.specs.Events.{ended}
use Rattle.sip_replay_script.specs.Recorded.{IsDamagedRecord, SaysRecorded}
use Rattle.sip_journal.specs.Segments.{configuration_line, pieces_of, SaysConfiguration}
use Rattle.sip_journal.specs.Configurations.{begins_configuration, begins_event, BeginsBy, IsDamagedConfiguration}
use Rattle.sip_replay_script.proofs.CutEvents.{head_is, not_nil}
use Rattle.sip_journal.proofs.Segments.{parted, piece_is, IsPiece}

-- ---- no event begins so

by_sign : (line : List ℕ) → line_of (61 ∷ line) ≡ None
by_sign line = by_parts (split_at_byte 32 line)
  where
    by_parts : (parts : Option (List ℕ × List ℕ)) → (in_front (61 ∷ []) parts >>= (λ p. line_of_kind p.0 p.1)) ≡ None
    by_parts None = refl
    by_parts (Some p) = refl

by_plus : (line : List ℕ) → line_of (43 ∷ line) ≡ None
by_plus line = by_parts (split_at_byte 32 line)
  where
    by_parts : (parts : Option (List ℕ × List ℕ)) → (in_front (43 ∷ []) parts >>= (λ p. line_of_kind p.0 p.1)) ≡ None
    by_parts None = refl
    by_parts (Some p) = refl

by_letter : (line : List ℕ) → line_of (99 ∷ line) ≡ None
by_letter line = by_parts (split_at_byte 32 line)
  where
    by_parts : (parts : Option (List ℕ × List ℕ)) → (in_front (99 ∷ []) parts >>= (λ p. line_of_kind p.0 p.1)) ≡ None
    by_parts None = refl
    by_parts (Some p) = refl

no_line_so : (b : ℕ) (line : List ℕ) → begins_configuration b ≡ true → line_of (b ∷ line) ≡ None
no_line_so b line e = by_tests (b == 61) (b == 43) (b == 99) refl refl refl e
  where
    by_tests : (s t u : Bool) → (b == 61) ≡ s → (b == 43) ≡ t → (b == 99) ≡ u → (s || (t || u)) ≡ true → line_of (b ∷ line) ≡ None
    by_tests true t u is_s is_t is_u h = ap (λ (n : ℕ). line_of (n ∷ line)) (eqb-true b 61 is_s) ∙ by_sign line
    by_tests false true u is_s is_t is_u h = ap (λ (n : ℕ). line_of (n ∷ line)) (eqb-true b 43 is_t) ∙ by_plus line
    by_tests false false true is_s is_t is_u h = ap (λ (n : ℕ). line_of (n ∷ line)) (eqb-true b 99 is_u) ∙ by_letter line
    by_tests false false false is_s is_t is_u h = absurd cc

says_none : (line : List ℕ) (said : EventLine) → line_of line ≡ Some said → line_of line ≡ None → ⊥
says_none line said says none = absurd cc

-- no line of an event begins with a byte
abbrev pub BeginsNone : ℕ → Type 0
BeginsNone b = (line : List ℕ) → line_of (b ∷ line) ≡ None

no_first_line : (b : ℕ) (text line more : List ℕ) (said : EventLine) → BeginsNone b → line_of line ≡ Some said → b ∷ text ≡ ended line ++ more → ⊥
no_first_line b text [] more said begins says e = says_none [] said says refl
no_first_line b text (c ∷ line) more said begins says e =
    says_none (c ∷ line) said says (ap (λ (n : ℕ). line_of (n ∷ line)) (sym (head_is b c text (ended line ++ more) e)) ∙ begins line)

no_event_so : (b : ℕ) (text more : List ℕ) (event : Event) (said : List ℕ) → BeginsNone b → SaysRecorded said event → b ∷ text ≡ said ++ more → ⊥
no_event_so b text more event said begins (inl w) e = no_first_line b text w.line more (Whole event) begins w.says (e ∙ ap (λ (l : List ℕ). l ++ more) w.text_is)
no_event_so b text more event said begins (inr d) e =
    no_first_line b text d.line (46 ∷ 10 ∷ more) (Head d.head) begins d.says (e ∙ ap (λ (l : List ℕ). l ++ more) d.text_is
    ∙ append_assoc (ended d.line) (46 ∷ 10 ∷ []) more)

no_record : (b : ℕ) (text : List ℕ) → BeginsNone b → IsDamagedRecord (b ∷ text)
no_record b text begins = record {
  some = not_nil b text;
  none = λ said further event e says. no_event_so b text further event said begins says e;
  no_front = λ c. no_event_so b (text ++ c.more) [] c.event (b ∷ (text ++ c.more)) begins c.says (sym (append-nil (b ∷ (text ++ c.more))));
}

-- ---- nor with a byte that begins none

other_kind : (b : ℕ) (kind rest : List ℕ) → (b == 116) ≡ false → (b == 104) ≡ false → (b == 100) ≡ false → (b == 102) ≡ false → line_of_kind (b ∷ kind) rest ≡ None
other_kind b kind rest is_t is_h is_d is_f = rw is_d (rw is_t (rw is_h (rw is_f refl)))

behind_other : (b : ℕ) (parts : Option (List ℕ × List ℕ)) → (b == 116) ≡ false → (b == 104) ≡ false → (b == 100) ≡ false → (b == 102) ≡ false
    → (in_front (b ∷ []) parts >>= (λ p. line_of_kind p.0 p.1)) ≡ None
behind_other b None is_t is_h is_d is_f = refl
behind_other b (Some p) is_t is_h is_d is_f = other_kind b p.0 p.1 is_t is_h is_d is_f

blank_first : (b : ℕ) (line : List ℕ) → (b == 32) ≡ true → split_at_byte 32 (b ∷ line) ≡ Some ([], line)
blank_first b line e = rw e refl

no_blank_first : (b : ℕ) (line : List ℕ) → (b == 32) ≡ false → split_at_byte 32 (b ∷ line) ≡ in_front (b ∷ []) (split_at_byte 32 line)
no_blank_first b line e = rw e refl

other_first : (b : ℕ) (line : List ℕ) (is : Bool) → (b == 32) ≡ is → (b == 116) ≡ false → (b == 104) ≡ false → (b == 100) ≡ false → (b == 102) ≡ false
    → line_of (b ∷ line) ≡ None
other_first b line true e is_t is_h is_d is_f = ap (λ (parts : Option (List ℕ × List ℕ)). parts >>= (λ p. line_of_kind p.0 p.1)) (blank_first b line e)
other_first b line false e is_t is_h is_d is_f = ap (λ (parts : Option (List ℕ × List ℕ)). parts >>= (λ p. line_of_kind p.0 p.1)) (no_blank_first b line e)
    ∙ behind_other b (split_at_byte 32 line) is_t is_h is_d is_f

no_line_other : (b : ℕ) → begins_event b ≡ false → BeginsNone b
no_line_other b e = by_tests (b == 116) (b == 104) (b == 100) (b == 102) refl refl refl refl e
  where
    by_tests : (s t u v : Bool) → (b == 116) ≡ s → (b == 104) ≡ t → (b == 100) ≡ u → (b == 102) ≡ v → (s || (t || (u || v))) ≡ false → BeginsNone b
    by_tests true t u v is_t is_h is_d is_f h = absurd cc
    by_tests false true u v is_t is_h is_d is_f h = absurd cc
    by_tests false false true v is_t is_h is_d is_f h = absurd cc
    by_tests false false false true is_t is_h is_d is_f h = absurd cc
    by_tests false false false false is_t is_h is_d is_f h = λ line. other_first b line (b == 32) refl is_t is_h is_d is_f

-- ---- no configuration begins so

pub true_false : (b : Bool) → b ≡ true → b ≡ false → ⊥
true_false true e h = cc
true_false false e h = cc

other_byte : (b mark : ℕ) → begins_configuration b ≡ false → begins_configuration mark ≡ true → b ≡ mark → ⊥
other_byte b mark other begins is = true_false (begins_configuration b) (ap begins_configuration is ∙ begins) other

no_configuration_so : (b : ℕ) (text more configuration said : List ℕ) → begins_configuration b ≡ false → SaysConfiguration said configuration → b ∷ text ≡ said ++ more
    → ⊥
no_configuration_so b text more configuration said other says e =
    by_lines says.gives.lines says.gives.gives (e ∙ ap (λ (l : List ℕ). l ++ more) (says.text_is
    ∙ ap (λ (l : List ℕ). l ++ ended (configuration_line configuration)) says.gives.text_is))
  where
    by_piece : (line piece behind : List ℕ) → IsPiece line piece → b ∷ text ≡ line ++ behind → ⊥
    by_piece line piece behind p h = elim p.is [
      | inl a ↦ other_byte b 61 other refl (head_is b 61 text _ (h ∙ ap (λ (l : List ℕ). l ++ behind) a.0))
      | inr a ↦ other_byte b 43 other refl (head_is b 43 text _ (h ∙ ap (λ (l : List ℕ). l ++ behind) a.0))
    ]

    by_lines : (lines : List (List ℕ)) → pieces_of lines ≡ Some configuration → b ∷ text ≡ (flat_map ended lines ++ ended (configuration_line configuration)) ++ more → ⊥
    by_lines [] gives h = other_byte b 99 other refl (head_is b 99 text _ h)
    by_lines (line ∷ lines) gives h =
        let p = parted line lines configuration gives in
        let rest : List ℕ = ended (configuration_line configuration) ++ more in
        by_piece line p.piece (10 ∷ (flat_map ended lines ++ rest)) (piece_is line p.piece p.first)
        (h ∙ append_assoc (ended line ++ flat_map ended lines) (ended (configuration_line configuration)) more ∙ append_assoc (ended line) (flat_map ended lines) rest
        ∙ append_assoc line (10 ∷ []) (flat_map ended lines ++ rest))

no_configuration : (b : ℕ) (text : List ℕ) → begins_configuration b ≡ false → IsDamagedConfiguration (b ∷ text)
no_configuration b text other = record {
  some = not_nil b text;
  none = λ said further configuration e says. no_configuration_so b text further configuration said other says e;
  no_front = λ c. no_configuration_so b (text ++ c.more) [] c.configuration (b ∷ (text ++ c.more)) other c.says (sym (append-nil (b ∷ (text ++ c.more))));
}

-- ---- where some bytes were read

begins : (r : Reading) (before after : Option (List ℕ)) (b : ℕ) (P : List ℕ → Type 0) → Keeps before (pending r after) → (rest : List ℕ) × (r.unread ≡ b ∷ rest)
    → ((text : List ℕ) → P (b ∷ text)) → IfSome before P
begins r None after b P k first all = tt
begins r (Some bytes) None b P k first all = absurd k
begins r (Some bytes) (Some more) b P k first all = subst P (sym (sym k ∙ ap (λ (l : List ℕ). l ++ more) first.1)) (all (first.0 ++ more))

pub comes_configuration : (r : Reading) (before after : Option (List ℕ)) (b : ℕ) → Keeps before (pending r after) → (rest : List ℕ) × (r.unread ≡ b ∷ rest)
    → begins_configuration b ≡ true → IfSome before IsDamagedRecord
comes_configuration r before after b k first is = begins r before after b IsDamagedRecord k first (λ text. no_record b text (λ line. no_line_so b line is))

pub comes_event : (r : Reading) (before after : Option (List ℕ)) (b : ℕ) → Keeps before (pending r after) → (rest : List ℕ) × (r.unread ≡ b ∷ rest)
    → begins_configuration b ≡ false → IfSome before IsDamagedConfiguration
comes_event r before after b k first is = begins r before after b IsDamagedConfiguration k first (λ text. no_configuration b text is)

-- the first byte is this one
pub has_first : (test : ℕ → Bool) (is : Bool) (r : Reading) (before after : Option (List ℕ)) (b : ℕ) → Keeps before (pending r after)
    → (rest : List ℕ) × (r.unread ≡ b ∷ rest) → test b ≡ is → IfSome before (BeginsBy test is)
has_first test is r before after b k first tested = begins r before after b (BeginsBy test is) k first
    (λ text. record { first = b; behind = text; cut = refl; tested = tested })

pub comes_other : (r : Reading) (before after : Option (List ℕ)) (b : ℕ) → Keeps before (pending r after) → (rest : List ℕ) × (r.unread ≡ b ∷ rest)
    → begins_event b ≡ false → IfSome before (λ bytes. (bytes ≡ []) ⊎ IsDamagedRecord bytes)
comes_other r before after b k first is = begins r before after b (λ bytes. (bytes ≡ []) ⊎ IsDamagedRecord bytes) k first
    (λ text. inr (no_record b text (no_line_other b is)))
