-- A rule and an outcome are read from the end of a line, and from no other text.
use Rattle.std.proofs.Common.{◌≡◌, ℕ, ◌<◌, ◌^◌, Bool, true, false, cond, List, [], ◌∷◌, ◌++◌, decimal, Option, Some, None, refl, sym, ap, subst, ◌∙◌, append_assoc, arith}
use Rattle.std.specs.Prelude.{◌==◌, ◌&&◌, nat_lt, codes, option_map}
use Rattle.std.specs.List.{list_all}
use Rattle.std.specs.Str.{bytes_eq}
use Rattle.std.specs.Char.{is_ascii_digit}
use Rattle.std.proofs.lemmas.Bool.{ltb-true, lt-ltb}
use Rattle.std.proofs.lemmas.Bool.Decides.{nat_tests}
use Rattle.sip_text.specs.Splits.{split_at_byte}
use Rattle.sip_uri.specs.Host.{is_not}
use Rattle.sip_uri.proofs.Tests.{some_is, and_both, and_is, all_join, split_again, never_split, split_is}
use Rattle.sip_audit.specs.declared.record.AuditOutcome.{AuditOutcome}
use Rattle.sip_audit.specs.declared.record.AuditOutcome.TheVariants.{Challenge, Deny, Sent, Answer}
use Rattle.sip_audit.specs.Lines.{rule_text, outcome_text, rule_of, is_minute_of, IsOutcomeInRange}
use Rattle.sip_audit.specs.Reading.{◌>>=◌, number_of, status_of, minute_of, rule_within, rule_from, rule_in, counted, decided, challenged, outcome_from, outcome_of}
use Rattle.sip_audit.proofs.Words.{bind_some, same_text, differs_from, below_is, below_again, number_others}

map_some : {X Y : Type 0} (f : X → Y) (o : Option X) (y : Y) → option_map f o ≡ Some y → (x : X) × (o ≡ Some x) × (f x ≡ y)
map_some f None y e = absurd cc
map_some f (Some x) y e = (x, refl, some_is (f x) y e)

-- ---- the rule

-- whether a minute goes with a rule
abbrev pub is_minute_with : ℕ → Option ℕ → Bool
is_minute_with rule None = true
is_minute_with rule (Some minute) = nat_lt 0 rule && nat_lt minute 1440

above_zero : (rule : ℕ) → (rule == 0) ≡ false → nat_lt 0 rule ≡ true
above_zero rule e = grind (arith, nat_tests)

not_zero : (rule : ℕ) → nat_lt 0 rule ≡ true → (rule == 0) ≡ false
not_zero rule e = grind (arith, nat_tests)

within_by : (rule minute : ℕ) (x : ℕ × Option ℕ) (t : Bool) → (rule == 0) ≡ t → cond t None (Some (rule, Some minute)) ≡ Some x → minute < 1440
    → ((rule, Some minute) ≡ x) × (is_minute_with rule (Some minute) ≡ true)
within_by rule minute x true is e lt = absurd cc
within_by rule minute x false is e lt = (some_is (rule, Some minute) x e, and_is (nat_lt 0 rule) (nat_lt minute 1440) (above_zero rule is) (lt-ltb minute 1440 lt))

abbrev alone : ℕ → Option (ℕ × Option ℕ)
alone rule = Some (rule, None)

abbrev with_minute : List ℕ → ℕ → Option (ℕ × Option ℕ)
with_minute text rule = minute_of text >>= rule_within rule

record IsRule (word : List ℕ) (x : ℕ × Option ℕ) : Type 0 where
  pub written : word ≡ rule_text x.0 x.1
  pub minute : is_minute_with x.0 x.1 ≡ true

grouped : (front back : List ℕ) → front ++ 64 ∷ back ≡ (front ++ codes "@") ++ back
grouped front back = sym (append_assoc front (64 ∷ []) back)

rule_by : (word : List ℕ) (x : ℕ × Option ℕ) (o : Option (List ℕ × List ℕ)) → split_at_byte 64 word ≡ o → rule_from word o ≡ Some x → IsRule word x
rule_by word x None is e =
    let n = bind_some (number_of word) alone x e in
    subst (IsRule word) (some_is (n.0, None) x n.2) (record { written = (below_is (2 ^ 32) n.0 word n.1).0; minute = refl })
rule_by word x (Some cut) is e =
    let n = bind_some (number_of cut.0) (with_minute cut.1) x e in
    let m = bind_some (minute_of cut.1) (rule_within n.0) x n.2 in
    let rule = below_is (2 ^ 32) n.0 cut.0 n.1 in
    let minute = below_is 1440 m.0 cut.1 m.1 in
    let w = within_by n.0 m.0 x (n.0 == 0) refl m.2 minute.1 in
    subst (IsRule word) w.0 (record {
      written = split_is 64 word cut.0 cut.1 is ∙ ap (λ (w : List ℕ). w ++ 64 ∷ cut.1) rule.0 ∙ ap (λ (w : List ℕ). decimal n.0 ++ 64 ∷ w) minute.0
          ∙ grouped (decimal n.0) (decimal m.0);
      minute = w.1;
    })

rule_is : (word : List ℕ) (x : ℕ × Option ℕ) → rule_in word ≡ Some x → IsRule word x
rule_is word x e = rule_by word x (split_at_byte 64 word) refl e

rule_again : (rule : ℕ) (minute : Option ℕ) → rule < 2 ^ 32 → is_minute_with rule minute ≡ true → rule_in (rule_text rule minute) ≡ Some (rule, minute)
rule_again rule None lt e =
    ap (rule_from (decimal rule)) (never_split 64 (decimal rule) (number_others 64 refl rule (omega arith)))
    ∙ ap (λ o. o >>= alone) (below_again (2 ^ 32) rule lt (omega arith))
rule_again rule (Some minute) lt e =
    let both = and_both (nat_lt 0 rule) (nat_lt minute 1440) e in
    let below : minute < 1440 = ltb-true minute 1440 both.1 in
    let some : (rule == 0) ≡ false = not_zero rule both.0 in
    ap rule_in (sym (grouped (decimal rule) (decimal minute)))
    ∙ ap (rule_from (decimal rule ++ 64 ∷ decimal minute)) (split_again 64 (decimal rule) (decimal minute) (number_others 64 refl rule (omega arith)) refl)
    ∙ ap (λ o. o >>= with_minute (decimal minute)) (below_again (2 ^ 32) rule lt (omega arith))
    ∙ ap (λ o. o >>= rule_within rule) (below_again 1440 minute below (omega arith))
    ∙ rw some refl

rule_others : (mark rule : ℕ) (minute : Option ℕ) → is_ascii_digit mark ≡ false → is_not mark 64 ≡ true → rule < 2 ^ 32 → is_minute_with rule minute ≡ true
    → list_all (is_not mark) (rule_text rule minute) ≡ true
rule_others mark rule None none at lt e = number_others mark none rule (omega arith)
rule_others mark rule (Some minute) none at lt e =
    let both = and_both (nat_lt 0 rule) (nat_lt minute 1440) e in
    let below : minute < 1440 = ltb-true minute 1440 both.1 in
    all_join (is_not mark) (decimal rule ++ codes "@") (decimal minute)
    (all_join (is_not mark) (decimal rule) (codes "@") (number_others mark none rule (omega arith)) (and_is (is_not mark 64) true at refl))
    (number_others mark none minute (omega arith))

-- a rule isn't written as none is
rule_no_dash : (rule : ℕ) (minute : Option ℕ) → rule < 2 ^ 32 → is_minute_with rule minute ≡ true → rule_text rule minute ≡ codes "-" → ⊥
rule_no_dash rule minute lt e same =
    let never : false ≡ true = sym (ap (list_all (is_not 45)) same) ∙ rule_others 45 rule minute refl refl lt e in
    cc

-- ---- the outcome behind the rule

record IsDecided (rule : ℕ) (text : List ℕ) (o : AuditOutcome) : Type 0 where
  pub written : (minute : Option ℕ) → rule_text rule minute ++ 32 ∷ text ≡ outcome_text minute o
  pub by_rule : rule_of o ≡ rule

parted : (front middle back : List ℕ) → front ++ 32 ∷ (middle ++ 32 ∷ back) ≡ (front ++ 32 ∷ (middle ++ 32 ∷ [])) ++ back
parted front middle back = simp append_assoc

sent_is : (rule : ℕ) (word number : List ℕ) (o : AuditOutcome) → word ≡ codes "sent" → option_map (λ targets. Sent rule targets) (number_of number) ≡ Some o
    → IsDecided rule (word ++ 32 ∷ number) o
sent_is rule word number o is e =
    let n = map_some (λ targets. Sent rule targets) (number_of number) o e in
    rw (← n.2) (record {
      written = λ minute. rw is (ap (λ (w : List ℕ). rule_text rule minute ++ 32 ∷ (codes "sent" ++ 32 ∷ w)) (below_is (2 ^ 32) n.0 number n.1).0
          ∙ parted (rule_text rule minute) (codes "sent") (decimal n.0));
      by_rule = refl;
    })

answer_is : (rule : ℕ) (word number : List ℕ) (o : AuditOutcome) → word ≡ codes "answer" → option_map (λ status. Answer rule status) (status_of number) ≡ Some o
    → IsDecided rule (word ++ 32 ∷ number) o
answer_is rule word number o is e =
    let n = map_some (λ status. Answer rule status) (status_of number) o e in
    rw (← n.2) (record {
      written = λ minute. rw is (ap (λ (w : List ℕ). rule_text rule minute ++ 32 ∷ (codes "answer" ++ 32 ∷ w)) (below_is (2 ^ 16) n.0 number n.1).0
          ∙ parted (rule_text rule minute) (codes "answer") (decimal n.0));
      by_rule = refl;
    })

counted_by : (rule : ℕ) (word number : List ℕ) (o : AuditOutcome) (s t : Bool) → bytes_eq word (codes "sent") ≡ s → bytes_eq word (codes "answer") ≡ t
    → cond s (option_map (λ targets. Sent rule targets) (number_of number)) (cond t (option_map (λ status. Answer rule status) (status_of number)) None) ≡ Some o
    → IsDecided rule (word ++ 32 ∷ number) o
counted_by rule word number o true t p q e = sent_is rule word number o (same_text word (codes "sent") p) e
counted_by rule word number o false true p q e = answer_is rule word number o (same_text word (codes "answer") q) e
counted_by rule word number o false false p q e = absurd cc

count_by_cut : (rule : ℕ) (text : List ℕ) (o : AuditOutcome) (cut : Option (List ℕ × List ℕ)) → split_at_byte 32 text ≡ cut → counted rule cut ≡ Some o
    → IsDecided rule text o
count_by_cut rule text o None is e = absurd cc
count_by_cut rule text o (Some cut) is e =
    rw (split_is 32 text cut.0 cut.1 is) (counted_by rule cut.0 cut.1 o (bytes_eq cut.0 (codes "sent")) (bytes_eq cut.0 (codes "answer")) refl refl e)

decided_by : (rule : ℕ) (text : List ℕ) (o : AuditOutcome) (t : Bool) → bytes_eq text (codes "deny") ≡ t
    → cond t (Some (Deny rule)) (counted rule (split_at_byte 32 text)) ≡ Some o → IsDecided rule text o
decided_by rule text o true is e =
    rw (← some_is (Deny rule) o e) (record { written = λ minute. rw (same_text text (codes "deny") is) refl; by_rule = refl })
decided_by rule text o false is e = count_by_cut rule text o (split_at_byte 32 text) refl e

decided_is : (rule : ℕ) (text : List ℕ) (o : AuditOutcome) → decided rule text ≡ Some o → IsDecided rule text o
decided_is rule text o e = decided_by rule text o (bytes_eq text (codes "deny")) refl e

challenge_by : (word status : List ℕ) (o : AuditOutcome) (t : Bool) → bytes_eq word (codes "challenge") ≡ t
    → cond t (option_map (λ status. Challenge status) (status_of status)) None ≡ Some o
    → codes "-" ++ 32 ∷ (word ++ 32 ∷ status) ≡ outcome_text None o
challenge_by word status o true is e =
    let n = map_some (λ status. Challenge status) (status_of status) o e in
    rw (← n.2, same_text word (codes "challenge") is) (ap (λ (w : List ℕ). codes "- challenge " ++ w) (below_is (2 ^ 16) n.0 status n.1).0)
challenge_by word status o false is e = absurd cc

abbrev if_challenge : List ℕ × List ℕ → Option AuditOutcome
if_challenge cut = cond (bytes_eq cut.0 (codes "challenge")) (option_map (λ status. Challenge status) (status_of cut.1)) None

challenged_is : (text : List ℕ) (o : AuditOutcome) → challenged text ≡ Some o → codes "-" ++ 32 ∷ text ≡ outcome_text None o
challenged_is text o e =
    let cut = bind_some (split_at_byte 32 text) if_challenge o e in
    rw (split_is 32 text cut.0.0 cut.0.1 cut.1) (challenge_by cut.0.0 cut.0.1 o (bytes_eq cut.0.0 (codes "challenge")) refl cut.2)

-- ---- the end of a line

pub record IsOutcome (text : List ℕ) (x : Option ℕ × AuditOutcome) : Type 0 where
  pub written : text ≡ outcome_text x.0 x.1
  pub minute : is_minute_of x.1 x.0 ≡ true

minute_goes : (rule : ℕ) (minute : Option ℕ) (o : AuditOutcome) → rule_of o ≡ rule → is_minute_with rule minute ≡ true → is_minute_of o minute ≡ true
minute_goes rule None o is e = refl
minute_goes rule (Some minute) o is e = ap (λ (r : ℕ). nat_lt 0 r && nat_lt minute 1440) is ∙ e

minute_comes : (minute : Option ℕ) (o : AuditOutcome) → is_minute_of o minute ≡ true → is_minute_with (rule_of o) minute ≡ true
minute_comes None o e = refl
minute_comes (Some minute) o e = e

abbrev with_outcome : List ℕ → ℕ × Option ℕ → Option (Option ℕ × AuditOutcome)
with_outcome text rule = decided rule.0 text >>= λ outcome. Some (rule.1, outcome)

by_rule : (word rest : List ℕ) (x : Option ℕ × AuditOutcome) → (rule_in word >>= with_outcome rest) ≡ Some x → IsOutcome (word ++ 32 ∷ rest) x
by_rule word rest x e =
    let r = bind_some (rule_in word) (with_outcome rest) x e in
    let o = bind_some (decided r.0.0 rest) (λ outcome. Some (r.0.1, outcome)) x r.2 in
    let rule = rule_is word r.0 r.1 in
    let d = decided_is r.0.0 rest o.0 o.1 in
    subst (IsOutcome (word ++ 32 ∷ rest)) (some_is (r.0.1, o.0) x o.2) (record {
      written = ap (λ (w : List ℕ). w ++ 32 ∷ rest) rule.written ∙ d.written r.0.1;
      minute = minute_goes r.0.0 r.0.1 o.0 d.by_rule rule.minute;
    })

by_dash : (word rest : List ℕ) (x : Option ℕ × AuditOutcome) (t : Bool) → bytes_eq word (codes "-") ≡ t
    → cond t (option_map (λ outcome. (None, outcome)) (challenged rest)) (rule_in word >>= with_outcome rest) ≡ Some x → IsOutcome (word ++ 32 ∷ rest) x
by_dash word rest x true is e =
    let o = map_some (λ outcome. (None, outcome)) (challenged rest) x e in
    subst (IsOutcome (word ++ 32 ∷ rest)) o.2 (record {
      written = ap (λ (w : List ℕ). w ++ 32 ∷ rest) (same_text word (codes "-") is) ∙ challenged_is rest o.0 o.1;
      minute = refl;
    })
by_dash word rest x false is e = by_rule word rest x e

pub outcome_is : (text : List ℕ) (x : Option ℕ × AuditOutcome) → outcome_of text ≡ Some x → IsOutcome text x
outcome_is text x e =
    let cut = bind_some (split_at_byte 32 text) outcome_from x e in
    rw (split_is 32 text cut.0.0 cut.0.1 cut.1) (by_dash cut.0.0 cut.0.1 x (bytes_eq cut.0.0 (codes "-")) refl cut.2)

-- ---- the same the other way

count_again : (word : List ℕ) (number : ℕ) → list_all (is_not 32) word ≡ true → split_at_byte 32 ((word ++ 32 ∷ []) ++ decimal number) ≡ Some (word, decimal number)
count_again word number none = ap (split_at_byte 32) (append_assoc word (32 ∷ []) (decimal number)) ∙ split_again 32 word (decimal number) none refl

ruled_again : (rule : ℕ) (minute : Option ℕ) (rest : List ℕ) (o : AuditOutcome) → rule < 2 ^ 32 → is_minute_with rule minute ≡ true → decided rule rest ≡ Some o
    → outcome_of (rule_text rule minute ++ 32 ∷ rest) ≡ Some (minute, o)
ruled_again rule minute rest o lt e d =
    let other : bytes_eq (rule_text rule minute) (codes "-") ≡ false =
    differs_from (rule_text rule minute) (codes "-") (bytes_eq (rule_text rule minute) (codes "-")) refl (rule_no_dash rule minute lt e) in
    ap (λ o. o >>= outcome_from) (split_again 32 (rule_text rule minute) rest (rule_others 32 rule minute refl refl lt e) refl)
    ∙ ap (λ (t : Bool). cond t (option_map (λ outcome. (None, outcome)) (challenged rest)) (rule_in (rule_text rule minute) >>= with_outcome rest)) other
    ∙ ap (λ r. r >>= with_outcome rest) (rule_again rule minute lt e)
    ∙ ap (λ d. d >>= λ outcome. Some (minute, outcome)) d

sent_again : (rule targets : ℕ) → targets < 2 ^ 32 → decided rule (codes "sent " ++ decimal targets) ≡ Some (Sent rule targets)
sent_again rule targets lt =
    ap (counted rule) (count_again (codes "sent") targets refl) ∙ ap (option_map (λ targets. Sent rule targets)) (below_again (2 ^ 32) targets lt (omega arith))

answer_again : (rule status : ℕ) → status < 2 ^ 16 → decided rule (codes "answer " ++ decimal status) ≡ Some (Answer rule status)
answer_again rule status lt =
    ap (counted rule) (count_again (codes "answer") status refl) ∙ ap (option_map (λ status. Answer rule status)) (below_again (2 ^ 16) status lt (omega arith))

challenge_again : (status : ℕ) → status < 2 ^ 16 → outcome_of (codes "- challenge " ++ decimal status) ≡ Some (None, Challenge status)
challenge_again status lt =
    ap (λ o. option_map (λ outcome. (None, outcome)) (o >>= if_challenge)) (count_again (codes "challenge") status refl)
    ∙ ap (λ s. option_map (λ outcome. (None, outcome)) (option_map (λ status. Challenge status) s)) (below_again (2 ^ 16) status lt (omega arith))

pub outcome_again : (minute : Option ℕ) (o : AuditOutcome) → IsOutcomeInRange o → is_minute_of o minute ≡ true → outcome_of (outcome_text minute o) ≡ Some (minute, o)
outcome_again None (Challenge status) fits e = challenge_again status fits
outcome_again (Some minute) (Challenge status) fits e = absurd cc
outcome_again minute (Deny rule) fits e = ruled_again rule minute (codes "deny") (Deny rule) fits (minute_comes minute (Deny rule) e) refl
outcome_again minute (Sent rule targets) fits e =
    ap outcome_of (sym (parted (rule_text rule minute) (codes "sent") (decimal targets)))
    ∙ ruled_again rule minute (codes "sent " ++ decimal targets) (Sent rule targets) fits.0 (minute_comes minute (Sent rule targets) e) (sent_again rule targets fits.1)
outcome_again minute (Answer rule status) fits e =
    ap outcome_of (sym (parted (rule_text rule minute) (codes "answer") (decimal status)))
    ∙ ruled_again rule minute (codes "answer " ++ decimal status) (Answer rule status) fits.0 (minute_comes minute (Answer rule status) e)
    (answer_again rule status fits.1)
