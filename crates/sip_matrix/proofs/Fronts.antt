-- Fronts of texts, and the longest one that rules name.
use Rattle.std.proofs.Common.{◌≡◌, ℕ, Bool, true, false, ◌&&◌, cond, nat_eq, List, [], ◌∷◌, refl, sym, ap, ◌∙◌, true≢false}
use Rattle.std.specs.Bool.{beq}
use Rattle.std.specs.List.{list_all, starts_with}
use Rattle.std.proofs.lemmas.Bool.{and_parts, and_from, and_right}
use Rattle.std.proofs.lemmas.Bool.Decides.{Decides-eqb}
use Rattle.std.proofs.lemmas.Cmp.{nat_eq_equiv}
use Rattle.sip_text.specs.Words.{is_same_text}
use Rattle.sip_uri.specs.declared.aor.Aor.{Aor}
use Rattle.sip_policy.specs.declared.rule.Rule.{Rule}
use Rattle.sip_policy.specs.declared.target_pattern.TargetPattern.{TargetPattern}
use Rattle.sip_policy.specs.declared.target_pattern.TargetPattern.TheVariants.{Exact, Prefix, SelfTarget, Any}
use Rattle.sip_matrix.specs.Address.{longer_front, longest_front}
use Rattle.sip_matrix.proofs.Agreement.{agree_same, agree_from}

same_number : (n : ℕ) → nat_eq n n ≡ true
same_number n = (Decides-eqb n n).1 refl

-- a text begins with itself
pub front_itself : (text : List ℕ) → starts_with nat_eq text text ≡ true
front_itself [] = refl
front_itself (b ∷ bs) = and_from _ _ (same_number b) (front_itself bs)

-- what begins with a text begins with each front of it
pub front_of_front : (text front shorter : List ℕ) → starts_with nat_eq text front ≡ true → starts_with nat_eq front shorter ≡ true
    → starts_with nat_eq text shorter ≡ true
front_of_front text front [] h g = refl
front_of_front text [] (s ∷ ss) h g = absurd cc
front_of_front [] (f ∷ fs) (s ∷ ss) h g = absurd cc
front_of_front (t ∷ ts) (f ∷ fs) (s ∷ ss) h g =
    let one = and_parts (nat_eq f t) (starts_with nat_eq ts fs) h in
    let two = and_parts (nat_eq s f) (starts_with nat_eq fs ss) g in
    and_from _ _ (nat_eq_equiv.congr s f t two.0 ∙ one.0) (front_of_front ts fs ss one.1 two.1)

-- of two fronts of one text, where the second doesn't begin with the first, the first begins with the second
pub fronts_in_order : (text one other : List ℕ) → starts_with nat_eq text one ≡ true → starts_with nat_eq text other ≡ true → starts_with nat_eq other one ≡ false
    → starts_with nat_eq one other ≡ true
fronts_in_order text one [] h g e = refl
fronts_in_order text [] (o ∷ os) h g e = absurd cc
fronts_in_order [] (n ∷ ns) (o ∷ os) h g e = absurd cc
fronts_in_order (t ∷ ts) (n ∷ ns) (o ∷ os) h g e =
    let a = and_parts (nat_eq n t) (starts_with nat_eq ts ns) h in
    let b = and_parts (nat_eq o t) (starts_with nat_eq ts os) g in
    let same : nat_eq o n ≡ true = nat_eq_equiv.congr o t n b.0 ∙ nat_eq_equiv.symm t n ∙ a.0 in
    let back : nat_eq n o ≡ true = nat_eq_equiv.symm n o ∙ same in
    let rest : starts_with nat_eq os ns ≡ false = sym (ap (λ (x : Bool). x && starts_with nat_eq os ns) back) ∙ e in
    and_from _ _ same (fronts_in_order ts ns os a.1 b.1 rest)

-- whether a text and a front of it begin alike with a pattern's prefix, at its host
abbrev pub front_fits : Aor → List ℕ → TargetPattern → Bool
front_fits aor front (Exact user domain) = true
front_fits aor front (Prefix prefix domain) =
    beq (starts_with nat_eq aor.user prefix && is_same_text aor.host domain) (starts_with nat_eq front prefix && is_same_text aor.host domain)
front_fits aor front SelfTarget = true
front_fits aor front Any = true

and_false : (a b : Bool) → (a && false) ≡ (b && false)
and_false a b = and_right a false refl ∙ sym (and_right b false refl)

-- a longer front fits where a shorter one does
longer_by : (text longer shorter prefix : List ℕ) → starts_with nat_eq text longer ≡ true → starts_with nat_eq longer shorter ≡ true
    → (same a b d : Bool) → starts_with nat_eq text prefix ≡ a → starts_with nat_eq longer prefix ≡ b → starts_with nat_eq shorter prefix ≡ d → (a && same) ≡ (d && same)
    → (a && same) ≡ (b && same)
longer_by text longer shorter prefix h g false a b d p q r e = and_false a b
longer_by text longer shorter prefix h g true true true d p q r e = refl
longer_by text longer shorter prefix h g true false false d p q r e = refl
longer_by text longer shorter prefix h g true true false true p q r e = absurd (true≢false (sym (front_of_front longer shorter prefix g r) ∙ q))
longer_by text longer shorter prefix h g true true false false p q r e = e
longer_by text longer shorter prefix h g true false true d p q r e = absurd (true≢false (sym (front_of_front text longer prefix h q) ∙ p))

longer_fits : (aor : Aor) (longer shorter : List ℕ) → starts_with nat_eq aor.user longer ≡ true → starts_with nat_eq longer shorter ≡ true → (target : TargetPattern)
    → front_fits aor shorter target ≡ true → front_fits aor longer target ≡ true
longer_fits aor longer shorter h g (Exact user domain) e = refl
longer_fits aor longer shorter h g (Prefix prefix domain) e =
    agree_from _ _ (longer_by aor.user longer shorter prefix h g (is_same_text aor.host domain) _ _ _ refl refl refl
    (agree_same (starts_with nat_eq aor.user prefix && is_same_text aor.host domain) (starts_with nat_eq shorter prefix && is_same_text aor.host domain) e))
longer_fits aor longer shorter h g SelfTarget e = refl
longer_fits aor longer shorter h g Any e = refl

all_fit : (aor : Aor) (longer shorter : List ℕ) → starts_with nat_eq aor.user longer ≡ true → starts_with nat_eq longer shorter ≡ true → (rules : List Rule)
    → list_all (λ (rule : Rule). front_fits aor shorter rule.target) rules ≡ true → list_all (λ (rule : Rule). front_fits aor longer rule.target) rules ≡ true
all_fit aor longer shorter h g [] e = refl
all_fit aor longer shorter h g (r ∷ rs) e =
    let both = and_parts (front_fits aor shorter r.target) (list_all (λ (rule : Rule). front_fits aor shorter rule.target) rs) e in
    and_from _ _ (longer_fits aor longer shorter h g r.target both.0) (all_fit aor longer shorter h g rs both.1)

-- a prefix that isn't longer fits the front that there is
shorter_by : (text front prefix : List ℕ) → starts_with nat_eq text front ≡ true → (same a b : Bool) → starts_with nat_eq text prefix ≡ a
    → starts_with nat_eq front prefix ≡ b
    → ((a && same) && starts_with nat_eq prefix front) ≡ false → (a && same) ≡ (b && same)
shorter_by text front prefix h false a b p q e = and_false a b
shorter_by text front prefix h true true true p q e = refl
shorter_by text front prefix h true false false p q e = refl
shorter_by text front prefix h true true false p q e = absurd (true≢false (sym (fronts_in_order text front prefix h p e) ∙ q))
shorter_by text front prefix h true false true p q e = absurd (true≢false (sym (front_of_front text front prefix h q) ∙ p))

-- a front of an address's user part that fits each rule
pub record Fits (aor : Aor) (front : List ℕ) (rules : List Rule) : Type 0 where
  pub begins : starts_with nat_eq aor.user front ≡ true
  pub fits : list_all (λ (rule : Rule). front_fits aor front rule.target) rules ≡ true

fits_more : (aor : Aor) (front : List ℕ) (target : TargetPattern) (rules : List Rule) → Fits aor front rules
    → (front_fits aor (longer_front aor front target) target ≡ true) × Fits aor (longer_front aor front target) rules
fits_more aor front (Exact user domain) rules h = (refl, h)
fits_more aor front SelfTarget rules h = (refl, h)
fits_more aor front Any rules h = (refl, h)
fits_more aor front (Prefix prefix domain) rules h =
    by ((starts_with nat_eq aor.user prefix && is_same_text aor.host domain) && starts_with nat_eq prefix front) refl
  where
    by : (longer : Bool) → ((starts_with nat_eq aor.user prefix && is_same_text aor.host domain) && starts_with nat_eq prefix front) ≡ longer
        → (front_fits aor (cond longer prefix front) (Prefix prefix domain) ≡ true) × Fits aor (cond longer prefix front) rules
    by true e =
        let both = and_parts (starts_with nat_eq aor.user prefix && is_same_text aor.host domain) (starts_with nat_eq prefix front) e in
        let meets = and_parts (starts_with nat_eq aor.user prefix) (is_same_text aor.host domain) both.0 in (
          agree_from _ _ (ap (λ (b : Bool). b && is_same_text aor.host domain) (meets.0 ∙ sym (front_itself prefix))),
          record { begins = meets.0; fits = all_fit aor prefix front meets.0 both.1 rules h.fits },
        )
    by false e = (
      agree_from _ _ (shorter_by aor.user front prefix h.begins (is_same_text aor.host domain) _ _ refl refl e),
      h,
    )

-- the longest front fits
pub longest_fits : (rules : List Rule) (aor : Aor) → Fits aor (longest_front rules aor) rules
longest_fits [] aor = record { begins = refl; fits = refl }
longest_fits (r ∷ rs) aor =
    let more = fits_more aor (longest_front rs aor) r.target rs (longest_fits rs aor) in
    record { begins = more.1.begins; fits = and_from _ _ more.0 more.1.fits }
