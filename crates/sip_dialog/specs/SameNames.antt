-- Names of one dialog are hashed alike.
use Rattle.std.proofs.Common.{◌≡◌, ℕ, ◌⊎◌, inl, inr, List, ◌++◌, Bool, true, false, refl, sym, ◌∙◌, ap, ap₂}
use Rattle.std.specs.Prelude.{◌&&◌, ◌||◌, if◌then◌else◌}
use Rattle.std.specs.Ordering.{is_gt, nat_cmp, ordering_reverse}
use Rattle.std.specs.declared.cmp.Ordering.{Ordering}
use Rattle.std.specs.declared.cmp.Ordering.TheVariants.{Less, Equal, Greater}
use Rattle.std.specs.Cmp.{IsEquivalence, IsPartialEquivalence, partial_equiv_from_equiv, both_ways}
use Rattle.std.specs.Cmp.Lexicographic.{slice_cmp, nat_list_cmp_total}
use Rattle.std.proofs.lemmas.Slice.Eq.{bytes_eq-Decides}
use Rattle.std.proofs.lemmas.Map.Lookups.{exact_bytes}
use Rattle.std.specs.Str.{bytes_eq}
use Rattle.sip_dialog.specs.declared.dialog.DialogId.{DialogId}
use Rattle.sip_dialog.specs.DialogId.{is_same_dialog}
use Rattle.sip_dialog.specs.Naming.{in_order, name_fed, text_fed}

-- two tags, or the other order
abbrev ordered : Bool → List ℕ → List ℕ → List ℕ × List ℕ
ordered turned a b = if turned then (b, a) else (a, b)

-- tags in the other order are the same in one order
in_order-swap : (a b : List ℕ) → in_order a b ≡ in_order b a
in_order-swap a b = by_order (slice_cmp nat_cmp a b) (slice_cmp nat_cmp b a) (exact_bytes a b) (nat_list_cmp_total.antisymm b a) where
  by_order : (r s : Ordering) → (r ≡ Equal → a ≡ b) → s ≡ ordering_reverse r → ordered (is_gt r) a b ≡ ordered (is_gt s) b a
  by_order Less s e f = rw f refl
  by_order Equal s e f = let is : a ≡ b = e refl in rw (f, is) refl
  by_order Greater s e f = rw f refl

-- what names a dialog: its Call-ID, and its tags in one order
abbrev name : DialogId → List ℕ × List ℕ × List ℕ
name id = let tags = in_order id.from_tag id.to_tag in (id.call_id, tags.0, tags.1)

first : {a b c d : List ℕ} → ◌≡◌ {A = List ℕ × List ℕ} (a, b) (c, d) → a ≡ c
first e = ap (λ (p : List ℕ × List ℕ). p.0) e

second : {a b c d : List ℕ} → ◌≡◌ {A = List ℕ × List ℕ} (a, b) (c, d) → b ≡ d
second e = ap (λ (p : List ℕ × List ℕ). p.1) e

-- two tags in one order tell which tags they are
either_order : (a b c d : List ℕ) → in_order a b ≡ in_order c d → ((a ≡ c) × (b ≡ d)) ⊎ ((a ≡ d) × (b ≡ c))
either_order a b c d e = by_orders (is_gt (slice_cmp nat_cmp a b)) (is_gt (slice_cmp nat_cmp c d)) e where
  by_orders : (r s : Bool) → ordered r a b ≡ ordered s c d → ((a ≡ c) × (b ≡ d)) ⊎ ((a ≡ d) × (b ≡ c))
  by_orders true true e = inl (second e, first e)
  by_orders true false e = inr (second e, first e)
  by_orders false true e = inr (first e, second e)
  by_orders false false e = inl (first e, second e)

both_true : (x y : Bool) → (x && y) ≡ true → (x ≡ true) × (y ≡ true)
both_true true true e = (refl, refl)
both_true true false e = absurd (cc)
both_true false y e = absurd (cc)

one_true : (x y : Bool) → (x || y) ≡ true → (x ≡ true) ⊎ (y ≡ true)
one_true true y e = inl refl
one_true false y e = inr e

true_or : (x : Bool) → (x || true) ≡ true
true_or true = refl
true_or false = refl

same-names : (a b : DialogId) → is_same_dialog a b ≡ true → name a ≡ name b
same-names a b e = by_tags (one_true (bytes_eq a.from_tag b.from_tag && bytes_eq a.to_tag b.to_tag)
    (bytes_eq a.from_tag b.to_tag && bytes_eq a.to_tag b.from_tag) parts.1) where
      parts : (bytes_eq a.call_id b.call_id ≡ true)
          × (((bytes_eq a.from_tag b.from_tag && bytes_eq a.to_tag b.to_tag)
          || (bytes_eq a.from_tag b.to_tag && bytes_eq a.to_tag b.from_tag)) ≡ true)
      parts = both_true (bytes_eq a.call_id b.call_id) _ e

      with_tags : in_order a.from_tag a.to_tag ≡ in_order b.from_tag b.to_tag → name a ≡ name b
      with_tags tags = ap₂ (λ (call_id : List ℕ) (tags : List ℕ × List ℕ). (call_id, tags.0, tags.1))
          ((bytes_eq-Decides a.call_id b.call_id).0 parts.0) tags

      by_tags : ((bytes_eq a.from_tag b.from_tag && bytes_eq a.to_tag b.to_tag) ≡ true)
          ⊎ ((bytes_eq a.from_tag b.to_tag && bytes_eq a.to_tag b.from_tag) ≡ true) → name a ≡ name b
      by_tags (inl h) =
          let both = both_true (bytes_eq a.from_tag b.from_tag) (bytes_eq a.to_tag b.to_tag) h in
          with_tags (ap₂ in_order ((bytes_eq-Decides a.from_tag b.from_tag).0 both.0) ((bytes_eq-Decides a.to_tag b.to_tag).0 both.1))
      by_tags (inr h) =
          let both = both_true (bytes_eq a.from_tag b.to_tag) (bytes_eq a.to_tag b.from_tag) h in
          with_tags (ap₂ in_order ((bytes_eq-Decides a.from_tag b.to_tag).0 both.0) ((bytes_eq-Decides a.to_tag b.from_tag).0 both.1)
          ∙ in_order-swap b.to_tag b.from_tag)

named-same : (a b : DialogId) → name a ≡ name b → is_same_dialog a b ≡ true
named-same a b e = by_tags (either_order a.from_tag a.to_tag b.from_tag b.to_tag (ap (λ (n : List ℕ × List ℕ × List ℕ). (n.1, n.2)) e)) where
  call : bytes_eq a.call_id b.call_id ≡ true
  call = (bytes_eq-Decides a.call_id b.call_id).1 (ap (λ (n : List ℕ × List ℕ × List ℕ). n.0) e)

  by_tags : ((a.from_tag ≡ b.from_tag) × (a.to_tag ≡ b.to_tag)) ⊎ ((a.from_tag ≡ b.to_tag) × (a.to_tag ≡ b.from_tag)) → is_same_dialog a b ≡ true
  by_tags (inl h) = rw (call, (bytes_eq-Decides a.from_tag b.from_tag).1 h.0, (bytes_eq-Decides a.to_tag b.to_tag).1 h.1) refl
  by_tags (inr h) = rw (call, (bytes_eq-Decides a.from_tag b.to_tag).1 h.0, (bytes_eq-Decides a.to_tag b.from_tag).1 h.1) (true_or _)

-- the laws of `==` on names
pub alike : IsEquivalence (λ (a b : DialogId). is_same_dialog b a)
alike = record {
  refl = λ a. named-same a a refl;
  symm = λ a b. both_ways (is_same_dialog b a) (is_same_dialog a b) (λ e. named-same a b (sym (same-names b a e)))
      (λ e. named-same b a (sym (same-names a b e)));
  congr = λ a b c e. both_ways (is_same_dialog c a) (is_same_dialog c b)
      (λ h. named-same c b (same-names c a h ∙ sym (same-names b a e)))
      (λ h. named-same c a (same-names c b h ∙ same-names b a e));
}

pub alike_in_part : IsPartialEquivalence (λ (a b : DialogId). is_same_dialog b a)
alike_in_part = partial_equiv_from_equiv alike

-- names of one dialog are fed alike
pub fed_alike : (a b : DialogId) → is_same_dialog b a ≡ true → name_fed a ≡ name_fed b
fed_alike a b e = ap (λ (n : List ℕ × List ℕ × List ℕ). text_fed n.0 ++ text_fed n.1 ++ text_fed n.2) (sym (same-names b a e))
