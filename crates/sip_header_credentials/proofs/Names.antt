-- The names of items differ exactly where they do as texts.
use Rattle.std.proofs.Common.{◌≡◌, ℕ, Bool, true, false, List, [], ◌∷◌, map, refl, sym, ap, ◌∙◌}
use Rattle.std.specs.Prelude.{◌&&◌, ◌||◌, not, is_some}
use Rattle.std.specs.List.{list_any}
use Rattle.sip_text.specs.Words.{is_same_text}
use Rattle.sip_text.specs.Distinct.{all_differ}
use Rattle.sip_text.proofs.Differing.{same_is_symmetric}
use Rattle.sip_header_credentials.specs.declared.credentials.Item.{Item}
use Rattle.sip_header_credentials.specs.Credentials.{item_value, names_differ}

named_by : (name : List ℕ) (item : Item) (items : List Item) (t : Bool) → is_same_text item.name name ≡ t
    → list_any (λ other. is_same_text name other) (map (λ (i : Item). i.name) items) ≡ is_some (item_value name items)
    → (t || list_any (λ other. is_same_text name other) (map (λ (i : Item). i.name) items)) ≡ is_some (item_value name (item ∷ items))
named_by name item items true is rest = rw is refl
named_by name item items false is rest = rw is rest

named_alike : (name : List ℕ) (items : List Item) → list_any (λ other. is_same_text name other) (map (λ (i : Item). i.name) items) ≡ is_some (item_value name items)
named_alike name [] = refl
named_alike name (item ∷ items) =
    ap (λ b. b || list_any (λ other. is_same_text name other) (map (λ (i : Item). i.name) items)) (same_is_symmetric name item.name)
    ∙ named_by name item items (is_same_text item.name name) refl (named_alike name items)

differ_by : (item : Item) (items : List Item) (t : Bool) → list_any (λ other. is_same_text item.name other) (map (λ (i : Item). i.name) items) ≡ t
    → all_differ (map (λ (i : Item). i.name) items) ≡ names_differ items
    → (not t && all_differ (map (λ (i : Item). i.name) items)) ≡ names_differ (item ∷ items)
differ_by item items true is rest = let twice : is_some (item_value item.name items) ≡ true = sym (named_alike item.name items) ∙ is in rw twice refl
differ_by item items false is rest = let once : is_some (item_value item.name items) ≡ false = sym (named_alike item.name items) ∙ is in rw once rest

pub differ_as_texts : (items : List Item) → all_differ (map (λ (i : Item). i.name) items) ≡ names_differ items
differ_as_texts [] = refl
differ_as_texts (item ∷ items) = differ_by item items (list_any (λ other. is_same_text item.name other) (map (λ (i : Item). i.name) items)) refl (differ_as_texts items)
