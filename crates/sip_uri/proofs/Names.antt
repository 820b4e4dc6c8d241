-- The names of parameters differ exactly where they do as texts.
use Rattle.std.proofs.Common.{◌≡◌, ℕ, List, [], ◌∷◌, map, refl, ap, ap₂}
use Rattle.std.specs.Prelude.{◌&&◌, ◌||◌, not}
use Rattle.std.specs.List.{list_any}
use Rattle.sip_text.specs.Words.{is_same_text}
use Rattle.sip_text.specs.Distinct.{all_differ}
use Rattle.sip_uri.specs.declared.parameters.UriParameter.{UriParameter}
use Rattle.sip_uri.specs.Uri.{names_differ}

named_alike : (name : List ℕ) (ps : List UriParameter) → list_any (λ other. is_same_text name other) (map (λ (p : UriParameter). p.name) ps)
    ≡ list_any (λ q. is_same_text name q.name) ps
named_alike name [] = refl
named_alike name (p ∷ ps) = ap (λ b. is_same_text name p.name || b) (named_alike name ps)

pub differ_as_texts : (ps : List UriParameter) → all_differ (map (λ (p : UriParameter). p.name) ps) ≡ names_differ ps
differ_as_texts [] = refl
differ_as_texts (p ∷ ps) = ap₂ (λ a b. not a && b) (named_alike p.name ps) (differ_as_texts ps)
