-- What isn't read in parts, and what stands behind a version.
use Rattle.std.proofs.Common.{◌≡◌, ℕ, List, ◌++◌, take, drop, Option, Some, None, refl, sym, ap, ◌∙◌}
use Rattle.std.specs.Prelude.{codes}
use Rattle.std.proofs.lemmas.List.{take-append-drop}
use Rattle.sip_text.specs.Lists.{trimmed}
use Rattle.sip_header.specs.declared.name_addr.AnyUri.{AnyUri}
use Rattle.sip_header.specs.NameAddr.{with_parameters}
use Rattle.sip_header.specs.Via.{sender_behind, sender_of}

pub no_parameters : (uri : Option AnyUri) → with_parameters None uri ≡ None
no_parameters None = refl
no_parameters (Some u) = refl

pub version_whole : (bytes front rest : List ℕ) → front ≡ take 8 bytes → rest ≡ drop 8 bytes → front ≡ codes "SIP/2.0/" → bytes ≡ codes "SIP/2.0/" ++ rest
version_whole bytes front rest before behind is =
    sym (take-append-drop 8 bytes) ∙ ap (λ (w : List ℕ). w ++ drop 8 bytes) (sym before ∙ is) ∙ ap (λ (w : List ℕ). codes "SIP/2.0/" ++ w) (sym behind)

pub version_is : (rest : List ℕ) → sender_of (codes "SIP/2.0/" ++ rest) ≡ sender_behind (trimmed rest)
version_is rest = refl
