-- What several writes leave.
use Rattle.std.proofs.Common.{◌≡◌, ℕ, ◌+◌, ◌<◌, List, [], ◌∷◌, ◌++◌, length, get_or, Option, None, Some, subst, take, ap, ◌∙◌, append-nil, sym}
use Rattle.std.specs.List.{flat_map}
use Rattle.std.proofs.lemmas.Grind.{flat_map-append}
use Rattle.std.proofs.lemmas.List.{take_more}
use Rattle.std.specs.Io.KnownBytes.{Appends, Keeps, Consumes}
use Rattle.std.proofs.KnownBytes.{Appends-nil, Appends-trans, Keeps-refl, Keeps-trans}

pub appends_nothing : (a : Option (List ℕ)) → Appends a a []
appends_nothing a = Appends-nil a

pub appends_both : (a b c : Option (List ℕ)) (first second : List ℕ) → Appends a b first → Appends b c second → Appends a c (first ++ second)
appends_both a b c first second h1 h2 = Appends-trans a b c first second h1 h2

-- one part more
pub appends_part : {X : Type 0} (f : X → List ℕ) (xs : List X) (i : ℕ) (x : X) (a b c : Option (List ℕ)) → i < length xs → x ≡ get_or xs i x
    → Appends a b (flat_map f (take i xs)) → Appends b c (f x) → Appends a c (flat_map f (take (i + 1) xs))
appends_part f xs i x a b c lt is h1 h2 =
    let same : flat_map f (take (i + 1) xs) ≡ flat_map f (take i xs) ++ f x =
    ap (flat_map f) (take_more xs i x lt) ∙ flat_map-append f (take i xs) (get_or xs i x ∷ []) ∙ ap (λ l. flat_map f (take i xs) ++ l) (append-nil (f (get_or xs i x)))
    ∙ ap (λ y. flat_map f (take i xs) ++ f y) (sym is) in
    subst (λ l. Appends a c l) (sym same) (Appends-trans a b c _ _ h1 h2)

-- reads that gave nothing, and one that gave something
pub keeps_itself : (a : Option (List ℕ)) → Keeps a a
keeps_itself a = Keeps-refl a

pub keeps_both : (a b c : Option (List ℕ)) → Keeps a b → Keeps b c → Keeps a c
keeps_both a b c h1 h2 = Keeps-trans a b c h1 h2

pub keeps_consumes : (a b c : Option (List ℕ)) (bytes : List ℕ) → Keeps a b → Consumes b c bytes → Consumes a c bytes
keeps_consumes None b c bytes h1 h2 = tt
keeps_consumes (Some x) None c bytes h1 h2 = absurd h1
keeps_consumes (Some x) (Some y) None bytes h1 h2 = h2
keeps_consumes (Some x) (Some y) (Some z) bytes h1 h2 = sym h1 ∙ h2
