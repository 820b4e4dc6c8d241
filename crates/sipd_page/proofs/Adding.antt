-- Sections, one behind the other.
use Rattle.std.proofs.Common.{◌≡◌, ◌<◌, ◌≤◌, ◌∙◌, ap, refl, subst, sym, ℕ, ◌+◌, ℤ, List, [], ◌∷◌, ◌++◌, Option, Some, Result, Ok, Err}
use Rattle.std.proofs.Common.{length, get_or, map, take, take_all}
use Rattle.std.specs.Prelude.{OnOk}
use Rattle.std.proofs.lemmas.List.{map_more}
use Rattle.sipd_calls.specs.declared.notation.Notation.TheVariants.{Html}
use Rattle.sipd_days.specs.PrintedSources.{WereSources, every_datagram}
use Rattle.sipd_page_sections.specs.declared.notes.Notes.{Notes}
use Rattle.sipd_page_sections.specs.Sections.{section_text}
use Rattle.sipd_page.specs.Page.{AddsSection, AddsSections, AddsTold}

-- what was written, of a path that was lent
pub section_is : (old new seen path sources digest : List ℕ) (sealed : Option (List ℕ)) (policy : List ℕ) (offset : ℤ) (notes : Notes)
    → new ≡ old ++ section_text seen digest sealed policy offset sources notes → seen ≡ path
    → new ≡ old ++ section_text path digest sealed policy offset sources notes
section_is old new seen path sources digest sealed policy offset notes h same =
    h ∙ ap (λ (a : List ℕ). old ++ section_text a digest sealed policy offset sources notes) same

-- of rows that were lent
pub adds_section : {X E : Type 0} (result : Result X E) (path sources lent old new : List ℕ) → WereSources (Some Html) every_datagram sources
    → lent ≡ sources → OnOk result (AddsTold path lent old new) → OnOk result (AddsSection path old new)
adds_section (Ok x) path sources lent old new were same section =
    record { sources = sources; were_sources = were; section = subst (λ (rows : List ℕ). AddsTold path rows old new) same section }
adds_section (Err e) path sources lent old new were same section = tt

behind : (paths : List (List ℕ)) (path old half new : List ℕ) → AddsSections paths old half → AddsSection path half new
    → AddsSections (paths ++ path ∷ []) old new
behind [] path old half new h last = record { text = new; first = subst (λ (text : List ℕ). AddsSection path text new) h last; others = refl }
behind (other ∷ paths) path old half new h last =
    record { text = h.text; first = h.first; others = behind paths path h.text half new h.others last }

pub one_more : {X : Type 0} (f : X → List ℕ) (paths : List X) (i : ℕ) (x : X) (path old half new : List ℕ) → i < length paths → x ≡ get_or paths i x
    → path ≡ f x → AddsSections (map f (take i paths)) old half → AddsSection path half new → AddsSections (map f (take (i + 1) paths)) old new
one_more {X} f paths i x path old half new lt is says so_far last =
    let named : map f (take i paths) ++ path ∷ [] ≡ map f (take (i + 1) paths) =
    ap (λ (l : List ℕ). map f (take i paths) ++ l ∷ []) (says ∙ ap f is) ∙ sym (map_more f paths i x lt) in
    subst (λ (l : List (List ℕ)). AddsSections l old new) named (behind (map f (take i paths)) path old half new so_far last)

pub all_added : {X : Type 0} (f : X → List ℕ) (paths : List X) (i : ℕ) (old new : List ℕ) → length paths ≤ i → AddsSections (map f (take i paths)) old new
    → AddsSections (map f paths) old new
all_added {X} f paths i old new past so_far = subst (λ (l : List X). AddsSections (map f l) old new) (take_all i paths past) so_far
