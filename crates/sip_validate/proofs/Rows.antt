-- The first row that applies, by the rows before it.
use Rattle.std.proofs.Common.{◌≡◌, ℕ, Bool, true, false, cond, List, [], Option, Some, None, option_map, refl, ◌∙◌}
use Rattle.sip_route.specs.declared.way.Way.{Way}
use Rattle.sip_validate.specs.UncheckedRequest.{UncheckedRequest, on_way}
use Rattle.sip_validate.specs.Faults.{is_bad}
use Rattle.sip_validate.specs.Refusal.{Row, refused, refusal, has_other_version, has_other_scheme, has_no_hops, has_own_via, needs_extension, unsupported}
use Rattle.sip_validate.specs.Refusal.{has_other_route}

-- what a row says of a request, if there is one
abbrev pub said : UncheckedRequest → Option Row → Option (ℕ × List ℕ)
said r row = option_map (λ (x : Row). (x.status, x.extra r)) row

-- a row that applies is the first that does
applies : (t : Bool) (row : Row) (others : Option Row) (r : UncheckedRequest) → t ≡ true → said r (cond t (Some row) others) ≡ Some (row.status, row.extra r)
applies true row others r h = refl
applies false row others r h = absurd cc

-- one that doesn't leaves the others
passes : (t : Bool) (row : Row) (others : Option Row) (r : UncheckedRequest) → t ≡ false → said r (cond t (Some row) others) ≡ said r others
passes false row others r h = refl
passes true row others r h = absurd cc

-- the row for extensions
abbrev pub extensions : Row
extensions = record { status = 420; applies = needs_extension; extra = unsupported }

pub bad : (r : UncheckedRequest) (way : Way) → is_bad r ≡ true → refusal (on_way way r) ≡ Some (400, [])
bad r way h = applies (is_bad r) (refused 400 is_bad) _ (on_way way r) h

pub other_version : (r : UncheckedRequest) (way : Way) → is_bad r ≡ false → has_other_version r ≡ true → refusal (on_way way r) ≡ Some (505, [])
other_version r way a h =
    passes (is_bad r) (refused 400 is_bad) _ (on_way way r) a
    ∙ applies (has_other_version r) (refused 505 has_other_version) _ (on_way way r) h

pub other_scheme : (r : UncheckedRequest) (way : Way) → is_bad r ≡ false → has_other_version r ≡ false → has_other_scheme (on_way way r) ≡ true
    → refusal (on_way way r) ≡ Some (416, [])
other_scheme r way a b h =
    passes (is_bad r) (refused 400 is_bad) _ (on_way way r) a
    ∙ passes (has_other_version r) (refused 505 has_other_version) _ (on_way way r) b
    ∙ applies (has_other_scheme (on_way way r)) (refused 416 has_other_scheme) _ (on_way way r) h

pub no_hops : (r : UncheckedRequest) (way : Way) → is_bad r ≡ false → has_other_version r ≡ false → has_other_scheme (on_way way r) ≡ false → has_no_hops r ≡ true
    → refusal (on_way way r) ≡ Some (483, [])
no_hops r way a b c h =
    passes (is_bad r) (refused 400 is_bad) _ (on_way way r) a
    ∙ passes (has_other_version r) (refused 505 has_other_version) _ (on_way way r) b
    ∙ passes (has_other_scheme (on_way way r)) (refused 416 has_other_scheme) _ (on_way way r) c
    ∙ applies (has_no_hops r) (refused 483 has_no_hops) _ (on_way way r) h

pub own_via : (r : UncheckedRequest) (way : Way) → is_bad r ≡ false → has_other_version r ≡ false → has_other_scheme (on_way way r) ≡ false → has_no_hops r ≡ false
    → has_own_via r ≡ true → refusal (on_way way r) ≡ Some (482, [])
own_via r way a b c d h =
    passes (is_bad r) (refused 400 is_bad) _ (on_way way r) a
    ∙ passes (has_other_version r) (refused 505 has_other_version) _ (on_way way r) b
    ∙ passes (has_other_scheme (on_way way r)) (refused 416 has_other_scheme) _ (on_way way r) c
    ∙ passes (has_no_hops r) (refused 483 has_no_hops) _ (on_way way r) d
    ∙ applies (has_own_via r) (refused 482 has_own_via) _ (on_way way r) h

pub extension : (r : UncheckedRequest) (way : Way) → is_bad r ≡ false → has_other_version r ≡ false → has_other_scheme (on_way way r) ≡ false → has_no_hops r ≡ false
    → has_own_via r ≡ false → needs_extension r ≡ true → refusal (on_way way r) ≡ Some (420, unsupported r)
extension r way a b c d e h =
    passes (is_bad r) (refused 400 is_bad) _ (on_way way r) a
    ∙ passes (has_other_version r) (refused 505 has_other_version) _ (on_way way r) b
    ∙ passes (has_other_scheme (on_way way r)) (refused 416 has_other_scheme) _ (on_way way r) c
    ∙ passes (has_no_hops r) (refused 483 has_no_hops) _ (on_way way r) d
    ∙ passes (has_own_via r) (refused 482 has_own_via) _ (on_way way r) e
    ∙ applies (needs_extension r) extensions _ (on_way way r) h

pub other_route : (r : UncheckedRequest) (way : Way) → is_bad r ≡ false → has_other_version r ≡ false → has_other_scheme (on_way way r) ≡ false → has_no_hops r ≡ false
    → has_own_via r ≡ false → needs_extension r ≡ false → has_other_route (on_way way r) ≡ true → refusal (on_way way r) ≡ Some (400, [])
other_route r way a b c d e f h =
    passes (is_bad r) (refused 400 is_bad) _ (on_way way r) a
    ∙ passes (has_other_version r) (refused 505 has_other_version) _ (on_way way r) b
    ∙ passes (has_other_scheme (on_way way r)) (refused 416 has_other_scheme) _ (on_way way r) c
    ∙ passes (has_no_hops r) (refused 483 has_no_hops) _ (on_way way r) d
    ∙ passes (has_own_via r) (refused 482 has_own_via) _ (on_way way r) e
    ∙ passes (needs_extension r) extensions _ (on_way way r) f
    ∙ applies (has_other_route (on_way way r)) (refused 400 has_other_route) _ (on_way way r) h

pub no_row : (r : UncheckedRequest) (way : Way) → is_bad r ≡ false → has_other_version r ≡ false → has_other_scheme (on_way way r) ≡ false → has_no_hops r ≡ false
    → has_own_via r ≡ false → needs_extension r ≡ false → has_other_route (on_way way r) ≡ false → refusal (on_way way r) ≡ None
no_row r way a b c d e f g =
    passes (is_bad r) (refused 400 is_bad) _ (on_way way r) a
    ∙ passes (has_other_version r) (refused 505 has_other_version) _ (on_way way r) b
    ∙ passes (has_other_scheme (on_way way r)) (refused 416 has_other_scheme) _ (on_way way r) c
    ∙ passes (has_no_hops r) (refused 483 has_no_hops) _ (on_way way r) d
    ∙ passes (has_own_via r) (refused 482 has_own_via) _ (on_way way r) e
    ∙ passes (needs_extension r) extensions _ (on_way way r) f
    ∙ passes (has_other_route (on_way way r)) (refused 400 has_other_route) _ (on_way way r) g
