use Rattle.std.proofs.Common.{◌≡◌, ℕ, List, ◌∷◌, ◌++◌, Some, ap, sym, subst, ◌∙◌, rules}
use Rattle.std.specs.Prelude.{codes, option_map}
use Rattle.sip_uri.specs.Host.{IsPlaceAt}
use Rattle.sip_uri.proofs.Places.{name_at}
use Rattle.sip_uri.proofs.PlainPlaces.{numbered}
use Rattle.sip_uri.proofs.PlainUris.{alone_of, named_of}
use Rattle.sip_uri.proofs.plain_forms.plain_parts.Goals as goal

pub returns-in_default : goal.returns-in_default
returns-in_default c =
    alone_of c.args.text.now (c.split_name.result.0.now ++ c.split_name.result.1.now) c.as_slice.result.now c.in_ok-host.host.now c.in_ok-host.rest.now
    (option_map (λ p. p.0.now) c.in_ok-host.port) c.number_of.result
    (c.in_ok-text.ensures ∙ ap (λ (w : List ℕ). codes "sip:" ++ w) c.split_name.ensures.whole) c.in_ok-host.ensures.place
    (numbered c.in_ok-host.port c.in_ok-host.ensures.number ∙ ap (λ n. option_map (λ k. Some k) n) (sym c.number_of.ensures)) c.as_slice.ensures

pub returns : goal.returns
returns c =
    let mark : c.split_name.result.1.now ≡ 64 ∷ c.in-Some-eq64-default.place.now = search rules in
    let port = option_map (λ p. p.0.now) c.in_ok-host-2.port in
    let there : IsPlaceAt c.in-Some-eq64-default.place.now c.in_ok-host-2.host.now port c.in_ok-host-2.rest.now =
    subst (λ (w : List ℕ). IsPlaceAt w c.in_ok-host-2.host.now port c.in_ok-host-2.rest.now) (sym c.split_name-2.ensures.whole) c.in_ok-host-2.ensures.place in
    named_of c.args.text.now (c.split_name.result.0.now ++ c.split_name.result.1.now) c.split_name.result.0.now c.split_name.result.1.now c.in-Some-eq64-default.place.now
    c.in_ok-host-2.host.now c.in_ok-host-2.rest.now port c.number_of-2.result
    (c.in_ok-text.ensures ∙ ap (λ (w : List ℕ). codes "sip:" ++ w) c.split_name.ensures.whole)
    (name_at c.split_name.result.0.now c.split_name.result.1.now c.split_name.ensures.bytes (sym c.is_empty.ensures ∙ c.if-is_empty.false)) mark there
    (numbered c.in_ok-host-2.port c.in_ok-host-2.ensures.number ∙ ap (λ n. option_map (λ k. Some k) n) (sym c.number_of-2.ensures))
