use Rattle.std.proofs.Common.{rules, ◌≡◌, true, List, ℕ, Option, Some, subst, Bor}
use Rattle.std.specs.Prelude.{option_map}
use Rattle.sip_header_credentials.proofs.Placing.{IsReadSo, one_read}
use Rattle.sip_header_credentials.proofs.credentials.usual_credentials.Goals as goal

pub loop-behind-preserved : goal.loop-behind-preserved
loop-behind-preserved c =
    let took : c.put_usual.result ≡ true = search rules in
    let so_far : IsReadSo c.args.bytes.now (Some c.in-Some.text.now) c.loop-behind.places =
    subst (λ (o : Option (Bor (List ℕ))). IsReadSo c.args.bytes.now (option_map (λ x. x.now) o) c.loop-behind.places) c.in-Some.is c.loop-behind.invariant in
    one_read c.args.bytes.now c.in-Some.text.now c.in_ok-name.name.now c.in_ok-name.value.said.now (option_map (λ x. x.now) c.in_ok-name.value.rest) c.loop-behind.places
    _ c.in_ok-name.ensures.items so_far (λ items is. c.put_usual.ensures items took is)
