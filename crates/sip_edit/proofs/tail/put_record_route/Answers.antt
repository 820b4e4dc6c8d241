use Rattle.std.proofs.Common.{◌≡◌, List, ℕ, ◌++◌, ◌∙◌, ap, subst, OnOk}
use Rattle.std.specs.Prelude.{codes, decimal}
use Rattle.sip_edit.proofs.Tails.{recorded_is}
use Rattle.sip_edit.proofs.tail.put_record_route.Goals as goal

pub returns : goal.returns
returns c =
    subst (λ (w : List ℕ). OnOk c.extend-4.result (c.extend-4.new.self ≡ w))
    (
    ap (λ (w : List ℕ). w ++ codes ";lr>\r\n") (
    c.in_ok-push_decimal.ensures.ok ∙ ap (λ (w : List ℕ). w ++ decimal c.from.result) (
    c.in_ok-extend-3.ensures.ok ∙ ap (λ (w : List ℕ). w ++ codes ":") (
    c.in_ok-extend-2.ensures.ok ∙ ap (λ (w : List ℕ). w ++ c.as_slice.result.now) c.in_ok-extend.ensures.ok
    )))
    ∙ ap (λ (n : ℕ). c.args.out.now ++ codes "Record-Route: <sip:" ++ c.as_slice.result.now ++ codes ":" ++ decimal n ++ codes ";lr>\r\n") c.from.ensures
    ∙ ap (λ (w : List ℕ). c.args.out.now ++ codes "Record-Route: <sip:" ++ w ++ codes ":" ++ decimal c.args.own.now.port ++ codes ";lr>\r\n") c.as_slice.ensures
    ∙ recorded_is c.args.out.now c.args.own.now
    )
    c.extend-4.ensures.ok
