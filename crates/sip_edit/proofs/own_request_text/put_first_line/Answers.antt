use Rattle.std.proofs.Common.{◌≡◌, List, ℕ, ◌++◌, ◌∙◌, ap, subst, OnOk}
use Rattle.std.specs.Prelude.{codes}
use Rattle.sip_edit.proofs.BesideTexts.{line_is}
use Rattle.sip_edit.proofs.own_request_text.put_first_line.Goals as goal

pub returns : goal.returns
returns c =
    subst (λ (w : List ℕ). OnOk c.extend-4.result (c.extend-4.new.self ≡ w))
    (
    ap (λ (w : List ℕ). w ++ codes " SIP/2.0\r\n") (
    c.in_ok-extend-3.ensures.ok ∙ ap (λ (w : List ℕ). w ++ c.args.uri.now) (
    c.in_ok-extend-2.ensures.ok ∙ ap (λ (w : List ℕ). w ++ codes " ") c.in_ok-extend.ensures.ok
    ))
    ∙ line_is c.args.out.now c.args.method.now c.args.uri.now
    )
    c.extend-4.ensures.ok
