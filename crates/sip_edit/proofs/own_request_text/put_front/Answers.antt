use Rattle.std.proofs.Common.{◌≡◌, List, ℕ, ◌++◌, ◌∙◌, ap, subst, OnOk}
use Rattle.std.specs.Prelude.{codes}
use Rattle.sip_message_form.specs.Text.{field_text}
use Rattle.sip_edit.specs.OwnVia.{branch_text, own_via, own_via_field}
use Rattle.sip_edit.proofs.BesideTexts.{front_is}
use Rattle.sip_edit.proofs.own_request_text.put_front.Goals as goal

pub returns : goal.returns
returns c =
    let branch : List ℕ = branch_text c.args.boot c.args.branch.number c.args.branch.target in
    subst (λ (w : List ℕ). OnOk c.extend.result (c.extend.new.self ≡ w))
    (
    ap (λ (w : List ℕ). w ++ codes "Max-Forwards: 70\r\n") (
    c.in_ok-put_via.ensures ∙ ap (λ (w : List ℕ). w ++ field_text (own_via_field c.args.own.now branch)) c.in_ok-put_first_line.ensures
    )
    ∙ front_is c.args.out.now c.args.method.now c.args.uri.now (own_via c.args.own.now branch)
    )
    c.extend.ensures.ok
