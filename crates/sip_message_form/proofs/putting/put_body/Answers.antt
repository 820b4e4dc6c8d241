use Rattle.std.proofs.Common.{◌≡◌, List, ℕ, OnOk, sym, ◌∙◌, subst}
use Rattle.sip_message_form.proofs.WrittenLines.{empty_body}
use Rattle.sip_message_form.proofs.putting.put_body.Goals as goal

pub returns-then-is_empty : goal.returns-then-is_empty
returns-then-is_empty c =
    subst (λ (w : List ℕ). OnOk c.extend.result (c.extend.new.self ≡ w)) (empty_body c.args.out.now c.args.body.now (sym c.is_empty.ensures ∙ c.if-is_empty.true))
    c.extend.ensures.ok
