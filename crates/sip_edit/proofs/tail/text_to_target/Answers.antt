use Rattle.std.proofs.Common.{List, ℕ, ◌++◌, ◌∙◌, ap}
use Rattle.sip_message_form.specs.ViewStart.{start_seen}
use Rattle.sip_edit.specs.OwnVia.{branch_text, own_via}
use Rattle.sip_edit.specs.Tail.{head_of}
use Rattle.sip_edit.proofs.Tails.{whole_is}
use Rattle.sip_edit.proofs.tail.text_to_target.Goals as goal

pub returns : goal.returns
returns c m realm routes is_start is_tail left =
    let via : List ℕ = own_via c.args.own.now (branch_text c.args.boot c.args.branch.number c.args.branch.target) in
    c.into_bytes.ensures ∙ c.in_ok-extend.ensures.ok
    ∙ ap (λ (w : List ℕ). w ++ c.args.tail.now) (c.in_ok-put_head.ensures ∙ ap (λ (w : List ℕ). w
    ++ head_of c.args.own.now c.args.records_route c.args.uri.now via (start_seen c.args.start.now)) c.in_ok-out.ensures)
    ∙ whole_is c.args.own.now c.args.records_route c.args.uri.now via c.args.tail.now realm routes (start_seen c.args.start.now) m is_start is_tail left
