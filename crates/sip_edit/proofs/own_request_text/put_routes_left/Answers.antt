use Rattle.std.proofs.Common.{List, ℕ, ◌++◌, ◌∙◌, ap, sym, append-nil}
use Rattle.sip_edit.proofs.BesideTexts.{none_kept}
use Rattle.sip_edit.proofs.own_request_text.put_routes_left.Goals as goal

pub returns-then-routes-eq0 : goal.returns-then-routes-eq0
returns-then-routes-eq0 c =
    sym (append-nil c.args.out.now) ∙ ap (λ (w : List ℕ). c.args.out.now ++ w) (sym (none_kept c.args.routes c.args.came.now.fields c.if-routes-eq0.true))
