use Rattle.std.proofs.Common.{sym, ◌∙◌, inr, ap}
use Rattle.std.specs.Result.{result_ok}
use Rattle.sip_validate.proofs.Serving.{validated, not_validated}
use Rattle.sip_validate.proofs.validation.validate.Goals as goal

pub returns-in-Some : goal.returns-in-Some
returns-in-Some c =
    inr (not_validated c.args.own.now c.args.request.now c.args.short c.in-Ok.core c.in_ok-way.way c.in-Some.refused (sym (ap result_ok c.in-Ok.ensures))
    c.in_ok-way.ensures (sym c.in-Some.is ∙ c.in_ok-refused.ensures))

pub returns : goal.returns
returns c =
    validated c.args.own.now c.args.request.now c.args.short c.in-Ok.core c.in_ok-way.way c.in-Ok-request_uri.uri (sym (ap result_ok c.in-Ok.ensures)) c.in_ok-way.ensures
    c.in-Ok-request_uri.ensures (sym c.in_default.is ∙ c.in_ok-refused.ensures)
