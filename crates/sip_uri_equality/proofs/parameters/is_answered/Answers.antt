use Rattle.std.proofs.Common.{sym, ◌∙◌}
use Rattle.sip_uri_equality.proofs.ParameterLaws.{counts}
use Rattle.sip_uri_equality.proofs.parameters.is_answered.Goals as goal

pub returns-else-not-is_never_ignored : goal.returns-else-not-is_never_ignored
returns-else-not-is_never_ignored c =
    counts c.args.others.now c.args.parameter.now c.as_slice-name.result.now c.has_name.result c.as_slice-name.ensures
    (sym c.is_never_ignored.ensures ∙ c.if-not-is_never_ignored.false) c.has_name.ensures
