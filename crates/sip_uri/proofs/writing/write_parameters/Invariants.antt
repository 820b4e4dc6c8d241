use Rattle.std.proofs.Common.{◌≡◌, ◌++◌, take}
use Rattle.std.specs.List.{flat_map}
use Rattle.sip_uri.specs.Uri.{parameter_text}
use Rattle.sip_uri.proofs.writing.write_parameters.Given as goal

-- the parameters so far are written
abbrev pub invariant-loop-parameter : goal.invariant-loop-parameter
invariant-loop-parameter l = l.out ≡ l.fn.out ++ flat_map parameter_text (take l.parameter-index l.parameters)
