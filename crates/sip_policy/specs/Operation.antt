-- What a request asks for, and operation patterns (this project's profile).
use Rattle.std.specs.Prelude.{ℕ, Bool, true, false, List, codes, if◌then◌else◌}
use Rattle.std.specs.Str.{bytes_eq}
use Rattle.sip_policy.specs.declared.operation.Operation.{Operation}
use Rattle.sip_policy.specs.declared.operation.OperationPattern.{OperationPattern}
use Rattle.sip_policy.specs.declared.operation.OperationPattern.TheVariants as Pattern

-- what a request of a method asks for: a REGISTER with a Contact registers, one without lists the bindings (RFC 3261 10.2), any
-- other is to be sent on
abbrev pub operation_of : List ℕ → Bool → Operation
operation_of method has_contact =
    if bytes_eq method (codes "REGISTER") then (if has_contact then Operation.Register else Operation.List)
    else Operation.Send method

-- whether an operation is of a pattern; methods are compared byte by byte (RFC 3261 7.1)
abbrev pub matches_operation : Operation → OperationPattern → Bool
matches_operation Operation.Register Pattern.Register = true
matches_operation Operation.List Pattern.List = true
matches_operation (Operation.Send method) (Pattern.Send wanted) = bytes_eq method wanted
matches_operation (Operation.Send method) Pattern.SendAny = true
matches_operation operation pattern = false
