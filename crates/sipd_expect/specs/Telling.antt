-- A question that isn't decided as expected, in words: who asks for what, for whom and when, and what is decided.
use Rattle.std.specs.Prelude.{ℕ, List, ◌++◌, codes, Option, Some, None}
use Rattle.sip_policy.specs.declared.operation.Operation.{Operation}
use Rattle.sip_config_types.specs.declared.config.Config.{Config}
use Rattle.sip_matrix.specs.declared.expectation.Fault.{Fault}
use Rattle.sipd_ask.specs.Decide.{aor_text, line_for}
use Rattle.sipd_ask.specs.Show.{clock_text}

abbrev pub asker_text : Option (List ℕ) → List ℕ
asker_text None = codes "nobody"
asker_text (Some name) = codes "user " ++ name

abbrev pub operation_word : Operation → List ℕ
operation_word Operation.Register = codes "register"
operation_word Operation.List = codes "list"
operation_word (Operation.Send method) = method

-- `user alice INVITE 9*@office.local at 8:00: rule 5 denies: 403`, and LF
abbrev pub fault_text : Config → Fault → List ℕ
fault_text config fault =
    asker_text fault.proven ++ codes " " ++ operation_word fault.operation ++ codes " " ++ aor_text fault.aor ++ codes " at " ++ clock_text fault.minute
    ++ codes ": " ++ line_for config fault.proven fault.operation fault.aor fault.minute
