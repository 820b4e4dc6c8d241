-- The table of the sample's rules, and of the same with a window.
use Rattle.std.specs.Prelude.{ℕ, Bool, false, List, codes, Option}
use Rattle.sip_uri.specs.Examples.{sample_domains}
use Rattle.sip_policy.specs.declared.decision.Decision.{Decision}
use Rattle.sip_policy.specs.declared.operation.Operation.{Operation}
use Rattle.sip_policy.specs.declared.operation.OperationPattern.{OperationPattern}
use Rattle.sip_policy.specs.declared.target_pattern.TargetPattern.{TargetPattern}
use Rattle.sip_policy.specs.declared.who.Who.{Who}
use Rattle.sip_policy.specs.Examples.{sample_users, sample_rules, user_at}
use Rattle.sip_matrix.specs.declared.column.Column.{Column}
use Rattle.sip_matrix.specs.Address.{column_of}
use Rattle.sip_matrix.specs.Cell.{decision_in}
use Rattle.sip_matrix.specs.declared.expectation.Askers.{Askers}
use Rattle.sip_matrix.specs.declared.expectation.Times.{Times}
use Rattle.sip_matrix.specs.declared.expectation.ExpectedDestination.{ExpectedDestination}
use Rattle.sip_matrix.specs.Expected.{is_fault}

-- what is decided in a cell of the sample's table of INVITE, for an address that isn't the asker's own
abbrev pub invited : Option (List ℕ) → Column → Decision
invited row column = decision_in sample_rules sample_users row (Operation.Send (codes "INVITE")) column false 0

-- whether it is a fault that somebody calls a number outside, where everybody is expected to reach it by some place at some times
abbrev pub is_outside_fault : Times → ExpectedDestination → Option (List ℕ) → Bool
is_outside_fault times place proven =
    is_fault sample_rules sample_users sample_domains
    (record {
      askers = Askers.Everybody;
      who = Who.Anyone;
      operation = OperationPattern.SendAny;
      target = TargetPattern.Prefix (codes "9") (codes "host.com");
      times = times;
      place = place;
    })
    proven (Operation.Send (codes "INVITE")) (user_at (codes "911") (codes "host.com")) 480

-- the column of an address at host.com
abbrev pub column_at : List ℕ → Column
column_at user = column_of sample_rules sample_users sample_domains (user_at user (codes "host.com"))
