-- Lines, read for the sample configuration.
use Rattle.std.specs.Prelude.{◌≡◌, ℕ, List, codes, Result, Ok, Err}
use Rattle.sip_policy.specs.declared.operation.OperationPattern.TheVariants as Pattern
use Rattle.sip_policy.specs.declared.target_pattern.TargetPattern.{TargetPattern}
use Rattle.sip_policy.specs.declared.target_pattern.TargetPattern.TheVariants as Target
use Rattle.sip_policy.specs.declared.who.Who.{Who}
use Rattle.sip_config_types.specs.Sample.{sample}
use Rattle.sip_matrix.specs.declared.expectation.Askers.{Askers}
use Rattle.sip_matrix.specs.declared.expectation.Times.{Times}
use Rattle.sip_matrix.specs.declared.expectation.ExpectedDestination.{ExpectedDestination}
use Rattle.sip_matrix.specs.declared.expectation.Expectation.{Expectation}
use Rattle.sipd_expect.specs.declared.error.LineError.{LineError}
use Rattle.sipd_expect.specs.declared.error.LineError.TheVariants.{BadWho, UnknownGroup, SmallLetter, BadTarget, BadTimes, BadPlace, UnknownHop}
use Rattle.sipd_expect.specs.Line.{asked, expectation_of, expected}

abbrev pub read : List ℕ → Result Expectation LineError
read line = expectation_of sample.users sample.hops line

abbrev pub outside : TargetPattern
outside = Target.Prefix (codes "9") (codes "host.com")

pub record AreLines : Type 0 where
  pub anyone : read (codes "anyone INVITE 9*@host.com always via gw") ≡ Ok (expected (asked Askers.Everybody Who.Anyone) (Pattern.Send (codes "INVITE")) outside
      Times.Always (ExpectedDestination.Hop 0))
  pub group : read (codes "group staff  any 9*@host.com 8:00-18:30") ≡ Ok (expected (asked Askers.Users (Who.Group (codes "staff"))) Pattern.SendAny outside
      (Times.Within (record { from = 480; until = 1110 })) ExpectedDestination.Anywhere)
  pub nobody : read (codes "nobody register 9*@host.com never") ≡ Ok (expected (asked Askers.Nobody Who.Anyone) Pattern.Register outside Times.Never
      ExpectedDestination.Anywhere)
  pub no_who : read (codes "interns INVITE 9*@host.com never") ≡ Err BadWho
  pub no_group : read (codes "group interns INVITE 9*@host.com never") ≡ Err UnknownGroup
  pub small : read (codes "anyone invite 9*@host.com never") ≡ Err SmallLetter
  pub no_target : read (codes "anyone INVITE 911 never") ≡ Err BadTarget
  pub no_times : read (codes "anyone INVITE 9*@host.com 8:00-8:00") ≡ Err BadTimes
  pub no_place : read (codes "anyone INVITE 9*@host.com never via gw") ≡ Err BadPlace
  pub no_hop : read (codes "anyone INVITE 9*@host.com always via gate") ≡ Err UnknownHop
