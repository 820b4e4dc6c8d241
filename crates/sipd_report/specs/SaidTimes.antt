-- Times that words say, and words that say none.
use Rattle.std.specs.Prelude.{◌≡◌, codes, Some, None, pos}
use Rattle.sipd_report.specs.Said.{moment_at, time_said}

pub record AreTimes : Type 0 where
  pub first : time_said (codes "1970-01-01") ≡ Some 0
  pub date : time_said (codes "2026-10-14") ≡ Some 1791936000
  pub minute : time_said (codes "2026-10-14T06:30") ≡ Some 1791959400
  pub second : time_said (codes "2026-10-14T06:30:15") ≡ Some 1791959415
  pub leap_day : time_said (codes "2024-02-29T23:59:59") ≡ Some 1709251199
  pub last : time_said (codes "9999-12-31T23:59:59") ≡ Some 253402300799

pub record AreNoTimes : Type 0 where
  pub word : time_said (codes "yesterday") ≡ None
  pub no_leap_day : time_said (codes "2026-02-29") ≡ None
  pub thirteenth : time_said (codes "2026-13-01") ≡ None
  pub no_month : time_said (codes "2026-00-01") ≡ None
  pub no_day : time_said (codes "2026-10-00") ≡ None
  pub short : time_said (codes "2026-1-1") ≡ None
  pub hour : time_said (codes "2026-10-14T24:00") ≡ None
  pub no_clock : time_said (codes "2026-10-14T") ≡ None
  pub before : time_said (codes "1969-12-31") ≡ None

pub record AreMoments : Type 0 where
  pub ahead : moment_at 1791959400 (pos 120) ≡ 1791952200000
  pub utc : moment_at 1791959400 (pos 0) ≡ 1791959400000
  pub start : moment_at 0 (pos 60) ≡ 0
