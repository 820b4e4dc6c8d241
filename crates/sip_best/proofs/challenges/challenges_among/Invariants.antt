use Rattle.std.proofs.Common.{◌≡◌, filter}
use Rattle.sip_best.specs.Best.{is_challenge_field}
use Rattle.sip_best.proofs.challenges.challenges_among.Given as goal

abbrev pub invariant-loop-field : goal.invariant-loop-field
invariant-loop-field l = l.found.items ≡ filter is_challenge_field l.yielded
