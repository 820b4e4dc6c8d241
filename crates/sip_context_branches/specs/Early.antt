-- Deadlines that leave room for Timer C.
use Rattle.std.specs.Prelude.{◌+◌, ◌<◌, ◌^◌}
use Rattle.model_context.specs.state.declared.branch.Phase.{Phase}
use Rattle.model_context.specs.state.declared.branch.Phase.TheVariants.{Unheard, Heard, Cancelled, Done, Ended}

-- A 100 lets a branch wait until Timer C, 153,000 ms behind its wait for a first response (RFC 3261 16.8): that moment is one of 64
-- bits. One that was sent at such a moment that Timer C,
-- 185,000 ms later, is, has such a deadline. No other phase's deadline is counted on from.
abbrev pub IsEarly : Phase → Type 0
IsEarly (Unheard due) = due + 153000 < 2 ^ 64
IsEarly (Heard due) = Unit {0}
IsEarly (Cancelled due) = Unit {0}
IsEarly (Done due status) = Unit {0}
IsEarly Ended = Unit {0}
