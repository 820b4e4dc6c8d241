-- The answering side.
use Rattle.std.specs.Prelude.{◌*◌, ℕ, ◌+◌, not, ◌&&◌, if◌then◌else◌}
use Rattle.sip_timers.specs.Intervals.{T1}
use Rattle.sip_context_branches.specs.state.declared.open_request.Side.{Side}
use Rattle.sip_context_branches.specs.state.declared.open_request.Side.TheVariants.{Closing}
use Rattle.sip_context_branches.specs.state.State.{is_answering, is_provisional}

-- the side after an answer of a status went to the caller: the first final one begins to close it (RFC 3261 17.2: Timers H, J and L)
abbrev pub side_after : ℕ → Side → ℕ → Side
side_after now side status = if is_answering side && not (is_provisional status) then Closing (now + 64 * T1) else side
