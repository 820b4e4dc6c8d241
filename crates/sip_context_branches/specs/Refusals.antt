-- The final answer of a branch.
use Rattle.std.specs.Prelude.{Bool, false}
use Rattle.model_context.specs.state.declared.branch.Phase.{Phase}
use Rattle.model_context.specs.state.declared.branch.Phase.TheVariants.{Unheard, Heard, Cancelled, Done, Ended}
use Rattle.model_context.specs.state.State.{is_failure}

-- whether it was a 300 to 699, which this server acknowledges (RFC 3261 17.1.1.3)
abbrev pub was_refused : Phase → Bool
was_refused (Unheard due) = false
was_refused (Heard due) = false
was_refused (Cancelled due) = false
was_refused (Done due status) = is_failure status
was_refused Ended = false
