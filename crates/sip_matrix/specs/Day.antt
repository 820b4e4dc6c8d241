-- Pieces of the day, in each of which the same rules hold.
use Rattle.std.specs.Prelude.{ℕ, zero, suc, Bool, false, ◌||◌, nat_eq, if◌then◌else◌, List, [], ◌∷◌, ◌++◌, Option, Some, None}
use Rattle.std.specs.List.{list_any}
use Rattle.sip_policy.specs.declared.window.Window.{Window}
use Rattle.sip_policy.specs.declared.rule.Rule.{Rule}

-- whether a window, if there is one, begins or ends at a minute
abbrev pub is_bound_of : ℕ → Option Window → Bool
is_bound_of minute None = false
is_bound_of minute (Some window) = nat_eq minute window.from || nat_eq minute window.until

-- whether a piece of the day begins at a minute: at midnight, and where some rule's window begins or ends
abbrev pub begins_piece : List Rule → ℕ → Bool
begins_piece rules minute = nat_eq minute 0 || list_any (λ rule. is_bound_of minute rule.window) rules

-- the piece of a minute, by its first: the last minute up to this one at which a piece begins
unfoldable pub piece_of : List Rule → ℕ → ℕ
piece_of rules zero = 0
piece_of rules (suc minute) = if begins_piece rules (suc minute) then suc minute else piece_of rules minute

-- the minutes below a number at which a piece begins, rising
unfoldable pub pieces_below : List Rule → ℕ → List ℕ
pieces_below rules zero = []
pieces_below rules (suc minute) =
    if begins_piece rules minute then pieces_below rules minute ++ minute ∷ [] else pieces_below rules minute

-- the pieces of a day of 1440 minutes
abbrev pub pieces_of : List Rule → List ℕ
pieces_of rules = pieces_below rules 1440
