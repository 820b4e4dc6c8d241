-- What a line of the limits of a process says (`/proc/self/limits`, proc(5)): the name of a limit, blanks, the soft limit, blanks, and
-- more.
use Rattle.std.specs.Prelude.{ℕ, List, [], ◌∷◌, length, drop, nat_eq, nat_lt, codes, if◌then◌else◌, Option, Some, None, option_and_then, Result, Ok, Err}
use Rattle.std.specs.Option.{option_or}
use Rattle.std.specs.List.{starts_with}
use Rattle.sip_text.specs.Lists.{front_trimmed}
use Rattle.sip_text.specs.Numbers.{plain_decimal_of}
use Rattle.sip_text.specs.Splits.{split_at_byte}
use Rattle.sip_text.specs.TextLines.{lines_of}
use Rattle.sipd_exit.specs.declared.exit.Exit.{Exit}
use Rattle.sipd_exit.specs.declared.exit.Exit.TheVariants.{Stack}

-- what stands behind a front of a line, where the line begins with it
abbrev pub behind : List ℕ → List ℕ → Option (List ℕ)
behind front line = if starts_with nat_eq line front then Some (drop (length front) line) else None

-- the limit that stands in front of the next blank
abbrev pub first_limit : List ℕ × List ℕ → Option ℕ
first_limit parts = plain_decimal_of parts.0

-- the limit that stands first behind the name
abbrev pub limit_behind : List ℕ → Option ℕ
limit_behind rest = option_and_then first_limit (split_at_byte 32 (front_trimmed rest))

-- the soft limit of the stack, in bytes, where the line says one
abbrev pub soft_limit : List ℕ → Option ℕ
soft_limit line = option_and_then limit_behind (behind (codes "Max stack size") line)

-- a stack that is too small: the server needs 524,288 bytes (this project's profile)
abbrev pub if_small : ℕ → Option ℕ
if_small bytes = if nat_lt bytes 524288 then Some bytes else None

-- the soft limit of the stack, where the line says one that is too small
abbrev pub too_small : List ℕ → Option ℕ
too_small line = option_and_then if_small (soft_limit line)

-- what the first of some lines says that says too small a limit
abbrev pub first_small : List (List ℕ) → Option ℕ
first_small [] = None
first_small (line ∷ lines) = option_or (too_small line) (first_small lines)

-- too small a limit among the limits of a process
abbrev pub small_stack : List ℕ → Option ℕ
small_stack limits = first_small (lines_of limits)

-- how a start ends with such a stack
abbrev pub exit_of_small : Option ℕ → Result (Unit {0}) Exit
exit_of_small None = Ok tt
exit_of_small (Some bytes) = Err (Stack bytes 524288)
