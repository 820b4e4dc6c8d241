-- How a command ends otherwise than well.
use Rattle.std.specs.Prelude.{◌≡◌, ◌⊎◌, ⊤}
use Rattle.sipd_exit.specs.Exits.{IsPrintFault}
use Rattle.sipd_exit.specs.declared.exit.Exit.{Exit}
use Rattle.sipd_exit.specs.declared.exit.Exit.TheVariants.{Memory, Question}

-- what is asked has no answer: a text says why, or memory ran out
abbrev pub IsUnanswered : Exit → Type 0
IsUnanswered Memory = ⊤
IsUnanswered (Question text) = ⊤
IsUnanswered exit = ⊥

-- it has none, or its answer isn't printed
abbrev pub IsUntold : Exit → Type 0
IsUntold exit = IsUnanswered exit ⊎ IsPrintFault exit

-- the answer isn't printed; or it ends with this, and then that holds
abbrev pub EndsAs : Exit → Type 0 → Exit → Type 0
EndsAs answer holds exit = IsPrintFault exit ⊎ ((exit ≡ answer) × holds)
