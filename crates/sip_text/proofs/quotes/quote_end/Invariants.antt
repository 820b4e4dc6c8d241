use Rattle.std.proofs.Common.{◌≡◌, ◌+◌, ◌-◌, ◌≤◌, length}
use Rattle.std.specs.Prelude.{option_map}
use Rattle.sip_text.specs.declared.cuts.Quoting.TheVariants.{Inside}
use Rattle.sip_text.specs.Cuts.{quote_end}
use Rattle.sip_text.proofs.quotes.quote_end.Given as goal

-- what was passed, and where the rest ends, is the answer
abbrev pub invariant-loop-at : goal.invariant-loop-at
invariant-loop-at l = record {
  within : length l.rest ≤ length l.inside;
  so_far : option_map (λ n. (length l.inside - length l.rest) + n) (quote_end Inside l.rest) ≡ quote_end Inside l.inside;
}

abbrev pub decreases-loop-at : goal.decreases-loop-at
decreases-loop-at l = length l.rest
