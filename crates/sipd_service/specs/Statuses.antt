-- What is kept for those who look on.
use Rattle.std.specs.Prelude.{ℕ, ◌+◌, ◌-◌, ◌^◌, ◌==◌, min, if◌then◌else◌, Option, Some, None, option_map}
use Rattle.sip_guard.specs.Guard.{AllowanceState}
use Rattle.sip_guard.specs.Unheard.{UnheardCounts}
use Rattle.sipd_service.specs.declared.status_turn.ServerCounts.{ServerCounts}
use Rattle.sipd_status.specs.declared.numbers.StatusNumbers.{StatusNumbers}
use Rattle.sipd_status.specs.declared.tally.Judged.{Judged}
use Rattle.sipd_status.specs.declared.tally.Proof.{Proof}
use Rattle.sipd_status.specs.declared.tally.Tally.{Tally}

-- how many datagrams weren't heard, by counts of them, if there are any
abbrev pub total_of : Option UnheardCounts → ℕ
total_of None = 0
total_of (Some unheard) = unheard.total

-- how many a guard counts: none, where it has no limit
abbrev pub unheard_in : Option AllowanceState → ℕ
unheard_in allowances = total_of (option_map (λ kept. kept.unheard) allowances)

-- together, at most the greatest count
abbrev pub capped_sum : ℕ → ℕ → ℕ
capped_sum a b = min (a + b) (2 ^ 64 - 1)

-- what a decision says of who asked, where it is that of the last datagram
abbrev pub proof_if_last : ℕ → Judged → Option Proof
proof_if_last next judged = if capped_sum judged.number 1 == next then Some judged.proof else None

-- of the last decision, by the number of the next datagram
abbrev pub proof_of_last : ℕ → Option Judged → Option Proof
proof_of_last next None = None
proof_of_last next (Some judged) = proof_if_last next judged

-- the numbers of a server: of what was printed, how full its tables are, of how many that weren't heard it was said, and of how many not yet
abbrev pub numbers_of : Tally → ServerCounts → ℕ → ℕ → ℕ → Option ℕ → Option ℕ → StatusNumbers
numbers_of tally counts wrong told unheard record_bytes memory_bytes = record {
  decisions = tally.decisions;
  wrong = wrong;
  unheard = capped_sum told unheard;
  open_requests = counts.open_requests;
  dialogs = counts.dialogs;
  record_bytes = record_bytes;
  memory_bytes = memory_bytes;
}
