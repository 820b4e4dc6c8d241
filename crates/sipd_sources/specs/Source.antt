-- What is known of an address, and what a datagram adds to that.
use Rattle.std.specs.Prelude.{ℕ, ◌+◌, ◌*◌, Bool, if◌then◌else◌, List, slice_index}
use Rattle.sipd_report.specs.Totals.{capped}
use Rattle.sipd_sources.specs.declared.source.Mark.{Mark}
use Rattle.sipd_sources.specs.declared.source.Source.{Source}
use Rattle.sipd_sources.specs.declared.source.SourceMoment.{SourceMoment}

-- a count, and one more, if something is so; it stays at the greatest that a u64 holds
abbrev pub counted : ℕ → Bool → ℕ
counted count is = if is then capped (count + 1) else count

-- the number of an IPv4 address, by which addresses stand in order
abbrev pub number_of : List ℕ → ℕ
number_of ip = slice_index ip 0 * 16777216 + slice_index ip 1 * 65536 + slice_index ip 2 * 256 + slice_index ip 3

-- an address from which nothing came yet
abbrev pub silent : List ℕ → SourceMoment → Source
silent ip moment = record {
  ip = ip;
  heard = 0;
  challenged = 0;
  proven = 0;
  wrong = 0;
  names = 0;
  first = moment;
  last = moment;
}

-- one more datagram from there
abbrev pub heard_more : SourceMoment → Mark → Source → Source
heard_more moment mark s = record {
  ip = s.ip;
  heard = capped (s.heard + 1);
  challenged = counted s.challenged mark.challenged;
  proven = counted s.proven mark.proven;
  wrong = counted s.wrong mark.wrong;
  names = counted s.names mark.is_new;
  first = s.first;
  last = moment;
}
