-- Which datagrams are counted.
use Rattle.std.specs.Prelude.{ℕ, Bool, true, ◌&&◌, List, Option, None, Some}
use Rattle.std.specs.Str.{bytes_eq}
use Rattle.sipd_report.specs.Chosen.{is_within}
use Rattle.sipd_report.specs.Times.{shown_seconds}
use Rattle.sipd_sources.specs.declared.filter.SourceFilter.{SourceFilter}
use Rattle.sipd_sources.specs.declared.source.SourceMoment.{SourceMoment}

-- on the office's clock of then
abbrev pub is_in_time : SourceFilter → SourceMoment → Bool
is_in_time filter moment = is_within filter.since filter.until (shown_seconds moment.at moment.offset)

abbrev pub is_from : Option (List ℕ) → List ℕ → Bool
is_from None ip = true
is_from (Some from) ip = bytes_eq from ip

-- whether a datagram is counted that came from an address at a moment
abbrev pub takes : SourceFilter → SourceMoment → List ℕ → Bool
takes filter moment ip = is_in_time filter moment && is_from filter.from ip
