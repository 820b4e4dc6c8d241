-- How many datagrams weren't handed on, in all and by source.
use Rattle.std.specs.Prelude.{ℕ, List, [], ◌∷◌, ◌++◌, length, nat_lt, Bool, if◌then◌else◌}
use Rattle.std.specs.List.{list_any}
use Rattle.sip_guard.specs.Sources.{same_ip}
use Rattle.sip_guard.specs.declared.unheard.UnheardSource.{UnheardSource}
use Rattle.sip_transport.specs.Told.{counted}

-- how many in all, and of whom how many: the first sources of which one wasn't handed on
pub record UnheardCounts : Type 0 where
  pub total : ℕ
  pub sources : List UnheardSource

-- how many sources are counted one by one
abbrev pub most_sources : ℕ
most_sources = 32

-- none
abbrev pub none_unheard : UnheardCounts
none_unheard = record { total = 0; sources = [] }

-- whether a count is of this IP address
abbrev pub is_of : List ℕ → UnheardSource → Bool
is_of ip source = same_ip source.ip ip

-- with one more of this IP address
abbrev pub counted_among : List ℕ → List UnheardSource → List UnheardSource
counted_among ip [] = []
counted_among ip (source ∷ rest) = if is_of ip source then record source { count = counted source.count } ∷ rest else source ∷ counted_among ip rest

-- the sources, with one more of this one
abbrev pub sources_behind : List ℕ → List UnheardSource → List UnheardSource
sources_behind ip sources =
    if list_any (is_of ip) sources
    then counted_among ip sources
    else if nat_lt (length sources) most_sources
    then sources ++ record { ip = ip; count = 1 } ∷ []
    else sources

-- the counts, with one more datagram of this IP address
abbrev pub noted : UnheardCounts → List ℕ → UnheardCounts
noted unheard ip = record { total = counted unheard.total; sources = sources_behind ip unheard.sources }
