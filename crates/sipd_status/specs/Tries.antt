-- Who gave wrong passwords, and who right ones (this project's profile).
use Rattle.std.specs.Prelude.{ℕ, Bool, true, false, not, ◌&&◌, nat_eq, nat_le, nat_lt, if◌then◌else◌, List, [], ◌∷◌, ◌++◌, length, codes, decimal}
use Rattle.std.specs.Cmp.Lexicographic.{pointwise}
use Rattle.std.specs.List.{flat_map, list_any}
use Rattle.sip_text.specs.Words.{is_token_text}
use Rattle.sip_uri.specs.Addresses.{ip_text}
use Rattle.sipd_status.specs.Tally.{more}
use Rattle.sipd_status.specs.declared.tries.TriedSource.{TriedSource}

-- how many sources are kept
abbrev pub most_sources : ℕ
most_sources = 1024

-- whether it is the source with this IP address
abbrev pub is_of : List ℕ → TriedSource → Bool
is_of ip source = pointwise nat_eq source.ip ip

-- one more wrong password of a source, for a user
abbrev pub one_wrong : List ℕ → TriedSource → TriedSource
one_wrong name source = record source { wrong = more source.wrong; name = name }

-- a right one
abbrev pub one_right : TriedSource → TriedSource
one_right source = record source { is_right = true }

-- the sources, where one of them changed
abbrev pub changed_among : (TriedSource → TriedSource) → List ℕ → List TriedSource → List TriedSource
changed_among change ip [] = []
changed_among change ip (source ∷ rest) = if is_of ip source then change source ∷ rest else source ∷ changed_among change ip rest

-- the same behind what one did: where it is new, it stands at the end, if there is room
abbrev pub behind : (TriedSource → TriedSource) → TriedSource → List TriedSource → List TriedSource
behind change first sources =
    if list_any (is_of first.ip) sources
    then changed_among change first.ip sources
    else if nat_lt (length sources) most_sources
    then sources ++ first ∷ []
    else sources

-- behind a wrong password
abbrev pub behind_wrong : List ℕ → List ℕ → List TriedSource → List TriedSource
behind_wrong ip name sources = behind (one_wrong name) (record { ip = ip; name = name; wrong = 1; is_right = false }) sources

-- behind a right one, with a name that isn't told
abbrev pub behind_right : List ℕ → List ℕ → List TriedSource → List TriedSource
behind_right ip name sources = behind one_right (record { ip = ip; name = name; wrong = 0; is_right = true }) sources

-- whether a source is told: it gave three wrong passwords at least, and none that is right
abbrev pub is_told : TriedSource → Bool
is_told source = nat_le 3 source.wrong && not source.is_right

-- whether a name can be one of a user: it is a short token
abbrev pub is_short_token : List ℕ → Bool
is_short_token name = is_token_text name && nat_le (length name) 64

-- a name as it is told
abbrev pub told_name : List ℕ → List ℕ
told_name name = if is_short_token name then name else codes "a name that is none"

-- the line of a source
abbrev pub line_of : TriedSource → List ℕ
line_of source = codes "sipd: " ++ ip_text source.ip ++ codes " gave " ++ decimal source.wrong ++ codes " wrong passwords for " ++ told_name source.name
    ++ codes ", none right\n"

-- where it is told
abbrev pub told_line : TriedSource → List ℕ
told_line source = if is_told source then line_of source else []

-- the lines of all that are told
abbrev pub lines_of : List TriedSource → List ℕ
lines_of sources = flat_map told_line sources
