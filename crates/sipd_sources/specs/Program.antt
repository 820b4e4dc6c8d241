-- An address for programs.
use Rattle.std.specs.Prelude.{ℕ, List, [], ◌++◌, codes}
use Rattle.sip_uri.specs.Addresses.{ip_text}
use Rattle.sipd_calls.specs.Moments.{iso_text}
use Rattle.sipd_calls.specs.declared.notation.Notation.{Notation}
use Rattle.sipd_calls.specs.declared.notation.Notation.TheVariants.{Csv, Json, Html}
use Rattle.sipd_calls.specs.Notation.{Words, Number, end_text, first_text, further_text}
use Rattle.sipd_sources.specs.declared.source.Source.{Source}
use Rattle.sipd_sources.specs.declared.source.SourceMoment.{SourceMoment}

-- the names of the columns, which CSV begins with
abbrev pub columns : Notation → List ℕ
columns Csv = codes "address,heard,asked,proven,wrong,names,first,last\r\n"
columns Json = []
columns Html = codes "<tr><th>address</th><th>heard</th><th>asked</th><th>proven</th><th>wrong</th><th>names</th><th>first</th><th>last</th></tr>\n"

abbrev pub address_member : Notation → List ℕ → List ℕ
address_member notation ip = first_text notation (codes "address") (Words (ip_text ip))

-- a moment on the office's clock of then
abbrev pub moment_member : Notation → List ℕ → SourceMoment → List ℕ
moment_member notation name moment = further_text notation name (Words (iso_text moment.offset moment.at))

-- the address, how many datagrams came from there, and how many of these were asked for a credential
abbrev pub heard_text : Notation → Source → List ℕ
heard_text notation s =
    address_member notation s.ip
    ++ further_text notation (codes "heard") (Number s.heard)
    ++ further_text notation (codes "asked") (Number s.challenged)

-- how many were proven, gave a wrong credential, and how many names they tried
abbrev pub proven_text : Notation → Source → List ℕ
proven_text notation s =
    further_text notation (codes "proven") (Number s.proven)
    ++ further_text notation (codes "wrong") (Number s.wrong)
    ++ further_text notation (codes "names") (Number s.names)

-- when the first and the last came
abbrev pub times_text : Notation → Source → List ℕ
times_text notation s = moment_member notation (codes "first") s.first ++ moment_member notation (codes "last") s.last ++ end_text notation

abbrev pub source_text : Notation → Source → List ℕ
source_text notation s = heard_text notation s ++ proven_text notation s ++ times_text notation s
