-- A binding for programs.
use Rattle.std.specs.Prelude.{ℕ, ◌-◌, ◌/◌, List, [], ◌++◌, codes}
use Rattle.sip_uri.specs.Uri.{text_of}
use Rattle.sip_audit.specs.Lines.{target_text}
use Rattle.sip_location.specs.declared.binding.Binding.{Binding}
use Rattle.sip_days.specs.declared.registered.Registered.{Registered}
use Rattle.sipd_calls.specs.Moments.{iso_text}
use Rattle.sipd_calls.specs.declared.notation.Notation.{Notation}
use Rattle.sipd_calls.specs.declared.notation.Notation.TheVariants.{Csv, Json, Html}
use Rattle.sipd_calls.specs.Notation.{Words, Number, end_text, first_text, further_text}
use Rattle.sipd_calls.specs.Program.{source_member}

-- the names of the columns, which CSV begins with
abbrev pub columns : Notation → List ℕ
columns Csv = codes "registered,contact,left,since,from\r\n"
columns Json = []
columns Html = codes "<tr><th>registered</th><th>contact</th><th>left</th><th>since</th><th>from</th></tr>\n"

abbrev pub address_member : Notation → Registered → List ℕ
address_member notation row = first_text notation (codes "registered") (Words (target_text row.aor))

abbrev pub since_member : Notation → Registered → List ℕ
since_member notation row = further_text notation (codes "since") (Words (iso_text row.offset row.at))

-- whose binding it is, its contact, and how many whole seconds it still lives at a moment
abbrev pub front_text : Notation → ℕ → Registered → Binding → List ℕ
front_text notation at row binding =
    address_member notation row
    ++ further_text notation (codes "contact") (Words (text_of binding.uri))
    ++ further_text notation (codes "left") (Number ((binding.expires_at - at) / 1000))

-- when its address was registered last, and from where
abbrev pub back_text : Notation → Registered → List ℕ
back_text notation row = since_member notation row ++ source_member notation row.source ++ end_text notation

-- a binding at a moment
abbrev pub phone_text : Notation → ℕ → Registered → Binding → List ℕ
phone_text notation at row binding = front_text notation at row binding ++ back_text notation row
