-- A call that rings or is talked, for programs.
use Rattle.std.specs.Prelude.{ℕ, ◌-◌, List, [], ◌++◌, codes}
use Rattle.sip_days.specs.declared.call.Call.{Call}
use Rattle.sipd_calls.specs.Moments.{iso_text}
use Rattle.sipd_calls.specs.declared.notation.Notation.{Notation}
use Rattle.sipd_calls.specs.declared.notation.Notation.TheVariants.{Csv, Json, Html}
use Rattle.sipd_calls.specs.Notation.{Words, Number, end_text, first_text, further_text}
use Rattle.sipd_calls.specs.Program.{called_member, source_member, words_said}
use Rattle.sipd_calls.specs.Words.{ruled_text}

-- the names of the columns, which CSV begins with
abbrev pub columns : Notation → List ℕ
columns Csv = codes "number,since,caller,from,called,rule,state,for_ms,call_id\r\n"
columns Json = []
columns Html = codes "<tr><th>number</th><th>since</th><th>caller</th><th>from</th><th>called</th><th>rule</th><th>state</th><th>for, ms</th><th>Call-ID</th></tr>\n"

abbrev pub since_member : Notation → Call → ℕ → List ℕ
since_member notation call since = further_text notation (codes "since") (Words (iso_text call.offset since))

-- whom it is from and to, and by which rule
abbrev pub sides_text : Notation → Call → List ℕ
sides_text notation call =
    further_text notation (codes "caller") (words_said call.decision.who)
    ++ source_member notation call.source
    ++ called_member notation call
    ++ further_text notation (codes "rule") (words_said (ruled_text call.decision.outcome call.decision.minute))

-- which call it is, since when it has stood so, and its sides
abbrev pub front_text : Notation → Call → ℕ → List ℕ
front_text notation call since =
    first_text notation (codes "number") (Number call.decision.number) ++ since_member notation call since ++ sides_text notation call

-- how it stands at a moment, for how many milliseconds, and its Call-ID
abbrev pub back_text : Notation → ℕ → Call → List ℕ → ℕ → List ℕ
back_text notation at call word since =
    further_text notation (codes "state") (Words word)
    ++ further_text notation (codes "for_ms") (Number (at - since))
    ++ further_text notation (codes "call_id") (words_said call.call_id)
    ++ end_text notation

-- a call that has stood so since a moment
abbrev pub object_text : Notation → ℕ → Call → List ℕ → ℕ → List ℕ
object_text notation at call word since = front_text notation call since ++ back_text notation at call word since
