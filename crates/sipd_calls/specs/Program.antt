-- A call for programs.
use Rattle.std.specs.Prelude.{ℕ, List, [], ◌++◌, codes, Option, None, Some, option_map}
use Rattle.std.specs.List.{flat_map}
use Rattle.sip_uri.specs.declared.addr.Addr.{Addr}
use Rattle.sip_uri.specs.Addresses.{addr_text}
use Rattle.sip_audit.specs.Lines.{target_text}
use Rattle.sip_days.specs.declared.call.Call.{Call}
use Rattle.sip_days.specs.declared.call.Ending.{Ending}
use Rattle.sip_days.specs.Results.{result_of, ring_of, talk_of}
use Rattle.sipd_calls.specs.declared.choice.CallFilter.{CallFilter}
use Rattle.sipd_calls.specs.declared.notation.Notation.{Notation}
use Rattle.sipd_calls.specs.declared.notation.Notation.TheVariants.{Csv, Json, Html}
use Rattle.sipd_calls.specs.Choices.{if_shown}
use Rattle.sipd_calls.specs.Notation.{Said, Words, Number, Nothing, end_text, first_text, further_text}
use Rattle.sipd_calls.specs.Moments.{iso_text}
use Rattle.sipd_calls.specs.Words.{result_text, ruled_text, side_text}

-- words that may not be there
abbrev pub words_said : Option (List ℕ) → Said
words_said None = Nothing
words_said (Some text) = Words text

-- a number that may not be there
abbrev pub number_said : Option ℕ → Said
number_said None = Nothing
number_said (Some n) = Number n

-- where a call came from
abbrev pub source_said : Option Addr → Said
source_said source = words_said (option_map addr_text source)

-- who ended it
abbrev pub ended_said : Option Ending → Said
ended_said ending = words_said (option_map (λ (e : Ending). side_text e.by_caller) ending)

abbrev pub start_member : Notation → Call → List ℕ
start_member notation call = further_text notation (codes "start") (Words (iso_text call.offset call.decision.at))

abbrev pub source_member : Notation → Option Addr → List ℕ
source_member notation source = further_text notation (codes "from") (source_said source)

abbrev pub called_member : Notation → Call → List ℕ
called_member notation call = further_text notation (codes "called") (Words (target_text call.decision.target))

abbrev pub result_member : Notation → Call → List ℕ
result_member notation call = further_text notation (codes "result") (Words (result_text (result_of call)))

-- what was asked for: number, when it began on the office's clock, who was proven, and from where
abbrev pub asked_text : Notation → Call → List ℕ
asked_text notation call =
    first_text notation (codes "number") (Number call.decision.number)
    ++ start_member notation call
    ++ further_text notation (codes "caller") (words_said call.decision.who)
    ++ source_member notation call.source

-- what came of it: who was called, by which rule, and the result
abbrev pub came_text : Notation → Call → List ℕ
came_text notation call =
    called_member notation call
    ++ further_text notation (codes "rule") (words_said (ruled_text call.decision.outcome call.decision.minute))
    ++ result_member notation call

-- how long it lasted, in milliseconds, who ended it, and its Call-ID
abbrev pub lasted_text : Notation → Call → List ℕ
lasted_text notation call =
    further_text notation (codes "ring_ms") (number_said (ring_of call))
    ++ further_text notation (codes "talk_ms") (number_said (talk_of call))
    ++ further_text notation (codes "ended_by") (ended_said call.ending)
    ++ further_text notation (codes "call_id") (words_said call.call_id)

abbrev pub call_text : Notation → Call → List ℕ
call_text notation call = asked_text notation call ++ came_text notation call ++ lasted_text notation call ++ end_text notation

-- the names of the columns, which CSV begins with
abbrev pub names_text : Notation → List ℕ
names_text Csv = codes "number,start,caller,from,called,rule,result,ring_ms,talk_ms,ended_by,call_id\r\n"
names_text Json = []
names_text Html = codes "<tr><th>number</th><th>start</th><th>caller</th><th>from</th><th>called</th><th>rule</th><th>result</th><th>ring, ms</th><th>talk, ms</th><th>ended by</th><th>Call-ID</th></tr>\n"

-- the calls that are shown, in their order
abbrev pub objects_text : Notation → CallFilter → List Call → List ℕ
objects_text notation choice calls = flat_map (λ call. if_shown choice call (call_text notation call)) calls
