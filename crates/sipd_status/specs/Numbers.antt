-- The text of a server's numbers (Prometheus' text format, version 0.0.4; which numbers there are is this project's profile).
use Rattle.std.specs.Prelude.{ℕ, List, [], ◌++◌, codes, decimal, Option, Some, None}
use Rattle.sipd_status.specs.declared.tally.Decisions.{Decisions}
use Rattle.sipd_status.specs.declared.numbers.StatusNumbers.{StatusNumbers}

-- what stands in front of a number: what it says, and of which kind it is
abbrev pub head : List ℕ → List ℕ → List ℕ → List ℕ
head name kind help = codes "# HELP " ++ name ++ codes " " ++ help ++ codes "\n# TYPE " ++ name ++ codes " " ++ kind ++ codes "\n"

-- a number behind its name
abbrev pub sample : List ℕ → ℕ → List ℕ
sample name number = name ++ codes " " ++ decimal number ++ codes "\n"

-- a number that stands alone
abbrev pub number_text : List ℕ → List ℕ → List ℕ → ℕ → List ℕ
number_text name kind help number = head name kind help ++ sample name number

-- one that goes up and down, where it is known
abbrev pub known_text : List ℕ → List ℕ → Option ℕ → List ℕ
known_text name help None = []
known_text name help (Some number) = number_text name (codes "gauge") help number

-- how many requests were decided, by the words that audit lines have for what became of them
abbrev pub decisions_text : Decisions → List ℕ
decisions_text d =
    head (codes "sipd_decisions_total") (codes "counter") (codes "Requests that were decided since the start, by what became of them.")
    ++ sample (codes "sipd_decisions_total{outcome=\"challenge\"}") d.challenged
    ++ sample (codes "sipd_decisions_total{outcome=\"deny\"}") d.denied
    ++ sample (codes "sipd_decisions_total{outcome=\"sent\"}") d.sent
    ++ sample (codes "sipd_decisions_total{outcome=\"answer\"}") d.answered

-- what was turned away
abbrev pub turned_away_text : StatusNumbers → List ℕ
turned_away_text n =
    number_text (codes "sipd_wrong_credentials_total") (codes "counter") (codes "Requests since the start whose credentials proved nobody.") n.wrong
    ++ number_text (codes "sipd_unheard_datagrams_total") (codes "counter")
    (codes "Datagrams since the start beyond what is heard of their source.") n.unheard

-- how full the tables are
abbrev pub tables_text : StatusNumbers → List ℕ
tables_text n =
    number_text (codes "sipd_open_requests") (codes "gauge") (codes "Requests that are open, of 1024 that may be.") n.open_requests
    ++ number_text (codes "sipd_dialogs") (codes "gauge") (codes "Dialogs that stand, of 4096 that may.") n.dialogs

-- what is held
abbrev pub held_text : StatusNumbers → List ℕ
held_text n =
    known_text (codes "sipd_record_bytes") (codes "Bytes of the record that is written.") n.record_bytes
    ++ known_text (codes "sipd_memory_bytes") (codes "Bytes of memory that the process has.") n.memory_bytes

-- all of them
abbrev pub status_text : StatusNumbers → List ℕ
status_text n = decisions_text n.decisions ++ turned_away_text n ++ tables_text n ++ held_text n
