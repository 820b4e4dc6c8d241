-- Worked examples.
use Rattle.std.specs.Prelude.{ℕ, Bool, false, List, [], ◌∷◌, ◌++◌, codes, None}
use Rattle.sipd_status.specs.declared.numbers.StatusNumbers.{StatusNumbers}
use Rattle.sipd_status.specs.declared.tries.TriedSource.{TriedSource}
use Rattle.sipd_status.specs.Tries.{behind_right, behind_wrong}

abbrev pub numbers : StatusNumbers
numbers = record {
  decisions = record { challenged = 3; denied = 1; sent = 12; answered = 7 };
  wrong = 2;
  unheard = 0;
  open_requests = 2;
  dialogs = 5;
  record_bytes = None;
  memory_bytes = None;
}

abbrev pub numbers_text : List ℕ
numbers_text =
    codes "# HELP sipd_decisions_total Requests that were decided since the start, by what became of them.\n"
    ++ codes "# TYPE sipd_decisions_total counter\n"
    ++ codes "sipd_decisions_total{outcome=\"challenge\"} 3\n"
    ++ codes "sipd_decisions_total{outcome=\"deny\"} 1\n"
    ++ codes "sipd_decisions_total{outcome=\"sent\"} 12\n"
    ++ codes "sipd_decisions_total{outcome=\"answer\"} 7\n"
    ++ codes "# HELP sipd_wrong_credentials_total Requests since the start whose credentials proved nobody.\n"
    ++ codes "# TYPE sipd_wrong_credentials_total counter\n"
    ++ codes "sipd_wrong_credentials_total 2\n"
    ++ codes "# HELP sipd_unheard_datagrams_total Datagrams since the start beyond what is heard of their source.\n"
    ++ codes "# TYPE sipd_unheard_datagrams_total counter\n"
    ++ codes "sipd_unheard_datagrams_total 0\n"
    ++ codes "# HELP sipd_open_requests Requests that are open, of 1024 that may be.\n"
    ++ codes "# TYPE sipd_open_requests gauge\n"
    ++ codes "sipd_open_requests 2\n"
    ++ codes "# HELP sipd_dialogs Dialogs that stand, of 4096 that may.\n"
    ++ codes "# TYPE sipd_dialogs gauge\n"
    ++ codes "sipd_dialogs 5\n"

abbrev pub scanner : List ℕ
scanner = 192 ∷ 0 ∷ 2 ∷ 151 ∷ []

abbrev pub phone : List ℕ
phone = 192 ∷ 0 ∷ 2 ∷ 12 ∷ []

abbrev pub many : Bool → TriedSource
many is_right = record { ip = scanner; name = codes "grace"; wrong = 12; is_right = is_right }

abbrev pub few : TriedSource
few = record { ip = scanner; name = codes "grace"; wrong = 2; is_right = false }

-- a name with which a line of its own could be made
abbrev pub odd : TriedSource
odd = record { ip = scanner; name = codes "ada, none right\nsipd: 192.0.2.1 gave 9"; wrong = 3; is_right = false }

-- a scanner tries three names, and a phone gives its new password behind three with the old one
abbrev pub mixed : List TriedSource
mixed =
    behind_right phone []
    (behind_wrong phone (codes "ada")
    (behind_wrong scanner (codes "grace")
    (behind_wrong phone (codes "ada")
    (behind_wrong scanner (codes "100")
    (behind_wrong phone (codes "ada")
    (behind_wrong scanner (codes "1000") []))))))

abbrev pub mixed_lines : List ℕ
mixed_lines = codes "sipd: 192.0.2.151 gave 3 wrong passwords for grace, none right\n"

-- some lines of proc(5)
abbrev pub status_of_process : List ℕ
status_of_process = codes "Name:\tsipd\nVmPeak:\t   12000 kB\nVmRSS:\t    9216 kB\nThreads:\t1\n"
