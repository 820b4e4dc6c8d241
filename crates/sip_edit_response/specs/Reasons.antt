-- Reason phrases.
use Rattle.std.specs.Prelude.{ℕ, ◌==◌, List, [], ◌∷◌, codes, if◌then◌else◌}

-- a status and its phrase
pub record Reason : Type 0 where
  pub status : ℕ
  pub phrase : List ℕ

-- the statuses that are answered here (RFC 3261 21)
abbrev pub reasons : List Reason
reasons =
    record { status = 100; phrase = codes "Trying" }
    ∷ record { status = 200; phrase = codes "OK" }
    ∷ record { status = 400; phrase = codes "Bad Request" }
    ∷ record { status = 401; phrase = codes "Unauthorized" }
    ∷ record { status = 403; phrase = codes "Forbidden" }
    ∷ record { status = 404; phrase = codes "Not Found" }
    ∷ record { status = 407; phrase = codes "Proxy Authentication Required" }
    ∷ record { status = 408; phrase = codes "Request Timeout" }
    ∷ record { status = 416; phrase = codes "Unsupported URI Scheme" }
    ∷ record { status = 420; phrase = codes "Bad Extension" }
    ∷ record { status = 423; phrase = codes "Interval Too Brief" }
    ∷ record { status = 480; phrase = codes "Temporarily Unavailable" }
    ∷ record { status = 481; phrase = codes "Call/Transaction Does Not Exist" }
    ∷ record { status = 482; phrase = codes "Loop Detected" }
    ∷ record { status = 483; phrase = codes "Too Many Hops" }
    ∷ record { status = 487; phrase = codes "Request Terminated" }
    ∷ record { status = 500; phrase = codes "Server Internal Error" }
    ∷ record { status = 503; phrase = codes "Service Unavailable" }
    ∷ record { status = 505; phrase = codes "Version Not Supported" }
    ∷ []

-- the phrase of the first row of a status, empty where there is none
abbrev pub phrase_in : List Reason → ℕ → List ℕ
phrase_in [] status = []
phrase_in (reason ∷ others) status = if status == reason.status then reason.phrase else phrase_in others status

-- the reason phrase of a status
abbrev pub reason_of : ℕ → List ℕ
reason_of status = phrase_in reasons status
