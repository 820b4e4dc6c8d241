-- The nonces that were issued (RFC 2617 3.2.1; their life and number are this project's profile).
-- Rows of nonces stand in the order in which they were issued, the oldest first.
use Rattle.std.specs.Prelude.{◌≡◌, ℕ, ◌-◌, ◌<◌, ◌≤◌, Bool, ◌&&◌, ◌==◌, nat_lt, if◌then◌else◌}
use Rattle.std.specs.Prelude.{List, [], ◌∷◌, ◌++◌, length, drop, Option, Some, None, find, count_by}
use Rattle.std.specs.List.{list_any}
use Rattle.std.specs.Option.{option_and_then, option_map_or}
use Rattle.sip_digest.specs.Credential.{Credential, is_answer, count_of}
use Rattle.sip_digest.specs.NonceText.{word_of}
use Rattle.sip_digest.specs.declared.nonces.Nonce.{Nonce}
use Rattle.sip_digest.specs.declared.nonces.Worth.{Worth}
use Rattle.sip_digest.specs.declared.nonces.Worth.TheVariants.{Right, Stale, Wrong}

-- the last n of a list
abbrev pub keep_last : {X : Type 0} → ℕ → List X → List X
keep_last n xs = drop (length xs - n) xs

-- a nonce lives for 300,000 ms
abbrev pub is_live : ℕ → Nonce → Bool
is_live now row = nat_lt (now - row.since) 300000

-- The nonces from the first one on that lives at a moment. The oldest stand in front: those before it don't live later either, and each of
-- them gives way before any other does.
abbrev pub lasting : ℕ → List Nonce → List Nonce
lasting now [] = []
lasting now (row ∷ rows) = if is_live now row then row ∷ rows else lasting now rows

-- the same as a fact
abbrev pub IsLive : ℕ → Nonce → Type 0
IsLive now row = now - row.since < 300000

-- the live nonce of this word, as a fact
abbrev pub IsNonceOf : ℕ → ℕ → Nonce → Type 0
IsNonceOf word now row = (row.word ≡ word) × IsLive now row

-- the same as a test
abbrev pub is_this : ℕ → ℕ → Nonce → Bool
is_this word now row = row.word == word && is_live now row

-- at most one row of each word lives: `one_live_row` says that it stays so, and that the first live row of a word is then its newest
abbrev pub HasOneLive : ℕ → List Nonce → Type 0
HasOneLive now rows = (word : ℕ) → count_by (is_this word now) rows ≤ 1

-- the rows after a word is issued: a live nonce of the word stays as it is, else a new one comes last,
-- and the last 4,096 are kept
abbrev pub issued : List Nonce → ℕ → ℕ → List Nonce
issued rows word now =
    if list_any (is_this word now) rows then rows
    else keep_last 4096 (rows ++ record { word = word; since = now; count = 0 } ∷ [])

-- the live nonce that a text names
abbrev pub row_of : List Nonce → List ℕ → ℕ → Option Nonce
row_of rows text now = option_and_then (λ word. find (is_this word now) rows) (word_of text)

-- a count is right above the greatest that was accepted for its nonce
abbrev pub standing : Option Nonce → Option ℕ → Worth
standing None count = Stale
standing (Some row) None = Stale
standing (Some row) (Some count) = if nat_lt row.count count then Right else Stale

-- what a credential is worth at a moment, of the user of this H(A1)
abbrev pub worth_of : List Nonce → List ℕ → Credential → ℕ → Worth
worth_of rows a1 credential now =
    if is_answer a1 credential then standing (row_of rows credential.nonce now) (count_of credential) else Wrong

-- the rows after the live nonce of a word was used with a count
abbrev pub counted : ℕ → ℕ → List Nonce → ℕ → List Nonce
counted word count [] now = []
counted word count (row ∷ rows) now =
    if is_this word now row then record row { count = count } ∷ rows
    else row ∷ counted word count rows now

-- the rows after the live nonce that a text names was used with a count
abbrev pub spent : List Nonce → List ℕ → ℕ → ℕ → List Nonce
spent rows text count now = option_map_or (λ word. counted word count rows now) (word_of text) rows

-- the rows after a credential was accepted
abbrev pub spent_by : List Nonce → Credential → ℕ → List Nonce
spent_by rows credential now = option_map_or (λ count. spent rows credential.nonce count now) (count_of credential) rows
