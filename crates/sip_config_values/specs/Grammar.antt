-- The texts that a configuration has (this project's profile).
use Rattle.std.specs.Prelude.{ℕ, Bool, false, ◌&&◌, ◌||◌, ◌==◌, not, nat_le, List, [], ◌∷◌, length, codes}
use Rattle.std.specs.Char.{is_ascii_alphanumeric, is_ascii_digit}
use Rattle.std.specs.List.{list_all, list_any}
use Rattle.std.specs.Str.{byte, bytes_eq}
use Rattle.sip_text.specs.Words.{is_token_text}
use Rattle.sip_uri.specs.Host.{is_host, begins_bracket}
use Rattle.sip_config_values.specs.declared.grammar.Grammar.{Grammar}
use Rattle.sip_config_values.specs.declared.grammar.Grammar.TheVariants.{Realm, OwnHost, HostName, Host, Name}

-- a byte from a space to `~` but `"` and `\`, which a quoted realm would have to escape (RFC 3261 25.1, qdtext)
abbrev pub is_realm_byte : ℕ → Bool
is_realm_byte b = nat_le 32 b && nat_le b 126 && not (b == byte "\"") && not (b == byte "\\")

-- 1 to 128 such bytes
abbrev pub is_realm : List ℕ → Bool
is_realm text = nat_le 1 (length text) && nat_le (length text) 128 && list_all is_realm_byte text

-- a host without brackets (RFC 3261 25.1, hostname and IPv4address)
abbrev pub is_host_name : List ℕ → Bool
is_host_name text = is_host text && not (begins_bracket text)

-- such a host of at most 255 bytes
abbrev pub is_own_host_name : List ℕ → Bool
is_own_host_name text = is_host_name text && nat_le (length text) 255

-- a letter, a digit or one of four marks
abbrev pub is_name_byte : ℕ → Bool
is_name_byte b = is_ascii_alphanumeric b || list_any (λ c. b == c) (codes "-_.+")

-- 1 to 64 of these, the first a letter or a digit: a name of a user, of a group or of a hop
abbrev pub is_name : List ℕ → Bool
is_name [] = false
is_name (b ∷ bs) = is_ascii_alphanumeric b && nat_le (length bs) 63 && list_all is_name_byte bs

-- whether a text is of a grammar
abbrev pub accepts : Grammar → List ℕ → Bool
accepts Realm text = is_realm text
accepts OwnHost text = is_own_host_name text
accepts HostName text = is_host_name text
accepts Host text = is_host text
accepts Name text = is_name text

-- a hexadecimal digit in lower case (RFC 2617 3.1.3, LHEX)
abbrev pub is_lower_hex : ℕ → Bool
is_lower_hex b = is_ascii_digit b || (nat_le (byte "a") b && nat_le b (byte "f"))

-- whether a text is so many of them
abbrev pub is_digest : ℕ → List ℕ → Bool
is_digest count text = list_all is_lower_hex text && length text == count

-- a method of requests that are sent on: a token but REGISTER, which is served here, ACK, which is no request of its own, and
-- CANCEL, which follows its request (RFC 3261 9, 10, 17)
abbrev pub is_sent_method : List ℕ → Bool
is_sent_method text = is_token_text text && not (bytes_eq text (codes "REGISTER")) && not (bytes_eq text (codes "ACK"))
    && not (bytes_eq text (codes "CANCEL"))
