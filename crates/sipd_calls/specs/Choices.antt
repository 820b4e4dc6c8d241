-- Which calls are shown.
use Rattle.std.specs.Prelude.{ℕ, Bool, true, false, ◌&&◌, ◌||◌, not, if◌then◌else◌, List, [], Option, None, Some, option_map}
use Rattle.std.specs.Str.{bytes_eq}
use Rattle.sip_uri.specs.declared.addr.Addr.{Addr}
use Rattle.sip_uri.specs.Addresses.{addr_text, ip_text}
use Rattle.sip_days.specs.declared.call.Call.{Call}
use Rattle.sipd_report.specs.Chosen.{is_of_target, is_within}
use Rattle.sipd_report.specs.Entries.{is_challenge, is_of_user}
use Rattle.sipd_report.specs.Times.{shown_seconds}
use Rattle.sipd_calls.specs.declared.choice.CallFilter.{CallFilter}

-- ---- when

-- when a call began, in seconds since 1970 began, on the office's clock
abbrev pub began : Call → ℕ
began call = shown_seconds call.decision.at call.offset

abbrev pub is_in_time : CallFilter → Call → Bool
is_in_time choice call = is_within choice.since choice.until (began call)

-- ---- from where

-- a text says an address, or its IP alone
abbrev pub says_addr : List ℕ → Addr → Bool
says_addr text addr = bytes_eq text (addr_text addr) || bytes_eq text (ip_text addr.ip)

abbrev pub is_at : List ℕ → Option Addr → Bool
is_at text None = false
is_at text (Some addr) = says_addr text addr

abbrev pub is_from : Option (List ℕ) → Option Addr → Bool
is_from None source = true
is_from (Some text) source = is_at text source

-- ---- all of it

abbrev pub is_asked : CallFilter → Call → Bool
is_asked choice call =
    is_in_time choice call
    && is_of_user (option_map (λ name. name.now) choice.user) call.decision.who
    && (choice.challenged || not (is_challenge call.decision.outcome))

-- whether a call is shown: it meets all of what is given; one that was asked for a credential is shown where that is asked for
abbrev pub is_shown : CallFilter → Call → Bool
is_shown choice call =
    is_asked choice call
    && is_of_target (option_map (λ text. text.now) choice.target) call.decision.target
    && is_from (option_map (λ text. text.now) choice.from) call.source

-- what is written of a call, if it is shown
abbrev pub if_shown : CallFilter → Call → List ℕ → List ℕ
if_shown choice call text = if is_shown choice call then text else []
