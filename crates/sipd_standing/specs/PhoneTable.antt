-- Who is registered at a moment.
use Rattle.std.specs.Prelude.{ℕ, ℤ, nat_lt, if◌then◌else◌, List, [], ◌++◌, Option, None, Some}
use Rattle.std.specs.List.{flat_map}
use Rattle.sip_model.specs.state.declared.server.Server.{Server}
use Rattle.sip_model.specs.state.declared.proxy_state.ProxyState.{ProxyState}
use Rattle.sip_location.specs.declared.binding.Binding.{Binding}
use Rattle.sip_location.specs.Binding.{live}
use Rattle.sip_days.specs.declared.registered.Registered.{Registered}
use Rattle.sipd_calls.specs.Moments.{title}
use Rattle.sipd_calls.specs.declared.notation.Notation.{Notation}
use Rattle.sipd_standing.specs.PhoneCells.{names, phone_row}
use Rattle.sipd_standing.specs.PhoneProgram.{columns, phone_text}

-- a binding, in a row of the table or for programs
abbrev pub row_in : Option Notation → ℕ → Registered → Binding → List ℕ
row_in None at row binding = phone_row at row binding
row_in (Some notation) at row binding = phone_text notation at row binding

-- the same of one that is live at a moment
abbrev pub if_live : Option Notation → ℕ → Registered → Binding → List ℕ
if_live form at row binding = if nat_lt at binding.expires_at then row_in form at row binding else []

-- the rows of an address: one for each of its bindings that is live at a moment, in their order
abbrev pub rows_of : Option Notation → ProxyState → ℕ → Registered → List ℕ
rows_of form state at row = flat_map (if_live form at row) (live row.aor state.moment state.bindings)

-- what stands above the rows
abbrev pub head_in : Option Notation → ℤ → ℕ → List ℕ
head_in None offset at = title offset at ++ names
head_in (Some notation) offset at = columns notation

-- all that is live of a server at a moment that isn't before its last one
abbrev pub phones_text : Option Notation → Server → ProxyState → ℕ → List Registered → List ℕ
phones_text form server state at rows = head_in form server.config.offset at ++ flat_map (rows_of form state at) rows
