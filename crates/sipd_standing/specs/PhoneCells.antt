-- A row of who is registered: a line of 80 columns, where no cell is longer than its column; and its head.
use Rattle.std.specs.Prelude.{ℕ, ◌-◌, ◌/◌, List, ◌∷◌, [], ◌++◌, codes, Option, None, Some}
use Rattle.sip_uri.specs.declared.addr.Addr.{Addr}
use Rattle.sip_uri.specs.Addresses.{addr_text}
use Rattle.sip_uri.specs.Uri.{text_of}
use Rattle.sip_location.specs.declared.binding.Binding.{Binding}
use Rattle.sip_days.specs.declared.registered.Registered.{Registered}
use Rattle.sipd_calls.specs.Moments.{length_text, start_text}
use Rattle.sipd_calls.specs.Cells.{cell}
use Rattle.sipd_report.specs.Chosen.{user_text}

-- the names of the columns
abbrev pub names : List ℕ
names = codes "registered   contact                     left    since          from\n"

abbrev pub user_cell : Registered → List ℕ
user_cell row = cell 12 (user_text row.aor)

-- how long the binding still lives, in whole seconds
abbrev pub left_cell : ℕ → List ℕ
left_cell seconds = cell 7 (length_text seconds)

-- when its address was registered last
abbrev pub since_cell : Registered → List ℕ
since_cell row = cell 14 (start_text row.offset row.at)

-- and from where
abbrev pub source_cell : Option Addr → List ℕ
source_cell None = 10 ∷ []
source_cell (Some source) = addr_text source ++ 10 ∷ []

-- a row: 12, 27, 7, 14 and 16 columns, with a space between each two; of a longer address the rest goes on
abbrev pub phone_row : ℕ → Registered → Binding → List ℕ
phone_row at row binding =
    user_cell row ++ cell 27 (text_of binding.uri) ++ left_cell ((binding.expires_at - at) / 1000) ++ since_cell row ++ source_cell row.source
