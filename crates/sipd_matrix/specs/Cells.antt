-- What stands in a cell: the rule that decides, and what comes of it.
use Rattle.std.specs.Prelude.{ℕ, Bool, true, false, not, ◌&&◌, ◌==◌, if◌then◌else◌, List, [], ◌∷◌, ◌++◌, codes, decimal, Option, Some, None}
use Rattle.std.specs.List.{flat_map, slice_get}
use Rattle.sip_policy.specs.declared.decision.Decision.{Decision}
use Rattle.sip_policy.specs.declared.operation.Operation.{Operation}
use Rattle.sip_policy.specs.declared.rule.Rule.{Rule}
use Rattle.sip_policy.specs.Decision.{decision_with}
use Rattle.sip_hops.specs.declared.hop.Hop.{Hop}
use Rattle.sip_config_types.specs.declared.config.Config.{Config}
use Rattle.sip_matrix.specs.declared.column.Column.{Column}
use Rattle.sip_matrix.specs.declared.table.PolicyTable.{PolicyTable}
use Rattle.sip_matrix.specs.Column.{is_known}
use Rattle.sip_matrix.specs.Cell.{rule_in}
use Rattle.sip_matrix.specs.Own as Owned

-- ---- what comes of a decision

-- what is let through reaches the registrar or bindings where its address is known, and else nobody (RFC 3261 10.3 step 5, 16.5)
abbrev pub sent_mark : Bool → List ℕ
sent_mark true = codes "+"
sent_mark false = codes "!"

-- what is let through by a hop goes there; without one it reaches nobody
abbrev pub hop_mark : Option Hop → List ℕ
hop_mark None = codes "!"
hop_mark (Some hop) = codes ">" ++ hop.name

-- a REGISTER goes to the registrar, whatever hop the rule names
abbrev pub via_mark : Operation → List Hop → Bool → ℕ → List ℕ
via_mark Operation.Register hops known place = sent_mark known
via_mark Operation.List hops known place = sent_mark known
via_mark (Operation.Send method) hops known place = hop_mark (slice_get hops place)

-- what comes of a decision about addresses that are known or aren't
abbrev pub mark_of : Operation → List Hop → Bool → Decision → List ℕ
mark_of operation hops known (Decision.Allow id) = sent_mark known
mark_of operation hops known (Decision.Via id place) = via_mark operation hops known place
mark_of operation hops known (Decision.Deny id) = codes "-"
mark_of operation hops known Decision.Challenge = codes "?"

-- ---- one cell

-- the number of a rule, 0 without one
abbrev pub number_of : Option Rule → ℕ
number_of None = 0
number_of (Some rule) = rule.id

-- whether addresses are known, by their column
abbrev pub are_known : Config → Column → Bool
are_known config column = is_known config.users config.own.domains column

-- the rule of a cell
abbrev pub rule_at : Config → Operation → Option (List ℕ) → Column → Bool → ℕ → Option Rule
rule_at config operation row column own piece = rule_in config.rules config.users row operation column own piece

abbrev pub number_at : Config → Operation → Option (List ℕ) → Column → Bool → ℕ → ℕ
number_at config operation row column own piece = number_of (rule_at config operation row column own piece)

-- what comes of it
abbrev pub mark_at : Config → Operation → Option (List ℕ) → Column → Bool → ℕ → List ℕ
mark_at config operation row column own piece =
    mark_of operation config.hops (are_known config column) (decision_with row (rule_at config operation row column own piece))

-- its number, and what comes of it
abbrev pub value_text : Config → Operation → Option (List ℕ) → Column → Bool → ℕ → List ℕ
value_text config operation row column own piece =
    decimal (number_at config operation row column own piece) ++ mark_at config operation row column own piece

-- whether a column is the address of a configured user of this name
abbrev pub is_address_of : Config → List ℕ → Column → Bool
is_address_of config name column = Owned.is_address_of config.users config.own.domains name column

-- whether a class has an address of a user of this name
abbrev pub has_address_of : Config → List Column → Column → List ℕ → Bool
has_address_of config columns class name = Owned.has_address_of config.rules config.users config.own.domains columns class name

-- whether some user of a row has an address in a class
abbrev pub has_address_of_row : Config → List Column → Column → List ℕ → Bool
has_address_of_row config columns class row = Owned.has_address_of_row config.rules config.users config.own.domains columns class row

-- whether a user of a row may ask for his own address in a class, which is known then
abbrev pub has_own : Config → List Column → Column → List ℕ → Bool
has_own config columns class row = Owned.has_own config.rules config.users config.own.domains columns class row

-- whether a class has an address that is none of a user of this name
abbrev pub has_other_than : Config → List Column → Column → List ℕ → Bool
has_other_than config columns class name = Owned.has_other_than config.rules config.users config.own.domains columns class name

-- whether some user of a row may ask for an address in a class that isn't his own
abbrev pub has_others : Config → List Column → Column → List ℕ → Bool
has_others config columns class row = Owned.has_others config.rules config.users config.own.domains columns class row

-- whether a cell has a second value, for the asker's own address
abbrev pub has_second : Config → Operation → List Column → Column → List ℕ → ℕ → Bool
has_second config operation columns class row piece =
    has_own config columns class row
    && not (number_at config operation (Some row) class false piece == number_at config operation (Some row) class true piece)

-- that value
abbrev pub second_text : Config → Operation → List Column → Column → List ℕ → ℕ → List ℕ
second_text config operation columns class row piece =
    if has_second config operation columns class row piece then codes "/" ++ value_text config operation (Some row) class true piece else []

-- what stands in a cell; who is nobody may be any user, whose own is each known address
abbrev pub cell_text : Config → Operation → List Column → Column → ℕ → Option (List ℕ) → List ℕ
cell_text config operation columns class piece None = value_text config operation None class (are_known config class) piece
cell_text config operation columns class piece (Some row) =
    value_text config operation (Some row) class false piece ++ second_text config operation columns class row piece

-- ---- which rules decide

-- the number of the rule that decides in a cell of a row of users about others' addresses, where one may be asked for
abbrev pub number_of_others : Config → Operation → List Column → Column → ℕ → List ℕ → List ℕ
number_of_others config operation columns class piece row =
    if has_others config columns class row then number_at config operation (Some row) class false piece ∷ [] else []

-- and about own ones
abbrev pub number_of_own : Config → Operation → List Column → Column → ℕ → List ℕ → List ℕ
number_of_own config operation columns class piece row =
    if has_own config columns class row then number_at config operation (Some row) class true piece ∷ [] else []

-- the numbers of the rules that decide in a cell of a row of users
abbrev pub numbers_of_row : Config → Operation → List Column → Column → ℕ → List ℕ → List ℕ
numbers_of_row config operation columns class piece row =
    number_of_others config operation columns class piece row ++ number_of_own config operation columns class piece row

-- of all rows, for a class
abbrev pub numbers_of_class : Config → Operation → PolicyTable → ℕ → Column → List ℕ
numbers_of_class config operation table piece class =
    (number_at config operation None class (are_known config class) piece ∷ [])
    ++ flat_map (numbers_of_row config operation table.columns class piece) table.rows

-- of all classes, in a piece of the day
abbrev pub numbers_of_piece : Config → Operation → PolicyTable → ℕ → List ℕ
numbers_of_piece config operation table piece = flat_map (numbers_of_class config operation table piece) table.classes

-- of the whole table
abbrev pub numbers_of : Config → Operation → PolicyTable → List ℕ
numbers_of config operation table = flat_map (numbers_of_piece config operation table) table.pieces
