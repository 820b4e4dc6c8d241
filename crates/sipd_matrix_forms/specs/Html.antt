-- A table as one file of HTML that needs no other: no script, nothing of the net, and no text of the configuration that is markup.
use Rattle.std.specs.Prelude.{ℕ, false, if◌then◌else◌, List, ◌++◌, codes, Option, Some, None}
use Rattle.std.specs.List.{flat_map}
use Rattle.std.specs.Str.{bytes_eq}
use Rattle.sip_policy.specs.declared.operation.Operation.{Operation}
use Rattle.sip_config_types.specs.declared.config.Config.{Config}
use Rattle.sip_matrix.specs.declared.column.Column.{Column}
use Rattle.sip_matrix.specs.declared.table.PolicyTable.{PolicyTable}
use Rattle.sip_matrix.specs.Table.{table_of}
use Rattle.sipd_matrix.specs.Cells.{cell_text, numbers_of}
use Rattle.sipd_matrix.specs.Text.{clock_text, end_of, foot, legend, member_text, title}
use Rattle.sipd_report.specs.Html.{escaped}
use Rattle.sipd_matrix_forms.specs.declared.html.Level.{Level}
use Rattle.sipd_matrix_forms.specs.declared.html.Level.TheVariants.{Page, Section}
use Rattle.sipd_matrix_forms.specs.Csv.{own_at}
use Rattle.sipd_matrix_forms.specs.Outcome.{place_at, verdict_at}

-- ---- headings

-- the tags of the policy's heading: on a page of its own, or in a section of another
abbrev pub title_begin : Level → List ℕ
title_begin Page = codes "<h1>"
title_begin Section = codes "<h3>"

abbrev pub title_end : Level → List ℕ
title_end Page = codes "</h1>\n"
title_end Section = codes "</h3>\n"

-- those of the heading of a piece of the day
abbrev pub piece_begin : Level → List ℕ
piece_begin Page = codes "<h2>"
piece_begin Section = codes "<h4>"

abbrev pub piece_end : Level → List ℕ
piece_end Page = codes "</h2>\n"
piece_end Section = codes "</h4>\n"

-- ---- cells

-- the kind of a cell, by which it is coloured: its verdict, or that nobody is reached
abbrev pub kind_of : List ℕ → List ℕ → List ℕ
kind_of verdict place = if bytes_eq place (codes "nobody") then codes "nobody" else verdict

abbrev pub kind_at : Config → Operation → Column → ℕ → Option (List ℕ) → List ℕ
kind_at config operation class piece row =
    kind_of (verdict_at config operation row class (own_at config class row false) piece)
    (place_at config operation row class (own_at config class row false) piece)

-- the beginning of a cell of a kind
abbrev pub kind_text : List ℕ → List ℕ
kind_text kind = codes "<td class=\"" ++ escaped kind ++ codes "\">"

abbrev pub value_text : Config → Operation → List Column → Column → ℕ → Option (List ℕ) → List ℕ
value_text config operation columns class piece row = escaped (cell_text config operation columns class piece row)

-- a cell of the table
abbrev pub data_cell : Config → Operation → List Column → Column → ℕ → Option (List ℕ) → List ℕ
data_cell config operation columns class piece row =
    kind_text (kind_at config operation class piece row) ++ value_text config operation columns class piece row ++ codes "</td>"

-- the same of a row of users
abbrev pub user_cell : Config → Operation → List Column → Column → ℕ → List ℕ → List ℕ
user_cell config operation columns class piece row = data_cell config operation columns class piece (Some row)

-- the addresses of a class
abbrev pub target_cell : Config → List Column → Column → List ℕ
target_cell config columns class = codes "<td>" ++ escaped (flat_map (member_text config class) columns) ++ codes "</td>"

-- a line of the table
abbrev pub class_row : Config → Operation → PolicyTable → ℕ → Column → List ℕ
class_row config operation table piece class =
    codes "<tr>" ++ data_cell config operation table.columns class piece None
    ++ flat_map (user_cell config operation table.columns class piece) table.rows
    ++ target_cell config table.columns class ++ codes "</tr>\n"

-- who asks, above the cells
abbrev pub head_cell : List ℕ → List ℕ
head_cell name = codes "<th>" ++ escaped name ++ codes "</th>"

abbrev pub head_row : PolicyTable → List ℕ
head_row table = codes "<tr><th>nobody</th>" ++ flat_map head_cell table.rows ++ codes "<th>asks for</th></tr>\n"

-- a piece of the day
abbrev pub piece_title : Level → PolicyTable → ℕ → List ℕ
piece_title level table piece = piece_begin level ++ clock_text piece ++ codes "-" ++ clock_text (end_of table.pieces piece) ++ piece_end level

abbrev pub piece_table : Level → Config → Operation → PolicyTable → ℕ → List ℕ
piece_table level config operation table piece =
    piece_title level table piece ++ codes "<table>\n" ++ head_row table ++ flat_map (class_row config operation table piece) table.classes ++ codes "</table>\n"

-- ---- the whole

-- what stands before all texts: that nothing may be loaded or run, and how cells are coloured
abbrev pub page_begin : List ℕ
page_begin =
    codes "<!DOCTYPE html>\n<html lang=\"en\">\n<head>\n<meta charset=\"utf-8\">\n"
    ++ codes "<meta http-equiv=\"Content-Security-Policy\" content=\"default-src 'none'; style-src 'unsafe-inline'\">\n"
    ++ codes "<title>Who may ask for whom</title>\n<style>\n"
    ++ codes "body { font-family: sans-serif; margin: 2em; }\n"
    ++ codes "table { border-collapse: collapse; }\n"
    ++ codes "th, td { border: 1px solid #888; padding: 0.3em 0.6em; text-align: left; }\n"
    ++ codes ".allow, .via { background: #d8f0d8; }\n.deny { background: #f4d0d0; }\n"
    ++ codes ".challenge { background: #f8f0c8; }\n.nobody { background: #e0e0e0; }\n"
    ++ codes "</style>\n</head>\n<body>\n"

-- a text line by line
abbrev pub text_block : List ℕ → List ℕ
text_block text = codes "<pre>" ++ escaped text ++ codes "</pre>\n"

-- what the table is of
abbrev pub heading : Level → Config → Operation → List ℕ
heading level config operation = title_begin level ++ escaped (title config operation) ++ title_end level

-- what the signs in the cells mean
abbrev pub signs : List ℕ
signs = text_block legend

-- what stands under the cells: the users of each row, and the rules, the hops and the groups that decide nothing
abbrev pub under : Config → Operation → PolicyTable → List ℕ → List ℕ
under config operation table numbers = text_block (foot config operation table numbers)

-- what a table says
abbrev pub table_text : Level → Config → Operation → PolicyTable → List ℕ → List ℕ
table_text level config operation table numbers =
    heading level config operation ++ signs ++ flat_map (piece_table level config operation table) table.pieces ++ under config operation table numbers

abbrev pub policy_of : Level → Config → Operation → PolicyTable → List ℕ
policy_of level config operation table = table_text level config operation table (numbers_of config operation table)

-- the table of a configuration for an operation
abbrev pub policy_text : Level → Config → Operation → List ℕ
policy_text level config operation = policy_of level config operation (table_of config.rules config.users config.own.domains)

-- as a page, which has its end behind all texts
abbrev pub page_end : List ℕ
page_end = codes "</body>\n</html>\n"

abbrev pub html_text : Config → Operation → List ℕ
html_text config operation = page_begin ++ policy_text Page config operation ++ page_end
