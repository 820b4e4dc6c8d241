-- Texts of configurations.
use Rattle.std.specs.Prelude.{ℕ, List, ◌++◌, codes, Option, option_map, Result}
use Rattle.toml.specs.Parse.{parse_document}
use Rattle.sip_config_types.specs.declared.config.Config.{Config}
use Rattle.sip_config_values.specs.declared.refusal.Refusal.{Refusal}
use Rattle.sip_config.specs.Configuration.{placed_by}

-- ---- the sample

abbrev pub sample_version : List ℕ
sample_version = codes "version = 1\n"

abbrev pub sample_realm : List ℕ
sample_realm = codes "realm = \"testrealm@host.com\"\n"

abbrev pub sample_port : List ℕ
sample_port = codes "port = 5060\n"

abbrev pub sample_domains : List ℕ
sample_domains = codes "domains = [\"host.com\"]\n"

-- the keys before all tables, of which four are given
abbrev pub head_with : List ℕ → List ℕ → List ℕ → List ℕ → List ℕ
head_with version realm port domains = version ++ realm ++ codes "host = \"sip.host.com\"\n" ++ port
    ++ codes "address = \"127.0.0.1:5060\"\n" ++ domains

abbrev pub sample_head : List ℕ
sample_head = head_with sample_version sample_realm sample_port sample_domains

abbrev pub sample_users : List ℕ
sample_users =
    codes "[[user]]\nname = \"Mufasa\"\na1 = \"939e7578ed9e3c518a452acee763bce9\"\ngroups = [\"staff\"]\n"
    ++ codes "[[user]]\nname = \"alice\"\na1 = \"11111111111111111111111111111111\"\n[[user]]\nname = \"help\"\na1 = \"22222222222222222222222222222222\"\n"

abbrev pub sample_places : List ℕ
sample_places = codes "[[hop]]\nname = \"gw\"\naddress = \"127.0.0.1:5090\"\n[[host_address]]\nhost = \"pc.host.com\"\naddress = \"127.0.0.1:5091\"\n"

abbrev pub sample_rule_4 : List ℕ
sample_rule_4 = codes "[[rule]]\nid = 4\nwho = \"anyone\"\nop = \"send *\"\ntarget = \"help@host.com\"\nverdict = \"allow\"\n"

abbrev pub sample_first_rules : List ℕ
sample_first_rules =
    codes "[[rule]]\nid = 1\nwho = \"proven\"\nop = \"register\"\ntarget = \"self\"\nverdict = \"allow\"\n"
    ++ codes "[[rule]]\nid = 2\nwho = \"proven\"\nop = \"list\"\ntarget = \"self\"\nverdict = \"allow\"\n"
    ++ codes "[[rule]]\nid = 3\nwho = \"anyone\"\nop = \"send *\"\ntarget = \"vault@host.com\"\nverdict = \"deny\"\n"

abbrev pub sample_last_rules : List ℕ
sample_last_rules =
    codes "[[rule]]\nid = 5\nwho = \"group staff\"\nop = \"send INVITE\"\ntarget = \"9*@host.com\"\nverdict = \"via gw\"\n"
    ++ codes "[[rule]]\nid = 6\nwho = \"proven\"\nop = \"send *\"\ntarget = \"@host.com\"\nverdict = \"allow\"\n"

-- the sample
abbrev pub sample_text : List ℕ
sample_text = sample_head ++ sample_users ++ sample_places ++ sample_first_rules ++ sample_rule_4 ++ sample_last_rules

-- ---- the sample, changed

-- as version 2, an hour ahead of UTC, where rule 4 has more keys
abbrev pub windowed : List ℕ → List ℕ
windowed keys =
    head_with (codes "version = 2\noffset = 60\n") sample_realm sample_port sample_domains ++ sample_users ++ sample_places
    ++ sample_first_rules ++ (sample_rule_4 ++ keys)
    ++ sample_last_rules

-- its head and users, and then other tables
abbrev pub behind_users : List ℕ → List ℕ
behind_users tables = sample_head ++ sample_users ++ tables

-- its head, and then other tables
abbrev pub behind_head : List ℕ → List ℕ
behind_head tables = sample_head ++ tables

-- a rule with these `id`, `who`, `op` and `verdict`
abbrev pub a_rule : List ℕ → List ℕ → List ℕ → List ℕ → List ℕ
a_rule id who op verdict =
    codes "[[rule]]\nid = " ++ id ++ codes "\nwho = \"" ++ who ++ codes "\"\nop = \"" ++ op ++ codes "\"\ntarget = \"*\"\nverdict = \""
    ++ verdict ++ codes "\"\n"

-- a rule that is like no other but for its number
abbrev pub plain_rule : List ℕ → List ℕ
plain_rule id = a_rule id (codes "anyone") (codes "send *") (codes "deny")

-- seventeen domains
abbrev pub many_domains : List ℕ
many_domains = codes "domains = [\"a\", \"b\", \"c\", \"d\", \"e\", \"f\", \"g\", \"h\", \"i\", \"j\", \"k\", \"l\", \"m\", \"n\", \"o\", \"p\", \"q\"]\n"

-- ---- where texts are refused

abbrev pub placed_in : List ℕ → Option (Result Config Refusal)
placed_in text = option_map placed_by (parse_document text)
