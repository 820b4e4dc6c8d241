-- What two configurations differ in, in a few words: users by how many they are, rules by their numbers, all else by its key.
use Rattle.std.specs.Prelude.{ℕ, ◌+◌, ◌==◌, nat_le, if◌then◌else◌, List, [], ◌∷◌, ◌++◌, codes, decimal, length, map, fold, take, drop, Option, Some, None}
use Rattle.std.specs.List.{flat_map, list_any}
use Rattle.std.specs.Str.{bytes_eq}
use Rattle.sip_config_change.specs.FrameKey.{name_of}
use Rattle.sipd_ask.specs.Decide.{numbered}
use Rattle.sipd_changes.specs.declared.difference.Revision.TheVariants.{Comes, Goes, Says}
use Rattle.sipd_changes.specs.declared.difference.Difference.{Difference}
use Rattle.sipd_changes.specs.declared.difference.Difference.TheVariants.{Frame, BoundPort, Offset, UserComes, UserGoes, Digest, Joins, Leaves, Hop, Host, Rule}
use Rattle.sipd_changes.specs.declared.difference.Difference.TheVariants.{NumberAgain, Order}
use Rattle.sipd_changes.specs.declared.fate.Fate.{Fate}
use Rattle.sipd_changes.specs.declared.fate.Fate.TheVariants.{More, Fewer, Changed}

-- ---- users, by how many they are

-- who comes, if a change tells that; who goes; and who has other digests or groups
abbrev pub who_comes : Difference → Option (List ℕ)
who_comes (UserComes user) = Some user
who_comes change = None

abbrev pub who_goes : Difference → Option (List ℕ)
who_goes (UserGoes user) = Some user
who_goes change = None

abbrev pub who_changes : Difference → Option (List ℕ)
who_changes (Digest user key) = Some user
who_changes (Joins user group) = Some user
who_changes (Leaves user group) = Some user
who_changes change = None

-- the user of whom a change tells that this becomes of him
abbrev pub user_of : Fate → Difference → Option (List ℕ)
user_of More change = who_comes change
user_of Fewer change = who_goes change
user_of Changed change = who_changes change

-- how many users are one that wasn't named right before: of one user all is told in a row
abbrev pub one_more : Option (List ℕ) → Option (List ℕ) → ℕ
one_more before None = 0
one_more None (Some user) = 1
one_more (Some before) (Some user) = if bytes_eq before user then 0 else 1

-- how many users this becomes of, behind a change that told it of one, or of none
abbrev pub users_in : Fate → Option (List ℕ) → List Difference → ℕ
users_in fate before [] = 0
users_in fate before (change ∷ changes) = one_more before (user_of fate change) + users_in fate (user_of fate change) changes

abbrev pub user_words : Fate → List ℕ
user_words More = codes " more"
user_words Fewer = codes " fewer"
user_words Changed = codes " changed"

abbrev pub user_word : ℕ → List ℕ
user_word count = if count == 1 then codes " user" else codes " users"

-- `1 user more`, `2 users more`; nothing of none
abbrev pub users_text : Fate → ℕ → List ℕ
users_text fate count = if count == 0 then [] else decimal count ++ user_word count ++ user_words fate

-- ---- rules, by their numbers

abbrev pub which_comes : Difference → Option ℕ
which_comes (Rule id (Comes behind text)) = Some id
which_comes change = None

abbrev pub which_goes : Difference → Option ℕ
which_goes (Rule id (Goes text)) = Some id
which_goes change = None

-- which rule says something else, or is for other requests
abbrev pub which_changes : Difference → Option ℕ
which_changes (Rule id (Says before now)) = Some id
which_changes (NumberAgain id) = Some id
which_changes change = None

-- the number of the rule of which a change tells that this becomes of it
abbrev pub rule_of : Fate → Difference → Option ℕ
rule_of More change = which_comes change
rule_of Fewer change = which_goes change
rule_of Changed change = which_changes change

-- a number that wasn't named right before: of one rule all is told in a row
abbrev pub unless_same : Option ℕ → Option ℕ → List ℕ
unless_same before None = []
unless_same None (Some id) = id ∷ []
unless_same (Some before) (Some id) = if before == id then [] else id ∷ []

-- the numbers of the rules that this becomes of, behind a change that told it of one, or of none
abbrev pub rules_in : Fate → Option ℕ → List Difference → List ℕ
rules_in fate before [] = []
rules_in fate before (change ∷ changes) = unless_same before (rule_of fate change) ++ rules_in fate (rule_of fate change) changes

abbrev pub rule_words : Fate → List ℕ
rule_words More = codes " new"
rule_words Fewer = codes " gone"
rule_words Changed = codes " changed"

-- how many numbers are named at most
abbrev pub most_numbers : ℕ
most_numbers = 12

-- what stands in front of a number that these come behind
abbrev pub link_of : List ℕ → List ℕ
link_of [] = codes " and "
link_of (id ∷ ids) = codes ", "

-- numbers behind the first one
abbrev pub further_text : List ℕ → List ℕ
further_text [] = []
further_text (id ∷ ids) = link_of ids ++ decimal id ++ further_text ids

-- `3`, `3 and 7`, `3, 4 and 7`
abbrev pub few_text : List ℕ → List ℕ
few_text [] = []
few_text (id ∷ ids) = decimal id ++ further_text ids

-- `3, 4, 7`
abbrev pub row_text : List ℕ → List ℕ
row_text [] = []
row_text (id ∷ ids) = decimal id ++ flat_map (λ other. codes ", " ++ decimal other) ids

-- numbers, the first of them and how many come behind them where they are many
abbrev pub numbers_text : List ℕ → List ℕ
numbers_text ids =
    if nat_le (length ids) most_numbers then few_text ids
    else row_text (take most_numbers ids) ++ numbered (codes " and ") (length (drop most_numbers ids)) (codes " more")

abbrev pub rule_word : List ℕ → List ℕ
rule_word [] = codes "rule "
rule_word (id ∷ ids) = codes "rules "

-- `rule 3 new`, `rules 3 and 7 new`; nothing of none
abbrev pub rules_text : Fate → List ℕ → List ℕ
rules_text fate [] = []
rules_text fate (id ∷ ids) = rule_word ids ++ numbers_text (id ∷ ids) ++ rule_words fate

-- ---- all else, by its key

-- what of the file a change is of, beside users and rules
abbrev pub key_of : Difference → List ℕ
key_of (Frame key) = name_of key
key_of (BoundPort before now) = codes "address"
key_of (Offset before now) = codes "offset"
key_of (Hop name move) = codes "hop"
key_of (Host host port move) = codes "host_address"
key_of (Order ids) = codes "order of rules"
key_of change = []

abbrev pub policy_keys : List (List ℕ)
policy_keys = codes "order of rules" ∷ codes "offset" ∷ codes "hop" ∷ codes "host_address" ∷ []

-- those that can't change while a server runs
abbrev pub fixed_keys : List (List ℕ)
fixed_keys = codes "host" ∷ codes "port" ∷ codes "address" ∷ codes "domains" ∷ codes "realm" ∷ []

-- `KEY changed`, if some change is of it
abbrev pub key_text : List Difference → List ℕ → List ℕ
key_text changes key = if list_any (λ change. bytes_eq (key_of change) key) changes then key ++ codes " changed" else []

-- ---- all

-- what stands between a text and what comes behind it
abbrev pub comma_behind : List ℕ → List ℕ
comma_behind [] = []
comma_behind (byte ∷ bytes) = codes ", "

-- a text and one more part of it, if that says something
abbrev pub and_part : List ℕ → List ℕ → List ℕ
and_part text [] = text
and_part text (byte ∷ bytes) = text ++ comma_behind text ++ (byte ∷ bytes)

abbrev pub fates : List Fate
fates = More ∷ Fewer ∷ Changed ∷ []

abbrev pub user_parts : List Difference → List (List ℕ)
user_parts changes = map (λ fate. users_text fate (users_in fate None changes)) fates

abbrev pub rule_parts : List Difference → List (List ℕ)
rule_parts changes = map (λ fate. rules_text fate (rules_in fate None changes)) fates

abbrev pub key_parts : List (List ℕ) → List Difference → List (List ℕ)
key_parts keys changes = map (key_text changes) keys

abbrev pub summed_up : List Difference → List ℕ
summed_up [] = codes "nothing differs"
summed_up (change ∷ changes) =
    fold and_part [] (user_parts (change ∷ changes) ++ rule_parts (change ∷ changes) ++ key_parts policy_keys (change ∷ changes)
    ++ key_parts fixed_keys (change ∷ changes))
