-- The branch of this server's Via, read back (RFC 3261 8.1.1.7, 16.6 step 8, in this project's profile).
use Rattle.std.specs.Prelude.{ℕ, ◌^◌, List, ◌++◌, length, take, drop, codes, if◌then◌else◌, Option, Some, None, option_map}
use Rattle.std.specs.Option.{option_and_then}
use Rattle.std.specs.Str.{byte, bytes_eq}
use Rattle.sip_text.specs.Numbers.{hex_text, plain_decimal_of, plain_decimal_below}
use Rattle.sip_text.specs.Splits.{split_at_byte}
use Rattle.sip_edit.specs.declared.branch_id.BranchId.{BranchId}

-- what follows a front, if a text begins with it
abbrev pub behind : List ℕ → List ℕ → Option (List ℕ)
behind front text = if bytes_eq (take (length front) text) front then Some (drop (length front) text) else None

-- what each branch of this server begins with: the magic cookie, the boot word in sixteen small hexadecimal digits, and a dot
abbrev pub branch_front : ℕ → List ℕ
branch_front boot = codes "z9hG4bK" ++ hex_text boot ++ codes "."

-- the two numbers of a branch, in decimal without leading zeros
abbrev pub id_from : List ℕ → List ℕ → Option BranchId
id_from number target =
    option_and_then (λ n. option_map (λ k. record { number = n; target = k }) (plain_decimal_below (2 ^ 32) target)) (plain_decimal_of number)

-- what a branch names: the numbers before and behind the dot that follows its front, if it is a branch of this server
abbrev pub branch_id_of : ℕ → List ℕ → Option BranchId
branch_id_of boot text = option_and_then (λ parts. id_from parts.0 parts.1)
    (option_and_then (split_at_byte (byte ".")) (behind (branch_front boot) text))
