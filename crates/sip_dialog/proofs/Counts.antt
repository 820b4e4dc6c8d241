-- How many addresses a dialog holds.
use Rattle.std.proofs.Common.{◌≡◌, ◌≤◌, List, [], ◌∷◌, ◌++◌, length, length-append, cond, leb, Bool, true, false, refl, arith}
use Rattle.std.specs.Prelude.{◌||◌}
use Rattle.std.specs.List.{list_any}
use Rattle.std.proofs.lemmas.Bool.Decides.{nat_tests}
use Rattle.sip_uri.specs.declared.addr.Addr.{Addr}
use Rattle.sip_dialog.specs.Addresses.{is_same_addr, with_address, with_addresses}

one_more : (held : List Addr) (a : Addr) → length held ≤ 16 → length (with_address held a) ≤ 16
one_more held a few = by_tests (list_any (is_same_addr a) held) (leb 16 (length held)) refl where
  by_tests : (there full : Bool) → leb 16 (length held) ≡ full → length (cond (there || full) held (held ++ a ∷ [])) ≤ 16
  by_tests true full is = few
  by_tests false true is = few
  by_tests false false is = grind (arith, nat_tests, length-append held (a ∷ []))

pub few_held : (held more : List Addr) → length held ≤ 16 → length (with_addresses held more) ≤ 16
few_held held [] few = few
few_held held (a ∷ more) few = few_held (with_address held a) more (one_more held a few)
