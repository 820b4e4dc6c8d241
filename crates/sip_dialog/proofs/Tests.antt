-- What the test of a request in a dialog says.
use Rattle.std.proofs.Common.{◌≡◌, ℕ, ◌∙◌, sym, List, true, refl, ap, subst, arith}
use Rattle.std.specs.Prelude.{Contains, ◌&&◌}
use Rattle.std.specs.Str.{bytes_eq}
use Rattle.std.proofs.lemmas.Bool.Decides.{nat_tests}
use Rattle.std.proofs.lemmas.Slice.Eq.{bytes_eq-Decides}
use Rattle.std.proofs.lemmas.List.Folds.{Any-from_list_any, list_any-from_Any}
use Rattle.sip_uri.specs.declared.addr.Addr.{Addr}
use Rattle.sip_dialog.specs.declared.dialog.DialogId.{DialogId}
use Rattle.sip_dialog.specs.declared.dialog.Dialog.{Dialog}
use Rattle.sip_dialog.specs.Addresses.{is_same_addr}
use Rattle.sip_dialog.specs.Dialogs.{is_known, is_named, holds, IsInDialog, is_in_dialog}

same_is : (a b : Addr) → is_same_addr a b ≡ true → a ≡ b
same_is a b e =
    let ip : bytes_eq a.ip b.ip ≡ true = grind (arith, nat_tests) in
    let port : a.port ≡ b.port = grind (arith, nat_tests) in
    let first : a ≡ record { ip = b.ip; port = a.port } = ap (λ v. record { ip = v; port = a.port }) ((bytes_eq-Decides a.ip b.ip).0 ip) in
    first ∙ ap (λ n. record { ip = b.ip; port = n }) port

same_itself : (a : Addr) → is_same_addr a a ≡ true
same_itself a = let ip = (bytes_eq-Decides a.ip a.ip).1 refl in grind (arith, nat_tests)

pub test_says : (now : ℕ) (dialogs : List Dialog) (id : DialogId) (address : Addr) → is_in_dialog now dialogs id address ≡ true → IsInDialog now dialogs id address
test_says now dialogs id address e =
    let found = Any-from_list_any (λ d. is_known now d && is_named id d && holds address d) dialogs e in
    let d : Dialog = found.1 in
    let passes : (is_known now d && is_named id d && holds address d) ≡ true = found.4 in
    let held : holds address d ≡ true = grind (arith, nat_tests) in
    let where_held = Any-from_list_any (is_same_addr address) d.addresses held in
    let is : address ≡ where_held.1 = same_is address where_held.1 where_held.4 in
    record {
      dialog = d;
      there = (found.0, found.2, found.3);
      is_recent = grind (arith, nat_tests);
      has_name = grind (arith, nat_tests);
      holds_address = subst (λ (a : Addr). Contains d.addresses a) (sym is) (where_held.0, where_held.2, where_held.3);
    }

pub test_holds : (now : ℕ) (dialogs : List Dialog) (id : DialogId) (address : Addr) → IsInDialog now dialogs id address → is_in_dialog now dialogs id address ≡ true
test_holds now dialogs id address h =
    let held : holds address h.dialog ≡ true = list_any-from_Any (is_same_addr address) h.dialog.addresses
    (h.holds_address.0, address, h.holds_address.1, h.holds_address.2, same_itself address) in
    let recent : is_known now h.dialog ≡ true = let r = h.is_recent in grind (arith, nat_tests) in
    list_any-from_Any (λ d. is_known now d && is_named id d && holds address d) dialogs (h.there.0, h.dialog, h.there.1, h.there.2, rw (recent, h.has_name, held) refl)
