-- An address among others.
use Rattle.std.proofs.Common.{◌≡◌, Bool, true, false, ◌||◌, List, [], ◌∷◌, ◌++◌, Result, Ok, Err, refl, ap, ◌∙◌}
use Rattle.std.specs.Prelude.{if◌then◌else◌, OnOk}
use Rattle.std.specs.List.{list_any}
use Rattle.sip_uri.specs.declared.addr.Addr.{Addr}
use Rattle.sip_dialog.specs.Addresses.{is_same_addr}
use Rattle.sipd_ladder.specs.Table.{with_place}

known_by : (known addr : Addr) (places : List Addr) (same : Bool) → (list_any (λ other. is_same_addr other addr) places ≡ true → places ≡ with_place places addr)
    → (same || list_any (λ other. is_same_addr other addr) places) ≡ true → known ∷ places ≡ (if same then known ∷ places else known ∷ with_place places addr)
known_by known addr places true go h = refl
known_by known addr places false go h = ap (λ (l : List Addr). known ∷ l) (go h)

pub place_known : (places : List Addr) (addr : Addr) → list_any (λ known. is_same_addr known addr) places ≡ true → places ≡ with_place places addr
place_known [] addr is = absurd cc
place_known (known ∷ places) addr is = known_by known addr places (is_same_addr known addr) (λ h. place_known places addr h) is

new_by : (known addr : Addr) (places : List Addr) (same : Bool) → (list_any (λ other. is_same_addr other addr) places ≡ false → places ++ addr ∷ [] ≡ with_place places addr)
    → (same || list_any (λ other. is_same_addr other addr) places) ≡ false
    → known ∷ places ++ addr ∷ [] ≡ (if same then known ∷ places else known ∷ with_place places addr)
new_by known addr places true go h = absurd cc
new_by known addr places false go h = ap (λ (l : List Addr). known ∷ l) (go h)

pub place_new : (places : List Addr) (addr : Addr) → list_any (λ known. is_same_addr known addr) places ≡ false → places ++ addr ∷ [] ≡ with_place places addr
place_new [] addr is = refl
place_new (known ∷ places) addr is = new_by known addr places (is_same_addr known addr) (λ h. place_new places addr h) is

pub added_place : {X E : Type 0} (result : Result X E) (places new : List Addr) (addr : Addr)
    → list_any (λ known. is_same_addr known addr) places ≡ false → OnOk result (new ≡ places ++ addr ∷ []) → OnOk result (new ≡ with_place places addr)
added_place (Ok x) places new addr is h = h ∙ place_new places addr is
added_place (Err e) places new addr is h = tt
