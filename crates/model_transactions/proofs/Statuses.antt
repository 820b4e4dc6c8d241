-- Statuses, as each of the four machines tells them apart.
use Rattle.std.proofs.Common.{◌≡◌, ℕ, ◌<◌, ◌≤◌, Bool, true, false, cond, refl, arith, leb}
use Rattle.std.specs.Prelude.{◌&&◌}
use Rattle.std.proofs.lemmas.Bool.Decides.{nat_tests}
use Rattle.sip_transactions.specs.ClientInvite as InviteClient
use Rattle.sip_transactions.specs.ClientOther as OtherClient
use Rattle.sip_transactions.specs.declared.client_invite.ClientInviteInput.TheVariants as ToInvite
use Rattle.sip_transactions.specs.declared.client_other.ClientOtherInput.TheVariants as ToOther
use Rattle.sip_transactions.specs.ServerInvite as InviteServer
use Rattle.sip_transactions.specs.ServerOther as OtherServer
use Rattle.sip_transactions.specs.declared.server_invite.ServerInviteInput.TheVariants as OfInvite
use Rattle.sip_transactions.specs.declared.server_other.ServerOtherInput.TheVariants as OfOther
use Rattle.sip_context_branches.specs.state.State.{is_success, is_failure, is_provisional}

-- ---- the tests among themselves

-- what isn't provisional, and no failure, is a success
pub success_is : (s : ℕ) → is_provisional s ≡ false → is_failure s ≡ false → is_success s ≡ true
success_is s late short =
    let a : leb 200 s ≡ true = grind (arith, nat_tests) in
    let b : leb s 299 ≡ true = grind (arith, nat_tests) in
    rw (a, b) refl

-- a failure is no success
pub failure_is : (s : ℕ) → is_failure s ≡ true → is_success s ≡ false
failure_is s long =
    let a : leb 200 s ≡ true = grind (arith, nat_tests) in
    let b : leb s 299 ≡ false = grind (arith, nat_tests) in
    rw (a, b) refl

-- a success is no failure
pub success_short : (s : ℕ) → is_success s ≡ true → is_failure s ≡ false
success_short s ok = by_test (leb s 299) refl ok where
  by_test : (t : Bool) → leb s 299 ≡ t → is_success s ≡ true → leb 300 s ≡ false
  by_test true e ok = grind (arith, nat_tests)
  by_test false e ok = grind (arith, nat_tests)

-- a success isn't provisional
pub success_late : (s : ℕ) → is_success s ≡ true → is_provisional s ≡ false
success_late s ok = by_test (leb 200 s) refl ok where
  by_test : (t : Bool) → leb 200 s ≡ t → is_success s ≡ true → leb s 199 ≡ false
  by_test true e ok = grind (arith, nat_tests)
  by_test false e ok = grind (arith, nat_tests)

-- a failure isn't provisional
pub failure_late : (s : ℕ) → is_failure s ≡ true → is_provisional s ≡ false
failure_late s long = grind (arith, nat_tests)

-- what is provisional is no success, and no failure
pub provisional_short : (s : ℕ) → is_provisional s ≡ true → is_failure s ≡ false
provisional_short s is = grind (arith, nat_tests)

pub provisional_early : (s : ℕ) → is_provisional s ≡ true → is_success s ≡ false
provisional_early s is = let a : leb 200 s ≡ false = grind (arith, nat_tests) in rw a refl

-- ---- three kinds

-- a table of statuses that begins at 100
three : {X : Type 0} (s : ℕ) (provisional success failure other : X) → X
three s provisional success failure other = cond (leb 100 s && leb s 199) provisional
    (cond (leb 200 s && leb s 299) success (cond (leb 300 s && leb s 699) failure other))

three_provisional : {X : Type 0} (s : ℕ) (p q r o : X) → 100 ≤ s → is_provisional s ≡ true → three s p q r o ≡ p
unfolding three
three_provisional s p q r o low is =
    let a : leb 100 s ≡ true = grind (arith, nat_tests) in
    let b : leb s 199 ≡ true = is in
    rw (a, b) refl

three_success : {X : Type 0} (s : ℕ) (p q r o : X) → is_success s ≡ true → three s p q r o ≡ q
unfolding three
three_success s p q r o ok =
    let a : leb s 199 ≡ false = success_late s ok in
    let n : leb 200 s ≡ true = grind (arith, nat_tests) in
    let e : leb 100 s ≡ true = grind (arith, nat_tests) in
    let c : leb s 299 ≡ true = grind (arith, nat_tests, success_short s ok) in
    rw (e, a, n, c) refl

three_failure : {X : Type 0} (s : ℕ) (p q r o : X) → s < 700 → is_failure s ≡ true → three s p q r o ≡ r
unfolding three
three_failure s p q r o high long =
    let a : leb s 199 ≡ false = grind (arith, nat_tests) in
    let b : leb 200 s ≡ true = grind (arith, nat_tests) in
    let d : leb s 299 ≡ false = grind (arith, nat_tests) in
    let e : leb 100 s ≡ true = grind (arith, nat_tests) in
    let f : leb 300 s ≡ true = long in
    let h : leb s 699 ≡ true = grind (arith, nat_tests) in
    rw (e, a, b, d, f, h) refl

-- ---- the INVITE client

pub client_provisional : (s : ℕ) → 100 ≤ s → is_provisional s ≡ true → InviteClient.heard (ToInvite.Received s) ≡ InviteClient.provisional
unfolding three
client_provisional s low is = three_provisional s InviteClient.provisional InviteClient.success InviteClient.failure InviteClient.other low is

pub client_success : (s : ℕ) → is_success s ≡ true → InviteClient.heard (ToInvite.Received s) ≡ InviteClient.success
unfolding three
client_success s ok = three_success s InviteClient.provisional InviteClient.success InviteClient.failure InviteClient.other ok

pub client_failure : (s : ℕ) → s < 700 → is_failure s ≡ true → InviteClient.heard (ToInvite.Received s) ≡ InviteClient.failure
unfolding three
client_failure s high long = three_failure s InviteClient.provisional InviteClient.success InviteClient.failure InviteClient.other high long

-- ---- the INVITE server

pub server_provisional : (s : ℕ) → 100 ≤ s → is_provisional s ≡ true → InviteServer.heard (OfInvite.Answer s) ≡ InviteServer.provisional
unfolding three
server_provisional s low is = three_provisional s InviteServer.provisional InviteServer.success InviteServer.failure InviteServer.other low is

pub server_success : (s : ℕ) → is_success s ≡ true → InviteServer.heard (OfInvite.Answer s) ≡ InviteServer.success
unfolding three
server_success s ok = three_success s InviteServer.provisional InviteServer.success InviteServer.failure InviteServer.other ok

pub server_failure : (s : ℕ) → s < 700 → is_failure s ≡ true → InviteServer.heard (OfInvite.Answer s) ≡ InviteServer.failure
unfolding three
server_failure s high long = three_failure s InviteServer.provisional InviteServer.success InviteServer.failure InviteServer.other high long

-- ---- the others

pub other_provisional : (s : ℕ) → 100 ≤ s → is_provisional s ≡ true → OtherClient.heard (ToOther.Received s) ≡ OtherClient.provisional
other_provisional s low is =
    let a : leb 100 s ≡ true = grind (arith, nat_tests) in
    let b : leb s 199 ≡ true = is in
    rw (a, b) refl

pub other_final : (s : ℕ) → s < 700 → is_provisional s ≡ false → OtherClient.heard (ToOther.Received s) ≡ OtherClient.final
other_final s high late =
    let a : leb s 199 ≡ false = late in
    let b : leb 200 s ≡ true = grind (arith, nat_tests) in
    let e : leb 100 s ≡ true = grind (arith, nat_tests) in
    let h : leb s 699 ≡ true = grind (arith, nat_tests) in
    rw (e, a, b, h) refl

pub served_provisional : (s : ℕ) → 101 ≤ s → is_provisional s ≡ true → OtherServer.heard (OfOther.Answer s) ≡ OtherServer.provisional
served_provisional s low is =
    let a : leb 101 s ≡ true = grind (arith, nat_tests) in
    let b : leb s 199 ≡ true = is in
    rw (a, b) refl

pub served_final : (s : ℕ) → s < 700 → is_provisional s ≡ false → OtherServer.heard (OfOther.Answer s) ≡ OtherServer.final
served_final s high late =
    let a : leb s 199 ≡ false = late in
    let b : leb 200 s ≡ true = grind (arith, nat_tests) in
    let e : leb 101 s ≡ true = grind (arith, nat_tests) in
    let h : leb s 699 ≡ true = grind (arith, nat_tests) in
    rw (e, a, b, h) refl
