-- One datagram more that is passed over.
use Rattle.std.proofs.Common.{◌≡◌, ℕ, ◌+◌, ◌<◌, Bool, true, false, not, ◌&&◌, List, ◌∷◌, Option, nat_lt, if◌then◌else◌, sym, ap, ◌∙◌, arith, add-one}
use Rattle.std.proofs.lemmas.Bool.{lt-ltb}
use Rattle.std.specs.List.{list_all}
use Rattle.sip_transport.specs.Told.{and_then, counted, left_of}
use Rattle.sip_transport.specs.declared.datagram.Instead.TheVariants.{AskedAgain, HeardNothing}
use Rattle.sip_transport.specs.declared.datagram.HeardDatagram.{HeardDatagram}
use Rattle.sip_guard.specs.Guard.{AllowanceState, LinkState, PassesOver, instead_behind, is_within, counted_times, most_passed}
use Rattle.sip_guard.specs.Unheard.{noted}

-- as long as no more are passed over than may be, the link heard what it had heard before
pub heard_before : (old new : AllowanceState) (before after : LinkState) (count : ℕ) → PassesOver old new before after count → count < most_passed
    → after.heard ≡ before.heard
heard_before old new before after count passes few =
    let less : nat_lt count most_passed ≡ true = lt-ltb count most_passed few in
    passes.told ∙ ap (λ (less : Bool). left_of (if less then AskedAgain else HeardNothing) before.heard) less

pub one_passed : (old between new : AllowanceState) (before link after : LinkState) (count : ℕ) (datagram : HeardDatagram)
    → PassesOver old between before link count → count < most_passed → after.heard ≡ left_of (instead_behind (count + 1)) link.heard
    → after.aside ≡ and_then link.aside datagram → after.given ≡ link.given
    → after.waits ≡ link.waits → after.receives ≡ counted link.receives → after.failures ≡ link.failures → is_within between datagram.from.ip ≡ false
    → new ≡ record between { unheard = noted between.unheard datagram.from.ip } → PassesOver old new before after (count + 1)
one_passed old between new before link after count datagram passes few heard aside given waits asked whole beyond more =
    let same : is_within old datagram.from.ip ≡ false = sym (ap (λ (state : AllowanceState). is_within state datagram.from.ip) passes.noted) ∙ beyond in
    record {
      passed = datagram ∷ passes.passed;
      number = omega (arith, passes.number);
      told = heard ∙ ap (left_of (instead_behind (count + 1))) (heard_before old between before link count passes few);
      aside = aside ∙ ap (λ (list : Option (List HeardDatagram)). and_then list datagram) passes.aside;
      given = given ∙ passes.given;
      waits = waits ∙ passes.waits;
      asked = asked ∙ ap counted passes.asked ∙ sym (ap (λ (n : ℕ). counted_times n before.receives) (add-one count));
      whole = whole ∙ passes.whole;
      beyond = ap (λ (b : Bool). not b && list_all (λ (d : HeardDatagram). not (is_within old d.from.ip)) passes.passed) same ∙ passes.beyond;
      noted = more ∙ ap (λ (state : AllowanceState). record state { unheard = noted state.unheard datagram.from.ip }) passes.noted;
    }
