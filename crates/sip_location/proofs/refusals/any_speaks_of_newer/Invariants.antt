use Rattle.std.proofs.Common.{◌≡◌, drop}
use Rattle.std.specs.Prelude.{◌&&◌}
use Rattle.std.specs.List.{list_any}
use Rattle.sip_location.specs.Newer.{is_of_call}
use Rattle.sip_location.specs.Registration.{speaks_of}
use Rattle.sip_location.proofs.refusals.any_speaks_of_newer.Given as goal

-- those that are left decide
abbrev pub invariant-loop-contact : goal.invariant-loop-contact
invariant-loop-contact l =
    list_any (λ c. list_any (λ b. is_of_call l.request b && speaks_of b c) l.bindings) (drop l.contact-index l.contacts)
    ≡ list_any (λ c. list_any (λ b. is_of_call l.request b && speaks_of b c) l.bindings) l.contacts
