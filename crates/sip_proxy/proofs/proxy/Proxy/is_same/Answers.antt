use Rattle.std.proofs.Common.{◌≡◌, ℕ, refl, subst}
use Rattle.sip_digest.specs.Nonces.{lasting}
use Rattle.sip_dialog.specs.Sameness.{as_seen, SameDialogs}
use Rattle.sip_location.specs.Sameness.{SameBindings}
use Rattle.std.specs.Prelude.{map}
use Rattle.sip_proxy.proofs.proxy.Proxy.is_same.Goals as goal

pub returns-clause-moment : goal.returns-clause-moment
returns-clause-moment g c = λ _. rw (← c.self.view_is, ← c.other.view_is) (c.if-not-is_same.ensures.moment refl)

pub returns-clause-next : goal.returns-clause-next
returns-clause-next g c = λ _. c.if-not-counts_as.ensures refl

pub returns-clause-bindings : goal.returns-clause-bindings
returns-clause-bindings g c = λ _. rw (← c.self.view_is, ← c.other.view_is)
    (subst (λ (n : ℕ). SameBindings n c.self.inside.locations.rows c.other.inside.locations.rows) c.moment-now.ensures.value (c.if-not-is_same-3.ensures refl))

pub returns-clause-nonces : goal.returns-clause-nonces
returns-clause-nonces g c = λ _. rw (← c.self.view_is, ← c.other.view_is)
    (subst (λ (n : ℕ). lasting n c.self.inside.nonces ≡ lasting n c.other.inside.nonces) c.moment-now.ensures.value (c.if-not-is_same-2.ensures.0 refl))

pub returns-clause-requests : goal.returns-clause-requests
returns-clause-requests g c = λ _. rw (← c.self.view_is, ← c.other.view_is) (c.if-not-is_same.ensures.requests refl)

pub returns-clause-dialogs : goal.returns-clause-dialogs
returns-clause-dialogs g c = λ is. rw (← c.self.view_is, ← c.other.view_is)
    (subst (λ (n : ℕ). SameDialogs n (map as_seen c.self.inside.dialogs.dialogs) (map as_seen c.other.inside.dialogs.dialogs)) c.moment-now.ensures.value
    (c.is_same-4.ensures is))
