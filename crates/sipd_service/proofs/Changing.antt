-- What the engine's answers say of a configuration, and what is told between two turns.
use Rattle.std.proofs.Common.{◌≡◌, ℕ, true, false, List, [], Option, None, Some, IfSome, IsSome, Result, Ok, Err, OnOk, OnErr, inl, inr, refl, sym, subst, ap, ap₂, ◌∙◌}
use Rattle.std.specs.Prelude.{option_map}
use Rattle.std.specs.Result.{is_err}
use Rattle.sip_config_types.specs.declared.config.Config.{Config}
use Rattle.sip_config_change.specs.declared.key.FrameKey.{FrameKey}
use Rattle.sip_config_change.specs.Frame.{frame_key_of}
use Rattle.sip_model.specs.state.declared.server.Server.{Server}
use Rattle.sip_journal.specs.Record.{Notes}
use Rattle.sip_loop.specs.Serving.{Told}
use Rattle.sip_transport.specs.declared.datagram.HeardDatagram.{HeardDatagram}
use Rattle.sip_transport.specs.declared.datagram.Given.{Given}
use Rattle.sip_loop.specs.run.engine.declared.change_error.ChangeError.{ChangeError}
use Rattle.sip_loop.specs.run.engine.declared.change_error.ChangeError.TheVariants.{OtherFrame}
use Rattle.sipd_reload.specs.Watch.{WatchState}
use Rattle.sip_guard.specs.Guard.{AllowanceState, GuardState, hearing}
use Rattle.sipd_service.specs.Hops.{hop_addresses}
use Rattle.sipd_service.specs.Reloads.{FollowsHops, HearsHops, IsUnnoted, always_of}

-- what was taken has the same frame
pub not_other : (old config : Config) (answer : Result (Unit {0}) ChangeError) → IfSome (frame_key_of old config) (λ key. answer ≡ Err (OtherFrame key)) → answer ≡ Ok tt
    → frame_key_of old config ≡ None
not_other old config answer refused taken = by_key (frame_key_of old config) refused where
  by_key : (o : Option FrameKey) → IfSome o (λ key. answer ≡ Err (OtherFrame key)) → o ≡ None
  by_key None h = refl
  by_key (Some key) h = absurd (cc)

-- what holds where a call failed, and where it didn't
pub err_says : {V E : Type 0} {P : Type 0} (r : Result V E) → is_err r ≡ true → OnErr r P → P
err_says (Err e) is h = h
err_says (Ok v) is h = absurd (cc)

pub ok_says : {V E : Type 0} {P : Type 0} (r : Result V E) → is_err r ≡ false → OnOk r P → P
ok_says (Ok v) is h = h
ok_says (Err e) is h = absurd (cc)

-- a watch there is, of which that is so
pub watched_so : (port now : ℕ) (server next : Server) (o : Option WatchState) → IsSome o → IfSome o (λ watched. IsUnnoted port now server next watched)
    → (watched : WatchState) × (o ≡ Some watched) × IsUnnoted port now server next watched
watched_so port now server next (Some watched) some h = (watched, refl, h)
watched_so port now server next None some h = absurd (cc)

-- what has failed stays so
pub stays_failed : (old new : Option (Option (List ℕ))) → old ≡ None → Notes old new [] → new ≡ None
stays_failed None None e h = refl
stays_failed None (Some new) e h = absurd h
stays_failed (Some old) new e h = absurd (cc)

-- what is told where the clock was read, and where the link tells the same
pub with_readings : (t : Told) (readings : Option (List ℕ)) → t.readings ≡ readings → t ≡ record t { readings = readings }
with_readings t readings e = ap (λ (r : Option (List ℕ)). record t { readings = r }) e

pub with_link : (t : Told) (heard : Option (List (Option HeardDatagram))) (given : Option (List Given)) → t.heard ≡ heard → t.given ≡ given
    → t ≡ record t { heard = heard; given = given }
with_link t heard given e f = ap₂ (λ (h : Option (List (Option HeardDatagram))) (g : Option (List Given)). record t { heard = h; given = g }) e f

pub with_three : (t : Told) (heard : Option (List (Option HeardDatagram))) (given : Option (List Given)) (readings : Option (List ℕ)) → t.heard ≡ heard → t.given ≡ given
    → t.readings ≡ readings
    → t ≡ record t { heard = heard; given = given; readings = readings }
with_three t heard given readings e f h = with_link t heard given e f ∙ ap (λ (r : Option (List ℕ)). record t { heard = heard; given = given; readings = r }) h

-- whom a guard hears always is nothing to the link under it
pub same_link : (server next : Server) (before after : GuardState) → FollowsHops server next before after → after.link ≡ before.link
same_link server next before after (inl follows) = ap (λ (g : GuardState). g.link) follows
same_link server next before after (inr (none, same)) = ap (λ (g : GuardState). g.link) same

-- a guard hears the hops, where it keeps allowances
hearing_always : (always : List (List ℕ)) (o : Option AllowanceState)
    → option_map (λ (a : AllowanceState). a.always) (option_map (hearing always) o) ≡ option_map (λ _. always) (option_map (λ (a : AllowanceState). a.always) o)
hearing_always always None = refl
hearing_always always (Some allowances) = refl

pub hears_hops : (server next : Server) (before after : GuardState) → FollowsHops server next before after → HearsHops server next (always_of before) (always_of after)
hears_hops server next before after (inl follows) =
    inl (ap always_of follows ∙ hearing_always (hop_addresses next.config) before.allowances)
hears_hops server next before after (inr (none, same)) = inr (none, ap always_of same)

-- and so it does where its allowances stay
pub hears_still : (server next : Server) (before after then : GuardState) → FollowsHops server next before after → then.allowances ≡ after.allowances
    → HearsHops server next (always_of before) (always_of then)
hears_still server next before after then follows kept =
    let same : always_of then ≡ always_of after = ap (option_map (λ (a : AllowanceState). a.always)) kept in
    subst (λ (heard : Option (List (List ℕ))). HearsHops server next (always_of before) heard) (sym same) (hears_hops server next before after follows)
