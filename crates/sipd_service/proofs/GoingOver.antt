-- A service keeps the configuration in force and the word of its server, whatever records it begins.
use Rattle.std.proofs.Common.{◌≡◌, ◌∙◌, ℕ, zero, suc, Bool, true, false, List, Option, None, Some, Result, Ok, Err, refl, sym, ap, ap₂, subst}
use Rattle.std.specs.Prelude.{if◌then◌else◌, min}
use Rattle.sip_config.specs.Stated.{States}
use Rattle.sip_config.specs.values.declared.error.ConfigError.{ConfigError}
use Rattle.sip_config_types.specs.declared.config.Config.{Config}
use Rattle.sip_loop.specs.run.engine.Engine.{Engine}
use Rattle.sip_model.specs.state.declared.server.Server.{Server}
use Rattle.sipd_reload.specs.Watch.{Looks, WatchState, is_due, looked_at, noted, sight_of}
use Rattle.sipd_reload.specs.declared.look.Look.{Look}
use Rattle.sipd_reload.specs.declared.look.Look.TheVariants.{Nothing, Unsettled, Unread, Settled}
use Rattle.sipd_reload.specs.declared.sight.Sight.{Sight}
use Rattle.sipd_reload.specs.declared.sight.Sight.TheVariants as sights
use Rattle.sipd_service.specs.NextRecords.{MayGoOver, in_force, Stays, GoesOver}
use Rattle.sipd_service.specs.Reloads.{ComesOf, IsUnder, MayChange, Takes, Taken, Refused, Waits, Written}
use Rattle.sipd_service.specs.Turns.{AreTurns, IsAsTold, IsTurn, ServiceSeen}

abbrev config_in : Config → Result Config ConfigError → Config
config_in other (Ok config) = config
config_in other (Err e) = other

states_one : (bytes : List ℕ) (one other : Config) → States bytes one → States bytes other → other ≡ one
states_one bytes one other a b = ap (config_in one) (sym b.stated ∙ a.stated)

abbrev server_with : Config → ℕ → Server
server_with config word = record { config = config; word = word }

pub over_to_same : (bytes : List ℕ) (before after : Engine) (written written_then : Written)
    → States bytes before.server.config → MayGoOver bytes before after written written_then → after.server ≡ before.server
over_to_same bytes before after written written_then is (Stays same notes) = ap (λ (e : Engine). e.server) same
over_to_same bytes before after written written_then is (GoesOver so word same) =
    ap₂ (λ (c : Config) (w : ℕ). server_with c w) (states_one bytes before.server.config after.server.config is so) word

-- ---- a configuration that comes into force

noted_in_force : (watch : WatchState) (sight : Sight) → (noted watch sight).in_force ≡ watch.in_force
noted_in_force watch (sights.Failed fault) = refl
noted_in_force watch sights.Same = refl
noted_in_force watch (sights.Held stamp bytes) = refl

by_due : (due : Bool) (one other : WatchState) (bytes : List ℕ) → one.in_force ≡ bytes → other.in_force ≡ bytes → (if due then one else other).in_force ≡ bytes
by_due true one other bytes a b = a
by_due false one other bytes a b = b

looks_in_force : (old new : WatchState) (now : ℕ) (look : Look) → Looks old now new look → new.in_force ≡ old.in_force
looks_in_force old new now look h = ap (λ (w : WatchState). w.in_force) h.behind
    ∙ by_due (is_due old now) (record (noted old (sight_of old.seen h.answers)) { looked = now }) (record old { looked = min old.looked now }) old.in_force
    (noted_in_force old (sight_of old.seen h.answers)) refl

states_same : (one other : List ℕ) (server next : Server) → other ≡ one → next ≡ server → States one server.config → States other next.config
states_same one other server next same still h =
    subst (λ bytes. States bytes next.config) (sym same) (subst (λ (s : Server). States one s.config) (sym still) h)

states_taken : (port : ℕ) (bytes : List ℕ) (server next : Server) → IsUnder port bytes server next → States bytes next.config
states_taken port bytes server next h = subst (λ (s : Server). States bytes s.config) (sym h.next_is) h.takable.states

abbrev in_force_of : WatchState → List ℕ
in_force_of watch = watch.in_force

takes_keep : (port : ℕ) (bytes : List ℕ) (server next : Server) (watch seen after : WatchState) (written written_then : Written)
    → seen.in_force ≡ watch.in_force → Takes port bytes server next seen after written written_then → States watch.in_force server.config
    → States after.in_force next.config
takes_keep port bytes server next watch seen after written written_then e (Taken under so notes) h =
    subst (λ b. States b next.config) (sym (ap in_force_of so)) (states_taken port bytes server next under)
takes_keep port bytes server next watch seen after written written_then e (Refused why still so same) h =
    states_same watch.in_force after.in_force server next (ap in_force_of so ∙ e) still h
takes_keep port bytes server next watch seen after written written_then e (Waits still so same) h =
    states_same watch.in_force after.in_force server next (ap in_force_of so ∙ e) still h

comes_keep : (look : Look) (port : ℕ) (server next : Server) (watch seen after : WatchState) (written written_then : Written)
    → seen.in_force ≡ watch.in_force → ComesOf look port server next seen after written written_then → States watch.in_force server.config
    → States after.in_force next.config
comes_keep (Settled bytes) port server next watch seen after written written_then e h is =
    takes_keep port bytes server next watch seen after written written_then e h is
comes_keep Nothing port server next watch seen after written written_then e (still, same, _) is =
    states_same watch.in_force after.in_force server next (ap in_force_of same ∙ e) still is
comes_keep Unsettled port server next watch seen after written written_then e (still, same, _) is =
    states_same watch.in_force after.in_force server next (ap in_force_of same ∙ e) still is
comes_keep (Unread fault) port server next watch seen after written written_then e (still, same, _) is =
    states_same watch.in_force after.in_force server next (ap in_force_of same ∙ e) still is

change_keeps : (port now : ℕ) (stated : List ℕ) (server next : Server) (file after : Option WatchState) (written written_then : Written)
    → MayChange port now server next file after written written_then → States (in_force stated file) server.config
    → States (in_force stated after) next.config
change_keeps port now stated server next None after written written_then (still, same, _) is =
    states_same stated (in_force stated after) server next (ap (in_force stated) same) still is
change_keeps port now stated server next (Some watch) None written written_then h is = absurd h
change_keeps port now stated server next (Some watch) (Some after) written written_then h is =
    comes_keep h.look port server next watch h.seen after written written_then (looks_in_force watch h.seen now h.look h.looks) h.comes is

-- ---- turns

begun_so : (stated stated_then : List ℕ) (file file_then : Option WatchState) (server server_then : Server)
    → stated_then ≡ stated → file_then ≡ file → server_then ≡ server
    → States (in_force stated file) server.config → States (in_force stated_then file_then) server_then.config
begun_so stated stated_then file file_then server server_then a b c h =
    states_same (in_force stated file) (in_force stated_then file_then) server server_then (ap₂ in_force a b) c h

turn_keeps : (before after : ServiceSeen) → IsTurn before after → IsAsTold before → IsAsTold after
turn_keeps before after turn is =
    let over = over_to_same (in_force before.stated before.file) before.engine turn.begins.engine turn.begins.seen.journal.bytes
    turn.begins.told.journal.bytes is turn.begins.over in
    let same : States (in_force before.stated before.file) turn.begins.engine.server.config =
    subst (λ (s : Server). States (in_force before.stated before.file) s.config) (sym over) is in
    let changed : States (in_force before.stated turn.first.file) turn.first.engine.server.config =
    change_keeps before.port turn.begins.now before.stated turn.begins.engine.server turn.first.engine.server before.file turn.first.file
    turn.begins.told.journal.bytes turn.first.devices.journal.bytes turn.begins.changed same in
    begun_so before.stated after.stated turn.first.file after.file turn.first.engine.server after.engine.server
    (turn.on.same_stated ∙ turn.begins.same_stated) turn.on.same_file turn.on.same_server changed

pub turns_keep : (n : ℕ) (before after : ServiceSeen) → AreTurns n before after → IsAsTold before → IsAsTold after
turns_keep zero before after turns is = subst IsAsTold (sym turns) is
turns_keep (suc n) before after (middle, turns, turn) is = turn_keeps middle after turn (turns_keep n before middle turns is)
