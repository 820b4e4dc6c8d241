use Rattle.std.proofs.Common.{Option, sym, ◌∙◌, ap}
use Rattle.std.specs.Option.{option_and_then}
use Rattle.std.proofs.lemmas.Result.{IfOk-weaker}
use Rattle.sip_header_credentials.specs.declared.credentials.Credentials.{Credentials}
use Rattle.sipd_sources.specs.Claims.{claimed}
use Rattle.sipd_sources.proofs.claims.given_by.Goals as goal

pub returns-in-Some : goal.returns-in-Some
returns-in-Some c =
    IfOk-weaker c.claimed.result _ _ (λ given h. h
    ∙ ap (λ (o : Option Credentials). option_and_then (claimed c.args.realm.now) o) (sym c.in-Some.is ∙ c.in_ok-credentials.ensures)) c.claimed.ensures
