-- Records of the audit log that nothing is to make.
use Rattle.std.specs.Prelude.{[], ◌++◌}
use Rattle.sip_event.specs.declared.event.Event.TheVariants.{Time}
use Rattle.sip_model.specs.state.declared.proxy_state.ProxyState.{ProxyState}
use Rattle.sip_model.specs.steps_model.Examples.{to_vault, vault_effect}
use Rattle.sip_model.specs.steps_model.Step.{Given}
use Rattle.sip_model.specs.Run.{Link}
use Rattle.model_laws.specs.Links.{knowing_open, saying, step_of}

-- An INVITE to vault@host.com is denied, as it is to, and its record is written twice.
abbrev pub recorded_twice : ProxyState → ProxyState → Link
recorded_twice known after = step_of (knowing_open known 1 0 []) (saying 1000 5070 to_vault) 1000 vault_effect.originals
    (vault_effect.records ++ vault_effect.records) after

-- A second later, as time passes, it is written once more.
abbrev pub recorded_later : ProxyState → ProxyState → Link
recorded_later known after = step_of (knowing_open known 2 1000 vault_effect.state.requests) (Given (Time 2000)) 2000 [] vault_effect.records after
