-- What is told of a refusal is what is read.
use Rattle.std.proofs.Common.{Result, Err, sym, subst}
use Rattle.sip_config_types.specs.declared.config.Config.{Config}
use Rattle.sip_config_values.specs.declared.refusal.Refusal.{Refusal}
use Rattle.sip_config_values.specs.declared.refusal.Refusal.TheVariants.{NoMemory, At, Twice}
use Rattle.sip_config_values.specs.Refusals.{ReadsAt}
use Rattle.sipd_config_faults.specs.declared.telling.Reading.{Reading}
use Rattle.sipd_config_faults.specs.declared.telling.Reading.TheVariants.{Stated, Refused}
use Rattle.sipd_config_faults.specs.Mistakes.{IsToldAs, IsReading}

pub told_so : (wanted : Result Config Refusal) (refusal : Refusal) (reading : Reading) → ReadsAt (λ (config : Config). config) (Err refusal) wanted
    → IsToldAs refusal reading → IsReading wanted reading
told_so wanted NoMemory (Stated config) read told = absurd told
told_so wanted NoMemory (Refused error line) read told = let placed = told.at in absurd cc
told_so wanted (At error place) reading read told = subst (λ (w : Result Config Refusal). IsReading w reading) (sym read) told
told_so wanted (Twice place) reading read told = subst (λ (w : Result Config Refusal). IsReading w reading) (sym read) told
