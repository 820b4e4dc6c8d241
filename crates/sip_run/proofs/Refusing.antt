-- Why a step is refused, from what the server's calls promise.
use Rattle.std.proofs.Common.{◌≡◌, Option, None, Some, IfSome, Result, Ok, Err, OnOk, IfErr, refl, sym, subst}
use Rattle.sip_engine.specs.declared.error.StepError.{StepError}
use Rattle.sip_engine.specs.declared.error.StepError.TheVariants.{NoMemory}
use Rattle.sip_run.specs.Refusals.{RefusesStep}

-- a refusal is what the server says, or want of memory
pub refused_as : {X : Type 0} (refusal : Option StepError) (r : Result X StepError) → IfSome refusal (λ e. r ≡ Err e) → (refusal ≡ None → IfErr r (λ e. e ≡ NoMemory))
    → IfErr r (RefusesStep refusal)
refused_as None r h none = none refl
refused_as (Some x) r h none = subst (λ v. IfErr v (λ e. e ≡ x)) (sym h) refl

none_on_ok : {X : Type 0} (refusal : Option StepError) (r : Result X StepError) → refusal ≡ None → OnOk r (refusal ≡ None)
none_on_ok refusal (Ok x) h = h
none_on_ok refusal (Err e) h = tt

-- what is taken isn't refused
pub not_refused : {X : Type 0} (refusal : Option StepError) (r : Result X StepError) → IfSome refusal (λ e. r ≡ Err e) → OnOk r (refusal ≡ None)
not_refused None r h = none_on_ok None r refl
not_refused (Some x) r h = subst (λ v. OnOk v (Some x ≡ None)) (sym h) tt
