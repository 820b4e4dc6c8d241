-- The numbers of the refusals of serving.
use Rattle.std.specs.Prelude.{ℕ, ◌≡◌, ⊤, List, Option, None}
use Rattle.sip_run.specs.engine.declared.error.StepError.{StepError}
use Rattle.sip_run.specs.engine.declared.error.StepError.TheVariants as steps
use Rattle.sip_loop.specs.declared.audit_log.AuditFault.{AuditFault}
use Rattle.sip_loop.specs.declared.audit_log.AuditFault.TheVariants as faults
use Rattle.sip_loop.specs.declared.serve_error.ServeError.{ServeError}
use Rattle.sip_loop.specs.declared.serve_error.ServeError.TheVariants.{NoMemory, Link, Step, Journal, Audit}

-- this project's profile
abbrev pub number_of_refusal : ServeError → ℕ
number_of_refusal NoMemory = 1
number_of_refusal Link = 5
number_of_refusal Step = 6
number_of_refusal Journal = 7
number_of_refusal Audit = 8

-- what a refused step is to serving
abbrev pub refusal_of_step : StepError → ServeError
refusal_of_step steps.NoMemory = NoMemory
refusal_of_step steps.MomentTooLarge = Step
refusal_of_step steps.Worn = Step

-- what lines that weren't printed are to it
abbrev pub refusal_of_audit : AuditFault → ServeError
refusal_of_audit faults.NoMemory = NoMemory
refusal_of_audit faults.Device = Audit

-- a refusal of handing out: memory ran out; or the journal failed, and tells nothing from then on
abbrev pub IsOfHanding : ServeError → Option (Option (List ℕ)) → Type 0
IsOfHanding NoMemory written = ⊤
IsOfHanding Journal written = written ≡ None
IsOfHanding Audit written = ⊥
IsOfHanding Link written = ⊥
IsOfHanding Step written = ⊥
