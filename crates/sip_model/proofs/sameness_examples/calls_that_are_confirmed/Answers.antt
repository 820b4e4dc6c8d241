use Rattle.std.proofs.Common.{◌≡◌, ℕ, true, refl, arith}
use Rattle.std.specs.Prelude.{◌==◌}
use Rattle.sip_dialog.specs.declared.dialog.Dialog.{Dialog}
use Rattle.sip_model.proofs.sameness_examples.calls_that_are_confirmed.Goals as goal

pub returns-clause-confirmed : goal.returns-clause-confirmed
returns-clause-confirmed c = λ p. refl

pub returns-clause-early : goal.returns-clause-early
returns-clause-early c = λ h. let one : ◌≡◌ {A = ℕ} 1 0 = h (λ (d : Dialog). d.number == 4) in absurd (omega (arith, one))

pub returns-clause-known : goal.returns-clause-known
returns-clause-known c = λ h. let one : ◌≡◌ {A = ℕ} 1 0 = h (λ (d : Dialog). true) in absurd (omega (arith, one))
