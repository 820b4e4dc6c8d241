use Rattle.std.proofs.Common.{◌≡◌, ◌∙◌, subst, ℕ, List}
use Rattle.std.specs.Prelude.{OnOk}
use Rattle.sipd_status.specs.Place.{with_text}
use Rattle.sipd_status.proofs.status.Status.write.Goals as goal

pub returns-clause-written : goal.returns-clause-written
returns-clause-written g c =
    subst (λ (text : List ℕ). OnOk c.put.result (g.S.StatusPlace.texts c.put.new.self ≡ with_text text (g.S.StatusPlace.texts c.args.self.now.place)))
    (c.as_slice.ensures ∙ c.in-Ok.ensures) c.put.ensures.put
