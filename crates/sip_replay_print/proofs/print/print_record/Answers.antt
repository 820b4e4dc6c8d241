use Rattle.std.proofs.Common.{◌≡◌, ◌∷◌, [], ◌++◌, ◌∙◌, ap, subst, OnOk, OnErr}
use Rattle.std.specs.Prelude.{codes}
use Rattle.std.specs.Io.KnownBytes.{Appends}
use Rattle.sip_replay_script.specs.Devices.{WritesFront}
use Rattle.sip_replay_print.specs.Print.{audit_text}
use Rattle.sip_replay_print.proofs.print.print_record.Goals as goal

pub returns-clause-ok : goal.returns-clause-ok
returns-clause-ok g c =
    let same : (codes "audit " ++ c.as_slice.result.now ++ 10 ∷ []) ≡ audit_text c.args.record.now =
    ap (λ l. codes "audit " ++ l ++ 10 ∷ []) (c.as_slice.ensures ∙ c.in-Ok.ensures.line) in
    subst (λ l. OnOk c.put_three.result (Appends (g.W.TellingWriter.contents c.args.writer.now) (g.W.TellingWriter.contents c.put_three.new.writer) l)) same
    c.put_three.ensures.ok

pub returns-clause-front : goal.returns-clause-front
returns-clause-front g c =
    let same : (codes "audit " ++ c.as_slice.result.now ++ 10 ∷ []) ≡ audit_text c.args.record.now =
    ap (λ l. codes "audit " ++ l ++ 10 ∷ []) (c.as_slice.ensures ∙ c.in-Ok.ensures.line) in
    subst (λ l. OnErr c.put_three.result (WritesFront (g.W.TellingWriter.contents c.args.writer.now) (g.W.TellingWriter.contents c.put_three.new.writer) l)) same
    c.put_three.ensures.front
