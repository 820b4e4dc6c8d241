use Rattle.std.proofs.Common.{rules, ◌≡◌, ◌∙◌, FitsSigned, w16, to_z, of_z, to_z-of_z}
use Rattle.sip_segment_config.specs.Reads.{GivesStated}
use Rattle.sipd_tools.proofs.Clocked.{said_clock}
use Rattle.sipd_tools.proofs.clocks.read_clock.Goals as goal

pub returns-in-Ok-Some-clause-said : goal.returns-in-Ok-Some-clause-said
returns-in-Ok-Some-clause-said g c =
    let given : GivesStated c.args.lines.now c.read_configuration.new.lines (g.I.TellingReader.remaining c.args.events.now)
    (g.I.TellingReader.remaining c.read_configuration.new.reader) c.in-Ok-Some.held.text c.in-Ok-Some.held.config = search rules in
    let fits : FitsSigned w16 c.offset_in.result = search rules in
    let back : to_z w16 (of_z w16 c.offset_in.result) ≡ c.offset_in.result = to_z-of_z fits in
    let is : c.offset_in.result ≡ c.in-Ok-Some.held.config.offset = search rules in
    said_clock c.args.lines.now c.read_configuration.new.lines (g.I.TellingReader.remaining c.args.events.now)
    (g.I.TellingReader.remaining c.read_configuration.new.reader) c.in-Ok-Some.held.text c.in-Ok-Some.held.config _ given (back ∙ is)
