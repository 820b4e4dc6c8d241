use Rattle.sip_location.proofs.Refreshes.{few_alone, few_behind}
use Rattle.sip_location.proofs.refreshing.has_few_semicolons.Goals as goal

pub returns-in-Some : goal.returns-in-Some
returns-in-Some c = λ none. few_behind c.args.text.now _ c.in-Some.rest.now c.in-Some.ensures (c.has_no_semicolon.ensures none)

pub returns-in-None : goal.returns-in-None
returns-in-None c = λ _. few_alone c.args.text.now c.in-None.ensures
