use Rattle.sip_replay_script.proofs.Unread.{first_byte}
use Rattle.sip_replay_script.proofs.lines.ScriptLines.peek.Goals as goal

pub returns-clause-byte : goal.returns-clause-byte
returns-clause-byte g c = first_byte c.fill.new.self.unread c.unread.result.now c.unread.ensures.unread (c.in_ok-fill.ensures.some c.if-not-branch.false)
