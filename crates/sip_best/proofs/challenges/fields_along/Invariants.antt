use Rattle.std.proofs.Common.{◌≡◌, ◌-◌, length, drop}
use Rattle.sip_message_form.specs.Text.{text_of}
use Rattle.sip_best.specs.Best.{taking_along}
use Rattle.sip_best.proofs.challenges.fields_along.Given as goal

-- what the message makes of the fields that are left, and how many bytes more fit
abbrev pub invariant-loop-challenge : goal.invariant-loop-challenge
invariant-loop-challenge l =
    (taking_along (record l.message { fields = l.fields }) (drop l.challenge-index l.challenges) ≡ taking_along l.message l.challenges)
    × (l.room ≡ 65507 - length (text_of (record l.message { fields = l.fields })))
