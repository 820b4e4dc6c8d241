-- What is owed and doesn't go. Moments are in milliseconds.
use Rattle.std.specs.Prelude.{false, [], ◌∷◌, codes, Some}
use Rattle.sip_message_form.specs.Text.{text_of}
use Rattle.sip_edit.specs.OwnVia.{without_top_via}
use Rattle.sip_event.specs.declared.event.Event.TheVariants.{Time}
use Rattle.sip_model.specs.state.declared.proxy_state.ProxyState.{ProxyState}
use Rattle.sip_model.specs.state.declared.open_request.OpenRequest.{OpenRequest}
use Rattle.sip_model.specs.state.declared.open_request.Side.TheVariants.{Closing}
use Rattle.sip_model.specs.context_model.Calls.{first_branch, one_target, marked_target, replied_with}
use Rattle.sip_model.specs.context_model.Sending.{answer_to, ack_packets}
use Rattle.sip_model.specs.steps_model.Examples.{sample, ringing_from}
use Rattle.sip_model.specs.steps_model.Step.{Given, Passing}
use Rattle.sip_model.specs.Run.{Link}
use Rattle.model_laws.specs.Links.{knowing_open, saying, sending}
use Rattle.model_laws.specs.WrongAnswers.{two_called, busy}
use Rattle.model_laws.specs.WrongRequests.{ending, bye_open}

-- ---- responses

-- the one target of an INVITE rings, and its 180 goes nowhere
abbrev pub ringing_untold : ProxyState → ProxyState → Link
ringing_untold known after = sending (knowing_open known 5 62000 (one_target ∷ [])) (saying 63000 5082 (ringing_from 1)) 63000 [] after

-- the first of two targets is busy, while the second rings, and its 486 gets no ACK
abbrev pub busy_unacknowledged : ProxyState → ProxyState → Link
busy_unacknowledged known after = sending (knowing_open known 6 63000 (two_called ∷ [])) (saying 63500 5082 busy) 63500 [] after

-- the one target is busy: its 486 gets its ACK, and the caller nothing
abbrev pub busy_untold : ProxyState → ProxyState → Link
busy_untold known after =
    sending (knowing_open known 5 62000 (one_target ∷ [])) (saying 63500 5082 busy) 63500
    (ack_packets sample false one_target first_branch (Some (codes "<sip:help@host.com>;tag=t1"))) after

-- ---- CANCELs

-- the one target was given up before it was heard, and rings now: its 180 goes to the caller, and it gets no CANCEL
abbrev pub cancel_withheld : ProxyState → ProxyState → Link
cancel_withheld known after =
    sending (knowing_open known 6 63000 (marked_target ∷ [])) (saying 63500 5082 (ringing_from 1)) 63500
    (answer_to false marked_target (text_of (without_top_via (ringing_from 1))) ∷ []) after

-- ---- copies

-- a BYE that got its 200
abbrev pub bye_answered : OpenRequest
bye_answered = replied_with 200 (Closing 102300) bye_open

-- it comes once more, and gets nothing
abbrev pub copy_unanswered : ProxyState → ProxyState → Link
copy_unanswered known after = sending (knowing_open known 7 70200 (bye_answered ∷ [])) (saying 70300 5070 ending) 70300 [] after

-- ---- time

-- The deadline of the one target of an INVITE passes at 94,000; the INVITE is open no longer, and its caller gets no 408.
abbrev pub silence_untold : ProxyState → Link
silence_untold known = sending (knowing_open known 5 62000 (one_target ∷ [])) (Passing 94000) 94000 [] (knowing_open known 5 94000 [])

-- At 62,500 that INVITE is to go again: time passes up to then, after which it is to go at another moment, and it doesn't go.
abbrev pub copy_withheld : ProxyState → Link
copy_withheld known =
    sending (knowing_open known 5 62000 (one_target ∷ [])) (Passing 62500) 62500 []
    (knowing_open known 5 62500 (record one_target { branches = record first_branch { again = record { due = 63500; wait = 1000 } } ∷ [] } ∷ []))

-- time passes up to 95,000, and that deadline is passed over
abbrev pub deadline_passed : ProxyState → ProxyState → Link
deadline_passed known after = sending (knowing_open known 5 62000 (one_target ∷ [])) (Given (Time 95000)) 95000 [] after
