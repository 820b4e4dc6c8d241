-- What was made, and is handed on unless there is another fault.
use Rattle.std.proofs.Common.{◌≡◌, sym, subst, ℕ, List, Option}
use Rattle.std.specs.Prelude.{Result, Ok, Err, IfOk}
use Rattle.sip_event.specs.declared.event.StepOut.{StepOut}
use Rattle.sip_model.specs.state.declared.server.Server.{Server}
use Rattle.sip_model.specs.TimerOrder.{Standing}
use Rattle.sipd_start.specs.Begins.{GoesOnFrom}
use Rattle.sipd_start.specs.Shorter.{IsLedByFile}
use Rattle.sipd_start.proofs.Beginnings.{led_by_file}

pub still_made : {A E : Type 0} (result made : Result A E) (P : A → Type 0) → IfOk result (λ a. made ≡ Ok a) → IfOk made P → IfOk result P
still_made {A} {E} (Ok a) made P is h = subst (λ (r : Result A E). IfOk r P) is h
still_made (Err e) made P is h = tt

pub led_still : {A E : Type 0} (result made : Result A E) (server_of : A → Server) (state_of : A → Standing) (lines_of : A → ℕ)
    (last_of : A → Option StepOut) (bytes digest : List ℕ) (whole : Option (List ℕ))
    → IfOk result (λ a. made ≡ Ok a) → IfOk made (λ a. GoesOnFrom bytes digest whole (server_of a) (state_of a) (lines_of a) (last_of a))
    → IfOk result (λ a. IsLedByFile bytes digest (server_of a) (state_of a) (lines_of a) (last_of a))
led_still (Ok a) made server_of state_of lines_of last_of bytes digest whole is h =
    led_by_file bytes digest whole (server_of a) (state_of a) (lines_of a) (last_of a)
    (still_made (Ok a) made (λ a. GoesOnFrom bytes digest whole (server_of a) (state_of a) (lines_of a) (last_of a)) is h)
led_still (Err e) made server_of state_of lines_of last_of bytes digest whole is h = tt
