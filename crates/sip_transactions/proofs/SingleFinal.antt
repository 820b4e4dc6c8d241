-- At most one final answer is sent.
use Rattle.std.proofs.Common.{◌≡◌, ◌≤◌, ◌+◌, List, [], ◌∷◌, refl, arith}
use Rattle.sip_transactions.specs.ServerOther.{Heard, provisional, final, fired, heard, row, final_sent, finals_sent}
use Rattle.sip_timers.specs.declared.letter.Letter.TheVariants.{J}
use Rattle.sip_transactions.specs.declared.server_other.ServerOther.TheVariants.{Trying, Proceeding, Completed, Terminated}
use Rattle.sip_transactions.specs.declared.server_other.ServerOtherInput.{ServerOtherInput}

after_terminated : (h : Heard) (inputs : List ServerOtherInput) → finals_sent Terminated inputs ≡ 0
    → final_sent h (row Terminated h).1 + finals_sent (row Terminated h).0 inputs ≡ 0
after_terminated final inputs none = omega (arith, none)
after_terminated h inputs none = omega (arith, none)

-- none once the transaction is over
pub terminated : (inputs : List ServerOtherInput) → finals_sent Terminated inputs ≡ 0
terminated [] = refl
terminated (input ∷ inputs) = after_terminated (heard input) inputs (terminated inputs)

after_completed : (h : Heard) (inputs : List ServerOtherInput) → finals_sent Completed inputs ≡ 0
    → final_sent h (row Completed h).1 + finals_sent (row Completed h).0 inputs ≡ 0
after_completed final inputs none = omega (arith, none)
after_completed (fired J) inputs none = omega (arith, terminated inputs)
after_completed h inputs none = omega (arith, none)

-- none behind the first
pub completed : (inputs : List ServerOtherInput) → finals_sent Completed inputs ≡ 0
completed [] = refl
completed (input ∷ inputs) = after_completed (heard input) inputs (completed inputs)

after_proceeding : (h : Heard) (inputs : List ServerOtherInput) → finals_sent Proceeding inputs ≤ 1
    → final_sent h (row Proceeding h).1 + finals_sent (row Proceeding h).0 inputs ≤ 1
after_proceeding final inputs one = omega (arith, completed inputs)
after_proceeding h inputs one = omega (arith, one)

pub proceeding : (inputs : List ServerOtherInput) → finals_sent Proceeding inputs ≤ 1
proceeding [] = omega arith
proceeding (input ∷ inputs) = after_proceeding (heard input) inputs (proceeding inputs)

after_trying : (h : Heard) (inputs : List ServerOtherInput) → finals_sent Trying inputs ≤ 1 → final_sent h (row Trying h).1 + finals_sent (row Trying h).0 inputs ≤ 1
after_trying final inputs one = omega (arith, completed inputs)
after_trying provisional inputs one = omega (arith, proceeding inputs)
after_trying h inputs one = omega (arith, one)

-- at most one of a whole transaction
pub trying : (inputs : List ServerOtherInput) → finals_sent Trying inputs ≤ 1
trying [] = omega arith
trying (input ∷ inputs) = after_trying (heard input) inputs (trying inputs)
