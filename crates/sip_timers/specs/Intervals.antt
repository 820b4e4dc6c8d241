-- The intervals of RFC 3261 17 and 16.6, in milliseconds.
use Rattle.std.specs.Prelude.{ℕ}

-- the estimate of the round-trip time (17.1.1.1); 64 times as long a request waits for its final response
abbrev pub T1 : ℕ
T1 = 500

-- the longest interval between two transmissions of a request that isn't an INVITE, and of a final answer to one (17.1.2.2, 17.2.1)
abbrev pub T2 : ℕ
T2 = 4000

-- the longest time that a message stays in the network (17.1.2.2)
abbrev pub T4 : ℕ
T4 = 5000

-- Timer C: how long an INVITE that was heard of waits for more (16.6 step 11)
abbrev pub timer_C : ℕ
timer_C = 185000

-- how much longer than 64*T1 that is
abbrev pub timer_C_past_B : ℕ
timer_C_past_B = 153000
