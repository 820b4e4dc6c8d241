-- What is answered of a line.
use Rattle.std.proofs.Common.{inl, inr, List, ℕ, Option, refl}
use Rattle.std.specs.Prelude.{Result, Ok, Err, IfErr, IfOk}
use Rattle.sip_config_types.specs.declared.config.Config.{Config}
use Rattle.sip_matrix.specs.declared.expectation.Expectation.{Expectation}
use Rattle.sipd_expect.specs.declared.error.LineError.{LineError}
use Rattle.sipd_expect.specs.declared.error.LineError.TheVariants.{NoMemory, BadWho, UnknownGroup, BadOperation, SmallLetter, BadTarget, BadTimes, BadPlace, UnknownHop}
use Rattle.sipd_expect.specs.declared.error.LineError.TheVariants.{Unsaid}
use Rattle.sipd_expect.specs.Reads.{Reads}
use Rattle.sipd_expect.specs.Line.{expectation_of, AnswersFor, IsRefusedFor, Answers, IsRefused}

-- a line that is no expectation
pub read_refused : (config : Config) (line : List ℕ) (why : LineError) → Reads (Err why) (expectation_of config.users config.hops line) → IsRefused config line why
read_refused config line NoMemory h = inl refl
read_refused config line BadWho h = inr (inl h)
read_refused config line UnknownGroup h = inr (inl h)
read_refused config line BadOperation h = inr (inl h)
read_refused config line SmallLetter h = inr (inl h)
read_refused config line BadTarget h = inr (inl h)
read_refused config line BadTimes h = inr (inl h)
read_refused config line BadPlace h = inr (inl h)
read_refused config line UnknownHop h = inr (inl h)
read_refused config line Unsaid h = inr (inl h)

-- what is answered of the expectation that a line is
pub line_answered : (result : Result (Option (List ℕ)) LineError) (config : Config) (line : List ℕ) (e : Expectation)
    → Reads (Ok e) (expectation_of config.users config.hops line)
    → IfOk result (AnswersFor config e) → IfOk result (Answers config line)
line_answered (Ok answer) config line e read h = inr (record { expectation = e; read = read; answered = h })
line_answered (Err why) config line e read h = tt

pub line_refused : (result : Result (Option (List ℕ)) LineError) (config : Config) (line : List ℕ) (e : Expectation)
    → Reads (Ok e) (expectation_of config.users config.hops line)
    → IfErr result (IsRefusedFor config e) → IfErr result (IsRefused config line)
line_refused (Ok answer) config line e read h = tt
line_refused (Err why) config line e read h = inr (inr (record { expectation = e; read = read; refused = h }))
