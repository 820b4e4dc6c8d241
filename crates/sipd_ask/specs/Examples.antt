-- Questions about the sample, and a user.
use Rattle.std.specs.Prelude.{ℕ, List, [], ◌∷◌, codes, Option, Some, Result, Ok, Err}
use Rattle.sip_policy.specs.declared.user.User.{User}
use Rattle.sip_config_types.specs.declared.config.Config.{Config}
use Rattle.sip_config_types.specs.Sample.{sample}
use Rattle.sipd_ask.specs.declared.error.QuestionError.{QuestionError}
use Rattle.sipd_ask.specs.declared.answer.Answer.{Answer}
use Rattle.sipd_ask.specs.Fronts.{front_before}
use Rattle.sipd_ask.specs.Answers.{answer_to}

-- what is answered to a question about the sample, at 10:05; its rules hold at every minute
abbrev pub answered : Option (List ℕ) → List ℕ → List ℕ → Result Answer QuestionError
answered user operation target = answer_to sample (record { user = user; minute = 605; operation = operation; target = target })

-- the first line of an answer
abbrev pub first_of : Result Answer QuestionError → Result (List ℕ) QuestionError
first_of (Ok answer) = Ok (front_before 10 answer.text)
first_of (Err e) = Err e

-- the first line of what is answered
abbrev pub asked : Option (List ℕ) → List ℕ → List ℕ → Result (List ℕ) QuestionError
asked user operation target = first_of (answered user operation target)

-- SHA-256 of `Mufasa:testrealm@host.com:Circle Of Life`, the words of RFC 2617 3.5
abbrev pub mufasas_sha256 : List ℕ
mufasas_sha256 = codes "3ba6cd94661c5ef34598040c868f13b8775df29109986be50ad35ae537dd3aa4"

-- a user who has Mufasa's digest by SHA-256
abbrev pub scar : User
scar = record { name = codes "scar"; a1 = codes "11111111111111111111111111111111"; a1_sha256 = Some mufasas_sha256; groups = [] }

-- a configuration with that user before the others
abbrev pub with_sha256 : Config → Config
with_sha256 config = record config { users = scar ∷ config.users }
