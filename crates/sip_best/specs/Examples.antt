-- Final answers of the worked examples.
use Rattle.std.specs.Prelude.{ℕ, List, [], ◌∷◌, codes, Some, None}
use Rattle.sip_message_fields.specs.declared.field.Field.{Field}
use Rattle.sip_message_fields.specs.declared.field_name.FieldName.TheVariants as Name
use Rattle.sip_message_form.specs.declared.message.Start.TheVariants.{Status}
use Rattle.sip_best.specs.declared.final_answer.Final.{Final}

-- an answer with a Via and further fields
abbrev pub answer : ℕ → List Field → Final
answer status fields = record {
  status = status;
  message = Some (record {
    start = Status status (codes "x");
    fields = record { name = Name.Via; value = codes "SIP/2.0/UDP pc.host.com;branch=z9hG4bKinv1" } ∷ fields;
    body = [];
  });
}

-- an answer without a message
abbrev pub made : ℕ → Final
made status = record { status = status; message = None }

abbrev pub proxy_challenge : List ℕ → Field
proxy_challenge value = record { name = Name.ProxyAuthenticate; value = value }

abbrev pub user_challenge : List ℕ → Field
user_challenge value = record { name = Name.WwwAuthenticate; value = value }

-- a 404, a 407 and a 401 with two challenges and a further field
abbrev pub three_answers : List Final
three_answers =
    answer 404 (user_challenge (codes "Digest realm=\"none\"") ∷ [])
    ∷ answer 407 (proxy_challenge (codes "Digest realm=\"a\"") ∷ record { name = Name.Subject; value = codes "last" } ∷ [])
    ∷ answer 401 (user_challenge (codes "Digest realm=\"b\"") ∷ record { name = Name.Subject; value = codes "other" }
    ∷ proxy_challenge (codes "Digest realm=\"c\"") ∷ [])
    ∷ []

-- the 407 with the challenges of the 401 behind its last field
abbrev pub challenge_up : Final
challenge_up =
    answer 407 (proxy_challenge (codes "Digest realm=\"a\"") ∷ record { name = Name.Subject; value = codes "last" }
    ∷ user_challenge (codes "Digest realm=\"b\"") ∷ proxy_challenge (codes "Digest realm=\"c\"") ∷ [])
