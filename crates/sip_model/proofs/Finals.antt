-- What open requests keep: where their final answers come from, what goes up of these, and which branches are to be cancelled.
use Rattle.std.proofs.Common.{◌≡◌, ℕ, ◌≤◌, ◌==◌, List, [], ◌∷◌, cond, Bool, true, false, refl, true≢false, ◌∙◌, ap, subst, sym, Contains, Option, Some, None, IfSome}
use Rattle.std.proofs.Common.{option_map, arith}
use Rattle.std.specs.List.{AllByRecursion, flat_map}
use Rattle.sip_message_fields.specs.declared.field_name.FieldName.{FieldName}
use Rattle.sip_message_fields.specs.declared.field_name.FieldName.TheVariants as Name
use Rattle.sip_message_fields.specs.declared.field.Field.{Field}
use Rattle.sip_message_form.specs.declared.message.Message.{Message}
use Rattle.sip_message_fields.specs.FieldName.{is_same_name}
use Rattle.sip_message_fields.specs.Values.{without_first}
use Rattle.sip_edit.specs.OwnVia.{without_top_via}
use Rattle.sip_best.specs.declared.final_answer.Final.{Final}
use Rattle.sip_best.specs.Best.{picked, chosen_of, is_unbeaten, is_challenge_status, is_challenge_field, challenge_fields, challenges_of, challenging, going_up, best_of}
use Rattle.sip_best.specs.Best.{taking_along}
use Rattle.model_steps.specs.state.declared.server.Server.{Server}
use Rattle.model_steps.specs.state.declared.branch.Branch.{Branch}
use Rattle.model_steps.specs.state.declared.open_request.OpenRequest.{OpenRequest}
use Rattle.model_steps.specs.state.State.{is_invite}
use Rattle.sip_model.specs.Run.{Link}
use Rattle.sip_model.specs.Access.{CameFor, IsTakenAlong}
use Rattle.sip_model.proofs.Apart.{TargetsDiffer}
use Rattle.sip_model.proofs.Lists.{all_weaker, all_there, all_passing, all_flat_map, head_there, tail_there}

-- ---- where they come from

-- a message is a response of a history without its top Via
pub record IsResponse (server : Server) (history : List Link) (number status : ℕ) (m : Message) : Type 0 where
  pub response : Message
  pub came : CameFor server history number status response
  pub is_same : m ≡ without_top_via response

-- a status and what may be its message: that of a response of a history; or none, and the status is no 403
abbrev pub IsHonestAs : Server → List Link → ℕ → ℕ → Option Message → Type 0
IsHonestAs server history number status None = (status ≡ 403) → ⊥
IsHonestAs server history number status (Some m) = IsResponse server history number status m

-- a final answer that is kept came in a response of a history; or it has no message, and is no 403
abbrev pub IsHonest : Server → List Link → ℕ → Final → Type 0
IsHonest server history number f = IsHonestAs server history number f.status f.message

-- a branch of a request is to be cancelled only if that is an INVITE
abbrev pub IsMarked : OpenRequest → Branch → Type 0
IsMarked r b = b.wants_cancel ≡ true → is_invite r ≡ true

-- the number of a branch is at most 16
abbrev pub IsOfSixteen : Branch → Type 0
IsOfSixteen b = b.number ≤ 16

-- an open request keeps honest answers, has branches that are to be cancelled only as an INVITE, no two branches to one target, and none of a number above 16
pub record IsHonestRequest (server : Server) (history : List Link) (r : OpenRequest) : Type 0 where
  pub finals : AllByRecursion (IsHonest server history r.number) r.finals
  pub marks : AllByRecursion (IsMarked r) r.branches
  pub differ : TargetsDiffer r.branches
  pub numbers : AllByRecursion IsOfSixteen r.branches

-- all open requests are honest
abbrev pub AreHonest : Server → List Link → List OpenRequest → Type 0
AreHonest server history requests = AllByRecursion (IsHonestRequest server history) requests

-- ---- a longer history

-- what came in a history came in a longer one
pub came_before : (server : Server) (link : Link) (history : List Link) (number status : ℕ) (m : Message) → CameFor server history number status m
    → CameFor server (link ∷ history) number status m
came_before server link history number status m c =
    record {
      link = c.link;
      a = c.a;
      bytes = c.bytes;
      reason = c.reason;
      request = c.request;
      branch = c.branch;
      is_there = tail_there link c.link history c.is_there;
      is_said = c.is_said;
      is_response = c.is_response;
      is_for = c.is_for;
      is_number = c.is_number;
      is_target = c.is_target;
    }

-- an honest answer stays so in a longer history
honest_before_as : (server : Server) (link : Link) (history : List Link) (number status : ℕ) (o : Option Message) → IsHonestAs server history number status o
    → IsHonestAs server (link ∷ history) number status o
honest_before_as server link history number status None h = h
honest_before_as server link history number status (Some m) h =
    record { response = h.response; came = came_before server link history number status h.response h.came; is_same = h.is_same }

-- the final answers of a request stay honest in a longer history
finals_before : (server : Server) (link : Link) (history : List Link) (number : ℕ) (finals : List Final) → AllByRecursion (IsHonest server history number) finals
    → AllByRecursion (IsHonest server (link ∷ history) number) finals
finals_before server link history number finals h =
    all_weaker (IsHonest server history number) (IsHonest server (link ∷ history) number) (λ f. honest_before_as server link history number f.status f.message) finals h

-- so do those of all open requests
pub honest_before : (server : Server) (link : Link) (history : List Link) (requests : List OpenRequest) → AreHonest server history requests
    → AreHonest server (link ∷ history) requests
honest_before server link history requests h =
    all_weaker (IsHonestRequest server history) (IsHonestRequest server (link ∷ history))
    (λ r own. record { finals = finals_before server link history r.number r.finals own.finals; marks = own.marks; differ = own.differ; numbers = own.numbers }) requests
    h

-- nothing came in an empty history
pub came_never : (server : Server) (number status : ℕ) (m : Message) → CameFor server [] number status m → ⊥
came_never server number status m c = let below = c.is_there.1 in omega arith

-- what is honest in an empty history is so in every one
pub honest_anyway : (server : Server) (history : List Link) (number : ℕ) (finals : List Final) → AllByRecursion (IsHonest server [] number) finals
    → AllByRecursion (IsHonest server history number) finals
honest_anyway server history number finals h =
    all_weaker (IsHonest server [] number) (IsHonest server history number) (λ f. by_message f.status f.message) finals h where
      by_message : (status : ℕ) (o : Option Message) → IsHonestAs server [] number status o → IsHonestAs server history number status o
      by_message status None own = own
      by_message status (Some m) own = absurd (came_never server number status own.response own.came)

-- ---- challenges

-- what is left of some fields are fields of theirs
left_there : (name : FieldName) (fields : List Field) → AllByRecursion (Contains fields) (without_first name fields)
left_there name [] = tt
left_there name (field ∷ fields) = by_test (is_same_name field.name name) (left_there name fields) where
  later : (others : List Field) → AllByRecursion (Contains fields) others → AllByRecursion (Contains (field ∷ fields)) others
  later others h = all_weaker (Contains fields) (Contains (field ∷ fields)) (λ other there. tail_there field other fields there) others h

  by_test : (t : Bool) → AllByRecursion (Contains fields) (without_first name fields)
      → AllByRecursion (Contains (field ∷ fields)) (cond t fields (field ∷ without_first name fields))
  by_test true rest = later fields (all_there fields)
  by_test false rest = (head_there field fields, later (without_first name fields) rest)

-- the challenges of a 401 or 407 of a history are its
response_challenges : (server : Server) (history : List Link) (number status : ℕ) (m : Message) → is_challenge_status status ≡ true
    → IsResponse server history number status m
    → AllByRecursion (IsTakenAlong server history number) (challenge_fields (Some m))
response_challenges server history number status m asks h =
    subst (λ (v : Message). AllByRecursion (IsTakenAlong server history number) (challenge_fields (Some v))) (sym h.is_same)
    (all_passing (Contains h.response.fields) (IsTakenAlong server history number) is_challenge_field
    (λ field passes there. record { status = status; response = h.response; came = h.came; is_challenging = asks; is_challenge = passes; is_there = there })
    (without_first Name.Via h.response.fields) (left_there Name.Via h.response.fields))

-- the challenges of an honest answer are those of a response of a history
honest_challenges : (server : Server) (history : List Link) (number : ℕ) (f : Final) → IsHonest server history number f
    → AllByRecursion (IsTakenAlong server history number) (challenges_of f)
honest_challenges server history number f h = by_test (is_challenge_status f.status) refl where
  by_message : is_challenge_status f.status ≡ true → (o : Option Message) → IsHonestAs server history number f.status o
      → AllByRecursion (IsTakenAlong server history number) (challenge_fields o)
  by_message asks None own = tt
  by_message asks (Some m) own = response_challenges server history number f.status m asks own

  by_test : (t : Bool) → is_challenge_status f.status ≡ t → AllByRecursion (IsTakenAlong server history number) (cond t (challenge_fields f.message) [])
  by_test true asks = by_message asks f.message h
  by_test false asks = tt

-- so are those of several
honest_all_challenges : (server : Server) (history : List Link) (number : ℕ) (fs : List Final) → AllByRecursion (IsHonest server history number) fs
    → AllByRecursion (IsTakenAlong server history number) (flat_map challenges_of fs)
honest_all_challenges server history number fs h =
    all_flat_map (IsTakenAlong server history number) challenges_of fs
    (all_weaker (IsHonest server history number) (λ f. AllByRecursion (IsTakenAlong server history number) (challenges_of f)) (honest_challenges server history number) fs
    h)

-- ---- what goes up

-- a message is a response of a history without its top Via, and one of 401 or 407 with challenges of answers to the same request
pub record IsTaken (server : Server) (history : List Link) (number status : ℕ) (m : Message) : Type 0 where
  pub response : Message
  pub came : CameFor server history number status response
  pub challenges : List Field
  pub along : AllByRecursion (IsTakenAlong server history number) challenges
  pub only_challenging : is_challenge_status status ≡ false → challenges ≡ []
  pub is_same : m ≡ taking_along (without_top_via response) challenges

-- a status and what may be its message: that of a response of a history, with challenges; or none, and the status is no 403
abbrev pub IsTakenAs : Server → List Link → ℕ → ℕ → Option Message → Type 0
IsTakenAs server history number status None = (status ≡ 403) → ⊥
IsTakenAs server history number status (Some m) = IsTaken server history number status m

-- an answer that goes up came in a response of a history; or it is made here, and is no 403
abbrev pub GoesUp : Server → List Link → ℕ → Final → Type 0
GoesUp server history number f = IsTakenAs server history number f.status f.message

-- the answer that is picked is one of them, and so are the others
picked_all : (P : Final → Type 0) (test : Final → Bool) (finals : List Final) → AllByRecursion P finals → IfSome (picked test finals) (λ x. P x.0 × AllByRecursion P x.1)
picked_all P test [] h = tt
picked_all P test (f ∷ fs) h = by_test (test f) (picked test fs) (picked_all P test fs h.1) where
  by_test : (t : Bool) (later : Option (Final × List Final)) → IfSome later (λ x. P x.0 × AllByRecursion P x.1)
      → IfSome {T = Final × List Final} (cond t (Some (f, fs)) (option_map (λ x. (x.0, f ∷ x.1)) later)) (λ x. P x.0 × AllByRecursion P x.1)
  by_test true later rest = h
  by_test false None rest = tt
  by_test false (Some x) rest = (rest.0, (h.0, rest.1))

-- an honest 401 or 407 takes challenges along
taken_with : (server : Server) (history : List Link) (number : ℕ) (status : ℕ) (o : Option Message) (challenges : List Field)
    → AllByRecursion (IsTakenAlong server history number) challenges
    → is_challenge_status status ≡ true → IsHonestAs server history number status o →
    IsTakenAs server history number status (option_map (λ m. taking_along m challenges) o)
taken_with server history number status None challenges along asks h = h
taken_with server history number status (Some m) challenges along asks h =
    record {
      response = h.response;
      came = h.came;
      challenges = challenges;
      along = along;
      only_challenging = λ other. absurd (true≢false (sym asks ∙ other));
      is_same = ap (λ v. taking_along v challenges) h.is_same;
    }

-- an honest answer goes up as it is
taken_alone : (server : Server) (history : List Link) (number : ℕ) (status : ℕ) (o : Option Message) → IsHonestAs server history number status o
    → IsTakenAs server history number status o
taken_alone server history number status None h = h
taken_alone server history number status (Some m) h = record {
  response = h.response;
  came = h.came;
  challenges = [];
  along = tt;
  only_challenging = λ other. refl;
  is_same = h.is_same;
}

-- the chosen answer goes up, as it is, with challenges, or as a 500 made here
going_up_taken : (server : Server) (history : List Link) (number : ℕ) (others : List Final) (f : Final) → IsHonest server history number f
    → AllByRecursion (IsHonest server history number) others
    → GoesUp server history number (going_up others f)
going_up_taken server history number others f h rest = by_tests (f.status == 503) (is_challenge_status f.status) refl where
  by_tests : (t u : Bool) → is_challenge_status f.status ≡ u → GoesUp server history number
      (cond t (record { status = 500; message = None }) (cond u (challenging others f) f))
  by_tests true u asks = λ e. omega arith
  by_tests false true asks = taken_with server history number f.status f.message (flat_map challenges_of others) (honest_all_challenges server history number others rest)
      asks h
  by_tests false false asks = taken_alone server history number f.status f.message h

-- the best of honest answers goes up
pub best_taken : (server : Server) (history : List Link) (number : ℕ) (finals : List Final) → AllByRecursion (IsHonest server history number) finals
    → IfSome (best_of finals) (GoesUp server history number)
best_taken server history number finals h = by_choice (chosen_of finals) (picked_all (IsHonest server history number) (is_unbeaten finals) finals h) where
  by_choice : (o : Option (Final × List Final)) → IfSome o (λ x. IsHonest server history number x.0 × AllByRecursion (IsHonest server history number) x.1)
      → IfSome (option_map (λ x. going_up x.1 x.0) o) (GoesUp server history number)
  by_choice None h = tt
  by_choice (Some x) h = going_up_taken server history number x.1 x.0 h.0 h.1
