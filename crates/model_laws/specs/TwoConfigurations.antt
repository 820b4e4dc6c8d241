-- Worked examples of a server whose configuration changes between two datagrams. Moments are in milliseconds.
use Rattle.std.specs.Prelude.{ℕ, false, true, List, [], ◌∷◌, ◌++◌, codes, drop, pos}
use Rattle.std.specs.List.{flat_map}
use Rattle.sip_message_fields.specs.declared.field_name.FieldName.TheVariants as Name
use Rattle.sip_message_form.specs.declared.message.Message.{Message}
use Rattle.sip_hops.specs.Examples.{local}
use Rattle.sip_policy.specs.declared.user.User.{User}
use Rattle.sip_policy.specs.declared.who.Who.{Who}
use Rattle.sip_policy.specs.declared.operation.OperationPattern.TheVariants as Pattern
use Rattle.sip_policy.specs.declared.target_pattern.TargetPattern.TheVariants as Target
use Rattle.sip_policy.specs.declared.rule_verdict.RuleVerdict.{RuleVerdict}
use Rattle.sip_policy.specs.Examples.{user_of, rule_of, rule_1, rule_2, rules_with, by_day, mufasas_a1, alices_a1}
use Rattle.sip_config_types.specs.declared.config.Config.{Config}
use Rattle.sip_config_types.specs.Sample as Settings
use Rattle.sip_edit_response.specs.Examples as Replies
use Rattle.sip_edit.specs.OnwardExamples as Onward
use Rattle.sip_event.specs.declared.packet.Packet.{Packet}
use Rattle.sip_model.specs.state.declared.branch.Branch.{Branch}
use Rattle.sip_model.specs.state.declared.open_request.OpenRequest.{OpenRequest}
use Rattle.sip_model.specs.state.declared.proxy_state.ProxyState.{ProxyState}
use Rattle.sip_model.specs.state.State.{first_state}
use Rattle.sip_model.specs.state.Arrival.{Arrival}
use Rattle.sip_model.specs.context_model.Sending.{branch_packets}
use Rattle.sip_model.specs.verdict_model.Verdict.{message_verdict}
use Rattle.sip_model.specs.steps_model.Effect.{Effect, counted, effect_of}
use Rattle.sip_model.specs.steps_model.Examples.{sample, arriving_at, knowing, calling, answer_with, ringing_from, cancel_request}
use Rattle.sip_model.specs.steps_model.Examples.{authorized, in_call, own_route, help_text, bye, bye_accepted}
use Rattle.sip_model.specs.steps_model.ConfigurationExamples.{users, mufasas_by_md5}
use Rattle.sip_model.specs.Run.{under}

-- ---- what comes

-- what a message does while a configuration is in force: it comes at a moment, from a port of 127.0.0.1, with a word for a nonce
abbrev pub heard_under : Config → ProxyState → ℕ → ℕ → ℕ → Message → Effect
heard_under config state now port word m =
    let a : Arrival = record (arriving_at state.next now port) { word = word } in
    effect_of (under sample config) a m (message_verdict (under sample config) state a m false) (counted a state)

-- the same request once more, as a new one: with another branch in its Via
abbrev pub anew : List ℕ → Message → Message
anew via m = record m { fields = record { name = Name.Via; value = via } ∷ drop 1 m.fields }

-- a request of Mufasa's phone, and one from pc.host.com
abbrev pub from_mufasa : List ℕ → Message → Message
from_mufasa branch m = anew (codes "SIP/2.0/UDP 127.0.0.1:5062;branch=z9hG4bK" ++ branch) m

abbrev pub from_pc : List ℕ → Message → Message
from_pc branch m = anew (codes "SIP/2.0/UDP pc.host.com:5070;branch=z9hG4bK" ++ branch ++ codes ";rport") m

-- ---- users who come and go

-- the sample configuration with other users
abbrev pub with_users : List User → Config
with_users others = record Settings.sample { users = others }

abbrev pub mufasa_by : List ℕ → User
mufasa_by a1 = user_of (codes "Mufasa") a1 (codes "staff" ∷ [])

abbrev pub alice : User
alice = user_of (codes "alice") alices_a1 []

abbrev pub help_by : List ℕ → User
help_by a1 = user_of (codes "help") a1 []

-- Mufasa isn't a user yet
abbrev pub before_mufasa : Config
before_mufasa = with_users (alice ∷ help_by (codes "22222222222222222222222222222222") ∷ [])

-- his REGISTER comes then; once he is one; and once more with the answer to that challenge
abbrev pub unknown : Effect
unknown = heard_under before_mufasa (first_state 1) 1000 5062 9 (from_mufasa (codes "reg0") Replies.register)

abbrev pub challenged : Effect
challenged = heard_under Settings.sample unknown.state 2000 5062 1 Replies.register

abbrev pub registered : Effect
registered = heard_under Settings.sample challenged.state 3000 5062 9 (authorized mufasas_by_md5)

-- help isn't a user any more; and is one again, with another password
abbrev pub after_help : Config
after_help = with_users (mufasa_by mufasas_a1 ∷ alice ∷ [])

abbrev pub help_again : Config
help_again = with_users (mufasa_by mufasas_a1 ∷ alice ∷ help_by (codes "44444444444444444444444444444444") ∷ [])

-- a MESSAGE to help, whose binding at port 5082 lives, while a configuration is in force; and a second one, when help is a user again
abbrev pub message_under : Config → Effect
message_under config = heard_under config (knowing (codes "5082" ∷ [])) 5000 5070 9 Onward.text_message

abbrev pub message_again : Effect
message_again = heard_under help_again (message_under after_help).state 6000 5070 9 (from_pc (codes "msg2") Onward.text_message)

-- ---- rules that are turned

-- calls to help are denied, by a rule of the number of another one of the sample's
abbrev pub help_denied : Config
help_denied =
    record Settings.sample {
      rules =
          rule_1
          ∷ rule_2
          ∷ rule_of 3 Who.Anyone Pattern.SendAny (Target.Exact (codes "help") (codes "host.com")) RuleVerdict.Deny
          ∷ [];
    }

-- an INVITE to help is sent on by the sample's rules; a second one comes when they are turned
abbrev pub second_call : Effect
second_call = heard_under help_denied (calling (codes "5082" ∷ [])).state 62100 5070 9 (from_pc (codes "inv2") Onward.invite)

-- it is denied, and told which rule did so (RFC 3261 20.43)
abbrev pub second_denied : List ℕ
second_denied =
    codes "SIP/2.0 403 Forbidden\r\n"
    ++ codes "Via: SIP/2.0/UDP pc.host.com:5070;branch=z9hG4bKinv2;rport=5070;received=127.0.0.1\r\n"
    ++ codes "From: <sip:x@away.net>;tag=f1\r\n"
    ++ codes "To: <sip:help@host.com>;tag=0000000000000000.5\r\n"
    ++ codes "Call-ID: k1\r\n"
    ++ codes "CSeq: 7 INVITE\r\n"
    ++ codes "Warning: 399 sip.host.com \"policy rule 3\"\r\n"
    ++ codes "Content-Length: 0\r\n\r\n"

-- ---- nothing is allowed any more

-- nobody is a user, no rule allows anything, and neither a hop nor a host has an address
abbrev pub closed : Config
closed = record Settings.sample { users = []; rules = []; hops = []; addresses = [] }

-- what each branch of the open requests sends again, while a configuration is in force
abbrev pub again_under : Config → ProxyState → List Packet
again_under config state = flat_map (λ (r : OpenRequest). flat_map (λ (b : Branch). branch_packets (under sample config) true r b) r.branches)
    state.requests

-- help rings; and the caller gives up
abbrev pub rings : Effect
rings = heard_under closed (calling (codes "5082" ∷ [])).state 63000 5082 9 (ringing_from 1)

abbrev pub given_up : Effect
given_up = heard_under closed rings.state 63500 5070 9 cancel_request

-- in a call that began before, its caller calls once more, and then hangs up
abbrev pub calls_more : Effect
calls_more = heard_under closed in_call 63900 5070 9 (from_pc (codes "inv3") Onward.invite)

abbrev pub hangs_up : Effect
hangs_up = heard_under closed in_call 64000 5070 9 (bye help_text (codes "t1") (own_route ∷ []))

abbrev pub hung_up : Effect
hung_up = heard_under closed hangs_up.state 64100 5082 9 bye_accepted

-- ---- a host that moves

-- phone.host.com is at a port of 127.0.0.1
abbrev pub phone_at : ℕ → Config
phone_at port = record Settings.sample { addresses = record { host = codes "phone.host.com"; port = 5060; address = local port } ∷ [] }

-- help's phone accepts a call, and says that it is phone.host.com, which is at port 5083
abbrev pub accepted_by_name : Effect
accepted_by_name =
    heard_under (phone_at 5083) (calling (codes "5082" ∷ [])).state 63000 5082 9
    (answer_with 1 200 (codes "OK") (record { name = Name.Contact; value = codes "<sip:help@phone.host.com>" } ∷ []))

-- the caller hangs up, while it is at a port
abbrev pub hangs_up_while : ℕ → Effect
hangs_up_while port = heard_under (phone_at port) accepted_by_name.state 64000 5070 9 (bye (codes "sip:help@phone.host.com") (codes "t1") [])

-- ---- a key that changes

-- Mufasa's password is `Hakuna Matata` (RFC 2617 3.2.2.2)
abbrev pub changed_key : Config
changed_key = with_users (mufasa_by (codes "8aefb310669d400be72ec1f1b60f56bc") ∷ alice ∷ help_by (codes "22222222222222222222222222222222") ∷ [])

-- the response to the first nonce by it, with the first count, which another program made
abbrev pub mufasas_by_new_key : List ℕ
mufasas_by_new_key =
    codes "Digest username=\"Mufasa\", realm=\"testrealm@host.com\", nonce=\"00000000000000000000000000000001\", uri=\"sip:host.com\", "
    ++ codes "response=\"093011773292aeb19eeab0d0705ab243\", qop=auth, nc=00000001, cnonce=\"0a4f113b\""

-- he was challenged before; he answers by the key of before, and then by the new one
abbrev pub first_challenge : Effect
first_challenge = heard_under Settings.sample (first_state 1) 1000 5062 1 Replies.register

abbrev pub by_old_key : Effect
by_old_key = heard_under changed_key first_challenge.state 2000 5062 2 (authorized mufasas_by_md5)

abbrev pub by_new_key : Effect
by_new_key = heard_under changed_key by_old_key.state 3000 5062 9 (from_mufasa (codes "reg3") (authorized mufasas_by_new_key))

-- ---- another offset

-- rule 4 lets calls to help through by day alone, some minutes ahead of UTC
abbrev pub ahead_by : ℕ → Config
ahead_by minutes = record Settings.sample { rules = rules_with by_day; offset = pos minutes }

-- an INVITE to help comes two milliseconds before 8:00, an hour ahead; and another one a millisecond later, two hours ahead
abbrev pub before_day : Effect
before_day = heard_under (ahead_by 60) (first_state 1) 25199998 5070 9 (from_pc (codes "inv4") Onward.invite)

abbrev pub by_day_now : Effect
by_day_now = heard_under (ahead_by 120) before_day.state 25199999 5070 9 (from_pc (codes "inv5") Onward.invite)

-- ---- a second algorithm

-- help has a key by SHA-256 from now on: another REGISTER of Mufasa's
abbrev pub second_challenge : Effect
second_challenge = heard_under (with_users users) first_challenge.state 2000 5062 2 (from_mufasa (codes "reg3") Replies.register)

-- it is challenged by SHA-256 and by MD5 (RFC 8760 2.3, 2.4)
abbrev pub challenged_by_both : List ℕ
challenged_by_both =
    codes "SIP/2.0 401 Unauthorized\r\n"
    ++ codes "Via: SIP/2.0/UDP 127.0.0.1:5062;branch=z9hG4bKreg3\r\n"
    ++ codes "From: <sip:Mufasa@host.com>;tag=a1\r\n"
    ++ codes "To: <sip:Mufasa@host.com>;tag=0000000000000000.2\r\n"
    ++ codes "Call-ID: c1@127.0.0.1\r\n"
    ++ codes "CSeq: 1 REGISTER\r\n"
    ++ codes "WWW-Authenticate: Digest realm=\"testrealm@host.com\", nonce=\"00000000000000000000000000000002\", algorithm=SHA-256, qop=\"auth\"\r\n"
    ++ codes "WWW-Authenticate: Digest realm=\"testrealm@host.com\", nonce=\"00000000000000000000000000000002\", algorithm=MD5, qop=\"auth\"\r\n"
    ++ codes "Content-Length: 0\r\n\r\n"
