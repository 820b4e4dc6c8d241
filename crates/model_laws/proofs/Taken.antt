-- Steps that are taken for a datagram whose message is known: the verdict on it.
use Rattle.std.proofs.Common.{◌≡◌, ℕ, Bool, true, false, ◌&&◌, ◌||◌, if◌then◌else◌, List, find, codes, Some, refl, ap, ◌∙◌, bytes_eq}
use Rattle.sip_message_fields.specs.declared.field_name.FieldName.TheVariants as Name
use Rattle.sip_message_fields.specs.Values.{values_of}
use Rattle.sip_message_form.specs.declared.message.Message.{Message}
use Rattle.sip_message_form.specs.declared.message.Start.TheVariants.{Request, Status}
use Rattle.sip_message.specs.Reading.{reading_of}
use Rattle.sip_uri.specs.declared.addr.Addr.{Addr}
use Rattle.sip_transaction_table.specs.declared.key.TransactionKey.{TransactionKey}
use Rattle.sip_transaction_table.specs.Key.{key_of}
use Rattle.sip_event.specs.declared.event.Event.TheVariants.{Datagram}
use Rattle.sip_model.specs.state.declared.server.Server.{Server}
use Rattle.sip_model.specs.state.declared.branch.Branch.{Branch}
use Rattle.sip_model.specs.state.declared.open_request.OpenRequest.{OpenRequest}
use Rattle.sip_model.specs.state.Arrival.{Arrival}
use Rattle.sip_model.specs.state.State.{has_key}
use Rattle.sip_model.specs.verdict_model.Verdict.{Verdict, Drop, Respond, Copy, response_verdict, is_many, responding, message_in, message_verdict, by_start, by_key}
use Rattle.sip_model.specs.verdict_model.Verdict.{by_open, ack_verdict, verdict_in}
use Rattle.sip_model.specs.context_model.Branches.{is_accepted}
use Rattle.sip_model.specs.steps_model.Step.{Given, arrival_of}
use Rattle.sip_model.specs.Run.{Link}
use Rattle.sip_model.specs.Access.{IsTakenFor}

module _ (server : Server) (link : Link) (at word : ℕ) (from : Addr) (bytes : List ℕ) (m : Message) (is_act : link.act ≡ Given (Datagram at word from bytes))
    (says : message_in (reading_of bytes) ≡ Some (m, false)) where
  -- the datagram
  abbrev arrival : Arrival
  arrival = arrival_of link.before at word from

  -- by the verdict on its message
  taken : (v : Verdict) → message_verdict server link.before arrival m false ≡ v → IsTakenFor server link m v
  taken v is =
      record {
        at = at;
        word = word;
        from = from;
        bytes = bytes;
        is_act = is_act;
        is_verdict = ap (verdict_in server link.before arrival) says ∙ ap (λ (x : Verdict). Some (m, x)) is;
      }

  -- a response with a Via besides this server's, for a branch
  pub response_taken : (r : OpenRequest) (b : Branch) (status : ℕ) (reason : List ℕ) → m.start ≡ Status status reason
      → responding server link.before.requests m.fields ≡ Some (r, b) → is_many (values_of Name.Via m.fields) ≡ true
      → IsTakenFor server link m (Respond r b status)
  response_taken r b status reason start is_for many =
      taken (Respond r b status) (ap (by_start server link.before arrival m false) start ∙ ap (response_verdict m.fields status) is_for
      ∙ by_test b.is_cancel (is_many (values_of Name.Via m.fields)) many) where
        by_test : (t u : Bool) → u ≡ true → (if t || u then Respond r b status else Drop) ≡ Respond r b status
        by_test true u e = refl
        by_test false true e = refl
        by_test false false e = absurd (cc)

  -- a request whose key is open, and which is no ACK
  pub copy_taken : (method uri version : List ℕ) (key : TransactionKey) (r : OpenRequest) → m.start ≡ Request method uri version → bytes_eq method (codes "ACK") ≡ false
      → key_of m ≡ Some key → find (has_key key) link.before.requests ≡ Some r
      → IsTakenFor server link m (Copy r)
  copy_taken method uri version key r start no_ack key_is is_open =
      taken (Copy r)
      (ap (by_start server link.before arrival m false) start
      ∙ ap (by_key server link.before arrival m false method) key_is
      ∙ ap (by_open server link.before arrival m false method key) is_open
      ∙ ap (λ (t : Bool). if t && is_accepted r then ack_verdict server link.before arrival.now m false else Copy r) no_ack)
