use Rattle.sip_engine.proofs.engine.Engine.is_same_ahead.Goals as goal

pub returns : goal.returns
returns g c = λ is. rw (← c.self.view_is, ← c.other.view_is)
    (record {
      moment = c.is_same.ensures.moment is;
      next = c.is_same.ensures.next is;
      bindings = c.is_same.ensures.bindings is;
      nonces = c.is_same.ensures.nonces is;
      requests = c.is_same.ensures.requests is;
      dialogs = c.is_same.ensures.dialogs is;
    })
