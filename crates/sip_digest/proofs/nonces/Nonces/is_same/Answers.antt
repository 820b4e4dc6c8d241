use Rattle.sip_digest.proofs.nonces.Nonces.is_same.Goals as goal

pub returns : goal.returns
returns c =
    let same = rw (c.first_live-mine.ensures, c.first_live-others.ensures) at c.are_alike.ensures in
    rw (← c.self.view_is, ← c.other.view_is) same
