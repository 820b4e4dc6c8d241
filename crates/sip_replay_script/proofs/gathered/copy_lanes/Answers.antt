use Rattle.std.proofs.Common.{◌+◌, arith}
use Rattle.std.proofs.lemmas.Simd.{take_more_put_chunk, length-chunk}
use lib.Lanes.{chunk}
use Rattle.sip_replay_script.proofs.gathered.copy_lanes.Goals as goal

pub returns-clause-copied : goal.returns-clause-copied
returns-clause-copied c =
    let a = c.args in
    let long = length-chunk a.from 16 a.text.now c.requires.from in
    take_more_put_chunk a.to a.room.now (chunk a.from 16 a.text.now) (a.to + 16) (omega arith) c.requires.to
