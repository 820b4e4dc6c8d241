use Rattle.std.proofs.Common.{rules, ◌≡◌}
use Rattle.std.specs.Prelude.{codes}
use Rattle.sip_header_credentials.proofs.Placing.{username_placed, realm_placed, nonce_placed, uri_placed, response_placed, algorithm_placed, qop_placed, nc_placed}
use Rattle.sip_header_credentials.proofs.Placing.{cnonce_placed}
use Rattle.sip_header_credentials.proofs.credentials.put_usual.Goals as goal

pub returns-then-same_bytes : goal.returns-then-same_bytes
returns-then-same_bytes c = λ items took is.
    let same : c.args.name.now ≡ codes "username" = search rules in
    username_placed items c.args.name.now c.args.said.now c.args.places.now _ same is (c.put_first.ensures.free took) (c.put_first.ensures.put took)

pub returns-then-same_bytes-2 : goal.returns-then-same_bytes-2
returns-then-same_bytes-2 c = λ items took is.
    let same : c.args.name.now ≡ codes "realm" = search rules in
    realm_placed items c.args.name.now c.args.said.now c.args.places.now _ same is (c.put_first-then-same_bytes-2.ensures.free took)
    (c.put_first-then-same_bytes-2.ensures.put took)

pub returns-then-same_bytes-3 : goal.returns-then-same_bytes-3
returns-then-same_bytes-3 c = λ items took is.
    let same : c.args.name.now ≡ codes "nonce" = search rules in
    nonce_placed items c.args.name.now c.args.said.now c.args.places.now _ same is (c.put_first-then-same_bytes-3.ensures.free took)
    (c.put_first-then-same_bytes-3.ensures.put took)

pub returns-then-same_bytes-4 : goal.returns-then-same_bytes-4
returns-then-same_bytes-4 c = λ items took is.
    let same : c.args.name.now ≡ codes "uri" = search rules in
    uri_placed items c.args.name.now c.args.said.now c.args.places.now _ same is (c.put_first-then-same_bytes-4.ensures.free took)
    (c.put_first-then-same_bytes-4.ensures.put took)

pub returns-then-same_bytes-5 : goal.returns-then-same_bytes-5
returns-then-same_bytes-5 c = λ items took is.
    let same : c.args.name.now ≡ codes "response" = search rules in
    response_placed items c.args.name.now c.args.said.now c.args.places.now _ same is (c.put_first-then-same_bytes-5.ensures.free took)
    (c.put_first-then-same_bytes-5.ensures.put took)

pub returns-then-same_bytes-6 : goal.returns-then-same_bytes-6
returns-then-same_bytes-6 c = λ items took is.
    let same : c.args.name.now ≡ codes "algorithm" = search rules in
    algorithm_placed items c.args.name.now c.args.said.now c.args.places.now _ same is (c.put_first-then-same_bytes-6.ensures.free took)
    (c.put_first-then-same_bytes-6.ensures.put took)

pub returns-then-same_bytes-7 : goal.returns-then-same_bytes-7
returns-then-same_bytes-7 c = λ items took is.
    let same : c.args.name.now ≡ codes "qop" = search rules in
    qop_placed items c.args.name.now c.args.said.now c.args.places.now _ same is (c.put_first-then-same_bytes-7.ensures.free took)
    (c.put_first-then-same_bytes-7.ensures.put took)

pub returns-then-same_bytes-8 : goal.returns-then-same_bytes-8
returns-then-same_bytes-8 c = λ items took is.
    let same : c.args.name.now ≡ codes "nc" = search rules in
    nc_placed items c.args.name.now c.args.said.now c.args.places.now _ same is (c.put_first-then-same_bytes-8.ensures.free took)
    (c.put_first-then-same_bytes-8.ensures.put took)

pub returns-then-same_bytes-9 : goal.returns-then-same_bytes-9
returns-then-same_bytes-9 c = λ items took is.
    let same : c.args.name.now ≡ codes "cnonce" = search rules in
    cnonce_placed items c.args.name.now c.args.said.now c.args.places.now _ same is (c.put_first-then-same_bytes-9.ensures.free took)
    (c.put_first-then-same_bytes-9.ensures.put took)
