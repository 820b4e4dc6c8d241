use Rattle.sip_targets.proofs.Contacts.{target_read}
use Rattle.sip_targets.proofs.target.target_read.Goals as goal

pub returns : goal.returns
returns c =
    target_read c.args.hops.now.addresses c.args.contact.now c.in_ok-write_uri.field-0 c.in_ok-uri.uri c.make_target.new.uri c.in_ok-uri-2.uri c.address_of-address.result
    c.in_ok-uri.ensures.valid c.in_ok-uri.ensures.says c.in_ok-make_target.ensures
    c.in_ok-write_uri.ensures c.in_ok-uri-2.ensures c.address_of-address.ensures
