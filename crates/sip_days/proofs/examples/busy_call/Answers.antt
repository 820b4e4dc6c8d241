use Rattle.std.proofs.Common.{refl}
use Rattle.std.specs.Fmt.{digits}
use Rattle.sip_uri.specs.Reading as Uris
use Rattle.sip_message.specs.Reading as Bytes
use Rattle.sip_header.specs.CoreFields.{core_in}
use Rattle.sip_days.proofs.examples.busy_call.Goals as goal

pub returns-clause-result : goal.returns-clause-result
unfolding digits Uris.rest_of Uris.reading_of Bytes.reading_of Bytes.datagram_of Bytes.message_from core_in
returns-clause-result c = λ config. refl

pub returns-clause-rang : goal.returns-clause-rang
unfolding digits Uris.rest_of Uris.reading_of Bytes.reading_of Bytes.datagram_of Bytes.message_from core_in
returns-clause-rang c = λ config. refl

pub returns-clause-talked : goal.returns-clause-talked
unfolding digits Uris.rest_of Uris.reading_of Bytes.reading_of Bytes.datagram_of Bytes.message_from core_in
returns-clause-talked c = λ config. refl
