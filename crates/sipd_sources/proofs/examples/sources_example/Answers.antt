use Rattle.std.proofs.Common.{refl}
use Rattle.std.specs.Fmt.{digits}
use Rattle.sip_uri.specs.Reading as Uris
use Rattle.sip_message.specs.Reading as Bytes
use Rattle.sipd_sources.proofs.examples.sources_example.Goals as goal

pub returns-clause-numbers : goal.returns-clause-numbers
unfolding digits Uris.rest_of Uris.reading_of Bytes.reading_of Bytes.datagram_of Bytes.message_from
returns-clause-numbers c = λ config. refl

pub returns-clause-times : goal.returns-clause-times
unfolding digits Uris.rest_of Uris.reading_of Bytes.reading_of Bytes.datagram_of Bytes.message_from
returns-clause-times c = λ config. refl

pub returns-clause-chosen : goal.returns-clause-chosen
unfolding digits Uris.rest_of Uris.reading_of Bytes.reading_of Bytes.datagram_of Bytes.message_from
returns-clause-chosen c = λ config. refl

pub returns-clause-in_time : goal.returns-clause-in_time
returns-clause-in_time c = λ config. refl
