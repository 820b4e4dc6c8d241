use Rattle.std.proofs.Common.{[], arith, inl, refl}
use Rattle.std.specs.Prelude.{codes}
use Rattle.hex.specs.Hex.{encode_with}
use Rattle.sha2.specs.Sha256.{first_words, schedule, rounds, compress, hash_after, digest_bytes, sha256}
use Rattle.sip_event.specs.declared.event.Event.TheVariants.{Time}
use Rattle.sip_replay_script.proofs.RecordTexts.{record_one}
use Rattle.sip_journal.proofs.Segments.{gives_nothing, gives_one}
use Rattle.sip_journal.proofs.segment_examples.segments_example.Goals as goal

pub returns-clause-digest : goal.returns-clause-digest
unfolding encode_with first_words schedule rounds compress hash_after digest_bytes sha256
returns-clause-digest c = refl

pub returns-clause-none : goal.returns-clause-none
unfolding encode_with first_words schedule rounds compress hash_after digest_bytes sha256
returns-clause-none c = refl

pub returns-clause-segments : goal.returns-clause-segments
unfolding encode_with first_words schedule rounds compress hash_after digest_bytes sha256
returns-clause-segments c = record {
  first = codes "+ abc\nconfiguration ba7816bf8f01cfea414140de5dae2223b00361a396177a9cb410ff61f20015ad\n";
  taken = codes "time 5\n";
  rest = codes "configuration e3b0c44298fc1c149afbf4c8996fb92427ae41e4649b934ca495991b7852b855\n";
  cut = refl;
  configured = record { front = codes "+ abc\n"; gives = gives_one (codes "+ abc") (codes "abc") (record { short = omega arith; single = refl }) refl; text_is = refl };
  says = record_one (codes "time 5\n") (Time 5) (inl (record {
    line = codes "time 5";
    is_line = record { short = omega arith; single = refl };
    text_is = refl;
    says = refl;
  }));
  others = record {
    first = codes "configuration e3b0c44298fc1c149afbf4c8996fb92427ae41e4649b934ca495991b7852b855\n";
    taken = [];
    rest = [];
    cut = refl;
    configured = record { front = []; gives = gives_nothing; text_is = refl };
    says = refl;
    others = refl;
  };
}
