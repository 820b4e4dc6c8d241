use Rattle.std.proofs.Common.{refl}
use Rattle.std.specs.Prelude.{codes}
use Rattle.sip_uri.proofs.examples.uri_text_with_parameter.Goals as goal

pub returns-clause-written : goal.returns-clause-written
returns-clause-written c = record {
  scheme = codes "SIP";
  in_any_case = refl;
  whole = refl;
  valid = record { userinfo = refl; host = refl; port = refl; parameters = refl; names = refl; headers = refl };
}
