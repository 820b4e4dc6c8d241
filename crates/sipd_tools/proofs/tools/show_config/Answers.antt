use Rattle.std.proofs.Common.{inr, refl, ◌∙◌}
use Rattle.sip_config.specs.values.declared.error.ConfigError.TheVariants.{BadToml}
use Rattle.sipd_tools.proofs.tools.show_config.Goals as goal

pub returns-in_default-clause-refused : goal.returns-in_default-clause-refused
returns-in_default-clause-refused g c = inr (record {
  error = BadToml;
  line = c.as_slice.result.now;
  wrong = inr (record {
    no_utf8 = c.in_default.ensures.cases.0;
    no_toml = refl;
    is_told = c.as_slice.ensures ∙ c.in_ok-explain_encoding.ensures.told c.in_default.ensures.cases.0;
  });
  printed = c.in_ok-print.ensures.printed;
  same = c.from.ensures;
})
