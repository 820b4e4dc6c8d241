use Rattle.sipd_page.proofs.Adding.{section_is}
use Rattle.sipd_page.proofs.page.put_told.Goals as goal

pub returns : goal.returns
returns g c =
    let told = c.in_ok-told.told in
    record {
      fresh = c.new-notes.result;
      begins = c.new-notes.ensures;
      notes = c.tell_file.new.notes;
      policy = told.policy;
      offset = told.offset;
      digest = told.digest;
      told = c.in_ok-told.ensures;
      sealed = told.sealed;
      written =
          section_is c.args.body.now c.put_section.new.out c.as_bytes.result.now c.args.path.now c.args.sources.now told.digest told.sealed told.policy
          told.offset c.tell_file.new.notes c.in_ok-put_section.ensures c.as_bytes.ensures.value;
    }
