-- How far a log was asked again.
use Rattle.std.proofs.Common.{◌≡◌, ℕ, List, [], ◌∷◌, ◌++◌, Option, None, Some, sym, ◌∙◌, ap, subst, append-nil}
use Rattle.std.specs.Io.KnownBytes.{Appends, Keeps}
use Rattle.std.proofs.KnownBytes.{Appends-nil, Appends-trans}
use Rattle.sip_config_types.specs.declared.config.Config.{Config}
use Rattle.sipd_report.specs.Entries.{fronts_of}
use Rattle.sip_replay_script.specs.Lines.{Reading, pending, IsOver}
use Rattle.sip_replay_script.proofs.Fronts.{appends_kept}
use Rattle.sipd_report.proofs.Reported.{GivesFronts, all_given, none_given, one_given}
use Rattle.sipd_expect.specs.Counts.{after_line, counts_of, no_counts}
use Rattle.sipd_expect.specs.LogSteps.{AsksAgain, TakesLine}
use Rattle.sipd_expect.specs.LogTelling.{line_text, lines_text}
use Rattle.sipd_expect.specs.declared.counts.Counts.{Counts}
use Rattle.sipd_expect.proofs.Counting.{counts_more, text_more}

-- some lines were given and counted, and what is told of them was written
pub record IsSoFar (config : Config) (a b before after : Option (List ℕ)) (t : Counts) : Type 0 where
  pub done : List (List ℕ)
  pub given : GivesFronts a b done
  pub counted : t ≡ counts_of config done
  pub written : Appends before after (lines_text config done)

pub asked_first : (config : Config) (a before : Option (List ℕ)) (r : Reading) (t : Counts) → r ≡ record { unread = []; asks = 4294967295; number = 0 } → t ≡ no_counts
    → IsSoFar config a (pending r a) before before t
asked_first config a before r t is none = record {
  done = [];
  given = none_given a r.unread (ap (λ (x : Reading). x.unread) is);
  counted = none;
  written = Appends-nil before;
}

pub asked_more : (config : Config) (a before : Option (List ℕ)) (r s : Reading) (b c after more : Option (List ℕ)) (t u : Counts)
    → IsSoFar config a (pending r b) before after t
    → TakesLine config r s b c t u after more → IsSoFar config a (pending s c) before more u
asked_more config a before r s b c after more t u h takes = record {
  done = h.done ++ takes.line ∷ [];
  given = one_given a (pending r b) (pending s c) h.done takes.line h.given takes.given.gives;
  counted = takes.counted ∙ ap (after_line config takes.line) h.counted ∙ counts_more config h.done takes.line;
  written = subst (λ l. Appends before more l) (sym (text_more config h.done takes.line))
      (Appends-trans before after more (lines_text config h.done) (line_text config takes.line) h.written takes.appended);
}

by_all : (config : Config) (a before after : Option (List ℕ)) (t : Counts) (done : List (List ℕ)) → GivesFronts a (Some []) done → t ≡ counts_of config done
    → Appends before after (lines_text config done) → AsksAgain config a before after t
by_all config None before after t done h counted written = tt
by_all config (Some xs) before after t done h counted written =
    let all : done ≡ fronts_of xs = sym (h ∙ append-nil done) in
    (subst (λ l. Appends before after (lines_text config l)) all written, counted ∙ ap (counts_of config) all)

pub asked_last : (config : Config) (a before after end : Option (List ℕ)) (r s : Reading) (b c : Option (List ℕ)) (t : Counts)
    → IsSoFar config a (pending r b) before after t
    → IsOver r s b c → Keeps after end → AsksAgain config a before end t
asked_last config a before after end r s b c t h over kept =
    by_all config a before end t h.done (all_given a (pending r b) (pending s c) h.done h.given over.kept over.at_end) h.counted
    (appends_kept before after end (lines_text config h.done) h.written kept)
