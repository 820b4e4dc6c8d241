-- The lines of a file, answered one by one.
use Rattle.std.proofs.Common.{ℕ, ◌≡◌, inl, inr, Bool, true, false, ◌&&◌, List, [], ◌∷◌, Some, None, sym, subst}
use Rattle.sip_text.specs.Splits.{split_at_byte}
use Rattle.sip_config_types.specs.declared.config.Config.{Config}
use Rattle.sipd_expect.specs.declared.error.LineError.{LineError}
use Rattle.sipd_expect.specs.Line.{IsRefused}
use Rattle.sip_text.specs.TextLines.{lines_of}
use Rattle.sip_text.proofs.TextLines.{line_cut, last_cut}
use Rattle.sipd_expect.specs.File.{line_text, LineIs, FileIs, SomeRefused}

-- what is answered of a text, where lines of it are done and these are left: the answers of the first so far, and of the others
pub record Leads (config : Config) (file rest : List ℕ) (holds : Bool) : Type 0 where
  pub so : (others : Bool) → FileIs config (lines_of rest) others → FileIs config (lines_of file) (holds && others)
  pub refused : (why : LineError) → SomeRefused config (lines_of rest) why → SomeRefused config (lines_of file) why

pub leads_first : (config : Config) (file : List ℕ) → Leads config file file true
leads_first config file = record { so = λ others h. h; refused = λ why h. h }

joined : (config : Config) (line : List ℕ) (lines : List (List ℕ)) (is others : Bool) → LineIs config line is → FileIs config lines others
    → FileIs config (line ∷ lines) (is && others)
joined config line lines true true h g = (h, g)
joined config line lines true false h g = inr g
joined config line lines false others h g = inl h

regrouped : (config : Config) (lines : List (List ℕ)) (a b c : Bool) → FileIs config lines (a && (b && c)) → FileIs config lines ((a && b) && c)
regrouped config lines true b c h = h
regrouped config lines false b c h = h

pub leads_on : (config : Config) (file bytes line rest : List ℕ) (holds is : Bool) → Some (line, rest) ≡ split_at_byte 10 bytes → LineIs config line is
    → Leads config file bytes holds
    → Leads config file rest (holds && is)
leads_on config file bytes line rest holds is e h lead =
    let cut = (line_cut bytes line rest e).0 in record {
      so = λ others g. regrouped config (lines_of file) holds is others (lead.so (is && others)
          (subst (λ lines. FileIs config lines (is && others)) (sym cut) (joined config line (lines_of rest) is others h g)));
      refused = λ why g. lead.refused why (subst (λ lines. SomeRefused config lines why) (sym cut) (inr g));
    }

alone : (config : Config) (line : List ℕ) (is : Bool) → LineIs config line is → FileIs config (line ∷ []) is
alone config line true h = (h, tt)
alone config line false h = inl h

pub answered : (config : Config) (file bytes : List ℕ) (holds is : Bool) → None ≡ split_at_byte 10 bytes → LineIs config bytes is → Leads config file bytes holds
    → FileIs config (lines_of file) (holds && is)
answered config file bytes holds is e h lead = lead.so is (subst (λ lines. FileIs config lines is) (sym (last_cut bytes e)) (alone config bytes is h))

pub refused_here : (config : Config) (file bytes line rest : List ℕ) (holds : Bool) (why : LineError) → Some (line, rest) ≡ split_at_byte 10 bytes
    → IsRefused config (line_text line) why
    → Leads config file bytes holds → SomeRefused config (lines_of file) why
refused_here config file bytes line rest holds why e h lead = lead.refused why (subst (λ lines. SomeRefused config lines why) (sym (line_cut bytes line rest e).0)
    (inl h))

pub refused_last : (config : Config) (file bytes : List ℕ) (holds : Bool) (why : LineError) → None ≡ split_at_byte 10 bytes → IsRefused config (line_text bytes) why
    → Leads config file bytes holds → SomeRefused config (lines_of file) why
refused_last config file bytes holds why e h lead = lead.refused why (subst (λ lines. SomeRefused config lines why) (sym (last_cut bytes e)) (inl h))
