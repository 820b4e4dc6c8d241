-- What is written of a server, part by part.
use Rattle.std.proofs.Common.{◌≡◌, ℕ, ◌<◌, ◌+◌, List, [], ◌∷◌, ◌++◌, length, take, get_or, Option, subst, sym, ap, ◌∙◌, append-nil}
use Rattle.std.proofs.lemmas.Grind.{flat_map-append}
use Rattle.std.proofs.lemmas.List.{take_more}
use Rattle.std.specs.Io.KnownBytes.{Appends}
use Rattle.std.proofs.KnownBytes.{Appends-nil, Appends-trans}
use Rattle.sip_audit.specs.declared.record.Record.{Record}
use Rattle.sip_loop.specs.Printing.{record_text, lines_of}

-- one record's line more
pub lines_more : (records : List Record) (i : ℕ) (one : Record) (a b c : Option (List ℕ)) → i < length records → one ≡ get_or records i one
    → Appends a b (lines_of (take i records)) → Appends b c (record_text one)
    → Appends a c (lines_of (take (i + 1) records))
lines_more records i one a b c lt is h1 h2 =
    let same : lines_of (take (i + 1) records) ≡ lines_of (take i records) ++ record_text one =
    ap lines_of (take_more records i one lt) ∙ flat_map-append record_text (take i records) (get_or records i one ∷ [])
    ∙ ap (λ (l : List ℕ). lines_of (take i records) ++ l) (append-nil (record_text (get_or records i one)))
    ∙ ap (λ (r : Record). lines_of (take i records) ++ record_text r) (sym is) in
    subst (λ (l : List ℕ). Appends a c l) (sym same) (Appends-trans a b c _ _ h1 h2)

pub appends_none : (a : Option (List ℕ)) → Appends a a []
appends_none a = Appends-nil a
