-- What is printed of records, one behind the other.
use Rattle.std.proofs.Common.{◌≡◌, ℕ, List, [], ◌++◌, Option, None, Some, sym, subst}
use Rattle.std.specs.Io.KnownBytes.{Appends}
use Rattle.std.proofs.KnownBytes.{Appends-nil, Appends-trans}
use Rattle.std.proofs.lemmas.Grind.{flat_map-append}
use Rattle.sip_audit.specs.declared.record.Record.{Record}
use Rattle.sip_loop.specs.Printing.{Prints, lines_of, record_text}

pub prints_nothing : (old : Option (Option (List ℕ))) → Prints old old []
prints_nothing None = tt
prints_nothing (Some o) = Appends-nil o

pub prints_both : (old mid new : Option (Option (List ℕ))) (records more : List Record) → Prints old mid records → Prints mid new more → Prints old new (records ++ more)
prints_both old mid None records more h1 h2 = tt
prints_both old None (Some c) records more h1 h2 = absurd h2
prints_both None (Some b) (Some c) records more h1 h2 = absurd h1
prints_both (Some a) (Some b) (Some c) records more h1 h2 =
    subst (Appends a c) (sym (flat_map-append record_text records more)) (Appends-trans a b c (lines_of records) (lines_of more) h1 h2)

-- what has failed says nothing wrong
pub prints_untold : (old new : Option (Option (List ℕ))) (records : List Record) → new ≡ None → Prints old new records
prints_untold old new records none = subst (λ (o : Option (Option (List ℕ))). Prints old o records) (sym none) tt
