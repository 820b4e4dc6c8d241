-- How a dialog's name is hashed: alike for both sides of a call.
use Rattle.std.specs.Prelude.{ℕ, List, [], ◌∷◌, ◌++◌, length, fold, if◌then◌else◌}
use Rattle.std.specs.Ordering.{is_gt, nat_cmp}
use Rattle.std.specs.Cmp.Lexicographic.{slice_cmp}
use Rattle.std.specs.Hash as fed
use Rattle.sip_base.specs.WordHasher as sip
use Rattle.sip_base.specs.declared.word_hasher.WordHasher.{WordHasher}
use Rattle.sip_dialog.specs.declared.dialog.DialogId.{DialogId}

-- two tags in one order, whichever came first
abbrev pub in_order : List ℕ → List ℕ → List ℕ × List ℕ
in_order a b = if is_gt (slice_cmp nat_cmp a b) then (b, a) else (a, b)

-- a text, after its length
abbrev pub text_fed : List ℕ → List (List ℕ)
text_fed text = fed.usize (length text) ++ text ∷ []

-- the Call-ID and the tags in one order
abbrev pub name_fed : DialogId → List (List ℕ)
name_fed id =
    let tags = in_order id.from_tag id.to_tag in
    text_fed id.call_id ++ text_fed tags.0 ++ text_fed tags.1

-- the digest of a name by a hasher that was fed a secret
unfoldable pub digest_of : WordHasher → DialogId → ℕ
digest_of secret id = sip.finish (fold sip.write secret (name_fed id))
