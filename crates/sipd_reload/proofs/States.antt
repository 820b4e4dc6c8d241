-- The states that a file over memory shows.
use Rattle.std.proofs.Common.{◌≡◌, ℕ, zero, suc, ◌+◌, ◌<◌, ◌≤◌, List, [], ◌∷◌, length, refl, arith, slice_index_or}
use Rattle.sipd_reload.specs.MemoryFile.{gone, last_of}
use Rattle.sipd_reload.specs.declared.file_state.FileState.{FileState}

there : (before : FileState) (states : List FileState) (place : ℕ) (d : FileState) → place < length states
    → slice_index_or states place d ≡ last_of (suc place) before states
there before [] place d h = absurd (omega (arith, h))
there before (state ∷ states) zero d h = refl
there before (state ∷ states) (suc place) d h = there state states place d (omega (arith, h))

-- the one at a place is the last of one more
pub state_there : (states : List FileState) (shown place : ℕ) (d : FileState) → shown ≤ length states → place + 1 ≡ shown
    → slice_index_or states place d ≡ last_of shown gone states
state_there states shown place d h e =
    let e' : shown ≡ suc place = omega (arith, e) in
    rw e' (there gone states place d (omega (arith, h, e)))

pub none_there : (states : List FileState) (shown : ℕ) → shown ≡ 0 → gone ≡ last_of shown gone states
none_there states shown e = rw e refl
