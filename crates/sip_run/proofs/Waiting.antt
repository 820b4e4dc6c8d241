-- What isn't due by a moment.
use Rattle.std.proofs.Common.{◌≡◌, ◌<◌, ℕ, Option, None, Some, ◌∙◌, sym, arith}

some_is : {m n : ℕ} → Some m ≡ Some n → m ≡ n
some_is h = cc

-- nothing is due at all
pub none_some : (o : Option ℕ) (due m : ℕ) → o ≡ None → o ≡ Some due → m < due
none_some o due m is e = absurd (cc)

-- what is due first isn't due yet
pub not_yet : (o : Option ℕ) (due other most m : ℕ) → o ≡ Some due → o ≡ Some other → most < due → most ≡ m → m < other
not_yet o due other most m is e later same = let one : due ≡ other = some_is (sym is ∙ e) in omega (arith, one, later, same)
