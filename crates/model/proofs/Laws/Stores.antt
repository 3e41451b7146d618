-- Runs of stores into a list, one behind the other.
use Rattle.std.specs.Prelude.{ℕ, suc, ◌+◌, ◌≡◌, List, [], ◌∷◌, ◌++◌, length, set}
use Rattle.std.proofs.Common.{add-zero, add-suc, suc-add}
use Rattle.std.proofs.lemmas.List.Edits.{sets}

pub sets-append {ℓ} : {A : Type ℓ} (xs : List A) (n : ℕ) (us vs : List A) → sets (sets xs n us) (n + length us) vs ≡ sets xs n (us ++ vs)
sets-append xs n [] vs = rw add-zero
sets-append xs n (a ∷ us) vs = rw (add-suc, ← suc-add) (sets-append (set xs n a) (suc n) us vs)
