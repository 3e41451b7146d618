-- Bytes of a text, and a name that stands in it: laws for the crates that read lines. Assumes nothing.
use Prim.Native.Nat.{ℕ, zero, suc, ◌≤◌, ◌<◌, suc-le-suc}
use native.Mathlib.Nat.{add-zero}
use native.Mathlib.Omega.{arith}
use mathlib.Core.Path.{◌≡◌, refl, ap, ◌∙◌}
use mathlib.Core.Bool.{Bool, true, false, cond}
use mathlib.Core.List.{List, [], ◌∷◌}
use lib.Dec.{T, eqb}
use lib.ListN.{length, get_or, drop}
use lib.Seq.{get_or-drop}
use borrow.Author.Tests.{ne_eqb}
use Rattle.std.specs.Prelude.{nat_eq, slice_range}
use Rattle.std.proofs.lemmas.Bool.Decides.{nat_tests}
use Rattle.std.proofs.lemmas.Slice.{between_to_end}
use Rattle.std.specs.List.{starts_with}
use Rattle.model.specs.Text.{front, begins}

-- ---- bytes

-- 0 is what stands past the end
pub there : (s : List ℕ) (i : ℕ) → 1 ≤ get_or s i 0 → i < length s
there [] i h = absurd (omega arith)
there (b ∷ s) zero h = omega arith
there (b ∷ s) (suc i) h = suc-le-suc (there s i h)

abbrev pub positive : List ℕ → Bool
positive [] = true
positive (zero ∷ s) = false
positive (suc b ∷ s) = positive s

pub positive_at : (s : List ℕ) → T (positive s) → (i : ℕ) → i < length s → 1 ≤ get_or s i 0
positive_at [] p i h = absurd (omega arith)
positive_at (zero ∷ s) p i h = absurd p
positive_at (suc b ∷ s) p zero h = omega arith
positive_at (suc b ∷ s) p (suc i) h = positive_at s p i (omega arith)

module _ (text : List ℕ) (at : ℕ) {b : ℕ} (is : b ≡ get_or text at 0) where
  pub inside : 1 ≤ b → at < length text
  inside h = there text at (rw (← is) h)

  pub front_at : front (drop at text) ≡ b
  front_at = rw (get_or-drop at text 0 0, add-zero at, is)

-- ---- a name, none of whose bytes is the 0 that is read past the text's end

abbrev Named : List ℕ → Type 0
Named name = (i : ℕ) → i < length name → 1 ≤ get_or name i 0

rest_named : (c : ℕ) (cs : List ℕ) → Named (c ∷ cs) → Named cs
rest_named c cs some i h = some (suc i) (omega arith)

-- the library's test is the definition's
pub starts_begins : (name s : List ℕ) → Named name → starts_with nat_eq s name ≡ begins name s
unfolding begins
starts_begins [] s some = refl
starts_begins (c ∷ cs) [] some = let p = some 0 (omega arith) in rw (ne_eqb 0 c (λ e. absurd (omega arith)))
starts_begins (c ∷ cs) (b ∷ s) some = let same : eqb c b ≡ eqb b c = grind (arith, nat_tests) in rw (same, starts_begins cs s (rest_named c cs some))

-- at a place of a text, where `rest` is what the text has from there on
pub rest_begins : (name text rest : List ℕ) (at : ℕ) → Named name → rest ≡ slice_range text at (length text) → starts_with nat_eq rest name ≡ begins name (drop at text)
rest_begins name text rest at some is =
    let here : rest ≡ drop at text = is ∙ between_to_end text at (length text) (omega arith) in
    starts_begins name rest some ∙ ap (begins name) here

-- past the end stands no name but the empty one
pub no_name : (name : List ℕ) → Named name → 0 ≡ cond (begins name []) (length name) 0
unfolding begins
no_name [] some = refl
no_name (c ∷ cs) some = let p = some 0 (omega arith) in rw (ne_eqb 0 c (λ e. absurd (omega arith)))
