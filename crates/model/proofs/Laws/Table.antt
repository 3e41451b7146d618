-- Laws of `table_to`: its length, its elements, and when two tables are the same.
use Prim.Native.Nat.{ℕ, zero, suc, ◌<◌}
use Rattle.std.proofs.Common.{arith, ◌∙◌}
use Rattle.std.proofs.Math.Decide.{ℕ_discrete}
use Rattle.std.specs.Prelude.{◌≡◌, length}
use Rattle.std.proofs.Math.Path.{refl}
use mathlib.Core.List.{List, [], ◌∷◌}
use Rattle.std.proofs.Math.ListN.{get_or, length-append, get_or-append}
use Rattle.std.proofs.lemmas.List.{get_or_at}
use Rattle.model.specs.Table.{table_to}

module _ {A : Type 0} (f : List A → ℕ → A) where
  pub table_length : (n : ℕ) → length (table_to f n) ≡ n
  unfolding table_to
  table_length zero = refl
  table_length (suc n) = length-append (table_to f n) (f (table_to f n) n ∷ []) ∙ omega (arith, table_length n)

  -- an entry depends on the table before it only
  pub table_at : (n : ℕ) (d : A) (i : ℕ) → i < n → get_or (table_to f n) i d ≡ f (table_to f i) i
  unfolding table_to
  table_at zero d i h = absurd (omega arith)
  table_at (suc n) d i h = go (ℕ_discrete i n) (table_at n)
    where
      go : Dec (i ≡ n) → ((d : A) (i : ℕ) → i < n → get_or (table_to f n) i d ≡ f (table_to f i) i) → get_or (table_to f (suc n)) i d ≡ f (table_to f i) i
      go (yes e) later = rw e (get_or_at (table_to f n) (f (table_to f n) n) [] d n (table_length n))
      go (no e) later = get_or-append (table_to f n) (f (table_to f n) n ∷ []) d i (omega (arith, table_length n)) ∙ later d i (omega arith)

-- functions that agree make the same table
pub table_same : {A : Type 0} (f g : List A → ℕ → A) (n : ℕ) → ((l : List A) (i : ℕ) → i < n → f l i ≡ g l i) → table_to f n ≡ table_to g n
unfolding table_to
table_same f g zero same = refl
table_same f g (suc n) same = rw (table_same f g n (λ l i h. same l i (omega arith)), same (table_to g n) n (omega arith))
