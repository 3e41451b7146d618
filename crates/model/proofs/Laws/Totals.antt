-- Laws of `total`: with blocks of f 0, f 1, .. elements laid end to end, an offset determines its block and the offset inside it.
-- Then totals of sums, of equal terms, and of a term that is 1 at one index.
use Prim.Native.Nat.{ℕ, zero, suc, ◌+◌, ◌*◌, ◌≤◌, ◌<◌}
use Rattle.std.proofs.Common.{arith, suc-mul, zero-mul, sym, ap}
use Rattle.std.proofs.Math.Decide.{ℕ_discrete, dec_lt}
use Rattle.std.specs.Prelude.{◌≡◌, eqb}
use Rattle.std.proofs.Math.Path.{refl}
use Rattle.std.proofs.Math.Bool.{cond}
use borrow.Author.Tests.{eq-eqb, ne_eqb}
use Rattle.model.specs.Plan.{total}

module _ (f : ℕ → ℕ) where
  pub total_below : (n i k : ℕ) → i < n → k < f i → total f i + k < total f n
  unfolding total
  total_below zero i k h e = absurd (omega arith)
  total_below (suc n) i k h e = go (ℕ_discrete i n) (total_below n)
    where
      go : Dec (i ≡ n) → ((i k : ℕ) → i < n → k < f i → total f i + k < total f n) → total f i + k < total f (suc n)
      go (yes p) later = rw p (let q : k < f n = rw p at e in omega arith)
      go (no p) later = omega (arith, later i k (omega arith) e)

  pub same_row : (i k j l : ℕ) → k < f i → l < f j → total f i + k ≡ total f j + l → i ≡ j
  same_row i k j l hk hl e = go (dec_lt i j) (dec_lt j i)
    where
      go : Dec (i < j) → Dec (j < i) → i ≡ j
      go (yes p) d = absurd (omega (arith, total_below j i k p hk))
      go (no p) (yes q) = absurd (omega (arith, total_below i j l q hl))
      go (no p) (no q) = omega arith

  pub same_place : (i k j l : ℕ) → k < f i → l < f j → total f i + k ≡ total f j + l → k ≡ l
  same_place i k j l hk hl e = let p : total f i ≡ total f j = ap (total f) (same_row i k j l hk hl e) in omega arith

-- blocks of equal size
pub total_even : (m n : ℕ) → total (λ i. m) n ≡ n * m
unfolding total
total_even m zero = sym (zero-mul m)
total_even m (suc n) = rw (total_even m n, suc-mul n m)

module _ (m i k j l : ℕ) (hk : k < m) (hl : l < m) (e : i * m + k ≡ j * m + l) where
  pub same_quotient : i ≡ j
  same_quotient = same_row (λ n. m) i k j l hk hl (rw (total_even m i, total_even m j) e)

  pub same_remainder : k ≡ l
  same_remainder = same_place (λ n. m) i k j l hk hl (rw (total_even m i, total_even m j) e)

pub row_below : (m i n k : ℕ) → i < n → k < m → i * m + k < n * m
row_below m i n k h e = rw (total_even m i, total_even m n) at (total_below (λ j. m) n i k h e)

-- ---- totals of given terms

module _ (f g : ℕ → ℕ) where
  pub total_same : (n : ℕ) → ((k : ℕ) → k < n → f k ≡ g k) → total f n ≡ total g n
  unfolding total
  total_same zero same = refl
  total_same (suc n) same = rw (total_same n (λ k h. same k (omega arith)), same n (omega arith))

  pub total_sum : (n : ℕ) → total (λ k. f k + g k) n ≡ total f n + total g n
  unfolding total
  total_sum zero = refl
  total_sum (suc n) = omega (arith, total_sum n)

-- of terms that are at most m
pub total_most : (f : ℕ → ℕ) (m n : ℕ) → ((k : ℕ) → k < n → f k ≤ m) → total f n ≤ n * m
unfolding total
total_most f m zero most = omega arith
total_most f m (suc n) most = omega (arith, suc-mul n m, total_most f m n (λ k h. most k (omega arith)), most n (omega arith))

module _ (a : ℕ) where
  total_none : (n : ℕ) → n ≤ a → total (λ k. cond (eqb a k) 1 0) n ≡ 0
  unfolding total
  total_none zero h = refl
  total_none (suc n) h = rw (total_none n (omega arith), ne_eqb a n (omega arith))

  -- one more index counts
  pub total_one : (n : ℕ) → a < n → total (λ k. cond (eqb a k) 1 0) n ≡ 1
  unfolding total
  total_one zero h = absurd (omega arith)
  total_one (suc n) h = go (ℕ_discrete a n) (total_one n)
    where
      go : Dec (a ≡ n) → (a < n → total (λ k. cond (eqb a k) 1 0) n ≡ 1) → total (λ k. cond (eqb a k) 1 0) (suc n) ≡ 1
      go (yes e) later = rw (total_none n (omega arith), eq-eqb a n e)
      go (no e) later = rw (later (omega arith), ne_eqb a n e)
