-- Laws of marks: a test of some number below a bound, the marks of a test, and how many marks there are.
use Prim.Native.Nat.{ℕ, zero, suc, ◌≤◌, ◌<◌}
use native.Mathlib.Omega.{arith}
use Rattle.std.proofs.Math.Decide.{ℕ_discrete, dec_lt}
use Rattle.std.specs.Prelude.{◌≡◌, refl, ◌⊎◌, Bool, cond, ◌||◌, List, length}
use Rattle.std.proofs.Common.{sym, ◌∙◌, inl, inr, ext_get_or}
use Rattle.std.proofs.Math.Bool.{true, false}
use Rattle.std.proofs.Math.ListN.{get_or-eq_default}
use Rattle.model.specs.Plan.{total}
use Rattle.model.specs.Uses.{marks, is_marked, any_below}
use Rattle.model.proofs.Laws.Table.{table_length, table_at}
use Rattle.model.proofs.Laws.Totals.{total_even}

-- ---- or

pub or_cases : (a b : Bool) → a || b ≡ true → (a ≡ true) ⊎ (b ≡ true)
or_cases true b e = inl refl
or_cases false b e = inr e

pub or_first : (a b : Bool) → a ≡ true → a || b ≡ true
or_first a b e = rw e refl

pub or_second : (a b : Bool) → b ≡ true → a || b ≡ true
or_second true b e = refl
or_second false b e = e

-- two tests are the same where each holds if the other does
pub same_test : (a b : Bool) → (a ≡ true → b ≡ true) → (b ≡ true → a ≡ true) → a ≡ b
same_test true b f g = sym (f refl)
same_test false true f g = g refl
same_test false false f g = refl

pub unlike : {a : Bool} → a ≡ true → a ≡ false → ⊥
unlike t f = let z : ◌≡◌ {A = Bool} true false = sym t ∙ f in let y : ◌≡◌ {A = ℕ} 0 1 = cc in omega arith

-- ---- a test of some number below n

-- a number that passes
pub record Found (f : ℕ → Bool) (n : ℕ) : Type 0 where
  pub which : ℕ
  pub below : which < n
  pub passes : f which ≡ true

module _ (f : ℕ → Bool) where
  pub any_found : (n : ℕ) → any_below n f ≡ true → Found f n
  unfolding any_below
  any_found zero e = absurd (unlike e refl)
  any_found (suc n) e = go (or_cases (any_below n f) (f n) e) (any_found n)
    where
      go : (any_below n f ≡ true) ⊎ (f n ≡ true) → (any_below n f ≡ true → Found f n) → Found f (suc n)
      go (inl h) earlier = let x : Found f n = earlier h in record { which = x.which; below = omega (arith, x.below); passes = x.passes }
      go (inr h) earlier = record { which = n; below = omega arith; passes = h }

  pub any_at : (n k : ℕ) → k < n → f k ≡ true → any_below n f ≡ true
  unfolding any_below
  any_at zero k h e = absurd (omega arith)
  any_at (suc n) k h e = go (ℕ_discrete k n) (any_at n k)
    where
      go : Dec (k ≡ n) → (k < n → f k ≡ true → any_below n f ≡ true) → any_below n f || f n ≡ true
      go (yes q) earlier = or_second (any_below n f) (f n) (rw q at e)
      go (no q) earlier = or_first (any_below n f) (f n) (earlier (omega arith) e)

-- ---- marks

module _ (f : ℕ → Bool) (n : ℕ) where
  pub marks_length : length (marks n f) ≡ n
  marks_length = table_length (λ done k. f k) n

  pub mark_at : (k : ℕ) → k < n → is_marked (marks n f) k ≡ f k
  mark_at k h = table_at (λ done i. f i) n false k h

  -- a mark is that of a number below n, which passes
  pub marked_below : (k : ℕ) → is_marked (marks n f) k ≡ true → k < n
  marked_below k e = go (dec_lt k n)
    where
      go : Dec (k < n) → k < n
      go (yes h) = h
      go (no h) = absurd (unlike e (get_or-eq_default (marks n f) false (omega (arith, marks_length))))

  pub marked_passes : (k : ℕ) → is_marked (marks n f) k ≡ true → f k ≡ true
  marked_passes k e = sym (mark_at k (marked_below k e)) ∙ e

  -- marks are those of a test where they agree with it
  pub are_marks : (ms : List Bool) → length ms ≡ n → ((k : ℕ) → k < n → is_marked ms k ≡ f k) → ms ≡ marks n f
  are_marks ms long same = ext_get_or false ms (marks n f) (long ∙ sym marks_length) (λ k h. same k (omega (arith, long)) ∙ sym (mark_at k (omega (arith, long))))

-- ---- how many

abbrev pub count : (ℕ → Bool) → ℕ → ℕ
count f n = total (λ k. cond (f k) 1 0) n

module _ (f g : ℕ → Bool) where
  one_no_more : (k : ℕ) → (f k ≡ true → g k ≡ true) → cond (f k) 1 0 ≤ cond (g k) 1 0
  one_no_more k h = go (f k) refl
    where
      go : (t : Bool) → f k ≡ t → cond (f k) 1 0 ≤ cond (g k) 1 0
      go true e = rw (e, h e) (omega arith)
      go false e = rw e (omega arith)

  no_more : (n : ℕ) → ((k : ℕ) → k < n → f k ≡ true → g k ≡ true) → count f n ≤ count g n
  unfolding total
  no_more zero h = omega arith
  no_more (suc n) h = omega (arith, no_more n (λ k l. h k (omega arith)), one_no_more n (h n (omega arith)))

  -- one that passes only the second test makes it more
  pub one_more : (n k : ℕ) → k < n → f k ≡ false → g k ≡ true → ((i : ℕ) → i < n → f i ≡ true → g i ≡ true) → count f n < count g n
  unfolding total
  one_more zero k l e t h = absurd (omega arith)
  one_more (suc n) k l e t h = go (ℕ_discrete k n) (one_more n k)
    where
      go : Dec (k ≡ n) → (k < n → f k ≡ false → g k ≡ true → ((i : ℕ) → i < n → f i ≡ true → g i ≡ true) → count f n < count g n) → count f (suc n) < count g (suc n)
      go (yes q) earlier =
          let fails : f n ≡ false = rw q at e in
          let passes : g n ≡ true = rw q at t in
          let less : count f n ≤ count g n = no_more n (λ i m. h i (omega arith)) in
          rw (fails, passes) (omega arith)
      go (no q) earlier = omega (arith, earlier (omega arith) e t (λ i m. h i (omega arith)), one_no_more n (h n (omega arith)))

-- one that passes counts
pub some_counted : (f : ℕ → Bool) (n k : ℕ) → k < n → f k ≡ true → 0 < count f n
some_counted f n k h e = omega (arith, one_more (λ i. false) f n k h refl e (λ i l t. absurd (unlike t refl)))

-- where n are counted below n, each passes
pub all_counted : (f : ℕ → Bool) (n : ℕ) → n ≤ count f n → (k : ℕ) → k < n → f k ≡ true
all_counted f n full k h = go (f k) refl
  where
    go : (t : Bool) → f k ≡ t → f k ≡ true
    go true e = e
    go false e = absurd (omega (arith, one_more f (λ i. true) n k h e refl (λ i l t. refl), total_even 1 n))
