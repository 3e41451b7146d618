-- What holds from one reader to another, step after step. Assumes nothing.
use Prim.Native.Nat.{ℕ, zero, suc, ◌+◌, ◌-◌, ◌≤◌, ◌<◌}
use native.Mathlib.Nat.{add-zero, add-suc}
use native.Mathlib.Numerals.{add-one}
use native.Mathlib.Omega.{arith}
use mathlib.Core.Path.{◌≡◌, refl, ◌∙◌}
use mathlib.Core.List.{List}
use Rattle.std.specs.Prelude.{Result, Ok, Err, drop}
use Rattle.model.specs.Text.{Reading, and_then, times, read_words}
use Rattle.text.specs.declared.put.Malformed.{Malformed}
use Rattle.text.specs.declared.put.Reader.{Reader}
use Rattle.text.specs.Steps.{ReadAs}
use Rattle.text.specs.Readers.{SameReader, ReadTo}
use Rattle.text.proofs.Laws.{moved_nothing, stops, goes}

pub same_self : (r : Reader) → SameReader r r
same_self r = record { text = refl; plan = refl; numbers = refl }

pub same_on : {a b c : Reader} → SameReader a b → SameReader b c → SameReader a c
same_on p q = record { text = q.text ∙ p.text; plan = q.plan ∙ p.plan; numbers = q.numbers ∙ p.numbers }

-- ---- one reading after another

module _ {A B : Type 0} {a b : Reader} {x : List ℕ → Reading} (next : List ℕ → List ℕ → Reading) where
  pub stops_at : {m : Malformed} → ReadTo {A = A} x a b (Err m) → ReadTo {A = B} (λ s. and_then (x s) next) a b (Err m)
  stops_at t = record { same = t.same; step = stops _ _ _ _ _ _ _ _ next t.step }

  pub goes_on : {c : Reader} {u : A} {r : Result B Malformed} → ReadTo x a b (Ok u) → ReadTo (next (read_words (x (drop a.progress.at a.text.now)))) b c r
      → ReadTo (λ s. and_then (x s) next) a c r
  goes_on {c} {u} {r} s t = record { same = same_on s.same t.same; step = goes _ _ _ _ _ _ _ _ _ (x (drop a.progress.at a.text.now)) next _ s.step (rw s.same.text at t.step) }

-- ---- a loop of readings: the step of the first i

pub record Passed (read : List ℕ → Reading) (a b : Reader) (i : ℕ) : Type 0 where
  pub same : SameReader a b
  pub so_far : ReadAs a.text.now a.progress a.plan.now b.plan.now a.numbers.now b.numbers.now (Ok b.progress) (times i read (drop a.progress.at a.text.now))

module _ {read : List ℕ → Reading} where
  pub passed_none : (a : Reader) → Passed read a a 0
  unfolding ReadAs times
  passed_none a = record { same = same_self a; so_far = moved_nothing _ _ _ _ _ a.in_text refl }

  module _ {A : Type 0} {a b c : Reader} {i : ℕ} (p : Passed read a b i) where
    next : {r : Result A Malformed} → ReadTo read b c r → ReadTo (times (suc i) read) a c r
    unfolding times
    next t = record { same = same_on p.same t.same; step = goes _ _ _ _ _ _ _ _ _ (times i read (drop a.progress.at a.text.now)) (λ _. read) _ p.so_far (rw p.same.text at t.step) }

    pub passed_next : {u : A} → ReadTo read b c (Ok u) → Passed read a c (i + 1)
    passed_next t = let n = next t in record { same = n.same; so_far = rw add-one n.step }

    -- a bad line among the first i + 1 readings is the bad line of all
    pub passed_stops : {B : Type 0} (count : ℕ) {m : Malformed} → i < count → ReadTo {A = A} read b c (Err m) → ReadTo {A = B} (times count read) a c (Err m)
    unfolding times
    passed_stops {B} count {m} less t = let e : count ≡ suc i + (count - suc i) = omega arith in rw e (more (count - suc i))
      where
        more : (k : ℕ) → ReadTo {A = B} (times (suc i + k) read) a c (Err m)
        more zero = let n = next t in rw add-zero record { same = n.same; step = n.step }
        more (suc k) = rw add-suc (stops_at {A = B} {B = B} (λ _. read) (more k))

  pub passed_all : {A : Type 0} {a b : Reader} {i : ℕ} → Passed read a b i → (count : ℕ) (u : A) → i ≤ count → count ≤ i → ReadTo (times count read) a b (Ok u)
  passed_all {i = i} p count u l h = let e : count ≡ i = omega arith in rw e record { same = p.same; step = p.so_far }
