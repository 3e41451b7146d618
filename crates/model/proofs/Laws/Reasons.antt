-- Laws of reasons: each number is one reason's, and no other's.
use Rattle.std.specs.Prelude.{ℕ, ◌≡◌, refl, Bool, true, false, cond, ◌||◌, eqb, List, [], ◌∷◌}
use Rattle.std.specs.List.{list_any}
use Rattle.std.proofs.Common.{arith, ◌∙◌, sym, ap, true≢false}
use mathlib.Core.Bool.{Bool-set}
use Rattle.model.specs.declared.Reason.{Reason}
use Rattle.model.specs.declared.Reason.TheVariants as reason
use Rattle.model.specs.declared.reasons.Unnamed.{Unnamed}
use Rattle.model.specs.Reasons.{is_named}
use Rattle.model.specs.Answers.{number_of}

-- ---- from a number to its reason

named : List Reason
named =
    reason.PlanEnded ∷ reason.Count ∷ reason.Parent ∷ reason.Node ∷ reason.Transition ∷ reason.WordsLeft ∷ reason.NumberCount ∷ reason.Parameter ∷
    reason.State ∷ reason.Output ∷ reason.Line ∷ reason.Room ∷ reason.TextLength ∷ reason.Ending ∷ reason.ClipNode ∷ reason.NotLooping ∷ []

-- the first of a row that has the number
first : List Reason → ℕ → Reason
first [] n = reason.PlanEnded
first (r ∷ rs) n = cond (eqb (number_of r) n) r (first rs n)

have : List Reason → ℕ → Bool
have rs n = list_any (λ r. eqb (number_of r) n) rs

first_number : (rs : List Reason) (n : ℕ) → have rs n ≡ true → number_of (first rs n) ≡ n
unfolding first have
first_number [] n e = cc
first_number (r ∷ rs) n e = go (eqb (number_of r) n) refl e (first_number rs n)
  where
    go : (b : Bool) → eqb (number_of r) n ≡ b → (b || have rs n) ≡ true → (have rs n ≡ true → number_of (first rs n) ≡ n) → number_of (cond b r (first rs n)) ≡ n
    go true t h later = grind arith
    go false t h later = later h

chosen : (n : ℕ) (b : Bool) → is_named n ≡ b → Reason
chosen n true e = first named n
chosen n false e = reason.Other (record { number = n; unnamed = e })

pub reason_of : ℕ → Reason
reason_of n = chosen n (is_named n) refl

-- ---- each number is a reason's

pub number_of_reason : (n : ℕ) → number_of (reason_of n) ≡ n
unfolding reason_of chosen named have
number_of_reason n = go (is_named n) refl
  where
    go : (b : Bool) (e : is_named n ≡ b) → number_of (chosen n b e) ≡ n
    go true e = first_number named n (grind arith)
    go false e = refl

-- ---- and no two reasons'

other_chosen : (r : Unnamed) (b : Bool) (e : is_named r.number ≡ b) → chosen r.number b e ≡ reason.Other r
unfolding chosen
other_chosen r true e = absurd (true≢false (sym e ∙ r.unnamed))
other_chosen r false e = ap (λ h. reason.Other (record { number = r.number; unnamed = h })) (Bool-set _ _ e r.unnamed)

reason_of_number : (r : Reason) → reason_of (number_of r) ≡ r
unfolding reason_of chosen named first
reason_of_number (reason.Other r) = other_chosen r _ refl
reason_of_number r = refl

pub one_number : (a b : Reason) → number_of a ≡ number_of b → a ≡ b
one_number a b e = sym (reason_of_number a) ∙ ap reason_of e ∙ reason_of_number b
