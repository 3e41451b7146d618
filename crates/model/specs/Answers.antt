-- Document 01, what an answer is, and how the first refusal is found. Definitions only.
use Rattle.std.specs.Prelude.{ℕ, zero, suc, ◌≡◌, Bool, true, cond, Result, Ok, Err, IfErr}
use Rattle.model.specs.declared.Reason.{Reason}
use Rattle.model.specs.declared.Reason.TheVariants as reason
use Rattle.model.specs.declared.Refusal.{Refusal}
use Rattle.model.specs.Reasons.{is_named}

-- 'answer'
pub data Verdict : Type 0 where
  accepted : Verdict
  refused : (number place rest : ℕ) → Verdict

-- the number that document 01 and the cards give to each of the program's reasons
abbrev pub number_of : Reason → ℕ
number_of reason.PlanEnded = 1
number_of reason.Count = 2
number_of reason.Parent = 3
number_of reason.Node = 4
number_of reason.Transition = 5
number_of reason.WordsLeft = 6
number_of reason.NumberCount = 7
number_of reason.Parameter = 8
number_of reason.State = 9
number_of reason.Output = 10
number_of reason.Line = 11
number_of reason.Room = 12
number_of reason.TextLength = 13
number_of reason.Ending = 14
number_of reason.ClipNode = 16
number_of reason.NotLooping = 17
number_of (reason.Other r) = r.number

-- what the program's answers stand for in document 01, whatever an acceptance hands back. A refusal carries nothing beside its number and place, so
-- its rest is 0
unfoldable pub values : {A : Type 0} → Result A Refusal → Verdict
values (Ok x) = accepted
values (Err r) = refused (number_of r.reason) r.place 0

-- no refusal, or one by a reason of the program's own
abbrev pub OwnReason : {A : Type 0} → Result A Refusal → Type 0
OwnReason r = IfErr r (λ refusal. is_named (number_of refusal.reason) ≡ true)

-- ---- the first refusal

-- of two
infixl 20 ◌then◌
unfoldable pub ◌then◌ : Verdict → Verdict → Verdict
accepted then b = b
refused number place rest then b = refused number place rest

-- of f 0, .., f (n - 1)
unfoldable pub each : ℕ → (ℕ → Verdict) → Verdict
each zero f = accepted
each (suc n) f = each n f then f n

-- where the test fails
unfoldable pub require : Bool → ℕ → ℕ → Verdict
require ok number place = cond ok accepted (refused number place 0)

-- what was, where a call is refused
unfoldable pub unless_refused {ℓ} : {A : Type ℓ} → Verdict → A → A → A
unless_refused accepted new old = new
unless_refused (refused number place rest) new old = old
