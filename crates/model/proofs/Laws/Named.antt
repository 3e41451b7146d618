-- Laws of refusals' numbers: each verdict of the definitions accepts, or refuses by a number that has a reason of its own and with a rest of 0. So no
-- answer to a call is told by `Reason::Other`.
use Rattle.std.specs.Prelude.{ℕ, ◌≡◌, refl, Bool, true, false, cond, ◌&&◌, leb, List, length, Float, Result, Ok, Err}
use Rattle.std.proofs.Common.{arith, ap, sym}
use Rattle.model.specs.declared.Player.{Player}
use Rattle.model.specs.declared.Refusal.{Refusal}
use Rattle.model.specs.declared.Lengths.{Lengths}
use Rattle.model.specs.Reasons.{is_named}
use Rattle.model.specs.Answers.{Verdict, accepted, refused, values, OwnReason, ◌then◌, each, require}
use Rattle.model.specs.Check.{word_is, check, check_header, check_parent, check_clip, check_node, check_transition, check_state}
use Rattle.model.specs.Controller.{set_verdict, frame_verdict}
use Rattle.model.specs.Loops.{loops_verdict}
use Rattle.model.specs.Run.{Call, Update, Speed, Set, Frame, Loops, start_verdict, call_verdict}
use Rattle.model.specs.Text as Text
use Rattle.model.specs.Text.{Reading, bad, got, TextVerdict, text_values, text_verdict}
use Rattle.model.proofs.Laws.Answers.{then_keeps, each_keeps}

pub record Named (v : Verdict) : Type 0 where
  pub named : (number place rest : ℕ) → v ≡ refused number place rest → (is_named number ≡ true) × (rest ≡ 0)

-- ---- rows of checks

number_same : {n p r m q s : ℕ} → refused n p r ≡ refused m q s → n ≡ m
number_same e = grind arith

rest_same : {n p r m q s : ℕ} → refused n p r ≡ refused m q s → r ≡ s
rest_same e = grind arith

pub accepted_named : Named accepted
accepted_named = record { named = λ number place rest e. absurd cc }

pub require_named : (ok : Bool) (n p : ℕ) → is_named n ≡ true → Named (require ok n p)
unfolding require
require_named true n p h = accepted_named
require_named false n p h = record { named = λ number place rest e. (rw (number_same e) at h, sym (rest_same e)) }

pub then_named : {a b : Verdict} → Named a → Named b → Named (a then b)
then_named x y = then_keeps Named _ _ x y

pub each_named : (n : ℕ) (f : ℕ → Verdict) → ((i : ℕ) → Named (f i)) → Named (each n f)
each_named n f h = each_keeps Named accepted_named n f h

-- ---- the checks of a plan
module _ (plan : List ℕ) where
  pub word_named : (n p : ℕ) (ok : Bool) → is_named n ≡ true → Named (word_is plan n p ok)
  unfolding word_is
  word_named n p ok e = then_named (require_named _ _ _ refl) (require_named _ _ _ e)

  pub header_named : Named (check_header plan)
  unfolding check_header
  header_named =
      then_named (then_named (then_named (then_named (word_named _ _ _ refl) (word_named _ _ _ refl)) (word_named _ _ _ refl)) (word_named _ _ _ refl)) (word_named _ _ _ refl)

  pub parent_named : (j : ℕ) → Named (check_parent plan j)
  unfolding check_parent
  parent_named j = word_named _ _ _ refl

  pub clip_named : (c : ℕ) → Named (check_clip plan c)
  unfolding check_clip
  clip_named c = then_named (word_named _ _ _ refl) (word_named _ _ _ refl)

  pub node_named : (s i : ℕ) → Named (check_node plan s i)
  unfolding check_node
  node_named s i =
      then_named (then_named (then_named (then_named (word_named _ _ _ refl) (require_named _ _ _ refl)) (word_named _ _ _ refl)) (word_named _ _ _ refl)) (word_named _ _ _ refl)

  pub transition_named : (s t : ℕ) → Named (check_transition plan s t)
  unfolding check_transition
  transition_named s t = then_named (then_named (word_named _ _ _ refl) (word_named _ _ _ refl)) (word_named _ _ _ refl)

  pub state_named : (s : ℕ) → Named (check_state plan s)
  unfolding check_state
  state_named s =
      then_named
      (then_named (then_named (then_named (word_named _ _ _ refl) (each_named _ _ (node_named s))) (each_named _ _ (λ k. require_named _ _ _ refl))) (word_named _ _ _ refl))
      (each_named _ _ (transition_named s))

  -- refusals 1 to 7 and 14
  pub check_named : (n : ℕ) → Named (check plan n)
  unfolding check
  check_named n =
      then_named
      (then_named (then_named (then_named (then_named header_named (each_named _ _ parent_named)) (each_named _ _ clip_named)) (each_named _ _ state_named)) (require_named _ _ _ refl))
      (require_named _ _ _ refl)

-- ---- calls

pub start_named : (plan : List ℕ) (numbers : List Float) → Named (start_verdict plan numbers)
unfolding start_verdict
start_named plan numbers = check_named plan (length numbers)

pub set_named : (n : ℕ) → Named (set_verdict n)
set_named n = require_named _ _ _ refl

module _ (plan : List ℕ) (numbers : List Float) (p : Player) where
  pub frame_named : (n : ℕ) → Named (frame_verdict plan numbers p n)
  unfolding frame_verdict
  frame_named n = then_named (then_named (check_named plan (length numbers)) (require_named _ _ _ refl)) (require_named _ _ _ refl)

  pub loops_named : (s n : ℕ) → Named (loops_verdict plan numbers p s n)
  unfolding loops_verdict
  loops_named s n = then_named (then_named (then_named (check_named plan (length numbers)) (require_named _ _ _ refl)) (require_named _ _ _ refl)) (require_named _ _ _ refl)

  pub call_named : (c : Call) → Named (call_verdict plan numbers p c)
  unfolding call_verdict
  call_named (Update delta) = accepted_named
  call_named (Speed v) = accepted_named
  call_named (Set n v) = set_named n
  call_named (Frame kind ext n) = frame_named n
  call_named (Loops s n time) = loops_named s n

-- ---- what the program answers

-- of a call whose promise is an equation with such a verdict
pub own_reason : {A : Type 0} (r : Result A Refusal) {v : Verdict} → values r ≡ v → Named v → OwnReason r
unfolding values
own_reason (Ok x) e known = tt
own_reason (Err x) e known = (known.named _ _ _ (sym e)).0

-- and back
pub values_named : {A : Type 0} (r : Result A Refusal) → OwnReason r → Named (values r)
unfolding values require
values_named (Ok x) known = accepted_named
values_named (Err x) known = require_named false _ _ known

-- ---- reading a text

-- without what an acceptance tells
pub verdict_of : TextVerdict → Verdict
verdict_of (Text.accepted words numbers) = accepted
verdict_of (Text.refused number place rest) = refused number place rest

pub text_named : (x : Reading) (plan_room numbers_room : ℕ) → Named (verdict_of (text_verdict x plan_room numbers_room))
unfolding text_verdict verdict_of require
text_named (bad n) plan_room numbers_room = require_named false _ _ refl
text_named (got ws bs rest n) plan_room numbers_room = go (leb (length ws) plan_room && leb (length bs) numbers_room)
  where
    go : (fits : Bool) → Named (verdict_of (cond fits (Text.accepted (length ws) (length bs)) (Text.refused 12 0 0)))
    go true = accepted_named
    go false = require_named false _ _ refl

pub own_text_reason : (r : Result Lengths Refusal) {v : TextVerdict} → text_values r ≡ v → Named (verdict_of v) → OwnReason r
unfolding values text_values verdict_of
own_text_reason (Ok l) e known = tt
own_text_reason (Err x) e known = (known.named _ _ _ (ap verdict_of (sym e))).0
