-- Each verdict of the definitions is one that an answer can give: the rest of a refused answer is 0.
use Rattle.std.specs.Prelude.{ℕ, ◌≡◌, refl, Bool, true, false, List, Float, Result, Ok, Err}
use Rattle.std.proofs.Common.{ap}
use Rattle.model.specs.declared.Reason.{Reason}
use Rattle.model.specs.declared.Refusal.{Refusal}
use Rattle.model.specs.declared.Player.{Player}
use Rattle.model.specs.Answers.{Verdict, accepted, refused, number_of, values, ◌then◌, each, require}
use Rattle.model.specs.Check.{word_is, check, check_header, check_parent, check_clip, check_node, check_transition, check_state}
use Rattle.model.specs.Controller.{frame_verdict}
use Rattle.model.specs.Loops.{loops_verdict}
use Rattle.model.proofs.Laws.Answers.{then_keeps, each_keeps}
use Rattle.model.proofs.Laws.Reasons.{reason_of, number_of_reason}
use Rattle.model.proofs.Laws.Named.{Named, header_named, parent_named, clip_named, node_named, transition_named, state_named, check_named, frame_named, loops_named}

pub record Answerable (v : Verdict) : Type 0 where
  pub answer : Result Unit Refusal
  pub is : values answer ≡ v

accepted_answerable : Answerable accepted
unfolding values
accepted_answerable = record { answer = Ok tt; is = refl }

pub require_answerable : (ok : Bool) (n p : ℕ) → Answerable (require ok n p)
unfolding require values
require_answerable true n p = record { answer = Ok tt; is = refl }
require_answerable false n p = record { answer = Err (record { reason = reason_of n; place = p }); is = ap (λ k. refused k p 0) (number_of_reason n) }

-- of a reason's number
pub reason_answerable : (r : Reason) (ok : Bool) (p : ℕ) → Answerable (require ok (number_of r) p)
reason_answerable r ok p = require_answerable ok (number_of r) p

-- and so each verdict whose number has a reason of its own, and whose rest is 0
pub answerable : {v : Verdict} → Named v → Answerable v
unfolding require
answerable {v = accepted} known = accepted_answerable
answerable {v = refused n p r} known = rw (known.named _ _ _ refl).1 (require_answerable false n p)

pub then_answerable : {a b : Verdict} → Answerable a → Answerable b → Answerable (a then b)
then_answerable x y = then_keeps Answerable _ _ x y

pub each_answerable : (n : ℕ) (f : ℕ → Verdict) → ((i : ℕ) → Answerable (f i)) → Answerable (each n f)
each_answerable n f h = each_keeps Answerable accepted_answerable n f h

-- ---- the checks
module _ (plan : List ℕ) where
  pub word_answerable : (n p : ℕ) (ok : Bool) → Answerable (word_is plan n p ok)
  unfolding word_is
  word_answerable n p ok = then_answerable (require_answerable _ _ _) (require_answerable _ _ _)

  pub reason_word_answerable : (r : Reason) (p : ℕ) (ok : Bool) → Answerable (word_is plan (number_of r) p ok)
  reason_word_answerable r p ok = word_answerable (number_of r) p ok

  pub node_answerable : (s i : ℕ) → Answerable (check_node plan s i)
  node_answerable s i = answerable (node_named plan s i)

  pub transition_answerable : (s t : ℕ) → Answerable (check_transition plan s t)
  transition_answerable s t = answerable (transition_named plan s t)

  pub state_answerable : (s : ℕ) → Answerable (check_state plan s)
  state_answerable s = answerable (state_named plan s)

  pub header_answerable : Answerable (check_header plan)
  header_answerable = answerable (header_named plan)

  pub parent_answerable : (j : ℕ) → Answerable (check_parent plan j)
  parent_answerable j = answerable (parent_named plan j)

  pub clip_answerable : (c : ℕ) → Answerable (check_clip plan c)
  clip_answerable c = answerable (clip_named plan c)

  pub check_answerable : (n : ℕ) → Answerable (check plan n)
  check_answerable n = answerable (check_named plan n)

  pub frame_answerable : (numbers : List Float) (p : Player) (n : ℕ) → Answerable (frame_verdict plan numbers p n)
  frame_answerable numbers p n = answerable (frame_named plan numbers p n)

  pub loops_answerable : (numbers : List Float) (p : Player) (s n : ℕ) → Answerable (loops_verdict plan numbers p s n)
  loops_answerable numbers p s n = answerable (loops_named plan numbers p s n)
