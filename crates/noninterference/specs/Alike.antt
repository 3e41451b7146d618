-- Demand 3's premises: closed sets, and when numbers and calls are alike but for what `model`'s `Unseen` lists. Definitions only.
-- Plans that agree word for word are one plan here.
use Rattle.std.specs.Prelude.{ℕ, ◌<◌, ◌≡◌, true, false, length, get_or, Float}
use mathlib.Core.List.{List, [], ◌∷◌, Memᴰ}
use Rattle.std.specs.Float.{nan}
use Rattle.model.specs.declared.FrameKind.{FrameKind}
use Rattle.model.specs.Plan.{joint_count, parent, is_root, NumberName, number_at}
use Rattle.model.specs.Run.{Call, Update, Speed, Set, Frame, Loops}
use Rattle.model.specs.Uses.{is_marked, parameter_marks}
use Rattle.model.specs.Unseen.{HasNumber, Unseen}

-- a 'closed set' of joints has each member's parent, unless that member is a root
pub record Closed (plan chosen : List ℕ) : Type 0 where
  pub are_joints : (j : ℕ) → Memᴰ j chosen → j < joint_count plan
  pub parents : (j : ℕ) → Memᴰ j chosen → is_root plan j ≡ false → Memᴰ (parent plan j) chosen

-- place k holds an unseen number
pub record UnseenAt (plan chosen : List ℕ) (k : ℕ) : Type 0 where
  pub name : NumberName
  pub in_plan : HasNumber plan name
  pub here : number_at plan name ≡ k
  pub unseen : Unseen plan chosen name

-- numbers 'alike'
pub record AlikeNumbers (plan chosen : List ℕ) (a b : List Float) : Type 0 where
  pub lengths : length a ≡ length b
  pub places : (k : ℕ) → k < length a → ¬ UnseenAt plan chosen k → get_or a k nan ≡ get_or b k nan

-- calls 'alike'. A value set may differ exactly on a parameter that no reachable state reads, which its mark tells
pub data AlikeCall (plan : List ℕ) : Call → Call → Type 0 where
  updates : (delta : Float) → AlikeCall plan (Update delta) (Update delta)
  speeds : (v : Float) → AlikeCall plan (Speed v) (Speed v)
  sets : (n : ℕ) (v w : Float) → (is_marked (parameter_marks plan) n ≡ true → v ≡ w) → AlikeCall plan (Set n v) (Set n w)
  frames : (kind : FrameKind) (ext : Float) (output_length : ℕ) → AlikeCall plan (Frame kind ext output_length) (Frame kind ext output_length)
  questions : (s n : ℕ) (time : Float) → AlikeCall plan (Loops s n time) (Loops s n time)

-- one by one
pub data AlikeCalls (plan : List ℕ) : List Call → List Call → Type 0 where
  none : AlikeCalls plan [] []
  next : {c d : Call} {cs ds : List Call} → AlikeCall plan c d → AlikeCalls plan cs ds → AlikeCalls plan (c ∷ cs) (d ∷ ds)
