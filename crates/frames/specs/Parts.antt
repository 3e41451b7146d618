-- A player by its parts, as functions have it that borrow its arrays. Definitions only.
use Rattle.std.specs.Prelude.{ℕ, ◌≡◌, List, Float, Result}
use Rattle.model.specs.declared.Refusal.{Refusal}
use Rattle.model.specs.declared.FrameKind.{FrameKind}
use Rattle.model.specs.declared.Player.{Player}
use Rattle.model.specs.declared.Outcome.{Outcome}
use Rattle.model.specs.declared.Transition.{Transition}
use Rattle.model.specs.Answers.{values}
use Rattle.model.specs.Controller.{frame_verdict}
use Rattle.model.specs.Skeleton.{written}
use Rattle.model.specs.Run.{frame_player, frame_matrices}
use Rattle.model.specs.Promises.{Framed}
use Rattle.frames.specs.declared.Parts.{Parts}
use Rattle.frames.specs.declared.FrameParts.{FrameParts}

-- a player's
abbrev pub parts_of : Player → Parts
parts_of p = record { clock = p.clock; speed = p.speed; state = p.state; transition = p.transition }

-- the parts after a frame
abbrev pub moved : Parts → ℕ → Transition → Parts
moved parts state transition = record { clock = parts.clock; speed = parts.speed; state = state; transition = transition }

-- the player that has these parts
abbrev pub player_of : Parts → List Float → List Float → Player
player_of parts parameters instances =
    record { clock = parts.clock; speed = parts.speed; state = parts.state; transition = parts.transition; parameters = parameters; instances = instances }

-- the outcome that the parts of a frame and the instances left behind make up
abbrev pub outcome_of : Parts → FrameParts → List Float → List Float → Outcome
outcome_of parts r parameters instances = record { answer = r.answer; player = player_of (moved parts r.state r.transition) parameters instances }

-- a frame's promise of the player that lent these parts and arrays: `before` and `after` are its instances, `old` and `new` the output
abbrev pub FramedParts : FrameKind → List ℕ → List Float → Parts → List Float → Float → List Float → List Float → List Float → List Float → FrameParts → Type 0
FramedParts kind plan numbers parts parameters ext before after old new r =
    Framed kind plan numbers (player_of parts parameters before) ext old new (outcome_of parts r parameters after)

-- the answer to a frame of a figure that a start accepts, whatever else the player holds
pub record FrameAnswered (plan : List ℕ) (numbers : List Float) (parts : Parts) (output_length : ℕ) (r : Result Unit Refusal) : Type 0 where
  pub answer : (parameters instances : List Float) → values r ≡ frame_verdict plan numbers (player_of parts parameters instances) output_length

-- a frame that nothing refuses: p becomes q, and the output changes from `old` to `new`
pub record FramePlayed (kind : FrameKind) (plan : List ℕ) (numbers : List Float) (p : Player) (ext : Float) (old new : List Float) (q : Player) : Type 0 where
  pub player : q ≡ frame_player plan numbers p ext
  pub output : new ≡ written plan (frame_matrices plan numbers p ext kind) old
