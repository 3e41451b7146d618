-- A player and answers as hosts in C and Rust hold them, without enums. Definitions only.
use Rattle.std.specs.Prelude.{ℕ, ◌≡◌, cond, ◌⊎◌, eqb, Float}
use Rattle.model.specs.declared.Player.{Player}
use Rattle.model.specs.declared.Transition.{Transition}
use Rattle.model.specs.declared.Transition.TheVariants.{Idle, Running}
use Rattle.model.specs.Numbers.{0f}
use Rattle.model.specs.Answers.{Verdict, accepted, refused}
use Rattle.model.specs.Text as Text
use Rattle.model.specs.Text.{TextVerdict}
use Rattle.host_player.specs.declared.HostPlayer.{HostPlayer}
use Rattle.host_player.specs.declared.HostAnswer.{HostAnswer}
use Rattle.host_player.specs.declared.HostTextAnswer.{HostTextAnswer}

-- ---- the player

-- 0 is idle; any other number is in a transition
unfoldable pub transition_of : ℕ → Float → ℕ → Float → Transition
transition_of running start target duration = cond (eqb running 0) Idle (Running start target duration)

-- the player that a flat one stands for, whatever it holds
unfoldable pub unpacked : HostPlayer → Player
unpacked f = record {
  clock = f.clock;
  speed = f.speed;
  state = f.state;
  transition = transition_of f.running f.start f.target f.duration;
  parameters = f.parameters;
  instances = f.instances;
}

unfoldable pub packed_with : Player → ℕ → Float → ℕ → Float → HostPlayer
packed_with p running start target duration = record {
  clock = p.clock;
  speed = p.speed;
  state = p.state;
  running = running;
  start = start;
  target = target;
  duration = duration;
  parameters = p.parameters;
  instances = p.instances;
}

unfoldable pub packed_as : Player → Transition → HostPlayer
packed_as p Idle = packed_with p 0 0f 0 0f
packed_as p (Running start target duration) = packed_with p 1 start target duration

-- the flat player that calls store
unfoldable pub packed : Player → HostPlayer
packed p = packed_as p p.transition

-- the transition's fields of a flat player that a call stored: zeros, or a 1 that is followed by anything
abbrev pub AsPacked : ℕ → Float → ℕ → Float → Type 0
AsPacked running start target duration = ((running ≡ 0) × (start ≡ 0f) × (target ≡ 0) × (duration ≡ 0f)) ⊎ (running ≡ 1)

abbrev pub AsStored : HostPlayer → Type 0
AsStored f = AsPacked f.running f.start f.target f.duration

-- ---- answers: number 0 is the acceptance

unfoldable pub host_answer : Verdict → HostAnswer
host_answer accepted = record { number = 0; place = 0 }
host_answer (refused number place rest) = record { number = number; place = place }

unfoldable pub host_text_answer : TextVerdict → HostTextAnswer
host_text_answer (Text.accepted words numbers) = record { number = 0; place = 0; words = words; numbers = numbers }
host_text_answer (Text.refused number place rest) = record { number = number; place = place; words = 0; numbers = 0 }
