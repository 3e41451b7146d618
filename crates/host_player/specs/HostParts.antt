-- A flat player by its parts, as functions have it that borrow its arrays. Definitions only.
use Rattle.std.specs.Prelude.{◌≡◌, List, Float}
use Rattle.frames.specs.declared.Parts.{Parts}
use Rattle.frames.specs.Parts.{player_of}
use Rattle.host_player.specs.HostPlayer.{unpacked, packed}
use Rattle.host_player.specs.declared.HostPlayer.{HostPlayer}
use Rattle.host_player.specs.declared.HostParts.{HostParts}

abbrev pub host_of : HostParts → List Float → List Float → HostPlayer
host_of parts parameters instances = record {
  clock = parts.clock;
  speed = parts.speed;
  state = parts.state;
  running = parts.running;
  start = parts.start;
  target = parts.target;
  duration = parts.duration;
  parameters = parameters;
  instances = instances;
}

-- and its parts
abbrev pub parts_of_host : HostPlayer → HostParts
parts_of_host f = record { clock = f.clock; speed = f.speed; state = f.state; running = f.running; start = f.start; target = f.target; duration = f.duration }

-- with any arrays: the player that the flat one stands for, and the flat player that calls store
abbrev pub UnpackedParts : HostParts → Parts → Type 0
UnpackedParts flat parts = (parameters instances : List Float) → player_of parts parameters instances ≡ unpacked (host_of flat parameters instances)

abbrev pub PackedParts : Parts → HostParts → Type 0
PackedParts parts flat = (parameters instances : List Float) → host_of flat parameters instances ≡ packed (player_of parts parameters instances)
