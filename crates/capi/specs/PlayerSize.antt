-- The bytes of a host's player, and of the answers about what a figure can use and about loops, by the memory that every proof here speaks of: each field begins at the next multiple
-- of its alignment, and the whole is a multiple of the largest. The types are written out, since a clause may not cite what Rattle makes of a struct; that they are the structs' own is
-- `player_is`, `uses_is` and `loops_is` in proofs/OwnTypes.antt. Definitions only.
use Rattle.std.specs.Prelude.{ℕ, ◌*◌}
use Rattle.std.specs.Float.{binary32, binary64}
use Rattle.std.proofs.Math.Option.{Option, none, some}
use mir.Syntax.{Ty, ty_int, ty_bool, ty_float, ty_array, ty_struct, tnil, tcons, w64}
use prog.Memory.{size, field_of}
use Rattle.model.specs.Plan.{max_parameters, max_clip_nodes, max_states, max_clips}
use Rattle.model.specs.BenchText.{bytes}

-- `host_player::HostPlayer`: clock, speed, state, running, start, target, duration, parameters, and an instance's three floats for each clip node
abbrev pub player : Ty
player =
    ty_struct (bytes "host_player::HostPlayer")
    (tcons (ty_float binary64) (tcons (ty_float binary64) (tcons (ty_int w64) (tcons (ty_int w64) (tcons (ty_float binary64) (tcons (ty_int w64)
    (tcons (ty_float binary32) (tcons (ty_array (ty_float binary32) max_parameters) (tcons (ty_array (ty_float binary32) (3 * max_clip_nodes)) tnil)))))))))

-- `host_uses::HostUses`: number, place, the marks of states, parameters and clips
abbrev pub uses : Ty
uses =
    ty_struct (bytes "host_uses::HostUses")
    (tcons (ty_int w64) (tcons (ty_int w64) (tcons (ty_array ty_bool max_states) (tcons (ty_array ty_bool max_parameters) (tcons (ty_array ty_bool max_clips) tnil)))))

-- `host_loops::HostLoops`: number, place, loops, rest
abbrev pub loops : Ty
loops =
    ty_struct (bytes "host_loops::HostLoops")
    (tcons (ty_int w64) (tcons (ty_int w64) (tcons (ty_int w64) (tcons (ty_int w64) tnil))))

abbrev pub player_bytes : ℕ
player_bytes = size player

-- where field k begins
abbrev place_in : Option (Ty × ℕ) → ℕ
place_in none = 0
place_in (some (field, place)) = place

abbrev pub field_place : ℕ → ℕ
field_place k = place_in (field_of player k)

-- the same of what hosts are told by `gentianlathe_uses`
abbrev pub uses_bytes : ℕ
uses_bytes = size uses

abbrev pub uses_place : ℕ → ℕ
uses_place k = place_in (field_of uses k)

-- and by `gentianlathe_loops`
abbrev pub loops_bytes : ℕ
loops_bytes = size loops

abbrev pub loops_place : ℕ → ℕ
loops_place k = place_in (field_of loops k)
