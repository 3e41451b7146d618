-- Document 01, "Bench sheet": the cases a to l over the definitions, as one table; then its unmarked cases, the printed example and its traps.
use Rattle.std.specs.Prelude.{ℕ, zero, suc, ◌+◌, ◌*◌, ◌<◌, ◌≡◌, refl, Bool, true, false, List, [], ◌∷◌, replicate, ℤ, Float}
use Rattle.std.proofs.Common.{ap}
use Rattle.std.specs.Float.{nan, inf, fin, binary64}
use Rattle.std.specs.Float.Ieee.{sub, add, div, neg, of_bits}
use Rattle.std.specs.Float.Ieee.Exact.{HasValue}
use Rattle.model.specs.declared.Pose.{Pose}
use Rattle.model.specs.declared.Player.{Player}
use Rattle.model.specs.declared.Transition.TheVariants.{Idle, Running}
use Rattle.model.specs.declared.FrameKind.TheVariants.{Ordinary}
use Rattle.model.specs.Numbers.{◌-₆₄◌, 0f, 1f, half, narrow}
use Rattle.model.specs.Pose.{to_matrix}
use Rattle.model.specs.Answers.{accepted, refused}
use Rattle.model.specs.Plan.{root}
use Rattle.model.specs.Check.{check}
use Rattle.model.specs.Controller.{with_state, with_transition, now_at, elapsed, is_ended, step_from, transition_factor}
use Rattle.model.specs.Run.{start_verdict, start_player, Frame, chosen_floats}
use Rattle.model.proofs.Laws.Wholes.{not_zero, denominator_pos, less_itself}
use Rattle.model.proofs.Laws.Opened.{check_opened, floats_opened, all_opened}
use Rattle.model.specs.Bench.{2f, 3f, 2·5f, 3·5f, Bench, with_parents, four_hundred, printed_plan, printed_numbers}

-- ---- floats by their bits

-- ---- the sheet

moved : (p : Player) → p.clock ≡ 2f → p.speed ≡ 3f → (now_at p half ≡ 2·5f) × (elapsed p half ≡ 3·5f)
unfolding floats_opened
moved p c s = (rw c, rw (c, s))

pub bench : Bench
unfolding floats_opened
bench =
    record { a = refl; b = refl; c = refl; d = refl; e = (refl, refl, refl); f = (refl, refl, refl); g = (refl, refl, refl); h = (refl, refl); i = (refl, refl); j = refl; k = moved; l = refl }

-- ---- unmarked: the limit of J, moved by document 02's Card 11: '400 joints pass, 401 are refused'

pub joints_400 : check four_hundred (1 + 8 * 400) ≡ accepted
unfolding check_opened with_parents four_hundred
joints_400 = refl

pub joints_401 : (n : ℕ) → check (with_parents (replicate 401 root)) n ≡ refused 2 0 0
unfolding check_opened with_parents
joints_401 n = refl

-- ---- unmarked: a transition of duration 0 divides 0 by 0 in the frame that starts it, whenever that is

zero_by_zero : (c : ℕ) (v : Float) → 0 < c → HasValue v false 0 c → div binary64 v 0f ≡ nan
unfolding div of_bits
zero_by_zero c nan p h = absurd h
zero_by_zero c (inf t) p h = absurd h
zero_by_zero c (fin t zero e) p h = refl
zero_by_zero c (fin t (suc m) e) p h = absurd (not_zero c m e p h.1)

self_difference : (s : Bool) (m : ℕ) (e : ℤ) → div binary64 (fin s m e -₆₄ fin s m e) 0f ≡ nan
self_difference s m e = zero_by_zero _ _ (denominator_pos e) (less_itself binary64 s m e)

pub duration_0 : (now : Float) → transition_factor now now 0f ≡ nan
unfolding transition_factor narrow div sub add neg
duration_0 nan = refl
duration_0 (inf true) = refl
duration_0 (inf false) = refl
duration_0 (fin s m e) = ap narrow (self_difference s m e)

-- ---- the printed example

pub printed_starts : start_verdict printed_plan printed_numbers ≡ accepted
unfolding all_opened printed_plan printed_numbers
printed_starts = refl

pub printed_shows :
    chosen_floats printed_plan printed_numbers (0 ∷ []) (start_player printed_plan printed_numbers) (Frame Ordinary 0f 16)
    ≡ (1f ∷ 0f ∷ 0f ∷ 1f ∷ 0f ∷ 1f ∷ 0f ∷ 2f ∷ 0f ∷ 0f ∷ 1f ∷ 3f ∷ 0f ∷ 0f ∷ 0f ∷ 1f ∷ []) ∷ []
unfolding all_opened printed_plan printed_numbers
printed_shows = refl

-- ---- traps (a true reciprocal root fails a, ext times speed in now fails k)

-- scale in matrices: no pose's scale reaches its matrix
pub no_scale : (p : Pose) (x : Float) → to_matrix (record { translation = p.translation; scale = x; rotation = p.rotation }) ≡ to_matrix p
unfolding to_matrix
no_scale p x = refl

-- a second step: the frame that finds a transition ended leaves the player idle, whatever conditions hold
pub one_step : (plan : List ℕ) (numbers : List Float) (now : Float) (p : Player) (start : Float) (target : ℕ) (duration : Float)
    → is_ended now start duration ≡ true
    → step_from plan numbers now p (Running start target duration) ≡ with_transition (with_state p target) Idle
unfolding step_from
one_step plan numbers now p start target duration e = rw e
