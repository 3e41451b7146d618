-- What the program's parts come to, over plain values. Assumes nothing.
use Prim.Native.Nat.{ℕ, ◌≤◌}
use native.Mathlib.Omega.{arith}
use mathlib.Core.Path.{◌≡◌, sym, ap, ◌∙◌}
use mathlib.Core.List.{List}
use lib.ListN.{length}
use lib.Ieee.{Float}
use borrow.Author.Tests.{lt-ltb, le-leb}
use Rattle.model.specs.declared.FrameKind.TheVariants.{Ordinary}
use Rattle.model.specs.declared.Outcome.{Outcome}
use Rattle.model.specs.declared.Player.{Player}
use Rattle.model.specs.declared.Refusal.{Refusal}
use Rattle.std.specs.Prelude.{Ok, Err}
use Rattle.model.specs.Numbers.{0f}
use Rattle.model.specs.Answers.{accepted, number_of, values, ◌then◌, require, unless_refused}
use Rattle.model.specs.Plan.{max_joints, max_output, joint_count_at, word, joint_count, state_count}
use Rattle.model.specs.Plan.{initial_state, output_at}
use Rattle.model.specs.Controller.{blank, fresh, is_target_below, frame_verdict}
use Rattle.model.specs.Skeleton.{written}
use Rattle.model.specs.Run.{start_verdict, start_player, frame_matrices}
use Rattle.model.specs.Program.{refused_line, joint_line, played, figure_printed}
use Rattle.model.specs.Promises.{Started, Framed}
use Rattle.model.proofs.Laws.Output.{matrix_at_lem, frame_length}
use Rattle.model.proofs.Laws.Passed.{initial_below, few_joints}
use Rattle.printing.specs.Written.{joint_lines}
use Rattle.printing.proofs.Laws.{joined_same}

-- ---- one frame

module _ (plan : List ℕ) (numbers : List Float) (started : start_verdict plan numbers ≡ accepted) where
  pub few_shown : word plan joint_count_at ≤ max_joints
  unfolding start_verdict joint_count
  few_shown = few_joints plan (length numbers) started

  -- no frame of a figure that started is refused, if there is room for all joints
  fresh_accepted : (n : ℕ) → max_output ≤ n → frame_verdict plan numbers (fresh plan numbers) n ≡ accepted
  unfolding start_verdict frame_verdict joint_count fresh blank is_target_below ◌then◌ require
  fresh_accepted n room =
      let below = lt-ltb (initial_state plan) (state_count plan) (initial_below plan (length numbers) started) in
      rw (started, below, le-leb (output_at (joint_count plan)) n (omega (arith, few_shown)))

  -- the lines of that frame's floats are what is to be printed
  pub frame_lines : (p : Player) (count : ℕ) (old new : List Float) (r : Outcome) → p ≡ fresh plan numbers
      → count ≡ word plan joint_count_at → max_output ≤ length old
      → Framed Ordinary plan numbers p 0f old new r → joint_lines count new ≡ played plan numbers accepted
  unfolding played joint_count written unless_refused
  frame_lines p count old new r e n room done =
      let ms = frame_matrices plan numbers (fresh plan numbers) 0f Ordinary in
      let long = frame_length plan numbers (fresh plan numbers) 0f Ordinary in
      let o : new ≡ written plan ms old = rw (e, fresh_accepted (length old) room) at done.output in
      rw (n, o) (joined_same (joint_count plan) _ _ (λ j h. ap (joint_line j) (matrix_at_lem ms _ j (omega arith))))

-- ---- a start

module _ (plan : List ℕ) (numbers : List Float) (r : Outcome) (done : Started plan numbers r) where
  pub refusal_played : (f : Refusal) → r.answer ≡ Err f
      → refused_line (number_of f.reason) f.place ≡ figure_printed plan numbers
  unfolding values played
  refusal_played f e = rw (← done.answer, e)

  module _ (x : Unit {0}) (e : r.answer ≡ Ok x) where
    pub start_accepted : start_verdict plan numbers ≡ accepted
    unfolding values
    start_accepted = sym done.answer ∙ ap values e

    pub player_fresh : r.player ≡ fresh plan numbers
    unfolding start_player unless_refused
    player_fresh = rw start_accepted at done.player
