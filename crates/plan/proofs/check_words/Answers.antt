-- `plan::check_words` meets its contract: four parts in the definition's order; a header that passed bounds the counts. Assumes nothing.
use native.Mathlib.Omega.{arith}
use Prim.Native.Nat.{ℕ, ◌≤◌}
use mathlib.Core.Path.{◌≡◌, ap, ◌∙◌}
use mathlib.Core.List.{List}
use Rattle.model.specs.Answers.{accepted}
use Rattle.model.specs.Plan.{max_states_at, joint_count, clip_count, parameter_count, state_count, sample_count_at, state_at, plan_end}
use Rattle.model.specs.Check.{check_header}
use Rattle.model.proofs.Laws.Header as header
use Rattle.plan.specs.Parts.{check_words}
use Rattle.std.proofs.lemmas.Result.{IfOk-from_err}
use Rattle.model.proofs.Laws.Exits.{leaves, more, goes, passed}
use Rattle.plan.proofs.check_words.Goals as goal

-- where the first state begins
states-begin : (plan : List ℕ) → check_header plan ≡ accepted → (at : ℕ) → at ≡ sample_count_at plan (clip_count plan) → at ≤ max_states_at
unfolding sample_count_at
states-begin plan ok at e = omega (arith, e, header.few_joints plan ok, header.few_clips plan ok)

pub returns-in_err-check_header : goal.returns-in_err-check_header
unfolding check_words
returns-in_err-check_header c =
    let exit = c.from_residual.ensures in
    record { answer = leaves _ _ _ _ exit.1 (more _ _ _ _ (more _ _ _ _ (more _ _ _ _ c.in_err-check_header.ensures))); end = IfOk-from_err _ _ exit.0; transitions = IfOk-from_err _ _ exit.0 }

pub check_parents-requires : goal.check_parents-requires
unfolding joint_count
check_parents-requires c = c.word-joints.ensures

pub returns-in_err-check_parents : goal.returns-in_err-check_parents
unfolding check_words joint_count
returns-in_err-check_parents c =
    let exit = c.from_residual-in_err-check_parents.ensures in
    let parents = goes _ _ _ _ c.in_ok-check_header.ensures (rw c.word-joints.ensures.0 at c.in_err-check_parents.ensures) in
    record { answer = leaves _ _ _ _ exit.1 (more _ _ _ _ (more _ _ _ _ parents)); end = IfOk-from_err _ _ exit.0; transitions = IfOk-from_err _ _ exit.0 }

pub check_clips-requires : goal.check_clips-requires
unfolding joint_count
check_clips-requires c = (c.word-joints.ensures.0, c.word-joints.ensures.1, c.word-clips.ensures.1)

pub returns-in_err-check_clips : goal.returns-in_err-check_clips
unfolding check_words joint_count clip_count
returns-in_err-check_clips c =
    let exit = c.from_residual-in_err-check_clips.ensures in
    let parents = goes _ _ _ _ c.in_ok-check_header.ensures (rw c.word-joints.ensures.0 at c.in_ok-check_parents.ensures) in
    let clips = goes _ _ _ _ parents (rw c.word-clips.ensures.0 at c.in_err-check_clips.ensures) in
    record { answer = leaves _ _ _ _ exit.1 (more _ _ _ _ clips); end = IfOk-from_err _ _ exit.0; transitions = IfOk-from_err _ _ exit.0 }

pub check_states-requires : goal.check_states-requires
unfolding joint_count clip_count parameter_count state_count state_at
check_states-requires c =
    let ok = passed _ _ c.in_ok-check_header.ensures in
    let e1 = c.word-joints.ensures.0 in
    let e2 = c.word-clips.ensures.0 in
    let e4 = c.word-2.ensures.0 in
    let place = c.sample_count_at.ensures _ e1 in
    (states-begin _ ok _ (place ∙ ap (sample_count_at _) e2), place ∙ ap (sample_count_at _) e2, record { clips = e2; parameters = c.word.ensures.0; states = e4 }, omega (arith, e4, header.few_states _ ok))

pub returns : goal.returns
unfolding check_words joint_count clip_count state_count plan_end
returns c =
    let parents = goes _ _ _ _ c.in_ok-check_header.ensures (rw c.word-joints.ensures.0 at c.in_ok-check_parents.ensures) in
    let clips = goes _ _ _ _ parents (rw c.word-clips.ensures.0 at c.in_ok-check_clips.ensures) in
    let states = rw c.word-2.ensures.0 at c.check_states.ensures in
    record { answer = goes _ _ _ _ clips states.answer; end = states.end; transitions = states.transitions }
