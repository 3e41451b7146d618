-- What calls show is the run by definition, as text: each observation, and behind it what its call is told. Assumes nothing.
use Rattle.std.specs.Prelude.{ℕ, ◌≡◌, Float}
use Rattle.std.proofs.Math.Path.{refl}
use mathlib.Core.List.{List, [], ◌∷◌, ◌++◌, map, zip_with, flatten, flat_map, append-nil}
use mathlib.Core.List.{Memᴰ}
use Rattle.model.specs.declared.Player.{Player}
use Rattle.model.specs.Answers.{Verdict, accepted, refused, unless_refused}
use Rattle.model.specs.Plan.{joint_count}
use Rattle.model.specs.Run.{Call, call_verdict, after, told, run_from}
use Rattle.report.specs.Report.{below, observation_text, told_text}
use Rattle.replay_core.specs.Replay.{told_if_accepted, call_report, report_from}

module _ (plan : List ℕ) (numbers : List Float) where
  -- what each of some calls is told
  unfoldable pub told_from : Player → List Call → List (List ℕ)
  told_from p [] = []
  told_from p (c ∷ cs) = told_if_accepted plan numbers p c ∷ told_from (after plan numbers p c) cs

  pub report_is_run : (p : Player) (cs : List Call)
      → let run = run_from plan numbers (below (joint_count plan)) p cs in
      report_from plan numbers p cs ≡ flatten (zip_with ◌++◌ (map observation_text run) (map told_text (told_from p cs)))
  unfolding report_from call_report run_from told_from zip_with flatten
  report_is_run p [] = refl
  report_is_run p (c ∷ cs) = rw (report_is_run (after plan numbers p c) cs)

  -- a call that tells nothing adds nothing to its observation
  no_more : (v : Verdict) {ns : List ℕ} → ns ≡ [] → told_text (unless_refused v ns []) ≡ []
  unfolding told_text unless_refused
  no_more accepted e = rw e
  no_more (refused number place rest) e = refl

  -- of calls that tell nothing, whatever the player: the run's observations and nothing else
  pub report_is_run_alone : (p : Player) (cs : List Call)
      → ((c : Call) → Memᴰ c cs → (q : Player) → told plan numbers q c ≡ [])
      → report_from plan numbers p cs ≡ flat_map observation_text (run_from plan numbers (below (joint_count plan)) p cs)
  unfolding report_from call_report run_from flat_map
  report_is_run_alone p [] none = refl
  report_is_run_alone p (c ∷ cs) none =
      let here = no_more (call_verdict plan numbers p c) (none c (Memᴰ.head refl) p) in
      rw (here, append-nil, report_is_run_alone (after plan numbers p c) cs (λ d m. none d (Memᴰ.tail m)))
