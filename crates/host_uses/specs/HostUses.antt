-- What a figure can use, as hosts in C and Rust hold it. Definitions only.
use Rattle.std.specs.Prelude.{ℕ, ◌≡◌, false, List, Float}
use Rattle.model.specs.Answers.{unless_refused}
use Rattle.model.specs.Plan.{max_clips, max_parameters, max_states}
use Rattle.model.specs.Run.{start_verdict}
use Rattle.model.specs.Uses.{marks, state_marks, parameter_marks, clip_marks}
use Rattle.host_player.specs.declared.HostAnswer.{HostAnswer}
use Rattle.host_player.specs.HostPlayer.{host_answer}
use Rattle.host_uses.specs.declared.HostUses.{HostUses}

-- number and place, as of the other calls
abbrev pub answer_in : HostUses → HostAnswer
answer_in r = record { number = r.number; place = r.place }

-- model's `UsesFound`, without an enum
pub record HostUsesFound (plan : List ℕ) (numbers : List Float) (r : HostUses) : Type 0 where
  pub answer : answer_in r ≡ host_answer (start_verdict plan numbers)
  pub states : r.states ≡ unless_refused (start_verdict plan numbers) (state_marks plan) (marks max_states (λ k. false))
  pub parameters : r.parameters ≡ unless_refused (start_verdict plan numbers) (parameter_marks plan) (marks max_parameters (λ k. false))
  pub clips : r.clips ≡ unless_refused (start_verdict plan numbers) (clip_marks plan) (marks max_clips (λ k. false))
