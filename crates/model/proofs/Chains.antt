-- Document 02, Card 3: what the marks of a figure that a start accepts say. A state is marked exactly when a chain of at most S − 1 transitions leads to it
-- from the initial one, and exactly when it is reachable as document 01 closes it; the same for parameters read and clips played.
use Rattle.std.specs.Prelude.{ℕ, ◌-◌, ◌≡◌, true, List}
use Rattle.model.specs.Answers.{accepted}
use Rattle.model.specs.Plan.{state_count}
use Rattle.model.specs.Check.{check}
use Rattle.model.specs.Uses.{is_marked, reads, plays, state_marks, parameter_marks, clip_marks, ChainWithin, UsedWithin}
use Rattle.model.specs.Unseen.{Reachable, Played, Read}
use Rattle.model.proofs.Laws.Reached.{marked_chain, chain_marked, marked_reachable, reachable_marked, marked_played, played_marked, marked_read, read_marked, marked_reader, reader_marked, marked_player, player_marked}
use Rattle.model.specs.Chains.{Exactly}

module _ (plan : List ℕ) (n : ℕ) (ok : check plan n ≡ accepted) where
  -- ---- by chains of at most S − 1 transitions

  abbrev most : ℕ
  most = state_count plan - 1

  pub state_by_chain : (s : ℕ) → Exactly (is_marked (state_marks plan) s ≡ true) (ChainWithin plan most s)
  state_by_chain s = (marked_chain plan n ok s, chain_marked plan n ok s)

  pub parameter_by_chain : (p : ℕ) → Exactly (is_marked (parameter_marks plan) p ≡ true) (UsedWithin plan most (reads plan) p)
  parameter_by_chain p = (marked_reader plan n ok p, reader_marked plan n ok p)

  pub clip_by_chain : (c : ℕ) → Exactly (is_marked (clip_marks plan) c ≡ true) (UsedWithin plan most (plays plan) c)
  clip_by_chain c = (marked_player plan n ok c, player_marked plan n ok c)

  -- ---- by document 01's closure, whose chains are of any length

  pub state_reachable : (s : ℕ) → Exactly (is_marked (state_marks plan) s ≡ true) (Reachable plan s)
  state_reachable s = (marked_reachable plan n ok, reachable_marked plan n ok)

  pub parameter_read : (p : ℕ) → Exactly (is_marked (parameter_marks plan) p ≡ true) (Read plan p)
  parameter_read p = (marked_read plan n ok, read_marked plan n ok)

  pub clip_played : (c : ℕ) → Exactly (is_marked (clip_marks plan) c ≡ true) (Played plan c)
  clip_played c = (marked_played plan n ok, played_marked plan n ok)
