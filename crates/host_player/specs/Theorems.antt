-- A player is the same after it was packed and unpacked, and so is a flat player that a call stored. Assumes nothing.
use Rattle.std.specs.Prelude.{ℕ, zero, suc, ◌≡◌, refl, false, eqb, Float}
use Rattle.std.proofs.Common.{sym, ap, arith, inl, inr, ne_eqb}
use Rattle.model.specs.declared.Player.{Player}
use Rattle.model.specs.declared.Transition.{Transition}
use Rattle.model.specs.declared.Transition.TheVariants.{Idle, Running}
use Rattle.model.specs.Controller.{with_transition}
use Rattle.host_player.specs.declared.HostPlayer.{HostPlayer}
use Rattle.host_player.specs.HostPlayer.{transition_of, unpacked, packed, packed_as, packed_with, AsPacked, AsStored}

packed_as_lem : (p : Player) (t : Transition) → unpacked (packed_as p t) ≡ with_transition p t
unfolding unpacked packed_as packed_with transition_of
packed_as_lem p Idle = refl
packed_as_lem p (Running start target duration) = refl

pub unpacked_packed : (p : Player) → unpacked (packed p) ≡ p
unfolding packed
unpacked_packed p = packed_as_lem p p.transition

-- a flat player that no call stored still stands for a player, which packing keeps
pub unpacked_again : (f : HostPlayer) → unpacked (packed (unpacked f)) ≡ unpacked f
unpacked_again f = unpacked_packed (unpacked f)

-- ---- exactly what calls store is the same after it was unpacked and packed

as_packed : (p : Player) (running : ℕ) (start : Float) (target : ℕ) (duration : Float) → AsPacked running start target duration
    → packed_as p (transition_of running start target duration) ≡ packed_with p running start target duration
unfolding packed_as transition_of
as_packed p running start target duration (inl (r, s, t, d)) = rw (r, s, t, d)
as_packed p running start target duration (inr r) = rw r

was_packed : (p : Player) (running : ℕ) (start : Float) (target : ℕ) (duration : Float) → packed_as p (transition_of running start target duration) ≡ packed_with p running start target duration
    → AsPacked running start target duration
unfolding packed_as packed_with transition_of
was_packed p zero start target duration e = inl (refl, sym (ap (λ (f : HostPlayer). f.start) e), sym (ap (λ (f : HostPlayer). f.target) e), sym (ap (λ (f : HostPlayer). f.duration) e))
was_packed p (suc n) start target duration e =
    let no : eqb (suc n) 0 ≡ false = ne_eqb (suc n) 0 (λ z. omega (arith, z)) in
    inr (rw no at (sym (ap (λ (f : HostPlayer). f.running) e)))

pub packed_unpacked : (f : HostPlayer) → AsStored f → packed (unpacked f) ≡ f
unfolding packed unpacked packed_with
packed_unpacked f h = as_packed (unpacked f) f.running f.start f.target f.duration h

pub only_stored : (f : HostPlayer) → packed (unpacked f) ≡ f → AsStored f
unfolding packed unpacked packed_with
only_stored f e = was_packed (unpacked f) f.running f.start f.target f.duration e

packed_as_stored : (p : Player) (t : Transition) → AsStored (packed_as p t)
unfolding packed_as packed_with
packed_as_stored p Idle = inl (refl, refl, refl, refl)
packed_as_stored p (Running start target duration) = inr refl

pub stored : (p : Player) → AsStored (packed p)
unfolding packed
stored p = packed_as_stored p p.transition
