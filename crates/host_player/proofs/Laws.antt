-- What the calls on flat players come to, over plain values: the promise of each answer. Assumes nothing.
use Prim.Native.Nat.{ℕ}
use mathlib.Core.Path.{◌≡◌, refl, sym, ap, ◌∙◌}
use mathlib.Core.List.{List}
use lib.ListN.{length}
use lib.Ieee.{Float}
use Rattle.std.specs.Prelude.{Ok, Err}
use Rattle.model.specs.declared.Refusal.{Refusal}
use Rattle.model.proofs.Laws.Exits.{never}
use Rattle.model.specs.declared.Outcome.{Outcome}
use Rattle.model.specs.declared.Player.{Player}
use Rattle.model.specs.declared.FrameKind.{FrameKind}
use Rattle.model.specs.Answers.{Verdict, accepted, refused, values, unless_refused}
use Rattle.model.specs.Controller.{frame_verdict}
use Rattle.model.specs.Promises.{ParameterSet, Framed}
use Rattle.frames.specs.declared.Parts.{Parts}
use Rattle.frames.specs.declared.FrameParts.{FrameParts}
use Rattle.frames.specs.Parts.{moved, player_of, outcome_of}
use Rattle.host_player.specs.declared.HostPlayer.{HostPlayer}
use Rattle.host_player.specs.declared.HostAnswer.{HostAnswer}
use Rattle.host_player.specs.declared.HostParts.{HostParts}
use Rattle.host_player.specs.HostPlayer.{unpacked, packed, host_answer}
use Rattle.host_player.specs.HostPromises.{host_after, HostParameterSet, HostFramed}
use Rattle.host_player.specs.HostParts.{host_of, UnpackedParts, PackedParts}

-- ---- the flat player after a call

-- a call on the player between the two conversions
pub between : (f : HostPlayer) {p q : Player} {r : HostPlayer} (call : Player → Player) → p ≡ unpacked f → q ≡ call p → r ≡ packed q → r ≡ packed (call (unpacked f))
between f call e h k = k ∙ ap packed (h ∙ ap call e)

kept : {X : Type 0} (v : Verdict) (new old : X) → (v ≡ accepted → ⊥) → unless_refused v new old ≡ old
unfolding unless_refused
kept accepted new old h = absurd (h refl)
kept (refused n m k) new old h = refl

after_accepted : (v : Verdict) (p q : Player) (f : HostPlayer) → v ≡ accepted → q ≡ unless_refused v p (unpacked f) → packed q ≡ host_after v p f
unfolding unless_refused
after_accepted v p q f e h = rw e (ap packed (rw e at h))

-- ---- set

module _ (f : HostPlayer) (n : ℕ) (v : Float) (o : Outcome) (done : ParameterSet (unpacked f) n v o) (a : HostAnswer) (told : a ≡ host_answer (values o.answer)) where
  pub set_refused : (e : Refusal) → o.answer ≡ Err e → HostParameterSet f n v f a
  set_refused x is = record { answer = told ∙ ap host_answer done.answer; player = sym (kept _ _ f (λ e. never (Unit {0}) x (sym (ap values is) ∙ done.answer ∙ e))) }

  pub set_accepted : (x : Unit {0}) → o.answer ≡ Ok x → (q : HostPlayer) → q ≡ packed o.player → HostParameterSet f n v q a
  unfolding values
  set_accepted x e q h = record { answer = told ∙ ap host_answer done.answer; player = h ∙ after_accepted _ _ _ f (sym done.answer ∙ ap values e) done.player }

-- ---- frame and page frame

-- the player's parts and arrays, and what the frame of the player that they stand for made of it
module _ {kind : FrameKind} {plan : List ℕ} {numbers : List Float} (flat : HostParts) (before : Parts) {ps is : List Float} {ext : Float} {old new after : List Float} (same : UnpackedParts flat before)
    (frame : FrameParts) (done : Framed kind plan numbers (player_of before ps is) ext old new (outcome_of before frame ps after))
    {a : HostAnswer} (told : a ≡ host_answer (values frame.answer)) where
  abbrev f : HostPlayer
  f = host_of flat ps is

  on_unpacked : Framed kind plan numbers (unpacked f) ext old new (outcome_of before frame ps after)
  on_unpacked = rw same at done

  pub frame_refused : (e : Refusal) → frame.answer ≡ Err e → HostFramed kind plan numbers f ext old new (host_of flat ps after) a
  unfolding unpacked
  frame_refused x told_err =
      let no : frame_verdict plan numbers (unpacked f) (length old) ≡ accepted → ⊥ = λ e. never (Unit {0}) x (sym (ap values told_err) ∙ on_unpacked.answer ∙ e) in
      let left : after ≡ is = ap (λ (q : Player). q.instances) (on_unpacked.player ∙ kept _ _ _ no) in
      record { answer = told ∙ ap host_answer on_unpacked.answer; player = rw left (sym (kept _ _ f no)); output = on_unpacked.output }

  pub frame_accepted : (x : Unit {0}) → frame.answer ≡ Ok x → (r : HostParts) → PackedParts (moved before frame.state frame.transition) r
      → HostFramed kind plan numbers f ext old new (host_of r ps after) a
  unfolding values
  frame_accepted x e r packs = record {
    answer = told ∙ ap host_answer on_unpacked.answer;
    player = packs ps after ∙ after_accepted _ _ _ f (sym on_unpacked.answer ∙ ap values e) on_unpacked.player;
    output = on_unpacked.output;
  }
