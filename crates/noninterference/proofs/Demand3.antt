-- Demand 3, whole: one theorem about whole lists of calls.
use Rattle.std.specs.Prelude.{ℕ, ◌≡◌, List, map, Float}
use Rattle.std.proofs.Common.{sym, ◌∙◌}
use Rattle.model.specs.Run.{start_verdict, run}
use Rattle.model.specs.Controller.{fresh}
use Rattle.noninterference.specs.Alike.{Closed, AlikeNumbers, AlikeCalls}
use Rattle.noninterference.specs.Trace.{Event, Session, calls, observed}
use Rattle.noninterference.specs.Demand3.{Noninterference}
use Rattle.noninterference.proofs.Laws.Players.{fresh_equivalent, run_same}
use Rattle.noninterference.proofs.Laws.Output.{session_accepted, session_observed}

-- Two accepted figures, any closed set of chosen joints; numbers and calls alike apart from the unseen. Every list of calls, from the players of
-- the accepted starts, refused calls included
pub demand_3 :
    (plan chosen : List ℕ) (a b : List Float)
    → Closed plan chosen
    → AlikeNumbers plan chosen a b
    → (es fs : List Event)
    → Session plan a es
    → Session plan b fs
    → AlikeCalls plan (calls es) (calls fs)
    → Noninterference plan chosen a b es fs
unfolding run start_verdict
demand_3 plan chosen a b closed alike es fs s t k =
    let x : map (observed chosen) es ≡ run plan a chosen (calls es) = session_observed plan chosen a closed s in
    let y : map (observed chosen) fs ≡ run plan b chosen (calls fs) = session_observed plan chosen b closed t in
    let ok : start_verdict plan a ≡ _ = session_accepted plan chosen a closed s in
    record {
      first_as_defined = x;
      second_as_defined = y;
      same = x ∙ run_same plan chosen a b ok closed alike (fresh plan a) (fresh plan b) (fresh_equivalent plan chosen a b ok closed alike) k ∙ sym y;
    }
