-- What a step of a conflict finds.
use mathlib.Core.List.{List}
use Prim.Native.Nat.{ℕ}
use Rattle.state.specs.declared.Status.{Status}
use Rattle.state.proofs.States.{trail_well_formed, conflict_within}
use Rattle.conflicts.specs.Conflicts.{Conflicted, Found}

-- what a step of a conflict finds
pub found : (w n : ℕ) (ts ws : List ℕ) (st : Status) {t : ℕ} → Conflicted w n ts ws st t → Found w n ws st.count
found w n ts ws st g =
    record {
      laid = g.standing.held.laid;
      well_formed = trail_well_formed w n ws st g.standing.well_formed;
      within = conflict_within w n ws st g.conflict g.standing.well_formed;
    }
