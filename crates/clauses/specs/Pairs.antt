-- Members and arguments by value, as lists.
use Rattle.std.specs.Prelude.{List, [], ◌∷◌, ℕ, zero, suc}
use Rattle.calculus.specs.declared.Premise.{Premise}
use Rattle.calculus.specs.Terms.{filled}
use Rattle.rule_claims.specs.Claims.{stated, no_premise}
use Rattle.clauses.specs.declared.Members.{Members}
use Rattle.clauses.specs.declared.Left.{Left}

abbrev pub members_of : Members → List Premise
members_of h = stated (h.p ∷ h.q ∷ h.r ∷ h.s ∷ [])

-- the members but the first
abbrev pub others_of : Members → Members
others_of h = record { p = h.q; q = h.r; r = h.s; s = no_premise }

-- those from k on
unfoldable pub from : ℕ → Members → Members
from zero h = h
from (suc k) h = others_of (from k h)

abbrev pub left_of : Left → List ℕ
left_of e = filled (e.a ∷ e.b ∷ e.c ∷ e.d ∷ [])
