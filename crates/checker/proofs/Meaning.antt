-- Whatever the call answers means what specs/Meaning.antt says: the caller's form of the soundness theorem, by the contract of the call alone.
use mathlib.Core.Path.{◌≡◌, ap, sym, subst, ◌∙◌}
use mathlib.Core.List.{List, Memᴰ}
use Prim.Native.Nat.{ℕ, ◌+◌, ◌*◌, ◌<◌}
use lib.ListN.{length, drop, get_or}
use Rattle.calculus.specs.declared.Outcome.{Outcome}
use Rattle.calculus.specs.Sheets.{Call}
use Rattle.calculus.specs.Terms.{sort}
use Rattle.calculus.specs.Trail.{Trail, Entry, trail_numbers_of}
use Rattle.calculus.specs.Steps.{trail_of}
use Rattle.calculus.specs.Run.{ending, outcome, trail_after}
use Rattle.calculus.proofs.Columns.{Columns, columns}
use Rattle.soundness.specs.Interpretation.{value, Entails}
use Rattle.soundness.specs.Claim.{Given}
use Rattle.soundness.proofs.Theorem.{sound}
use Rattle.checker.specs.Contract.{Answered}
use Rattle.checker.specs.Meaning.{Meaning}

module _ {x : Call} {r : Outcome} {workspace buffer : List ℕ} (a : Answered x r workspace buffer) where
  abbrev trail : Trail
  trail = trail_of (ending x).state

  counted : r.entries ≡ length trail
  unfolding outcome
  counted = ap (λ o. o.entries) a.result

  -- each four numbers that are counted are an entry's
  entry_at : (k : ℕ) → k < r.entries → (e : Entry) × Memᴰ e trail × Columns buffer k e
  unfolding trail_after
  entry_at k l =
      subst (λ (b : List ℕ). (e : Entry) × Memᴰ e trail × Columns b k e) (sym a.trail)
      (columns trail (drop (length (trail_numbers_of trail)) x.trail) k (rw (← counted) l))

  settled : (k : ℕ) → k < r.entries → get_or buffer (4 * k + 2) 0 ≡ 0 → sort x.terms (get_or buffer (4 * k) 0) ≡ 0
      → Entails x.sorts x.terms (Given x.inputs) (get_or buffer (4 * k) 0) (get_or buffer (4 * k + 1) 0)
  settled k l z p M N =
      let f = entry_at k l in
      let c = f.2 in
      ap (value M) c.term
      ∙ (sound x).settled f.0 f.1 (sym c.level ∙ z) (ap (sort x.terms) (sym c.term) ∙ p) M N
      ∙ sym c.value

  pub meaning : Meaning x r buffer
  unfolding outcome trail_after
  meaning =
      record {
        refuted = λ h. (sound x).refutation (sym (ap (λ o. o.verdict) a.result) ∙ h);
        shown = a.trail;
        counted = counted;
        entries = (sound x).entries;
        settled = settled;
        conflicts = (sound x).conflicts;
      }
