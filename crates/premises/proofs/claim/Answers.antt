-- `premises::claim` meets its contract.
use Rattle.rule_claims.proofs.Laws.{premises_looked}
use mathlib.Core.Path.{refl}
use Rattle.premises.proofs.claim.Goals as goal

pub returns : goal.returns
returns c =
    let p = c.premise.ensures in
    let q = c.premise-2.ensures in
    let r = c.premise-3.ensures in
    let s = c.premise-4.ensures in
    let t = c.premise-5.ensures in
    record {
      term = refl;
      value = refl;
      premises =
          premises_looked _ _ c.args.x _ _ _ _ _ p.0 q.0 r.0 s.0 t.0
          (p.1, (q.1, (r.1, (s.1, (t.1, tt))))) c.requires.stand;
    }
