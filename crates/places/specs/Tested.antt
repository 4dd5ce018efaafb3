-- What a claim has when a rule is tested on it, and premises as a claim has them.
use Rattle.std.specs.Prelude.{◌≡◌, Bool, false, cond, List, [], ℕ, ◌≤◌, T, ltb, length}
use Rattle.calculus.specs.declared.Row.{Row}
use Rattle.calculus.specs.declared.Rule.{Rule}
use Rattle.calculus.specs.Lists.{all}
use Rattle.calculus.specs.Sheets.{term_rows}
use Rattle.calculus.specs.Place.{with}
use Rattle.rule_claims.specs.declared.Claim.{Claim}
use Rattle.rule_claims.specs.Claims.{no_premise, premises_of}
use Rattle.completions.specs.Search.{is_row, small, followed}
use Rattle.needs.specs.declared.Columns.{Columns}

-- what the numbers before 13 leave of a claim, where the term sheet has n rows
pub record Tested (ts : List ℕ) (n : ℕ) (x : Claim) : Type 0 where
  pub rows : n ≡ term_rows ts
  pub few : n ≤ 65535
  pub listed : T (all (is_row ts) (premises_of x))
  pub truth : x.value ≤ 1

-- where b is false, row r is no first premise from which rule k gives l a value
pub record Begins (ts : List ℕ) (k : Rule) (l r : ℕ) (b : Bool) : Type 0 where
  pub passed : (v : ℕ) → b ≡ false → followed ts k l v [] (with 0 r) ≡ false

-- the claim has m premises, with values that a column can have
pub record Counted (x : Claim) (m : ℕ) : Type 0 where
  pub count : m ≡ length (premises_of x)
  pub values : T (all small (premises_of x))

-- the claim that the premises of x give l the value v
abbrev pub claim_of : Row → ℕ → Columns → Claim
claim_of l v x =
    record {
      term = l;
      value = v;
      p = cond (ltb 0 x.count) x.p no_premise;
      q = cond (ltb 1 x.count) x.q no_premise;
      r = cond (ltb 2 x.count) x.r no_premise;
      s = cond (ltb 3 x.count) x.s no_premise;
      t = cond (ltb 4 x.count) x.t no_premise;
    }
