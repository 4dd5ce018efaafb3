-- Laws of the bytes up to a newline: fed one by one they do what their line does.
use Prim.Native.Nat.{ℕ, suc, ◌+◌, ◌≤◌, ◌<◌}
use mathlib.Core.Path.{◌≡◌, refl, ap, sym, ◌∙◌}
use mathlib.Core.Bool.{Bool, true, false, ◌&&◌, false≢true}
use mathlib.Core.List.{List, [], ◌∷◌, ◌++◌, append_assoc}
use native.Mathlib.Omega.{arith}
use native.Mathlib.Numerals.{add-one}
use borrow.Author.Tests.{ltb-true, ltb-false, le-ltb, eqb-true}
use lib.Dec.{eqb, ltb}
use lib.ListN.{length, take, drop, get_or, length-append, take-append-drop}
use lib.Seq.{take_all, take_at, take-suc}
use Rattle.text_fields.specs.Split.{pick, before}
use Rattle.text_fields.proofs.Laws.{newline_is}
use Rattle.text_position.specs.declared.Position.{Position}
use Rattle.text_position.specs.Place.{next_start}
use Rattle.text_lines.specs.Lines.{Control, Effect, quiet, line_effect}
use Rattle.text_lines.specs.View.{Sheets, stored, LineEnded, number_at, is_textual}
use Rattle.text_lines.specs.declared.Fault.{Fault}
use Rattle.text_lines.specs.declared.Fault.TheVariants.{Name, Ceiling, Malformed, Given}
use Rattle.std.specs.Prelude.{Option, Some, None, is_some}
use Rattle.text_lines.proofs.Lines.{effect_late, effect_cut}
use Rattle.buffers.proofs.Room.{append_nil}
use Rattle.text_lines.proofs.Sheets.{stored_none}
use Rattle.text_stream.specs.Stream.{Stream, step_byte, feed_all, holding}
use Rattle.text_stream.proofs.Bytes.{feed_append}

-- the bytes before the first c have none, and then comes a c
before_taken : (c : ℕ) (l : List ℕ) → before c (take (before c l) l) ≡ length (take (before c l) l)
before_taken c [] = refl
before_taken c (b ∷ bs) = go (before_taken c bs) (eqb b c) refl where
  go : before c (take (before c bs) bs) ≡ length (take (before c bs) bs) → (t : Bool) → eqb b c ≡ t
      → before c (take (pick t 0 (suc (before c bs))) (b ∷ bs)) ≡ length (take (pick t 0 (suc (before c bs))) (b ∷ bs))
  go ih true e = refl
  go ih false e = rw (e, ih)

before_at : (c : ℕ) (l : List ℕ) → before c l < length l → get_or l (before c l) 0 ≡ c
before_at c [] h = absurd (omega arith)
before_at c (b ∷ bs) h = go (before_at c bs) (eqb b c) refl h where
  go : (before c bs < length bs → get_or bs (before c bs) 0 ≡ c) → (t : Bool) → eqb b c ≡ t → pick t 0 (suc (before c bs)) < suc (length bs)
      → get_or (b ∷ bs) (pick t 0 (suc (before c bs))) 0 ≡ c
  go ih true e k = eqb-true b c e
  go ih false e k = ih (omega arith)

-- what stands up to a newline, and with it
module _ (rest : List ℕ) (n : ℕ) (is : n ≡ before 10 rest) where
  pub line_clear : before 10 (take n rest) ≡ length (take n rest)
  line_clear = rw is (before_taken 10 rest)

  pub line_whole : n < length rest → take (n + 1) rest ≡ take n rest ++ (10 ∷ [])
  line_whole h =
      let z : get_or rest n 0 ≡ 10 = rw is (before_at 10 rest (omega arith)) in
      ap (λ (k : ℕ). take k rest) (add-one n) ∙ take-suc rest n 0 h ∙ ap (λ (b : ℕ). take n rest ++ (b ∷ [])) z

pub part_all : (rest : List ℕ) (n : ℕ) → n ≡ length rest → take (n + 1) rest ≡ rest
part_all rest n e = take_all (n + 1) rest (omega arith)

-- a byte that is no newline
plain : (s : Stream) (b : ℕ) → eqb b 10 ≡ false
    → step_byte s b
    ≡ record {
      pos = record { line = s.pos.line; at = pick (ltb s.pos.at 526) (s.pos.at + 1) s.pos.at };
      partial = pick (ltb s.pos.at 526) (s.partial ++ (b ∷ [])) s.partial;
      control = s.control;
      sheets = s.sheets;
    }
unfolding step_byte
plain s b e = rw (newline_is b ∙ e)

-- the stream after bytes without a newline
abbrev fed_run : Stream → List ℕ → Stream
fed_run s l =
    record {
      pos = record { line = s.pos.line; at = length (take 526 (s.partial ++ l)) };
      partial = take 526 (s.partial ++ l);
      control = s.control;
      sheets = s.sheets;
    }

run_fed : (l : List ℕ) (s : Stream) → before 10 l ≡ length l → s.pos.at ≡ length s.partial → length s.partial ≤ 526 → feed_all s l ≡ fed_run s l
run_fed [] s h e k =
    let z : take 526 (s.partial ++ []) ≡ s.partial = rw append_nil (take_all 526 s.partial k) in
    rw (z, sym e)
run_fed (b ∷ bs) s h e k = one (run_fed bs) (eqb b 10) refl h where
  two : ((s : Stream) → before 10 bs ≡ length bs → s.pos.at ≡ length s.partial → length s.partial ≤ 526 → feed_all s bs ≡ fed_run s bs)
      → before 10 bs ≡ length bs → (t : Bool) → ltb s.pos.at 526 ≡ t
      → feed_all (record {
        pos = record { line = s.pos.line; at = pick t (s.pos.at + 1) s.pos.at };
        partial = pick t (s.partial ++ (b ∷ [])) s.partial;
        control = s.control;
        sheets = s.sheets;
      }) bs
      ≡ fed_run s (b ∷ bs)
  two ih q true p =
      let w = ltb-true s.pos.at 526 p in
      let z : length (s.partial ++ (b ∷ [])) ≡ s.pos.at + 1 = length-append s.partial (b ∷ []) ∙ omega arith in
      ih _ q (sym z) (omega arith) ∙ rw (append_assoc s.partial (b ∷ []) bs)
  two ih q false p =
      let w = ltb-false s.pos.at 526 p in
      let z : length s.partial ≡ 526 = omega arith in
      ih _ q e k ∙ rw (take_at s.partial bs 526 z, take_at s.partial (b ∷ bs) 526 z)

  one : ((s : Stream) → before 10 bs ≡ length bs → s.pos.at ≡ length s.partial → length s.partial ≤ 526 → feed_all s bs ≡ fed_run s bs)
      → (t : Bool) → eqb b 10 ≡ t → pick t 0 (suc (before 10 bs)) ≡ suc (length bs) → feed_all s (b ∷ bs) ≡ fed_run s (b ∷ bs)
  one ih true p q = absurd (omega arith)
  one ih false p q = ap (λ (x : Stream). feed_all x bs) (plain s b p) ∙ two ih (omega arith) (ltb s.pos.at 526) refl

-- a fault of the forms that the lines of a text have, has a number
pub faulty : (o : Option Fault) → is_textual o ≡ true → is_some o ≡ true → number_at o ≡ 0 → ⊥
faulty None t e z = absurd (false≢true e)
faulty (Some Name) t e z = absurd (omega arith)
faulty (Some Ceiling) t e z = absurd (omega arith)
faulty (Some (Malformed p w)) t e z = absurd (omega arith)
faulty (Some (Given n p w)) t e z = absurd (false≢true t)

-- after a bad line nothing is done
late_line : (c : Control) (n : ℕ) (l : List ℕ) (s : Sheets) → (c.number ≡ 0 → ⊥) → LineEnded c n l s c s
late_line c n l s late =
    let e : quiet c ≡ line_effect c n l = effect_late c n l late in
    record {
      control_is = ap (λ (x : Effect). x.control) e;
      sheets_are = sym (stored_none c.sheet c.kept s) ∙ ap (λ (x : Effect). stored c.sheet c.kept s x.cells) e;
    }

-- what a finished line leaves
abbrev ended_by : Control → Sheets → Position → Effect → Stream
ended_by c s p e =
    record {
      pos = next_start p;
      partial = [];
      control = e.control;
      sheets = stored c.sheet c.kept s e.cells;
    }

end_step : (pos : Position) (partial : List ℕ) (c : Control) (s : Sheets)
    → step_byte (record { pos = pos; partial = partial; control = c; sheets = s }) 10 ≡ ended_by c s pos (line_effect c pos.line partial)
unfolding step_byte
end_step pos partial c s = refl

end_line : (next pos : Position) (line l : List ℕ) (c c' : Control) (s s' : Sheets) → next ≡ next_start pos → LineEnded c pos.line l s c' s'
    → holding next line c' s' ≡ ended_by c s pos (line_effect c pos.line l)
end_line next pos line l c c' s s' is h = rw (is, h.control_is, h.sheets_are)

and_left : (a b : Bool) → (a && b) ≡ true → a ≡ true
and_left true b e = refl
and_left false b e = e

and_no : (b : Bool) → (b && false) ≡ false
and_no true = refl
and_no false = refl

-- the bytes up to a newline: a line that stands whole is read there, and nothing held; the bytes of any other are held
module _ (pos : Position) (line rest : List ℕ) (n : ℕ) (is : n ≡ before 10 rest) (whole : Bool) (whole_is : whole ≡ (eqb pos.at 0 && ltb n (length rest)))
    (part : List ℕ) (part_is : part ≡ pick whole [] (take n rest)) where
  pub hold_clear : before 10 part ≡ length part
  hold_clear = rw part_is (go whole) where
    go : (w : Bool) → before 10 (pick w [] (take n rest)) ≡ length (pick w [] (take n rest))
    go true = refl
    go false = line_clear rest n is

  module _ (held : Position) (line' : List ℕ) (held_is : (c : Control) (s : Sheets) → holding held line' c s ≡ feed_all (holding pos line c s) part) where
    pub part_held : (c : Control) (s : Sheets) → n ≡ length rest → holding held line' c s ≡ feed_all (holding pos line c s) (take (n + 1) rest)
    part_held c s e =
        let long : ltb n (length rest) ≡ false = le-ltb n (length rest) (omega arith) in
        let w : whole ≡ false = rw long at whole_is ∙ and_no (eqb pos.at 0) in
        let all : part ≡ take (n + 1) rest = part_is ∙ rw w (take_all n rest (omega arith) ∙ sym (part_all rest n e)) in
        held_is c s ∙ ap (feed_all (holding pos line c s)) all

    pub part_ended : (next : Position) (l : List ℕ) (c c' : Control) (s s' : Sheets) → n ≤ length rest → (n ≡ length rest → ⊥) → next ≡ next_start held
        → l ≡ pick whole (take n rest) (take held.at line') → LineEnded c held.line l s c' s'
        → holding next line' c' s' ≡ feed_all (holding pos line c s) (take (n + 1) rest)
    part_ended next l c c' s s' le ne next-is l-is h =
        end_line next held line' l c c' s s' next-is h
        ∙ sym (ap (feed_all start) (line_whole rest n is (omega (arith, ne))) ∙ feed_append start (take n rest) (10 ∷ []) ∙ go whole refl) where
          start : Stream
          start = holding pos line c s

          go : (w : Bool) → whole ≡ w → step_byte (feed_all start (take n rest)) 10 ≡ ended_by c s held (line_effect c held.line l)
          go true w =
              let at : pos.at ≡ 0 = eqb-true pos.at 0 (and_left (eqb pos.at 0) (ltb n (length rest)) (sym whole_is ∙ w)) in
              let none : take pos.at line ≡ [] = rw at in
              let nothing : part ≡ [] = rw (part_is, w) in
              let same : held ≡ pos = ap (λ (x : Stream). x.pos) (held_is c s ∙ ap (feed_all start) nothing) in
              let run = run_fed (take n rest) start (line_clear rest n is) (rw none at) (rw none (omega arith)) in
              let e : line_effect c pos.line (take 526 (take pos.at line ++ take n rest)) ≡ line_effect c held.line l =
              rw (none, l-is, w, same) (effect_cut c pos.line (take n rest)) in
              ap (λ (x : Stream). step_byte x 10) run ∙ end_step _ _ c s ∙ ap (ended_by c s pos) e
              ∙ ap (λ (p : Position). ended_by c s p (line_effect c held.line l)) (sym same)
          go false w =
              let all : part ≡ take n rest = rw (part_is, w) in
              let this : l ≡ take held.at line' = rw (l-is, w) in
              ap (λ (x : Stream). step_byte x 10) (sym (held_is c s ∙ ap (feed_all start) all)) ∙ end_step held (take held.at line') c s
              ∙ ap (λ (q : List ℕ). ended_by c s held (line_effect c held.line q)) (sym this)

    pub part_late : (next : Position) (c : Control) (s : Sheets) → n ≤ length rest → (n ≡ length rest → ⊥) → next ≡ next_start held → (c.number ≡ 0 → ⊥)
        → holding next line' c s ≡ feed_all (holding pos line c s) (take (n + 1) rest)
    part_late next c s le ne next-is late =
        part_ended next (pick whole (take n rest) (take held.at line')) c c s s le ne next-is refl (late_line c held.line _ s late)

-- the bytes up to a newline, and those after it
pub feed_on : (s s' : Stream) (l : List ℕ) (n : ℕ) → s' ≡ feed_all s (take (n + 1) l) → feed_all s' (drop (n + 1) l) ≡ feed_all s l
feed_on s s' l n e =
    ap (λ (x : Stream). feed_all x (drop (n + 1) l)) e ∙ sym (feed_append s (take (n + 1) l) (drop (n + 1) l))
    ∙ ap (feed_all s) (take-append-drop (n + 1) l)
