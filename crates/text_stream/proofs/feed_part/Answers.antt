-- The bytes up to the next newline.
use Rattle.text_stream.proofs.Runs.{hold_clear, part_held, part_late, part_ended}
use native.Mathlib.Omega.{arith}
use borrow.Author.Rules.{rules}
use Rattle.text_stream.proofs.feed_part.Goals as goal

pub hold-held-requires : goal.hold-held-requires
hold-held-requires c =
    record {
      l_value = search hold_clear;
      line_len = search rules;
    }

pub returns-then-n-end : goal.returns-then-n-end
returns-then-n-end c = search part_held

pub returns-then-number-ne0 : goal.returns-then-number-ne0
returns-then-number-ne0 c =
    record {
      steps_after = part_late _ _ _ _ c.requires.n_value _ c.stands_whole-whole.ensures _ c.to_hold.ensures _ _ c.hold-held.ensures _ _ _
          c.requires.n_in_bounds c.if-n-end.false c.next_line-next.ensures (λ z. omega arith);
      stays_bounded = c.requires.bounded;
      textual = λ t. t;
    }

pub returns : goal.returns
returns c =
    record {
      steps_after = part_ended _ _ _ _ c.requires.n_value _ c.stands_whole-whole.ensures _ c.to_hold.ensures _ _ c.hold-held.ensures _ _ _ _ _ _
          c.requires.n_in_bounds c.if-n-end.false c.next_line-next.ensures c.line_of-l.ensures c.end_line-after.ensures.line_ended;
      stays_bounded = c.end_line-after.ensures.bounded_2;
      textual = c.end_line-after.ensures.textual;
    }
