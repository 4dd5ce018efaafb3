-- The bytes of an unfinished line, and of one that is too long as many as fill it: those do what all of them do.
use mathlib.Core.Path.{◌∙◌}
use native.Mathlib.Omega.{arith}
use Rattle.text_stream.specs.Stream.{holding}
use Rattle.text_stream.proofs.Bytes.{clear_take, feed_first}
use borrow.Author.Rules.{rules}
use Rattle.text_stream.proofs.hold.Goals as goal

pub hold_bytes-requires : goal.hold_bytes-requires
hold_bytes-requires c =
    record {
      l_value = search clear_take;
      line_len = search rules;
    }

pub returns : goal.returns
returns c =
    let a = c.args in
    λ k s. c.hold_bytes.ensures k s ∙ feed_first (holding a.start a.line.now k s) a.l.now _ c.requires.l_value (omega arith)
