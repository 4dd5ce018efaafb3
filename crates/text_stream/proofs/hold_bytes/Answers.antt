-- The bytes of an unfinished line: those that are left are held as all of them are.
use mathlib.Core.Path.{refl, sym, ◌∙◌}
use native.Mathlib.Omega.{arith}
use Rattle.text_stream.specs.Stream.{holding}
use Rattle.text_stream.proofs.Bytes.{feed_end, hold_more}
use Rattle.text_stream.proofs.hold_bytes.Goals as goal

pub loop-b-init : goal.loop-b-init
loop-b-init c = λ k s. refl

pub loop-b-preserved : goal.loop-b-preserved
loop-b-preserved c =
    let at = c.loop-b in
    λ k s. hold_more at.pos at.line c.args.l.now at.b-index k s c.requires.l_value (omega arith) (omega arith)
    c.put_byte.ensures c.advanced_by-pos.ensures ∙ at.invariant k s

pub returns : goal.returns
returns c =
    let at = c.loop-b in
    λ k s. sym (feed_end (holding at.pos at.line k s) c.args.l.now at.b-index (omega arith)) ∙ at.invariant k s
