-- `decisions::share_first_order` meets its contract. No word passed has such a decision in both sets. Assumes nothing.
use Rattle.trail.proofs.Walks.{word_within}
use Rattle.decisions.proofs.Laws.{passed_start, passed_found, passed_more, passed_all, shared_word, shared_within, shared_past}
use Rattle.decisions.proofs.share_first_order.Goals as goal

pub loop-k-init : goal.loop-k-init
loop-k-init c = passed_start _ _ _ _

pub word_holds-requires : goal.word_holds-requires
word_holds-requires c =
    let word = shared_word _ c.args.e c.args.f _ _ c.loop-k-test.true in
    (c.requires.0, c.requires.1, word_within _ _ _ _ word (shared_within _ _ _ c.requires.4))

pub returns-then-word_holds : goal.returns-then-word_holds
returns-then-word_holds c = passed_found c.loop-k.invariant _ (shared_word _ _ _ _ _ c.loop-k-test.true) c.word_holds.ensures c.if-word_holds.true

pub loop-k-preserved : goal.loop-k-preserved
loop-k-preserved c =
    let less = c.loop-k-test.true in
    passed_more c.loop-k.invariant _ less (shared_word _ _ _ _ _ less) c.word_holds.ensures c.if-word_holds.false

pub returns : goal.returns
returns c = passed_all c.loop-k.invariant c.loop-k-test.false (shared_past _ _ _ _)
