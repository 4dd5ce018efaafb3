-- However a text is cut into pieces, reading it leaves the same.
use Prim.Native.Nat.{ℕ}
use mathlib.Core.Path.{◌≡◌, refl, ap, sym, ◌∙◌}
use mathlib.Core.List.{List, [], ◌∷◌}
use Rattle.reader.specs.Text.{Lent, lent_of, start_state}
use Rattle.text_lines.specs.View.{Sheets}
use Rattle.text_stream.specs.declared.Progress.{Progress}
use Rattle.text_stream.specs.Stream.{Stream, feed_all, fresh_stream, stream_of}
use Rattle.reader.specs.Stream.{Begun, fed_pieces, joined, zero_sheets, ReadInPieces}
use Rattle.text_stream.proofs.Bytes.{feed_append}
use Rattle.buffers.proofs.Room.{pad_none}
use Rattle.reader.proofs.Whole.{padded}
use Rattle.reader.proofs.Final.{read_is}

pieces_whole : (s : Stream) (ps : List (List ℕ)) → fed_pieces s ps ≡ feed_all s (joined ps)
pieces_whole s [] = refl
pieces_whole s (p ∷ ps) = pieces_whole (feed_all s p) ps ∙ sym (feed_append s p (joined ps))

zeros_are : (n : Lent) → zero_sheets n ≡ padded n start_state
zeros_are n = rw (pad_none n.sorts, pad_none n.terms, pad_none n.inputs, pad_none n.steps)

pub whole_is : (n : Lent) (ps : List (List ℕ))
    → fed_pieces (fresh_stream (zero_sheets n)) ps ≡ feed_all (fresh_stream (padded n start_state)) (joined ps)
whole_is n ps =
    pieces_whole (fresh_stream (zero_sheets n)) ps ∙ ap (λ (x : Sheets). feed_all (fresh_stream x) (joined ps)) (zeros_are n)

pub read_in_pieces : ReadInPieces
read_in_pieces n ps r line' names' sorts' terms' inputs' steps' h =
    read_is n (joined ps) (fed_pieces (fresh_stream (zero_sheets n)) ps) (whole_is n ps) r line' names' sorts' terms' inputs' steps' h

-- a text that begins
pub begun_fresh : (n : Lent) {a b c d : List ℕ} → lent_of a b c d ≡ n → {f : Progress} {a' b' c' d' : List ℕ} → Begun a b c d f a' b' c' d'
    → (line names : List ℕ) → stream_of f line names a' b' c' d' ≡ fresh_stream (zero_sheets n)
begun_fresh n is h line names = rw (h.starts, h.sorts_is, h.terms_is, h.inputs_is, h.steps_is, ← is)
