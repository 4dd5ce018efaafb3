-- Laws of bytes that are read piece by piece.
use Rattle.std.specs.Prelude.{ℕ, ◌+◌, ◌≡◌, List, [], ◌++◌}
use Rattle.std.proofs.Common.{arith, refl, ap, sym, subst, ◌∙◌}
use Rattle.std.proofs.lemmas.List.{length-append}
use Rattle.text_stream.specs.Stream.{Stream, feed_all, fresh_stream, stream_of}
use Rattle.text_stream.proofs.Bytes.{feed_append}
use Rattle.text_stream.specs.declared.Progress.{Progress}
use Rattle.reader.specs.Text.{lent_of}
use Rattle.reader.specs.Stream.{Begun, fed_pieces, joined, zero_sheets}
use Rattle.report.specs.Put.{Laid}
use Rattle.report.specs.Printed.{printed}
use Rattle.report.specs.Complaint.{complained}
use Rattle.report.proofs.Short.{results_are_short, complaints_are_short, laid_whole, laid_length}
use Rattle.verdict.specs.declared.Answer.{Answer}
use Rattle.verdict.specs.Verdict.{most}
use Rattle.verdict.specs.Contract.{answer_of, Concluded}
use Rattle.verdict.proofs.Answers.{answered}
use Rattle.check_log.specs.Input.{Fed, Spoken}

-- before the first piece
pub none_fed : (s : Stream) → Fed s 0 s
none_fed s = record { bytes = []; size = refl; all = refl }

-- one piece more
pub more_fed : {s s' s'' : Stream} {n m : ℕ} → Fed s n s' → Fed s' m s'' → Fed s (n + m) s''
more_fed {s} p q =
    record {
      bytes = p.bytes ++ q.bytes;
      size = length-append p.bytes q.bytes ∙ omega (arith, p.size, q.size);
      all = q.all ∙ ap (λ (x : Stream). feed_all x q.bytes) p.all ∙ sym (feed_append s p.bytes q.bytes);
    }

-- no bytes more
pub end_fed : {s s' s'' : Stream} {n m : ℕ} → Fed s n s' → Fed s' m s'' → m ≡ 0 → Fed s n s''
end_fed p q e =
    let both = more_fed p q in
    record { bytes = both.bytes; size = omega (arith, both.size, e); all = both.all }

-- all bytes read and answered
module _ {a b c d : List ℕ} (lent : lent_of a b c d ≡ most) {f : Progress} {a₀ b₀ c₀ d₀ : List ℕ} (begun : Begun a b c d f a₀ b₀ c₀ d₀)
    (line names : List ℕ) (n : ℕ) (s : Stream) (fed : Fed (stream_of f line names a₀ b₀ c₀ d₀) n s)
    (x : Answer) {line' names' a' b' c' d' : List ℕ}
    (end : (ps : List (List ℕ)) → s ≡ fed_pieces (fresh_stream (zero_sheets most)) ps → Concluded (joined ps) x line' names' a' b' c' d') where
  answer_is : x ≡ answer_of fed.bytes
  answer_is = answered fed.bytes lent begun line names s fed.all x end

  pub spoken : (m k : ℕ) {out : List ℕ} → m ≡ 128 → Laid m (printed x.outcome) k out
      → (l j : ℕ) {said : List ℕ} → l ≡ 256 → Laid l (complained x.complaint) j said → Spoken n k j out said
  unfolding answer_of
  spoken m k {out} m_is laid l j {said} l-is told =
      let laid' = subst (λ (z : ℕ). Laid z (printed x.outcome) k out) m_is laid in
      let told' = subst (λ (z : ℕ). Laid z (complained x.complaint) j said) l-is told in
      record {
        bytes = fed.bytes;
        size = fed.size;
        printed_is = laid_whole 128 (printed x.outcome) (results_are_short x.outcome) laid' ∙ ap (λ (y : Answer). printed y.outcome) answer_is;
        told_is =
            laid_whole 256 (complained x.complaint) (complaints_are_short x.complaint) told'
            ∙ ap (λ (y : Answer). complained y.complaint) answer_is;
        out_keeps = laid_length 128 (printed x.outcome) laid';
        said_keeps = laid_length 256 (complained x.complaint) told';
      }
