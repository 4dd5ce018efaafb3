-- Laws of parts that are laid one behind the other.
use Rattle.std.specs.Prelude.{ℕ, ◌+◌, ◌^◌, ◌<◌, ◌≤◌, ◌≡◌, List, [], ◌++◌, length, take, replicate, get_or}
use Rattle.std.proofs.Common.{refl, sym, ap, ◌∙◌, arith, length-append}
use Rattle.std.specs.Borrow.{Bor}
use Rattle.std.proofs.lemmas.List.Edits.{sets}
use Rattle.std.proofs.lemmas.List.Folds.{length-flat_map-take}
use Rattle.std.proofs.Concat.{flat_map-take_more}
use Rattle.buffers.specs.Room.{pad_to}
use Rattle.buffers.proofs.Room.{pad_none, store_row}
use Rattle.report.specs.Put.{joined, Laid}

pub laid_none : (n : ℕ) {out : List ℕ} → out ≡ replicate n 0 → Laid n [] 0 out
laid_none n e = record { length_is = refl; out_is = e ∙ sym (pad_none n) }

-- the part behind the first k
abbrev pub part : List (Bor (List ℕ)) → ℕ → List ℕ
part parts k = (get_or parts k (record { ref_ptr = (0, 0); now = [] })).now

module _ (parts : List (Bor (List ℕ))) (k : ℕ) (h : k < length parts) {n at : ℕ} {out : List ℕ} (so_far : Laid n (joined (take k parts)) at out) where
  pub room_left : length (joined parts) ≤ 256 → at + length (part parts k) < 2 ^ 64
  room_left short = omega (arith, so_far.length_is, length-flat_map-take (λ (p : Bor (List ℕ)). p.now) parts k (record { ref_ptr = (0, 0); now = [] }) h)

  more : joined (take (k + 1) parts) ≡ joined (take k parts) ++ part parts k
  more = sym (flat_map-take_more (λ (p : Bor (List ℕ)). p.now) parts k (record { ref_ptr = (0, 0); now = [] }) h)

  pub laid_more : {r : ℕ} {out' : List ℕ} → r ≡ at + length (part parts k) → out' ≡ sets out at (part parts k) → Laid n (joined (take (k + 1) parts)) r out'
  laid_more r_is out_is =
      record {
        length_is = omega (arith, r_is, so_far.length_is, ap length more, length-append (joined (take k parts)) (part parts k));
        out_is = out_is ∙ rw (so_far.out_is, so_far.length_is, more) (store_row n (joined (take k parts)) (part parts k));
      }
