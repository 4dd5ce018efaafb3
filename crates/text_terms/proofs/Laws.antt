-- Laws of heads and of term rows.
use Prim.Native.Nat.{ℕ, ◌+◌, ◌≤◌, ◌<◌}
use mathlib.Core.Path.{◌≡◌, ap, ◌∙◌}
use mathlib.Core.Bool.{true, false}
use mathlib.Core.List.{List, [], ◌∷◌, ◌++◌}
use native.Mathlib.Omega.{arith}
use lib.ListN.{length, get_or}
use Rattle.std.proofs.Common.{Bor}
use Rattle.text_fields.specs.Split.{contents}
use Rattle.text_fields.specs.Class.{named}
use Rattle.text_fields.specs.Words.{index_from, ref_of}
use Rattle.text_fields.specs.Shape.{shape_of}
use Rattle.std.specs.Prelude.{None, Ok}
use Rattle.text_names.specs.Table.{names_from, with_name}
use Rattle.text_names.proofs.Table.{length_names, named_byte, names_before, names_after, names_put}
use Rattle.text_rows.specs.Rows.{is_taken, sort_ref, free_head, head_of, term_added}
use Rattle.text_rows.specs.View.{kept_of, taken_of, Bounded}
use Rattle.text_rows.specs.declared.Counts.{Counts}
use Rattle.text_rows.proofs.Fields.{field_of, contents_at, named_at, short_at}
use Rattle.text_rows.proofs.Laws.{untaken}
use Rattle.text_terms.specs.declared.HeadNumber.{HeadNumber}
use Rattle.text_terms.specs.Heads.{HeadIs}

-- a new free head
pub free_new : (t f : List ℕ) (n : ℕ) → n < 256 → length t ≡ 55392 → named f ≡ true → length f ≤ 64 → (t' : List ℕ) → t' ≡ with_name t 288 n f
    → index_from 0 (names_from t 288 n) f ≡ None
    → HeadIs t n (free_head (names_from t 288 n) f (index_from 0 (names_from t 288 n) f)) (record { number = 16 + n; heads = n + 1 }) t'
free_new t f n room size g h t' is e =
    let low : 288 ≤ 288 = omega arith in
    record {
      number_is = rw (e, length_names t 288 n);
      heads_are = rw (e, is) (names_put t 288 n f size low room h (named_byte f g) e);
      others_stay = λ b m k l. rw is (names_before t 288 n f size low room h b m (omega arith) (omega arith));
      at_most = omega arith;
    }

-- a term row stored: the head is read, then the term's name is put into the table
module _ (n : Counts) (t : List ℕ) (b : Bounded n) (room : n.terms < 256) (fs : List (Bor (List ℕ))) (good : shape_of 7 0 (contents fs) ≡ Ok tt)
    (new : is_taken (names_from t 32 n.terms) (get_or (contents fs) 0 []) ≡ false) where
  pub term_stored : (r : HeadNumber) (t₁ : List ℕ) → length t₁ ≡ 55392 → HeadIs t n.heads (head_of (names_from t 288 n.heads) (field_of fs 1)) r t₁
      → (t₂ : List ℕ) → t₂ ≡ with_name t₁ 32 n.terms (field_of fs 0)
      → (sort x y z w : ℕ) → sort ≡ sort_ref (names_from t 0 n.sorts) (field_of fs 2)
      → x ≡ ref_of (names_from t 32 n.terms) (field_of fs 3) → y ≡ ref_of (names_from t 32 n.terms) (field_of fs 4)
      → z ≡ ref_of (names_from t 32 n.terms) (field_of fs 5) → w ≡ ref_of (names_from t 32 n.terms) (field_of fs 6)
      → taken_of (record {
        counts = record { sorts = n.sorts; terms = n.terms + 1; heads = r.heads; inputs = n.inputs; steps = n.steps };
        cells = r.number ∷ sort ∷ x ∷ y ∷ z ∷ w ∷ 0 ∷ 0 ∷ 0 ∷ [];
        width = 6;
      }) t₂ ≡ term_added (kept_of n t) (contents fs)
  term_stored r t₁ size₁ h t₂ e sort x y z w p q₁ q₂ q₃ q₄ =
      let low : 32 ≤ 288 = omega arith in
      let name = field_of fs 0 in
      let g : named name ≡ true = named_at 7 fs 0 good (omega arith) in
      let s : length name ≤ 64 = short_at 7 fs 0 good (omega arith) in
      let sorts_are : names_from t₂ 0 n.sorts ≡ names_from t 0 n.sorts =
      rw e (names_before t₁ 32 n.terms name size₁ low room s 0 n.sorts (omega arith) (omega arith)
      ∙ h.others_stay 0 n.sorts (omega arith) (omega arith)) in
      let kept : names_from t₁ 32 n.terms ≡ names_from t 32 n.terms = h.others_stay 32 n.terms (omega arith) (omega arith) in
      let fresh : index_from 0 (names_from t₁ 32 n.terms) name ≡ None =
      untaken (names_from t₁ 32 n.terms) name (rw (kept, ← contents_at fs 0) new) in
      let terms_are : names_from t₂ 32 (n.terms + 1) ≡ names_from t 32 n.terms ++ (name ∷ []) =
      rw e (names_put t₁ 32 n.terms name size₁ low room s (named_byte name g) fresh ∙ ap (λ (l : List (List ℕ)). l ++ (name ∷ [])) kept) in
      let heads_are : names_from t₂ 288 r.heads ≡ (head_of (names_from t 288 n.heads) (field_of fs 1)).heads =
      rw e (names_after t₁ 32 n.terms name size₁ low room s 288 r.heads (omega arith) (omega (arith, h.at_most)) (omega arith) (omega arith)
      ∙ h.heads_are) in
      rw (
        sorts_are,
        terms_are,
        heads_are,
        h.number_is,
        p,
        q₁,
        q₂,
        q₃,
        q₄,
        contents_at fs 0,
        contents_at fs 1,
        contents_at fs 2,
        contents_at fs 3,
        contents_at fs 4,
        contents_at fs 5,
        contents_at fs 6,
      )
