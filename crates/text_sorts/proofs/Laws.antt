-- Laws of sort rows.
use Rattle.std.proofs.Common.{◌≡◌, ℕ, ◌+◌, ◌≤◌, ◌<◌, true, false, List, [], ◌∷◌, length, get_or, Ok, Bor, arith}
use Rattle.text_fields.specs.Split.{contents}
use Rattle.text_fields.specs.Class.{named}
use Rattle.text_fields.specs.Shape.{shape_of}
use Rattle.text_names.specs.Table.{names_from, with_name}
use Rattle.text_names.proofs.Table.{named_byte, names_after, names_put}
use Rattle.text_rows.specs.Rows.{is_taken, sort_ref, sort_added}
use Rattle.text_rows.specs.View.{kept_of, taken_of, Bounded}
use Rattle.text_rows.specs.declared.Counts.{Counts}
use Rattle.text_rows.proofs.Fields.{field_of, contents_at, named_at, short_at}
use Rattle.text_rows.proofs.Laws.{untaken}

-- a sort row stored: its name is put into the table
module _ (n : Counts) (t : List ℕ) (size : length t ≡ 55392) (b : Bounded n) (room : n.sorts < 32) where
  pub sort_stored : (fs : List (Bor (List ℕ))) → shape_of 3 0 (contents fs) ≡ Ok tt → is_taken (names_from t 0 n.sorts) (get_or (contents fs) 0 []) ≡ false
      → (index value : ℕ) → index ≡ sort_ref (names_from t 0 n.sorts) (field_of fs 1) → value ≡ sort_ref (names_from t 0 n.sorts) (field_of fs 2)
      → (t' : List ℕ) → t' ≡ with_name t 0 n.sorts (field_of fs 0)
      → taken_of (record {
        counts = record { sorts = n.sorts + 1; terms = n.terms; heads = n.heads; inputs = n.inputs; steps = n.steps };
        cells = index ∷ value ∷ 0 ∷ 0 ∷ 0 ∷ 0 ∷ 0 ∷ 0 ∷ 0 ∷ [];
        width = 2;
      }) t' ≡ sort_added (kept_of n t) (contents fs)
  sort_stored fs good new index value p q t' e =
      let name = field_of fs 0 in
      let g : named name ≡ true = named_at 3 fs 0 good (omega arith) in
      let h : length name ≤ 64 = short_at 3 fs 0 good (omega arith) in
      let u : is_taken (names_from t 0 n.sorts) name ≡ false = rw (contents_at fs 0) at new in
      let low : 0 ≤ 288 = omega arith in
      let few : n.sorts < 256 = omega arith in
      let put = names_put t 0 n.sorts name size low few h (named_byte name g) (untaken (names_from t 0 n.sorts) name u) in
      let terms = names_after t 0 n.sorts name size low few h 32 n.terms (omega arith) (omega arith) (omega arith) (omega arith) in
      let heads = names_after t 0 n.sorts name size low few h 288 n.heads (omega arith) (omega arith) (omega arith) (omega arith) in
      rw (e, put, terms, heads, p, q, contents_at fs 0, contents_at fs 1, contents_at fs 2)
