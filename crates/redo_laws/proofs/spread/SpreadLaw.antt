-- Rows at all commits are spread over the row blocks of their table.
use Rattle.std.proofs.Common.{◌≡◌, ℕ, ◌<◌, ◌≤◌, Bool, true, false, cond, leb, List, [], ◌∷◌, Option, Some, None, sym, ◌∙◌, ap, ap₂, subst, inl, inr, true≢false, leb-true, leb-false}
use Rattle.seg_words.proofs.Lemmas.{cond-true, cond-false, cases_Bool}
use Rattle.seg_words.specs.Types.{Shape, Head, Slot, UndoAddr, Writer}
use Rattle.redo_model.specs.Records.{Record}
use Rattle.redo_model.specs.Model.{commit_count, is_active, standing, holds_row, view, image, Made, makers, first_counted, row_in, slot_count, counts, image_at, row_at, under_high, IsRowBlock}
use Rattle.redo_laws.specs.Views.{RowsAreSpread, ViewOfNone}
use Rattle.redo_laws.proofs.spread.Spread.{good, head_settled}
use Rattle.redo_laws.proofs.spread.Views.{ready, IsOpen, view_is_newest, view_of_none}
use Rattle.redo_laws.proofs.spread.Union.{view_is_union, closed_counts}
use Rattle.redo_laws.proofs.space.Places.{contains_in, Segments, segments, same_table}
use Rattle.redo_laws.proofs.allowed.Shapes.{Present, row_block, empty_of, row_of_empty}
use Rattle.redo_laws.proofs.homes.Homes.{RowOf, RowIn, RowsIn}
use Rattle.redo_laws.proofs.spread.Fitting.{Whole, newest_table}
use Rattle.redo_laws.proofs.spread.Whole.{whole}
use Rattle.redo_laws.proofs.steps.Beyond.{beyond}

-- the first image that counts is one of the images
counted_row : (of : ℕ → Type 0) (c : Writer → UndoAddr → Bool) (i : Slot) (ms : List Made) → RowsIn of i ms → RowIn of (first_counted c i ms)
counted_row of c i [] h = h.0
counted_row of c i (m ∷ ms) h = elim (c m.by m.undo) as (λ v. RowIn of (cond v i (first_counted c m.old ms))) [ true ↦ h.0 | false ↦ counted_row of c m.old ms (h.1.0, h.1.1) ]

row_holds : (i : Slot) (x : ℕ × List ℕ) → row_in i ≡ Some x → (holds_row i.kind ≡ true) × (i.row ≡ x.0)
row_holds i x e = elim (cases_Bool (holds_row i.kind)) [
  | inl y ↦ (y, ap (λ (o : Option (ℕ × List ℕ)). elim o as (λ _. ℕ) [ None ↦ 0 | Some p ↦ p.0 ]) (sym (cond-true _ _ _ y) ∙ e))
  | inr n ↦ absurd (let z : ◌≡◌ {A = Option (ℕ × List ℕ)} None (Some x) = sym (cond-false _ _ _ n) ∙ e in cc)
]

-- a row that a view has was made in the table
pub view_table : (sh : Shape) (R : List Record) (o s t n : ℕ) (x : List ℕ) → Whole sh R → commit_count R ≤ s → IsOpen R t → view R o s t n ≡ Some x → RowOf R o n
view_table sh R o s t n x w l open' e = newest_table R (λ v a. counts R s t v) (standing R) o n x w.objects (sym (view_is_newest sh R o s t n w.fit l open') ∙ e)

-- a slot that gives a row is in a block of a table, and the row is of that table
record HomeOfRow (sh : Shape) (R : List Record) (b n : ℕ) : Type 0 where
  obj : ℕ
  present : Present sh R obj b
  row : RowOf R obj n

home_of_row : (sh : Shape) (R : List Record) (b k s t n : ℕ) (x : List ℕ) → Whole sh R → commit_count R ≤ s → row_at R b k s t ≡ Some (n, x) → HomeOfRow sh R b n
home_of_row sh R b k s t n x w l e =
    let c : Writer → UndoAddr → Bool = λ v a. counts R s t v in
    let q = row_holds (image_at R b k s t) (n, x) e in
    elim (w.homes b) [
      | inl v ↦ record { obj = v.obj; present = v.here; row = subst (RowOf R v.obj) q.1 (counted_row (RowOf R v.obj) c (image R b k) (makers R b k) (v.rows k) (empty_of (image_at R b k s t).kind q.0)) }
      | inr d ↦
          let same : image_at R b k s t ≡ image R b k = head_settled c (is_active R) (standing R) (image R b k) (makers R b k) ((good sh R w.fit).held.stand b k) (closed_counts R s t (standing R) ((ready sh R w.fit).settled s l)) (d.vacant k).settled in
          absurd (true≢false (sym q.0 ∙ ap (λ (i : Slot). holds_row i.kind) same ∙ row_of_empty (image R b k).kind (d.vacant k).empty))
    ]

pub present_block : (sh : Shape) (R : List Record) (o b : ℕ) → Segments sh R → Present sh R o b → IsRowBlock sh R o b
present_block sh R o b s p = record { here = contains_in (under_high sh R o) b (s.under o b p.0 p.1 p.2); formatted = p.2 }

-- a slot that gives a row is there
pub slot_there : (R : List Record) (b k s t n : ℕ) (x : List ℕ) → row_at R b k s t ≡ Some (n, x) → k < slot_count R b
slot_there R b k s t n x e = elim (cases_Bool (leb (slot_count R b) k)) [
  | inr f ↦ leb-false (slot_count R b) k f
  | inl y ↦
      let q = beyond R b k (leb-true (slot_count R b) k y) in
      let same : row_at R b k s t ≡ None = ap₂ (λ i ms. row_in (first_counted (λ v a. counts R s t v) i ms)) q.0 q.1 in
      absurd (let z : ◌≡◌ {A = Option (ℕ × List ℕ)} None (Some (n, x)) = sym same ∙ e in cc)
]

no_row_at_head : (i : Slot) → i.kind ≡ Head → row_in i ≡ None
no_row_at_head i e = cond-false _ _ _ (ap holds_row e)

pub rows_are_spread : RowsAreSpread
rows_are_spread sh R o s t h table l open' =
    let w = whole sh R h in
    let g = segments sh R h in
    let u = view_is_union sh R s t w.fit l open' in
    record {
      given = λ n x e.
          let p = u.shown o n x e in
          let q = home_of_row sh R p.0 p.1 s t n x w l p.2 in
          let same : q.obj ≡ o = sym q.row.0 ∙ (view_table sh R o s t n x w l open' e).0 in
          record { block = p.0; here = subst (λ z. IsRowBlock sh R z p.0) same (present_block sh R q.obj p.0 g q.present); slot = p.1; there = slot_there R p.0 p.1 s t n x p.2; gives = p.2 };
      viewed = λ b k n x here e.
          let q = home_of_row sh R b k s t n x w l e in
          let at = row_block sh R o b g table here in
          let same : q.obj ≡ o = same_table sh R q.obj o b g q.present.0 at.0 q.present.1 at.1 in
          let v = u.viewed b k n x e in
          let other : v.0 ≡ q.obj = sym (view_table sh R v.0 s t n x w l open' v.1).0 ∙ q.row.0 in
          subst (λ z. view R z s t n ≡ Some x) (other ∙ same) v.1;
      once = u.once;
      none_at_head = λ b k e. no_row_at_head (image_at R b k s t) e;
    }

pub view_of_no_transaction : ViewOfNone
view_of_no_transaction sh R o s n h = view_of_none sh R o s n (whole sh R h).fit
