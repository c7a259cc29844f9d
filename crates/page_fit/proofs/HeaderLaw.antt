-- The page of a table's header says what the model says of the table: one induction over the list.
use Rattle.std.proofs.Common.{◌≡◌, ℕ, zero, suc, ◌≤◌, Bool, true, false, cond, eqb, List, [], ◌∷◌, ◌++◌, map, length, take, Option, refl, sym, ◌∙◌, ap, subst, arith, inl, inr}
use Rattle.std.proofs.lemmas.Bool.{cases_Bool, cases_order, eqb-true, eq-eqb, ne_eqb, cond-true, cond-false, or_left, or_right, true≢false}
use Rattle.std.proofs.lemmas.List.{map-append}
use Rattle.seg_base.specs.declared.shape.Shape.{Shape}
use Rattle.seg_base.specs.Places.{is_shape}
use Rattle.redo_record.specs.declared.record.Record.{Record}
use Rattle.redo_record.specs.declared.record.Record.TheVariants.{Table, Movement, Extend, FormatBlock, Class, Advance, Lower, Begin, Reuse, Insert, Update, Migrate, Return, Delete, Commit, Back, Ended, Move, Clean}
use Rattle.redo_record.specs.declared.space.TableRecord.{TableRecord}
use Rattle.redo_record.specs.declared.space.ExtendRecord.{ExtendRecord}
use Rattle.redo_record.specs.declared.space.LowerRecord.{LowerRecord}
use Rattle.redo_record.specs.declared.space.MovementRecord.{MovementRecord}
use Rattle.redo_record.specs.declared.space.AdvanceRecord.{AdvanceRecord}
use Rattle.redo_model.specs.Segments.{Extent, Marks, extents_of, marks, IsTable, table_count, pctfree_of, has_movement, header_of, block_in}
use Rattle.redo_model.specs.Lawful.{IsCalledFor, AreAllowed}
use Rattle.page_set.specs.declared.page.Page.{Page}
use Rattle.page_set.specs.declared.page.Page.TheVariants as pages
use Rattle.page_set.specs.Pages.{dba_of, new_header}
use Rattle.page_set.specs.Started.{or_kept, start}
use Rattle.page_set.specs.Changes.{page_after, changed_page}
use Rattle.page_set.specs.Among.{is_among}
use Rattle.page_set.specs.Folded.{touched, page_of}
use Rattle.page_set.proofs.SaysLaw.{says, dba_says}
use Rattle.page_fit.specs.Headers.{stated_header, SaysHeader, HeadersSay}
use Rattle.page_fit.proofs.Headed.{fresh, Standing, Headed, headed, no_wait}
use Rattle.page_fit.proofs.Plain.{extend_header}
use Rattle.page_fit.proofs.HeaderApart.{names_header, header_apart}

-- the record leaves what the model says of table o
record Words (R : List Record) (r : Record) (o : ℕ) : Type 0 where
  pctfree : pctfree_of (r ∷ R) o ≡ pctfree_of R o
  movement : has_movement (r ∷ R) o ≡ has_movement R o
  marks_are : marks (r ∷ R) o ≡ marks R o
  extents : extents_of (r ∷ R) o ≡ extents_of R o
  header : stated_header (r ∷ R) o ≡ stated_header R o

words : (R : List Record) (r : Record) (o : ℕ) → names_header r o ≡ false → Words R r o
words R (Table t) o n = record { pctfree = cond-false _ _ _ n; movement = refl; marks_are = refl; extents = refl; header = cond-false _ _ _ n }
words R (Movement t) o n = record { pctfree = refl; movement = cond-false _ _ _ n; marks_are = refl; extents = refl; header = refl }
words R (Extend t) o n = record { pctfree = refl; movement = refl; marks_are = refl; extents = cond-false _ _ _ n; header = refl }
words R (Advance t) o n = record { pctfree = refl; movement = refl; marks_are = cond-false _ _ _ n; extents = refl; header = refl }
words R (Lower t) o n = record { pctfree = refl; movement = refl; marks_are = cond-false _ _ _ n; extents = cond-false _ _ _ n; header = refl }
words R (FormatBlock t) o n = record { pctfree = refl; movement = refl; marks_are = refl; extents = refl; header = refl }
words R (Class t) o n = record { pctfree = refl; movement = refl; marks_are = refl; extents = refl; header = refl }
words R (Begin t) o n = record { pctfree = refl; movement = refl; marks_are = refl; extents = refl; header = refl }
words R (Reuse t) o n = record { pctfree = refl; movement = refl; marks_are = refl; extents = refl; header = refl }
words R (Insert t) o n = record { pctfree = refl; movement = refl; marks_are = refl; extents = refl; header = refl }
words R (Update t) o n = record { pctfree = refl; movement = refl; marks_are = refl; extents = refl; header = refl }
words R (Migrate t) o n = record { pctfree = refl; movement = refl; marks_are = refl; extents = refl; header = refl }
words R (Return t) o n = record { pctfree = refl; movement = refl; marks_are = refl; extents = refl; header = refl }
words R (Delete t) o n = record { pctfree = refl; movement = refl; marks_are = refl; extents = refl; header = refl }
words R (Commit t) o n = record { pctfree = refl; movement = refl; marks_are = refl; extents = refl; header = refl }
words R (Back t) o n = record { pctfree = refl; movement = refl; marks_are = refl; extents = refl; header = refl }
words R (Ended t) o n = record { pctfree = refl; movement = refl; marks_are = refl; extents = refl; header = refl }
words R (Move t) o n = record { pctfree = refl; movement = refl; marks_are = refl; extents = refl; header = refl }
words R (Clean t) o n = record { pctfree = refl; movement = refl; marks_are = refl; extents = refl; header = refl }

abbrev numbers : List Extent → List ℕ
numbers es = map (λ (e : Extent). e.number) es

says_same : (R : List Record) (r : Record) (o : ℕ) (p : Page) → Words R r o → SaysHeader R o p → SaysHeader (r ∷ R) o p
says_same R r o (pages.Header h) w x = record {
  obj = x.obj;
  pctfree = x.pctfree ∙ sym w.pctfree;
  movement = x.movement ∙ sym w.movement;
  low = x.low ∙ sym (ap (λ (m : Marks). m.low) w.marks_are);
  high = x.high ∙ sym (ap (λ (m : Marks). m.high) w.marks_are);
  extents = x.extents ∙ sym (ap numbers w.extents);
}
says_same R r o (pages.Zero h) w x = absurd x
says_same R r o (pages.Checkpoint h) w x = absurd x
says_same R r o (pages.Txns h) w x = absurd x
says_same R r o (pages.Catalogue h) w x = absurd x
says_same R r o (pages.Space h) w x = absurd x
says_same R r o (pages.Undo h) w x = absurd x
says_same R r o (pages.First h) w x = absurd x
says_same R r o (pages.Second h) w x = absurd x
says_same R r o (pages.Third h) w x = absurd x
says_same R r o (pages.Rows h) w x = absurd x

-- a record that doesn't speak to this header
other_step : (sh : Shape) (R : List Record) (r : Record) (o : ℕ) → is_shape sh ≡ true → AreAllowed sh (r ∷ R) → IsTable R o → Standing sh R o → names_header r o ≡ false
    → SaysHeader R o (page_of sh R (stated_header R o)) → SaysHeader (r ∷ R) o (page_of sh (r ∷ R) (stated_header (r ∷ R) o))
other_step sh R r o s h i z other x =
    let d : ℕ = stated_header R o in
    let w = words R r o other in
    let p = page_of sh R d in
    subst (λ (n : ℕ). SaysHeader (r ∷ R) o (page_of sh (r ∷ R) n)) (sym w.header)
    (subst (SaysHeader (r ∷ R) o) (sym (ap (λ (b : Bool). cond b (changed_page r (suc (length R)) p) p) (header_apart sh R r o s h i z other))) (says_same R r o p w x))

-- a record that touches the header's block
touched_step : (sh : Shape) (R : List Record) (r : Record) (o : ℕ) → is_among (touched sh r) (stated_header R o) ≡ true → stated_header (r ∷ R) o ≡ stated_header R o
    → SaysHeader (r ∷ R) o (changed_page r (suc (length R)) (page_of sh R (stated_header R o))) → SaysHeader (r ∷ R) o (page_of sh (r ∷ R) (stated_header (r ∷ R) o))
touched_step sh R r o m same x =
    let d : ℕ = stated_header R o in
    let p = page_of sh R d in
    subst (λ (n : ℕ). SaysHeader (r ∷ R) o (page_of sh (r ∷ R) n)) (sym same)
    (subst (SaysHeader (r ∷ R) o) (sym (ap (λ (b : Bool). cond b (changed_page r (suc (length R)) p) p) m)) x)

movement_says : (R : List Record) (m : MovementRecord) (o lsn : ℕ) (p : Page) → eqb m.obj o ≡ true → SaysHeader R o p → SaysHeader (Movement m ∷ R) o (page_after (Movement m) lsn p)
movement_says R m o lsn (pages.Header h) own x = record { obj = x.obj; pctfree = x.pctfree; movement = sym (cond-true _ _ _ own); low = x.low; high = x.high; extents = x.extents }
movement_says R m o lsn (pages.Zero h) own x = absurd x
movement_says R m o lsn (pages.Checkpoint h) own x = absurd x
movement_says R m o lsn (pages.Txns h) own x = absurd x
movement_says R m o lsn (pages.Catalogue h) own x = absurd x
movement_says R m o lsn (pages.Space h) own x = absurd x
movement_says R m o lsn (pages.Undo h) own x = absurd x
movement_says R m o lsn (pages.First h) own x = absurd x
movement_says R m o lsn (pages.Second h) own x = absurd x
movement_says R m o lsn (pages.Third h) own x = absurd x
movement_says R m o lsn (pages.Rows h) own x = absurd x

advance_says : (R : List Record) (m : AdvanceRecord) (o lsn : ℕ) (p : Page) → eqb m.obj o ≡ true → SaysHeader R o p → SaysHeader (Advance m ∷ R) o (page_after (Advance m) lsn p)
advance_says R m o lsn (pages.Header h) own x = record {
  obj = x.obj;
  pctfree = x.pctfree;
  movement = x.movement;
  low = sym (ap (λ (k : Marks). k.low) (cond-true _ _ _ own));
  high = sym (ap (λ (k : Marks). k.high) (cond-true _ _ _ own));
  extents = x.extents;
}
advance_says R m o lsn (pages.Zero h) own x = absurd x
advance_says R m o lsn (pages.Checkpoint h) own x = absurd x
advance_says R m o lsn (pages.Txns h) own x = absurd x
advance_says R m o lsn (pages.Catalogue h) own x = absurd x
advance_says R m o lsn (pages.Space h) own x = absurd x
advance_says R m o lsn (pages.Undo h) own x = absurd x
advance_says R m o lsn (pages.First h) own x = absurd x
advance_says R m o lsn (pages.Second h) own x = absurd x
advance_says R m o lsn (pages.Third h) own x = absurd x
advance_says R m o lsn (pages.Rows h) own x = absurd x

map_take : (n : ℕ) (es : List Extent) → take n (numbers es) ≡ numbers (take n es)
map_take zero es = refl
map_take (suc n) [] = refl
map_take (suc n) (e ∷ es) = ap (λ (xs : List ℕ). e.number ∷ xs) (map_take n es)

lower_says : (R : List Record) (m : LowerRecord) (o lsn : ℕ) (p : Page) → eqb m.obj o ≡ true → SaysHeader R o p → SaysHeader (Lower m ∷ R) o (page_after (Lower m) lsn p)
lower_says R m o lsn (pages.Header h) own x = record {
  obj = x.obj;
  pctfree = x.pctfree;
  movement = x.movement;
  low = sym (ap (λ (k : Marks). k.low) (cond-true _ _ _ own));
  high = sym (ap (λ (k : Marks). k.high) (cond-true _ _ _ own));
  extents = ap (take m.kept) x.extents ∙ map_take m.kept (extents_of R o) ∙ sym (ap numbers (cond-true _ _ _ own));
}
lower_says R m o lsn (pages.Zero h) own x = absurd x
lower_says R m o lsn (pages.Checkpoint h) own x = absurd x
lower_says R m o lsn (pages.Txns h) own x = absurd x
lower_says R m o lsn (pages.Catalogue h) own x = absurd x
lower_says R m o lsn (pages.Space h) own x = absurd x
lower_says R m o lsn (pages.Undo h) own x = absurd x
lower_says R m o lsn (pages.First h) own x = absurd x
lower_says R m o lsn (pages.Second h) own x = absurd x
lower_says R m o lsn (pages.Third h) own x = absurd x
lower_says R m o lsn (pages.Rows h) own x = absurd x

extend_says : (R : List Record) (e : ExtendRecord) (o lsn : ℕ) (p : Page) → eqb e.obj o ≡ true → SaysHeader R o p → SaysHeader (Extend e ∷ R) o (page_after (Extend e) lsn p)
extend_says R e o lsn (pages.Header h) own x = record {
  obj = x.obj;
  pctfree = x.pctfree;
  movement = x.movement;
  low = x.low;
  high = x.high;
  extents = ap (λ (xs : List ℕ). xs ++ e.extent ∷ []) x.extents ∙ sym (map-append (λ (y : Extent). y.number) (extents_of R o) _) ∙ sym (ap numbers (cond-true _ _ _ own));
}
extend_says R e o lsn (pages.Zero h) own x = absurd x
extend_says R e o lsn (pages.Checkpoint h) own x = absurd x
extend_says R e o lsn (pages.Txns h) own x = absurd x
extend_says R e o lsn (pages.Catalogue h) own x = absurd x
extend_says R e o lsn (pages.Space h) own x = absurd x
extend_says R e o lsn (pages.Undo h) own x = absurd x
extend_says R e o lsn (pages.First h) own x = absurd x
extend_says R e o lsn (pages.Second h) own x = absurd x
extend_says R e o lsn (pages.Third h) own x = absurd x
extend_says R e o lsn (pages.Rows h) own x = absurd x

-- a header whose block is number d isn't made anew by the Extend of its table
pub extend_starts : (e : ExtendRecord) (lsn : ℕ) (p : Page) → (dba_of p ≡ 3 → ⊥) → dba_of p ≡ e.header → start (Extend e) lsn p ≡ p
extend_starts e lsn p three own =
    ap (λ (o : Option Page). or_kept o p) (cond-false _ _ _ (ne_eqb (dba_of p) 3 three) ∙ cond-true _ _ _ (eq-eqb (dba_of p) e.header own))

pub high_header : (sh : Shape) (R : List Record) (o : ℕ) → Headed sh R o → stated_header R o ≡ 3 → ⊥
high_header sh R o (inl z) e = (let b = z.block in omega (arith, b, e))
high_header sh R o (inr z) e = (let b = z.block in omega (arith, b, e))

own_extend : (sh : Shape) (R : List Record) (e : ExtendRecord) (o : ℕ) → AreAllowed sh (Extend e ∷ R) → IsTable R o → eqb e.obj o ≡ true → SaysHeader R o (page_of sh R (stated_header R o)) → SaysHeader (Extend e ∷ R) o (page_of sh (Extend e ∷ R) (stated_header (Extend e ∷ R) o))
own_extend sh R e o h i own x =
    let d : ℕ = stated_header R o in
    let p = page_of sh R d in
    let lsn = suc (length R) in
    let at : e.header ≡ d = extend_header sh R e h ∙ ap (stated_header R) (eqb-true e.obj o own) in
    let dba : dba_of p ≡ d = dba_says R d p (says sh R d) in
    let kept : start (Extend e) lsn p ≡ p = extend_starts e lsn p (λ y. high_header sh R o (headed sh R o h.0 i) (sym dba ∙ y)) (dba ∙ sym at) in
    touched_step sh R (Extend e) o (or_right (eqb 3 d) _ (or_left (eqb e.header d) _ (eq-eqb e.header d at))) refl
    (subst (λ (q : Page). SaysHeader (Extend e ∷ R) o (page_after (Extend e) lsn q)) (sym kept) (extend_says R e o lsn p own x))

-- the header of a table that has its first extent
pub model_header : (sh : Shape) (R : List Record) (r : Record) (o p : ℕ) → AreAllowed sh (r ∷ R) → IsTable R p → ((e : ExtendRecord) → r ≡ Extend e → ⊥) → eqb p o ≡ true → header_of sh (extents_of R p) ≡ stated_header R o
model_header sh R r o p h i plain own =
    let z = no_wait sh R r p h.1.called_for plain (headed sh R p h.0 i) in
    ap (λ (x : Option Extent). block_in sh x 3) z.at ∙ sym z.block ∙ ap (stated_header R) (eqb-true p o own)

stands : (sh : Shape) (R : List Record) (e : ExtendRecord) (o : ℕ) → IsCalledFor R (Extend e) → eqb e.obj o ≡ false → Headed sh R o → Standing sh R o
stands sh R e o c other (inl z) = z
stands sh R e o c other (inr w) = absurd (true≢false (sym (eq-eqb e.obj o ((subst (λ (Q : List Record). IsCalledFor Q (Extend e)) w.is c).0 ∙ w.obj)) ∙ other))

header_step : (sh : Shape) (R : List Record) (r : Record) (o : ℕ) → is_shape sh ≡ true → AreAllowed sh (r ∷ R) → IsTable R o → SaysHeader R o (page_of sh R (stated_header R o)) → SaysHeader (r ∷ R) o (page_of sh (r ∷ R) (stated_header (r ∷ R) o))
header_step sh R (Table t) o s h i x =
    let n = h.1.kind.number in
    let l = i.most in
    other_step sh R (Table t) o s h i (no_wait sh R (Table t) o h.1.called_for (λ e is. (let z : Table t ≡ Extend e = is in cc)) (headed sh R o h.0 i)) (ne_eqb t.obj o (λ e. omega (arith, e, n, l))) x
header_step sh R (Extend e) o s h i x = elim (cases_Bool (eqb e.obj o)) [
  | inl y ↦ own_extend sh R e o h i y x
  | inr f ↦ other_step sh R (Extend e) o s h i (stands sh R e o h.1.called_for f (headed sh R o h.0 i)) f x
]
header_step sh R (Movement m) o s h i x =
    let plain : (e : ExtendRecord) → Movement m ≡ Extend e → ⊥ = λ e is. (let z : Movement m ≡ Extend e = is in cc) in
    elim (cases_Bool (eqb m.obj o)) [
      | inl y ↦
          let at : m.header ≡ stated_header R o = h.1.kind.header ∙ model_header sh R (Movement m) o m.obj h h.1.kind.table plain y in
          touched_step sh R (Movement m) o ((or_left (eqb m.header (stated_header R o)) _ (eq-eqb m.header (stated_header R o) at))) refl (movement_says R m o (suc (length R)) (page_of sh R (stated_header R o)) y x)
      | inr f ↦ other_step sh R (Movement m) o s h i (no_wait sh R (Movement m) o h.1.called_for plain (headed sh R o h.0 i)) f x
    ]
header_step sh R (Advance m) o s h i x =
    let plain : (e : ExtendRecord) → Advance m ≡ Extend e → ⊥ = λ e is. (let z : Advance m ≡ Extend e = is in cc) in
    elim (cases_Bool (eqb m.obj o)) [
      | inl y ↦
          let at : m.header ≡ stated_header R o = h.1.kind.header ∙ model_header sh R (Advance m) o m.obj h h.1.kind.table plain y in
          touched_step sh R (Advance m) o ((or_left (eqb m.header (stated_header R o)) _ (eq-eqb m.header (stated_header R o) at))) refl (advance_says R m o (suc (length R)) (page_of sh R (stated_header R o)) y x)
      | inr f ↦ other_step sh R (Advance m) o s h i (no_wait sh R (Advance m) o h.1.called_for plain (headed sh R o h.0 i)) f x
    ]
header_step sh R (Lower m) o s h i x =
    let plain : (e : ExtendRecord) → Lower m ≡ Extend e → ⊥ = λ e is. (let z : Lower m ≡ Extend e = is in cc) in
    elim (cases_Bool (eqb m.obj o)) [
      | inl y ↦
          let at : m.header ≡ stated_header R o = h.1.kind.header ∙ model_header sh R (Lower m) o m.obj h h.1.kind.table plain y in
          touched_step sh R (Lower m) o (or_right (eqb 3 (stated_header R o)) _ (or_left (eqb m.header (stated_header R o)) _ (eq-eqb m.header (stated_header R o) at))) refl (lower_says R m o (suc (length R)) (page_of sh R (stated_header R o)) y x)
      | inr f ↦ other_step sh R (Lower m) o s h i (no_wait sh R (Lower m) o h.1.called_for plain (headed sh R o h.0 i)) f x
    ]
header_step sh R (FormatBlock m) o s h i x = other_step sh R (FormatBlock m) o s h i (no_wait sh R (FormatBlock m) o h.1.called_for (λ e is. (let z : FormatBlock m ≡ Extend e = is in cc)) (headed sh R o h.0 i)) refl x
header_step sh R (Class m) o s h i x = other_step sh R (Class m) o s h i (no_wait sh R (Class m) o h.1.called_for (λ e is. (let z : Class m ≡ Extend e = is in cc)) (headed sh R o h.0 i)) refl x
header_step sh R (Begin m) o s h i x = other_step sh R (Begin m) o s h i (no_wait sh R (Begin m) o h.1.called_for (λ e is. (let z : Begin m ≡ Extend e = is in cc)) (headed sh R o h.0 i)) refl x
header_step sh R (Reuse m) o s h i x = other_step sh R (Reuse m) o s h i (no_wait sh R (Reuse m) o h.1.called_for (λ e is. (let z : Reuse m ≡ Extend e = is in cc)) (headed sh R o h.0 i)) refl x
header_step sh R (Insert m) o s h i x = other_step sh R (Insert m) o s h i (no_wait sh R (Insert m) o h.1.called_for (λ e is. (let z : Insert m ≡ Extend e = is in cc)) (headed sh R o h.0 i)) refl x
header_step sh R (Update m) o s h i x = other_step sh R (Update m) o s h i (no_wait sh R (Update m) o h.1.called_for (λ e is. (let z : Update m ≡ Extend e = is in cc)) (headed sh R o h.0 i)) refl x
header_step sh R (Migrate m) o s h i x = other_step sh R (Migrate m) o s h i (no_wait sh R (Migrate m) o h.1.called_for (λ e is. (let z : Migrate m ≡ Extend e = is in cc)) (headed sh R o h.0 i)) refl x
header_step sh R (Return m) o s h i x = other_step sh R (Return m) o s h i (no_wait sh R (Return m) o h.1.called_for (λ e is. (let z : Return m ≡ Extend e = is in cc)) (headed sh R o h.0 i)) refl x
header_step sh R (Delete m) o s h i x = other_step sh R (Delete m) o s h i (no_wait sh R (Delete m) o h.1.called_for (λ e is. (let z : Delete m ≡ Extend e = is in cc)) (headed sh R o h.0 i)) refl x
header_step sh R (Commit m) o s h i x = other_step sh R (Commit m) o s h i (no_wait sh R (Commit m) o h.1.called_for (λ e is. (let z : Commit m ≡ Extend e = is in cc)) (headed sh R o h.0 i)) refl x
header_step sh R (Back m) o s h i x = other_step sh R (Back m) o s h i (no_wait sh R (Back m) o h.1.called_for (λ e is. (let z : Back m ≡ Extend e = is in cc)) (headed sh R o h.0 i)) refl x
header_step sh R (Ended m) o s h i x = other_step sh R (Ended m) o s h i (no_wait sh R (Ended m) o h.1.called_for (λ e is. (let z : Ended m ≡ Extend e = is in cc)) (headed sh R o h.0 i)) refl x
header_step sh R (Move m) o s h i x = other_step sh R (Move m) o s h i (no_wait sh R (Move m) o h.1.called_for (λ e is. (let z : Move m ≡ Extend e = is in cc)) (headed sh R o h.0 i)) refl x
header_step sh R (Clean m) o s h i x = other_step sh R (Clean m) o s h i (no_wait sh R (Clean m) o h.1.called_for (λ e is. (let z : Clean m ≡ Extend e = is in cc)) (headed sh R o h.0 i)) refl x

-- a new table
new_step : (sh : Shape) (R : List Record) (t : TableRecord) (o : ℕ) → AreAllowed sh (Table t ∷ R) → (IsTable R o → ⊥) → t.obj ≡ o → SaysHeader (Table t ∷ R) o (page_of sh (Table t ∷ R) (stated_header (Table t ∷ R) o))
new_step sh R t o h none own =
    let a = h.1.kind in
    let lsn = suc (length R) in
    let p = page_of sh R t.header in
    let f = fresh sh R o h.0 none in
    let head = a.header in
    let same : eqb t.obj o ≡ true = eq-eqb t.obj o own in
    let dba : dba_of p ≡ t.header = dba_says R t.header p (says sh R t.header) in
    let made : start (Table t) lsn p ≡ new_header (dba_of p) t = ap (λ (q : Option Page). or_kept q p) (cond-false _ _ _ (ne_eqb (dba_of p) 2 (λ e. omega (arith, e, dba, head)))) in
    let m : is_among (touched sh (Table t)) t.header ≡ true = or_right (eqb 2 t.header) _ (or_left (eqb t.header t.header) _ (eq-eqb t.header t.header refl)) in
    subst (λ (n : ℕ). SaysHeader (Table t ∷ R) o (page_of sh (Table t ∷ R) n)) (sym (cond-true _ _ _ same))
    (subst (SaysHeader (Table t ∷ R) o) (sym (ap (λ (b : Bool). cond b (changed_page (Table t) lsn p) p) m ∙ ap (page_after (Table t) lsn) made))
    (record {
      obj = own;
      pctfree = sym (cond-true _ _ _ same);
      movement = sym f.movement;
      low = sym (ap (λ (k : Marks). k.low) f.marks);
      high = sym (ap (λ (k : Marks). k.high) f.marks);
      extents = sym (ap numbers f.extents);
    }))

pub headers_say : HeadersSay
headers_say sh [] o s h i = (let a = i.least in let b = i.most in absurd (omega (arith, a, b)))
headers_say sh (Table t ∷ R) o s h i = elim (cases_order o (suc (table_count R))) [
  | inl e ↦ new_step sh R t o h (λ j. (let m = j.most in omega (arith, e, m))) (h.1.kind.number ∙ sym e)
  | inr w ↦
      let most : o ≤ table_count R = elim w [ inl x ↦ omega (arith, x) | inr x ↦ (let k = i.most in absurd (omega (arith, x, k))) ] in
      let j : IsTable R o = record { least = i.least; most = most } in
      header_step sh R (Table t) o s h j (headers_say sh R o s h.0 j)
]
headers_say sh (Movement r ∷ R) o s h i = (let j : IsTable R o = record { least = i.least; most = i.most } in header_step sh R (Movement r) o s h j (headers_say sh R o s h.0 j))
headers_say sh (Extend r ∷ R) o s h i = (let j : IsTable R o = record { least = i.least; most = i.most } in header_step sh R (Extend r) o s h j (headers_say sh R o s h.0 j))
headers_say sh (FormatBlock r ∷ R) o s h i = (let j : IsTable R o = record { least = i.least; most = i.most } in header_step sh R (FormatBlock r) o s h j (headers_say sh R o s h.0 j))
headers_say sh (Class r ∷ R) o s h i = (let j : IsTable R o = record { least = i.least; most = i.most } in header_step sh R (Class r) o s h j (headers_say sh R o s h.0 j))
headers_say sh (Advance r ∷ R) o s h i = (let j : IsTable R o = record { least = i.least; most = i.most } in header_step sh R (Advance r) o s h j (headers_say sh R o s h.0 j))
headers_say sh (Lower r ∷ R) o s h i = (let j : IsTable R o = record { least = i.least; most = i.most } in header_step sh R (Lower r) o s h j (headers_say sh R o s h.0 j))
headers_say sh (Begin r ∷ R) o s h i = (let j : IsTable R o = record { least = i.least; most = i.most } in header_step sh R (Begin r) o s h j (headers_say sh R o s h.0 j))
headers_say sh (Reuse r ∷ R) o s h i = (let j : IsTable R o = record { least = i.least; most = i.most } in header_step sh R (Reuse r) o s h j (headers_say sh R o s h.0 j))
headers_say sh (Insert r ∷ R) o s h i = (let j : IsTable R o = record { least = i.least; most = i.most } in header_step sh R (Insert r) o s h j (headers_say sh R o s h.0 j))
headers_say sh (Update r ∷ R) o s h i = (let j : IsTable R o = record { least = i.least; most = i.most } in header_step sh R (Update r) o s h j (headers_say sh R o s h.0 j))
headers_say sh (Migrate r ∷ R) o s h i = (let j : IsTable R o = record { least = i.least; most = i.most } in header_step sh R (Migrate r) o s h j (headers_say sh R o s h.0 j))
headers_say sh (Return r ∷ R) o s h i = (let j : IsTable R o = record { least = i.least; most = i.most } in header_step sh R (Return r) o s h j (headers_say sh R o s h.0 j))
headers_say sh (Delete r ∷ R) o s h i = (let j : IsTable R o = record { least = i.least; most = i.most } in header_step sh R (Delete r) o s h j (headers_say sh R o s h.0 j))
headers_say sh (Commit r ∷ R) o s h i = (let j : IsTable R o = record { least = i.least; most = i.most } in header_step sh R (Commit r) o s h j (headers_say sh R o s h.0 j))
headers_say sh (Back r ∷ R) o s h i = (let j : IsTable R o = record { least = i.least; most = i.most } in header_step sh R (Back r) o s h j (headers_say sh R o s h.0 j))
headers_say sh (Ended r ∷ R) o s h i = (let j : IsTable R o = record { least = i.least; most = i.most } in header_step sh R (Ended r) o s h j (headers_say sh R o s h.0 j))
headers_say sh (Move r ∷ R) o s h i = (let j : IsTable R o = record { least = i.least; most = i.most } in header_step sh R (Move r) o s h j (headers_say sh R o s h.0 j))
headers_say sh (Clean r ∷ R) o s h i = (let j : IsTable R o = record { least = i.least; most = i.most } in header_step sh R (Clean r) o s h j (headers_say sh R o s h.0 j))
