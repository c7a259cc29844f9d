-- Where a table's header stands: in the fourth block of its first extent, or, right after its Table, of the extent that its
-- Extend takes.
use Rattle.std.proofs.Common.{◌≡◌, ◌⊎◌, ℕ, zero, suc, ◌+◌, ◌≤◌, Bool, true, false, not, ◌&&◌, ◌||◌, eqb, List, [], ◌∷◌, ◌++◌, length, take, Option, Some, None, refl, sym, ◌∙◌, ap, subst, arith, inl, inr}
use Rattle.std.proofs.lemmas.Bool.{cases_Bool, cases_order, eq-eqb, ne_eqb, cond-true, cond-false, true≢false}
use Rattle.seg_words.specs.Types.{MOST_TABLES}
use Rattle.seg_base.specs.declared.shape.Shape.{Shape}
use Rattle.seg_base.specs.Places.{first_block, is_extent}
use Rattle.redo_record.specs.declared.record.Record.{Record}
use Rattle.redo_record.specs.declared.record.Record.TheVariants.{Table, Movement, Extend, FormatBlock, Class, Advance, Lower, Begin, Reuse, Insert, Update, Migrate, Return, Delete, Commit, Back, Ended, Move, Clean}
use Rattle.redo_record.specs.declared.space.TableRecord.{TableRecord}
use Rattle.redo_record.specs.declared.space.ExtendRecord.{ExtendRecord}
use Rattle.redo_record.specs.declared.space.LowerRecord.{LowerRecord}
use Rattle.redo_model.specs.Segments.{Extent, extents_of, has_movement, marks, IsTable, table_count, has_extent, is_taken, is_free_extent, IsLeastFree, extent_at, block_in}
use Rattle.redo_model.specs.AllowedTables.{LowerAllowed}
use Rattle.redo_model.specs.Lawful.{IsCalledFor, IsFirstExtend, IsAllowed, AreAllowed, is_whole}
use Rattle.page_fit.specs.Headers.{stated_header, HeadersAreStated}

-- what is said of a table that isn't there: nothing
pub record Fresh (R : List Record) (o : ℕ) : Type 0 where
  pub extents : extents_of R o ≡ []
  pub movement : has_movement R o ≡ false
  pub marks : marks R o ≡ record { low = 0; high = 0 }

apart_of : (R : List Record) (o p : ℕ) → (IsTable R o → ⊥) → IsTable R p → eqb p o ≡ false
apart_of R o p none i = ne_eqb p o (λ same. none (record { least = (let l = i.least in omega (arith, l, same)); most = (let m = i.most in omega (arith, m, same)) }))

pub fresh : (sh : Shape) (R : List Record) (o : ℕ) → AreAllowed sh R → (IsTable R o → ⊥) → Fresh R o
fresh sh [] o h none = record { extents = refl; movement = refl; marks = refl }
fresh sh (Table t ∷ R) o h none = let f = fresh sh R o h.0 (λ i. none (record { least = i.least; most = (let m = i.most in omega (arith, m)) })) in record { extents = f.extents; movement = f.movement; marks = f.marks }
fresh sh (Movement t ∷ R) o h none =
    let before : IsTable R o → ⊥ = λ i. none (record { least = i.least; most = i.most }) in
    let f = fresh sh R o h.0 before in
    record { extents = f.extents; movement = cond-false _ _ _ (apart_of R o t.obj before h.1.kind.table) ∙ f.movement; marks = f.marks }
fresh sh (Extend t ∷ R) o h none =
    let before : IsTable R o → ⊥ = λ i. none (record { least = i.least; most = i.most }) in
    let f = fresh sh R o h.0 before in
    record { extents = cond-false _ _ _ (apart_of R o t.obj before h.1.kind.table) ∙ f.extents; movement = f.movement; marks = f.marks }
fresh sh (Advance t ∷ R) o h none =
    let before : IsTable R o → ⊥ = λ i. none (record { least = i.least; most = i.most }) in
    let f = fresh sh R o h.0 before in
    record { extents = f.extents; movement = f.movement; marks = cond-false _ _ _ (apart_of R o t.obj before h.1.kind.table) ∙ f.marks }
fresh sh (Lower t ∷ R) o h none =
    let before : IsTable R o → ⊥ = λ i. none (record { least = i.least; most = i.most }) in
    let f = fresh sh R o h.0 before in
    let other : eqb t.obj o ≡ false = apart_of R o t.obj before h.1.kind.table in
    record { extents = cond-false _ _ _ other ∙ f.extents; movement = f.movement; marks = cond-false _ _ _ other ∙ f.marks }
fresh sh (FormatBlock t ∷ R) o h none = let f = fresh sh R o h.0 (λ i. none (record { least = i.least; most = i.most })) in record { extents = f.extents; movement = f.movement; marks = f.marks }
fresh sh (Class t ∷ R) o h none = let f = fresh sh R o h.0 (λ i. none (record { least = i.least; most = i.most })) in record { extents = f.extents; movement = f.movement; marks = f.marks }
fresh sh (Begin t ∷ R) o h none = let f = fresh sh R o h.0 (λ i. none (record { least = i.least; most = i.most })) in record { extents = f.extents; movement = f.movement; marks = f.marks }
fresh sh (Reuse t ∷ R) o h none = let f = fresh sh R o h.0 (λ i. none (record { least = i.least; most = i.most })) in record { extents = f.extents; movement = f.movement; marks = f.marks }
fresh sh (Insert t ∷ R) o h none = let f = fresh sh R o h.0 (λ i. none (record { least = i.least; most = i.most })) in record { extents = f.extents; movement = f.movement; marks = f.marks }
fresh sh (Update t ∷ R) o h none = let f = fresh sh R o h.0 (λ i. none (record { least = i.least; most = i.most })) in record { extents = f.extents; movement = f.movement; marks = f.marks }
fresh sh (Migrate t ∷ R) o h none = let f = fresh sh R o h.0 (λ i. none (record { least = i.least; most = i.most })) in record { extents = f.extents; movement = f.movement; marks = f.marks }
fresh sh (Return t ∷ R) o h none = let f = fresh sh R o h.0 (λ i. none (record { least = i.least; most = i.most })) in record { extents = f.extents; movement = f.movement; marks = f.marks }
fresh sh (Delete t ∷ R) o h none = let f = fresh sh R o h.0 (λ i. none (record { least = i.least; most = i.most })) in record { extents = f.extents; movement = f.movement; marks = f.marks }
fresh sh (Commit t ∷ R) o h none = let f = fresh sh R o h.0 (λ i. none (record { least = i.least; most = i.most })) in record { extents = f.extents; movement = f.movement; marks = f.marks }
fresh sh (Back t ∷ R) o h none = let f = fresh sh R o h.0 (λ i. none (record { least = i.least; most = i.most })) in record { extents = f.extents; movement = f.movement; marks = f.marks }
fresh sh (Ended t ∷ R) o h none = let f = fresh sh R o h.0 (λ i. none (record { least = i.least; most = i.most })) in record { extents = f.extents; movement = f.movement; marks = f.marks }
fresh sh (Move t ∷ R) o h none = let f = fresh sh R o h.0 (λ i. none (record { least = i.least; most = i.most })) in record { extents = f.extents; movement = f.movement; marks = f.marks }
fresh sh (Clean t ∷ R) o h none = let f = fresh sh R o h.0 (λ i. none (record { least = i.least; most = i.most })) in record { extents = f.extents; movement = f.movement; marks = f.marks }

-- the table has its first extent
pub record Standing (sh : Shape) (R : List Record) (o : ℕ) : Type 0 where
  pub first : Extent
  pub at : extent_at (extents_of R o) 0 ≡ Some first
  pub block : stated_header R o ≡ first_block sh first.number + 3

-- its Table is the newest record, and its Extend comes next
pub record Awaited (sh : Shape) (R : List Record) (o : ℕ) : Type 0 where
  pub newest : TableRecord
  pub before : List Record
  pub is : R ≡ Table newest ∷ before
  pub obj : newest.obj ≡ o
  pub none : extents_of R o ≡ []
  pub extent : ℕ
  pub room : IsLeastFree sh before extent
  pub block : stated_header R o ≡ first_block sh extent + 3

abbrev pub Headed : Shape → List Record → ℕ → Type 0
Headed sh R o = Standing sh R o ⊎ Awaited sh R o

table_called : {P : Type 0} (t : TableRecord) (R : List Record) (r : Record) → IsCalledFor (Table t ∷ R) r → ((e : ExtendRecord) → r ≡ Extend e → P) → P
table_called t R (Extend e) c f = f e refl
table_called t R (Table x) c f = absurd c
table_called t R (Movement x) c f = absurd c
table_called t R (FormatBlock x) c f = absurd c
table_called t R (Class x) c f = absurd c
table_called t R (Advance x) c f = absurd c
table_called t R (Lower x) c f = absurd c
table_called t R (Begin x) c f = absurd c
table_called t R (Reuse x) c f = absurd c
table_called t R (Insert x) c f = absurd c
table_called t R (Update x) c f = absurd c
table_called t R (Migrate x) c f = absurd c
table_called t R (Return x) c f = absurd c
table_called t R (Delete x) c f = absurd c
table_called t R (Commit x) c f = absurd c
table_called t R (Back x) c f = absurd c
table_called t R (Ended x) c f = absurd c
table_called t R (Move x) c f = absurd c
table_called t R (Clean x) c f = absurd c

-- what an awaited Extend is
pub awaited_extend : {P : Type 0} (sh : Shape) (R : List Record) (o : ℕ) (r : Record) → Awaited sh R o → IsCalledFor R r → ((e : ExtendRecord) → r ≡ Extend e → P) → P
awaited_extend sh R o r w c f = table_called w.newest w.before r (subst (λ (Q : List Record). IsCalledFor Q r) w.is c) f

first_added : (es : List Extent) (x e : Extent) → extent_at es 0 ≡ Some e → extent_at (es ++ x ∷ []) 0 ≡ Some e
first_added [] x e h = absurd (let z : ◌≡◌ {A = Option Extent} None (Some e) = h in cc)
first_added (y ∷ es) x e h = h

first_taken : (k : ℕ) (es : List Extent) (e : Extent) → 1 ≤ k → extent_at es 0 ≡ Some e → extent_at (take k es) 0 ≡ Some e
first_taken zero es e le h = absurd (omega (arith, le))
first_taken (suc k) [] e le h = h
first_taken (suc k) (y ∷ es) e le h = h

least_one : (sh : Shape) (R : List Record) (x y : ℕ) → IsLeastFree sh R x → IsLeastFree sh R y → x ≡ y
least_one sh R x y a b = elim (cases_order x y) [
  | inl e ↦ e
  | inr w ↦ elim w [
    | inl lt ↦ absurd (true≢false (sym a.free ∙ b.least x (omega (arith, lt))))
    | inr gt ↦ absurd (true≢false (sym b.free ∙ a.least y (omega (arith, gt))))
  ]
]

-- the stated header and the extents of table o are as before
still : (sh : Shape) (R : List Record) (r : Record) (o : ℕ) → stated_header (r ∷ R) o ≡ stated_header R o → ((e : Extent) → extent_at (extents_of R o) 0 ≡ Some e → extent_at (extents_of (r ∷ R) o) 0 ≡ Some e)
    → Standing sh R o → Headed sh (r ∷ R) o
still sh R r o same first s = inl (record { first = s.first; at = first s.first s.at; block = same ∙ s.block })

-- a record other than an Extend finds no table waiting
pub no_wait : (sh : Shape) (R : List Record) (r : Record) (o : ℕ) → IsCalledFor R r → ((e : ExtendRecord) → r ≡ Extend e → ⊥) → Headed sh R o → Standing sh R o
no_wait sh R r o c other (inl s) = s
no_wait sh R r o c other (inr w) = awaited_extend sh R o r w c (λ e is. absurd (other e is))

taken_table : (t : TableRecord) (R : List Record) (n x : ℕ) → is_taken (Table t ∷ R) n x ≡ is_taken R n x
taken_table t R zero x = refl
taken_table t R (suc n) x = ap (λ (b : Bool). has_extent (extents_of R (suc n)) x || b) (taken_table t R n x)

free_table : (sh : Shape) (t : TableRecord) (R : List Record) (x : ℕ) → is_free_extent sh (Table t ∷ R) x ≡ is_free_extent sh R x
free_table sh t R x = ap (λ (b : Bool). is_extent sh x && not b) (taken_table t R MOST_TABLES x)

least_before : (sh : Shape) (t : TableRecord) (R : List Record) (x : ℕ) → IsLeastFree sh (Table t ∷ R) x → IsLeastFree sh R x
least_before sh t R x a = record { free = sym (free_table sh t R x) ∙ a.free; least = λ y lt. sym (free_table sh t R y) ∙ a.least y lt }

-- the first Extend of a table that waits
awaited_first : (sh : Shape) (R : List Record) (e : ExtendRecord) (o : ℕ) → IsAllowed sh R (Extend e) → Awaited sh R o → Standing sh (Extend e ∷ R) o
awaited_first sh R e o a w =
    let c : IsFirstExtend w.newest.obj (Extend e) = subst (λ (Q : List Record). IsCalledFor Q (Extend e)) w.is a.called_for in
    let own : eqb e.obj o ≡ true = eq-eqb e.obj o (c.0 ∙ w.obj) in
    let room : IsLeastFree sh (Table w.newest ∷ w.before) e.extent = subst (λ (Q : List Record). IsLeastFree sh Q e.extent) w.is a.kind.extent in
    let same : w.extent ≡ e.extent = least_one sh w.before w.extent e.extent w.room (least_before sh w.newest w.before e.extent room) in
    let new : Extent = record { number = e.extent; incarnation = suc (length R) } in
    record {
      first = new;
      at = ap (λ (es : List Extent). extent_at es 0) (cond-true _ _ _ own ∙ ap (λ (es : List Extent). es ++ new ∷ []) w.none);
      block = w.block ∙ ap (λ (x : ℕ). first_block sh x + 3) same;
    }

extend_first : (R : List Record) (e : ExtendRecord) (o : ℕ) (x : Extent) → extent_at (extents_of R o) 0 ≡ Some x → extent_at (extents_of (Extend e ∷ R) o) 0 ≡ Some x
extend_first R e o x at = elim (cases_Bool (eqb e.obj o)) [
  | inl y ↦ ap (λ (es : List Extent). extent_at es 0) (cond-true _ _ _ y) ∙ first_added (extents_of R o) _ x at
  | inr n ↦ ap (λ (es : List Extent). extent_at es 0) (cond-false _ _ _ n) ∙ at
]

lower_first : (sh : Shape) (R : List Record) (l : LowerRecord) (o : ℕ) (x : Extent) → LowerAllowed sh R l → extent_at (extents_of R o) 0 ≡ Some x → extent_at (extents_of (Lower l ∷ R) o) 0 ≡ Some x
lower_first sh R l o x a at = elim (cases_Bool (eqb l.obj o)) [
  | inl y ↦ (let k = a.longest in ap (λ (es : List Extent). extent_at es 0) (cond-true _ _ _ y) ∙ first_taken l.kept (extents_of R o) x (omega (arith, k)) at)
  | inr n ↦ ap (λ (es : List Extent). extent_at es 0) (cond-false _ _ _ n) ∙ at
]

table_headed : (sh : Shape) (R : List Record) (t : TableRecord) (o : ℕ) → AreAllowed sh R → IsAllowed sh R (Table t) → IsTable (Table t ∷ R) o → (IsTable R o → Headed sh R o) → Headed sh (Table t ∷ R) o
table_headed sh R t o h a i before = elim (cases_order o (suc (table_count R))) [
  | inl e ↦ inr (record {
    newest = t;
    before = R;
    is = refl;
    obj = a.kind.number ∙ sym e;
    none = (fresh sh R o h (λ (j : IsTable R o). (let m = j.most in omega (arith, e, m)))).extents;
    extent = a.kind.extent;
    room = a.kind.room;
    block = cond-true _ _ _ (eq-eqb t.obj o (a.kind.number ∙ sym e)) ∙ a.kind.header;
  })
  | inr w ↦
      let most : o ≤ table_count R = elim w [ inl x ↦ omega (arith, x) | inr x ↦ (let k = i.most in absurd (omega (arith, x, k))) ] in
      let other : eqb t.obj o ≡ false = ne_eqb t.obj o (λ e. (let n = a.kind.number in omega (arith, e, n, most))) in
      still sh R (Table t) o (cond-false _ _ _ other) (λ x at. at)
      (no_wait sh R (Table t) o a.called_for (λ e is. (let z : Table t ≡ Extend e = is in cc)) (before (record { least = i.least; most = most })))
]

extend_headed : (sh : Shape) (R : List Record) (e : ExtendRecord) (o : ℕ) → IsAllowed sh R (Extend e) → Headed sh R o → Headed sh (Extend e ∷ R) o
extend_headed sh R e o a (inl s) = still sh R (Extend e) o refl (extend_first R e o) s
extend_headed sh R e o a (inr w) = inl (awaited_first sh R e o a w)

plain_headed : (sh : Shape) (R : List Record) (r : Record) (o : ℕ) → IsCalledFor R r → ((e : ExtendRecord) → r ≡ Extend e → ⊥) → stated_header (r ∷ R) o ≡ stated_header R o
    → ((x : Extent) → extent_at (extents_of R o) 0 ≡ Some x → extent_at (extents_of (r ∷ R) o) 0 ≡ Some x) → Headed sh R o → Headed sh (r ∷ R) o
plain_headed sh R r o c other same first h = still sh R r o same first (no_wait sh R r o c other h)

pub headed : (sh : Shape) (R : List Record) (o : ℕ) → AreAllowed sh R → IsTable R o → Headed sh R o
headed sh [] o h i = (let a = i.least in let b = i.most in absurd (omega (arith, a, b)))
headed sh (Table t ∷ R) o h i = table_headed sh R t o h.0 h.1 i (λ j. headed sh R o h.0 j)
headed sh (Extend e ∷ R) o h i = extend_headed sh R e o h.1 (headed sh R o h.0 (record { least = i.least; most = i.most }))
headed sh (Lower l ∷ R) o h i = plain_headed sh R (Lower l) o h.1.called_for (λ e is. (let z : Lower l ≡ Extend e = is in cc)) refl (λ x. lower_first sh R l o x h.1.kind) (headed sh R o h.0 (record { least = i.least; most = i.most }))
headed sh (Movement r ∷ R) o h i = plain_headed sh R (Movement r) o h.1.called_for (λ e is. (let z : Movement r ≡ Extend e = is in cc)) refl (λ x at. at) (headed sh R o h.0 (record { least = i.least; most = i.most }))
headed sh (FormatBlock r ∷ R) o h i = plain_headed sh R (FormatBlock r) o h.1.called_for (λ e is. (let z : FormatBlock r ≡ Extend e = is in cc)) refl (λ x at. at) (headed sh R o h.0 (record { least = i.least; most = i.most }))
headed sh (Class r ∷ R) o h i = plain_headed sh R (Class r) o h.1.called_for (λ e is. (let z : Class r ≡ Extend e = is in cc)) refl (λ x at. at) (headed sh R o h.0 (record { least = i.least; most = i.most }))
headed sh (Advance r ∷ R) o h i = plain_headed sh R (Advance r) o h.1.called_for (λ e is. (let z : Advance r ≡ Extend e = is in cc)) refl (λ x at. at) (headed sh R o h.0 (record { least = i.least; most = i.most }))
headed sh (Begin r ∷ R) o h i = plain_headed sh R (Begin r) o h.1.called_for (λ e is. (let z : Begin r ≡ Extend e = is in cc)) refl (λ x at. at) (headed sh R o h.0 (record { least = i.least; most = i.most }))
headed sh (Reuse r ∷ R) o h i = plain_headed sh R (Reuse r) o h.1.called_for (λ e is. (let z : Reuse r ≡ Extend e = is in cc)) refl (λ x at. at) (headed sh R o h.0 (record { least = i.least; most = i.most }))
headed sh (Insert r ∷ R) o h i = plain_headed sh R (Insert r) o h.1.called_for (λ e is. (let z : Insert r ≡ Extend e = is in cc)) refl (λ x at. at) (headed sh R o h.0 (record { least = i.least; most = i.most }))
headed sh (Update r ∷ R) o h i = plain_headed sh R (Update r) o h.1.called_for (λ e is. (let z : Update r ≡ Extend e = is in cc)) refl (λ x at. at) (headed sh R o h.0 (record { least = i.least; most = i.most }))
headed sh (Migrate r ∷ R) o h i = plain_headed sh R (Migrate r) o h.1.called_for (λ e is. (let z : Migrate r ≡ Extend e = is in cc)) refl (λ x at. at) (headed sh R o h.0 (record { least = i.least; most = i.most }))
headed sh (Return r ∷ R) o h i = plain_headed sh R (Return r) o h.1.called_for (λ e is. (let z : Return r ≡ Extend e = is in cc)) refl (λ x at. at) (headed sh R o h.0 (record { least = i.least; most = i.most }))
headed sh (Delete r ∷ R) o h i = plain_headed sh R (Delete r) o h.1.called_for (λ e is. (let z : Delete r ≡ Extend e = is in cc)) refl (λ x at. at) (headed sh R o h.0 (record { least = i.least; most = i.most }))
headed sh (Commit r ∷ R) o h i = plain_headed sh R (Commit r) o h.1.called_for (λ e is. (let z : Commit r ≡ Extend e = is in cc)) refl (λ x at. at) (headed sh R o h.0 (record { least = i.least; most = i.most }))
headed sh (Back r ∷ R) o h i = plain_headed sh R (Back r) o h.1.called_for (λ e is. (let z : Back r ≡ Extend e = is in cc)) refl (λ x at. at) (headed sh R o h.0 (record { least = i.least; most = i.most }))
headed sh (Ended r ∷ R) o h i = plain_headed sh R (Ended r) o h.1.called_for (λ e is. (let z : Ended r ≡ Extend e = is in cc)) refl (λ x at. at) (headed sh R o h.0 (record { least = i.least; most = i.most }))
headed sh (Move r ∷ R) o h i = plain_headed sh R (Move r) o h.1.called_for (λ e is. (let z : Move r ≡ Extend e = is in cc)) refl (λ x at. at) (headed sh R o h.0 (record { least = i.least; most = i.most }))
headed sh (Clean r ∷ R) o h i = plain_headed sh R (Clean r) o h.1.called_for (λ e is. (let z : Clean r ≡ Extend e = is in cc)) refl (λ x at. at) (headed sh R o h.0 (record { least = i.least; most = i.most }))

pub headers_are_stated : HeadersAreStated
headers_are_stated sh R o h w i = elim (headed sh R o h i) [
  | inl s ↦ s.block ∙ sym (ap (λ (x : Option Extent). block_in sh x 3) s.at)
  | inr a ↦ absurd (true≢false (sym w ∙ ap is_whole a.is))
]
