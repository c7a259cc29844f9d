-- A header's block is touched only by the records of its table's space.
use Rattle.std.proofs.Common.{◌≡◌, ℕ, suc, ◌+◌, ◌-◌, ◌*◌, ◌%◌, ◌<◌, ◌≤◌, min, max, Bool, true, false, eqb, List, [], ◌∷◌, take, Option, Some, None, refl, sym, ◌∙◌, ap, ap₂, subst, arith, inl, inr}
use Rattle.std.proofs.lemmas.Bool.{cases_order, eq-eqb, leb-true, and_parts, true≢false}
use Rattle.std.proofs.lemmas.Nat.{mod-mul-add}
use Rattle.seg_words.specs.Types.{EXTENTS_OF_L2, OWN_BLOCKS, LEAST_EXTENT_BLOCKS}
use Rattle.seg_base.specs.declared.shape.Shape.{Shape}
use Rattle.seg_base.specs.Places.{first_block, is_extent, is_shape}
use Rattle.redo_record.specs.declared.record.Record.{Record}
use Rattle.redo_record.specs.declared.record.Record.TheVariants.{Table, Movement, Extend, FormatBlock, Class, Advance, Lower, Begin, Reuse, Insert, Update, Migrate, Return, Delete, Commit, Back, Ended, Move, Clean}
use Rattle.redo_record.specs.declared.part.RowPart.{RowPart}
use Rattle.redo_record.specs.declared.part.BackPart.{BackPart}
use Rattle.redo_record.specs.declared.space.ExtendRecord.{ExtendRecord}
use Rattle.redo_record.specs.declared.space.LowerRecord.{LowerRecord}
use Rattle.redo_model.specs.Effects.{Step, Adds, effect_of, row_step, move_step}
use Rattle.redo_model.specs.Segments.{Extent, extents_of, data_blocks, high_mark, IsTable, IsRowBlock, has_extent, is_free_extent, extent_at, block_in, group_start, header_of, table_count, data_of}
use Rattle.redo_model.specs.AllowedTables.{l2_at, StatesBitmaps}
use Rattle.redo_model.specs.Lawful.{AreAllowed}
use Rattle.redo_laws.specs.Among.{is_in}
use Rattle.redo_laws.proofs.allowed.Basics.{EffectBasics, basics}
use Rattle.redo_laws.proofs.numbers.Bounds.{Limits, limits, current_bound, reuse_bound}
use Rattle.redo_laws.proofs.lists.Every.{Every}
use Rattle.redo_laws.proofs.space.Places.{in_data, in_contains, contains_in, in_take, same_extent, segments, a_table, free_has, format_first}
use Rattle.space_laws.specs.Extents.{IsHead}
use Rattle.page_laws.proofs.FitsLaw.{SomeHome, step_home, back_home}
use Rattle.space_laws.proofs.ExtentsLaw.{found_has, each_block_has_one_role}
use Rattle.page_set.specs.Among.{is_among, blocks_of, back_blocks}
use Rattle.page_set.specs.Folded.{touched, those, first_of}
use Rattle.page_fit.specs.Headers.{stated_header}
use Rattle.page_fit.proofs.Headed.{fresh, Standing, Headed, headed, no_wait}
use Rattle.page_fit.proofs.Plain.{extend_header}
use Rattle.page_fit.proofs.Sorted.{no_among}

-- two blocks near the front of extents that are one stand at one place of one extent
pub one_place : (sh : Shape) (x y n m : ℕ) → Limits sh → n < LEAST_EXTENT_BLOCKS → m < LEAST_EXTENT_BLOCKS → first_block sh x + n ≡ first_block sh y + m → (x ≡ y) × (n ≡ m)
one_place sh x y n m l ln lm e =
    let w = l.extent_from in
    let same : x ≡ y = same_extent sh x y (first_block sh x + n) (omega arith) (omega (arith, ln, w)) (omega (arith, e)) (omega (arith, e, lm, w)) in
    (same, (let f : first_block sh x ≡ first_block sh y = ap (first_block sh) same in omega (arith, e, f)))

-- the first block of an extent, found from any block of it
pub first_is : (sh : Shape) (x b : ℕ) → LEAST_EXTENT_BLOCKS ≤ sh.extent → first_block sh x ≤ b → b < first_block sh x + sh.extent → first_of sh b ≡ first_block sh x
first_is sh x b w l u =
    let n = b - first_block sh x in
    let e1 : b - (OWN_BLOCKS + sh.undo) ≡ x * sh.extent + n = omega (arith, l) in
    let e2 : max sh.extent 1 ≡ sh.extent = omega (arith, w) in
    let e3 : (b - (OWN_BLOCKS + sh.undo)) % max sh.extent 1 ≡ n = ap₂ (λ p q. p % q) e1 e2 ∙ mod-mul-add x sh.extent n (omega (arith, l, u)) in
    ap (λ k. b - k) e3 ∙ (let z : b - (b - first_block sh x) ≡ first_block sh x = omega (arith, l) in z)

-- what is known of the header of table o, which stands in block d
pub record HeaderAt (sh : Shape) (R : List Record) (o d : ℕ) : Type 0 where
  pub lim : Limits sh
  pub table : IsTable R o
  pub first : Extent
  pub at : extent_at (extents_of R o) 0 ≡ Some first
  pub is : d ≡ first_block sh first.number + 3
  pub no_data : (p b : ℕ) → IsTable R p → is_in b (data_blocks sh R p) ≡ true → d ≡ b → ⊥

pub header_at : (sh : Shape) (R : List Record) (o : ℕ) → is_shape sh ≡ true → AreAllowed sh R → IsTable R o → Standing sh R o → HeaderAt sh R o (stated_header R o)
header_at sh R o s h i z =
    let roles = each_block_has_one_role sh R s h in
    let head = roles.header o z.first i z.at in
    let same : header_of sh (extents_of R o) ≡ stated_header R o = ap (λ (x : Option Extent). block_in sh x 3) z.at ∙ sym z.block in
    record {
      lim = limits sh s;
      table = i;
      first = z.first;
      at = z.at;
      is = z.block;
      no_data = λ p b t e same'. roles.no_data o p 0 3 b (subst (λ (x : ℕ). IsHead sh R o 0 3 x) (same ∙ same') head) t (contains_in (data_blocks sh R p) b e);
    }

-- what the header is not

not_low : (sh : Shape) (R : List Record) (o d b : ℕ) → HeaderAt sh R o d → b < OWN_BLOCKS + sh.undo → d ≡ b → ⊥
not_low sh R o d b a lt e = (let i = a.is in omega (arith, i, lt, e))

not_head : (sh : Shape) (R : List Record) (o d b x n : ℕ) → HeaderAt sh R o d → n < 3 → b ≡ first_block sh x + n → d ≡ b → ⊥
not_head sh R o d b x n a lt is e =
    let f = a.is in
    let p = one_place sh x a.first.number n 3 a.lim (omega (arith, lt)) (omega arith) (sym is ∙ sym e ∙ f) in
    (let q = p.1 in omega (arith, q, lt))

not_in : (sh : Shape) (R : List Record) (o d b n : ℕ) (x : Option Extent) → HeaderAt sh R o d → n < 3 → b ≡ block_in sh x n → d ≡ b → ⊥
not_in sh R o d b n None a lt is e = not_low sh R o d b a (omega (arith, is)) e
not_in sh R o d b n (Some x) a lt is e = not_head sh R o d b x.number n a lt is e

not_first : (sh : Shape) (R : List Record) (o d p b : ℕ) → HeaderAt sh R o d → is_in b (data_blocks sh R p) ≡ true → d ≡ first_of sh b → ⊥
not_first sh R o d p b a m e =
    let y = in_data sh 0 (extents_of R p) b m in
    let w = a.lim.extent_from in
    not_head sh R o d (first_of sh b) y.extent 0 a (omega arith) (first_is sh y.extent b w y.from y.to ∙ (let z : first_block sh y.extent ≡ first_block sh y.extent + 0 = omega arith in z)) e

not_free : (sh : Shape) (R : List Record) (o d b x : ℕ) → AreAllowed sh R → HeaderAt sh R o d → is_free_extent sh R x ≡ true → b ≡ first_block sh x + 3 → d ≡ b → ⊥
not_free sh R o d b x h a free is e =
    let f = a.is in
    let p = one_place sh a.first.number x 3 3 a.lim (omega arith) (omega arith) (sym f ∙ e ∙ is) in
    let n = a_table sh R o (segments sh R h) a.table in
    free_has sh R o x n free (subst (λ (y : ℕ). has_extent (extents_of R o) y ≡ true) p.0 (found_has (extents_of R o) 0 a.first a.at))

-- nor that of another table
not_other : (sh : Shape) (R : List Record) (o p d : ℕ) → AreAllowed sh R → HeaderAt sh R o d → IsTable R p → Standing sh R p → eqb p o ≡ false → d ≡ stated_header R p → ⊥
not_other sh R o p d h a i z other e =
    let f = a.is in
    let q = one_place sh z.first.number a.first.number 3 3 a.lim (omega arith) (omega arith) (sym z.block ∙ sym e ∙ f) in
    let s = segments sh R h in
    let has : has_extent (extents_of R p) a.first.number ≡ true = subst (λ (y : ℕ). has_extent (extents_of R p) y ≡ true) q.0 (found_has (extents_of R p) 0 z.first z.at) in
    let same : p ≡ o = s.distinct p o a.first.number (a_table sh R p s i) (a_table sh R o s a.table) has (found_has (extents_of R o) 0 a.first a.at) in
    true≢false (sym (eq-eqb p o same) ∙ other)

not_header : (sh : Shape) (R : List Record) (r : Record) (o p b d : ℕ) → AreAllowed sh (r ∷ R) → HeaderAt sh R o d → IsTable R p → ((e : ExtendRecord) → r ≡ Extend e → ⊥) → b ≡ header_of sh (extents_of R p) → eqb p o ≡ false → d ≡ b → ⊥
not_header sh R r o p b d h a i plain is other e =
    let z = no_wait sh R r p h.1.called_for plain (headed sh R p h.0 i) in
    not_other sh R o p d h.0 a i z other (e ∙ is ∙ ap (λ (x : Option Extent). block_in sh x 3) z.at ∙ sym z.block)

those_out : (sh : Shape) (R : List Record) (o d : ℕ) (x : Option Extent) (os : List (Option ℕ)) → HeaderAt sh R o d → is_among (those os) d ≡ false → is_among (those (l2_at sh x ∷ os)) d ≡ false
those_out sh R o d None os a h = h
those_out sh R o d (Some x) os a h = no_among (first_block sh x.number + 1) (those os) d (not_head sh R o d (first_block sh x.number + 1) x.number 1 a (omega arith) refl) ∙ h

pub home_in : (sh : Shape) (R : List Record) (o b : ℕ) → IsRowBlock sh R o b → is_in b (data_blocks sh R o) ≡ true
home_in sh R o b x = in_take b (high_mark R o) (data_blocks sh R o) (in_contains _ b x.here.0 x.here.1 x.here.2)

-- a block of a table that is there
pub data_table : (sh : Shape) (R : List Record) (o b : ℕ) → AreAllowed sh R → is_in b (data_blocks sh R o) ≡ true → IsTable R o
data_table sh R o b h m = elim (cases_order o 0) [
  | inl e ↦ absurd (none (λ i. (let l = i.least in omega (arith, e, l))))
  | inr w ↦ elim (cases_order o (suc (table_count R))) [
    | inl e ↦ absurd (none (λ i. (let l = i.most in omega (arith, e, l))))
    | inr v ↦ elim v [
      | inl lt ↦ record { least = elim w [ inl x ↦ absurd (omega (arith, x)) | inr x ↦ omega (arith, x) ]; most = omega (arith, lt) }
      | inr gt ↦ absurd (none (λ i. (let l = i.most in omega (arith, gt, l))))
    ]
  ]
]
  where
    none : (IsTable R o → ⊥) → ⊥
    none f = true≢false (sym m ∙ ap (λ (es : List Extent). is_in b (data_of sh 0 es)) (fresh sh R o h f).extents)

row_out : (sh : Shape) (R : List Record) (o d p b : ℕ) → AreAllowed sh R → HeaderAt sh R o d → IsRowBlock sh R p b → d ≡ b → ⊥
row_out sh R o d p b h a x = let m = home_in sh R p b x in a.no_data p b (data_table sh R p b h m) m

parts_out : (sh : Shape) (R : List Record) (o d p : ℕ) (ps : List RowPart) → AreAllowed sh R → HeaderAt sh R o d → Every (λ (q : RowPart). IsRowBlock sh R p q.dba) ps → is_among (blocks_of ps) d ≡ false
parts_out sh R o d p [] h a e = refl
parts_out sh R o d p (q ∷ ps) h a e = no_among q.dba (blocks_of ps) d (row_out sh R o d p q.dba h a e.0) ∙ parts_out sh R o d p ps h a e.1

backs_out : (sh : Shape) (R : List Record) (o d : ℕ) (ps : List BackPart) → AreAllowed sh R → HeaderAt sh R o d → Every (λ (q : BackPart). SomeHome sh R q.dba) ps → is_among (back_blocks ps) d ≡ false
backs_out sh R o d [] h a e = refl
backs_out sh R o d (q ∷ ps) h a e = no_among q.dba (back_blocks ps) d (row_out sh R o d e.0.0 q.dba h a e.0.1) ∙ backs_out sh R o d ps h a e.1

step_out : (sh : Shape) (R : List Record) (r : Record) (st : Step) (o d : ℕ) → AreAllowed sh (r ∷ R) → HeaderAt sh R o d → effect_of r ≡ Adds st → is_among (st.undo.block ∷ blocks_of st.parts) d ≡ false
step_out sh R r st o d h a e =
    let b = subst (EffectBasics R) e (basics sh R r h.1.kind) in
    let u = (current_bound sh R st.undo.block a.lim.undo_from h.0 b.undo.current).1 in
    no_among st.undo.block (blocks_of st.parts) d (not_low sh R o d st.undo.block a u) ∙ parts_out sh R o d st.obj st.parts h.0 a (step_home sh R r st h e)

one_out : (sh : Shape) (R : List Record) (o d : ℕ) (xs : List ℕ) → HeaderAt sh R o d → is_among xs d ≡ false → is_among (1 ∷ xs) d ≡ false
one_out sh R o d xs a h = no_among 1 xs d (not_low sh R o d 1 a (omega arith)) ∙ h

-- the record speaks to the header of table o
abbrev pub names_header : Record → ℕ → Bool
names_header (Table t) o = eqb t.obj o
names_header (Movement m) o = eqb m.obj o
names_header (Extend e) o = eqb e.obj o
names_header (Advance a) o = eqb a.obj o
names_header (Lower l) o = eqb l.obj o
names_header _ o = false

-- of an Extend of another table, in the list with it
extend_out : (sh : Shape) (R : List Record) (e : ExtendRecord) (o : ℕ) → is_shape sh ≡ true → AreAllowed sh (Extend e ∷ R) → IsTable R o → Standing sh R o → eqb e.obj o ≡ false → is_among (touched sh (Extend e)) (stated_header R o) ≡ false
extend_out sh R e o s h i z other =
    let S : List Record = Extend e ∷ R in
    let k = h.1.kind in
    let d : ℕ = stated_header R o in
    let io : IsTable S o = record { least = i.least; most = i.most } in
    let ip : IsTable S e.obj = record { least = k.table.least; most = k.table.most } in
    let a : HeaderAt sh S o d = header_at sh S o s h io (standing_after o io (headed sh S o h io)) in
    let lim = limits sh s in
    let whole = leb-true (first_block sh e.extent + sh.extent) sh.blocks ((and_parts (is_extent sh e.extent) _ k.extent.free).0) in
    let top = lim.most in
    no_among 3 (e.header ∷ e.l2 ∷ e.l3 ∷ min (first_block sh e.extent) 4294967295 ∷ []) d (not_low sh S o d 3 a (omega arith))
    ∙ no_among e.header (e.l2 ∷ e.l3 ∷ min (first_block sh e.extent) 4294967295 ∷ []) d (λ x. not_other sh S o e.obj d h a ip (standing_after e.obj ip (headed sh S e.obj h ip)) other (x ∙ extend_header sh R e h))
    ∙ no_among e.l2 (e.l3 ∷ min (first_block sh e.extent) 4294967295 ∷ []) d (not_in sh S o d e.l2 1 (extent_at (extents_of S e.obj) (group_start e.index)) a (omega arith) k.l2)
    ∙ no_among e.l3 (min (first_block sh e.extent) 4294967295 ∷ []) d (not_in sh S o d e.l3 2 (extent_at (extents_of S e.obj) 0) a (omega arith) k.l3)
    ∙ no_among (min (first_block sh e.extent) 4294967295) [] d (not_head sh S o d (min (first_block sh e.extent) 4294967295) e.extent 0 a (omega arith) (omega (arith, whole, top)))
  where
    standing_after : (p : ℕ) → IsTable (Extend e ∷ R) p → Headed sh (Extend e ∷ R) p → Standing sh (Extend e ∷ R) p
    standing_after p j (inl x) = x
    standing_after p j (inr w) = absurd (let y : ◌≡◌ {A = List Record} (Extend e ∷ R) (Table w.newest ∷ w.before) = w.is in cc)

-- the bitmaps of a data block of table p
maps_out : (sh : Shape) (R : List Record) (o d p b l2 l3 index : ℕ) → HeaderAt sh R o d → StatesBitmaps sh R p b l2 l3 index → is_in b (data_blocks sh R p) ≡ true → is_among (l2 ∷ l3 ∷ first_of sh b ∷ []) d ≡ false
maps_out sh R o d p b l2 l3 index a m here =
    no_among l2 (l3 ∷ first_of sh b ∷ []) d (not_in sh R o d l2 1 (extent_at (extents_of R p) (group_start index)) a (omega arith) m.l2_is)
    ∙ no_among l3 (first_of sh b ∷ []) d (not_in sh R o d l3 2 (extent_at (extents_of R p) 0) a (omega arith) m.l3_is)
    ∙ no_among (first_of sh b) [] d (not_first sh R o d p b a here)

lower_out : (sh : Shape) (R : List Record) (l : LowerRecord) (o d : ℕ) → AreAllowed sh (Lower l ∷ R) → HeaderAt sh R o d → eqb l.obj o ≡ false → is_among (touched sh (Lower l)) d ≡ false
lower_out sh R l o d h a other =
    let k = h.1.kind in
    let es = take l.kept (extents_of R l.obj) in
    no_among 3 (l.header ∷ l.l3 ∷ those l.l2) d (not_low sh R o d 3 a (omega arith))
    ∙ no_among l.header (l.l3 ∷ those l.l2) d (not_header sh R (Lower l) o l.obj l.header d h a k.table (λ e is. (let z : Lower l ≡ Extend e = is in cc)) k.header other)
    ∙ no_among l.l3 (those l.l2) d (not_in sh R o d l.l3 2 (extent_at (extents_of R l.obj) 0) a (omega arith) k.l3)
    ∙ ap (λ (os : List (Option ℕ)). is_among (those os) d) k.l2
    ∙ those_out sh R o d (extent_at es 0) (l2_at sh (extent_at es EXTENTS_OF_L2) ∷ l2_at sh (extent_at es (2 * EXTENTS_OF_L2)) ∷ []) a
    (those_out sh R o d (extent_at es EXTENTS_OF_L2) (l2_at sh (extent_at es (2 * EXTENTS_OF_L2)) ∷ []) a (those_out sh R o d (extent_at es (2 * EXTENTS_OF_L2)) [] a refl))

-- the other records leave the header alone
pub header_apart : (sh : Shape) (R : List Record) (r : Record) (o : ℕ) → is_shape sh ≡ true → AreAllowed sh (r ∷ R) → IsTable R o → Standing sh R o → names_header r o ≡ false → is_among (touched sh r) (stated_header R o) ≡ false
header_apart sh R (Table t) o s h i z other =
    let d : ℕ = stated_header R o in
    let a = header_at sh R o s h.0 i z in
    no_among 2 (t.header ∷ []) d (not_low sh R o d 2 a (omega arith)) ∙ no_among t.header [] d (not_free sh R o d t.header h.1.kind.extent h.0 a h.1.kind.room.free h.1.kind.header)
header_apart sh R (Movement m) o s h i z other =
    let d : ℕ = stated_header R o in
    no_among m.header [] d (not_header sh R (Movement m) o m.obj m.header d h (header_at sh R o s h.0 i z) h.1.kind.table (λ e is. (let y : Movement m ≡ Extend e = is in cc)) h.1.kind.header other)
header_apart sh R (Advance m) o s h i z other =
    let d : ℕ = stated_header R o in
    no_among m.header [] d (not_header sh R (Advance m) o m.obj m.header d h (header_at sh R o s h.0 i z) h.1.kind.table (λ e is. (let y : Advance m ≡ Extend e = is in cc)) h.1.kind.header other)
header_apart sh R (Lower l) o s h i z other = lower_out sh R l o (stated_header R o) h (header_at sh R o s h.0 i z) other
header_apart sh R (Extend e) o s h i z other = extend_out sh R e o s h i z other
header_apart sh R (FormatBlock f) o s h i z other =
    let d : ℕ = stated_header R o in
    let a = header_at sh R o s h.0 i z in
    let here = in_take f.dba (high_mark R f.obj) (data_blocks sh R f.obj) (format_first sh R f h.1.kind).0 in
    no_among f.dba (f.l2 ∷ f.l3 ∷ first_of sh f.dba ∷ []) d (a.no_data f.obj f.dba h.1.kind.table here) ∙ maps_out sh R o d f.obj f.dba f.l2 f.l3 f.index a h.1.kind.bitmaps here
header_apart sh R (Class k) o s h i z other =
    maps_out sh R o (stated_header R o) k.obj k.dba k.l2 k.l3 k.index (header_at sh R o s h.0 i z) h.1.kind.bitmaps (home_in sh R k.obj k.dba h.1.kind.here)
header_apart sh R (Begin g) o s h i z other = one_out sh R o (stated_header R o) [] (header_at sh R o s h.0 i z) refl
header_apart sh R (Commit g) o s h i z other = one_out sh R o (stated_header R o) [] (header_at sh R o s h.0 i z) refl
header_apart sh R (Ended g) o s h i z other = one_out sh R o (stated_header R o) [] (header_at sh R o s h.0 i z) refl
header_apart sh R (Reuse q) o s h i z other =
    let d : ℕ = stated_header R o in
    let a = header_at sh R o s h.0 i z in
    let u = (reuse_bound sh R q.block a.lim.undo_from h.0 h.1.kind.block.next).1 in
    one_out sh R o d (q.block ∷ []) a (no_among q.block [] d (not_low sh R o d q.block a u))
header_apart sh R (Move m) o s h i z other = step_out sh R (Move m) (move_step m) o (stated_header R o) h (header_at sh R o s h.0 i z) refl
header_apart sh R (Back k) o s h i z other = let a = header_at sh R o s h.0 i z in one_out sh R o (stated_header R o) (back_blocks k.parts) a (backs_out sh R o (stated_header R o) k.parts h.0 a (back_home sh R k h))
header_apart sh R (Clean c) o s h i z other = no_among c.dba [] (stated_header R o) (row_out sh R o (stated_header R o) h.1.kind.obj c.dba h.0 (header_at sh R o s h.0 i z) h.1.kind.here)
header_apart sh R (Insert w) o s h i z other = let a = header_at sh R o s h.0 i z in one_out sh R o (stated_header R o) (w.undo.block ∷ blocks_of w.parts) a (step_out sh R (Insert w) (row_step w false) o (stated_header R o) h a refl)
header_apart sh R (Update w) o s h i z other = let a = header_at sh R o s h.0 i z in one_out sh R o (stated_header R o) (w.undo.block ∷ blocks_of w.parts) a (step_out sh R (Update w) (row_step w false) o (stated_header R o) h a refl)
header_apart sh R (Migrate w) o s h i z other = let a = header_at sh R o s h.0 i z in one_out sh R o (stated_header R o) (w.undo.block ∷ blocks_of w.parts) a (step_out sh R (Migrate w) (row_step w false) o (stated_header R o) h a refl)
header_apart sh R (Return w) o s h i z other = let a = header_at sh R o s h.0 i z in one_out sh R o (stated_header R o) (w.undo.block ∷ blocks_of w.parts) a (step_out sh R (Return w) (row_step w false) o (stated_header R o) h a refl)
header_apart sh R (Delete w) o s h i z other = let a = header_at sh R o s h.0 i z in one_out sh R o (stated_header R o) (w.undo.block ∷ blocks_of w.parts) a (step_out sh R (Delete w) (row_step w true) o (stated_header R o) h a refl)
