-- The catalogue and the space bitmap: which records touch blocks 2 and 3, and which pages stand there.
use Rattle.std.proofs.Common.{◌≡◌, ◌⊎◌, ℕ, zero, suc, ◌+◌, ◌<◌, ◌≤◌, min, Bool, true, false, cond, eqb, List, [], ◌∷◌, length, take, Option, Some, None, refl, sym, ◌∙◌, ap, subst, arith, inl, inr, ◌*◌}
use Rattle.std.proofs.lemmas.Bool.{cases_Bool, eq-eqb, cond-true, cond-false, leb-true, and_parts}
use Rattle.seg_words.specs.Types.{EXTENTS_OF_L2, OWN_BLOCKS}
use Rattle.seg_base.specs.declared.shape.Shape.{Shape}
use Rattle.seg_base.specs.Places.{first_block, is_extent, is_shape}
use Rattle.redo_record.specs.declared.record.Record.{Record}
use Rattle.redo_record.specs.declared.record.Record.TheVariants.{Table, Movement, Extend, FormatBlock, Class, Advance, Lower, Begin, Reuse, Insert, Update, Migrate, Return, Delete, Commit, Back, Ended, Move, Clean}
use Rattle.redo_record.specs.declared.part.RowPart.{RowPart}
use Rattle.redo_record.specs.declared.part.BackPart.{BackPart}
use Rattle.redo_record.specs.declared.space.LowerRecord.{LowerRecord}
use Rattle.redo_model.specs.Effects.{Step, Adds, effect_of, row_step, move_step}
use Rattle.redo_model.specs.Segments.{Extent, extents_of, data_blocks, high_mark, IsRowBlock, extent_at, block_in, group_start}
use Rattle.redo_model.specs.AllowedTables.{l2_at, StatesBitmaps}
use Rattle.redo_model.specs.Lawful.{AreAllowed}
use Rattle.redo_laws.specs.Among.{is_in}
use Rattle.redo_laws.proofs.allowed.Basics.{EffectBasics, basics}
use Rattle.redo_laws.proofs.numbers.Bounds.{limits, data_bound, current_bound, reuse_bound}
use Rattle.redo_laws.proofs.lists.Every.{Every}
use Rattle.redo_laws.proofs.space.Places.{in_data, in_take, format_first}
use Rattle.page_laws.proofs.FitsLaw.{SomeHome, step_home, back_home}
use Rattle.page_set.specs.declared.page.Page.{Page}
use Rattle.page_set.specs.declared.page.Page.TheVariants as pages
use Rattle.page_set.specs.Pages.{dba_of}
use Rattle.page_set.specs.Started.{or_kept, as_space, as_catalogue}
use Rattle.page_set.specs.Changes.{page_after, changed_page}
use Rattle.page_set.specs.Among.{is_among, blocks_of, back_blocks}
use Rattle.page_set.specs.Folded.{touched, those, first_of, page_of}
use Rattle.page_set.proofs.SaysLaw.{says, dba_says}
use Rattle.page_fit.proofs.Sorted.{no_among}
use Rattle.page_fit.proofs.HeaderApart.{first_is, home_in}

-- a block that is not one of 2 to 36
abbrev pub Far : ℕ → Type 0
Far b = (b ≤ 1) ⊎ (OWN_BLOCKS ≤ b)

-- d is one of those
pub record Near (d : ℕ) : Type 0 where
  pub from : 2 ≤ d
  pub to : d < OWN_BLOCKS

far : (b d : ℕ) → Near d → Far b → d ≡ b → ⊥
far b d n (inl f) e = (let l = n.from in omega (arith, f, l, e))
far b d n (inr f) e = (let l = n.to in omega (arith, f, l, e))

block_far : (sh : Shape) (b n : ℕ) (x : Option Extent) → b ≡ block_in sh x n → Far b
block_far sh b n None e = inl (omega (arith, e))
block_far sh b n (Some x) e = inr (omega (arith, e))

data_far : (sh : Shape) (R : List Record) (o b : ℕ) → AreAllowed sh R → is_in b (data_blocks sh R o) ≡ true → Far b
data_far sh R o b h m = inr ((data_bound sh R o b h m).0)

first_far : (sh : Shape) (R : List Record) (o b : ℕ) → is_shape sh ≡ true → is_in b (data_blocks sh R o) ≡ true → Far (first_of sh b)
first_far sh R o b s m =
    let y = in_data sh 0 (extents_of R o) b m in
    let w = (limits sh s).extent_from in
    let e = first_is sh y.extent b w y.from y.to in
    inr (omega (arith, e))

those_far : (sh : Shape) (d : ℕ) (x : Option Extent) (os : List (Option ℕ)) → Near d → is_among (those os) d ≡ false → is_among (those (l2_at sh x ∷ os)) d ≡ false
those_far sh d None os n h = h
those_far sh d (Some x) os n h = no_among (first_block sh x.number + 1) (those os) d (far (first_block sh x.number + 1) d n (inr (omega arith))) ∙ h

parts_far : (sh : Shape) (R : List Record) (d p : ℕ) (ps : List RowPart) → AreAllowed sh R → Near d → Every (λ (q : RowPart). IsRowBlock sh R p q.dba) ps → is_among (blocks_of ps) d ≡ false
parts_far sh R d p [] h n e = refl
parts_far sh R d p (q ∷ ps) h n e = no_among q.dba (blocks_of ps) d (far q.dba d n (data_far sh R p q.dba h (home_in sh R p q.dba e.0))) ∙ parts_far sh R d p ps h n e.1

backs_far : (sh : Shape) (R : List Record) (d : ℕ) (ps : List BackPart) → AreAllowed sh R → Near d → Every (λ (q : BackPart). SomeHome sh R q.dba) ps → is_among (back_blocks ps) d ≡ false
backs_far sh R d [] h n e = refl
backs_far sh R d (q ∷ ps) h n e = no_among q.dba (back_blocks ps) d (far q.dba d n (data_far sh R e.0.0 q.dba h (home_in sh R e.0.0 q.dba e.0.1))) ∙ backs_far sh R d ps h n e.1

step_far : (sh : Shape) (R : List Record) (r : Record) (st : Step) (d : ℕ) → is_shape sh ≡ true → AreAllowed sh (r ∷ R) → Near d → effect_of r ≡ Adds st → is_among (st.undo.block ∷ blocks_of st.parts) d ≡ false
step_far sh R r st d s h n e =
    let b = subst (EffectBasics R) e (basics sh R r h.1.kind) in
    no_among st.undo.block (blocks_of st.parts) d (far st.undo.block d n (inr (current_bound sh R st.undo.block (limits sh s).undo_from h.0 b.undo.current).0)) ∙ parts_far sh R d st.obj st.parts h.0 n (step_home sh R r st h e)

one_far : (d : ℕ) (xs : List ℕ) → Near d → is_among xs d ≡ false → is_among (1 ∷ xs) d ≡ false
one_far d xs n h = no_among 1 xs d (far 1 d n (inl (omega arith))) ∙ h

maps_far : (sh : Shape) (R : List Record) (d p b l2 l3 index : ℕ) → is_shape sh ≡ true → Near d → StatesBitmaps sh R p b l2 l3 index → is_in b (data_blocks sh R p) ≡ true → is_among (l2 ∷ l3 ∷ first_of sh b ∷ []) d ≡ false
maps_far sh R d p b l2 l3 index s n m here =
    no_among l2 (l3 ∷ first_of sh b ∷ []) d (far l2 d n (block_far sh l2 1 (extent_at (extents_of R p) (group_start index)) m.l2_is))
    ∙ no_among l3 (first_of sh b ∷ []) d (far l3 d n (block_far sh l3 2 (extent_at (extents_of R p) 0) m.l3_is))
    ∙ no_among (first_of sh b) [] d (far (first_of sh b) d n (first_far sh R p b s here))

-- the blocks 2 and 3 that a record touches
abbrev pub low_of : Record → ℕ
low_of (Table t) = 2
low_of (Extend e) = 3
low_of (Lower l) = 3
low_of _ = 0

pub low_apart : (sh : Shape) (R : List Record) (r : Record) (d : ℕ) → is_shape sh ≡ true → AreAllowed sh (r ∷ R) → Near d → (d ≡ low_of r → ⊥) → is_among (touched sh r) d ≡ false
low_apart sh R (Table t) d s h n o = no_among 2 (t.header ∷ []) d o ∙ no_among t.header [] d (far t.header d n (inr (let e = h.1.kind.header in omega (arith, e))))
low_apart sh R (Movement m) d s h n o = no_among m.header [] d (far m.header d n (block_far sh m.header 3 (extent_at (extents_of R m.obj) 0) h.1.kind.header))
low_apart sh R (Advance m) d s h n o = no_among m.header [] d (far m.header d n (block_far sh m.header 3 (extent_at (extents_of R m.obj) 0) h.1.kind.header))
low_apart sh R (Extend e) d s h n o =
    let k = h.1.kind in
    let es = extents_of (Extend e ∷ R) e.obj in
    let whole = leb-true (first_block sh e.extent + sh.extent) sh.blocks ((and_parts (is_extent sh e.extent) _ k.extent.free).0) in
    let top = (limits sh s).most in
    let b : ℕ = min (first_block sh e.extent) 4294967295 in
    no_among 3 (e.header ∷ e.l2 ∷ e.l3 ∷ b ∷ []) d o
    ∙ no_among e.header (e.l2 ∷ e.l3 ∷ b ∷ []) d (far e.header d n (block_far sh e.header 3 (extent_at es 0) k.header))
    ∙ no_among e.l2 (e.l3 ∷ b ∷ []) d (far e.l2 d n (block_far sh e.l2 1 (extent_at es (group_start e.index)) k.l2))
    ∙ no_among e.l3 (b ∷ []) d (far e.l3 d n (block_far sh e.l3 2 (extent_at es 0) k.l3))
    ∙ no_among b [] d (far b d n (inr (omega (arith, whole, top))))
low_apart sh R (Lower l) d s h n o =
    let k = h.1.kind in
    let es = take l.kept (extents_of R l.obj) in
    no_among 3 (l.header ∷ l.l3 ∷ those l.l2) d o
    ∙ no_among l.header (l.l3 ∷ those l.l2) d (far l.header d n (block_far sh l.header 3 (extent_at (extents_of R l.obj) 0) k.header))
    ∙ no_among l.l3 (those l.l2) d (far l.l3 d n (block_far sh l.l3 2 (extent_at (extents_of R l.obj) 0) k.l3))
    ∙ ap (λ (os : List (Option ℕ)). is_among (those os) d) k.l2
    ∙ those_far sh d (extent_at es 0) (l2_at sh (extent_at es EXTENTS_OF_L2) ∷ l2_at sh (extent_at es (2 * EXTENTS_OF_L2)) ∷ []) n
    (those_far sh d (extent_at es EXTENTS_OF_L2) (l2_at sh (extent_at es (2 * EXTENTS_OF_L2)) ∷ []) n (those_far sh d (extent_at es (2 * EXTENTS_OF_L2)) [] n refl))
low_apart sh R (FormatBlock f) d s h n o =
    let here = in_take f.dba (high_mark R f.obj) (data_blocks sh R f.obj) (format_first sh R f h.1.kind).0 in
    no_among f.dba (f.l2 ∷ f.l3 ∷ first_of sh f.dba ∷ []) d (far f.dba d n (data_far sh R f.obj f.dba h.0 here)) ∙ maps_far sh R d f.obj f.dba f.l2 f.l3 f.index s n h.1.kind.bitmaps here
low_apart sh R (Class k) d s h n o = maps_far sh R d k.obj k.dba k.l2 k.l3 k.index s n h.1.kind.bitmaps (home_in sh R k.obj k.dba h.1.kind.here)
low_apart sh R (Begin g) d s h n o = one_far d [] n refl
low_apart sh R (Commit g) d s h n o = one_far d [] n refl
low_apart sh R (Ended g) d s h n o = one_far d [] n refl
low_apart sh R (Reuse q) d s h n o = one_far d (q.block ∷ []) n (no_among q.block [] d (far q.block d n (inr (reuse_bound sh R q.block (limits sh s).undo_from h.0 h.1.kind.block.next).0)))
low_apart sh R (Move m) d s h n o = step_far sh R (Move m) (move_step m) d s h n refl
low_apart sh R (Back k) d s h n o = one_far d (back_blocks k.parts) n (backs_far sh R d k.parts h.0 n (back_home sh R k h))
low_apart sh R (Clean c) d s h n o = no_among c.dba [] d (far c.dba d n (data_far sh R h.1.kind.obj c.dba h.0 (home_in sh R h.1.kind.obj c.dba h.1.kind.here)))
low_apart sh R (Insert w) d s h n o = one_far d (w.undo.block ∷ blocks_of w.parts) n (step_far sh R (Insert w) (row_step w false) d s h n refl)
low_apart sh R (Update w) d s h n o = one_far d (w.undo.block ∷ blocks_of w.parts) n (step_far sh R (Update w) (row_step w false) d s h n refl)
low_apart sh R (Migrate w) d s h n o = one_far d (w.undo.block ∷ blocks_of w.parts) n (step_far sh R (Migrate w) (row_step w false) d s h n refl)
low_apart sh R (Return w) d s h n o = one_far d (w.undo.block ∷ blocks_of w.parts) n (step_far sh R (Return w) (row_step w false) d s h n refl)
low_apart sh R (Delete w) d s h n o = one_far d (w.undo.block ∷ blocks_of w.parts) n (step_far sh R (Delete w) (row_step w true) d s h n refl)

pub near_two : Near 2
near_two = record { from = omega arith; to = omega arith }

pub near_three : Near 3
near_three = record { from = omega arith; to = omega arith }

pub untouched : (sh : Shape) (R : List Record) (r : Record) (d : ℕ) → is_among (touched sh r) d ≡ false → page_of sh R d ≡ page_of sh (r ∷ R) d
untouched sh R r d h = sym (ap (λ (b : Bool). cond b (changed_page r (suc (length R)) (page_of sh R d)) (page_of sh R d)) h)

-- ---- block 2

abbrev pub IsCatalogue : Page → Type 0
IsCatalogue (pages.Zero x) = Unit {0}
IsCatalogue (pages.Catalogue x) = Unit {0}
IsCatalogue _ = ⊥

catalogue_started : (p : Page) (lsn : ℕ) (r : Record) → IsCatalogue p → IsCatalogue (page_after r lsn (or_kept (as_catalogue p) p))
catalogue_started (pages.Zero x) lsn r h = tt
catalogue_started (pages.Catalogue x) lsn r h = tt
catalogue_started p lsn r h = absurd h

catalogue_kind : (sh : Shape) (R : List Record) (r : Record) → is_shape sh ≡ true → AreAllowed sh (r ∷ R) → IsCatalogue (page_of sh R 2) → IsCatalogue (page_of sh (r ∷ R) 2)
catalogue_kind sh R (Table t) s h x =
    let p = page_of sh R 2 in
    let dba : dba_of p ≡ 2 = dba_says R 2 p (says sh R 2) in
    subst IsCatalogue (ap (λ (q : Option Page). page_after (Table t) (suc (length R)) (or_kept q p)) (sym (cond-true _ _ _ (eq-eqb (dba_of p) 2 dba)))) (catalogue_started p (suc (length R)) (Table t) x)
catalogue_kind sh R (Movement r) s h x = subst IsCatalogue (untouched sh R (Movement r) 2 (low_apart sh R (Movement r) 2 s h near_two (λ (e : 2 ≡ low_of (Movement r)). omega (arith, e)))) x
catalogue_kind sh R (Extend r) s h x = subst IsCatalogue (untouched sh R (Extend r) 2 (low_apart sh R (Extend r) 2 s h near_two (λ (e : 2 ≡ low_of (Extend r)). omega (arith, e)))) x
catalogue_kind sh R (FormatBlock r) s h x = subst IsCatalogue (untouched sh R (FormatBlock r) 2 (low_apart sh R (FormatBlock r) 2 s h near_two (λ (e : 2 ≡ low_of (FormatBlock r)). omega (arith, e)))) x
catalogue_kind sh R (Class r) s h x = subst IsCatalogue (untouched sh R (Class r) 2 (low_apart sh R (Class r) 2 s h near_two (λ (e : 2 ≡ low_of (Class r)). omega (arith, e)))) x
catalogue_kind sh R (Advance r) s h x = subst IsCatalogue (untouched sh R (Advance r) 2 (low_apart sh R (Advance r) 2 s h near_two (λ (e : 2 ≡ low_of (Advance r)). omega (arith, e)))) x
catalogue_kind sh R (Lower r) s h x = subst IsCatalogue (untouched sh R (Lower r) 2 (low_apart sh R (Lower r) 2 s h near_two (λ (e : 2 ≡ low_of (Lower r)). omega (arith, e)))) x
catalogue_kind sh R (Begin r) s h x = subst IsCatalogue (untouched sh R (Begin r) 2 (low_apart sh R (Begin r) 2 s h near_two (λ (e : 2 ≡ low_of (Begin r)). omega (arith, e)))) x
catalogue_kind sh R (Reuse r) s h x = subst IsCatalogue (untouched sh R (Reuse r) 2 (low_apart sh R (Reuse r) 2 s h near_two (λ (e : 2 ≡ low_of (Reuse r)). omega (arith, e)))) x
catalogue_kind sh R (Insert r) s h x = subst IsCatalogue (untouched sh R (Insert r) 2 (low_apart sh R (Insert r) 2 s h near_two (λ (e : 2 ≡ low_of (Insert r)). omega (arith, e)))) x
catalogue_kind sh R (Update r) s h x = subst IsCatalogue (untouched sh R (Update r) 2 (low_apart sh R (Update r) 2 s h near_two (λ (e : 2 ≡ low_of (Update r)). omega (arith, e)))) x
catalogue_kind sh R (Migrate r) s h x = subst IsCatalogue (untouched sh R (Migrate r) 2 (low_apart sh R (Migrate r) 2 s h near_two (λ (e : 2 ≡ low_of (Migrate r)). omega (arith, e)))) x
catalogue_kind sh R (Return r) s h x = subst IsCatalogue (untouched sh R (Return r) 2 (low_apart sh R (Return r) 2 s h near_two (λ (e : 2 ≡ low_of (Return r)). omega (arith, e)))) x
catalogue_kind sh R (Delete r) s h x = subst IsCatalogue (untouched sh R (Delete r) 2 (low_apart sh R (Delete r) 2 s h near_two (λ (e : 2 ≡ low_of (Delete r)). omega (arith, e)))) x
catalogue_kind sh R (Commit r) s h x = subst IsCatalogue (untouched sh R (Commit r) 2 (low_apart sh R (Commit r) 2 s h near_two (λ (e : 2 ≡ low_of (Commit r)). omega (arith, e)))) x
catalogue_kind sh R (Back r) s h x = subst IsCatalogue (untouched sh R (Back r) 2 (low_apart sh R (Back r) 2 s h near_two (λ (e : 2 ≡ low_of (Back r)). omega (arith, e)))) x
catalogue_kind sh R (Ended r) s h x = subst IsCatalogue (untouched sh R (Ended r) 2 (low_apart sh R (Ended r) 2 s h near_two (λ (e : 2 ≡ low_of (Ended r)). omega (arith, e)))) x
catalogue_kind sh R (Move r) s h x = subst IsCatalogue (untouched sh R (Move r) 2 (low_apart sh R (Move r) 2 s h near_two (λ (e : 2 ≡ low_of (Move r)). omega (arith, e)))) x
catalogue_kind sh R (Clean r) s h x = subst IsCatalogue (untouched sh R (Clean r) 2 (low_apart sh R (Clean r) 2 s h near_two (λ (e : 2 ≡ low_of (Clean r)). omega (arith, e)))) x

pub catalogue_stands : (sh : Shape) (R : List Record) → is_shape sh ≡ true → AreAllowed sh R → IsCatalogue (page_of sh R 2)
catalogue_stands sh [] s h = tt
catalogue_stands sh (r ∷ R) s h = catalogue_kind sh R r s h (catalogue_stands sh R s h.0)

-- ---- block 3: where it was never written no table has an extent

abbrev pub IsSpace : List Record → Page → Type 0
IsSpace R (pages.Zero x) = (o : ℕ) → extents_of R o ≡ []
IsSpace R (pages.Space x) = Unit {0}
IsSpace R _ = ⊥

space_started : (R S : List Record) (p : Page) (lsn : ℕ) (r : Record) → IsSpace R p → IsSpace S (page_after r lsn (or_kept (as_space p) p))
space_started R S (pages.Zero x) lsn r h = tt
space_started R S (pages.Space x) lsn r h = tt
space_started R S p lsn r h = absurd h

space_kept : (R S : List Record) (p : Page) → ((o : ℕ) → extents_of R o ≡ [] → extents_of S o ≡ []) → IsSpace R p → IsSpace S p
space_kept R S (pages.Zero x) f h = λ o. f o (h o)
space_kept R S (pages.Space x) f h = tt
space_kept R S p f h = absurd h

space_after : (R S : List Record) (p : Page) (lsn : ℕ) (r : Record) → ((o : ℕ) → extents_of R o ≡ [] → extents_of S o ≡ []) → IsSpace R p → IsSpace S (page_after r lsn p)
space_after R S (pages.Zero x) lsn r f h = λ o. f o (h o)
space_after R S (pages.Space x) lsn r f h = tt
space_after R S p lsn r f h = absurd h

lowered : (R : List Record) (l : LowerRecord) (o : ℕ) → extents_of R o ≡ [] → extents_of (Lower l ∷ R) o ≡ []
lowered R l o e = elim (cases_Bool (eqb l.obj o)) [
  | inl y ↦ cond-true _ _ _ y ∙ ap (take l.kept) e ∙ none l.kept
  | inr n ↦ cond-false _ _ _ n ∙ e
]
  where
    none : (n : ℕ) → ◌≡◌ {A = List Extent} (take n []) []
    none zero = refl
    none (suc n) = refl

space_kind : (sh : Shape) (R : List Record) (r : Record) → is_shape sh ≡ true → AreAllowed sh (r ∷ R) → IsSpace R (page_of sh R 3) → IsSpace (r ∷ R) (page_of sh (r ∷ R) 3)
space_kind sh R (Extend e) s h x =
    let p = page_of sh R 3 in
    let dba : dba_of p ≡ 3 = dba_says R 3 p (says sh R 3) in
    subst (IsSpace (Extend e ∷ R)) (ap (λ (q : Option Page). page_after (Extend e) (suc (length R)) (or_kept q p)) (sym (cond-true _ _ _ (eq-eqb (dba_of p) 3 dba)))) (space_started R (Extend e ∷ R) p (suc (length R)) (Extend e) x)
space_kind sh R (Lower l) s h x = space_after R (Lower l ∷ R) (page_of sh R 3) (suc (length R)) (Lower l) (lowered R l) x
space_kind sh R (Table r) s h x = subst (IsSpace (Table r ∷ R)) (untouched sh R (Table r) 3 (low_apart sh R (Table r) 3 s h near_three (λ (e : 3 ≡ low_of (Table r)). omega (arith, e)))) (space_kept R (Table r ∷ R) (page_of sh R 3) (λ o e. e) x)
space_kind sh R (Movement r) s h x = subst (IsSpace (Movement r ∷ R)) (untouched sh R (Movement r) 3 (low_apart sh R (Movement r) 3 s h near_three (λ (e : 3 ≡ low_of (Movement r)). omega (arith, e)))) (space_kept R (Movement r ∷ R) (page_of sh R 3) (λ o e. e) x)
space_kind sh R (FormatBlock r) s h x = subst (IsSpace (FormatBlock r ∷ R)) (untouched sh R (FormatBlock r) 3 (low_apart sh R (FormatBlock r) 3 s h near_three (λ (e : 3 ≡ low_of (FormatBlock r)). omega (arith, e)))) (space_kept R (FormatBlock r ∷ R) (page_of sh R 3) (λ o e. e) x)
space_kind sh R (Class r) s h x = subst (IsSpace (Class r ∷ R)) (untouched sh R (Class r) 3 (low_apart sh R (Class r) 3 s h near_three (λ (e : 3 ≡ low_of (Class r)). omega (arith, e)))) (space_kept R (Class r ∷ R) (page_of sh R 3) (λ o e. e) x)
space_kind sh R (Advance r) s h x = subst (IsSpace (Advance r ∷ R)) (untouched sh R (Advance r) 3 (low_apart sh R (Advance r) 3 s h near_three (λ (e : 3 ≡ low_of (Advance r)). omega (arith, e)))) (space_kept R (Advance r ∷ R) (page_of sh R 3) (λ o e. e) x)
space_kind sh R (Begin r) s h x = subst (IsSpace (Begin r ∷ R)) (untouched sh R (Begin r) 3 (low_apart sh R (Begin r) 3 s h near_three (λ (e : 3 ≡ low_of (Begin r)). omega (arith, e)))) (space_kept R (Begin r ∷ R) (page_of sh R 3) (λ o e. e) x)
space_kind sh R (Reuse r) s h x = subst (IsSpace (Reuse r ∷ R)) (untouched sh R (Reuse r) 3 (low_apart sh R (Reuse r) 3 s h near_three (λ (e : 3 ≡ low_of (Reuse r)). omega (arith, e)))) (space_kept R (Reuse r ∷ R) (page_of sh R 3) (λ o e. e) x)
space_kind sh R (Insert r) s h x = subst (IsSpace (Insert r ∷ R)) (untouched sh R (Insert r) 3 (low_apart sh R (Insert r) 3 s h near_three (λ (e : 3 ≡ low_of (Insert r)). omega (arith, e)))) (space_kept R (Insert r ∷ R) (page_of sh R 3) (λ o e. e) x)
space_kind sh R (Update r) s h x = subst (IsSpace (Update r ∷ R)) (untouched sh R (Update r) 3 (low_apart sh R (Update r) 3 s h near_three (λ (e : 3 ≡ low_of (Update r)). omega (arith, e)))) (space_kept R (Update r ∷ R) (page_of sh R 3) (λ o e. e) x)
space_kind sh R (Migrate r) s h x = subst (IsSpace (Migrate r ∷ R)) (untouched sh R (Migrate r) 3 (low_apart sh R (Migrate r) 3 s h near_three (λ (e : 3 ≡ low_of (Migrate r)). omega (arith, e)))) (space_kept R (Migrate r ∷ R) (page_of sh R 3) (λ o e. e) x)
space_kind sh R (Return r) s h x = subst (IsSpace (Return r ∷ R)) (untouched sh R (Return r) 3 (low_apart sh R (Return r) 3 s h near_three (λ (e : 3 ≡ low_of (Return r)). omega (arith, e)))) (space_kept R (Return r ∷ R) (page_of sh R 3) (λ o e. e) x)
space_kind sh R (Delete r) s h x = subst (IsSpace (Delete r ∷ R)) (untouched sh R (Delete r) 3 (low_apart sh R (Delete r) 3 s h near_three (λ (e : 3 ≡ low_of (Delete r)). omega (arith, e)))) (space_kept R (Delete r ∷ R) (page_of sh R 3) (λ o e. e) x)
space_kind sh R (Commit r) s h x = subst (IsSpace (Commit r ∷ R)) (untouched sh R (Commit r) 3 (low_apart sh R (Commit r) 3 s h near_three (λ (e : 3 ≡ low_of (Commit r)). omega (arith, e)))) (space_kept R (Commit r ∷ R) (page_of sh R 3) (λ o e. e) x)
space_kind sh R (Back r) s h x = subst (IsSpace (Back r ∷ R)) (untouched sh R (Back r) 3 (low_apart sh R (Back r) 3 s h near_three (λ (e : 3 ≡ low_of (Back r)). omega (arith, e)))) (space_kept R (Back r ∷ R) (page_of sh R 3) (λ o e. e) x)
space_kind sh R (Ended r) s h x = subst (IsSpace (Ended r ∷ R)) (untouched sh R (Ended r) 3 (low_apart sh R (Ended r) 3 s h near_three (λ (e : 3 ≡ low_of (Ended r)). omega (arith, e)))) (space_kept R (Ended r ∷ R) (page_of sh R 3) (λ o e. e) x)
space_kind sh R (Move r) s h x = subst (IsSpace (Move r ∷ R)) (untouched sh R (Move r) 3 (low_apart sh R (Move r) 3 s h near_three (λ (e : 3 ≡ low_of (Move r)). omega (arith, e)))) (space_kept R (Move r ∷ R) (page_of sh R 3) (λ o e. e) x)
space_kind sh R (Clean r) s h x = subst (IsSpace (Clean r ∷ R)) (untouched sh R (Clean r) 3 (low_apart sh R (Clean r) 3 s h near_three (λ (e : 3 ≡ low_of (Clean r)). omega (arith, e)))) (space_kept R (Clean r ∷ R) (page_of sh R 3) (λ o e. e) x)

pub space_stands : (sh : Shape) (R : List Record) → is_shape sh ≡ true → AreAllowed sh R → IsSpace R (page_of sh R 3)
space_stands sh [] s h = λ o. refl
space_stands sh (r ∷ R) s h = space_kind sh R r s h (space_stands sh R s h.0)
