-- A Class drafted from the levels of a store's bitmaps.
use Rattle.std.proofs.Common.{◌≡◌, ℕ, ◌+◌, ◌-◌, ◌%◌, min, Bool, true, false, Option, Some, None, sym, ◌∙◌, ap, ap₂, subst, List}
use Rattle.std.specs.Prelude.{Result, IfOk}
use Rattle.seg_words.proofs.Lemmas.{cond-true, cond-false}
use Rattle.seg_words.specs.Types.{Class as BlockClass, Shape, class_code, first_block, EXTENTS_OF_L2, MOST_EXTENT_BLOCKS}
use Rattle.disk_model.specs.Crash.{Meaning}
use Rattle.redo_model.specs.Records.{Record, ClassRecord}
use Rattle.redo_model.specs.Model.{best_in_l1, best_in_l2, extents_of, extent_data, group_start, index_of}
use Rattle.redo_laws.specs.Among.{is_in}
use Rattle.page_set.specs.Folded.{page_of}
use Rattle.usage_laws.specs.Types.{class_to, reclassed}
use Rattle.segment_read.specs.declared.segment.Segment.{Segment}
use Rattle.segment_read.specs.Segments.{IsSegment}
use Rattle.store_core.specs.Store.{Held, has_page}
use Rattle.store_core.specs.declared.fault.StoreFault.{StoreFault}
use Rattle.space_usage.specs.declared.levels.Levels.{Levels}
use Rattle.space_usage.specs.Asked.{best_in}
use Rattle.space_usage.specs.Keeping.{is_other, drafted, levels_of}
use Rattle.space_usage.specs.Settles.{HasBlock}
use Rattle.space_usage.proofs.Bitmaps.{chosen, not_chosen, Placed, l1_is, nth_is, bests_told, class_drafted, first_value}

-- what the first level is asked, and what it answers

pub first_there : {D : Type 0} (meaning : Meaning D) (R : List Record) (o b : ℕ) (s : Held D) (c : BlockClass) (l : Levels) → HasBlock meaning R o b s → l ≡ levels_of s.shape R o b → has_page s.shape l.l1 ≡ true
first_there meaning R o b s c l h e = subst (λ (z : Levels). has_page s.shape z.l1 ≡ true) (sym e) (bests_told s.shape R o b c h.holds.list.within h.holds.lawful h.table h.here).l1_has

pub second_there : {D : Type 0} (meaning : Meaning D) (R : List Record) (o b : ℕ) (s : Held D) (c : BlockClass) (l : Levels) → HasBlock meaning R o b s → l ≡ levels_of s.shape R o b → has_page s.shape l.l2 ≡ true
second_there meaning R o b s c l h e = subst (λ (z : Levels). has_page s.shape z.l2 ≡ true) (sym e) (bests_told s.shape R o b c h.holds.list.within h.holds.lawful h.table h.here).l2_has

pub first_asked : {D : Type 0} (meaning : Meaning D) (R : List Record) (o b : ℕ) (s : Held D) (c : BlockClass) (l : Levels) (nth code : ℕ) → HasBlock meaning R o b s → l ≡ levels_of s.shape R o b → nth ≡ min (b - l.l1) MOST_EXTENT_BLOCKS → code ≡ class_code c
    → best_in nth code (page_of s.shape R l.l1) ≡ Some (best_in_l1 s.shape (reclassed s.shape R o b c) o (index_of s.shape (extents_of R o) b))
first_asked meaning R o b s c l nth code h e n k =
    ap₂ (λ x y. best_in x y (page_of s.shape R l.l1)) n k
    ∙ ap (λ (z : Levels). best_in (min (b - z.l1) MOST_EXTENT_BLOCKS) (class_code c) (page_of s.shape R z.l1)) e
    ∙ (bests_told s.shape R o b c h.holds.list.within h.holds.lawful h.table h.here).l1

-- as it was asked
first_plain : (sh : Shape) (R : List Record) (b : ℕ) (c : BlockClass) (l : Levels) (nth code v : ℕ) → nth ≡ min (b - l.l1) MOST_EXTENT_BLOCKS → code ≡ class_code c → best_in nth code (page_of sh R l.l1) ≡ Some v → best_in (min (b - l.l1) MOST_EXTENT_BLOCKS) (class_code c) (page_of sh R l.l1) ≡ Some v
first_plain sh R b c l nth code v n k says = sym (ap₂ (λ x y. best_in x y (page_of sh R l.l1)) n k) ∙ says

pub second_asked : {D : Type 0} (meaning : Meaning D) (R : List Record) (o b : ℕ) (s t : Held D) (c : BlockClass) (l : Levels) (nth code v : ℕ) → HasBlock meaning R o b s → HasBlock meaning R o b t → l ≡ levels_of s.shape R o b → l ≡ levels_of t.shape R o b → nth ≡ min (b - l.l1) MOST_EXTENT_BLOCKS → code ≡ class_code c → t.shape ≡ s.shape
    → best_in nth code (page_of s.shape R l.l1) ≡ Some v → best_in (l.index % EXTENTS_OF_L2) v (page_of t.shape R l.l2) ≡ Some (best_in_l2 t.shape (reclassed t.shape R o b c) o (group_start (index_of t.shape (extents_of R o) b)))
second_asked meaning R o b s t c l nth code v h k e f n m same says =
    let value = first_value s.shape R o b c l v e (first_plain s.shape R b c l nth code v n m says) h.holds.list.within h.holds.lawful h.table h.here in
    ap (λ (z : Levels). best_in (z.index % EXTENTS_OF_L2) v (page_of t.shape R z.l2)) f
    ∙ (bests_told t.shape R o b c k.holds.list.within k.holds.lawful k.table k.here).l2 v (value ∙ ap (λ (sh : Shape). best_in_l1 sh (reclassed sh R o b c) o (index_of sh (extents_of R o) b)) (sym same))

pub drafted_now : {D : Type 0} (meaning : Meaning D) (R : List Record) (o b : ℕ) (s t : Held D) (c : BlockClass) (l : Levels) (nth code v w : ℕ) → HasBlock meaning R o b s → l ≡ levels_of s.shape R o b → nth ≡ min (b - l.l1) MOST_EXTENT_BLOCKS → code ≡ class_code c → t.shape ≡ s.shape
    → best_in nth code (page_of s.shape R l.l1) ≡ Some v → best_in (l.index % EXTENTS_OF_L2) v (page_of t.shape R l.l2) ≡ Some w
    → ◌≡◌ {A = ClassRecord} (record { obj = o; dba = b; class = c; l2 = l.l2; l3 = l.l3; index = l.index; best_of_l1 = v; best_of_l2 = w }) (class_to s.shape R o b c)
drafted_now meaning R o b s t c l nth code v w h e n m same p q =
    class_drafted s.shape R o b c l v w e (first_plain s.shape R b c l nth code v n m p) (ap (λ (sh : Shape). best_in (l.index % EXTENTS_OF_L2) v (page_of sh R l.l2)) (sym same) ∙ q) h.holds.list.within h.holds.lawful h.table h.here

-- where the code of the kept class is read

pub code_place : (sh : Shape) (R : List Record) (o b : ℕ) (l : Levels) (nth : ℕ) (p : Placed sh R o b) → l ≡ levels_of sh R o b → nth ≡ min (b - l.l1) MOST_EXTENT_BLOCKS → l.l1 + nth ≡ b
code_place sh R o b l nth p e n =
    ap₂ (λ x y. x + y) (ap (λ (z : Levels). z.l1) e ∙ l1_is sh R o b p) (n ∙ ap (λ (z : Levels). min (b - z.l1) MOST_EXTENT_BLOCKS) e ∙ nth_is sh R o b p)
    ∙ p.place

pub first_at : (sh : Shape) (R : List Record) (o b : ℕ) (l : Levels) (p : Placed sh R o b) → l ≡ levels_of sh R o b → l.l1 ≡ first_block sh p.extent.number
first_at sh R o b l p e = ap (λ (z : Levels). z.l1) e ∙ l1_is sh R o b p

pub nth_at : (sh : Shape) (R : List Record) (o b : ℕ) (l : Levels) (nth : ℕ) (p : Placed sh R o b) → l ≡ levels_of sh R o b → nth ≡ min (b - l.l1) MOST_EXTENT_BLOCKS → nth ≡ b - first_block sh p.extent.number
nth_at sh R o b l nth p e n = n ∙ ap (λ (z : Levels). min (b - z.l1) MOST_EXTENT_BLOCKS) e ∙ nth_is sh R o b p

pub coded_in : (sh : Shape) (R : List Record) (o b : ℕ) (l : Levels) (nth : ℕ) (p : Placed sh R o b) → l ≡ levels_of sh R o b → nth ≡ min (b - l.l1) MOST_EXTENT_BLOCKS → is_in (l.l1 + nth) (extent_data sh (index_of sh (extents_of R o) b) p.extent.number) ≡ true
coded_in sh R o b l nth p e n = subst (λ d. is_in d (extent_data sh (index_of sh (extents_of R o) b) p.extent.number) ≡ true) (sym (code_place sh R o b l nth p e n)) p.has

-- ---- the draft, for a segment

pub none_drafted : (sh : Shape) (R : List Record) (o b : ℕ) (c : BlockClass) (v : Bool) → v ≡ is_other R b c → v ≡ false → None ≡ drafted sh R o b c
none_drafted sh R o b c v e f = sym (cond-false _ _ _ (sym e ∙ f))

pub one_drafted : (sh k : Shape) (R : List Record) (o b : ℕ) (c : BlockClass) (v : Bool) (rec : ClassRecord) → v ≡ is_other R b c → v ≡ true → k ≡ sh → rec ≡ class_to k R o b c → Some rec ≡ drafted sh R o b c
one_drafted sh k R o b c v rec e y same is = ap (λ (z : ClassRecord). Some z) (is ∙ ap (λ (s : Shape). class_to s R o b c) same) ∙ sym (cond-true _ _ _ (sym e ∙ y))

pub was_other : (sh : Shape) (R : List Record) (o b : ℕ) (c : BlockClass) (x : Option ClassRecord) (rec : ClassRecord) → x ≡ drafted sh R o b c → x ≡ Some rec → (is_other R b c ≡ true) × (rec ≡ class_to sh R o b c)
was_other sh R o b c x rec e is = chosen (is_other R b c) (class_to sh R o b c) rec (sym e ∙ is)

pub was_same : (sh : Shape) (R : List Record) (o b : ℕ) (c : BlockClass) (x : Option ClassRecord) → x ≡ drafted sh R o b c → x ≡ None → is_other R b c ≡ false
was_same sh R o b c x e is = not_chosen (is_other R b c) (class_to sh R o b c) (sym e ∙ is)

pub segment_block : {D : Type 0} (meaning : Meaning D) (R : List Record) (o b : ℕ) (s : Held D) (sh : Shape) (g : Segment) → HasBlock meaning R o b s → IsSegment sh R o g → HasBlock meaning R g.obj b s
segment_block meaning R o b s sh g h is = subst (λ n. HasBlock meaning R n b s) (sym is.obj) h

pub segment_levels : (sh k : Shape) (R : List Record) (o b : ℕ) (g : Segment) (l : Levels) → IsSegment sh R o g → k ≡ sh → l ≡ levels_of sh R o b → l ≡ levels_of k R g.obj b
segment_levels sh k R o b g l is same e = e ∙ ap (λ n. levels_of sh R n b) (sym is.obj) ∙ ap (λ (s : Shape). levels_of s R g.obj b) (sym same)

pub segment_drafts : (sh k : Shape) (R : List Record) (o b : ℕ) (c : BlockClass) (g : Segment) (r : Result (Option ClassRecord) StoreFault) → IsSegment sh R o g → k ≡ sh → IfOk r (λ x. x ≡ drafted k R g.obj b c) → IfOk r (λ x. x ≡ drafted sh R o b c)
segment_drafts sh k R o b c g r is same h = subst (λ n. IfOk r (λ x. x ≡ drafted sh R n b c)) is.obj (subst (λ (s : Shape). IfOk r (λ x. x ≡ drafted s R g.obj b c)) same h)
