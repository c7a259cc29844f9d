-- A block of the ring of undo blocks that was never taken into use: it holds nothing, and its page was never written.
use Rattle.std.proofs.Common.{◌≡◌, ℕ, suc, ◌+◌, ◌<◌, ◌≤◌, min, Bool, true, false, cond, ◌||◌, eqb, List, [], ◌∷◌, Option, Some, None, refl, sym, ◌∙◌, ap, subst, arith, true≢false, eq-eqb, ne_eqb}
use Rattle.seg_words.proofs.Lemmas.{cond-true, cond-false}
use Rattle.seg_words.specs.Types.{Shape, first_block, is_shape}
use Rattle.redo_model.specs.Records.{Record, Extend, FormatBlock, Begin, Reuse, Insert, Update, Migrate, Return, Delete, Move, ExtendRecord}
use Rattle.redo_model.specs.Model.{Extent, extents_of, extent_at, block_in, group_start, data_blocks, high_mark, current_undo, undo_parts, undo_sequence, ExtendAllowed, AreAllowed}
use Rattle.redo_laws.specs.Among.{is_in}
use Rattle.redo_laws.proofs.allowed.Basics.{basics}
use Rattle.redo_laws.proofs.numbers.Bounds.{Limits, limits}
use Rattle.redo_laws.proofs.space.Places.{in_take, in_data, format_first}
use Rattle.page_model.specs.Types.{touched_sorts}
use Rattle.sort_laws.specs.Sorts.{Sort, Blank, sort_of}
use Rattle.page_set.specs.declared.page.Page.TheVariants as pages
use Rattle.page_set.specs.Folded.{page_of}
use Rattle.page_fit.proofs.FitLaw.{is_zero, the_sort, undo_plain}

-- ---- it holds nothing

some_more : (b : Bool) (n : ℕ) → cond b (suc n) n ≡ 0 → (b ≡ false) × (n ≡ 0)
some_more true n e = absurd (omega (arith, e))
some_more false n e = (refl, e)

same_block : (a b : ℕ) → ◌≡◌ {A = Option ℕ} (Some a) (Some b) → a ≡ b
same_block a b e = cc

used_once : (a b n : ℕ) → a ≡ b → 1 ≤ cond (eqb a b) (suc n) n
used_once a b n e = subst (λ m. 1 ≤ m) (sym (cond-true _ (suc n) n (eq-eqb a b e))) (omega arith)

used_more : (b : Bool) (n : ℕ) → 1 ≤ n → 1 ≤ cond b (suc n) n
used_more true n l = omega arith
used_more false n l = l

-- the current block was taken into use
current_used : (R : List Record) (b : ℕ) → current_undo R ≡ Some b → 1 ≤ undo_sequence R b
current_used [] b e = absurd (let z : ◌≡◌ {A = Option ℕ} None (Some b) = e in cc)
current_used (Reuse q ∷ R) b e = used_once q.block b (undo_sequence R b) (same_block q.block b e)
current_used (_ ∷ R) b e = current_used R b e

not_current : (R : List Record) (b u : ℕ) → current_undo R ≡ Some b → undo_sequence R u ≡ 0 → eqb b u ≡ false
not_current R b u c z = ne_eqb b u (λ e. (let l = subst (λ x. 1 ≤ undo_sequence R x) e (current_used R b c) in absurd (omega (arith, l, z))))

pub no_parts : (sh : Shape) (R : List Record) (u : ℕ) → AreAllowed sh R → undo_sequence R u ≡ 0 → undo_parts R u ≡ []
no_parts sh [] u h z = refl
no_parts sh (Reuse q ∷ R) u h z = let k = some_more (eqb q.block u) (undo_sequence R u) z in cond-false _ _ _ k.0 ∙ no_parts sh R u h.0 k.1
no_parts sh (Insert w ∷ R) u h z = cond-false _ _ _ (not_current R w.undo.block u (basics sh R (Insert w) h.1.kind).undo.current z) ∙ no_parts sh R u h.0 z
no_parts sh (Update w ∷ R) u h z = cond-false _ _ _ (not_current R w.undo.block u (basics sh R (Update w) h.1.kind).undo.current z) ∙ no_parts sh R u h.0 z
no_parts sh (Migrate w ∷ R) u h z = cond-false _ _ _ (not_current R w.undo.block u (basics sh R (Migrate w) h.1.kind).undo.current z) ∙ no_parts sh R u h.0 z
no_parts sh (Return w ∷ R) u h z = cond-false _ _ _ (not_current R w.undo.block u (basics sh R (Return w) h.1.kind).undo.current z) ∙ no_parts sh R u h.0 z
no_parts sh (Delete w ∷ R) u h z = cond-false _ _ _ (not_current R w.undo.block u (basics sh R (Delete w) h.1.kind).undo.current z) ∙ no_parts sh R u h.0 z
no_parts sh (Move m ∷ R) u h z = cond-false _ _ _ (not_current R m.undo.block u (basics sh R (Move m) h.1.kind).undo.current z) ∙ no_parts sh R u h.0 z
no_parts sh (_ ∷ R) u h z = no_parts sh R u h.0 z

-- where there is no current block, none was ever taken into use
pub none_used : (R : List Record) (u : ℕ) → current_undo R ≡ None → undo_sequence R u ≡ 0
none_used [] u e = refl
none_used (Reuse q ∷ R) u e = absurd (let z : ◌≡◌ {A = Option ℕ} (Some q.block) None = e in cc)
none_used (_ ∷ R) u e = none_used R u e

-- ---- its page

stays : (b : Bool) (s t : Sort) → t ≡ s → cond b t s ≡ s
stays true s t e = e
stays false s t e = refl

-- a place of an extent lies past the ring
past_ring : (sh : Shape) (x : Option Extent) (n u : ℕ) → 37 ≤ u → u < 37 + sh.undo → eqb (block_in sh x n) u ≡ false
past_ring sh None n u f t = ne_eqb 0 u (λ e. absurd (omega (arith, e, f)))
past_ring sh (Some x) n u f t = ne_eqb (first_block sh x.number + n) u (λ e. absurd (omega (arith, e, t)))

extend_out : (sh : Shape) (R : List Record) (e : ExtendRecord) (u : ℕ) → Limits sh → ExtendAllowed sh R e → 37 ≤ u → u < 37 + sh.undo → is_in u (touched_sorts sh (Extend e)) ≡ false
extend_out sh R e u l a f t =
    let es = extents_of (Extend e ∷ R) e.obj in
    let second : eqb e.l2 u ≡ false = ap (λ d. eqb d u) a.l2 ∙ past_ring sh (extent_at es (group_start e.index)) 1 u f t in
    let third : eqb e.l3 u ≡ false = ap (λ d. eqb d u) a.l3 ∙ past_ring sh (extent_at es 0) 2 u f t in
    let first : eqb (min (first_block sh e.extent) 4294967295) u ≡ false = ne_eqb (min (first_block sh e.extent) 4294967295) u (λ e. (let m = l.all in let n = l.most in absurd (omega (arith, e, t, m, n)))) in
    none_of (eqb e.l2 u) (eqb e.l3 u) (eqb (min (first_block sh e.extent) 4294967295) u) second third first
  where
    none_of : (a b c : Bool) → a ≡ false → b ≡ false → c ≡ false → (a || (b || (c || false))) ≡ false
    none_of false false false x y z = refl
    none_of true b c x y z = absurd (true≢false x)
    none_of false true c x y z = absurd (true≢false y)
    none_of false false true x y z = absurd (true≢false z)

ring_blank : (sh : Shape) (R : List Record) (u : ℕ) → Limits sh → AreAllowed sh R → 37 ≤ u → u < 37 + sh.undo → undo_sequence R u ≡ 0 → sort_of sh R u ≡ Blank
ring_blank sh [] u l h f t z = refl
ring_blank sh (Extend e ∷ R) u l h f t z = cond-false _ _ _ (extend_out sh R e u l h.1.kind f t) ∙ ring_blank sh R u l h.0 f t z
ring_blank sh (FormatBlock d ∷ R) u l h f t z =
    let y = in_data sh 0 (extents_of R d.obj) d.dba (in_take d.dba (high_mark R d.obj) (data_blocks sh R d.obj) (format_first sh R d h.1.kind).0) in
    let from = y.from in
    stays (is_in u (touched_sorts sh (FormatBlock d))) (sort_of sh R u) _ (cond-false _ _ _ (ne_eqb d.dba u (λ e. absurd (omega (arith, from, e, t))))) ∙ ring_blank sh R u l h.0 f t z
ring_blank sh (Reuse q ∷ R) u l h f t z =
    let k = some_more (eqb q.block u) (undo_sequence R u) z in
    stays (is_in u (touched_sorts sh (Reuse q))) (sort_of sh R u) _ (cond-false _ _ _ k.0) ∙ ring_blank sh R u l h.0 f t k.1
ring_blank sh (Begin g ∷ R) u l h f t z = cond-false _ _ _ (not_one (eqb 1 u) (ne_eqb 1 u (λ e. absurd (omega (arith, e, f))))) ∙ ring_blank sh R u l h.0 f t z
  where
    not_one : (b : Bool) → b ≡ false → (b || false) ≡ false
    not_one true e = e
    not_one false e = refl
ring_blank sh (r ∷ R) u l h f t z = stays (is_in u (touched_sorts sh r)) (sort_of sh R u) _ refl ∙ ring_blank sh R u l h.0 f t z

pub ring_zero : (sh : Shape) (R : List Record) (u : ℕ) → is_shape sh ≡ true → AreAllowed sh R → 37 ≤ u → u < 37 + sh.undo → undo_sequence R u ≡ 0 → (x : ℕ) × (page_of sh R u ≡ pages.Zero x)
ring_zero sh R u s h f t z = is_zero (page_of sh R u) (the_sort sh R u Blank h (undo_plain sh R u h f t) (ring_blank sh R u (limits sh s) h f t z))
