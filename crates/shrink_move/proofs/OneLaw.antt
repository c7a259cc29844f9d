-- A step is one.
use Rattle.std.proofs.Common.{◌≡◌, ℕ, ◌<◌, true, false, not, List, slice_get, Option, Some, refl, sym, ◌∙◌, ap, ap₂, subst, arith, true≢false}
use Rattle.seg_words.specs.Types.{Shape, Rowid, By, writer_has_ended}
use Rattle.redo_model.specs.Records.{Record}
use Rattle.redo_model.specs.Model.{data_blocks, ended_in}
use Rattle.shrink_laws.specs.declared.skip.Skip.{Skip}
use Rattle.shrink_laws.specs.Stops.{IsFull, LeadsDown, is_skipped, row_image}
use Rattle.shrink_laws.specs.Cursor.{Cleared, Finds, StepSkips, StepStops}
use Rattle.shrink_move.specs.declared.come.Come.{Come}
use Rattle.shrink_move.specs.declared.next.Next.TheVariants.{Bottom, Skips, NoFit, ToBody, ToBlock}
use Rattle.shrink_move.specs.Nexts.{GoesToBody, GoesToBlock}
use Rattle.shrink_move.specs.Ones.{NextsAreOne}
use Rattle.shrink_move.proofs.Placing.{at_same, block_inside, no_block}

-- ---- the slot

bottom_not : (sh : Shape) (R : List Record) (o : ℕ) (skips : List Skip) (cursor p d k : ℕ) → Cleared sh R o skips 0 cursor → Finds sh R o skips cursor p d k → ⊥
bottom_not sh R o skips cursor p d k c f = (let l = f.not_first in true≢false (sym (c p d k (omega (arith, l)) f.down f.here f.full) ∙ f.fresh))

not_below : (sh : Shape) (R : List Record) (o : ℕ) (skips : List Skip) (cursor p d k q e l : ℕ) → Finds sh R o skips cursor p d k → Finds sh R o skips cursor q e l → q < p → ⊥
not_below sh R o skips cursor p d k q e l f g m = true≢false (sym (g.cleared p d k m f.down f.here f.full) ∙ f.fresh)

same_place : (sh : Shape) (R : List Record) (o : ℕ) (skips : List Skip) (cursor p d k q e l : ℕ) → Finds sh R o skips cursor p d k → Finds sh R o skips cursor q e l → p ≡ q
same_place sh R o skips cursor p d k q e l f g =
    let a : q < p → ⊥ = not_below sh R o skips cursor p d k q e l f g in
    let b : p < q → ⊥ = not_below sh R o skips cursor q e l p d k g f in
    omega (arith, a, b)

same_block : (sh : Shape) (R : List Record) (o : ℕ) (skips : List Skip) (cursor p d k q e l : ℕ) → Finds sh R o skips cursor p d k → Finds sh R o skips cursor q e l → d ≡ e
same_block sh R o skips cursor p d k q e l f g = at_same (data_blocks sh R o) p d e f.here (subst (λ n. slice_get (data_blocks sh R o) n ≡ Some e) (sym (same_place sh R o skips cursor p d k q e l f g)) g.here)

not_lower : (sh : Shape) (R : List Record) (o : ℕ) (skips : List Skip) (cursor p d k q e l : ℕ) → Finds sh R o skips cursor p d k → Finds sh R o skips cursor q e l → k < l → ⊥
not_lower sh R o skips cursor p d k q e l f g m =
    let same = sym (same_block sh R o skips cursor p d k q e l f g) in
    true≢false (sym (f.greater l m (subst (λ b. IsFull R b l) same g.full)) ∙ subst (λ b. is_skipped skips b l ≡ false) same g.fresh)

same_slot : (sh : Shape) (R : List Record) (o : ℕ) (skips : List Skip) (cursor p d k q e l : ℕ) → Finds sh R o skips cursor p d k → Finds sh R o skips cursor q e l → k ≡ l
same_slot sh R o skips cursor p d k q e l f g =
    let a : k < l → ⊥ = not_lower sh R o skips cursor p d k q e l f g in
    let b : l < k → ⊥ = not_lower sh R o skips cursor q e l p d k g f in
    omega (arith, a, b)

same_come : (sh : Shape) (R : List Record) (o : ℕ) (skips : List Skip) (cursor : ℕ) (x y : Come) → Finds sh R o skips cursor x.place x.at.dba x.at.slot → Finds sh R o skips cursor y.place y.at.dba y.at.slot → y ≡ x
same_come sh R o skips cursor x y f g =
    ap₂ (λ (p : ℕ) (r : Rowid). record { place = p; at = r }) (same_place sh R o skips cursor y.place y.at.dba y.at.slot x.place x.at.dba x.at.slot g f)
    (ap₂ (λ (d k : ℕ). record { dba = d; slot = k }) (same_block sh R o skips cursor y.place y.at.dba y.at.slot x.place x.at.dba x.at.slot g f) (same_slot sh R o skips cursor y.place y.at.dba y.at.slot x.place x.at.dba x.at.slot g f))

-- ---- what becomes of it

abbrev SkipsAt : Shape → List Record → ℕ → List Skip → ℕ → ℕ → Come → Type 0
SkipsAt sh R o skips cursor t z = StepSkips sh R o skips cursor z.place z.at.dba z.at.slot t

abbrev StopsIn : Shape → List Record → ℕ → List Skip → ℕ → Come → Type 0
StopsIn sh R o skips cursor z = StepStops sh R o skips cursor z.place z.at.dba z.at.slot

abbrev BodyIn : Shape → List Record → ℕ → List Skip → ℕ → Rowid → Come → Type 0
BodyIn sh R o skips cursor p z = GoesToBody sh R o skips cursor z.place z.at.dba z.at.slot p

abbrev BlockIn : Shape → List Record → ℕ → List Skip → ℕ → ℕ → Come → Type 0
BlockIn sh R o skips cursor b z = GoesToBlock sh R o skips cursor z.place z.at.dba z.at.slot b

by_inside : (t u : ℕ) → By t ≡ By u → t ≡ u
by_inside t u e = cc

same_writer : (sh : Shape) (R : List Record) (o : ℕ) (skips : List Skip) (cursor t u : ℕ) (x : Come) → SkipsAt sh R o skips cursor t x → SkipsAt sh R o skips cursor u x → t ≡ u
same_writer sh R o skips cursor t u x a b = by_inside t u (sym a.writer ∙ b.writer)

skips_not : {P : Type 0} (sh : Shape) (R : List Record) (o : ℕ) (skips : List Skip) (cursor t : ℕ) (x : Come) → SkipsAt sh R o skips cursor t x → writer_has_ended (ended_in R) (row_image R x.at.dba x.at.slot).writer ≡ true → P
skips_not sh R o skips cursor t x a over = absurd (true≢false (sym over ∙ ap (writer_has_ended (ended_in R)) a.writer ∙ ap not a.active))

leads : (sh : Shape) (R : List Record) (o : ℕ) (skips : List Skip) (cursor : ℕ) (p : Rowid) (x : Come) → BodyIn sh R o skips cursor p x → LeadsDown sh R o x.place x.at.dba x.at.slot
leads sh R o skips cursor p x a = record { head = a.head; block = p.dba; slot = p.slot; link = a.link; lower = a.below.lower; there = a.below.there; below = a.below.below }

rowid_inside : (p q : Rowid) → ◌≡◌ {A = Option Rowid} (Some p) (Some q) → p ≡ q
rowid_inside p q e = cc

pub nexts_are_one : NextsAreOne
nexts_are_one sh R o skips cursor Bottom Bottom a b = refl
nexts_are_one sh R o skips cursor Bottom (Skips y u) a b = absurd (bottom_not sh R o skips cursor y.place y.at.dba y.at.slot a b.finds)
nexts_are_one sh R o skips cursor Bottom (NoFit y) a b = absurd (bottom_not sh R o skips cursor y.place y.at.dba y.at.slot a b.finds)
nexts_are_one sh R o skips cursor Bottom (ToBody y q) a b = absurd (bottom_not sh R o skips cursor y.place y.at.dba y.at.slot a b.finds)
nexts_are_one sh R o skips cursor Bottom (ToBlock y c) a b = absurd (bottom_not sh R o skips cursor y.place y.at.dba y.at.slot a b.finds)
nexts_are_one sh R o skips cursor (Skips x t) Bottom a b = absurd (bottom_not sh R o skips cursor x.place x.at.dba x.at.slot b a.finds)
nexts_are_one sh R o skips cursor (NoFit x) Bottom a b = absurd (bottom_not sh R o skips cursor x.place x.at.dba x.at.slot b a.finds)
nexts_are_one sh R o skips cursor (ToBody x p) Bottom a b = absurd (bottom_not sh R o skips cursor x.place x.at.dba x.at.slot b a.finds)
nexts_are_one sh R o skips cursor (ToBlock x c) Bottom a b = absurd (bottom_not sh R o skips cursor x.place x.at.dba x.at.slot b a.finds)
nexts_are_one sh R o skips cursor (Skips x t) (Skips y u) a b =
    let e = same_come sh R o skips cursor x y a.finds b.finds in
    ap₂ (λ (z : Come) (n : ℕ). Skips z n) (sym e) (same_writer sh R o skips cursor t u x a (subst (SkipsAt sh R o skips cursor u) e b))
nexts_are_one sh R o skips cursor (Skips x t) (NoFit y) a b = skips_not sh R o skips cursor t x a (let z : StopsIn sh R o skips cursor x = subst (StopsIn sh R o skips cursor) (same_come sh R o skips cursor x y a.finds b.finds) b in z.over)
nexts_are_one sh R o skips cursor (Skips x t) (ToBody y q) a b = skips_not sh R o skips cursor t x a (let z : BodyIn sh R o skips cursor q x = subst (BodyIn sh R o skips cursor q) (same_come sh R o skips cursor x y a.finds b.finds) b in z.over)
nexts_are_one sh R o skips cursor (Skips x t) (ToBlock y c) a b = skips_not sh R o skips cursor t x a (let z : BlockIn sh R o skips cursor c x = subst (BlockIn sh R o skips cursor c) (same_come sh R o skips cursor x y a.finds b.finds) b in z.over)
nexts_are_one sh R o skips cursor (NoFit x) (Skips y u) a b = skips_not sh R o skips cursor u x (subst (SkipsAt sh R o skips cursor u) (same_come sh R o skips cursor x y a.finds b.finds) b) a.over
nexts_are_one sh R o skips cursor (ToBody x p) (Skips y u) a b = skips_not sh R o skips cursor u x (subst (SkipsAt sh R o skips cursor u) (same_come sh R o skips cursor x y a.finds b.finds) b) a.over
nexts_are_one sh R o skips cursor (ToBlock x c) (Skips y u) a b = skips_not sh R o skips cursor u x (subst (SkipsAt sh R o skips cursor u) (same_come sh R o skips cursor x y a.finds b.finds) b) a.over
nexts_are_one sh R o skips cursor (NoFit x) (NoFit y) a b = ap (λ (z : Come). NoFit z) (sym (same_come sh R o skips cursor x y a.finds b.finds))
nexts_are_one sh R o skips cursor (NoFit x) (ToBody y q) a b = absurd (a.not_down (leads sh R o skips cursor q x (subst (BodyIn sh R o skips cursor q) (same_come sh R o skips cursor x y a.finds b.finds) b)))
nexts_are_one sh R o skips cursor (NoFit x) (ToBlock y c) a b = no_block c (sym a.none_takes ∙ (let z : BlockIn sh R o skips cursor c x = subst (BlockIn sh R o skips cursor c) (same_come sh R o skips cursor x y a.finds b.finds) b in z.first))
nexts_are_one sh R o skips cursor (ToBody x p) (NoFit y) a b = absurd (let z : StopsIn sh R o skips cursor x = subst (StopsIn sh R o skips cursor) (same_come sh R o skips cursor x y a.finds b.finds) b in z.not_down (leads sh R o skips cursor p x a))
nexts_are_one sh R o skips cursor (ToBody x p) (ToBody y q) a b =
    let e = same_come sh R o skips cursor x y a.finds b.finds in
    let z : BodyIn sh R o skips cursor q x = subst (BodyIn sh R o skips cursor q) e b in
    ap₂ (λ (w : Come) (r : Rowid). ToBody w r) (sym e) (rowid_inside p q (sym a.link ∙ z.link))
nexts_are_one sh R o skips cursor (ToBody x p) (ToBlock y c) a b = absurd (let z : BlockIn sh R o skips cursor c x = subst (BlockIn sh R o skips cursor c) (same_come sh R o skips cursor x y a.finds b.finds) b in z.not_down (leads sh R o skips cursor p x a))
nexts_are_one sh R o skips cursor (ToBlock x c) (NoFit y) a b = no_block c (sym (let z : StopsIn sh R o skips cursor x = subst (StopsIn sh R o skips cursor) (same_come sh R o skips cursor x y a.finds b.finds) b in z.none_takes) ∙ a.first)
nexts_are_one sh R o skips cursor (ToBlock x c) (ToBody y q) a b = absurd (a.not_down (leads sh R o skips cursor q x (subst (BodyIn sh R o skips cursor q) (same_come sh R o skips cursor x y a.finds b.finds) b)))
nexts_are_one sh R o skips cursor (ToBlock x c) (ToBlock y e) a b =
    let s = same_come sh R o skips cursor x y a.finds b.finds in
    let z : BlockIn sh R o skips cursor e x = subst (BlockIn sh R o skips cursor e) s b in
    ap₂ (λ (w : Come) (n : ℕ). ToBlock w n) (sym s) (block_inside c e (sym a.first ∙ z.first))
