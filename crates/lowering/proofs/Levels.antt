-- The second levels of the extents that are kept.
use Rattle.std.proofs.Common.{◌≡◌, ℕ, suc, ◌+◌, ◌-◌, ◌*◌, ◌<◌, ◌≤◌, min, max, true, false, eqb, leb, List, [], ◌∷◌, length, take, Option, Some, None, refl, sym, ◌∙◌, ap, ap₂, subst, arith, ne_eqb, le-leb}
use Rattle.std.proofs.lemmas.List.{length-take}
use Rattle.seg_words.proofs.Lemmas.{cond-true, cond-false}
use Rattle.seg_words.specs.Types.{Shape, is_shape, EXTENTS_OF_L2}
use Rattle.disk_model.specs.Crash.{Meaning}
use Rattle.bitmap_block.specs.Codes.{best_of, cleared_from}
use Rattle.bitmap_block.specs.Pages.{Summary}
use Rattle.redo_model.specs.Records.{Record}
use Rattle.redo_model.specs.Model.{Extent, extents_of, extent_at, block_in, group_start, l2_of, l2_at, best_in_extent, best_in_group, IsLawful, IsTable}
use Rattle.space_laws.proofs.ExtentsLaw.{each_block_has_one_role}
use Rattle.sort_laws.proofs.SortsLaw.{at_exists, group_below}
use Rattle.page_set.specs.declared.page.Page.{Page}
use Rattle.page_set.specs.declared.page.Page.TheVariants as pages
use Rattle.page_set.specs.Folded.{page_of}
use Rattle.page_says.specs.Levels.{SecondSays, SaysSecond}
use Rattle.page_says.proofs.SecondLevel.{second_levels_say}
use Rattle.page_says.proofs.BestsRead.{lower_bests_are_read}
use Rattle.store_core.specs.Store.{Held, has_page}
use Rattle.store_read.proofs.Truth.{page_when}
use Rattle.lower_laws.specs.Drafts.{lower_to}
use Rattle.lower_laws.proofs.BestsAfter.{best_after}
use Rattle.lowering.specs.declared.ground.Ground.{Ground}
use Rattle.lowering.specs.declared.groups.Group.{Group}
use Rattle.lowering.specs.declared.groups.Groups.{Groups}
use Rattle.lowering.specs.Asked.{best_in}
use Rattle.lowering.specs.Drafted.{AreGroups, IsGroup, all_of}
use Rattle.lowering.specs.Known.{Knows}
use Rattle.lowering.proofs.Places.{at_front, at_past}

-- past those that are kept there is none

none_past : (sh : Shape) (R : List Record) (start index : ℕ) (es : List Extent) → index + length es ≤ start → best_in_group sh R start index es ≡ 0
none_past sh R start index [] l = refl
none_past sh R start index (e ∷ es) l =
    let below = group_below index in
    let other : eqb (group_start index) start ≡ false = ne_eqb (group_start index) start (λ y. omega (arith, below, l, y)) in
    ap₂ (λ (x y : ℕ). max x y) (cond-false (eqb (group_start index) start) (best_in_extent sh R index e.number) 0 other) (none_past sh R start (suc index) es (omega (arith, l)))

pub group_past : (sh : Shape) (R : List Record) (o kept start : ℕ) → kept ≤ start → IsGroup sh R o kept start (record { l2 = None; best = 0 })
group_past sh R o kept start l = record {
  l2 = sym (ap (l2_at sh) (at_past kept (extents_of R o) start l));
  best = sym (none_past sh R start 0 (take kept (extents_of R o)) (let f = length-take kept (extents_of R o) in omega (arith, f, l)));
}

-- one that is kept

record IsSecond (sh : Shape) (R : List Record) (o start : ℕ) (p : Page) : Type 0 where
  map : Summary
  page : p ≡ pages.Second map
  says : SecondSays sh R o start map

is_second : (sh : Shape) (R : List Record) (o start : ℕ) (p : Page) → SaysSecond sh R o start p → IsSecond sh R o start p
is_second sh R o start (pages.Second m) h = record { map = m; page = refl; says = h }
is_second sh R o start _ h = absurd h

second_at : (sh : Shape) (R : List Record) (o start : ℕ) (e : Extent) → is_shape sh ≡ true → IsLawful sh R → group_start start ≡ start → extent_at (extents_of R o) start ≡ Some e → IsSecond sh R o start (page_of sh R (block_in sh (extent_at (extents_of R o) start) 1))
second_at sh R o start e s h g at =
    is_second sh R o start (page_of sh R (block_in sh (extent_at (extents_of R o) start) 1))
    (subst (λ (n : ℕ). SaysSecond sh R o n (page_of sh R (block_in sh (extent_at (extents_of R o) n) 1))) g
    (second_levels_say sh R o start e s h.allowed (ap (extent_at (extents_of R o)) g ∙ at)))

best_read : (sh : Shape) (R : List Record) (o kept start : ℕ) → is_shape sh ≡ true → IsLawful sh R → group_start start ≡ start → start < length (extents_of R o)
    → best_in (min (kept - start) EXTENTS_OF_L2) (page_of sh R (block_in sh (extent_at (extents_of R o) start) 1)) ≡ Some (best_in_group sh R start 0 (take kept (extents_of R o)))
best_read sh R o kept start s h g l =
    let e = at_exists (extents_of R o) start l in
    let w = second_at sh R o start e.0 s h g e.1 in
    let n : ℕ = min (kept - start) EXTENTS_OF_L2 in
    let few : n ≤ EXTENTS_OF_L2 = omega arith in
    ap (best_in n) w.page
    ∙ cond-true (leb n EXTENTS_OF_L2) (Some (best_of (cleared_from EXTENTS_OF_L2 n w.map.codes))) None (le-leb n EXTENTS_OF_L2 few)
    ∙ ap (λ (m : ℕ). Some m) (sym ((lower_bests_are_read sh R (lower_to sh R o kept) start s h.allowed g).there w.map w.says) ∙ best_after sh R (lower_to sh R o kept) start)

second_has : (sh : Shape) (R : List Record) (o start : ℕ) → is_shape sh ≡ true → IsLawful sh R → IsTable R o → group_start start ≡ start → start < length (extents_of R o) → has_page sh (block_in sh (extent_at (extents_of R o) start) 1) ≡ true
second_has sh R o start s h t g l =
    let e = at_exists (extents_of R o) start l in
    let roles = each_block_has_one_role sh R s h.allowed in
    let at : extent_at (extents_of R o) (group_start start) ≡ Some e.0 = ap (extent_at (extents_of R o)) g ∙ e.1 in
    let w = roles.within o (group_start start) 1 (l2_of sh (extents_of R o) start) (roles.l2 o start e.0 t at) in
    let from = w.0 in
    subst (λ (n : ℕ). has_page sh (block_in sh (extent_at (extents_of R o) n) 1) ≡ true) g (page_when sh (l2_of sh (extents_of R o) start) (omega (arith, from)) w.1)

number_inside : (n m : ℕ) → ◌≡◌ {A = Option ℕ} (Some n) (Some m) → n ≡ m
number_inside n m e = cc

-- by the shape of the store

pub start_there : {D : Type 0} (meaning : Meaning D) (s : Held D) (R : List Record) (o kept start : ℕ) (g : Ground) → Knows meaning R o s g → start < kept → kept ≤ g.segment.extents → start < length (extents_of R o)
start_there meaning s R o kept start g k l m = (let c = k.segment.extents in omega (arith, l, m, c))

block_same : (sh k : Shape) (R : List Record) (o start d : ℕ) → sh ≡ k → d ≡ block_in sh (extent_at (extents_of R o) start) 1 → d ≡ block_in k (extent_at (extents_of R o) start) 1
block_same sh k R o start d e h = h ∙ ap (λ (s : Shape). block_in s (extent_at (extents_of R o) start) 1) e

pub second_read : {D : Type 0} (meaning : Meaning D) (s : Held D) (R : List Record) (o kept start d count : ℕ) (g : Ground) → Knows meaning R o s g → start < kept → kept ≤ g.segment.extents → group_start start ≡ start → d ≡ block_in g.shape (extent_at (extents_of R o) start) 1 → count ≡ min (kept - start) EXTENTS_OF_L2
    → best_in count (page_of s.shape R d) ≡ Some (best_in_group s.shape R start 0 (take kept (extents_of R o)))
second_read meaning s R o kept start d count g k l m gs is c =
    ap₂ (λ (n b : ℕ). best_in n (page_of s.shape R b)) c (block_same g.shape s.shape R o start d k.shape is)
    ∙ best_read s.shape R o kept start k.holds.list.within k.holds.lawful gs (start_there meaning s R o kept start g k l m)

pub second_there : {D : Type 0} (meaning : Meaning D) (s : Held D) (R : List Record) (o kept start d : ℕ) (g : Ground) → Knows meaning R o s g → start < kept → kept ≤ g.segment.extents → group_start start ≡ start → d ≡ block_in g.shape (extent_at (extents_of R o) start) 1 → has_page s.shape d ≡ true
second_there meaning s R o kept start d g k l m gs is =
    subst (λ (b : ℕ). has_page s.shape b ≡ true) (sym (block_same g.shape s.shape R o start d k.shape is))
    (second_has s.shape R o start k.holds.list.within k.holds.lawful k.table gs (start_there meaning s R o kept start g k l m))

pub group_told : {D : Type 0} (meaning : Meaning D) (s : Held D) (R : List Record) (o kept start d count best : ℕ) (g : Ground) → Knows meaning R o s g → start < kept → kept ≤ g.segment.extents → group_start start ≡ start → d ≡ block_in g.shape (extent_at (extents_of R o) start) 1 → count ≡ min (kept - start) EXTENTS_OF_L2
    → best_in count (page_of s.shape R d) ≡ Some best → IsGroup g.shape R o kept start (record { l2 = Some d; best = best })
group_told meaning s R o kept start d count best g k l m gs is c e =
    let x = at_exists (extents_of R o) start (start_there meaning s R o kept start g k l m) in
    record {
      l2 = ap (λ (b : ℕ). Some b) (is ∙ ap (λ (z : Option Extent). block_in g.shape z 1) x.1) ∙ sym (ap (l2_at g.shape) (at_front kept (extents_of R o) start l ∙ x.1));
      best = number_inside best (best_in_group s.shape R start 0 (take kept (extents_of R o))) (sym e ∙ second_read meaning s R o kept start d count g k l m gs is c)
          ∙ ap (λ (sh : Shape). best_in_group sh R start 0 (take kept (extents_of R o))) (sym k.shape);
    }

-- all three

three : {A : Type 0} (a b c x y z : A) → a ≡ x → b ≡ y → c ≡ z → a ∷ b ∷ c ∷ [] ≡ x ∷ y ∷ z ∷ []
three {A} a b c x y z p q r = ap (λ (n : A). n ∷ b ∷ c ∷ []) p ∙ ap (λ (n : A). x ∷ n ∷ c ∷ []) q ∙ ap (λ (n : A). x ∷ y ∷ n ∷ []) r

pub groups_told : (sh : Shape) (R : List Record) (o kept : ℕ) (a b c : Group) (all : Groups) → all ≡ all_of a b c → IsGroup sh R o kept 0 a → IsGroup sh R o kept EXTENTS_OF_L2 b → IsGroup sh R o kept (2 * EXTENTS_OF_L2) c → AreGroups sh R o kept all
groups_told sh R o kept a b c all e p q r = record {
  l2 = ap (λ (g : Groups). g.l2) e ∙ three a.l2 b.l2 c.l2 _ _ _ p.l2 q.l2 r.l2;
  bests = ap (λ (g : Groups). g.bests) e ∙ three a.best b.best c.best _ _ _ p.best q.best r.best;
}
