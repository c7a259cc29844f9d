-- Which blocks an update notes as changed.
use Rattle.std.proofs.Common.{◌≡◌, ℕ, suc, Bool, true, false, cond, ◌&&◌, ◌||◌, eqb, List, [], ◌∷◌, length, Option, Some, None, refl, sym, ◌∙◌, ap, ap₂, subst, eqb-true, eq-eqb, true≢false, get_or}
use Rattle.std.specs.Prelude.{Result, Ok, Err, IfOk}
use Rattle.seg_words.specs.Types.{Shape, Slot, Kind, Empty, Row, Head, Body, Rowid, UndoAddr, Block, new_slot, is_shape}
use Rattle.seg_words.proofs.Lemmas.{and_parts, cond-true}
use Rattle.change_laws.proofs.ReadyLaw.{holds_at}
use Rattle.redo_record.specs.declared.record.Record.TheVariants as made
use Rattle.redo_model.specs.Records.{Record, RowBody}
use Rattle.redo_model.specs.Model.{image, is_place, placed_in, written, holds_row, IsRowBlock, IsLawful, IsMigrated}
use Rattle.redo_model.proofs.Bridge.{image_is}
use Rattle.change_laws.specs.Drafts.{RowKind, Inserts, Updates, Migrates, Returns, Deletes, as_record, Change, Fill, Stand, Whole, Apart, holder_of, part_of, parts_of, body_at, record_of, update_of, return_of, migrate_of}
use Rattle.change_laws.specs.Spots.{Spot, Here, Next, Full, undo_start, spot_for, list_at}
use Rattle.change_laws.specs.Ready.{Path, InPlace, ToHead, ToOther, StandsAt}
use Rattle.change_laws.specs.Answers.{change_by}
use Rattle.change_laws.specs.Looks.{stand_of, stand_in}
use Rattle.head_laws.specs.Heads.{stand_by}
use Rattle.history_laws.proofs.Owned.{none_some, same_some}
use Rattle.page_set.specs.declared.page.Page.{Page}
use Rattle.page_set.specs.Folded.{page_of}
use Rattle.store_laws.specs.Kinds.{HasRowPage}
use Rattle.store_laws.proofs.KindsLaw.{rows_stand}
use Rattle.store_core.specs.declared.fault.StoreFault.{StoreFault}
use Rattle.row_change.specs.Acting.{txn_of}
use Rattle.row_change.specs.Planning.{IsBegun, IsNext}
use Rattle.session_core.specs.declared.changed.Changed.{Changed}
use Rattle.session_core.specs.Leaving.{is_empty, is_empty_in, one_block, two_blocks, home_blocks, with_target, is_noted, is_filled}

-- ---- the blocks of each way

one_noted : (b d : ℕ) → is_noted (one_block b) d ≡ (eqb b d || false)
one_noted b d = refl

same_noted : (b c d : ℕ) → b ≡ c → (eqb b d || false) ≡ (eqb b d || (eqb c d || false))
same_noted b c d e = subst (λ (z : ℕ). (eqb b d || false) ≡ (eqb b d || (eqb z d || false))) e (twice (eqb b d))
  where
    twice : (v : Bool) → (v || false) ≡ (v || (v || false))
    twice true = refl
    twice false = refl

swapped : (u v : Bool) → (u || (v || false)) ≡ (v || (u || false))
swapped true true = refl
swapped true false = refl
swapped false true = refl
swapped false false = refl

-- those of its head and its body
home_noted : (head p : Rowid) (d : ℕ) → is_noted (home_blocks (Some head) p) d ≡ (eqb head.dba d || (eqb p.dba d || false))
home_noted head p d = (elim (eqb head.dba p.dba) as (λ v. eqb head.dba p.dba ≡ v → is_noted (cond v (one_block p.dba) (two_blocks p.dba head.dba)) d ≡ (eqb head.dba d || (eqb p.dba d || false))) [
  | true ↦ λ e. let same = eqb-true head.dba p.dba e in same_noted p.dba head.dba d (sym same) ∙ swapped (eqb p.dba d) (eqb head.dba d)
  | false ↦ λ e. swapped (eqb p.dba d) (eqb head.dba d)
]) refl

pushed : (u v w : Bool) → (u || (v || (w || false))) ≡ (v || (u || (w || false)))
pushed true true w = refl
pushed true false w = refl
pushed false true w = refl
pushed false false w = refl

doubled : (u w : Bool) → (u || (w || false)) ≡ (u || (u || (w || false)))
doubled true w = refl
doubled false w = refl

-- and of the block that it goes to
target_noted : (head p : Rowid) (b d : ℕ) → is_noted (with_target (home_blocks (Some head) p) b) d ≡ (eqb head.dba d || (eqb p.dba d || (eqb b d || false)))
target_noted head p b d = (elim (eqb head.dba p.dba) as (λ v. eqb head.dba p.dba ≡ v → is_noted (with_target (cond v (one_block p.dba) (two_blocks p.dba head.dba)) b) d ≡ (eqb head.dba d || (eqb p.dba d || (eqb b d || false)))) [
  | true ↦ λ e. let same = eqb-true head.dba p.dba e in subst (λ (z : ℕ). (eqb p.dba d || (eqb b d || false)) ≡ (eqb z d || (eqb p.dba d || (eqb b d || false)))) (sym same) (doubled (eqb p.dba d) (eqb b d))
  | false ↦ λ e. last (eqb p.dba d) (eqb head.dba d) (eqb b d)
]) refl
  where
    last : (u v w : Bool) → (u || (v || w)) ≡ (v || (u || (w || false)))
    last true true w = refl
    last true false w = refl
    last false true w = refl
    last false false true = refl
    last false false false = refl

whole_noted : (p : Rowid) (b d : ℕ) → is_noted (with_target (home_blocks None p) b) d ≡ (eqb p.dba d || (eqb b d || false))
whole_noted p b d = refl

-- a row that goes to block b
pub migrated_noted : (R : List Record) (o n : ℕ) (head : Option Rowid) (p : Rowid) (b : ℕ) (text : List ℕ) (d : ℕ) → is_noted (with_target (home_blocks head p) b) d ≡ is_filled (migrate_of R o n (stand_by head p) b text).fills d
migrated_noted R o n None p b text d = whole_noted p b d
migrated_noted R o n (Some head) p b text d = target_noted head p b d

-- a row that needs no other block
abbrev pub left_by : Path → Bool
left_by InPlace = false
left_by ToHead = true
left_by ToOther = false

pub stayed_noted : (R : List Record) (o n : ℕ) (head : Option Rowid) (p : Rowid) (text : List ℕ) (way : Path) (c : Change) (d : ℕ) → change_by R o n (stand_by head p) text None way ≡ Some c → is_noted (cond (left_by way) (home_blocks head p) (one_block p.dba)) d ≡ is_filled c.fills d
stayed_noted R o n None p text InPlace c d e = subst (λ (z : Change). is_noted (one_block p.dba) d ≡ is_filled z.fills d) (same_some _ c e) (one_noted p.dba d)
stayed_noted R o n (Some head) p text InPlace c d e = subst (λ (z : Change). is_noted (one_block p.dba) d ≡ is_filled z.fills d) (same_some _ c e) (one_noted p.dba d)
stayed_noted R o n None p text ToHead c d e = none_some c _ e
stayed_noted R o n (Some head) p text ToHead c d e = subst (λ (z : Change). is_noted (home_blocks (Some head) p) d ≡ is_filled z.fills d) (same_some _ c e) (home_noted head p d)
stayed_noted R o n head p text ToOther c d e = none_some c _ e

-- ---- the newest image after a change

abbrev kind_after : List Fill → ℕ → ℕ → Kind → Kind
kind_after [] b k old = old
kind_after (f ∷ fs) b k old = cond (is_place f.at.dba f.at.slot b k) f.content.kind (kind_after fs b k old)

placed_kind : (R : List Record) (t : ℕ) (a : UndoAddr) (i : ℕ) (fs : List Fill) (b k : ℕ) (old : Slot) → (placed_in (written (parts_of R t a i fs)) b k old).kind ≡ kind_after fs b k old.kind
placed_kind R t a i [] b k old = refl
placed_kind R t a i (f ∷ fs) b k old = elim (is_place f.at.dba f.at.slot b k) as (λ v. (cond v (part_of R t a i f).new (placed_in (written (parts_of R t a (suc i) fs)) b k old)).kind ≡ cond v f.content.kind (kind_after fs b k old.kind)) [
  | true ↦ refl
  | false ↦ placed_kind R t a (suc i) fs b k old
]

step_image : (kd : RowKind) (w : RowBody) (L : List Record) (b k : ℕ) → image (as_record kd w ∷ L) b k ≡ placed_in (written w.parts) b k (image L b k)
step_image Inserts w L b k = refl
step_image Updates w L b k = refl
step_image Migrates w L b k = refl
step_image Returns w L b k = refl
step_image Deletes w L b k = refl

kind_next : (L : List Record) (t : ℕ) (a : UndoAddr) (c : Change) (b k : ℕ) → (image (record_of L t a c ∷ L) b k).kind ≡ kind_after c.fills b k (image L b k).kind
kind_next L t a c b k = ap (λ (s : Slot). s.kind) (step_image c.kind (body_at L t a c) L b k) ∙ placed_kind L t a 0 c.fills b k (image L b k)

kind_at : (before next : List Record) (t : ℕ) (c : Change) (s : Spot) (b k : ℕ) → list_at before t c s ≡ Some next → (image next b k).kind ≡ kind_after c.fills b k (image before b k).kind
kind_at before next t c (Here a) b k e = sym (ap (λ (Q : List Record). (image Q b k).kind) (same_some (record_of before t a c ∷ before) next e)) ∙ kind_next before t a c b k
kind_at before next t c (Next q) b k e = sym (ap (λ (Q : List Record). (image Q b k).kind) (same_some (record_of (made.Reuse q ∷ before) t (undo_start q) c ∷ made.Reuse q ∷ before) next e)) ∙ kind_next (made.Reuse q ∷ before) t (undo_start q) c b k
kind_at before next t c (Full hs) b k e = none_some next _ e

begun_image : (R : List Record) (who : ℕ) (own : Option ℕ) (before : List Record) (b k : ℕ) → IsBegun R who own before → image before b k ≡ image R b k
begun_image R who None before b k g = ap (λ (Q : List Record). image Q b k) g.is
begun_image R who (Some t) before b k g = ap (λ (Q : List Record). image Q b k) g

kind_then : (sh : Shape) (R : List Record) (who : ℕ) (own : Option ℕ) (c : Change) (next : List Record) (b k : ℕ) → IsNext sh R who own c next → (image next b k).kind ≡ kind_after c.fills b k (image R b k).kind
kind_then sh R who own c next b k n = kind_at n.before next (txn_of R own) c _ b k n.list_is ∙ ap (λ (s : Slot). kind_after c.fills b k s.kind) (begun_image R who own n.before b k n.begins)

-- ---- its block is there still

here_more : (kd : RowKind) (w : RowBody) (sh : Shape) (L : List Record) (o b : ℕ) → IsRowBlock sh L o b → IsRowBlock sh (as_record kd w ∷ L) o b
here_more Inserts w sh L o b h = record { here = h.here; formatted = h.formatted }
here_more Updates w sh L o b h = record { here = h.here; formatted = h.formatted }
here_more Migrates w sh L o b h = record { here = h.here; formatted = h.formatted }
here_more Returns w sh L o b h = record { here = h.here; formatted = h.formatted }
here_more Deletes w sh L o b h = record { here = h.here; formatted = h.formatted }

here_at : (sh : Shape) (before next : List Record) (t : ℕ) (c : Change) (s : Spot) (o b : ℕ) → list_at before t c s ≡ Some next → IsRowBlock sh before o b → IsRowBlock sh next o b
here_at sh before next t c (Here a) o b e h = subst (λ (Q : List Record). IsRowBlock sh Q o b) (same_some (record_of before t a c ∷ before) next e) (here_more c.kind _ sh before o b h)
here_at sh before next t c (Next q) o b e h = subst (λ (Q : List Record). IsRowBlock sh Q o b) (same_some (record_of (made.Reuse q ∷ before) t (undo_start q) c ∷ made.Reuse q ∷ before) next e) (here_more c.kind _ sh (made.Reuse q ∷ before) o b (record { here = h.here; formatted = h.formatted }))
here_at sh before next t c (Full hs) o b e h = none_some next _ e

here_begun : (sh : Shape) (R : List Record) (who : ℕ) (own : Option ℕ) (before : List Record) (o b : ℕ) → IsBegun R who own before → IsRowBlock sh R o b → IsRowBlock sh before o b
here_begun sh R who None before o b g h = subst (λ (Q : List Record). IsRowBlock sh Q o b) (sym g.is) (record { here = h.here; formatted = h.formatted })
here_begun sh R who (Some t) before o b g h = subst (λ (Q : List Record). IsRowBlock sh Q o b) (sym g) h

here_then : (sh : Shape) (R : List Record) (who : ℕ) (own : Option ℕ) (c : Change) (next : List Record) (o b : ℕ) → IsNext sh R who own c next → IsRowBlock sh R o b → IsRowBlock sh next o b
here_then sh R who own c next o b n h = here_at sh n.before next (txn_of R own) c _ o b n.list_is (here_begun sh R who own n.before o b n.begins h)

empty_of_page : (sh : Shape) (R : List Record) (o b k : ℕ) → is_shape sh ≡ true → IsLawful sh R → IsRowBlock sh R o b → is_empty_in k (page_of sh R b) ≡ is_empty (image R b k).kind
empty_of_page sh R o b k s h x =
    let p : HasRowPage sh R b = rows_stand sh R o b s h x in
    ap (λ (y : Page). is_empty_in k y) p.page
    ∙ ap (λ (y : Block). is_empty (get_or y.slots k new_slot).kind) p.holds.block
    ∙ ap (λ (y : Slot). is_empty y.kind) (image_is R b k)

-- ---- what its place shows

is_itself : (b k : ℕ) → is_place b k b k ≡ true
is_itself b k = ap₂ (λ (u v : Bool). u && v) (eq-eqb b b refl) (eq-eqb k k refl)

not_empty : (kd : Kind) → holds_row kd ≡ true → is_empty kd ≡ false
not_empty Empty e = absurd (true≢false (sym e))
not_empty Row e = refl
not_empty Head e = refl
not_empty Body e = refl

kind_clash : (kd : Kind) → kd ≡ Head → kd ≡ Body → ⊥
kind_clash kd e f = let z : ◌≡◌ {A = Kind} Head Body = sym e ∙ f in absurd (cc z)

other_place : (R : List Record) (n : ℕ) (head p : Rowid) → StandsAt R n (Apart head p) → is_place head.dba head.slot p.dba p.slot ≡ false
other_place R n head p h = (elim (is_place head.dba head.slot p.dba p.slot) as (λ v. is_place head.dba head.slot p.dba p.slot ≡ v → v ≡ false) [
  | true ↦ λ e.
      let both = and_parts (eqb head.dba p.dba) (eqb head.slot p.slot) e in
      let same : image R head.dba head.slot ≡ image R p.dba p.slot = ap₂ (λ (b k : ℕ). image R b k) (eqb-true head.dba p.dba both.0) (eqb-true head.slot p.slot both.1) in
      absurd (kind_clash (image R head.dba head.slot).kind h.head_kind (ap (λ (s : Slot). s.kind) same ∙ h.body_kind))
  | false ↦ λ e. refl
]) refl

-- the place is empty exactly where the row went back to its head
fills_left : (R : List Record) (o n : ℕ) (head : Option Rowid) (p : Rowid) (text : List ℕ) (way : Path) (c : Change) → StandsAt R n (stand_by head p) → change_by R o n (stand_by head p) text None way ≡ Some c → is_empty (kind_after c.fills p.dba p.slot (image R p.dba p.slot).kind) ≡ left_by way
fills_left R o n None p text InPlace c s e =
    let old = (image R p.dba p.slot).kind in
    subst (λ (z : Change). is_empty (kind_after z.fills p.dba p.slot old) ≡ false) (same_some _ c e)
    (ap is_empty (cond-true _ old old (is_itself p.dba p.slot)) ∙ not_empty old (holds_at R n (Whole p) s).0)
fills_left R o n (Some head) p text InPlace c s e =
    let old = (image R p.dba p.slot).kind in
    subst (λ (z : Change). is_empty (kind_after z.fills p.dba p.slot old) ≡ false) (same_some _ c e)
    (ap is_empty (cond-true _ old old (is_itself p.dba p.slot)) ∙ not_empty old (holds_at R n (Apart head p) s).0)
fills_left R o n None p text ToHead c s e = none_some c _ e
fills_left R o n (Some head) p text ToHead c s e =
    let old = (image R p.dba p.slot).kind in
    subst (λ (z : Change). is_empty (kind_after z.fills p.dba p.slot old) ≡ true) (same_some _ c e)
    (ap₂ (λ (u v : Bool). is_empty (cond u Row (cond v Empty old))) (other_place R n head p s) (is_itself p.dba p.slot))
fills_left R o n head p text ToOther c s e = none_some c _ e

pub place_left : (sh : Shape) (R : List Record) (who : ℕ) (own : Option ℕ) (c : Change) (next : List Record) (o n : ℕ) (head : Option Rowid) (p : Rowid) (text : List ℕ) (way : Path) → is_shape sh ≡ true → IsLawful sh next → IsRowBlock sh R o p.dba → IsNext sh R who own c next → StandsAt R n (stand_by head p)
    → change_by R o n (stand_by head p) text None way ≡ Some c → is_empty_in p.slot (page_of sh next p.dba) ≡ left_by way
place_left sh R who own c next o n head p text way s lawful here is stands e =
    empty_of_page sh next o p.dba p.slot s lawful (here_then sh R who own c next o p.dba is here)
    ∙ ap is_empty (kind_then sh R who own c next p.dba p.slot is)
    ∙ fills_left R o n head p text way c stands e

-- ---- what a look at it answers

pub left_as : (v : Bool) (r : Result Bool StoreFault) → IfOk r (λ y. ◌≡◌ {A = Option Bool} (Some v) (Some y)) → IfOk r (λ y. y ≡ v)
left_as v (Ok y) e = sym (same_some v y e)
left_as v (Err f) e = tt
