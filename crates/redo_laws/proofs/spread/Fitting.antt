-- A step of the right shape fits a list that is lawful so far.
use Rattle.std.proofs.Common.{◌≡◌, ◌⊎◌, ℕ, suc, ◌≤◌, Bool, true, false, cond, not, ◌&&◌, eqb, List, [], ◌∷◌, length, Option, Some, None, refl, sym, ◌∙◌, ap, subst, arith, inl, inr, le_refl, eqb-true, true≢false, eq-eqb}
use Rattle.seg_words.proofs.Lemmas.{cond-true, cond-false, cases_Bool, and_parts, and_from, or_left, or_right}
use Rattle.seg_words.specs.Types.{Shape, Slot, UndoAddr, Writer, By, At, is_empty, writer_has_ended, row_size, next_room}
use Rattle.redo_model.specs.Records.{Record, RowPart}
use Rattle.redo_model.specs.Model.{Step, written, commit_count, txn_count, row_count, is_active, ended_in, is_by, standing, newest_on, holds_row, outcome, is_place, placed_in, image, Made, without, makers, first_counted, row_in, AreAllowed, counts}
use Rattle.redo_model.specs.Effects.{Adds}
use Rattle.redo_laws.proofs.lists.Every.{Every}
use Rattle.redo_laws.proofs.steps.OnTop.{is_named, off_named, head_named, OnTop}
use Rattle.redo_laws.proofs.steps.Facts.{StatesOld, Counted, Found, place_of, located, MayOver, HeadOver, BegunBy, Told, MoveKeeps, StepFits, HeadSettled, IsFit, IfSettled, SameCounts, IsClosed, newest_outcome}
use Rattle.redo_laws.proofs.steps.Held.{Held, own}
use Rattle.redo_laws.proofs.spread.Spread.{good, by_of}
use Rattle.redo_laws.proofs.spread.Views.{ready, lock_over, view_is_newest}
use Rattle.redo_laws.proofs.spread.Union.{rows}
use Rattle.redo_laws.proofs.numbers.Known.{known}
use Rattle.redo_laws.proofs.allowed.Basics.{Basics}
use Rattle.redo_laws.proofs.undo.Economy.{UndoIn, fresh}
use Rattle.redo_laws.proofs.links.Links.{StandsOn, RoomOver, Linked, ImagesOf, LinksFit, LinksIn, settled_head}
use Rattle.redo_laws.proofs.space.Places.{Segments, same_table}
use Rattle.redo_laws.proofs.allowed.Shapes.{Replaces, AllPut, Keeps, Deletes, Source, OldRow, StepShape, holder_place, holder_bytes, holder_holds, none_new, none_place, holder_new, holder_at, named_part, row_of_empty}
use Rattle.redo_laws.specs.Homes.{row_table}
use Rattle.redo_laws.proofs.homes.Homes.{RowOf, HomeIn}

-- each step that stands is of the table of its row
abbrev pub ObjectsIn : List Record → List Step → Type 0
ObjectsIn R ss = Every (λ (s : Step). RowOf R s.obj s.row) ss

-- what is known of a lawful list
pub record Whole (sh : Shape) (R : List Record) : Type 0 where
  pub fit : IsFit sh R
  pub undo : UndoIn R
  pub links : LinksIn R
  pub objects : ObjectsIn R (standing R)
  pub homes : (b : ℕ) → HomeIn sh R b

-- all steps count

abbrev pub all : Counted
all w a = true

all_same : (w : Writer) (ss : List Step) → SameCounts all w ss
all_same w [] = tt
all_same w (s ∷ ss) = ((λ e. refl), all_same w ss)

settled_all : (active : ℕ → Bool) (w : Writer) → IfSettled active w (true ≡ true)
settled_all active (By u) = λ off. refl
settled_all active (At m) = refl

pub closed_all : (active : ℕ → Bool) (ss : List Step) → IsClosed all active ss
closed_all active [] = tt
closed_all active (s ∷ ss) = (settled_all active s.by, (λ e. all_same s.by ss), closed_all active ss)

pub all_first : (i : Slot) (ms : List Made) → first_counted all i ms ≡ i
all_first i [] = refl
all_first i (m ∷ ms) = refl

-- the row in a slot now is where its newest step put it
pub now_found : (sh : Shape) (R : List Record) (b k n : ℕ) (x : List ℕ) → IsFit sh R → row_in (image R b k) ≡ Some (n, x) → located all (standing R) n ≡ Some (b, k, x)
now_found sh R b k n x f e = ((good sh R f).spread all (closed_all (is_active R) (standing R)) b k n x).found (ap row_in (all_first (image R b k) (makers R b k)) ∙ e)

pub now_shown : (sh : Shape) (R : List Record) (b k n : ℕ) (x : List ℕ) → IsFit sh R → located all (standing R) n ≡ Some (b, k, x) → row_in (image R b k) ≡ Some (n, x)
now_shown sh R b k n x f e = sym (ap row_in (all_first (image R b k) (makers R b k))) ∙ ((good sh R f).spread all (closed_all (is_active R) (standing R)) b k n x).shown e

holds_in : (i : Slot) (n : ℕ) → holds_row i.kind ≡ true → i.row ≡ n → row_in i ≡ Some (n, i.bytes)
holds_in i n h e = cond-true _ _ _ h ∙ ap (λ m. Some (m, i.bytes)) e

abbrev block_of_found : Option Found → ℕ
block_of_found None = 0
block_of_found (Some f) = f.0

abbrev slot_of_found : Option Found → ℕ
slot_of_found None = 0
slot_of_found (Some f) = f.1

abbrev bytes_of_found : Option Found → List ℕ
bytes_of_found None = []
bytes_of_found (Some f) = f.2

-- the newest step on a row that stands in a slot
pub record NewestAt (R : List Record) (n b k : ℕ) (x : List ℕ) : Type 0 where
  pub last : Step
  pub newest : newest_on (standing R) n ≡ Some last
  pub place : place_of last.parts ≡ Some (b, k, x)

located_some : (ss : List Step) (n b k : ℕ) (x : List ℕ) → located all ss n ≡ Some (b, k, x) → (last : Step) × (newest_on ss n ≡ Some last) × (place_of last.parts ≡ Some (b, k, x))
located_some [] n b k x e = absurd (let y : ◌≡◌ {A = Option Found} None (Some (b, k, x)) = e in cc)
located_some (s ∷ ss) n b k x e =
    (elim (eqb s.row n) as (λ v. cond v (place_of s.parts) (located all ss n) ≡ Some (b, k, x) → (last : Step) × (cond v (Some s) (newest_on ss n) ≡ Some last) × (place_of last.parts ≡ Some (b, k, x))) [
      | true ↦ λ f. (s, refl, f)
      | false ↦ λ f. located_some ss n b k x f
    ]) e

-- a step names its place
place_named : (ps : List RowPart) (b k : ℕ) (x : List ℕ) → place_of ps ≡ Some (b, k, x) → is_named ps b k ≡ true
place_named [] b k x e = absurd (let y : ◌≡◌ {A = Option Found} None (Some (b, k, x)) = e in cc)
place_named (p ∷ ps) b k x e =
    (elim (holds_row p.new.kind) as (λ v. cond v (Some (p.dba, p.slot, p.new.bytes)) (place_of ps) ≡ Some (b, k, x) → is_named (p ∷ ps) b k ≡ true) [
      | true ↦ λ f. or_left _ _ (and_from (eqb p.dba b) (eqb p.slot k) (eq-eqb p.dba b (ap block_of_found f)) (eq-eqb p.slot k (ap slot_of_found f)))
      | false ↦ λ f. or_right (is_place p.dba p.slot b k) _ (place_named ps b k x f)
    ]) e

-- the newest maker of a slot that an active transaction's step names is its own

abbrev NamedIn : List Step → ℕ → ℕ → Type 0
NamedIn [] b k = ⊥
NamedIn (s ∷ us) b k = (is_named s.parts b k ≡ true) ⊎ NamedIn us b k

record HeadBy (u : ℕ) (ms : List Made) : Type 0 where
  made : Made
  rest : List Made
  list : ms ≡ made ∷ rest
  by_is : made.by ≡ By u

top_head : (us : List Step) (u b k : ℕ) (ms : ℕ → ℕ → List Made) → Every (λ (s : Step). s.by ≡ By u) us → OnTop us ms → NamedIn us b k → HeadBy u (ms b k)
top_head [] u b k ms own top h = absurd h
top_head (s ∷ us) u b k ms own top h =
    elim (cases_Bool (is_named s.parts b k)) [
      | inl y ↦ let w = head_named s 0 s.parts b k (without s.undo (ms b k)) y in record { made = w.made; rest = without s.undo (ms b k); list = top.0 b k ∙ w.list; by_is = w.by_is ∙ own.0 }
      | inr n ↦
          let w = top_head us u b k (λ c l. without s.undo (ms c l)) own.1 top.1 (elim h [ inl y ↦ absurd (true≢false (sym y ∙ n)) | inr z ↦ z ]) in
          record { made = w.made; rest = w.rest; list = top.0 b k ∙ off_named s 0 s.parts b k (without s.undo (ms b k)) n ∙ w.list; by_is = w.by_is }
    ]

all_own : (u : ℕ) (ss : List Step) → Every (λ (s : Step). s.by ≡ By u) (own u ss)
all_own u [] = tt
all_own u (s ∷ ss) = (elim (is_by s.by u) as (λ v. is_by s.by u ≡ v → Every (λ (s : Step). s.by ≡ By u) (cond v (s ∷ own u ss) (own u ss))) [ true ↦ λ e. (by_of s.by u e, all_own u ss) | false ↦ λ e. all_own u ss ]) refl

own_self : (w : Writer) (u : ℕ) → w ≡ By u → is_by w u ≡ true
own_self w u e = ap (λ x. is_by x u) e ∙ eq-eqb u u refl

own_named : (ss : List Step) (n u b k : ℕ) (last : Step) → newest_on ss n ≡ Some last → last.by ≡ By u → is_named last.parts b k ≡ true → NamedIn (own u ss) b k
own_named [] n u b k last e by h = absurd (let y : ◌≡◌ {A = Option Step} None (Some last) = e in cc)
own_named (s ∷ ss) n u b k last e by h =
    (elim (eqb s.row n) as (λ v. cond v (Some s) (newest_on ss n) ≡ Some last → NamedIn (own u (s ∷ ss)) b k) [
      | true ↦ λ f. let same : last ≡ s = cc in
          let mine : is_by s.by u ≡ true = subst (λ (z : Step). is_by z.by u ≡ true) same (own_self last.by u by) in
          subst (λ us. NamedIn us b k) (sym (cond-true (is_by s.by u) (s ∷ own u ss) (own u ss) mine)) (inl (subst (λ (z : Step). is_named z.parts b k ≡ true) same h))
      | false ↦ λ f. elim (is_by s.by u) as (λ v. NamedIn (cond v (s ∷ own u ss) (own u ss)) b k) [ true ↦ inr (own_named ss n u b k last f by h) | false ↦ own_named ss n u b k last f by h ]
    ]) e

-- a slot whose newest maker has ended isn't the place of an active transaction's newest step
settled_place : (R : List Record) (n u b k : ℕ) (last : Step) → Held (is_active R) (txn_count R) (standing R) (makers R) → newest_on (standing R) n ≡ Some last → last.by ≡ By u → is_named last.parts b k ≡ true → HeadSettled (is_active R) (makers R b k) → is_active R u ≡ true → ⊥
settled_place R n u b k last h e by nm s on =
    let w = top_head (own u (standing R)) u b k (makers R) (all_own u (standing R)) (h.top u on) (own_named (standing R) n u b k last e by nm) in
    let x : HeadSettled (is_active R) (w.made ∷ w.rest) = subst (HeadSettled (is_active R)) w.list s in
    true≢false (sym on ∙ x u w.by_is)

-- who may be written over

settled_over : (active : ℕ → Bool) (w : Writer) (ms : List Made) → HeadSettled active ms → HeadOver active w ms
settled_over active w [] h = tt
settled_over active w (m ∷ ms) h = go m.by (λ u e. h u e)
  where
    go : (v : Writer) → ((u : ℕ) → v ≡ By u → active u ≡ false) → MayOver active w v
    go (By u) f = λ on. absurd (true≢false (sym on ∙ f u refl))
    go (At c) f = tt

stands_may : (active : ℕ → Bool) (w : Writer) (ss : List Step) (v : Writer) (a : UndoAddr) (n m : ℕ) → n ≡ m → StandsOn ss v a n → Every (λ (s : Step). s.row ≡ m → MayOver active w s.by) ss → MayOver active w v
stands_may active w [] v a n m e h f = absurd h
stands_may active w (s ∷ ss) v a n m e h f = elim h [ inl y ↦ subst (MayOver active w) y.0 (f.0 (y.2 ∙ e)) | inr z ↦ stands_may active w ss v a n m e z f.1 ]

linked_may : (active : ℕ → Bool) (n : ℕ) (ss : List Step) (w : Writer) (i : Slot) (ms : List Made) (row : ℕ) → Linked active n ss i ms → is_empty i.kind ≡ false → i.row ≡ row → Every (λ (s : Step). s.row ≡ row → MayOver active w s.by) ss → HeadOver active w ms
linked_may active n ss w i [] row h e r f = tt
linked_may active n ss w i (m ∷ ms) row h e r f = stands_may active w ss m.by m.undo i.row row r (h.0.row e) f

part_free : (sh : Shape) (R : List Record) (st : Step) (p : RowPart) (b k : ℕ) → LinksIn R → Every (λ (s : Step). s.row ≡ st.row → MayOver (is_active R) st.by s.by) (standing R) → Replaces sh R st p → p.old ≡ image R b k → HeadOver (is_active R) st.by (makers R b k)
part_free sh R st p b k l f (inl y) e = linked_may (is_active R) (txn_count R) (standing R) st.by (image R b k) (makers R b k) st.row (l b k) (ap (λ (i : Slot). is_empty i.kind) (sym e) ∙ y.0) (ap (λ (i : Slot). i.row) (sym e) ∙ y.1) f
part_free sh R st p b k l f (inr z) e = settled_over (is_active R) st.by (makers R b k) (settled_head (is_active R) (txn_count R) (standing R) (image R b k) (makers R b k) (l b k) (ap (λ (i : Slot). writer_has_ended (ended_in R) i.writer) (sym e) ∙ z.1))

-- what t writes over is its own or done
own_or_over : (active : ℕ → Bool) (n : ℕ) (ss : List Step) (t : ℕ) (i : Slot) (ms : List Made) → Linked active n ss i ms → HeadOver active (By t) ms → (i.writer ≡ By t) ⊎ (writer_has_ended (λ u. not (active u)) i.writer ≡ true)
own_or_over active n ss t i [] h o = inr (ap (writer_has_ended (λ u. not (active u))) h.writer)
own_or_over active n ss t i (m ∷ ms) h o = elim h.0.writer [
  | inl same ↦ go m.by same o
  | inr y ↦ inr (ap (writer_has_ended (λ u. not (active u))) y.1)
]
  where
    go : (v : Writer) → i.writer ≡ v → MayOver active (By t) v → (i.writer ≡ By t) ⊎ (writer_has_ended (λ u. not (active u)) i.writer ≡ true)
    go (By u) same o = elim (cases_Bool (active u)) [
      | inl on ↦ inl (same ∙ sym (o on))
      | inr off ↦ inr (ap (writer_has_ended (λ u. not (active u))) same ∙ ap not off)
    ]
    go (At c) same o = inr (ap (writer_has_ended (λ u. not (active u))) same)

size_is : (ended : ℕ → Bool) (s : Slot) → writer_has_ended ended s.writer ≡ true → row_size ended s ≡ length s.bytes
size_is ended s e = cond-true (writer_has_ended ended s.writer) (length s.bytes) s.room e

size_else : (ended : ℕ → Bool) (s : Slot) → writer_has_ended ended s.writer ≡ false → row_size ended s ≡ s.room
size_else ended s e = cond-false (writer_has_ended ended s.writer) (length s.bytes) s.room e

room_over : (R : List Record) (u : ℕ) (old new : Slot) → new.room ≡ next_room (ended_in R) old (length new.bytes) → (old.writer ≡ By u) ⊎ (writer_has_ended (ended_in R) old.writer ≡ true) → RoomOver (is_active R) u old new
room_over R u old new e o = record {
  own = omega (arith, e);
  below = elim (cases_Bool (writer_has_ended (ended_in R) old.writer)) [
    | inl y ↦ inr (y, let s = size_is (ended_in R) old y in omega (arith, e, s))
    | inr n ↦ elim o [
      | inl w ↦ inl (w, let s = size_else (ended_in R) old n in omega (arith, e, s))
      | inr z ↦ absurd (true≢false (sym z ∙ n))
    ]
  ];
}

images_of : (sh : Shape) (R : List Record) (st : Step) (i : ℕ) (ps : List RowPart) → LinksIn R → Every (λ (s : Step). s.row ≡ st.row → MayOver (is_active R) st.by s.by) (standing R) → AllPut R st i ps → Every (Replaces sh R st) ps → StatesOld R ps → ImagesOf R st i ps
images_of sh R st i [] l f pu re old = tt
images_of sh R st i (p ∷ ps) l f pu re old = (
  record {
    undo = pu.0.undo;
    writer = pu.0.writer;
    row = pu.0.row;
    room = λ u e.
        let free : HeadOver (is_active R) (By u) (makers R p.dba p.slot) = subst (λ w. HeadOver (is_active R) w (makers R p.dba p.slot)) e (part_free sh R st p p.dba p.slot l f re.0 old.0) in
        let o = own_or_over (is_active R) (txn_count R) (standing R) u (image R p.dba p.slot) (makers R p.dba p.slot) (l p.dba p.slot) free in
        room_over R u p.old p.new (pu.0.room u e) (subst (λ (x : Slot). (x.writer ≡ By u) ⊎ (writer_has_ended (ended_in R) x.writer ≡ true)) (sym old.0) o);
  },
  images_of sh R st (suc i) ps l f pu.1 re.1 old.1,
)

-- the table of a row that is changed or moves

pub newest_table : (R : List Record) (c : Counted) (ss : List Step) (o n : ℕ) (x : List ℕ) → ObjectsIn R ss → newest_outcome c ss o n ≡ Some x → RowOf R o n
newest_table R c [] o n x f e = absurd (let y : ◌≡◌ {A = Option (List ℕ)} None (Some x) = e in cc)
newest_table R c (s ∷ ss) o n x f e =
    elim (cases_Bool (c s.by s.undo && (eqb s.obj o && eqb s.row n))) [
      | inl y ↦
          let q = and_parts (eqb s.obj o) (eqb s.row n) (and_parts (c s.by s.undo) (eqb s.obj o && eqb s.row n) y).1 in
          subst (RowOf R o) (eqb-true s.row n q.1) (subst (λ z. RowOf R z s.row) (eqb-true s.obj o q.0) f.0)
      | inr g ↦ newest_table R c ss o n x f.1 (sym (cond-false _ _ _ g) ∙ e)
    ]

newest_of_row : (P : Step → Type 0) (ss : List Step) (n : ℕ) (last : Step) → newest_on ss n ≡ Some last → Every P ss → P last × (last.row ≡ n)
newest_of_row P [] n last e f = absurd (let x : ◌≡◌ {A = Option Step} None (Some last) = e in cc)
newest_of_row P (s ∷ ss) n last e f =
    (elim (eqb s.row n) as (λ v. eqb s.row n ≡ v → cond v (Some s) (newest_on ss n) ≡ Some last → P last × (last.row ≡ n)) [
      | true ↦ λ y g. let same : s ≡ last = cc in (subst P same f.0, subst (λ (z : Step). z.row ≡ n) same (eqb-true s.row n y))
      | false ↦ λ y g. newest_of_row P ss n last g f.1
    ]) refl e

old_table : (sh : Shape) (R : List Record) (st : Step) → Whole sh R → Segments sh R → OldRow sh R st → RowOf R st.obj st.row
old_table sh R st w s o = elim o.reason [
  | inl v ↦ newest_table R (λ x a. counts R (commit_count R) v.txn x) (standing R) st.obj st.row v.was w.objects
      (sym (view_is_newest sh R st.obj (commit_count R) v.txn st.row w.fit (le_refl (commit_count R)) (inr v.active)) ∙ v.there)
  | inr i ↦ elim (w.homes i.block) [
    | inl l ↦
        let same : l.obj ≡ st.obj = same_table sh R l.obj st.obj i.block s l.here.0 i.present.0 l.here.1 i.present.1 in
        subst (λ x. RowOf R x st.row) same (subst (RowOf R l.obj) i.row ((l.rows i.slot).0 i.holds))
    | inr d ↦ absurd (d.absent st.obj i.present)
  ]
]

-- the newest step on the row stands where the row is
source_newest : (sh : Shape) (R : List Record) (st : Step) → Whole sh R → (o : Source R st) → (last : Step) × (newest_on (standing R) st.row ≡ Some last) × (place_of last.parts ≡ Some (o.block, o.slot, (image R o.block o.slot).bytes))
source_newest sh R st w o = located_some (standing R) st.row o.block o.slot (image R o.block o.slot).bytes
    (now_found sh R o.block o.slot st.row (image R o.block o.slot).bytes w.fit (holds_in (image R o.block o.slot) st.row o.holds o.row))

same_step : (x y : Step) → ◌≡◌ {A = Option Step} (Some x) (Some y) → x ≡ y
same_step x y e = cc

last_place : (sh : Shape) (R : List Record) (st last : Step) → Whole sh R → (o : Source R st) → newest_on (standing R) st.row ≡ Some last → place_of last.parts ≡ Some (o.block, o.slot, (image R o.block o.slot).bytes)
last_place sh R st last w o e =
    let n = source_newest sh R st w o in
    subst (λ (z : Step). place_of z.parts ≡ Some (o.block, o.slot, (image R o.block o.slot).bytes)) (same_step n.0 last (sym n.1 ∙ e)) n.2

-- no row of this number was made before
new_row_none : (R : List Record) (n : ℕ) (last : Step) → ObjectsIn R (standing R) → n ≡ suc (row_count R) → newest_on (standing R) n ≡ Some last → ⊥
new_row_none R n last f e g =
    let q = newest_of_row (λ (s : Step). RowOf R s.obj s.row) (standing R) n last g f in
    let m : last.row ≤ row_count R = q.0.1 in
    let r : last.row ≡ n = q.1 in
    absurd (omega arith)

move_over : (sh : Shape) (R : List Record) (st last : Step) (m : ℕ) → Whole sh R → (o : OldRow sh R st) → st.by ≡ At m → newest_on (standing R) st.row ≡ Some last → MayOver (is_active R) (At m) last.by
move_over sh R st last m w o e f = go last.by refl
  where
    go : (v : Writer) → last.by ≡ v → MayOver (is_active R) (At m) v
    go (At c) g = tt
    go (By u) g = λ on.
        let src = o.source in
        let settled = settled_head (is_active R) (txn_count R) (standing R) (image R src.block src.slot) (makers R src.block src.slot) (w.links src.block src.slot) (o.moved m e).0 in
        absurd (settled_place R st.row u src.block src.slot last (good sh R w.fit).held f g (place_named last.parts src.block src.slot _ (last_place sh R st last w src f)) settled on)

row_free : (sh : Shape) (R : List Record) (st last : Step) → Whole sh R → StepShape sh R st → newest_on (standing R) st.row ≡ Some last → MayOver (is_active R) st.by last.by
row_free sh R st last w f e = elim f.origin [
  | inl n ↦ absurd (new_row_none R st.row last w.objects n.2 e)
  | inr o ↦ go st.by refl o
]
  where
    go : (v : Writer) → st.by ≡ v → OldRow sh R st → MayOver (is_active R) st.by last.by
    go (By u) g o = o.free u g last e
    go (At m) g o = subst (λ v. MayOver (is_active R) v last.by) (sym g) (move_over sh R st last m w o g e)

-- all that a step needs

begun_by : (sh : Shape) (R : List Record) (st : Step) → AreAllowed sh R → Basics R st → BegunBy (txn_count R) st.by
begun_by sh R st h b = go st.by refl
  where
    go : (v : Writer) → st.by ≡ v → BegunBy (txn_count R) v
    go (By u) e = (known sh R 0 u h).begins (b.live u e)
    go (At m) e = tt

pair_is : (n m : ℕ) (x y : List ℕ) → ◌≡◌ {A = Option (ℕ × List ℕ)} (Some (n, x)) (Some (m, y)) → (n ≡ m) × (x ≡ y)
pair_is n m x y e = (ap (λ (o : Option (ℕ × List ℕ)). elim o as (λ _. ℕ) [ None ↦ 0 | Some p ↦ p.0 ]) e, ap (λ (o : Option (ℕ × List ℕ)). elim o as (λ _. List ℕ) [ None ↦ [] | Some p ↦ p.1 ]) e)

keeps_row : (st : Step) (k : Keeps st) → row_in k.part.new ≡ Some (st.row, k.part.new.bytes)
keeps_row st k = holds_in k.part.new st.row (holder_holds k.part st.parts k.holder) k.row

keeps_outcome : (st : Step) (k : Keeps st) → outcome st ≡ Some k.part.new.bytes
keeps_outcome st k = cond-false _ _ _ k.not_deleted ∙ ap Some (holder_bytes k.part st.parts k.holder)

new_rows : (st : Step) → Keeps st ⊎ Deletes st → (b k : ℕ) (i : Slot) (x : ℕ × List ℕ) → is_named st.parts b k ≡ true → row_in (placed_in (written st.parts) b k i) ≡ Some x → (x.0 ≡ st.row) × (place_of st.parts ≡ Some (b, k, x.1))
new_rows st (inr d) b k i x n e = absurd (none_new st.parts b k i x d.none n e)
new_rows st (inl y) b k i x n e =
    let h = holder_new y.part st.parts b k i x y.holder n e in
    let q = pair_is st.row x.0 y.part.new.bytes x.1 (sym (keeps_row st y) ∙ h.row) in
    (sym q.0, holder_place y.part st.parts y.holder ∙ (λ j. Some (h.block j, h.slot j, q.1 j)))

placed_at : (st : Step) → Keeps st ⊎ Deletes st → (b k : ℕ) (bytes : List ℕ) (i : Slot) → place_of st.parts ≡ Some (b, k, bytes) → (is_named st.parts b k ≡ true) × (row_in (placed_in (written st.parts) b k i) ≡ Some (st.row, bytes))
placed_at st (inr d) b k bytes i e = absurd (let y : ◌≡◌ {A = Option Found} None (Some (b, k, bytes)) = sym (none_place st.parts d.none) ∙ e in cc)
placed_at st (inl y) b k bytes i e =
    let f : ◌≡◌ {A = Option Found} (Some (y.part.dba, y.part.slot, y.part.new.bytes)) (Some (b, k, bytes)) = sym (holder_place y.part st.parts y.holder) ∙ e in
    let p : y.part.dba ≡ b = ap block_of_found f in
    let q : y.part.slot ≡ k = ap slot_of_found f in
    let r : y.part.new.bytes ≡ bytes = ap bytes_of_found f in
    let h = holder_at y.part st.parts i y.holder in
    let at : (is_named st.parts y.part.dba y.part.slot ≡ true) × (row_in (placed_in (written st.parts) y.part.dba y.part.slot i) ≡ Some (st.row, y.part.new.bytes)) = (h.0, ap row_in h.1 ∙ keeps_row st y) in
    subst (λ z. (is_named st.parts b k ≡ true) × (row_in (placed_in (written st.parts) b k i) ≡ Some (st.row, z))) r
    (subst (λ z. (is_named st.parts b z ≡ true) × (row_in (placed_in (written st.parts) b z i) ≡ Some (st.row, y.part.new.bytes))) q
    (subst (λ z. (is_named st.parts z y.part.slot ≡ true) × (row_in (placed_in (written st.parts) z y.part.slot i) ≡ Some (st.row, y.part.new.bytes))) p at))

told_of : (st : Step) → Keeps st ⊎ Deletes st → Told st
told_of st (inl y) = record {
  placed = λ bytes e. (y.part.dba, y.part.slot, holder_place y.part st.parts y.holder ∙ (let b : y.part.new.bytes ≡ bytes = same_bytes _ _ (sym (keeps_outcome st y) ∙ e) in λ j. Some (y.part.dba, y.part.slot, b j)));
  made = λ b k bytes e. keeps_outcome st y ∙ ap (λ (o : Option Found). Some (bytes_of_found o)) (sym (holder_place y.part st.parts y.holder) ∙ e);
}
  where
    same_bytes : (x y : List ℕ) → ◌≡◌ {A = Option (List ℕ)} (Some x) (Some y) → x ≡ y
    same_bytes x y e = cc
told_of st (inr d) = record {
  placed = λ bytes e. absurd (let x : ◌≡◌ {A = Option (List ℕ)} None (Some bytes) = sym (cond-true _ _ _ d.deleted) ∙ e in cc);
  made = λ b k bytes e. absurd (let y : ◌≡◌ {A = Option Found} None (Some (b, k, bytes)) = sym (none_place st.parts d.none) ∙ e in cc);
}

old_rows_of : (sh : Shape) (R : List Record) (st : Step) (ps : List RowPart) → Every (Replaces sh R st) ps → Every (λ (p : RowPart). (x : ℕ × List ℕ) → row_in p.old ≡ Some x → x.0 ≡ st.row) ps
old_rows_of sh R st [] h = tt
old_rows_of sh R st (p ∷ ps) h = (one h.0, old_rows_of sh R st ps h.1)
  where
    some_row : (i : Slot) (x : ℕ × List ℕ) → row_in i ≡ Some x → (holds_row i.kind ≡ true) × (i.row ≡ x.0)
    some_row i x e = elim (cases_Bool (holds_row i.kind)) [
      | inl y ↦ (y, (pair_is i.row x.0 i.bytes x.1 (sym (cond-true _ _ _ y) ∙ e)).0)
      | inr n ↦ absurd (let z : ◌≡◌ {A = Option (ℕ × List ℕ)} None (Some x) = sym (cond-false _ _ _ n) ∙ e in cc)
    ]

    one : Replaces sh R st p → (x : ℕ × List ℕ) → row_in p.old ≡ Some x → x.0 ≡ st.row
    one (inl y) x e = sym (some_row p.old x e).1 ∙ y.1
    one (inr z) x e = absurd (true≢false (sym (some_row p.old x e).0 ∙ row_of_empty p.old.kind z.0))

covers_of : (sh : Shape) (R : List Record) (st last : Step) (b k : ℕ) (bytes : List ℕ) → Whole sh R → StepShape sh R st → newest_on (standing R) st.row ≡ Some last → place_of last.parts ≡ Some (b, k, bytes) → is_named st.parts b k ≡ true
covers_of sh R st last b k bytes w f e p = elim f.origin [
  | inl n ↦ absurd (new_row_none R st.row last w.objects n.2 e)
  | inr o ↦
      let q : ◌≡◌ {A = Option Found} (Some (o.source.block, o.source.slot, (image R o.source.block o.source.slot).bytes)) (Some (b, k, bytes)) = sym (last_place sh R st last w o.source e) ∙ p in
      subst (λ z. is_named st.parts z k ≡ true) (ap block_of_found q) (subst (λ z. is_named st.parts o.source.block z ≡ true) (ap slot_of_found q) o.source.named)
]

row_obj_is : (sh : Shape) (R : List Record) (st last : Step) → Whole sh R → Segments sh R → StepShape sh R st → newest_on (standing R) st.row ≡ Some last → last.obj ≡ st.obj
row_obj_is sh R st last w s f e = elim f.origin [
  | inl n ↦ absurd (new_row_none R st.row last w.objects n.2 e)
  | inr o ↦
      let q = newest_of_row (λ (z : Step). RowOf R z.obj z.row) (standing R) st.row last e w.objects in
      sym q.0.0 ∙ ap (row_table R) q.1 ∙ (old_table sh R st w s o).0
]

kept_of : (sh : Shape) (R : List Record) (st : Step) (m : ℕ) → Whole sh R → Segments sh R → Basics R st → StepShape sh R st → st.by ≡ At m → MoveKeeps R st m
kept_of sh R st m w s b f e = elim f.origin [
  | inl n ↦ absurd (let x : By n.0 ≡ At m = sym n.1 ∙ e in cc)
  | inr o ↦
      let n = source_newest sh R st w o.source in
      let k = o.kept m e in
      let told = (newest_of_row Told (standing R) st.row n.0 n.1 (rows sh R w.fit).told).0 in
      record {
        number = b.number m e;
        last = n.0;
        newest = n.1;
        obj = row_obj_is sh R st n.0 w s f n.1;
        same = keeps_outcome st k ∙ ap Some ((o.moved m e).1 k) ∙ sym (told.made o.source.block o.source.slot (image R o.source.block o.source.slot).bytes n.2);
      }
]

row_lock : (sh : Shape) (R : List Record) (st : Step) → Whole sh R → StepShape sh R st → Every (λ (s : Step). s.row ≡ st.row → MayOver (is_active R) st.by s.by) (standing R)
row_lock sh R st w f = lock_over (is_active R) st.by st.row (standing R) (ready sh R w.fit).lock (λ last e. row_free sh R st last w f e)

pub shape_fits : (sh : Shape) (R : List Record) (st : Step) → AreAllowed sh R → Whole sh R → Segments sh R → Basics R st → StepShape sh R st → StepFits R st
shape_fits sh R st h w s b f = record {
  begun = begun_by sh R st h b;
  old = f.old;
  old_rows = old_rows_of sh R st st.parts f.replaces;
  new_rows = new_rows st f.outcome;
  place = placed_at st f.outcome;
  covers = λ last b k bytes e p. covers_of sh R st last b k bytes w f e p;
  row_free = λ last e. row_free sh R st last w f e;
  slots_free = λ b k n. let p = named_part R (Replaces sh R st) st.parts b k f.replaces f.old n in part_free sh R st p.part b k w.links (row_lock sh R st w f) p.fact p.old;
  live = b.live;
  kept = λ m e. kept_of sh R st m w s b f e;
  obj = λ last e. row_obj_is sh R st last w s f e;
  told = told_of st f.outcome;
  fresh = fresh R st.undo st.parts w.undo b.undo;
}

pub shape_links : (sh : Shape) (R : List Record) (st : Step) → Whole sh R → StepShape sh R st → LinksFit R (Adds st)
shape_links sh R st w f = (f.old, images_of sh R st 0 st.parts w.links (row_lock sh R st w f) f.puts f.replaces f.old)

-- the table of the row after the step
pub step_table : (sh : Shape) (R : List Record) (st : Step) → Whole sh R → Segments sh R → OldRow sh R st → RowOf R st.obj st.row
step_table sh R st w s o = old_table sh R st w s o
