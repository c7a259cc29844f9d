-- The shape of a step: what its parts replace, what they put, and from where the row comes.
use Rattle.std.proofs.Common.{◌≡◌, ◌⊎◌, ℕ, suc, Bool, true, false, cond, ◌||◌, eqb, ltb, List, [], ◌∷◌, length, get_or, Option, Some, None, refl, sym, ◌∙◌, ap, ap₂, subst, inl, inr, eqb-true, true≢false, eq-eqb, ltb-true, ltb-false}
use Rattle.seg_words.proofs.Lemmas.{cond-true, cond-false, cases_Bool, and_parts, and_from, or_cases, or_left, or_right, get_or_past, passes_at_first}
use Rattle.seg_words.specs.Types.{Shape, Kind, Empty, Row, Head, Body, Slot, By, At, new_slot, is_empty, writer_has_ended, next_room, is_reusable, position_or_len}
use Rattle.redo_model.specs.Records.{Record, RowPart}
use Rattle.redo_model.specs.Model.{Step, written, part_addr, commit_count, row_count, is_active, ended_in, standing, newest_on, holds_row, row_bytes, view, is_place, placed_in, image, row_in, slots_of, data_blocks, is_formatted, high_mark, IsRowBlock, IsTable, next_slot}
use Rattle.redo_laws.proofs.lists.Every.{Every}
use Rattle.redo_laws.proofs.steps.OnTop.{is_named}
use Rattle.redo_laws.proofs.steps.Facts.{StatesOld, place_of, MayOver}
use Rattle.redo_model.proofs.Bridge.{image_is}
use Rattle.redo_laws.specs.Among.{is_in}
use Rattle.redo_laws.proofs.space.Places.{in_contains, in_take, IsNumber, Segments, a_table}

-- a formatted block of an extent of the table
abbrev pub Present : Shape → List Record → ℕ → ℕ → Type 0
Present sh R o b = IsNumber o × (is_in b (data_blocks sh R o) ≡ true) × (is_formatted sh R b ≡ true)

pub row_block : (sh : Shape) (R : List Record) (o b : ℕ) → Segments sh R → IsTable R o → IsRowBlock sh R o b → Present sh R o b
row_block sh R o b s t h = (a_table sh R o s t, in_take b (high_mark R o) (data_blocks sh R o) (in_contains _ b h.here.0 h.here.1 h.here.2), h.formatted)

-- what a part replaces: an image of row n, or an Empty slot of an ended writer in a block of the table
abbrev pub Replaces : Shape → List Record → Step → RowPart → Type 0
Replaces sh R st p = ((is_empty p.old.kind ≡ false) × (p.old.row ≡ st.row)) ⊎ ((is_empty p.old.kind ≡ true) × (writer_has_ended (ended_in R) p.old.writer ≡ true) × Present sh R st.obj p.dba)

-- what a part puts
pub record Puts (R : List Record) (st : Step) (i : ℕ) (p : RowPart) : Type 0 where
  pub undo : p.new.undo ≡ Some (part_addr st.undo i)
  pub writer : p.new.writer ≡ st.by
  pub row : is_empty p.new.kind ≡ false → p.new.row ≡ st.row
  pub room : (u : ℕ) → st.by ≡ By u → p.new.room ≡ next_room (ended_in R) p.old (length p.new.bytes)
  pub room_at : (m : ℕ) → st.by ≡ At m → p.new.room ≡ length p.new.bytes
  pub none : is_empty p.new.kind ≡ true → p.new.bytes ≡ []

abbrev pub AllPut : List Record → Step → ℕ → List RowPart → Type 0
AllPut R st i [] = Unit {0}
AllPut R st i (p ∷ ps) = Puts R st i p × AllPut R st (suc i) ps

-- none of the parts puts a row
abbrev pub NoneHolds : List RowPart → Type 0
NoneHolds ps = Every (λ (q : RowPart). holds_row q.new.kind ≡ false) ps

-- p is the only one of the parts that puts a row, and the first that names its slot
abbrev pub IsHolder : RowPart → List RowPart → Type 0
IsHolder p [] = ⊥
IsHolder p (q ∷ ps) = ((q ≡ p) × (holds_row q.new.kind ≡ true) × NoneHolds ps) ⊎ ((holds_row q.new.kind ≡ false) × (is_place q.dba q.slot p.dba p.slot ≡ false) × IsHolder p ps)

pub record Keeps (st : Step) : Type 0 where
  pub part : RowPart
  pub holder : IsHolder part st.parts
  pub row : part.new.row ≡ st.row
  pub not_deleted : st.deletes ≡ false

pub record Deletes (st : Step) : Type 0 where
  pub none : NoneHolds st.parts
  pub deleted : st.deletes ≡ true

-- the slot in which the row stands before the step
pub record Source (R : List Record) (st : Step) : Type 0 where
  pub block : ℕ
  pub slot : ℕ
  pub holds : holds_row (image R block slot).kind ≡ true
  pub row : (image R block slot).row ≡ st.row
  pub named : is_named st.parts block slot ≡ true

-- why the step is of its table
pub record Viewed (R : List Record) (st : Step) : Type 0 where
  pub txn : ℕ
  pub active : is_active R txn ≡ true
  pub was : List ℕ
  pub there : view R st.obj (commit_count R) txn st.row ≡ Some was

pub record StandsIn (sh : Shape) (R : List Record) (st : Step) : Type 0 where
  pub block : ℕ
  pub slot : ℕ
  pub present : Present sh R st.obj block
  pub holds : is_empty (image R block slot).kind ≡ false
  pub row : (image R block slot).row ≡ st.row

-- a row that a transaction changes, or that moves
pub record OldRow (sh : Shape) (R : List Record) (st : Step) : Type 0 where
  pub source : Source R st
  pub reason : Viewed R st ⊎ StandsIn sh R st
  pub moved : (m : ℕ) → st.by ≡ At m → (writer_has_ended (ended_in R) (image R source.block source.slot).writer ≡ true) × ((k : Keeps st) → k.part.new.bytes ≡ (image R source.block source.slot).bytes)
  pub kept : (m : ℕ) → st.by ≡ At m → Keeps st
  pub free : (u : ℕ) → st.by ≡ By u → (last : Step) → newest_on (standing R) st.row ≡ Some last → MayOver (is_active R) st.by last.by

pub record StepShape (sh : Shape) (R : List Record) (st : Step) : Type 0 where
  pub old : StatesOld R st.parts
  pub puts : AllPut R st 0 st.parts
  pub replaces : Every (Replaces sh R st) st.parts
  pub outcome : Keeps st ⊎ Deletes st
  pub origin : ((u : ℕ) × (st.by ≡ By u) × (st.row ≡ suc (row_count R))) ⊎ OldRow sh R st

-- holders

pub holder_place : (p : RowPart) (ps : List RowPart) → IsHolder p ps → place_of ps ≡ Some (p.dba, p.slot, p.new.bytes)
holder_place p [] h = absurd h
holder_place p (q ∷ ps) h =
    elim h [
      | inl y ↦ cond-true _ _ _ y.1 ∙ ap (λ (x : RowPart). Some (x.dba, x.slot, x.new.bytes)) y.0
      | inr z ↦ cond-false _ _ _ z.0 ∙ holder_place p ps z.2
    ]

pub holder_bytes : (p : RowPart) (ps : List RowPart) → IsHolder p ps → row_bytes ps ≡ p.new.bytes
holder_bytes p [] h = absurd h
holder_bytes p (q ∷ ps) h =
    elim h [
      | inl y ↦ cond-true _ _ _ y.1 ∙ ap (λ (x : RowPart). x.new.bytes) y.0
      | inr z ↦ cond-false _ _ _ z.0 ∙ holder_bytes p ps z.2
    ]

pub holder_holds : (p : RowPart) (ps : List RowPart) → IsHolder p ps → holds_row p.new.kind ≡ true
holder_holds p [] h = absurd h
holder_holds p (q ∷ ps) h = elim h [ inl y ↦ ap (λ (x : RowPart). holds_row x.new.kind) (sym y.0) ∙ y.1 | inr z ↦ holder_holds p ps z.2 ]

no_row : (i : Slot) (x : ℕ × List ℕ) → holds_row i.kind ≡ false → row_in i ≡ Some x → ⊥
no_row i x f e = (let y : ◌≡◌ {A = Option (ℕ × List ℕ)} None (Some x) = sym (cond-false _ _ _ f) ∙ e in cc)

pub none_new : (ps : List RowPart) (b k : ℕ) (i : Slot) (x : ℕ × List ℕ) → NoneHolds ps → is_named ps b k ≡ true → row_in (placed_in (written ps) b k i) ≡ Some x → ⊥
none_new [] b k i x n h e = true≢false (sym h)
none_new (p ∷ ps) b k i x n h e =
    (elim (is_place p.dba p.slot b k) as (λ v. (v || is_named ps b k) ≡ true → row_in (cond v p.new (placed_in (written ps) b k i)) ≡ Some x → ⊥) [
      | true ↦ λ _ f. no_row p.new x n.0 f
      | false ↦ λ g f. none_new ps b k i x n.1 g f
    ]) h e

pub none_place : (ps : List RowPart) → NoneHolds ps → place_of ps ≡ None
none_place [] n = refl
none_place (p ∷ ps) n = cond-false _ _ _ n.0 ∙ none_place ps n.1

-- the row that a named slot gets is the holder's
pub record FromHolder (p : RowPart) (b k : ℕ) (x : ℕ × List ℕ) : Type 0 where
  pub block : p.dba ≡ b
  pub slot : p.slot ≡ k
  pub row : row_in p.new ≡ Some x

pub holder_new : (p : RowPart) (ps : List RowPart) (b k : ℕ) (i : Slot) (x : ℕ × List ℕ) → IsHolder p ps → is_named ps b k ≡ true → row_in (placed_in (written ps) b k i) ≡ Some x → FromHolder p b k x
holder_new p [] b k i x h n e = absurd h
holder_new p (q ∷ ps) b k i x h n e =
    (elim (is_place q.dba q.slot b k) as (λ v. is_place q.dba q.slot b k ≡ v → (v || is_named ps b k) ≡ true → row_in (cond v q.new (placed_in (written ps) b k i)) ≡ Some x → FromHolder p b k x) [
      | true ↦ λ y m f. elim h [
        | inl z ↦ let w = and_parts (eqb q.dba b) (eqb q.slot k) y in subst (λ (r : RowPart). FromHolder r b k x) z.0 (record { block = eqb-true q.dba b w.0; slot = eqb-true q.slot k w.1; row = f })
        | inr z ↦ absurd (no_row q.new x z.0 f)
      ]
      | false ↦ λ y m f. elim h [
        | inl z ↦ absurd (none_new ps b k i x z.2 m f)
        | inr z ↦ holder_new p ps b k i x z.2 m f
      ]
    ]) refl n e

pub holder_at : (p : RowPart) (ps : List RowPart) (i : Slot) → IsHolder p ps → (is_named ps p.dba p.slot ≡ true) × (placed_in (written ps) p.dba p.slot i ≡ p.new)
holder_at p [] i h = absurd h
holder_at p (q ∷ ps) i h =
    elim h [
      | inl z ↦ subst (λ (r : RowPart). (is_named (q ∷ ps) r.dba r.slot ≡ true) × (placed_in (written (q ∷ ps)) r.dba r.slot i ≡ r.new)) z.0
          (let y : is_place q.dba q.slot q.dba q.slot ≡ true = and_from _ _ (eq-eqb q.dba q.dba refl) (eq-eqb q.slot q.slot refl) in (or_left _ _ y, cond-true _ _ _ y))
      | inr z ↦ let r = holder_at p ps i z.2 in (or_right (is_place q.dba q.slot p.dba p.slot) _ r.0, cond-false _ _ _ z.1 ∙ r.1)
    ]

-- a named slot is one of the parts'
pub record NamedPart (R : List Record) (P : RowPart → Type 0) (b k : ℕ) : Type 0 where
  pub part : RowPart
  pub fact : P part
  pub block : part.dba ≡ b
  pub slot : part.slot ≡ k
  pub old : part.old ≡ image R b k

pub named_part : (R : List Record) (P : RowPart → Type 0) (ps : List RowPart) (b k : ℕ) → Every P ps → StatesOld R ps → is_named ps b k ≡ true → NamedPart R P b k
named_part R P [] b k f o h = absurd (true≢false (sym h))
named_part R P (p ∷ ps) b k f o h =
    elim (cases_Bool (is_place p.dba p.slot b k)) [
      | inl y ↦ let q = and_parts (eqb p.dba b) (eqb p.slot k) y in
          record { part = p; fact = f.0; block = eqb-true p.dba b q.0; slot = eqb-true p.slot k q.1; old = o.0 ∙ ap₂ (image R) (eqb-true p.dba b q.0) (eqb-true p.slot k q.1) }
      | inr n ↦ named_part R P ps b k f.1 o.1 (elim (or_cases (is_place p.dba p.slot b k) (is_named ps b k) h) [ inl y ↦ absurd (true≢false (sym y ∙ n)) | inr z ↦ z ])
    ]

-- the slot that a new row takes is Empty, and its writer has ended

default_passes : (p : Slot → Bool) (ss : List Slot) (d : Slot) → p d ≡ true → p (get_or ss (position_or_len p ss) d) ≡ true
default_passes p ss d h =
    elim (cases_Bool (ltb (position_or_len p ss) (length ss))) [
      | inl y ↦ passes_at_first p ss d (ltb-true _ _ y)
      | inr f ↦ ap p (get_or_past ss (position_or_len p ss) d (ltb-false _ _ f)) ∙ h
    ]

pub target_reusable : (R : List Record) (b : ℕ) → is_reusable (ended_in R) (image R b (next_slot R b)) ≡ true
target_reusable R b = ap (is_reusable (ended_in R)) (sym (image_is R b (next_slot R b))) ∙ default_passes (is_reusable (ended_in R)) (slots_of R b) new_slot refl

pub empty_of : (k : Kind) → holds_row k ≡ true → is_empty k ≡ false
empty_of Empty h = absurd (true≢false (sym h))
empty_of Row h = refl
empty_of Head h = absurd (true≢false (sym h))
empty_of Body h = refl

pub row_of_empty : (k : Kind) → is_empty k ≡ true → holds_row k ≡ false
row_of_empty Empty h = refl
row_of_empty Row h = absurd (true≢false (sym h))
row_of_empty Head h = absurd (true≢false (sym h))
row_of_empty Body h = absurd (true≢false (sym h))
