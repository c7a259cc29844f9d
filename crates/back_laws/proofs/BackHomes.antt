-- The blocks of an active transaction's records are row blocks of their table, and show their row.
use Rattle.std.proofs.Common.{◌≡◌, ℕ, suc, ◌≤◌, Bool, true, false, eqb, List, [], ◌∷◌, Option, Some, None, refl, sym, ◌∙◌, ap, subst, arith, inl, inr, le_trans, true≢false, eqb-true, eq-eqb}
use Rattle.seg_words.proofs.Lemmas.{cases_Bool, cond-true, cond-false}
use Rattle.seg_words.specs.Types.{Shape, Slot, UndoAddr, Writer, By, At, is_empty}
use Rattle.redo_model.specs.Records.{Record, Table, Extend, Lower, Insert, Update, Migrate, Return, Delete, Move, RowPart, RowBody}
use Rattle.redo_model.specs.Model.{Step, Effect, effect_of, row_step, move_step, txn_count, row_count, is_active, is_by, is_addr, standing, standing_steps, newest_of, newest_on, holds_row, image, IsTable, IsRowBlock, data_blocks, table_count, Made, without, makers, row_in, InsertAllowed, MigrateAllowed, DeleteAllowed, IsKindAllowed, AreAllowed}
use Rattle.redo_model.specs.Effects.{Still, Formats, Adds, TakesBack, Cleans}
use Rattle.redo_model.specs.AllowedRows.{migrates_plain, migrates_again, deletes_plain, deletes_migrated}
use Rattle.redo_laws.specs.Among.{is_in, IsOneOf}
use Rattle.redo_laws.specs.Economy.{EachStep}
use Rattle.redo_laws.proofs.lists.Among.{one_has, each_one, each_from}
use Rattle.redo_laws.proofs.steps.After.{records_name_tables}
use Rattle.redo_laws.proofs.allowed.AllKinds.{RecordShape, shape_of}
use Rattle.redo_laws.proofs.lists.Every.{Every, every-map, every-filter}
use Rattle.redo_laws.proofs.steps.OnTop.{is_named, addr_self, OnTop, head_named}
use Rattle.redo_laws.proofs.steps.Facts.{place_of, located, HeadSettled, StatesOld, MayOver}
use Rattle.redo_laws.proofs.spread.Fitting.{Whole, all, now_shown, step_table}
use Rattle.redo_laws.proofs.steps.Held.{own, own_newest, effect_held, Distinct}
use Rattle.redo_laws.proofs.homes.Homes.{RowOf}
use Rattle.redo_laws.proofs.numbers.Known.{turn}
use Rattle.redo_laws.proofs.links.Links.{StandsOn, Linked}
use Rattle.redo_laws.proofs.space.Places.{IsNumber, Segments, segments, same_table, a_table, extend_data, extend_out, lower_data}
use Rattle.redo_laws.proofs.allowed.Shapes.{Present, Replaces, StepShape, empty_of}
use Rattle.redo_laws.proofs.spread.Spread.{good, by_of, located_newest}
use Rattle.redo_laws.proofs.spread.SpreadLaw.{present_block}
use Rattle.redo_laws.proofs.spread.Views.{RowLock, ready}
use Rattle.redo_laws.proofs.spread.Whole.{whole, record_fits}
use Rattle.back_laws.specs.Backs.{EachPart, OfTable, StepsAreOfTables, StepHome, StepsAtHome, FirstShows, NewestShows}
use Rattle.back_laws.proofs.Entered.{one_named, part_named, all_own, head_by, begun_one}

-- the table of a data block

data_before : (sh : Shape) (R : List Record) (r : Record) (o p b : ℕ) → IsKindAllowed sh R r → Segments sh R → IsNumber o → IsNumber p → is_in b (data_blocks sh R o) ≡ true → is_in b (data_blocks sh (r ∷ R) p) ≡ true → p ≡ o
data_before sh R (Extend e) o p b a s n m h k = elim (extend_data sh R e p b k) [
  | inl y ↦ same_table sh R p o b s m n y h
  | inr z ↦ absurd (true≢false (sym z ∙ extend_out sh R e a o b n h))
]
data_before sh R (Lower l) o p b a s n m h k = same_table sh R p o b s m n (lower_data sh R l p b k) h
data_before sh R _ o p b a s n m h k = same_table sh R p o b s m n k h

-- a block with a standing part of an active transaction is of a table
live_home : (sh : Shape) (R : List Record) (st : Step) (t : ℕ) (p : RowPart) → Whole sh R → IsOneOf st (standing R) → st.by ≡ By t → is_active R t ≡ true → IsOneOf p st.parts → (o : ℕ) × Present sh R o p.dba
live_home sh R st t p w m by on q =
    let g = (good sh R w.fit).held in
    let top = head_by (own t (standing R)) t p.dba p.slot (makers R) (all_own t (standing R)) (g.top t on) (one_named (standing R) t p.dba p.slot st m by (part_named st.parts p q)) in
    elim (w.homes p.dba) [
      | inl l ↦ (l.obj, l.here)
      | inr d ↦ absurd (true≢false (sym on ∙ (subst (HeadSettled (is_active R)) top.list (d.vacant p.slot).settled) t top.by_is))
    ]

-- the blocks of a new step

block_of_old : (sh : Shape) (R : List Record) (st : Step) (p : RowPart) → Whole sh R → RowOf R st.obj st.row → is_empty p.old.kind ≡ false → p.old.row ≡ st.row → p.old ≡ image R p.dba p.slot → Present sh R st.obj p.dba
block_of_old sh R st p w of e r o =
    let full : is_empty (image R p.dba p.slot).kind ≡ false = ap (λ (i : Slot). is_empty i.kind) (sym o) ∙ e in
    elim (w.homes p.dba) [
      | inl l ↦
          let row : RowOf R l.obj st.row = subst (RowOf R l.obj) (ap (λ (i : Slot). i.row) (sym o) ∙ r) ((l.rows p.slot).0 full) in
          subst (λ x. Present sh R x p.dba) (sym row.0 ∙ of.0) l.here
      | inr d ↦ absurd (true≢false (sym (d.vacant p.slot).empty ∙ full))
    ]

row_in_table : (sh : Shape) (R : List Record) (st : Step) (b k : ℕ) → Whole sh R → Segments sh R → StepShape sh R st → is_empty (image R b k).kind ≡ false → (image R b k).row ≡ st.row → RowOf R st.obj st.row
row_in_table sh R st b k w s f e r = elim f.origin [
  | inl n ↦ elim (w.homes b) [
    | inl l ↦ (let x : RowOf R l.obj st.row = subst (RowOf R l.obj) r ((l.rows k).0 e) in let y : st.row ≤ row_count R = x.1 in let z : st.row ≡ suc (row_count R) = n.2 in absurd (omega (arith, y, z)))
    | inr d ↦ absurd (true≢false (sym (d.vacant k).empty ∙ e))
  ]
  | inr o ↦ step_table sh R st w s o
]

new_blocks : (sh : Shape) (R : List Record) (st : Step) (ps : List RowPart) → Whole sh R → Segments sh R → StepShape sh R st → StatesOld R ps → Every (Replaces sh R st) ps → Every (λ (p : RowPart). Present sh R st.obj p.dba) ps
new_blocks sh R st [] w s f o h = tt
new_blocks sh R st (p ∷ ps) w s f o h = (
  elim h.0 [
    | inl y ↦ block_of_old sh R st p w (row_in_table sh R st p.dba p.slot w s f (ap (λ (i : Slot). is_empty i.kind) (sym o.0) ∙ y.0) (ap (λ (i : Slot). i.row) (sym o.0) ∙ y.1)) y.0 y.1 o.0
    | inr z ↦ z.2
  ],
  new_blocks sh R st ps w s f o.1 h.1,
)

-- what is kept of each standing record of an active transaction

abbrev InTable : Shape → List Record → Step → Type 0
InTable sh R st = (t : ℕ) → st.by ≡ By t → is_active R t ≡ true → IsTable R st.obj × Every (λ (p : RowPart). is_in p.dba (data_blocks sh R st.obj) ≡ true) st.parts

abbrev EffectIn : Shape → List Record → Effect → Type 0
EffectIn sh R (Adds st) = IsTable R st.obj × Every (λ (p : RowPart). Present sh R st.obj p.dba) st.parts
EffectIn sh R _ = Unit {0}

shape_in : (sh : Shape) (R : List Record) (st : Step) → Whole sh R → Segments sh R → IsTable R st.obj → StepShape sh R st → EffectIn sh R (Adds st)
shape_in sh R st w s t f = (t, new_blocks sh R st st.parts w s f f.old f.replaces)

effect_in : (sh : Shape) (R : List Record) (r : Record) → AreAllowed sh (r ∷ R) → Whole sh R → Segments sh R → RecordShape sh R r → EffectIn sh R (effect_of r)
effect_in sh R (Insert w) h u s x = shape_in sh R (row_step w false) u s (records_name_tables sh R (Insert w) w.obj h refl) x
effect_in sh R (Update w) h u s x = shape_in sh R (row_step w false) u s (records_name_tables sh R (Update w) w.obj h refl) x.shape
effect_in sh R (Migrate w) h u s x = shape_in sh R (row_step w false) u s (records_name_tables sh R (Migrate w) w.obj h refl) x.shape
effect_in sh R (Return w) h u s x = shape_in sh R (row_step w false) u s (records_name_tables sh R (Return w) w.obj h refl) x.shape
effect_in sh R (Delete w) h u s x = shape_in sh R (row_step w true) u s (records_name_tables sh R (Delete w) w.obj h refl) x.shape
effect_in sh R (Move m) h u s x = shape_in sh R (move_step m) u s (records_name_tables sh R (Move m) m.obj h refl) x.shape
effect_in sh R _ h u s x = tt

tables_grow : (R : List Record) (r : Record) → table_count R ≤ table_count (r ∷ R)
tables_grow R (Table t) = omega arith
tables_grow R _ = omega arith

table_stays : (R : List Record) (r : Record) (o : ℕ) → IsTable R o → IsTable (r ∷ R) o
table_stays R r o t = record { least = t.least; most = le_trans t.most (tables_grow R r) }

-- in the list before, of the steps after an effect
before_in : (sh : Shape) (R : List Record) (ef : Effect) → EffectIn sh R ef → Every (InTable sh R) (standing R) → Every (InTable sh R) (standing_steps ef (standing R))
before_in sh R Still x h = h
before_in sh R (Formats d) x h = h
before_in sh R (Adds st) x h = ((λ t by on. (x.0, every-map _ _ st.parts (λ p y. y.1) x.1)), h)
before_in sh R (TakesBack k) x h = every-filter _ _ (standing R) h
before_in sh R (Cleans d cs) x h = h

all_in : (sh : Shape) (R : List Record) → AreAllowed sh R → Every (InTable sh R) (standing R)
all_in sh [] h = tt
all_in sh (r ∷ R) h =
    let w = whole sh R h.0 in
    let v = whole sh (r ∷ R) h in
    let s = segments sh R h.0 in
    let a = h.1.kind in
    let after = effect_held R (effect_of r) (record_fits sh R r h).effect (good sh R w.fit).held in
    let t = turn sh R r a in
    each_from _ _ (standing (r ∷ R)) (λ st m y u by on. elim (t.live u on) [
      | inr new ↦ absurd (let l = begun_one (txn_count R) (standing (r ∷ R)) st u after.begun m by in omega (arith, l, new))
      | inl was ↦
          let k = y u by was in (
            table_stays R r st.obj k.0,
            each_one _ st.parts (λ p q.
                let here = live_home sh (r ∷ R) st u p v m by on q in
                let same : here.0 ≡ st.obj = data_before sh R r st.obj here.0 p.dba a s (a_table sh R st.obj s k.0) here.1.0 (one_has _ p st.parts q k.1) here.1.1 in
                subst (λ x. is_in p.dba (data_blocks sh (r ∷ R) x) ≡ true) same here.1.1),
          )
    ]) (before_in sh R (effect_of r) (effect_in sh R r h w s (shape_of sh R r s a)) (all_in sh R h.0))

to_each : (P : RowPart → Type 0) (ps : List RowPart) → Every P ps → EachPart P ps
to_each P [] h = tt
to_each P (p ∷ ps) h = (h.0, to_each P ps h.1)

to_steps : (P : Step → Type 0) (ss : List Step) → Every P ss → EachStep P ss
to_steps P [] h = tt
to_steps P (s ∷ ss) h = (h.0, to_steps P ss h.1)

pub steps_at_home : StepsAtHome
steps_at_home sh R h =
    let w = whole sh R h in
    let s = segments sh R h in
    to_steps (StepHome sh R) (standing R) (each_from (InTable sh R) (StepHome sh R) (standing R) (λ st m y u by on.
    let k = y u by on in
    record {
      table = k.0;
      blocks = to_each _ st.parts (each_one _ st.parts (λ p q.
          let here = live_home sh R st u p w m by on q in
          let same : here.0 ≡ st.obj = same_table sh R here.0 st.obj p.dba s here.1.0 (a_table sh R st.obj s k.0) here.1.1 (one_has _ p st.parts q k.1) in
          subst (λ x. IsRowBlock sh R x p.dba) same (present_block sh R here.0 p.dba s here.1)));
    }) (all_in sh R h))

pub steps_are_of_tables : StepsAreOfTables
steps_are_of_tables sh R h = to_steps (OfTable R) (standing R) (every-map _ _ (standing R) (λ st k. record { table = k.0; given = k.1 }) (whole sh R h).objects)

-- the first part of a step shows its row

abbrev FirstOld : ℕ → List RowPart → Type 0
FirstOld n [] = ⊥
FirstOld n (p ∷ ps) = holds_row p.new.kind ≡ false → p.old.row ≡ n

abbrev EffectFirst : Effect → Type 0
EffectFirst (Adds st) = (t : ℕ) → st.by ≡ By t → FirstOld st.row st.parts
EffectFirst _ = Unit {0}

first_insert : (sh : Shape) (R : List Record) (w : RowBody) → InsertAllowed sh R w → FirstOld w.row w.parts
first_insert sh R w a = subst (FirstOld w.row) (sym a.parts) (λ e. absurd (true≢false e))

first_migrate : (sh : Shape) (R : List Record) (w : RowBody) → MigrateAllowed sh R w → FirstOld w.row w.parts
first_migrate sh R w (migrates_plain a) = subst (FirstOld w.row) (sym a.parts) (λ e. a.plain.row)
first_migrate sh R w (migrates_again a) = subst (FirstOld w.row) (sym a.parts) (λ e. a.migrated.head_row)

first_delete : (sh : Shape) (R : List Record) (w : RowBody) → DeleteAllowed sh R w → FirstOld w.row w.parts
first_delete sh R w (deletes_plain a) = subst (FirstOld w.row) (sym a.parts) (λ e. a.plain.row)
first_delete sh R w (deletes_migrated a) = subst (FirstOld w.row) (sym a.parts) (λ e. a.migrated.head_row)

effect_first : (sh : Shape) (R : List Record) (r : Record) → IsKindAllowed sh R r → EffectFirst (effect_of r)
effect_first sh R (Insert w) a = λ t e. first_insert sh R w a
effect_first sh R (Update w) a = λ t e. subst (FirstOld w.row) (sym a.parts) (λ x. a.row)
effect_first sh R (Migrate w) a = λ t e. first_migrate sh R w a
effect_first sh R (Return w) a = λ t e. subst (FirstOld w.row) (sym a.parts) (λ x. a.migrated.head_row)
effect_first sh R (Delete w) a = λ t e. first_delete sh R w a
effect_first sh R (Move m) a = λ t e. absurd (let q : At m.number ≡ By t = e in cc)
effect_first sh R _ a = tt

abbrev StepFirst : Step → Type 0
StepFirst st = (t : ℕ) → st.by ≡ By t → FirstOld st.row st.parts

firsts_effect : (ef : Effect) (ss : List Step) → EffectFirst ef → Every StepFirst ss → Every StepFirst (standing_steps ef ss)
firsts_effect Still ss x h = h
firsts_effect (Formats d) ss x h = h
firsts_effect (Adds st) ss x h = (x, h)
firsts_effect (TakesBack k) ss x h = every-filter _ _ ss h
firsts_effect (Cleans d cs) ss x h = h

firsts : (sh : Shape) (R : List Record) → AreAllowed sh R → Every StepFirst (standing R)
firsts sh [] h = tt
firsts sh (r ∷ R) h = firsts_effect (effect_of r) (standing R) (effect_first sh R r h.1.kind) (firsts sh R h.0)

-- the newest step of an active transaction is the newest on its row

newest_one : (ss : List Step) (t : ℕ) (st : Step) → newest_of ss t ≡ Some st → IsOneOf st ss × (st.by ≡ By t)
newest_one [] t st e = absurd (let x : ◌≡◌ {A = Option Step} None (Some st) = e in cc)
newest_one (s ∷ ss) t st e = elim (cases_Bool (is_by s.by t)) [
  | inl y ↦ let z : ◌≡◌ {A = Option Step} (Some s) (Some st) = sym (cond-true _ _ _ y) ∙ e in let same : s ≡ st = cc in (inl same, ap (λ (x : Step). x.by) (sym same) ∙ by_of s.by t y)
  | inr f ↦ let r = newest_one ss t st (sym (cond-false _ _ _ f) ∙ e) in (inr r.0, r.1)
]

newest_row : (active : ℕ → Bool) (ss : List Step) (t : ℕ) (st : Step) → RowLock active ss → active t ≡ true → newest_of ss t ≡ Some st → newest_on ss st.row ≡ Some st
newest_row active [] t st l on e = absurd (let x : ◌≡◌ {A = Option Step} None (Some st) = e in cc)
newest_row active (s ∷ ss) t st l on e = elim (cases_Bool (is_by s.by t)) [
  | inl y ↦ let z : ◌≡◌ {A = Option Step} (Some s) (Some st) = sym (cond-true _ _ _ y) ∙ e in let same : s ≡ st = cc in cond-true _ _ _ (eq-eqb s.row st.row (ap (λ (x : Step). x.row) same)) ∙ ap (λ (x : Step). Some x) same
  | inr f ↦
      let g : newest_of ss t ≡ Some st = sym (cond-false _ _ _ f) ∙ e in
      let r = newest_one ss t st g in
      elim (cases_Bool (eqb s.row st.row)) [
        | inl y ↦
            let o : MayOver active s.by (By t) = subst (MayOver active s.by) r.1 (one_has (λ (x : Step). x.row ≡ s.row → MayOver active s.by x.by) st ss r.0 l.0 (sym (eqb-true s.row st.row y))) in
            absurd (true≢false (sym (ap (λ w. is_by w t) (o on) ∙ eq-eqb t t refl) ∙ f))
        | inr n ↦ cond-false _ _ _ n ∙ newest_row active ss t st l.1 on g
      ]
]

-- a step is told by its undo address
stands_row : (ss : List Step) (st : Step) (w : Writer) (a : UndoAddr) (n : ℕ) → Distinct ss → IsOneOf st ss → a ≡ st.undo → StandsOn ss w a n → st.row ≡ n
stands_row [] st w a n d m e h = absurd m
stands_row (s ∷ ss) st w a n d m e h = elim m [
  | inl x ↦ elim h [
    | inl y ↦ ap (λ (z : Step). z.row) (sym x) ∙ y.2
    | inr z ↦ absurd (clash ss s.undo w a n d.0 z (e ∙ ap (λ (z : Step). z.undo) (sym x)))
  ]
  | inr x ↦ elim h [
    | inl y ↦ absurd (true≢false (sym (addr_self s.undo) ∙ ap (λ z. is_addr z s.undo) (y.1 ∙ e) ∙ one_has (λ (z : Step). is_addr z.undo s.undo ≡ false) st ss x d.0))
    | inr z ↦ stands_row ss st w a n d.1 x e z
  ]
]
  where
    clash : (ss : List Step) (b : UndoAddr) (w : Writer) (a : UndoAddr) (n : ℕ) → Every (λ (z : Step). is_addr z.undo b ≡ false) ss → StandsOn ss w a n → a ≡ b → ⊥
    clash [] b w a n f h e = h
    clash (z ∷ zs) b w a n f h e = elim h [ inl y ↦ true≢false (sym (addr_self b) ∙ ap (λ x. is_addr x b) (sym (y.1 ∙ e)) ∙ f.0) | inr q ↦ clash zs b w a n f.1 q e ]

holds_in : (i : Slot) (x : ℕ × List ℕ) → row_in i ≡ Some x → (holds_row i.kind ≡ true) × (i.row ≡ x.0)
holds_in i x e = elim (cases_Bool (holds_row i.kind)) [
  | inl y ↦ (y, ap (λ (o : Option (ℕ × List ℕ)). elim o as (λ _. ℕ) [ None ↦ 0 | Some p ↦ p.0 ]) (sym (cond-true _ _ _ y) ∙ e))
  | inr n ↦ absurd (let z : ◌≡◌ {A = Option (ℕ × List ℕ)} None (Some x) = sym (cond-false _ _ _ n) ∙ e in cc)
]

-- an image that isn't Empty, made by a step, is of the step's row
linked_row : (active : ℕ → Bool) (n : ℕ) (ss : List Step) (st : Step) (i : Slot) (ms : List Made) (m : Made) (rest : List Made) → Linked active n ss i ms → ms ≡ m ∷ rest → m.undo ≡ st.undo → Distinct ss → IsOneOf st ss → is_empty i.kind ≡ false → st.row ≡ i.row
linked_row active n ss st i ms m rest h e u d o f =
    let x : Linked active n ss i (m ∷ rest) = subst (Linked active n ss i) e h in
    stands_row ss st m.by m.undo i.row d o u (x.0.row f)

first_shows : (sh : Shape) (R : List Record) (t : ℕ) (st : Step) (ps : List RowPart) → st.parts ≡ ps → AreAllowed sh R → is_active R t ≡ true → newest_of (standing R) t ≡ Some st → FirstOld st.row ps → FirstShows R st.row ps
first_shows sh R t st [] q h on e f = absurd f
first_shows sh R t st (p ∷ ps) q h on e f =
    let w = whole sh R h in
    let g = (good sh R w.fit).held in
    let one = newest_one (standing R) t st e in
    let o = own_newest (standing R) t st e in
    let top : OnTop (st ∷ o.0) (makers R) = subst (λ us. OnTop us (makers R)) o.1 (g.top t on) in
    let named : is_named st.parts p.dba p.slot ≡ true = ap (λ xs. is_named xs p.dba p.slot) q ∙ part_named (p ∷ ps) p (inl refl) in
    let head = head_named st 0 st.parts p.dba p.slot (without st.undo (makers R p.dba p.slot)) named in
    elim (cases_Bool (is_empty (image R p.dba p.slot).kind)) [
      | inr full ↦
          linked_row (is_active R) (txn_count R) (standing R) st (image R p.dba p.slot) (makers R p.dba p.slot) head.made (without st.undo (makers R p.dba p.slot)) (w.links p.dba p.slot) (top.0 p.dba p.slot ∙ head.list) head.undo_is g.distinct one.0 full
          ∙ sym (cond-false _ _ _ full)
      | inl bare ↦ elim (cases_Bool (holds_row p.new.kind)) [
        | inr bad ↦ sym (f bad) ∙ sym (cond-true _ _ _ bare)
        | inl held ↦
            let place : place_of st.parts ≡ Some (p.dba, p.slot, p.new.bytes) = ap place_of q ∙ cond-true _ _ _ held in
            let at : located all (standing R) st.row ≡ Some (p.dba, p.slot, p.new.bytes) = located_newest all (standing R) st.row st (newest_row (is_active R) (standing R) t st (ready sh R w.fit).lock on e) refl ∙ place in
            let now = holds_in (image R p.dba p.slot) (st.row, p.new.bytes) (now_shown sh R p.dba p.slot st.row p.new.bytes w.fit at) in
            absurd (true≢false (sym bare ∙ empty_of (image R p.dba p.slot).kind now.0))
      ]
    ]

pub newest_shows : NewestShows
newest_shows sh R t st h on e =
    let one = newest_one (standing R) t st e in
    first_shows sh R t st st.parts refl h on e (one_has StepFirst st (standing R) one.0 (firsts sh R h) t one.1)
