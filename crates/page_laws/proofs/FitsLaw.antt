-- An allowed record fits the row blocks that it names, and they are formatted.
use Rattle.std.proofs.Common.{◌≡◌, ℕ, true, false, ◌||◌, eqb, List, [], ◌∷◌, Option, Some, None, refl, sym, ◌∙◌, subst, inl, inr, true≢false, eqb-true}
use Rattle.seg_words.proofs.Lemmas.{or_cases}
use Rattle.seg_words.specs.Types.{Shape, Slot, Writer, By, At, Block, is_empty}
use Rattle.row_block.specs.Types.{CanPut, CanEnter}
use Rattle.redo_model.specs.Records.{Record, Insert, Update, Migrate, Return, Delete, Move, Back, Clean, RowPart, BackPart, BackRecord}
use Rattle.redo_model.specs.Model.{Step, Effect, effect_of, written, restored, row_step, move_step, is_active, standing, image, makers, without, place_all, enter_by, slots_of, entries_of, block_of, IsRowBlock, IsKindAllowed, AreAllowed}
use Rattle.redo_model.specs.Effects.{Still, Formats, Adds, TakesBack, Cleans}
use Rattle.redo_laws.specs.Among.{is_in, AreSome}
use Rattle.redo_laws.proofs.allowed.AllKinds.{OldShape, RecordShape, shape_of}
use Rattle.redo_laws.proofs.lists.Every.{Every, every-map}
use Rattle.redo_laws.proofs.steps.Facts.{StatesOld, BackFits, HeadSettled}
use Rattle.redo_laws.proofs.spread.Fitting.{Whole, step_table}
use Rattle.redo_laws.proofs.steps.Held.{own_newest, newest_is_by}
use Rattle.redo_laws.proofs.homes.Homes.{RowOf}
use Rattle.redo_laws.proofs.steps.OnTop.{is_named, head_named, OnTop}
use Rattle.redo_laws.proofs.space.Places.{Segments, segments}
use Rattle.redo_laws.proofs.room.RoomLaw.{each_named}
use Rattle.redo_laws.proofs.allowed.Shapes.{Replaces}
use Rattle.redo_laws.proofs.spread.Spread.{good}
use Rattle.redo_laws.proofs.spread.SpreadLaw.{present_block}
use Rattle.redo_laws.proofs.spread.Whole.{whole}
use Rattle.page_laws.specs.Fits.{blocks_of, back_blocks, rows_named, with_images, with_names, ImagesFit, EntryFits, NamesFit, WriterFits, EffectFits, StepsFitInTurn, NamedBlocksAreFormatted, PartsAreAtHome}
use Rattle.redo_laws.proofs.lists.Among.{one_has, all_some}
use Rattle.redo_laws.proofs.steps.ImageFacts.{each_taken}
use Rattle.page_laws.proofs.PartsLaw.{parts_fit_in_turn}
use Rattle.page_laws.proofs.BackLaw.{back_fit, back_parts_fit_in_turn}

-- in turn

no_names : (w : Writer) (ps : List RowPart) (b k : ℕ) (i : Slot) (x : Block) → CanPut (record { slots = place_all (written ps) b x.slots; entries = enter_by w [] b x.entries }) k i → CanPut (with_images (written ps) b x) k i
no_names (By t) ps b k i x h = h
no_names (At c) ps b k i x h = h

images_fit : (sh : Shape) (R : List Record) (r : Record) (st : Step) (ps : List RowPart) (b : ℕ) → AreAllowed sh (r ∷ R) → effect_of r ≡ Adds st → AreSome st.parts ps → ImagesFit (written ps) b (block_of R b)
images_fit sh R r st [] b h e i = tt
images_fit sh R r st (p ∷ ps) b h e i = (
  images_fit sh R r st ps b h e i.1,
  λ y. subst (λ d. CanPut (with_images (written ps) d (block_of R d)) p.slot p.new) (eqb-true p.dba b y)
      (no_names st.by ps p.dba p.slot p.new (block_of R p.dba) (parts_fit_in_turn sh R r st p ps [] h e i.0 i.1 tt).slot),
)

names_fit : (sh : Shape) (R : List Record) (r : Record) (st : Step) (t : ℕ) (ps : List RowPart) (b : ℕ) → AreAllowed sh (r ∷ R) → effect_of r ≡ Adds st → st.by ≡ By t → AreSome st.parts ps → NamesFit ps t b (with_images (written st.parts) b (block_of R b))
names_fit sh R r st t [] b h e by i = tt
names_fit sh R r st t (p ∷ ps) b h e by i = (
  names_fit sh R r st t ps b h e by i.1,
  λ y. subst (λ d. EntryFits p.entry (with_names ps t d (with_images (written st.parts) d (block_of R d)))) (eqb-true p.dba b y) (go p.entry refl),
)
  where
    go : (o : Option ℕ) → p.entry ≡ o → EntryFits o (with_names ps t p.dba (with_images (written st.parts) p.dba (block_of R p.dba)))
    go None f = tt
    go (Some n) f =
        subst (λ w. CanEnter (record { slots = place_all (written st.parts) p.dba (slots_of R p.dba); entries = enter_by w ps p.dba (entries_of R p.dba) }) n) by
        ((parts_fit_in_turn sh R r st p st.parts ps h e i.0 (all_some st.parts) i.1).entry t n by f)

writer_fits : (sh : Shape) (R : List Record) (r : Record) (st : Step) (w : Writer) (b : ℕ) → AreAllowed sh (r ∷ R) → effect_of r ≡ Adds st → st.by ≡ w → WriterFits w st.parts b (with_images (written st.parts) b (block_of R b))
writer_fits sh R r st (By t) b h e by = names_fit sh R r st t st.parts b h e by (all_some st.parts)
writer_fits sh R r st (At c) b h e by = tt

back_images : (sh : Shape) (R : List Record) (k : BackRecord) (ps : List BackPart) (b : ℕ) → AreAllowed sh (Back k ∷ R) → AreSome k.parts ps → ImagesFit (restored ps) b (block_of R b)
back_images sh R k [] b h i = tt
back_images sh R k (p ∷ ps) b h i = (
  back_images sh R k ps b h i.1,
  λ y. subst (λ d. CanPut (with_images (restored ps) d (block_of R d)) p.slot p.new) (eqb-true p.dba b y) (back_parts_fit_in_turn sh R k p ps h i.0 i.1),
)

-- a record that takes back is a Back
back_is : (sh : Shape) (R : List Record) (r : Record) (k : BackRecord) → effect_of r ≡ TakesBack k → AreAllowed sh (r ∷ R) → AreAllowed sh (Back k ∷ R)
back_is sh R (Back j) k e h = let same : j ≡ k = (let x : TakesBack j ≡ TakesBack k = e in cc) in subst (λ z. AreAllowed sh (Back z ∷ R)) same h
back_is sh R r k e h = absurd cc

one_block : (d b : ℕ) → (eqb d b || false) ≡ true → d ≡ b
one_block d b h = elim (or_cases (eqb d b) false h) [ inl y ↦ eqb-true d b y | inr z ↦ absurd (true≢false (sym z)) ]

effects_fit : (sh : Shape) (R : List Record) (r : Record) (e : Effect) (b : ℕ) → AreAllowed sh (r ∷ R) → effect_of r ≡ e → is_in b (rows_named e) ≡ true → EffectFits e b (block_of R b)
effects_fit sh R r Still b h f m = absurd (true≢false (sym m))
effects_fit sh R r (Formats d) b h f m = absurd (true≢false (sym m))
effects_fit sh R r (Adds st) b h f m = (images_fit sh R r st st.parts b h f (all_some st.parts), writer_fits sh R r st st.by b h f refl)
effects_fit sh R r (TakesBack k) b h f m = back_images sh R k k.parts b (back_is sh R r k f h) (all_some k.parts)
effects_fit sh R r (Cleans d cs) b h f m = one_block d b m

pub steps_fit_in_turn : StepsFitInTurn
steps_fit_in_turn sh R r b h m = effects_fit sh R r (effect_of r) b h refl m

-- homes

at_home : (sh : Shape) (R : List Record) (st : Step) (p : RowPart) → Whole sh R → Segments sh R → (is_empty p.old.kind ≡ false → RowOf R st.obj st.row) → p.old ≡ image R p.dba p.slot → Replaces sh R st p → IsRowBlock sh R st.obj p.dba
at_home sh R st p w s of o (inr z) = present_block sh R st.obj p.dba s z.2
at_home sh R st p w s of o (inl y) = elim (w.homes p.dba) [
  | inl l ↦
      let full : is_empty (image R p.dba p.slot).kind ≡ false = subst (λ (i : Slot). is_empty i.kind ≡ false) o y.0 in
      let row : (image R p.dba p.slot).row ≡ st.row = subst (λ (i : Slot). i.row ≡ st.row) o y.1 in
      let mine : RowOf R l.obj st.row = subst (RowOf R l.obj) row ((l.rows p.slot).0 full) in
      let same : l.obj ≡ st.obj = sym mine.0 ∙ (of y.0).0 in
      subst (λ x. IsRowBlock sh R x p.dba) same (present_block sh R l.obj p.dba s l.here)
  | inr d ↦ absurd (true≢false (sym (d.vacant p.slot).empty ∙ subst (λ (i : Slot). is_empty i.kind ≡ false) o y.0))
]

all_home : (sh : Shape) (R : List Record) (st : Step) (ps : List RowPart) → Whole sh R → Segments sh R → (RowOf R st.obj st.row) → StatesOld R ps → Every (Replaces sh R st) ps → Every (λ (p : RowPart). IsRowBlock sh R st.obj p.dba) ps
all_home sh R st [] w s of o x = tt
all_home sh R st (p ∷ ps) w s of o x = (at_home sh R st p w s (λ e. of) o.0 x.0, all_home sh R st ps w s of o.1 x.1)

abbrev HomeOfEffect : Shape → List Record → Effect → Type 0
HomeOfEffect sh R (Adds st) = Every (λ (p : RowPart). IsRowBlock sh R st.obj p.dba) st.parts
HomeOfEffect sh R _ = Unit {0}

old_home : (sh : Shape) (R : List Record) (st : Step) → Whole sh R → Segments sh R → OldShape sh R st → Every (λ (p : RowPart). IsRowBlock sh R st.obj p.dba) st.parts
old_home sh R st w s x = all_home sh R st st.parts w s (step_table sh R st w s x.old) x.shape.old x.shape.replaces

home_parts : (sh : Shape) (R : List Record) (r : Record) → Whole sh R → Segments sh R → IsKindAllowed sh R r → RecordShape sh R r → HomeOfEffect sh R (effect_of r)
home_parts sh R (Insert y) w s a x = subst (λ (ps : List RowPart). Every (λ (p : RowPart). IsRowBlock sh R y.obj p.dba) ps) (sym a.parts) (a.here, tt)
home_parts sh R (Update y) w s a x = old_home sh R (row_step y false) w s x
home_parts sh R (Migrate y) w s a x = old_home sh R (row_step y false) w s x
home_parts sh R (Return y) w s a x = old_home sh R (row_step y false) w s x
home_parts sh R (Delete y) w s a x = old_home sh R (row_step y true) w s x
home_parts sh R (Move y) w s a x = old_home sh R (move_step y) w s x
home_parts sh R _ w s a x = tt

pub step_home : (sh : Shape) (R : List Record) (r : Record) (st : Step) → AreAllowed sh (r ∷ R) → effect_of r ≡ Adds st → Every (λ (p : RowPart). IsRowBlock sh R st.obj p.dba) st.parts
step_home sh R r st h e =
    let s = segments sh R h.0 in
    subst (HomeOfEffect sh R) e (home_parts sh R r (whole sh R h.0) s h.1.kind (shape_of sh R r s h.1.kind))

-- a slot that an active transaction has written stands in a row block
abbrev pub SomeHome : Shape → List Record → ℕ → Type 0
SomeHome sh R b = (o : ℕ) × IsRowBlock sh R o b

named_home : (sh : Shape) (R : List Record) (k : BackRecord) (b n : ℕ) → AreAllowed sh R → (f : BackFits R k) → is_named f.step.parts b n ≡ true → SomeHome sh R b
named_home sh R k b n h f x =
    let w = whole sh R h in
    let st = f.step in
    let o = own_newest (standing R) k.txn st f.newest in
    let top : OnTop (st ∷ o.0) (makers R) = subst (λ us. OnTop us (makers R)) o.1 ((good sh R w.fit).held.top k.txn f.active) in
    let head = head_named st 0 st.parts b n (without st.undo (makers R b n)) x in
    let list : makers R b n ≡ head.made ∷ without st.undo (makers R b n) = top.0 b n ∙ head.list in
    elim (w.homes b) [
      | inl l ↦ (l.obj, present_block sh R l.obj b (segments sh R h) l.here)
      | inr d ↦
          let over : HeadSettled (is_active R) (head.made ∷ without st.undo (makers R b n)) = subst (HeadSettled (is_active R)) list (d.vacant n).settled in
          absurd (true≢false (sym f.active ∙ over k.txn (head.by_is ∙ newest_is_by (standing R) k.txn st f.newest)))
    ]

pub back_home : (sh : Shape) (R : List Record) (k : BackRecord) → AreAllowed sh (Back k ∷ R) → Every (λ (q : BackPart). SomeHome sh R q.dba) k.parts
back_home sh R k h =
    let f = back_fit sh R k h in
    subst (λ (qs : List BackPart). Every (λ (q : BackPart). SomeHome sh R q.dba) qs) (sym f.restores)
    (each_taken (λ d n i. SomeHome sh R d) f.step.parts (every-map (λ (p : RowPart). is_named f.step.parts p.dba p.slot ≡ true) _ f.step.parts (λ p x. named_home sh R k p.dba p.slot h.0 f x) (each_named f.step.parts)))

pub parts_are_at_home : PartsAreAtHome
parts_are_at_home sh R = record {
  step = λ r st p h e o. one_has (λ (q : RowPart). IsRowBlock sh R st.obj q.dba) p st.parts o (step_home sh R r st h e);
  back = λ k p h o. one_has (λ (q : BackPart). SomeHome sh R q.dba) p k.parts o (back_home sh R k h);
}

-- what is named is formatted

among_parts : (P : ℕ → Type 0) (ps : List RowPart) (b : ℕ) → Every (λ (p : RowPart). P p.dba) ps → is_in b (blocks_of ps) ≡ true → P b
among_parts P [] b h m = absurd (true≢false (sym m))
among_parts P (p ∷ ps) b h m = elim (or_cases (eqb p.dba b) (is_in b (blocks_of ps)) m) [ inl y ↦ subst P (eqb-true p.dba b y) h.0 | inr z ↦ among_parts P ps b h.1 z ]

among_back : (P : ℕ → Type 0) (ps : List BackPart) (b : ℕ) → Every (λ (p : BackPart). P p.dba) ps → is_in b (back_blocks ps) ≡ true → P b
among_back P [] b h m = absurd (true≢false (sym m))
among_back P (p ∷ ps) b h m = elim (or_cases (eqb p.dba b) (is_in b (back_blocks ps)) m) [ inl y ↦ subst P (eqb-true p.dba b y) h.0 | inr z ↦ among_back P ps b h.1 z ]

-- a record that cleans is a Clean of a row block
clean_home : (sh : Shape) (R : List Record) (r : Record) (d : ℕ) (cs : List (ℕ × ℕ)) → effect_of r ≡ Cleans d cs → AreAllowed sh (r ∷ R) → SomeHome sh R d
clean_home sh R (Clean c) d cs e h = let same : c.dba ≡ d = (let x : Cleans c.dba c.ended ≡ Cleans d cs = e in cc) in subst (SomeHome sh R) same (h.1.kind.obj, h.1.kind.here)
clean_home sh R r d cs e h = absurd cc

pub named_home_of : (sh : Shape) (R : List Record) (r : Record) (e : Effect) (b : ℕ) → AreAllowed sh (r ∷ R) → effect_of r ≡ e → is_in b (rows_named e) ≡ true → SomeHome sh R b
named_home_of sh R r Still b h f m = absurd (true≢false (sym m))
named_home_of sh R r (Formats d) b h f m = absurd (true≢false (sym m))
named_home_of sh R r (Adds st) b h f m = among_parts (SomeHome sh R) st.parts b (every-map (λ (p : RowPart). IsRowBlock sh R st.obj p.dba) _ st.parts (λ p x. (st.obj, x)) (step_home sh R r st h f)) m
named_home_of sh R r (TakesBack k) b h f m = among_back (SomeHome sh R) k.parts b (back_home sh R k (back_is sh R r k f h)) m
named_home_of sh R r (Cleans d cs) b h f m = subst (SomeHome sh R) (one_block d b m) (clean_home sh R r d cs f h)

pub named_blocks_are_formatted : NamedBlocksAreFormatted
named_blocks_are_formatted sh R r b h m = (named_home_of sh R r (effect_of r) b h refl m).1.formatted
