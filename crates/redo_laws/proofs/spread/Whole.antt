-- Every lawful list keeps it all, by induction on its newest record.
use Rattle.std.proofs.Common.{◌≡◌, ℕ, suc, ◌≤◌, Bool, true, false, not, List, [], ◌∷◌, refl, sym, ◌∙◌, arith, inl, inr, ne_eqb, true≢false, eq-eqb}
use Rattle.seg_words.proofs.Lemmas.{cond-true, cond-false, and_parts, not-true}
use Rattle.seg_words.specs.Types.{Shape, Slot}
use Rattle.redo_model.specs.Records.{Record, RowBody, Extend, FormatBlock, Lower, Insert, Update, Migrate, Return, Delete, Back, Move, Clean}
use Rattle.redo_model.specs.Model.{Step, Effect, effect_of, written, row_step, move_step, row_count, is_active, has_ended, has_begun, standing, placed_in, image, Made, made_by, makers, IsKindAllowed, AreAllowed}
use Rattle.redo_model.specs.Effects.{Adds}
use Rattle.redo_laws.proofs.lists.Every.{every-map, every-filter}
use Rattle.redo_laws.proofs.steps.Facts.{EffectFits}
use Rattle.redo_laws.proofs.numbers.Known.{turn}
use Rattle.redo_laws.proofs.steps.Held.{effect_held}
use Rattle.redo_laws.proofs.spread.Spread.{good}
use Rattle.redo_laws.proofs.allowed.Basics.{Basics, EffectBasics, basics}
use Rattle.redo_laws.proofs.undo.Economy.{undo_step, no_undo}
use Rattle.redo_laws.proofs.links.Links.{LinksFit, links_step, no_links}
use Rattle.redo_laws.proofs.space.Places.{Segments, segments, format_first, extend_out}
use Rattle.redo_laws.proofs.allowed.Shapes.{Present, StepShape, row_of_empty}
use Rattle.redo_laws.proofs.allowed.AllKinds.{OldShape, RecordShape, shape_of}
use Rattle.redo_laws.proofs.homes.Homes.{RowOf, Home, RowsIn, home_adds, home_back, home_clean, home_turn, home_format, home_extend, home_lower}
use Rattle.redo_laws.proofs.spread.Fitting.{ObjectsIn, Whole, shape_fits, shape_links, step_table}

-- what a record needs of the list before it
pub record Fits (R : List Record) (ef : Effect) : Type 0 where
  pub effect : EffectFits R ef
  pub links : LinksFit R ef

step_fits : (sh : Shape) (R : List Record) (st : Step) → AreAllowed sh R → Whole sh R → Segments sh R → Basics R st → StepShape sh R st → Fits R (Adds st)
step_fits sh R st h w s b f = record { effect = shape_fits sh R st h w s b f; links = shape_links sh R st w f }

ended_off : (R : List Record) (t : ℕ) → has_ended R t ≡ true → is_active R t ≡ false
ended_off R t h = not-true (is_active R t) (and_parts (has_begun R t) (not (is_active R t)) h).1

fits_all : (sh : Shape) (R : List Record) (r : Record) → AreAllowed sh R → IsKindAllowed sh R r → Whole sh R → Segments sh R → EffectBasics R (effect_of r) → RecordShape sh R r → Fits R (effect_of r)
fits_all sh R (FormatBlock f) h a w s b x = record {
  effect = λ k. elim (w.homes f.dba) [
    | inl l ↦ absurd (true≢false (sym l.here.2 ∙ (format_first sh R f a).1))
    | inr d ↦ (cond-false _ _ _ (row_of_empty (image R f.dba k).kind (d.vacant k).empty), (d.vacant k).settled)
  ];
  links = tt;
}
fits_all sh R (Insert y) h a w s b x = step_fits sh R (row_step y false) h w s b x
fits_all sh R (Update y) h a w s b x = step_fits sh R (row_step y false) h w s b x.shape
fits_all sh R (Migrate y) h a w s b x = step_fits sh R (row_step y false) h w s b x.shape
fits_all sh R (Return y) h a w s b x = step_fits sh R (row_step y false) h w s b x.shape
fits_all sh R (Delete y) h a w s b x = step_fits sh R (row_step y true) h w s b x.shape
fits_all sh R (Move y) h a w s b x = step_fits sh R (move_step y) h w s b x.shape
fits_all sh R (Back k) h a w s b x = record { effect = record { active = a.active; step = a.step; newest = a.newest; undo = a.undo; restores = a.parts }; links = tt }
fits_all sh R (Clean c) h a w s b x = record { effect = tt; links = λ t m e. ended_off R t (a.each t m e).ended }
fits_all sh R _ h a w s b x = record { effect = tt; links = tt }

-- tables of rows

later_row : (R : List Record) (y : RowBody) (o n : ℕ) → y.row ≡ suc (row_count R) → RowOf R o n → RowOf (Insert y ∷ R) o n
later_row R y o n e h = (cond-false _ _ _ (ne_eqb y.row n (λ s. let m : n ≤ row_count R = h.1 in absurd (omega arith))) ∙ h.0, (let m : n ≤ row_count R = h.1 in omega arith))

own_row : (R : List Record) (y : RowBody) → y.row ≡ suc (row_count R) → RowOf (Insert y ∷ R) y.obj y.row
own_row R y e = (cond-true _ _ _ (eq-eqb y.row y.row refl), omega arith)

objects_more : (R : List Record) (y : RowBody) (ss : List Step) → y.row ≡ suc (row_count R) → ObjectsIn R ss → ObjectsIn (Insert y ∷ R) ss
objects_more R y ss e h = every-map _ _ ss (λ x f. later_row R y x.obj x.row e f) h

objects_step : (sh : Shape) (R : List Record) (r : Record) → IsKindAllowed sh R r → Whole sh R → Segments sh R → RecordShape sh R r → ObjectsIn (r ∷ R) (standing (r ∷ R))
objects_step sh R (Insert y) a w s x = (own_row R y a.number, objects_more R y (standing R) a.number w.objects)
objects_step sh R (Update y) a w s x = (step_table sh R (row_step y false) w s x.old, w.objects)
objects_step sh R (Migrate y) a w s x = (step_table sh R (row_step y false) w s x.old, w.objects)
objects_step sh R (Return y) a w s x = (step_table sh R (row_step y false) w s x.old, w.objects)
objects_step sh R (Delete y) a w s x = (step_table sh R (row_step y true) w s x.old, w.objects)
objects_step sh R (Move y) a w s x = (step_table sh R (move_step y) w s x.old, w.objects)
objects_step sh R (Back k) a w s x = every-filter _ _ (standing R) w.objects
objects_step sh R _ a w s x = w.objects

-- homes

one_table : (R : List Record) (o p n : ℕ) → RowOf R o n → RowOf R p n → o ≡ p
one_table R o p n f g = sym f.0 ∙ g.0

more_rows : (R : List Record) (y : RowBody) (o : ℕ) (i : Slot) (ms : List Made) → y.row ≡ suc (row_count R) → RowsIn (RowOf R o) i ms → RowsIn (RowOf (Insert y ∷ R) o) i ms
more_rows R y o i ms e h = ((λ f. later_row R y o i.row e (h.0 f)), every-map _ _ ms (λ m g f. later_row R y o m.old.row e (g f)) h.1)

more_home : (present : ℕ → Type 0) (R : List Record) (y : RowBody) (active : ℕ → Bool) (im : ℕ → Slot) (mk : ℕ → List Made) → y.row ≡ suc (row_count R) → Home present (RowOf R) active im mk → Home present (RowOf (Insert y ∷ R)) active im mk
more_home present R y active im mk e (inl l) = inl (record { obj = l.obj; here = l.here; rows = λ k. more_rows R y l.obj (im k) (mk k) e (l.rows k) })
more_home present R y active im mk e (inr d) = inr (record { absent = d.absent; vacant = d.vacant })

old_adds : (sh : Shape) (R : List Record) (st : Step) (b : ℕ) → Whole sh R → Segments sh R → OldShape sh R st → Home (λ o. Present sh R o b) (RowOf R) (is_active R) (λ k. placed_in (written st.parts) b k (image R b k)) (λ k. made_by st 0 st.parts b k (makers R b k))
old_adds sh R st b w s x = home_adds sh R st (RowOf R) (one_table R) s (step_table sh R st w s x.old) x.shape b (w.homes b)

-- after a record, by who is active before it
home_effect : (sh : Shape) (R : List Record) (r : Record) (b : ℕ) → IsKindAllowed sh R r → Whole sh R → Segments sh R → RecordShape sh R r → EffectFits R (effect_of r)
    → Home (λ o. Present sh (r ∷ R) o b) (RowOf (r ∷ R)) (is_active R) (image (r ∷ R) b) (makers (r ∷ R) b)
home_effect sh R (Insert y) b a w s x f =
    home_adds sh R (row_step y false) (RowOf (Insert y ∷ R)) (one_table (Insert y ∷ R)) s (own_row R y a.number) x b
    (more_home (λ o. Present sh R o b) R y (is_active R) (image R b) (makers R b) a.number (w.homes b))
home_effect sh R (Update y) b a w s x f = old_adds sh R (row_step y false) b w s x
home_effect sh R (Migrate y) b a w s x f = old_adds sh R (row_step y false) b w s x
home_effect sh R (Return y) b a w s x f = old_adds sh R (row_step y false) b w s x
home_effect sh R (Delete y) b a w s x f = old_adds sh R (row_step y true) b w s x
home_effect sh R (Move y) b a w s x f = old_adds sh R (move_step y) b w s x
home_effect sh R (Back k) b a w s x f = home_back (λ o. Present sh R o b) (RowOf R) R k f (good sh R w.fit).held b (w.homes b)
home_effect sh R (Clean c) b a w s x f = home_clean (λ o. Present sh R o b) (RowOf R) (is_active R) c.dba c.ended b (image R b) (makers R b) (w.homes b)
home_effect sh R (FormatBlock y) b a w s x f = home_format sh R y (RowOf R) a s b (w.homes b)
home_effect sh R (Extend y) b a w s x f = home_extend sh R y (RowOf R) (is_active R) (image R b) (makers R b) (extend_out sh R y a) b (w.homes b)
home_effect sh R (Lower y) b a w s x f = home_lower sh R y (RowOf R) a s w.links b (w.homes b)
home_effect sh R _ b a w s x f = w.homes b

pub whole : (sh : Shape) (R : List Record) → AreAllowed sh R → Whole sh R
whole sh [] h = record {
  fit = tt;
  undo = no_undo;
  links = no_links;
  objects = tt;
  homes = λ b. inr (record { absent = λ o p. true≢false (sym p.1); vacant = λ k. record { empty = refl; settled = tt } });
}
whole sh (r ∷ R) h =
    let w = whole sh R h.0 in
    let s = segments sh R h.0 in
    let a = h.1.kind in
    let x = shape_of sh R r s a in
    let f = fits_all sh R r h.0 a w s (basics sh R r a) x in
    let t = turn sh R r a in
    let held = (good sh R w.fit).held in
    let after = effect_held R (effect_of r) f.effect held in
    record {
      fit = (w.fit, f.effect, h.1);
      undo = undo_step sh R r a held.begun w.undo;
      links = links_step R r t f.effect f.links held after w.links;
      objects = objects_step sh R r a w s x;
      homes = λ b. home_turn (λ o. Present sh (r ∷ R) o b) (RowOf (r ∷ R)) R r (standing (r ∷ R)) (image (r ∷ R) b) (makers (r ∷ R) b) t after.begun (λ k. after.stand b k) (home_effect sh R r b a w s x f.effect);
    }

pub record_fits : (sh : Shape) (R : List Record) (r : Record) → AreAllowed sh (r ∷ R) → Fits R (effect_of r)
record_fits sh R r h =
    let w = whole sh R h.0 in
    let s = segments sh R h.0 in
    let a = h.1.kind in
    fits_all sh R r h.0 a w s (basics sh R r a) (shape_of sh R r s a)
