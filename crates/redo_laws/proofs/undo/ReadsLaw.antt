-- What the undo address of an image leads to.
use Rattle.std.proofs.Common.{◌≡◌, ℕ, zero, suc, ◌+◌, ◌≤◌, Bool, true, false, cond, ◌&&◌, ◌||◌, eqb, ltb, List, [], ◌∷◌, ◌++◌, length, map, Option, Some, None, refl, sym, ◌∙◌, ap, ap₂, subst, arith, inl, inr, eqb-true, ltb-false, le-ltb, eq-eqb}
use Rattle.seg_words.proofs.Lemmas.{cond-true, cases_Bool}
use Rattle.seg_words.specs.Types.{Shape, UndoAddr}
use Rattle.redo_model.specs.Records.{Record, Reuse, Insert, Update, Migrate, Return, Delete, Back, Move, RowPart}
use Rattle.redo_model.specs.Model.{Step, Effect, effect_of, row_step, move_step, standing, Made, makers, Undone, part_size, undone, undone_after, emptied_by, undo_parts, undo_sequence, is_reused, HeldPart, held_by, held_after, kept_by, undo_held, held_at, AreAllowed, is_active}
use Rattle.redo_model.specs.Effects.{Adds}
use Rattle.redo_laws.specs.Chain.{EachMade, IsStated, IsStatedIn}
use Rattle.redo_laws.specs.Reads.{StandAt, IsThere, LeadsTo, IsPresent, UndoIsRead}
use Rattle.redo_laws.proofs.lists.Every.{Every, every-map, every-filter}
use Rattle.redo_laws.proofs.allowed.Basics.{Basics, EffectBasics, basics}
use Rattle.redo_laws.proofs.links.ChainLaw.{slots_are_chains}
use Rattle.redo_laws.proofs.undo.Economy.{InUse}
use Rattle.redo_laws.proofs.spread.Whole.{whole}
use Rattle.redo_laws.specs.Economy.{EachStep}

-- sizes

abbrev sizes_of : List HeldPart → List Undone
sizes_of hs = map (λ (h : HeldPart). record { by = h.by; size = part_size h.part }) hs

sizes_both : (hs ks : List HeldPart) → sizes_of (hs ++ ks) ≡ sizes_of hs ++ sizes_of ks
sizes_both [] ks = refl
sizes_both (h ∷ hs) ks = ap (λ us. record { by = h.by; size = part_size h.part } ∷ us) (sizes_both hs ks)

sizes_step : (st : Step) (ps : List RowPart) → undone st.by ps ≡ sizes_of (held_by st ps)
sizes_step st [] = refl
sizes_step st (p ∷ ps) = ap (λ us. record { by = st.by; size = part_size p } ∷ us) (sizes_step st ps)

sizes_kept : (r : Record) (u : ℕ) (us : List Undone) (hs : List HeldPart) → us ≡ sizes_of hs → emptied_by r u us ≡ sizes_of (kept_by r u hs)
sizes_kept (Reuse q) u us hs e = elim (eqb q.block u) as (λ v. cond v [] us ≡ sizes_of (cond v [] hs)) [ true ↦ refl | false ↦ e ]
sizes_kept _ u us hs e = e

sizes_after : (f : Effect) (u : ℕ) (us : List Undone) (hs : List HeldPart) → us ≡ sizes_of hs → undone_after f u us ≡ sizes_of (held_after f u hs)
sizes_after (Adds st) u us hs e =
    elim (eqb st.undo.block u) as (λ v. cond v (us ++ undone st.by st.parts) us ≡ sizes_of (cond v (hs ++ held_by st st.parts) hs)) [
      | true ↦ ap₂ (λ (xs ys : List Undone). xs ++ ys) e (sizes_step st st.parts) ∙ sym (sizes_both hs (held_by st st.parts))
      | false ↦ e
    ]
sizes_after _ u us hs e = e

sizes : (R : List Record) (u : ℕ) → undo_parts R u ≡ sizes_of (undo_held R u)
sizes [] u = refl
sizes (r ∷ R) u = sizes_after (effect_of r) u (emptied_by r u (undo_parts R u)) (kept_by r u (undo_held R u)) (sizes_kept r u (undo_parts R u) (undo_held R u) (sizes R u))

sizes_length : (hs : List HeldPart) → length (sizes_of hs) ≡ length hs
sizes_length [] = refl
sizes_length (h ∷ hs) = ap (λ n. suc n) (sizes_length hs)

-- sequences

later_use : (a : UndoAddr) (n : ℕ) → (ltb a.seq (suc n) || ltb a.seq n) ≡ ltb a.seq (suc n)
later_use a n = elim (cases_Bool (ltb a.seq (suc n))) [
  | inl y ↦ ap (λ v. v || ltb a.seq n) y ∙ sym y
  | inr f ↦ ap₂ (λ (v w : Bool). v || w) f (le-ltb a.seq n (let l = ltb-false a.seq (suc n) f in omega (arith, l))) ∙ sym f
]

reused : (sh : Shape) (R : List Record) (a : UndoAddr) → AreAllowed sh R → is_reused R a ≡ ltb a.seq (undo_sequence R a.block)
reused sh [] a h = sym (le-ltb a.seq 0 (omega arith))
reused sh (Reuse q ∷ R) a h =
    (elim (eqb q.block a.block) as (λ v. eqb q.block a.block ≡ v → ((v && ltb a.seq q.sequence) || is_reused R a) ≡ ltb a.seq (cond v (suc (undo_sequence R a.block)) (undo_sequence R a.block))) [
      | true ↦ λ e.
          let same : q.sequence ≡ suc (undo_sequence R a.block) = h.1.kind.sequence ∙ ap (λ b. suc (undo_sequence R b)) (eqb-true q.block a.block e) in
          ap₂ (λ (v w : Bool). v || w) (ap (λ n. ltb a.seq n) same) (reused sh R a h.0) ∙ later_use a (undo_sequence R a.block)
      | false ↦ λ e. reused sh R a h.0
    ]) refl
reused sh (_ ∷ R) a h = reused sh R a h.0

-- places

abbrev part_of : Step → RowPart → HeldPart
part_of st p = record { by = st.by; previous = st.previous; count = length st.parts; part = p }

at_front : (hs ks : List HeldPart) (n : ℕ) (h : HeldPart) → held_at hs n ≡ Some h → held_at (hs ++ ks) n ≡ Some h
at_front [] ks n h e = absurd (let x : ◌≡◌ {A = Option HeldPart} None (Some h) = e in cc)
at_front (x ∷ hs) ks zero h e = e
at_front (x ∷ hs) ks (suc n) h e = at_front hs ks n h e

stand_front : (hs ks : List HeldPart) (st : Step) (n : ℕ) (ps : List RowPart) → StandAt hs st n ps → StandAt (hs ++ ks) st n ps
stand_front hs ks st n [] h = tt
stand_front hs ks st n (p ∷ ps) h = (at_front hs ks n (part_of st p) h.0, stand_front hs ks st (suc n) ps h.1)

at_end : (hs ks : List HeldPart) (h : HeldPart) → held_at (hs ++ h ∷ ks) (length hs) ≡ Some h
at_end [] ks h = refl
at_end (x ∷ hs) ks h = at_end hs ks h

end_moved : (hs : List HeldPart) (h : HeldPart) (ks : List HeldPart) → (hs ++ h ∷ []) ++ ks ≡ hs ++ h ∷ ks
end_moved [] h ks = refl
end_moved (x ∷ hs) h ks = ap (λ (ys : List HeldPart). x ∷ ys) (end_moved hs h ks)

end_length : (hs : List HeldPart) (h : HeldPart) → length (hs ++ h ∷ []) ≡ suc (length hs)
end_length [] h = refl
end_length (x ∷ hs) h = ap (λ n. suc n) (end_length hs h)

stand_end : (hs : List HeldPart) (st : Step) (ps : List RowPart) → StandAt (hs ++ held_by st ps) st (length hs) ps
stand_end hs st [] = tt
stand_end hs st (p ∷ ps) = (
  at_end hs (held_by st ps) (part_of st p),
  subst (λ (ks : List HeldPart). StandAt ks st (suc (length hs)) ps) (end_moved hs (part_of st p) (held_by st ps))
      (subst (λ m. StandAt ((hs ++ part_of st p ∷ []) ++ held_by st ps) st m ps) (end_length hs (part_of st p)) (stand_end (hs ++ part_of st p ∷ []) st ps)),
)

-- a step's sequence is at most its block's; where it is that, the block holds the step's parts
record StepHeld (R : List Record) (st : Step) : Type 0 where
  low : st.undo.seq ≤ undo_sequence R st.undo.block
  parts : st.undo.seq ≡ undo_sequence R st.undo.block → StandAt (undo_held R st.undo.block) st st.undo.nth st.parts

grown_held : (R : List Record) (new st : Step) → StepHeld R st → st.undo.seq ≡ undo_sequence R st.undo.block → StandAt (held_after (Adds new) st.undo.block (undo_held R st.undo.block)) st st.undo.nth st.parts
grown_held R new st h e =
    let hs = undo_held R st.undo.block in
    elim (eqb new.undo.block st.undo.block) as (λ v. StandAt (cond v (hs ++ held_by new new.parts) hs) st st.undo.nth st.parts) [
      | true ↦ stand_front hs (held_by new new.parts) st st.undo.nth st.parts (h.parts e)
      | false ↦ h.parts e
    ]

old_held : (sh : Shape) (R : List Record) (r : Record) (st : Step) → StepHeld R st → StepHeld (r ∷ R) st
old_held sh R (Reuse q) st h =
    let both = (elim (eqb q.block st.undo.block) as (λ v. (st.undo.seq ≤ cond v (suc (undo_sequence R st.undo.block)) (undo_sequence R st.undo.block))
    × (st.undo.seq ≡ cond v (suc (undo_sequence R st.undo.block)) (undo_sequence R st.undo.block) → StandAt (cond v [] (undo_held R st.undo.block)) st st.undo.nth st.parts)) [
      | true ↦ (let l = h.low in omega (arith, l), λ e. let l = h.low in absurd (omega (arith, l, e)))
      | false ↦ (h.low, h.parts)
    ]) in
    record { low = both.0; parts = both.1 }
old_held sh R (Insert w) st h = record { low = h.low; parts = grown_held R (row_step w false) st h }
old_held sh R (Update w) st h = record { low = h.low; parts = grown_held R (row_step w false) st h }
old_held sh R (Migrate w) st h = record { low = h.low; parts = grown_held R (row_step w false) st h }
old_held sh R (Return w) st h = record { low = h.low; parts = grown_held R (row_step w false) st h }
old_held sh R (Delete w) st h = record { low = h.low; parts = grown_held R (row_step w true) st h }
old_held sh R (Move m) st h = record { low = h.low; parts = grown_held R (move_step m) st h }
old_held sh R _ st h = record { low = h.low; parts = h.parts }

new_stands : (R : List Record) (st : Step) → Basics R st → StandAt (held_after (Adds st) st.undo.block (undo_held R st.undo.block)) st st.undo.nth st.parts
new_stands R st b =
    let hs = undo_held R st.undo.block in
    let place : st.undo.nth ≡ length hs = b.undo.place ∙ ap length (sizes R st.undo.block) ∙ sizes_length hs in
    subst (λ (ks : List HeldPart). StandAt ks st st.undo.nth st.parts) (sym (cond-true _ _ _ (eq-eqb st.undo.block st.undo.block refl)))
    (subst (λ n. StandAt (hs ++ held_by st st.parts) st n st.parts) (sym place) (stand_end hs st st.parts))

new_low : (R : List Record) (st : Step) → Basics R st → st.undo.seq ≤ undo_sequence R st.undo.block
new_low R st b = let e = b.undo.sequence in omega (arith, e)

olds : (sh : Shape) (R : List Record) (r : Record) (ss : List Step) → Every (StepHeld R) ss → Every (StepHeld (r ∷ R)) ss
olds sh R r ss h = every-map _ _ ss (λ st x. old_held sh R r st x) h

held_step : (sh : Shape) (R : List Record) (r : Record) → EffectBasics R (effect_of r) → Every (StepHeld R) (standing R) → Every (StepHeld (r ∷ R)) (standing (r ∷ R))
held_step sh R (Insert w) b h = (record { low = new_low R (row_step w false) b; parts = λ e. new_stands R (row_step w false) b }, olds sh R (Insert w) (standing R) h)
held_step sh R (Update w) b h = (record { low = new_low R (row_step w false) b; parts = λ e. new_stands R (row_step w false) b }, olds sh R (Update w) (standing R) h)
held_step sh R (Migrate w) b h = (record { low = new_low R (row_step w false) b; parts = λ e. new_stands R (row_step w false) b }, olds sh R (Migrate w) (standing R) h)
held_step sh R (Return w) b h = (record { low = new_low R (row_step w false) b; parts = λ e. new_stands R (row_step w false) b }, olds sh R (Return w) (standing R) h)
held_step sh R (Delete w) b h = (record { low = new_low R (row_step w true) b; parts = λ e. new_stands R (row_step w true) b }, olds sh R (Delete w) (standing R) h)
held_step sh R (Move m) b h = (record { low = new_low R (move_step m) b; parts = λ e. new_stands R (move_step m) b }, olds sh R (Move m) (standing R) h)
held_step sh R (Back k) b h = every-filter _ _ (standing R) (olds sh R (Back k) (standing R) h)
held_step sh R r b h = olds sh R r (standing R) h

all_held : (sh : Shape) (R : List Record) → AreAllowed sh R → Every (StepHeld R) (standing R)
all_held sh [] h = tt
all_held sh (r ∷ R) h = held_step sh R r (basics sh R r h.1.kind) (all_held sh R h.0)

-- what the address leads to

stated_addr : (st : Step) (i : ℕ) (ps : List RowPart) (b k : ℕ) (m : Made) → IsStatedIn st i ps b k m → (m.part.block ≡ st.undo.block) × (m.part.seq ≡ st.undo.seq)
stated_addr st i [] b k m h = absurd h
stated_addr st i (p ∷ ps) b k m (inl y) = (ap (λ (a : UndoAddr). a.block) y.3, ap (λ (a : UndoAddr). a.seq) y.3)
stated_addr st i (p ∷ ps) b k m (inr z) = stated_addr st (suc i) ps b k m z

part_leads : (R : List Record) (st : Step) (i : ℕ) (ps : List RowPart) (b k : ℕ) (m : Made) → st.by ≡ m.by → StandAt (undo_held R st.undo.block) st (st.undo.nth + i) ps → IsStatedIn st i ps b k m → LeadsTo R b k m
part_leads R st i [] b k m w h x = absurd x
part_leads R st i (p ∷ ps) b k m w h (inl y) = record {
  held = part_of st p;
  there = subst (λ (a : UndoAddr). held_at (undo_held R a.block) a.nth ≡ Some (part_of st p)) (sym y.3) h.0;
  block = y.0;
  slot = y.1;
  old = y.2;
  by = w;
}
part_leads R st i (p ∷ ps) b k m w h (inr z) = part_leads R st (suc i) ps b k m w (subst (λ n. StandAt (undo_held R st.undo.block) st n ps) (let e : suc (st.undo.nth + i) ≡ st.undo.nth + suc i = omega arith in e) h.1) z

stated_leads : (R : List Record) (ss : List Step) (b k : ℕ) (m : Made) → Every (StepHeld R) ss → IsStated ss b k m → IsPresent R m.part → LeadsTo R b k m
stated_leads R [] b k m h x p = absurd x
stated_leads R (st ∷ ss) b k m h (inl y) p =
    let a = stated_addr st 0 st.parts b k m y.2 in
    let present : st.undo.seq ≡ undo_sequence R st.undo.block = sym a.1 ∙ p ∙ ap (undo_sequence R) a.0 in
    part_leads R st 0 st.parts b k m y.0 (subst (λ n. StandAt (undo_held R st.undo.block) st n st.parts) (let e : st.undo.nth ≡ st.undo.nth + 0 = omega arith in e) (h.0.parts present)) y.2
stated_leads R (st ∷ ss) b k m h (inr z) p = stated_leads R ss b k m h.1 z p

each_leads : (R : List Record) (b k : ℕ) (ms : List Made) → Every (StepHeld R) (standing R) → EachMade (IsStated (standing R) b k) ms → EachMade (λ m. IsPresent R m.part → LeadsTo R b k m) ms
each_leads R b k [] h x = tt
each_leads R b k (m ∷ ms) h x = ((λ p. stated_leads R (standing R) b k m h x.0 p), each_leads R b k ms h x.1)

each_there : (R : List Record) (ss : List Step) → Every (StepHeld R) ss → Every (InUse (is_active R) (undo_sequence R) (undo_parts R)) ss → EachStep (IsThere R) ss
each_there R [] h x = tt
each_there R (st ∷ ss) h x = ((λ u e on. let p = (x.0 u e on).0 in (p, h.0.parts p)), each_there R ss h.1 x.1)

pub undo_is_read : UndoIsRead
undo_is_read sh R h = record {
  reused = λ a. reused sh R a h;
  sizes = λ u. sizes R u;
  leads = λ b k. each_leads R b k (makers R b k) (all_held sh R h) (slots_are_chains sh R b k h).stated;
  there = each_there R (standing R) (all_held sh R h) (whole sh R h).undo.in_use;
}
