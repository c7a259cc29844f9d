-- What the undo address of a place tells.
use Rattle.std.proofs.Common.{◌≡◌, ◌≢◌, ℕ, suc, ◌<◌, ◌≤◌, Bool, true, false, cond, not, ◌&&◌, ◌||◌, eqb, leb, ltb, List, [], ◌∷◌, Option, Some, None, refl, sym, ◌∙◌, ap, ap₂, subst, arith, ◌⊎◌, inl, inr, le_trans, le_refl, true≢false, eqb-true, eq-eqb, ne_eqb, le-leb, leb-true, le-ltb, lt-ltb, ltb-true}
use Rattle.seg_words.proofs.Lemmas.{cases_Bool, eqb-false, cond-true, cond-false, and_parts, and_from, and_left, and_right, or_parts, or_cases, or_left, or_right, lt-leb}
use Rattle.seg_words.specs.Types.{Shape, Slot, UndoAddr, Writer, By, At}
use Rattle.redo_model.specs.Records.{Record, Insert, Update, Migrate, Return, Delete, Commit, Move, RowPart, CommitRecord, BackRecord}
use Rattle.redo_model.specs.Model.{Step, Effect, effect_of, part_addr, txn_effect, commit_count, is_active, is_committed_by, is_by, is_addr, without_step, steps, standing, standing_steps, newest_on, is_place, image, Made, made_by, without, changed_makers, makers, first_counted, counts, image_at, row_at, row_in, IsKindAllowed, AreAllowed}
use Rattle.redo_model.specs.Effects.{Still, Formats, Adds, TakesBack, Cleans}
use Rattle.redo_laws.specs.Chain.{IsChain, EachMade}
use Rattle.redo_laws.specs.Stays.{IsNotBy, Later, one_later, not_later, IsQuiet}
use Rattle.redo_laws.specs.Views.{IsOpen}
use Rattle.redo_laws.proofs.allowed.Basics.{Basics, EffectBasics, basics}
use Rattle.redo_laws.proofs.links.ChainLaw.{slots_are_chains}
use Rattle.redo_laws.proofs.lists.Every.{Every, every-map, every-filter}
use Rattle.redo_laws.proofs.steps.Facts.{Counted, Found, place_of, located, seen, IsClosed, MayOver, BackFits, EffectFits}
use Rattle.redo_laws.proofs.steps.Held.{Stands, own, Tops, tops}
use Rattle.redo_laws.proofs.numbers.Known.{known, turn}
use Rattle.redo_laws.proofs.spread.Spread.{good, by_of, tops_by}
use Rattle.redo_laws.proofs.spread.StaysLaw.{later_commits, later_allowed, blocks_stay}
use Rattle.redo_laws.proofs.spread.Union.{closed_counts}
use Rattle.redo_laws.proofs.spread.Views.{Settled, RowLock, ready}
use Rattle.redo_laws.proofs.spread.Whole.{whole, record_fits}
use Rattle.version_laws.specs.Types.{Stamp, made_stamp, step_stamp, Falls}
use Rattle.scan_laws.specs.Changes.{touches, commits_row, is_move, moves_row, changed_above}
use Rattle.row_laws.specs.Places.{PlacesTell}
use Rattle.version_laws.proofs.Falling.{makers_fall}
use Rattle.version_laws.proofs.Newest.{stamped}

-- the newest maker that counts

abbrev top_made : Counted → List Made → Option Made
top_made c [] = None
top_made c (m ∷ ms) = cond (c m.by m.undo) (Some m) (top_made c ms)

abbrev stamp_of : Option Made → Option Stamp
stamp_of None = None
stamp_of (Some m) = Some (record { by = m.by; undo = m.undo })

abbrev part_of : Option Made → Option UndoAddr
part_of None = None
part_of (Some m) = Some m.part

top_stamp : (c : Counted) (ms : List Made) → made_stamp c ms ≡ stamp_of (top_made c ms)
top_stamp c [] = refl
top_stamp c (m ∷ ms) = elim (c m.by m.undo) as (λ v. cond v (Some (record { by = m.by; undo = m.undo })) (made_stamp c ms) ≡ stamp_of (cond v (Some m) (top_made c ms))) [ true ↦ refl | false ↦ top_stamp c ms ]

top_undo : (c : Counted) (i : Slot) (ms : List Made) → IsChain i ms → (first_counted c i ms).undo ≡ part_of (top_made c ms)
top_undo c i [] h = h
top_undo c i (m ∷ ms) h = elim (c m.by m.undo) as (λ v. (cond v i (first_counted c m.old ms)).undo ≡ part_of (cond v (Some m) (top_made c ms))) [ true ↦ h.0 | false ↦ top_undo c m.old ms h.1 ]

top_same : (c d : Counted) (ms : List Made) → ((w : Writer) (a : UndoAddr) → c w a ≡ d w a) → top_made c ms ≡ top_made d ms
top_same c d [] h = refl
top_same c d (m ∷ ms) h = ap₂ (λ v o. cond v (Some m) o) (h m.by m.undo) (top_same c d ms h)

top_skip : (c : Counted) (st : Step) (i : ℕ) (ps : List RowPart) (b k : ℕ) (ms : List Made) → c st.by st.undo ≡ false → top_made c (made_by st i ps b k ms) ≡ top_made c ms
top_skip c st i [] b k ms off = refl
top_skip c st i (p ∷ ps) b k ms off =
    elim (is_place p.dba p.slot b k) as (λ v. top_made c (cond v (record { by = st.by; undo = st.undo; part = part_addr st.undo i; old = p.old } ∷ ms) (made_by st (suc i) ps b k ms)) ≡ top_made c ms) [
      | true ↦ cond-false _ _ _ off
      | false ↦ top_skip c st (suc i) ps b k ms off
    ]

top_without : (c : Counted) (a : UndoAddr) (ms : List Made) → Every (λ (m : Made). is_addr m.undo a ≡ true → c m.by m.undo ≡ false) ms → top_made c (without a ms) ≡ top_made c ms
top_without c a [] h = refl
top_without c a (m ∷ ms) h =
    (elim (is_addr m.undo a) as (λ v. is_addr m.undo a ≡ v → top_made c (cond (not v) (m ∷ without a ms) (without a ms)) ≡ top_made c (m ∷ ms)) [
      | true ↦ λ e. top_without c a ms h.1 ∙ sym (cond-false _ _ _ (h.0 e))
      | false ↦ λ e. ap (λ (o : Option Made). cond (c m.by m.undo) (Some m) o) (top_without c a ms h.1)
    ]) refl

-- of steps

abbrev Mark : Type 0
Mark = Option Stamp

steps_without : (c : Counted) (a : UndoAddr) (ss : List Step) (n : ℕ) → Every (λ (s : Step). is_addr s.undo a ≡ true → c s.by s.undo ≡ false) ss → step_stamp c (without_step a ss) n ≡ step_stamp c ss n
steps_without c a [] n h = refl
steps_without c a (s ∷ ss) n h =
    (elim (is_addr s.undo a) as (λ v. is_addr s.undo a ≡ v → step_stamp c (cond (not v) (s ∷ without_step a ss) (without_step a ss)) n ≡ step_stamp c (s ∷ ss) n) [
      | true ↦ λ e. steps_without c a ss n h.1 ∙ sym (cond-false _ _ _ (and_left (c s.by s.undo) (eqb s.row n) (h.0 e)))
      | false ↦ λ e. ap (λ (o : Option Stamp). cond (c s.by s.undo && eqb s.row n) (Some (record { by = s.by; undo = s.undo })) o) (steps_without c a ss n h.1)
    ]) refl

located_without : (c : Counted) (a : UndoAddr) (ss : List Step) (n : ℕ) → Every (λ (s : Step). is_addr s.undo a ≡ true → c s.by s.undo ≡ false) ss → located c (without_step a ss) n ≡ located c ss n
located_without c a [] n h = refl
located_without c a (s ∷ ss) n h =
    (elim (is_addr s.undo a) as (λ v. is_addr s.undo a ≡ v → located c (cond (not v) (s ∷ without_step a ss) (without_step a ss)) n ≡ located c (s ∷ ss) n) [
      | true ↦ λ e. located_without c a ss n h.1 ∙ sym (cond-false _ _ _ (and_left (c s.by s.undo) (eqb s.row n) (h.0 e)))
      | false ↦ λ e. ap (λ (o : Option Found). cond (c s.by s.undo && eqb s.row n) (place_of s.parts) o) (located_without c a ss n h.1)
    ]) refl

abbrev SameOn : Counted → Counted → ℕ → List Step → Type 0
SameOn c d n ss = Every (λ (s : Step). s.row ≡ n → c s.by s.undo ≡ d s.by s.undo) ss

both_same : (x y v : Bool) → (v ≡ true → x ≡ y) → (x && v) ≡ (y && v)
both_same x y true h = ap (λ z. z && true) (h refl)
both_same x y false h = and_right x false refl ∙ sym (and_right y false refl)

stamp_same : (c d : Counted) (ss : List Step) (n : ℕ) → SameOn c d n ss → step_stamp c ss n ≡ step_stamp d ss n
stamp_same c d [] n h = refl
stamp_same c d (s ∷ ss) n h = ap₂ (λ v (o : Option Stamp). cond v (Some (record { by = s.by; undo = s.undo })) o) (both_same (c s.by s.undo) (d s.by s.undo) (eqb s.row n) (λ e. h.0 (eqb-true s.row n e))) (stamp_same c d ss n h.1)

located_same : (c d : Counted) (ss : List Step) (n : ℕ) → SameOn c d n ss → located c ss n ≡ located d ss n
located_same c d [] n h = refl
located_same c d (s ∷ ss) n h = ap₂ (λ v (o : Option Found). cond v (place_of s.parts) o) (both_same (c s.by s.undo) (d s.by s.undo) (eqb s.row n) (λ e. h.0 (eqb-true s.row n e))) (located_same c d ss n h.1)

every-of : (P : Step → Type 0) (ss : List Step) → ((s : Step) → P s) → Every P ss
every-of P [] f = tt
every-of P (s ∷ ss) f = (f s, every-of P ss f)

-- what counts, as the list grows

abbrev counting : List Record → ℕ → ℕ → Counted
counting R s t w a = counts R s t w

counts_stay : (R : List Record) (r : Record) (s t : ℕ) → s ≤ commit_count R → (w : Writer) → counts (r ∷ R) s t w ≡ counts R s t w
counts_stay R r s t l (At c) = refl
counts_stay R (Commit c) s t l (By u) = ap (λ v. eqb u t || (v || is_committed_by R s u)) (and_right (eqb c.txn u) _ (le-ltb (commit_count R) s l))
counts_stay R _ s t l (By u) = refl

active_off : (sh : Shape) (R : List Record) (s t u : ℕ) → AreAllowed sh R → is_active R u ≡ true → (u ≡ t → ⊥) → counts R s t (By u) ≡ false
active_off sh R s t u h on ne = both_off (eqb u t) (is_committed_by R s u) (ne_eqb u t ne) ((known sh R s u h).open' on)
  where
    both_off : (x y : Bool) → x ≡ false → y ≡ false → (x || y) ≡ false
    both_off x y p q = rw (p, q) refl

not_by : (w : Writer) (t u : ℕ) → IsNotBy w t → w ≡ By u → u ≡ t → ⊥
not_by (By v) t u f e g = f ((let x : v ≡ u = cc in x) ∙ g)
not_by (At c) t u f e g = absurd (let x : At c ≡ By u = e in cc)

step_off : (sh : Shape) (R : List Record) (st : Step) (s t : ℕ) → AreAllowed sh R → s ≤ commit_count R → Basics R st → IsNotBy st.by t → counts R s t st.by ≡ false
step_off sh R st s t h l f n = go st.by refl
  where
    go : (w : Writer) → st.by ≡ w → counts R s t w ≡ false
    go (By u) e = active_off sh R s t u h (f.live u e) (λ g. not_by st.by t u n e g)
    go (At m) e = lt-leb m s (let k = f.number m e in omega (arith, k))

-- what a Back takes doesn't count
taken_off : (sh : Shape) (R : List Record) (s t : ℕ) (y : BackRecord) → AreAllowed sh R → BackFits R y → y.txn ≢ t → Every (λ (x : Step). is_addr x.undo y.undo ≡ true → counts R s t x.by ≡ false) (standing R)
taken_off sh R s t y h f ne =
    let d = (good sh R (whole sh R h).fit).held.distinct in
    let tp : Tops y.undo y.txn (standing R) = subst (λ x. Tops x y.txn (standing R)) (sym f.undo) (tops (standing R) y.txn f.step d f.newest) in
    every-map _ _ (standing R) (λ x by same. ap (counts R s t) (by_of x.by y.txn (by same)) ∙ active_off sh R s t y.txn h f.active ne) (tops_by y.undo y.txn (standing R) tp)

made_off : (c : Counted) (a : UndoAddr) (ss : List Step) (w : Writer) (x : UndoAddr) → Every (λ (s : Step). is_addr s.undo a ≡ true → c s.by s.undo ≡ false) ss → Stands ss w x → is_addr x a ≡ true → c w x ≡ false
made_off c a [] w x h st e = absurd st
made_off c a (s ∷ ss) w x h st e = elim st [
  | inl y ↦ subst (λ z. c z x ≡ false) y.0 (subst (λ z. c s.by z ≡ false) y.1 (h.0 (subst (λ z. is_addr z a ≡ true) (sym y.1) e)))
  | inr z ↦ made_off c a ss w x h.1 z e
]

-- at Q's commits a slot and a row stay as they were

record SameAt (P Q : List Record) (b k s t n : ℕ) : Type 0 where
  made : top_made (counting P s t) (makers P b k) ≡ top_made (counting Q s t) (makers Q b k)
  stamp : step_stamp (counting P s t) (standing P) n ≡ step_stamp (counting Q s t) (standing Q) n
  place : located (counting P s t) (standing P) n ≡ located (counting Q s t) (standing Q) n

-- by an effect, with what counts before it
record EffectSame (R : List Record) (ef : Effect) (b k n : ℕ) (c : Counted) : Type 0 where
  made : top_made c (changed_makers ef b k (makers R b k)) ≡ top_made c (makers R b k)
  stamp : step_stamp c (standing_steps ef (standing R)) n ≡ step_stamp c (standing R) n
  place : located c (standing_steps ef (standing R)) n ≡ located c (standing R) n

effect_same : (sh : Shape) (R : List Record) (ef : Effect) (b k s t n : ℕ) → AreAllowed sh R → EffectFits R ef → EffectBasics R ef → s ≤ commit_count R → IsQuiet t b ef → EffectSame R ef b k n (counting R s t)
effect_same sh R Still b k s t n h f x l q = record { made = refl; stamp = refl; place = refl }
effect_same sh R (Cleans d cs) b k s t n h f x l q = record { made = refl; stamp = refl; place = refl }
effect_same sh R (Formats d) b k s t n h f x l q = record { made = ap (top_made (counting R s t)) (cond-false _ _ _ (ne_eqb d b (λ e. q.1 (ap Formats e)))); stamp = refl; place = refl }
effect_same sh R (Adds st) b k s t n h f x l q =
    let off = step_off sh R st s t h l x q.0 in
    record {
      made = top_skip (counting R s t) st 0 st.parts b k (makers R b k) off;
      stamp = cond-false _ _ _ (and_left (counts R s t st.by) (eqb st.row n) off);
      place = cond-false _ _ _ (and_left (counts R s t st.by) (eqb st.row n) off);
    }
effect_same sh R (TakesBack y) b k s t n h f x l q =
    let off = taken_off sh R s t y h f q.0 in
    let stand = (good sh R (whole sh R h).fit).held.stand b k in
    record {
      made = top_without (counting R s t) y.undo (makers R b k) (every-map _ _ (makers R b k) (λ m z e. made_off (counting R s t) y.undo (standing R) m.by m.undo off z e) stand);
      stamp = steps_without (counting R s t) y.undo (standing R) n off;
      place = located_without (counting R s t) y.undo (standing R) n off;
    }

all_same_on : (c d : Counted) (n : ℕ) (ss : List Step) → ((w : Writer) (a : UndoAddr) → c w a ≡ d w a) → SameOn c d n ss
all_same_on c d n ss f = every-of _ ss (λ s e. f s.by s.undo)

same_at : (sh : Shape) (b k s t n : ℕ) (Q R : List Record) → AreAllowed sh R → s ≤ commit_count Q → Later (IsQuiet t b) Q R → SameAt R Q b k s t n
same_at sh b k s t n Q R h l not_later = record { made = refl; stamp = refl; place = refl }
same_at sh b k s t n Q R h l (one_later {R = P} r x q) =
    let ih = same_at sh b k s t n Q P h.0 l x in
    let lp = le_trans l (later_commits (IsQuiet t b) Q P x) in
    let e = effect_same sh P (effect_of r) b k s t n h.0 (record_fits sh P r h).effect (basics sh P r h.1.kind) lp q in
    let c : (w : Writer) (a : UndoAddr) → counting (r ∷ P) s t w a ≡ counting P s t w a = λ w a. counts_stay P r s t lp w in
    let on = all_same_on (counting (r ∷ P) s t) (counting P s t) n (standing (r ∷ P)) c in
    record {
      made = top_same (counting (r ∷ P) s t) (counting P s t) (makers (r ∷ P) b k) c ∙ e.made ∙ ih.made;
      stamp = stamp_same (counting (r ∷ P) s t) (counting P s t) (standing (r ∷ P)) n on ∙ e.stamp ∙ ih.stamp;
      place = located_same (counting (r ∷ P) s t) (counting P s t) (standing (r ∷ P)) n on ∙ e.place ∙ ih.place;
    }

-- where nothing changed the row, what counts at all commits of its steps counted at Q's

settled_same : (sh : Shape) (P : List Record) (s S t : ℕ) (w : Writer) → AreAllowed sh P → Settled P s w → Settled P S w → counts P S t w ≡ counts P s t w
settled_same sh P s S t (At m) h a b = b ∙ sym a
settled_same sh P s S t (By u) h a b = ap (λ v. eqb u t || v) (elim (cases_Bool (is_active P u)) [
  | inl on ↦ (known sh P S u h).open' on ∙ sym ((known sh P s u h).open' on)
  | inr off ↦ over S b off ∙ sym (over s a off)
])
  where
    over : (z : ℕ) → Settled P z (By u) → is_active P u ≡ false → is_committed_by P z u ≡ true
    over z (inl on) off = absurd (true≢false (sym on ∙ off))
    over z (inr c) off = c

settled_on : (sh : Shape) (P : List Record) (s S t n : ℕ) (ss : List Step) → AreAllowed sh P → Every (λ (x : Step). Settled P s x.by) ss → Every (λ (x : Step). Settled P S x.by) ss → SameOn (counting P S t) (counting P s t) n ss
settled_on sh P s S t n [] h a b = tt
settled_on sh P s S t n (x ∷ ss) h a b = ((λ e. settled_same sh P s S t x.by h a.0 b.0), settled_on sh P s S t n ss h a.1 b.1)

none_touch : (ss : List Step) (u n : ℕ) → touches ss u n ≡ false → Every (λ (x : Step). (is_by x.by u && eqb x.row n) ≡ false) ss
none_touch [] u n h = tt
none_touch (x ∷ ss) u n h = let q = or_parts (is_by x.by u && eqb x.row n) (touches ss u n) h in (q.0, none_touch ss u n q.1)

touches_own : (ss : List Step) (u n : ℕ) → touches (own u ss) u n ≡ touches ss u n
touches_own [] u n = refl
touches_own (x ∷ ss) u n =
    (elim (is_by x.by u) as (λ v. is_by x.by u ≡ v → touches (cond v (x ∷ own u ss) (own u ss)) u n ≡ ((v && eqb x.row n) || touches ss u n)) [
      | true ↦ λ e. ap₂ (λ a b. (a && eqb x.row n) || b) e (touches_own ss u n)
      | false ↦ λ e. touches_own ss u n
    ]) refl

-- a commit counts only its own
commit_on : (P : List Record) (c : CommitRecord) (S t n : ℕ) (ss : List Step) → Every (λ (x : Step). (is_by x.by c.txn && eqb x.row n) ≡ false) ss → SameOn (counting (Commit c ∷ P) S t) (counting P S t) n ss
commit_on P c S t n [] h = tt
commit_on P c S t n (x ∷ ss) h = ((λ e. go x.by (sym (and_true (is_by x.by c.txn)) ∙ ap (λ v. is_by x.by c.txn && v) (sym (eq-eqb x.row n e)) ∙ h.0)), commit_on P c S t n ss h.1)
  where
    and_true : (v : Bool) → (v && true) ≡ v
    and_true true = refl
    and_true false = refl

    go : (w : Writer) → is_by w c.txn ≡ false → counts (Commit c ∷ P) S t w ≡ counts P S t w
    go (At m) f = refl
    go (By u) f = ap (λ v. eqb u t || (v || is_committed_by P S u)) (and_left (eqb c.txn u) _ (ne_eqb c.txn u (λ e. eqb-false u c.txn f (sym e))))

abbrev IsNoCommit : Record → Type 0
IsNoCommit (Commit c) = ⊥
IsNoCommit _ = Unit {0}

counts_keep : (P : List Record) (r : Record) (S t : ℕ) (w : Writer) → IsNoCommit r → counts (r ∷ P) S t w ≡ counts P S t w
counts_keep P r S t (At m) f = refl
counts_keep P (Commit c) S t (By u) f = absurd f
counts_keep P _ S t (By u) f = refl

no_commit : (r : Record) (ss : List Step) (n : ℕ) → IsNoCommit r → commits_row (txn_effect r) ss n ≡ false
no_commit (Commit c) ss n f = absurd f
no_commit _ ss n f = refl

on_trans : (c d e : Counted) (n : ℕ) (ss : List Step) → SameOn c d n ss → SameOn d e n ss → SameOn c e n ss
on_trans c d e n [] f g = tt
on_trans c d e n (x ∷ ss) f g = ((λ y. f.0 y ∙ g.0 y), on_trans c d e n ss f.1 g.1)

on_sym : (c d : Counted) (n : ℕ) (ss : List Step) → SameOn c d n ss → SameOn d c n ss
on_sym c d n ss f = every-map _ _ ss (λ x g y. sym (g y)) f

-- a step of another, at any number
by_off : (sh : Shape) (P : List Record) (st : Step) (S t u : ℕ) → AreAllowed sh P → Basics P st → IsNotBy st.by t → st.by ≡ By u → counts P S t st.by ≡ false
by_off sh P st S t u h f n e = ap (counts P S t) e ∙ active_off sh P S t u h (f.live u e) (λ g. not_by st.by t u n e g)

unchanged_effect : (sh : Shape) (P : List Record) (ef : Effect) (b s S t n : ℕ) → AreAllowed sh P → EffectBasics P ef → IsQuiet t b ef → moves_row ef n ≡ false
    → SameOn (counting P S t) (counting P s t) n (standing P) → SameOn (counting P S t) (counting P s t) n (standing_steps ef (standing P))
unchanged_effect sh P Still b s S t n h x q m k = k
unchanged_effect sh P (Formats d) b s S t n h x q m k = k
unchanged_effect sh P (Cleans d cs) b s S t n h x q m k = k
unchanged_effect sh P (TakesBack y) b s S t n h x q m k = every-filter _ _ (standing P) k
unchanged_effect sh P (Adds st) b s S t n h x q m k = (go st.by refl, k)
  where
    go : (w : Writer) → st.by ≡ w → st.row ≡ n → counts P S t st.by ≡ counts P s t st.by
    go (By u) e y = by_off sh P st S t u h x q.0 e ∙ sym (by_off sh P st s t u h x q.0 e)
    go (At c) e y = absurd (true≢false (sym (and_from (is_move st.by) (eqb st.row n) (ap is_move e) (eq-eqb st.row n y)) ∙ m))

-- what a record has to do with the row
row_parts : (P : List Record) (r : Record) (s n : ℕ) → s ≤ commit_count P → changed_above (r ∷ P) s n ≡ false → (commits_row (txn_effect r) (steps P) n ≡ false) × (moves_row (effect_of r) n ≡ false) × (changed_above P s n ≡ false)
row_parts P r s n l f =
    let q = or_parts (leb s (commit_count P) && (commits_row (txn_effect r) (steps P) n || moves_row (effect_of r) n)) (changed_above P s n) f in
    let z = or_parts (commits_row (txn_effect r) (steps P) n) (moves_row (effect_of r) n) (sym (ap (λ v. v && (commits_row (txn_effect r) (steps P) n || moves_row (effect_of r) n)) (le-leb s (commit_count P) l)) ∙ q.0) in
    (z.0, z.1, q.1)

no_touch : (sh : Shape) (P : List Record) (c : CommitRecord) (n : ℕ) → AreAllowed sh (Commit c ∷ P) → touches (standing P) c.txn n ≡ touches (steps P) c.txn n
no_touch sh P c n h =
    sym (touches_own (standing P) c.txn n) ∙ ap (λ us. touches us c.txn n) (sym ((ready sh P (whole sh P h.0).fit).whole c.txn h.1.kind.whole)) ∙ touches_own (steps P) c.txn n

unchanged_one : (sh : Shape) (P : List Record) (r : Record) (b s S t n : ℕ) → AreAllowed sh (r ∷ P) → s ≤ commit_count P → IsQuiet t b (effect_of r) → commits_row (txn_effect r) (steps P) n ≡ false → moves_row (effect_of r) n ≡ false
    → SameOn (counting P S t) (counting P s t) n (standing P) → SameOn (counting (r ∷ P) S t) (counting (r ∷ P) s t) n (standing (r ∷ P))
unchanged_one sh P r b s S t n h l q cr mr k = other (kept r)
  where
    kept : (r : Record) → IsNoCommit r ⊎ ((c : CommitRecord) × (r ≡ Commit c))
    kept (Commit c) = inr (c, refl)
    kept _ = inl tt

    other : IsNoCommit r ⊎ ((c : CommitRecord) × (r ≡ Commit c)) → SameOn (counting (r ∷ P) S t) (counting (r ∷ P) s t) n (standing (r ∷ P))
    other (inl f) =
        let e = unchanged_effect sh P (effect_of r) b s S t n h.0 (basics sh P r h.1.kind) q mr k in
        on_trans _ (counting P S t) _ n (standing (r ∷ P)) (all_same_on (counting (r ∷ P) S t) (counting P S t) n (standing (r ∷ P)) (λ w a. counts_keep P r S t w f))
        (on_trans _ (counting P s t) _ n (standing (r ∷ P)) e (on_sym (counting (r ∷ P) s t) (counting P s t) n (standing (r ∷ P)) (all_same_on (counting (r ∷ P) s t) (counting P s t) n (standing (r ∷ P)) (λ w a. counts_stay P r s t l w))))
    other (inr y) = subst (λ z. SameOn (counting (z ∷ P) S t) (counting (z ∷ P) s t) n (standing (z ∷ P))) (sym y.1)
        (unchanged_commit y.0 (subst (λ z. AreAllowed sh (z ∷ P)) y.1 h) (subst (λ z. commits_row (txn_effect z) (steps P) n ≡ false) y.1 cr))
      where
        unchanged_commit : (c : CommitRecord) → AreAllowed sh (Commit c ∷ P) → touches (steps P) c.txn n ≡ false → SameOn (counting (Commit c ∷ P) S t) (counting (Commit c ∷ P) s t) n (standing P)
        unchanged_commit c g z =
            on_trans _ (counting P S t) _ n (standing P) (commit_on P c S t n (standing P) (none_touch (standing P) c.txn n (no_touch sh P c n g ∙ z)))
            (on_trans _ (counting P s t) _ n (standing P) k (on_sym (counting (Commit c ∷ P) s t) (counting P s t) n (standing P) (all_same_on (counting (Commit c ∷ P) s t) (counting P s t) n (standing P) (λ w a. counts_stay P (Commit c) s t l w))))

unchanged : (sh : Shape) (b s S t n : ℕ) (Q R : List Record) → AreAllowed sh R → s ≡ commit_count Q → s ≤ S → Later (IsQuiet t b) Q R → changed_above R s n ≡ false → SameOn (counting R S t) (counting R s t) n (standing R)
unchanged sh b s S t n Q R h l m not_later f =
    let g = ready sh Q (whole sh Q h).fit in
    settled_on sh Q s S t n (standing Q) h (g.settled s (omega (arith, l))) (g.settled S (omega (arith, l, m)))
unchanged sh b s S t n Q R h l m (one_later {R = P} r x q) f =
    let lp : s ≤ commit_count P = (let y = later_commits (IsQuiet t b) Q P x in omega (arith, l, y)) in
    let z = row_parts P r s n lp f in
    unchanged_one sh P r b s S t n h lp q z.0 z.1 (unchanged sh b s S t n Q P h.0 l m x z.2)

-- where something changed it, the newest step of the row that counts is none that counted

newest_touch : (active : ℕ → Bool) (ss : List Step) (u n : ℕ) → RowLock active ss → active u ≡ true → touches ss u n ≡ true → (last : Step) × (newest_on ss n ≡ Some last) × (last.by ≡ By u)
newest_touch active [] u n l on h = absurd (true≢false (sym h))
newest_touch active (x ∷ ss) u n l on h = elim (cases_Bool (eqb x.row n)) [
  | inr f ↦
      let r = newest_touch active ss u n l.1 on (sym (ap (λ v. v || touches ss u n) (and_right (is_by x.by u) (eqb x.row n) f)) ∙ h) in
      (r.0, cond-false _ _ _ f ∙ r.1, r.2)
  | inl y ↦ elim (cases_Bool (is_by x.by u)) [
    | inl mine ↦ (x, cond-true _ _ _ y, by_of x.by u mine)
    | inr other ↦
        let below : touches ss u n ≡ true = sym (ap (λ v. v || touches ss u n) (and_left (is_by x.by u) (eqb x.row n) other)) ∙ h in
        absurd (true≢false (sym (over ss l.0 below (eqb-true x.row n y)) ∙ other))
  ]
]
  where
    over : (ts : List Step) → Every (λ (s : Step). s.row ≡ x.row → MayOver active x.by s.by) ts → touches ts u n ≡ true → x.row ≡ n → is_by x.by u ≡ true
    over [] f t e = absurd (true≢false (sym t))
    over (s ∷ ts) f t e = elim (or_cases (is_by s.by u && eqb s.row n) (touches ts u n) t) [
      | inl z ↦
          let q = and_parts (is_by s.by u) (eqb s.row n) z in
          let o : MayOver active x.by (By u) = subst (MayOver active x.by) (by_of s.by u q.0) (f.0 (eqb-true s.row n q.1 ∙ sym e)) in
          ap (λ w. is_by w u) (o on) ∙ eq-eqb u u refl
      | inr z ↦ over ts f.1 z e
    ]

step_newest : (c : Counted) (ss : List Step) (n : ℕ) (last : Step) → newest_on ss n ≡ Some last → c last.by last.undo ≡ true → step_stamp c ss n ≡ Some (record { by = last.by; undo = last.undo })
step_newest c [] n last h y = absurd (let x : ◌≡◌ {A = Option Step} None (Some last) = h in cc)
step_newest c (x ∷ ss) n last h y =
    (elim (eqb x.row n) as (λ v. cond v (Some x) (newest_on ss n) ≡ Some last → cond (c x.by x.undo && v) (Some (record { by = x.by; undo = x.undo })) (step_stamp c ss n) ≡ Some (record { by = last.by; undo = last.undo })) [
      | true ↦ λ e. let same : last ≡ x = cc in subst (λ (s : Step). c s.by s.undo ≡ true → cond (c x.by x.undo && true) (Some (record { by = x.by; undo = x.undo })) (step_stamp c ss n) ≡ Some (record { by = s.by; undo = s.undo })) (sym same) (λ on. cond-true _ _ _ (and_from (c x.by x.undo) true on refl)) y
      | false ↦ λ e. cond-false _ _ _ (and_right (c x.by x.undo) false refl) ∙ step_newest c ss n last e y
    ]) h

same_stamp : (x y : Stamp) → ◌≡◌ {A = Option Stamp} (Some x) (Some y) → x ≡ y
same_stamp x y e = cc

abbrev NewlyOn : List Record → ℕ → ℕ → ℕ → ℕ → List Step → Type 0
NewlyOn P s S t n ss = (x : Stamp) → step_stamp (counting P S t) ss n ≡ Some x → counts P s t x.by ≡ false

abbrev EffectMoves : ℕ → Effect → Type 0
EffectMoves S (Adds st) = (m : ℕ) → st.by ≡ At m → m ≤ S
EffectMoves S _ = Unit {0}

not_at : (P : Type 0) (t m : ℕ) → By t ≡ At m → P
not_at P t m e = absurd cc

move_counted : (sh : Shape) (P : List Record) (r : Record) (S : ℕ) → IsKindAllowed sh P r → commit_count (r ∷ P) ≤ S → EffectMoves S (effect_of r)
move_counted sh P (Insert w) S a l = λ m e. not_at _ w.txn m e
move_counted sh P (Update w) S a l = λ m e. not_at _ w.txn m e
move_counted sh P (Migrate w) S a l = λ m e. not_at _ w.txn m e
move_counted sh P (Return w) S a l = λ m e. not_at _ w.txn m e
move_counted sh P (Delete w) S a l = λ m e. not_at _ w.txn m e
move_counted sh P (Move v) S a l = λ m e. (let k = (basics sh P (Move v) a).number m e in omega (arith, k, l))
move_counted sh P _ S a l = tt

newly_effect : (sh : Shape) (P : List Record) (ef : Effect) (b s S t n : ℕ) → AreAllowed sh P → EffectFits P ef → EffectBasics P ef → EffectMoves S ef → s ≤ commit_count P → IsQuiet t b ef → (moves_row ef n || changed_above P s n) ≡ true
    → (changed_above P s n ≡ true → NewlyOn P s S t n (standing P)) → NewlyOn P s S t n (standing_steps ef (standing P))
newly_effect sh P Still b s S t n h f x v l q m k = k m
newly_effect sh P (Formats d) b s S t n h f x v l q m k = k m
newly_effect sh P (Cleans d cs) b s S t n h f x v l q m k = k m
newly_effect sh P (TakesBack y) b s S t n h f x v l q m k = λ z e. k m z (sym (steps_without (counting P S t) y.undo (standing P) n (taken_off sh P S t y h f q.0)) ∙ e)
newly_effect sh P (Adds st) b s S t n h f x v l q m k = go st.by refl
  where
    go : (w : Writer) → st.by ≡ w → NewlyOn P s S t n (st ∷ standing P)
    go (By u) e = λ z y. k (sym (ap (λ a. a || changed_above P s n) (and_left (is_move st.by) (eqb st.row n) (ap is_move e))) ∙ m) z
        (sym (cond-false _ _ _ (and_left (counts P S t st.by) (eqb st.row n) (by_off sh P st S t u h x q.0 e))) ∙ y)
    go (At c) e = λ z y. elim (cases_Bool (eqb st.row n)) [
      | inl here ↦
          let on : counts P S t st.by ≡ true = ap (counts P S t) e ∙ le-leb c S (v c e) in
          let same = same_stamp (record { by = st.by; undo = st.undo }) z (sym (cond-true _ _ _ (and_from (counts P S t st.by) (eqb st.row n) on here)) ∙ y) in
          ap (λ (w : Stamp). counts P s t w.by) (sym same) ∙ ap (counts P s t) e ∙ lt-leb c s (let j = x.number c e in omega (arith, j, l))
      | inr away ↦ k (sym (ap (λ a. a || changed_above P s n) (and_right (is_move st.by) (eqb st.row n) away)) ∙ m) z
          (sym (cond-false _ _ _ (and_right (counts P S t st.by) (eqb st.row n) away)) ∙ y)
    ]

newly_commit : (sh : Shape) (P : List Record) (c : CommitRecord) (s S t n : ℕ) → AreAllowed sh (Commit c ∷ P) → s ≤ commit_count P → suc (commit_count P) ≤ S → (c.txn ≡ t → ⊥) → (touches (steps P) c.txn n || changed_above P s n) ≡ true
    → (changed_above P s n ≡ true → NewlyOn P s S t n (standing P)) → NewlyOn (Commit c ∷ P) s S t n (standing P)
newly_commit sh P c s S t n h l u ne m k = elim (cases_Bool (touches (steps P) c.txn n)) [
  | inl y ↦
      let on = h.1.kind.active in
      let r = newest_touch (is_active P) (standing P) c.txn n (ready sh P (whole sh P h.0).fit).lock on (no_touch sh P c n h ∙ y) in
      let counted : counts (Commit c ∷ P) S t r.0.by ≡ true = ap (counts (Commit c ∷ P) S t) r.2 ∙ or_right (eqb c.txn t) _ (or_left _ _ (and_from (eqb c.txn c.txn) _ (eq-eqb c.txn c.txn refl) (lt-ltb (commit_count P) S u))) in
      λ z e.
      let same = same_stamp (record { by = r.0.by; undo = r.0.undo }) z (sym (step_newest (counting (Commit c ∷ P) S t) (standing P) n r.0 r.1 counted) ∙ e) in
      ap (λ (w : Stamp). counts (Commit c ∷ P) s t w.by) (sym same) ∙ ap (counts (Commit c ∷ P) s t) r.2 ∙ counts_stay P (Commit c) s t l (By c.txn) ∙ active_off sh P s t c.txn h.0 on ne
  | inr f ↦ λ z e. counts_stay P (Commit c) s t l z.by ∙ k (sym (ap (λ v. v || changed_above P s n) f) ∙ m) z
      (sym (stamp_same (counting (Commit c ∷ P) S t) (counting P S t) (standing P) n (commit_on P c S t n (standing P) (none_touch (standing P) c.txn n (no_touch sh P c n h ∙ f)))) ∙ e)
]

-- a record that is no commit
newly_other : (sh : Shape) (P : List Record) (r : Record) (b s S t n : ℕ) → IsNoCommit r → AreAllowed sh (r ∷ P) → s ≤ commit_count P → commit_count (r ∷ P) ≤ S → IsQuiet t b (effect_of r) → (moves_row (effect_of r) n || changed_above P s n) ≡ true
    → (changed_above P s n ≡ true → NewlyOn P s S t n (standing P)) → NewlyOn (r ∷ P) s S t n (standing (r ∷ P))
newly_other sh P r b s S t n f h l u q m k = λ z e. counts_stay P r s t l z.by
    ∙ newly_effect sh P (effect_of r) b s S t n h.0 (record_fits sh P r h).effect (basics sh P r h.1.kind) (move_counted sh P r S h.1.kind u) l q m k z
    (sym (stamp_same (counting (r ∷ P) S t) (counting P S t) (standing (r ∷ P)) n (all_same_on (counting (r ∷ P) S t) (counting P S t) n (standing (r ∷ P)) (λ w a. counts_keep P r S t w f))) ∙ e)

-- nothing changed it above the list's own commits

counts_more : (R : List Record) (r : Record) → commit_count R ≤ commit_count (r ∷ R)
counts_more R r = later_commits (λ e. Unit {0}) R (r ∷ R) (one_later r not_later tt)

quiet_row : (P : List Record) (r : Record) (s n : ℕ) → commit_count (r ∷ P) ≤ s → (leb s (commit_count P) && (commits_row (txn_effect r) (steps P) n || moves_row (effect_of r) n)) ≡ false
quiet_row P (Commit c) s n l = and_left (leb s (commit_count P)) _ (lt-leb s (commit_count P) (omega (arith, l)))
quiet_row P (Move m) s n l = and_left (leb s (commit_count P)) _ (lt-leb s (commit_count P) (omega (arith, l)))
quiet_row P _ s n l = and_right (leb s (commit_count P)) _ refl

none_above : (Q : List Record) (s n : ℕ) → commit_count Q ≤ s → changed_above Q s n ≡ false
none_above [] s n l = refl
none_above (r ∷ P) s n l = ap₂ (λ x y. x || y) (quiet_row P r s n l) (none_above P s n (le_trans (counts_more P r) l))

-- t never commits

never_before : (P : List Record) (r : Record) (S t : ℕ) → is_committed_by (r ∷ P) S t ≡ false → is_committed_by P S t ≡ false
never_before P (Commit c) S t f = (or_parts (eqb c.txn t && ltb (commit_count P) S) (is_committed_by P S t) f).1
never_before P _ S t f = f

newly : (sh : Shape) (b s S t n : ℕ) (Q R : List Record) → AreAllowed sh R → s ≡ commit_count Q → commit_count R ≤ S → is_committed_by R S t ≡ false → Later (IsQuiet t b) Q R → changed_above R s n ≡ true → NewlyOn R s S t n (standing R)
newly sh b s S t n Q R h l u never not_later m = absurd (true≢false (sym m ∙ none_above Q s n (omega (arith, l))))
newly sh b s S t n Q R h l u never (one_later {R = P} r x q) m =
    let lp : s ≤ commit_count P = (let y = later_commits (IsQuiet t b) Q P x in omega (arith, l, y)) in
    let again : changed_above P s n ≡ true → NewlyOn P s S t n (standing P) = λ k. newly sh b s S t n Q P h.0 l (le_trans (counts_more P r) u) (never_before P r S t never) x k in
    let parts : ((commits_row (txn_effect r) (steps P) n || moves_row (effect_of r) n) || changed_above P s n) ≡ true =
    sym (ap (λ v. (v && (commits_row (txn_effect r) (steps P) n || moves_row (effect_of r) n)) || changed_above P s n) (le-leb s (commit_count P) lp)) ∙ m in
    one_newly sh P r b s S t n h lp u never q parts again
  where
    one_newly : (sh : Shape) (P : List Record) (r : Record) (b s S t n : ℕ) → AreAllowed sh (r ∷ P) → s ≤ commit_count P → commit_count (r ∷ P) ≤ S → is_committed_by (r ∷ P) S t ≡ false → IsQuiet t b (effect_of r)
        → ((commits_row (txn_effect r) (steps P) n || moves_row (effect_of r) n) || changed_above P s n) ≡ true → (changed_above P s n ≡ true → NewlyOn P s S t n (standing P)) → NewlyOn (r ∷ P) s S t n (standing (r ∷ P))
    one_newly sh P (Commit c) b s S t n h lp u never q parts again =
        newly_commit sh P c s S t n h lp u (λ e. true≢false (sym (and_from (eqb c.txn t) (ltb (commit_count P) S) (eq-eqb c.txn t e) (lt-ltb (commit_count P) S u)) ∙ (or_parts (eqb c.txn t && ltb (commit_count P) S) (is_committed_by P S t) never).0))
        (or_simple (touches (steps P) c.txn n) (changed_above P s n) parts) again
      where
        or_simple : (x y : Bool) → ((x || false) || y) ≡ true → (x || y) ≡ true
        or_simple true y e = refl
        or_simple false y e = e
    one_newly sh P r b s S t n h lp u never q parts again = newly_other sh P r b s S t n tt h lp u q parts again

-- both

active_one : (sh : Shape) (R : List Record) (t : ℕ) → AreAllowed sh R → is_active R t ≡ true → 1 ≤ t
active_one sh [] t h on = absurd (true≢false (sym on))
active_one sh (r ∷ R) t h on = elim ((turn sh R r h.1.kind).live t on) [ inl y ↦ active_one sh R t h.0 y | inr l ↦ omega (arith, l) ]

zero_never : (sh : Shape) (R : List Record) (S : ℕ) → AreAllowed sh R → is_committed_by R S 0 ≡ false
zero_never sh [] S h = refl
zero_never sh (Commit c ∷ P) S h =
    let off : eqb c.txn 0 ≡ false = ne_eqb c.txn 0 (λ e. let l = active_one sh P c.txn h.0 h.1.kind.active in omega (arith, l, e)) in
    ap (λ v. v || is_committed_by P S 0) (and_left (eqb c.txn 0) (ltb (commit_count P) S) off) ∙ zero_never sh P S h.0
zero_never sh (_ ∷ P) S h = zero_never sh P S h.0

never_of : (sh : Shape) (R : List Record) (S t : ℕ) → AreAllowed sh R → IsOpen R t → is_committed_by R S t ≡ false
never_of sh R S t h (inl z) = ap (is_committed_by R S) z ∙ zero_never sh R S h
never_of sh R S t h (inr on) = (known sh R S t h).open' on

committed_more : (R : List Record) (s S u : ℕ) → s ≤ S → is_committed_by R s u ≡ true → is_committed_by R S u ≡ true
committed_more [] s S u l h = h
committed_more (Commit c ∷ P) s S u l h = elim (or_cases (eqb c.txn u && ltb (commit_count P) s) (is_committed_by P s u) h) [
  | inl y ↦ let q = and_parts (eqb c.txn u) (ltb (commit_count P) s) y in or_left _ _ (and_from (eqb c.txn u) _ q.0 (lt-ltb (commit_count P) S (let k = ltb-true (commit_count P) s q.1 in omega (arith, k, l))))
  | inr z ↦ or_right (eqb c.txn u && ltb (commit_count P) S) _ (committed_more P s S u l z)
]
committed_more (_ ∷ P) s S u l h = committed_more P s S u l h

counts_grow : (R : List Record) (s S t : ℕ) (w : Writer) → s ≤ S → counts R s t w ≡ true → counts R S t w ≡ true
counts_grow R s S t (At c) l h = le-leb c S (let k = leb-true c s h in omega (arith, k, l))
counts_grow R s S t (By u) l h = elim (or_cases (eqb u t) (is_committed_by R s u) h) [ inl y ↦ or_left _ _ y | inr z ↦ or_right (eqb u t) _ (committed_more R s S u l z) ]

-- the newest that counts is the newest that counted, where it counted
same_top : (c d : Counted) (ms : List Made) (m : Made) → ((w : Writer) (a : UndoAddr) → d w a ≡ true → c w a ≡ true) → top_made c ms ≡ Some m → d m.by m.undo ≡ true → top_made d ms ≡ Some m
same_top c d [] m g e y = absurd (let z : ◌≡◌ {A = Option Made} None (Some m) = e in cc)
same_top c d (x ∷ ms) m g e y = elim (cases_Bool (c x.by x.undo)) [
  | inl on ↦ let z : ◌≡◌ {A = Option Made} (Some x) (Some m) = sym (cond-true _ _ _ on) ∙ e in let same : x ≡ m = cc in cond-true _ _ _ (subst (λ (v : Made). d v.by v.undo ≡ true) (sym same) y) ∙ ap (λ (v : Made). Some v) same
  | inr off ↦ elim (cases_Bool (d x.by x.undo)) [
    | inl bad ↦ absurd (true≢false (sym (g x.by x.undo bad) ∙ off))
    | inr fine ↦ cond-false _ _ _ fine ∙ same_top c d ms m g (sym (cond-false _ _ _ off) ∙ e) y
  ]
]

same_first : (c d : Counted) (i : Slot) (ms : List Made) (m : Made) → ((w : Writer) (a : UndoAddr) → d w a ≡ true → c w a ≡ true) → top_made c ms ≡ Some m → d m.by m.undo ≡ true → first_counted c i ms ≡ first_counted d i ms
same_first c d i [] m g e y = refl
same_first c d i (x ∷ ms) m g e y = elim (cases_Bool (c x.by x.undo)) [
  | inl on ↦ let z : ◌≡◌ {A = Option Made} (Some x) (Some m) = sym (cond-true _ _ _ on) ∙ e in let same : x ≡ m = cc in cond-true _ _ _ on ∙ sym (cond-true _ _ _ (subst (λ (v : Made). d v.by v.undo ≡ true) (sym same) y))
  | inr off ↦ elim (cases_Bool (d x.by x.undo)) [
    | inl bad ↦ absurd (true≢false (sym (g x.by x.undo bad) ∙ off))
    | inr fine ↦ cond-false _ _ _ off ∙ same_first c d x.old ms m g (sym (cond-false _ _ _ off) ∙ e) y ∙ sym (cond-false _ _ _ fine)
  ]
]

-- makers with one part are one
abbrev IsOneMade : Made → List Made → Type 0
IsOneMade m [] = ⊥
IsOneMade m (x ∷ ms) = (x ≡ m) ⊎ IsOneMade m ms

top_one : (c : Counted) (ms : List Made) (m : Made) → top_made c ms ≡ Some m → IsOneMade m ms × (c m.by m.undo ≡ true)
top_one c [] m e = absurd (let z : ◌≡◌ {A = Option Made} None (Some m) = e in cc)
top_one c (x ∷ ms) m e = elim (cases_Bool (c x.by x.undo)) [
  | inl on ↦ let z : ◌≡◌ {A = Option Made} (Some x) (Some m) = sym (cond-true _ _ _ on) ∙ e in let same : x ≡ m = cc in (inl same, subst (λ (v : Made). c v.by v.undo ≡ true) same on)
  | inr off ↦ let r = top_one c ms m (sym (cond-false _ _ _ off) ∙ e) in (inr r.0, r.1)
]

one_falls : (m x : Made) (ms : List Made) → EachMade (λ y. y.part.block ≡ m.part.block → y.part.seq ≡ m.part.seq → y.part.nth < m.part.nth) ms → IsOneMade x ms → x.part ≡ m.part → ⊥
one_falls m x [] f o e = o
one_falls m x (y ∷ ms) f o e = elim o [
  | inl same ↦
      let p : y.part ≡ m.part = ap (λ (v : Made). v.part) same ∙ e in
      let l = f.0 (ap (λ (a : UndoAddr). a.block) p) (ap (λ (a : UndoAddr). a.seq) p) in
      let q : y.part.nth ≡ m.part.nth = ap (λ (a : UndoAddr). a.nth) p in
      omega (arith, l, q)
  | inr z ↦ one_falls m x ms f.1 z e
]

one_part : (ms : List Made) (x y : Made) → Falls ms → IsOneMade x ms → IsOneMade y ms → x.part ≡ y.part → x ≡ y
one_part [] x y f a b e = absurd a
one_part (m ∷ ms) x y f a b e = elim a [
  | inl p ↦ elim b [
    | inl q ↦ sym p ∙ q
    | inr q ↦ absurd (one_falls m y ms f.0 q (sym e ∙ ap (λ (v : Made). v.part) (sym p)))
  ]
  | inr p ↦ elim b [
    | inl q ↦ absurd (one_falls m x ms f.0 p (e ∙ ap (λ (v : Made). v.part) (sym q)))
    | inr q ↦ one_part ms x y f.1 p q e
  ]
]

same_part : (x y : UndoAddr) → ◌≡◌ {A = Option UndoAddr} (Some x) (Some y) → x ≡ y
same_part x y e = cc

-- the facts of both lists, put together
record Both (R : List Record) (b k s S t n : ℕ) (bytes : List ℕ) : Type 0 where
  old : Made
  old_top : top_made (counting R s t) (makers R b k) ≡ Some old
  row : row_at R b k s t ≡ Some (n, bytes)
  stamp : step_stamp (counting R s t) (standing R) n ≡ Some (record { by = old.by; undo = old.undo })
  place : located (counting R s t) (standing R) n ≡ Some (b, k, bytes)
  less : s ≤ S
  made : seen (counting R S t) R b k ≡ Some (n, bytes) → made_stamp (counting R S t) (makers R b k) ≡ step_stamp (counting R S t) (standing R) n
  shown : located (counting R S t) (standing R) n ≡ Some (b, k, bytes) → seen (counting R S t) R b k ≡ Some (n, bytes)
  falls : Falls (makers R b k)

when_same : (R : List Record) (b k s S t n : ℕ) (bytes : List ℕ) → Both R b k s S t n bytes → SameOn (counting R S t) (counting R s t) n (standing R) → (top_made (counting R S t) (makers R b k) ≡ top_made (counting R s t) (makers R b k)) × (row_at R b k S t ≡ Some (n, bytes))
when_same R b k s S t n bytes x on =
    let row = x.shown (located_same (counting R S t) (counting R s t) (standing R) n on ∙ x.place) in
    let st : stamp_of (top_made (counting R S t) (makers R b k)) ≡ Some (record { by = x.old.by; undo = x.old.undo }) =
    sym (top_stamp (counting R S t) (makers R b k)) ∙ x.made row ∙ stamp_same (counting R S t) (counting R s t) (standing R) n on ∙ x.stamp in
    (go (top_made (counting R S t) (makers R b k)) refl st, row)
  where
    go : (o : Option Made) → top_made (counting R S t) (makers R b k) ≡ o → stamp_of o ≡ Some (record { by = x.old.by; undo = x.old.undo }) → top_made (counting R S t) (makers R b k) ≡ top_made (counting R s t) (makers R b k)
    go None e y = absurd (let z : ◌≡◌ {A = Option Stamp} None (Some (record { by = x.old.by; undo = x.old.undo })) = y in cc)
    go (Some m) e y =
        let by_is : m.by ≡ x.old.by = ap (λ (w : Stamp). w.by) (same_stamp _ _ y) in
        let counted : counts R s t m.by ≡ true = ap (counts R s t) by_is ∙ (top_one (counting R s t) (makers R b k) x.old x.old_top).1 in
        e ∙ sym (same_top (counting R S t) (counting R s t) (makers R b k) m (λ w a. counts_grow R s S t w x.less) e counted)

when_other : (R : List Record) (b k s S t n : ℕ) (bytes : List ℕ) → Both R b k s S t n bytes → NewlyOn R s S t n (standing R) → part_of (top_made (counting R S t) (makers R b k)) ≡ part_of (top_made (counting R s t) (makers R b k)) → ⊥
when_other R b k s S t n bytes x new e = go (top_made (counting R S t) (makers R b k)) refl
  where
    go : (o : Option Made) → top_made (counting R S t) (makers R b k) ≡ o → ⊥
    go None y = let z : ◌≡◌ {A = Option UndoAddr} None (Some x.old.part) = ap part_of (sym y) ∙ e ∙ ap part_of x.old_top in cc
    go (Some m) y =
        let part : m.part ≡ x.old.part = same_part _ _ (ap part_of (sym y) ∙ e ∙ ap part_of x.old_top) in
        let mine = top_one (counting R S t) (makers R b k) m y in
        let his = top_one (counting R s t) (makers R b k) x.old x.old_top in
        let one : m ≡ x.old = one_part (makers R b k) m x.old x.falls mine.0 his.0 part in
        let counted : counts R s t m.by ≡ true = ap (λ (v : Made). counts R s t v.by) one ∙ his.1 in
        let row : seen (counting R S t) R b k ≡ Some (n, bytes) = ap row_in (same_first (counting R S t) (counting R s t) (image R b k) (makers R b k) m (λ w a. counts_grow R s S t w x.less) y counted) ∙ x.row in
        let st : step_stamp (counting R S t) (standing R) n ≡ Some (record { by = m.by; undo = m.undo }) = sym (x.made row) ∙ top_stamp (counting R S t) (makers R b k) ∙ ap stamp_of y in
        true≢false (sym counted ∙ new (record { by = m.by; undo = m.undo }) st)

some_stamp : (o : Option Made) (b k n : ℕ) (bytes : List ℕ) (c : Counted) (ss : List Step) → located c ss n ≡ Some (b, k, bytes) → stamp_of o ≡ step_stamp c ss n → (m : Made) × (o ≡ Some m)
some_stamp (Some m) b k n bytes c ss e f = (m, refl)
some_stamp None b k n bytes c ss e f = absurd (none_located c ss n b k bytes (sym f) e)
  where
    none_located : (c : Counted) (ss : List Step) (n b k : ℕ) (bytes : List ℕ) → step_stamp c ss n ≡ None → located c ss n ≡ Some (b, k, bytes) → ⊥
    none_located c [] n b k bytes e f = let z : ◌≡◌ {A = Option Found} None (Some (b, k, bytes)) = f in cc
    none_located c (s ∷ ss) n b k bytes e f = elim (cases_Bool (c s.by s.undo && eqb s.row n)) [
      | inl y ↦ let z : ◌≡◌ {A = Option Stamp} (Some (record { by = s.by; undo = s.undo })) None = sym (cond-true _ _ _ y) ∙ e in cc
      | inr x ↦ none_located c ss n b k bytes (sym (cond-false _ _ _ x) ∙ e) (sym (cond-false _ _ _ x) ∙ f)
    ]

closed_at : (sh : Shape) (R : List Record) (s t : ℕ) → AreAllowed sh R → commit_count R ≤ s → IsClosed (counting R s t) (is_active R) (standing R)
closed_at sh R s t h l = closed_counts R s t (standing R) ((ready sh R (whole sh R h).fit).settled s l)

both : (sh : Shape) (Q R : List Record) (b k t n : ℕ) (bytes : List ℕ) → AreAllowed sh R → Later (IsQuiet t b) Q R → row_at Q b k (commit_count Q) t ≡ Some (n, bytes) → Both R b k (commit_count Q) (commit_count R) t n bytes
both sh Q R b k t n bytes h l e =
    let s = commit_count Q in
    let S = commit_count R in
    let hq = later_allowed sh (IsQuiet t b) Q R l h in
    let wq = whole sh Q hq in
    let w = whole sh R h in
    let same = same_at sh b k s t n Q R h (le_refl s) l in
    let in_q = (good sh Q wq.fit).spread (counting Q s t) (closed_at sh Q s t hq (le_refl s)) b k n bytes in
    let st_q = stamped sh Q wq.fit (counting Q s t) (closed_at sh Q s t hq (le_refl s)) b k n bytes e in
    let place_q = in_q.found e in
    let some = some_stamp (top_made (counting Q s t) (makers Q b k)) b k n bytes (counting Q s t) (standing Q) place_q (sym (top_stamp (counting Q s t) (makers Q b k)) ∙ st_q) in
    let in_r = (good sh R w.fit).spread (counting R S t) (closed_at sh R S t h (le_refl S)) b k n bytes in
    record {
      old = some.0;
      old_top = same.made ∙ some.1;
      row = blocks_stay sh Q R b k s t h (le_refl s) l ∙ e;
      stamp = same.stamp ∙ sym st_q ∙ top_stamp (counting Q s t) (makers Q b k) ∙ ap stamp_of some.1;
      place = same.place ∙ place_q;
      less = later_commits (IsQuiet t b) Q R l;
      made = stamped sh R w.fit (counting R S t) (closed_at sh R S t h (le_refl S)) b k n bytes;
      shown = in_r.shown;
      falls = makers_fall sh R b k h;
    }

pub places_tell : PlacesTell
places_tell sh Q R b k t n bytes h oq or' l e =
    let s = commit_count Q in
    let S = commit_count R in
    let x = both sh Q R b k t n bytes h l e in
    let hq = later_allowed sh (IsQuiet t b) Q R l h in
    let same = same_at sh b k s t n Q R h (le_refl s) l in
    let undo_r : (image_at R b k S t).undo ≡ part_of (top_made (counting R S t) (makers R b k)) = top_undo (counting R S t) (image R b k) (makers R b k) (slots_are_chains sh R b k h).chain in
    let undo_q : (image_at Q b k s t).undo ≡ part_of (top_made (counting Q s t) (makers Q b k)) = top_undo (counting Q s t) (image Q b k) (makers Q b k) (slots_are_chains sh Q b k hq).chain in
    let still : changed_above R s n ≡ false → SameOn (counting R S t) (counting R s t) n (standing R) = λ f. unchanged sh b s S t n Q R h refl x.less l f in
    record {
      same = λ f. undo_r ∙ ap part_of ((when_same R b k s S t n bytes x (still f)).0 ∙ same.made) ∙ sym undo_q;
      row = λ f. (when_same R b k s S t n bytes x (still f)).1;
      other = λ y z. when_other R b k s S t n bytes x (newly sh b s S t n Q R h refl (le_refl S) (never_of sh R S t h or') l y) (sym undo_r ∙ z ∙ undo_q ∙ ap part_of (sym same.made));
    }
