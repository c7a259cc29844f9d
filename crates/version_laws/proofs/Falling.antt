-- Makers of one slot have parts of their own.
use Rattle.std.proofs.Common.{◌≡◌, ℕ, zero, suc, ◌+◌, ◌*◌, ◌<◌, ◌≤◌, Bool, true, false, cond, not, ◌&&◌, eqb, List, [], ◌∷◌, length, Some, refl, sym, ◌∙◌, ap, ap₂, subst, arith, inl, inr, le_trans, eqb-true, ne_eqb}
use Rattle.seg_words.proofs.Lemmas.{cases_Bool, eqb-false, cond-true, cond-false, and_parts, and_right}
use Rattle.seg_words.specs.Types.{Shape, UndoAddr, BLOCK_ROOM, MOST_UNDO_PARTS, OWN_BLOCKS, LEAST_UNDO_BLOCKS}
use Rattle.redo_model.specs.Records.{Record, RowPart}
use Rattle.redo_model.specs.Model.{Step, Effect, effect_of, part_addr, is_addr, standing, standing_steps, is_place, undo_parts, undo_used, undo_sequence, current_undo, Made, made_by, without, changed_makers, makers, AreAllowed}
use Rattle.redo_model.specs.Effects.{Still, Formats, Adds, TakesBack, Cleans}
use Rattle.redo_laws.specs.Chain.{EachMade, IsStatedIn, IsStated}
use Rattle.redo_laws.proofs.allowed.Basics.{EffectBasics, basics}
use Rattle.redo_laws.proofs.numbers.Bounds.{places_bound, current_bound}
use Rattle.redo_laws.proofs.links.ChainLaw.{slots_are_chains}
use Rattle.redo_laws.proofs.undo.Economy.{Below}
use Rattle.redo_laws.proofs.lists.Every.{Every, every-filter}
use Rattle.redo_laws.proofs.spread.Whole.{whole}
use Rattle.version_laws.specs.Types.{IsInRing, PartKnown, Falls, is_present, present_count, present_in, WalksEnd}
use Rattle.version_laws.proofs.Makers.{each_map, each_without}

-- a maker's part stands in the block, or did in an earlier use

pub stated_in : (st : Step) (i : ℕ) (ps : List RowPart) (b k : ℕ) (m : Made) → IsStatedIn st i ps b k m → (j : ℕ) × (m.part ≡ part_addr st.undo j) × (j < i + length ps)
stated_in st i [] b k m h = absurd h
stated_in st i (p ∷ ps) b k m h = elim h [
  | inl y ↦ (i, y.3, omega arith)
  | inr z ↦ let r = stated_in st (suc i) ps b k m z in (r.0, r.1, (let l = r.2 in omega (arith, l)))
]

known_by : (R : List Record) (st : Step) (m : Made) (j : ℕ) → Below (undo_sequence R) (undo_parts R) st → m.part ≡ part_addr st.undo j → j < length st.parts → PartKnown R m
known_by R st m j (inl l) e i = inl (subst (λ (a : UndoAddr). a.seq < undo_sequence R a.block) (sym e) l)
known_by R st m j (inr y) e i = inr (subst (λ (a : UndoAddr). (a.seq ≡ undo_sequence R a.block) × (a.nth < length (undo_parts R a.block))) (sym e) (y.0, (let l = y.1 in omega (arith, l, i))))

known_of : (R : List Record) (ss : List Step) (b k : ℕ) (m : Made) → Every (Below (undo_sequence R) (undo_parts R)) ss → IsStated ss b k m → PartKnown R m
known_of R [] b k m f h = absurd h
known_of R (s ∷ ss) b k m f h = elim h [
  | inl y ↦ let r = stated_in s 0 s.parts b k m y.2 in known_by R s m r.0 f.0 r.1 (let l = r.2 in omega (arith, l))
  | inr z ↦ known_of R ss b k m f.1 z
]

pub parts_known : (sh : Shape) (R : List Record) (b k : ℕ) → AreAllowed sh R → EachMade (PartKnown R) (makers R b k)
parts_known sh R b k h = each_map _ _ (makers R b k) (λ m x. known_of R (standing R) b k m (whole sh R h).undo.below x) (slots_are_chains sh R b k h).stated

-- they fall

falls_without : (a : UndoAddr) (ms : List Made) → Falls ms → Falls (without a ms)
falls_without a [] h = tt
falls_without a (m ∷ ms) h = elim (not (is_addr m.undo a)) as (λ v. Falls (cond v (m ∷ without a ms) (without a ms))) [ true ↦ (each_without _ a ms h.0, falls_without a ms h.1) | false ↦ falls_without a ms h.1 ]

under : (R : List Record) (a : UndoAddr) (i : ℕ) (x : Made) → a.seq ≡ undo_sequence R a.block → a.nth ≡ length (undo_parts R a.block) → PartKnown R x → x.part.block ≡ a.block → x.part.seq ≡ a.seq → x.part.nth < a.nth + i
under R a i x s n k e f =
    let q : undo_sequence R x.part.block ≡ undo_sequence R a.block = ap (undo_sequence R) e in
    let r : length (undo_parts R x.part.block) ≡ length (undo_parts R a.block) = ap (λ u. length (undo_parts R u)) e in
    elim k [
      | inl l ↦ absurd (omega (arith, l, s, f, q))
      | inr y ↦ (let l = y.1 in omega (arith, l, n, r))
    ]

falls_made : (R : List Record) (st : Step) (i : ℕ) (ps : List RowPart) (b k : ℕ) (ms : List Made) → st.undo.seq ≡ undo_sequence R st.undo.block → st.undo.nth ≡ length (undo_parts R st.undo.block) → EachMade (PartKnown R) ms → Falls ms → Falls (made_by st i ps b k ms)
falls_made R st i [] b k ms s n q h = h
falls_made R st i (p ∷ ps) b k ms s n q h =
    elim (is_place p.dba p.slot b k) as (λ v. Falls (cond v (record { by = st.by; undo = st.undo; part = part_addr st.undo i; old = p.old } ∷ ms) (made_by st (suc i) ps b k ms))) [
      | true ↦ (each_map _ _ ms (λ x y e f. under R st.undo i x s n y e f) q, h)
      | false ↦ falls_made R st (suc i) ps b k ms s n q h
    ]

falls_effect : (R : List Record) (ef : Effect) (b k : ℕ) → EffectBasics R ef → EachMade (PartKnown R) (makers R b k) → Falls (makers R b k) → Falls (changed_makers ef b k (makers R b k))
falls_effect R Still b k x q h = h
falls_effect R (Formats d) b k x q h = elim (eqb d b) as (λ v. Falls (cond v [] (makers R b k))) [ true ↦ tt | false ↦ h ]
falls_effect R (Adds st) b k x q h = falls_made R st 0 st.parts b k (makers R b k) x.undo.sequence x.undo.place q h
falls_effect R (TakesBack t) b k x q h = falls_without t.undo (makers R b k) h
falls_effect R (Cleans d cs) b k x q h = h

pub makers_fall : (sh : Shape) (R : List Record) (b k : ℕ) → AreAllowed sh R → Falls (makers R b k)
makers_fall sh [] b k h = tt
makers_fall sh (r ∷ R) b k h = falls_effect R (effect_of r) b k (basics sh R r h.1.kind) (parts_known sh R b k h.0) (makers_fall sh R b k h.0)

-- counts

few_parts : (R : List Record) (u : ℕ) → undo_used R u ≤ BLOCK_ROOM → length (undo_parts R u) ≤ MOST_UNDO_PARTS
few_parts R u l = let x = places_bound R u [] (omega (arith, l)) in omega (arith, x)

-- all that are counted stand below n
abbrev Under : List Record → ℕ → ℕ → List Made → Type 0
Under R u n ms = EachMade (λ m. (eqb m.part.block u && is_present R m) ≡ true → m.part.nth < n) ms

count_under : (R : List Record) (u n : ℕ) (ms : List Made) → Falls ms → Under R u n ms → present_in R u ms ≤ n
count_under R u n [] f h = omega arith
count_under R u n (m ∷ ms) f h = elim (cases_Bool (eqb m.part.block u && is_present R m)) [
  | inr x ↦ subst (λ z. z ≤ n) (sym (cond-false _ _ _ x)) (count_under R u n ms f.1 h.1)
  | inl y ↦
      let q = and_parts (eqb m.part.block u) (is_present R m) y in
      let less = count_under R u m.part.nth ms f.1 (each_map _ _ ms (λ x g z.
      let w = and_parts (eqb x.part.block u) (is_present R x) z in
      let same : x.part.block ≡ m.part.block = eqb-true x.part.block u w.0 ∙ sym (eqb-true m.part.block u q.0) in
      g same (eqb-true x.part.seq _ w.1 ∙ ap (undo_sequence R) same ∙ sym (eqb-true m.part.seq _ q.1))) f.0) in
      subst (λ z. z ≤ n) (sym (cond-true _ _ _ y)) (let l = h.0 y in omega (arith, l, less))
]

under_all : (R : List Record) (u : ℕ) (ms : List Made) → EachMade (PartKnown R) ms → Under R u (length (undo_parts R u)) ms
under_all R u ms h = each_map _ _ ms (λ m k z.
    let w = and_parts (eqb m.part.block u) (is_present R m) z in
    let s : m.part.seq ≡ undo_sequence R m.part.block = eqb-true m.part.seq _ w.1 in
    elim k [
      | inl l ↦ absurd (omega (arith, l, s))
      | inr y ↦ subst (λ v. m.part.nth < length (undo_parts R v)) (eqb-true m.part.block u w.0) y.1
    ]) h

-- all blocks of the ring

abbrev sum_to : (ℕ → ℕ) → ℕ → ℕ
sum_to f zero = 0
sum_to f (suc n) = sum_to f n + f (OWN_BLOCKS + n)

sum_few : (f : ℕ → ℕ) (n : ℕ) → ((u : ℕ) → f u ≤ MOST_UNDO_PARTS) → sum_to f n ≤ MOST_UNDO_PARTS * n
sum_few f zero h = omega arith
sum_few f (suc n) h = let a = sum_few f n h in let b = h (OWN_BLOCKS + n) in omega (arith, a, b)

sum_same : (f g : ℕ → ℕ) (n : ℕ) → ((u : ℕ) → u < OWN_BLOCKS + n → f u ≡ g u) → sum_to f n ≡ sum_to g n
sum_same f g zero h = refl
sum_same f g (suc n) h = ap₂ (λ x y. x + y) (sum_same f g n (λ u l. h u (omega (arith, l)))) (h (OWN_BLOCKS + n) (omega arith))

sum_more : (f : ℕ → ℕ) (b n : ℕ) → OWN_BLOCKS ≤ b → b < OWN_BLOCKS + n → sum_to (λ u. cond (eqb b u) (suc (f u)) (f u)) n ≡ suc (sum_to f n)
sum_more f b zero l u = absurd (omega (arith, l, u))
sum_more f b (suc n) l u = elim (cases_Bool (eqb b (OWN_BLOCKS + n))) [
  | inl y ↦
      let same : sum_to (λ v. cond (eqb b v) (suc (f v)) (f v)) n ≡ sum_to f n = sum_same (λ x. cond (eqb b x) (suc (f x)) (f x)) f n (λ v k. cond-false (eqb b v) (suc (f v)) (f v) (ne_eqb b v (λ e. let z = eqb-true b (OWN_BLOCKS + n) y in omega (arith, k, e, z)))) in
      let last : cond (eqb b (OWN_BLOCKS + n)) (suc (f (OWN_BLOCKS + n))) (f (OWN_BLOCKS + n)) ≡ suc (f (OWN_BLOCKS + n)) = cond-true _ _ _ y in
      omega (arith, same, last)
  | inr z ↦
      let more = sum_more f b n l (let q = eqb-false b (OWN_BLOCKS + n) z in below b n u q) in
      let last : cond (eqb b (OWN_BLOCKS + n)) (suc (f (OWN_BLOCKS + n))) (f (OWN_BLOCKS + n)) ≡ f (OWN_BLOCKS + n) = cond-false _ _ _ z in
      omega (arith, more, last)
]
  where
    below : (b n : ℕ) → b < OWN_BLOCKS + suc n → (b ≡ OWN_BLOCKS + n → ⊥) → b < OWN_BLOCKS + n
    below b n l q = omega (arith, l, q)

all_count : (sh : Shape) (R : List Record) (ms : List Made) → EachMade (λ m. IsInRing sh m.part.block) ms → present_count R ms ≡ sum_to (λ u. present_in R u ms) sh.undo
all_count sh R [] h = sym (nothing sh.undo)
  where
    nothing : (n : ℕ) → sum_to (λ u. 0) n ≡ 0
    nothing zero = refl
    nothing (suc n) = let x = nothing n in omega (arith, x)
all_count sh R (m ∷ ms) h =
    let ih = all_count sh R ms h.1 in
    elim (cases_Bool (is_present R m)) [
      | inl y ↦ cond-true _ _ _ y ∙ ap (λ n. suc n) ih ∙ sym (sum_more (λ u. present_in R u ms) m.part.block sh.undo h.0.from h.0.to)
          ∙ sum_same (λ u. cond (eqb m.part.block u) (suc (present_in R u ms)) (present_in R u ms)) (λ u. present_in R u (m ∷ ms)) sh.undo (λ u l. ap (λ v. cond v (suc (present_in R u ms)) (present_in R u ms)) (sym (ap (λ v. eqb m.part.block u && v) y ∙ and_true (eqb m.part.block u))))
      | inr f ↦ cond-false _ _ _ f ∙ ih ∙ sum_same (λ u. present_in R u ms) (λ u. present_in R u (m ∷ ms)) sh.undo (λ u l. sym (cond-false _ _ _ (and_right (eqb m.part.block u) _ f)))
    ]
  where
    and_true : (v : Bool) → (v && true) ≡ v
    and_true true = refl
    and_true false = refl

-- the ring

abbrev StepIn : Shape → Step → Type 0
StepIn sh st = IsInRing sh st.undo.block

ring_effect : (sh : Shape) (R : List Record) (ef : Effect) → EffectBasics R ef → ((u : ℕ) → current_undo R ≡ Some u → IsInRing sh u) → Every (StepIn sh) (standing R) → Every (StepIn sh) (standing_steps ef (standing R))
ring_effect sh R Still x c h = h
ring_effect sh R (Formats d) x c h = h
ring_effect sh R (Adds st) x c h = (c st.undo.block x.undo.current, h)
ring_effect sh R (TakesBack t) x c h = every-filter _ _ (standing R) h
ring_effect sh R (Cleans d cs) x c h = h

current_in : (sh : Shape) (R : List Record) → LEAST_UNDO_BLOCKS ≤ sh.undo → AreAllowed sh R → (u : ℕ) → current_undo R ≡ Some u → IsInRing sh u
current_in sh R two h u e = let x = current_bound sh R u two h e in record { from = x.0; to = x.1 }

steps_in : (sh : Shape) (R : List Record) → LEAST_UNDO_BLOCKS ≤ sh.undo → AreAllowed sh R → Every (StepIn sh) (standing R)
steps_in sh [] two h = tt
steps_in sh (r ∷ R) two h = ring_effect sh R (effect_of r) (basics sh R r h.1.kind) (current_in sh R two h.0) (steps_in sh R two h.0)

made_in : (sh : Shape) (ss : List Step) (b k : ℕ) (m : Made) → Every (StepIn sh) ss → IsStated ss b k m → IsInRing sh m.part.block
made_in sh [] b k m f h = absurd h
made_in sh (s ∷ ss) b k m f h = elim h [
  | inl y ↦ let r = stated_in s 0 s.parts b k m y.2 in subst (λ (a : UndoAddr). IsInRing sh a.block) (sym r.1) f.0
  | inr z ↦ made_in sh ss b k m f.1 z
]

pub walks_end : WalksEnd
walks_end sh R b k two h =
    let known = parts_known sh R b k h in
    let falls = makers_fall sh R b k h in
    let places : (u : ℕ) → length (undo_parts R u) ≤ MOST_UNDO_PARTS = λ u. few_parts R u ((whole sh R h).undo.full u) in
    let block : (u : ℕ) → present_in R u (makers R b k) ≤ MOST_UNDO_PARTS = λ u. le_trans (count_under R u (length (undo_parts R u)) (makers R b k) falls (under_all R u (makers R b k) known)) (places u) in
    let ring = each_map _ _ (makers R b k) (λ m x. made_in sh (standing R) b k m (steps_in sh R two h) x) (slots_are_chains sh R b k h).stated in
    record {
      known = known;
      falls = falls;
      places = places;
      in_block = block;
      ring = ring;
      current = current_in sh R two h;
      in_all = subst (λ n. n ≤ MOST_UNDO_PARTS * sh.undo) (sym (all_count sh R (makers R b k) ring)) (sum_few (λ u. present_in R u (makers R b k)) sh.undo block);
    }
