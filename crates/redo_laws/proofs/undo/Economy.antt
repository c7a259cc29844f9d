-- Undo blocks in a lawful list: addresses are given in order, active transactions keep their parts, blocks don't overflow.
use Rattle.std.proofs.Common.{◌≡◌, ◌⊎◌, ℕ, suc, ◌+◌, ◌<◌, ◌≤◌, Bool, true, false, cond, not, ◌||◌, eqb, ltb, List, [], ◌∷◌, ◌++◌, length, Option, Some, None, find, refl, sym, ◌∙◌, ap, ap₂, subst, arith, inl, inr, length-append, zero-add, eqb-true, ne_eqb, eq-eqb, ltb-false, true≢false, sum_by}
use Rattle.seg_words.proofs.Lemmas.{cond_both, cond-true, cond-false, cases_Bool, and_left, and_right, not-true, or_cases, or_left, or_right, sum_by-append}
use Rattle.seg_words.specs.Types.{Shape, UndoAddr, Writer, By, At, BLOCK_ROOM, OWN_BLOCKS}
use Rattle.redo_model.specs.Records.{Record, Begin, Reuse, Insert, Update, Migrate, Return, Delete, Commit, Back, Ended, Move, RowPart, ReuseRecord}
use Rattle.redo_model.specs.Model.{Step, row_step, move_step, txn_count, is_active, is_addr, is_by, standing, without_step, Undone, part_size, parts_size, undone, undo_parts, undo_used, current_undo, undo_sequence, lesser, least_active, undo_holder, has_holder, ring_after, next_undo, StatesUndo, ReuseAllowed, IsKindAllowed}
use Rattle.redo_laws.proofs.lists.Every.{Every, every-map, every-filter}
use Rattle.redo_laws.proofs.steps.Facts.{BegunBy}
use Rattle.redo_laws.proofs.numbers.Known.{Turn, turn}
use Rattle.redo_laws.proofs.allowed.Basics.{Basics, basics}

-- a part by u is among these
abbrev pub parts_by : ℕ → List Undone → Bool
parts_by u [] = false
parts_by u (p ∷ ps) = is_by p.by u || parts_by u ps

-- its parts stand in an earlier use of the block, or among the parts of the present one
abbrev pub Below : (ℕ → ℕ) → (ℕ → List Undone) → Step → Type 0
Below seqs parts st = (st.undo.seq < seqs st.undo.block) ⊎ ((st.undo.seq ≡ seqs st.undo.block) × (st.undo.nth + length st.parts ≤ length (parts st.undo.block)))

-- of an active transaction the use is the present one, and the block has a part of it
abbrev pub InUse : (ℕ → Bool) → (ℕ → ℕ) → (ℕ → List Undone) → Step → Type 0
InUse active seqs parts st = (u : ℕ) → st.by ≡ By u → active u ≡ true → (st.undo.seq ≡ seqs st.undo.block) × (parts_by u (parts st.undo.block) ≡ true)

abbrev pub size_of : List Undone → ℕ
size_of us = sum_by (λ (p : Undone). p.size) us

pub record UndoKept (active : ℕ → Bool) (current : Option ℕ) (seqs : ℕ → ℕ) (parts : ℕ → List Undone) (ss : List Step) : Type 0 where
  pub below : Every (Below seqs parts) ss
  pub least : Every (λ (st : Step). 1 ≤ length st.parts) ss
  pub none : current ≡ None → ss ≡ []
  pub in_use : Every (InUse active seqs parts) ss
  pub full : (u : ℕ) → size_of (parts u) ≤ BLOCK_ROOM

-- the parts of a step

length_undone : (w : Writer) (ps : List RowPart) → length (undone w ps) ≡ length ps
length_undone w [] = refl
length_undone w (p ∷ ps) = ap (λ n. suc n) (length_undone w ps)

size_undone : (w : Writer) (ps : List RowPart) → size_of (undone w ps) ≡ parts_size ps
size_undone w [] = refl
size_undone w (p ∷ ps) =
    let e : size_of (record { by = w; size = part_size p } ∷ undone w ps) ≡ size_of (record { by = w; size = part_size p } ∷ []) + size_of (undone w ps) = sum_by-append (λ (q : Undone). q.size) (record { by = w; size = part_size p } ∷ []) (undone w ps) in
    let f : size_of (record { by = w; size = part_size p } ∷ []) ≡ part_size p = zero-add (part_size p) in
    let g = size_undone w ps in e ∙ ap₂ (λ m n. m + n) f g

by_own : (u : ℕ) → is_by (By u) u ≡ true
by_own u = eq-eqb u u refl

by_some : (u : ℕ) (w : Writer) (ps : List RowPart) → w ≡ By u → 1 ≤ length ps → parts_by u (undone w ps) ≡ true
by_some u w [] e l = absurd (omega arith)
by_some u w (p ∷ ps) e l = or_left (is_by w u) _ (ap (λ x. is_by x u) e ∙ by_own u)

by_later : (u : ℕ) (us vs : List Undone) → parts_by u us ≡ true → parts_by u (us ++ vs) ≡ true
by_later u [] vs h = absurd (true≢false (sym h))
by_later u (p ∷ us) vs h = elim (or_cases (is_by p.by u) (parts_by u us) h) [ inl y ↦ or_left _ _ y | inr z ↦ or_right (is_by p.by u) _ (by_later u us vs z) ]

by_last : (u : ℕ) (us vs : List Undone) → parts_by u vs ≡ true → parts_by u (us ++ vs) ≡ true
by_last u [] vs h = h
by_last u (p ∷ us) vs h = or_right (is_by p.by u) _ (by_last u us vs h)

-- after a step

abbrev pub grown : ℕ → List Undone → (ℕ → List Undone) → ℕ → List Undone
grown b vs parts u = cond (eqb b u) (parts u ++ vs) (parts u)

below_grown : (seqs : ℕ → ℕ) (parts : ℕ → List Undone) (b : ℕ) (vs : List Undone) (st : Step) → Below seqs parts st → Below seqs (grown b vs parts) st
below_grown seqs parts b vs st (inl l) = inl l
below_grown seqs parts b vs st (inr p) =
    inr (
      p.0,
      cond_both (eqb b st.undo.block) (parts st.undo.block ++ vs) (parts st.undo.block) (λ xs. st.undo.nth + length st.parts ≤ length xs)
          (λ y. let e = length-append (parts st.undo.block) vs in let l : st.undo.nth + length st.parts ≤ length (parts st.undo.block) = p.1 in omega arith)
          (λ y. p.1),
    )

in_use_grown : (active : ℕ → Bool) (seqs : ℕ → ℕ) (parts : ℕ → List Undone) (b : ℕ) (vs : List Undone) (st : Step) → InUse active seqs parts st → InUse active seqs (grown b vs parts) st
in_use_grown active seqs parts b vs st h = λ u e on.
    let q = h u e on in
    (q.0, cond_both (eqb b st.undo.block) (parts st.undo.block ++ vs) (parts st.undo.block) (λ xs. parts_by u xs ≡ true) (λ y. by_later u (parts st.undo.block) vs q.1) (λ y. q.1))

room_is : (used size : ℕ) → not (ltb BLOCK_ROOM (used + size)) ≡ true → used + size ≤ BLOCK_ROOM
room_is used size h = ltb-false BLOCK_ROOM (used + size) (not-true (ltb BLOCK_ROOM (used + size)) h)

adds_kept : (R : List Record) (st : Step) (cur : Option ℕ) → Basics R st → (cur ≡ None → ⊥)
    → UndoKept (is_active R) (current_undo R) (undo_sequence R) (undo_parts R) (standing R)
    → UndoKept (is_active R) cur (undo_sequence R) (grown st.undo.block (undone st.by st.parts) (undo_parts R)) (st ∷ standing R)
adds_kept R st cur a some h =
    let b = st.undo.block in
    let vs = undone st.by st.parts in
    let here : grown b vs (undo_parts R) b ≡ undo_parts R b ++ vs = cond-true (eqb b b) (undo_parts R b ++ vs) (undo_parts R b) (eq-eqb b b refl) in
    record {
      below = (
        inr (
          a.undo.sequence,
          subst (λ (xs : List Undone). st.undo.nth + length st.parts ≤ length xs) (sym here)
              (let e = length-append (undo_parts R b) vs in let f = length_undone st.by st.parts in let g : st.undo.nth ≡ length (undo_parts R b) = a.undo.place in omega arith),
        ),
        every-map _ _ (standing R) (λ s x. below_grown (undo_sequence R) (undo_parts R) b vs s x) h.below,
      );
      least = (a.least, h.least);
      none = λ e. absurd (some e);
      in_use = (
        (λ u e on. (a.undo.sequence, subst (λ (xs : List Undone). parts_by u xs ≡ true) (sym here) (by_last u (undo_parts R b) vs (by_some u st.by st.parts e a.least)))),
        every-map _ _ (standing R) (λ s x. in_use_grown (is_active R) (undo_sequence R) (undo_parts R) b vs s x) h.in_use,
      );
      full = λ u. cond_both (eqb b u) (undo_parts R u ++ vs) (undo_parts R u) (λ xs. size_of xs ≤ BLOCK_ROOM)
          (λ y. subst (λ x. size_of (undo_parts R x ++ vs) ≤ BLOCK_ROOM) (eqb-true b u y)
          (let e = sum_by-append (λ (p : Undone). p.size) (undo_parts R b) vs in let f = size_undone st.by st.parts in let r : size_of (undo_parts R b) + parts_size st.parts ≤ BLOCK_ROOM = room_is (undo_used R b) (parts_size st.parts) a.undo.fits in omega arith))
          (λ y. h.full u);
    }

-- a block without a holder has no part of an active transaction

some_none : (t : ℕ) (o : Option ℕ) → lesser t o ≡ None → ⊥
some_none t None e = cc
some_none t (Some u) e = cc

least_none : (R : List Record) (us : List Undone) (u : ℕ) → least_active R us ≡ None → parts_by u us ≡ true → is_active R u ≡ true → ⊥
least_none R [] u e h on = true≢false (sym h)
least_none R (p ∷ ps) u e h on = least_head R p.by ps u (λ f z. least_none R ps u f z on) e h on
  where
    least_head : (R : List Record) (w : Writer) (ps : List Undone) (u : ℕ) → (least_active R ps ≡ None → parts_by u ps ≡ true → ⊥)
        → elim w as (λ x. Option ℕ) [ By t ↦ cond (is_active R t) (lesser t (least_active R ps)) (least_active R ps) | At c ↦ least_active R ps ] ≡ None → (is_by w u || parts_by u ps) ≡ true → is_active R u ≡ true → ⊥
    least_head R (At c) ps u rest e h on = rest e h
    least_head R (By t) ps u rest e h on =
        elim (cases_Bool (is_active R t)) [
          | inl y ↦ some_none t (least_active R ps) (sym (cond-true _ _ _ y) ∙ e)
          | inr f ↦ elim (or_cases (eqb t u) (parts_by u ps) h) [
            | inl z ↦ true≢false (sym on ∙ ap (is_active R) (sym (eqb-true t u z)) ∙ f)
            | inr z ↦ rest (sym (cond-false _ _ _ f) ∙ e) z
          ]
        ]

holder_none : (R : List Record) (b u : ℕ) → has_holder R b ≡ false → parts_by u (undo_parts R b) ≡ true → is_active R u ≡ true → ⊥
holder_none R b u f h on = go (undo_holder R b) refl
  where
    go : (o : Option ℕ) → undo_holder R b ≡ o → ⊥
    go None e = least_none R (undo_parts R b) u e h on
    go (Some t) e = true≢false (ap (λ (x : Option ℕ). elim x as (λ y. Bool) [ None ↦ false | Some t ↦ true ]) (sym e) ∙ f)

found_passes : (p : ℕ → Bool) (xs : List ℕ) (b : ℕ) → find p xs ≡ Some b → p b ≡ true
found_passes p [] b e = absurd (let x : ◌≡◌ {A = Option ℕ} None (Some b) = e in cc)
found_passes p (x ∷ xs) b e =
    elim (cases_Bool (p x)) [
      | inl y ↦ let same : ◌≡◌ {A = Option ℕ} (Some x) (Some b) = sym (cond-true _ _ _ y) ∙ e in let q : x ≡ b = cc in subst (λ z. p z ≡ true) q y
      | inr f ↦ found_passes p xs b (sym (cond-false _ _ _ f) ∙ e)
    ]

-- the block that is taken into use holds nothing of an active transaction, or none is in use
pub reuse_free : (sh : Shape) (R : List Record) (b : ℕ) → next_undo sh R ≡ Some b → (current_undo R ≡ None) ⊎ (has_holder R b ≡ false)
reuse_free sh R b e = go (current_undo R) refl
  where
    go : (o : Option ℕ) → current_undo R ≡ o → (current_undo R ≡ None) ⊎ (has_holder R b ≡ false)
    go None f = inl f
    go (Some c) f = inr (not-true (has_holder R b) (found_passes (λ x. not (has_holder R x)) (ring_after sh c) b (ap (λ (o : Option ℕ). elim o as (λ x. Option ℕ) [ None ↦ Some OWN_BLOCKS | Some u ↦ find (λ x. not (has_holder R x)) (ring_after sh u) ]) (sym f) ∙ e)))

-- after a Reuse

below_reuse : (seqs : ℕ → ℕ) (parts : ℕ → List Undone) (b : ℕ) (st : Step) → Below seqs parts st → Below (λ u. cond (eqb b u) (suc (seqs u)) (seqs u)) (λ u. cond (eqb b u) [] (parts u)) st
below_reuse seqs parts b st h =
    elim (cases_Bool (eqb b st.undo.block)) [
      | inl y ↦ inl (rw y (elim h [ inl l ↦ omega arith | inr p ↦ (let e : st.undo.seq ≡ seqs st.undo.block = p.0 in omega arith) ]))
      | inr f ↦ elim h [ inl l ↦ inl (rw f l) | inr p ↦ inr (rw f p) ]
    ]

in_use_reuse : (active : ℕ → Bool) (seqs : ℕ → ℕ) (parts : ℕ → List Undone) (b : ℕ) (st : Step) → ((u : ℕ) → parts_by u (parts b) ≡ true → active u ≡ true → ⊥) → InUse active seqs parts st → InUse active (λ u. cond (eqb b u) (suc (seqs u)) (seqs u)) (λ u. cond (eqb b u) [] (parts u)) st
in_use_reuse active seqs parts b st free h = λ u e on.
    let q = h u e on in
    elim (cases_Bool (eqb b st.undo.block)) [
      | inl y ↦ absurd (free u (subst (λ x. parts_by u (parts x) ≡ true) (sym (eqb-true b st.undo.block y)) q.1) on)
      | inr f ↦ rw f q
    ]

reuse_kept : (sh : Shape) (R : List Record) (q : ReuseRecord) → ReuseAllowed sh R q
    → UndoKept (is_active R) (current_undo R) (undo_sequence R) (undo_parts R) (standing R)
    → UndoKept (is_active R) (Some q.block) (λ u. cond (eqb q.block u) (suc (undo_sequence R u)) (undo_sequence R u)) (λ u. cond (eqb q.block u) [] (undo_parts R u)) (standing R)
reuse_kept sh R q a h = record {
  below = every-map _ _ (standing R) (λ s x. below_reuse (undo_sequence R) (undo_parts R) q.block s x) h.below;
  least = h.least;
  none = λ e. absurd (let x : ◌≡◌ {A = Option ℕ} (Some q.block) None = e in cc);
  in_use = elim (reuse_free sh R q.block a.block.next) [
    | inl e ↦ subst (Every (InUse (is_active R) (λ u. cond (eqb q.block u) (suc (undo_sequence R u)) (undo_sequence R u)) (λ u. cond (eqb q.block u) [] (undo_parts R u)))) (sym (h.none e)) tt
    | inr f ↦ every-map _ _ (standing R) (λ s x. in_use_reuse (is_active R) (undo_sequence R) (undo_parts R) q.block s (λ u p on. holder_none R q.block u f p on) x) h.in_use
  ];
  full = λ u. cond_both (eqb q.block u) [] (undo_parts R u) (λ xs. size_of xs ≤ BLOCK_ROOM) (λ y. omega arith) (λ y. h.full u);
}

back_kept : (active : ℕ → Bool) (cur : Option ℕ) (seqs : ℕ → ℕ) (parts : ℕ → List Undone) (ss : List Step) (a : UndoAddr) → UndoKept active cur seqs parts ss → UndoKept active cur seqs parts (without_step a ss)
back_kept active cur seqs parts ss a h = record {
  below = every-filter _ _ ss h.below;
  least = every-filter _ _ ss h.least;
  none = λ e. ap (without_step a) (h.none e);
  in_use = every-filter _ _ ss h.in_use;
  full = h.full;
}

turn_kept : (R : List Record) (r : Record) (cur : Option ℕ) (seqs : ℕ → ℕ) (parts : ℕ → List Undone) (ss : List Step) → Turn R r → Every (λ (s : Step). BegunBy (txn_count R) s.by) ss → UndoKept (is_active R) cur seqs parts ss → UndoKept (is_active (r ∷ R)) cur seqs parts ss
turn_kept R r cur seqs parts ss t b h = record {
  below = h.below;
  least = h.least;
  none = h.none;
  in_use = both ss b h.in_use;
  full = h.full;
}
  where
    one : (s : Step) → BegunBy (txn_count R) s.by → InUse (is_active R) seqs parts s → InUse (is_active (r ∷ R)) seqs parts s
    one s b x = λ u e on. elim (t.live u on) [ inl y ↦ x u e y | inr l ↦ absurd (let c : BegunBy (txn_count R) (By u) = subst (BegunBy (txn_count R)) e b in omega (arith, c)) ]

    both : (ss : List Step) → Every (λ (s : Step). BegunBy (txn_count R) s.by) ss → Every (InUse (is_active R) seqs parts) ss → Every (InUse (is_active (r ∷ R)) seqs parts) ss
    both [] b x = tt
    both (s ∷ ss) b x = (one s b.0 x.0, both ss b.1 x.1)

abbrev pub UndoIn : List Record → Type 0
UndoIn R = UndoKept (is_active R) (current_undo R) (undo_sequence R) (undo_parts R) (standing R)

not_none : (R : List Record) (b : ℕ) → current_undo R ≡ Some b → current_undo R ≡ None → ⊥
not_none R b e f = (let x : ◌≡◌ {A = Option ℕ} (Some b) None = sym e ∙ f in cc)

copy : (active : ℕ → Bool) (cur : Option ℕ) (seqs : ℕ → ℕ) (parts : ℕ → List Undone) (ss : List Step) → UndoKept active cur seqs parts ss → UndoKept active cur seqs parts ss
copy active cur seqs parts ss h = h

pub undo_step : (sh : Shape) (R : List Record) (r : Record) → IsKindAllowed sh R r → Every (λ (s : Step). BegunBy (txn_count R) s.by) (standing R) → UndoIn R → UndoIn (r ∷ R)
undo_step sh R (Reuse q) a b h = reuse_kept sh R q a h
undo_step sh R (Insert w) a b h = let x : Basics R (row_step w false) = basics sh R (Insert w) a in adds_kept R (row_step w false) (current_undo R) x (not_none R _ x.undo.current) h
undo_step sh R (Update w) a b h = let x : Basics R (row_step w false) = basics sh R (Update w) a in adds_kept R (row_step w false) (current_undo R) x (not_none R _ x.undo.current) h
undo_step sh R (Migrate w) a b h = let x : Basics R (row_step w false) = basics sh R (Migrate w) a in adds_kept R (row_step w false) (current_undo R) x (not_none R _ x.undo.current) h
undo_step sh R (Return w) a b h = let x : Basics R (row_step w false) = basics sh R (Return w) a in adds_kept R (row_step w false) (current_undo R) x (not_none R _ x.undo.current) h
undo_step sh R (Delete w) a b h = let x : Basics R (row_step w true) = basics sh R (Delete w) a in adds_kept R (row_step w true) (current_undo R) x (not_none R _ x.undo.current) h
undo_step sh R (Move m) a b h = let x : Basics R (move_step m) = basics sh R (Move m) a in adds_kept R (move_step m) (current_undo R) x (not_none R _ x.undo.current) h
undo_step sh R (Back k) a b h = back_kept (is_active R) (current_undo R) (undo_sequence R) (undo_parts R) (standing R) k.undo h
undo_step sh R (Begin g) a b h = turn_kept R (Begin g) (current_undo R) (undo_sequence R) (undo_parts R) (standing R) (turn sh R (Begin g) a) b h
undo_step sh R (Commit c) a b h = turn_kept R (Commit c) (current_undo R) (undo_sequence R) (undo_parts R) (standing R) (turn sh R (Commit c) a) b h
undo_step sh R (Ended e) a b h = turn_kept R (Ended e) (current_undo R) (undo_sequence R) (undo_parts R) (standing R) (turn sh R (Ended e) a) b h
undo_step sh R _ a b h = h

pub no_undo : UndoIn []
no_undo = record { below = tt; least = tt; none = λ e. refl; in_use = tt; full = λ u. omega arith }

-- a new address isn't one of a step that stands
fresh_one : (R : List Record) (a : UndoAddr) (ps : List RowPart) (st : Step) → StatesUndo R a ps → Below (undo_sequence R) (undo_parts R) st → 1 ≤ length st.parts → is_addr st.undo a ≡ false
fresh_one R a ps st h b l =
    elim (cases_Bool (eqb st.undo.block a.block)) [
      | inr f ↦ and_left _ _ f
      | inl y ↦ and_right (eqb st.undo.block a.block) _ (elim b [
        | inl early ↦ and_left _ _ (ne_eqb st.undo.seq a.seq (λ e. (let s : a.seq ≡ undo_sequence R a.block = h.sequence in let same : undo_sequence R st.undo.block ≡ undo_sequence R a.block = ap (undo_sequence R) (eqb-true _ _ y) in absurd (omega arith))))
        | inr p ↦ and_right (eqb st.undo.seq a.seq) _ (ne_eqb st.undo.nth a.nth (λ e. (let q : a.nth ≡ length (undo_parts R a.block) = h.place in let same : length (undo_parts R st.undo.block) ≡ length (undo_parts R a.block) = ap (λ x. length (undo_parts R x)) (eqb-true _ _ y) in let top : st.undo.nth + length st.parts ≤ length (undo_parts R st.undo.block) = p.1 in absurd (omega arith))))
      ])
    ]

pub fresh : (R : List Record) (a : UndoAddr) (ps : List RowPart) → UndoIn R → StatesUndo R a ps → Every (λ (s : Step). is_addr s.undo a ≡ false) (standing R)
fresh R a ps h s = go (standing R) h.below h.least
  where
    go : (ss : List Step) → Every (Below (undo_sequence R) (undo_parts R)) ss → Every (λ (st : Step). 1 ≤ length st.parts) ss → Every (λ (s : Step). is_addr s.undo a ≡ false) ss
    go [] b l = tt
    go (x ∷ ss) b l = (fresh_one R a ps x s b.0 l.0, go ss b.1 l.1)
