-- What a step of a rollback finds.
use Rattle.std.proofs.Common.{◌≡◌, ℕ, zero, suc, ◌+◌, ◌-◌, ◌*◌, ◌/◌, ◌<◌, ◌≤◌, Bool, true, false, cond, not, eqb, nat_lt, List, [], ◌∷◌, length, map, slice_get, get_or, Option, Some, None, refl, sym, ◌∙◌, ap, subst, arith, inl, inr, eqb-true, eq-eqb, ne_eqb, lt-ltb}
use Rattle.std.proofs.lemmas.List.Sums.{position_or_len_is}
use Rattle.std.proofs.lemmas.Nat.{div-mul-add}
use Rattle.seg_words.proofs.Lemmas.{cases_Bool, cond-true, cond-false}
use Rattle.seg_words.specs.Types.{Shape, UndoAddr, UndoPlace, ListEntry, By, names, entry_for, first_block, new_entry, position_or_len, is_shape, OWN_BLOCKS, LEAST_UNDO_BLOCKS}
use Rattle.redo_model.specs.Records.{Record, Reuse, Insert, Update, Migrate, Return, Delete, Move, RowPart, RowBody, MoveRecord}
use Rattle.redo_model.specs.Model.{Step, Effect, effect_of, row_step, is_active, is_by, is_addr, standing, standing_steps, newest_of, undo_of_step, without_step, place_of_undo, IsTable, IsRowBlock, data_blocks, high_mark, under_high, has_extent, extents_of, entries_of, entry, entry_count, block_of, HeldPart, undo_held, undo_parts, undo_used, undo_sequence, current_undo, part_size, held_at, MigrateAllowed, DeleteAllowed, MoveAllowed, IsKindAllowed, AreAllowed}
use Rattle.redo_model.specs.Effects.{Still, Formats, Adds, TakesBack, Cleans}
use Rattle.redo_model.specs.AllowedRows.{migrates_plain, migrates_again, deletes_plain, deletes_migrated}
use Rattle.redo_model.specs.AllowedMoves.{moves_plain, moves_to_body, moves_migrated}
use Rattle.redo_model.proofs.Bridge.{entry_is, entry_count_is}
use Rattle.redo_laws.specs.Economy.{EachStep, HaveOwnUndo}
use Rattle.redo_laws.specs.Reads.{StandAt, IsPresent}
use Rattle.redo_laws.proofs.allowed.Basics.{EffectBasics, basics}
use Rattle.redo_laws.proofs.allowed.FewParts.{EffectFew, few}
use Rattle.redo_laws.proofs.lists.Every.{Every, every-filter}
use Rattle.redo_laws.proofs.numbers.Bounds.{Limits, limits, places_bound, current_bound}
use Rattle.redo_laws.proofs.space.Places.{InExtent, in_data, in_contains, in_take}
use Rattle.redo_laws.proofs.steps.Held.{newest_has, newest_each, newest_is_by}
use Rattle.redo_laws.proofs.steps.OnTop.{addr_self}
use Rattle.redo_laws.proofs.undo.EconomyLaw.{undo_is_enough}
use Rattle.redo_laws.proofs.undo.ReadsLaw.{undo_is_read}
use Rattle.back_laws.specs.Backs.{EachPart, EntryStays, StepEntries, HomeOf, StepHome}
use Rattle.back_laws.proofs.BackHomes.{steps_at_home, newest_shows}
use Rattle.back_laws.proofs.Entered.{entries_stay}
use Rattle.version_laws.specs.Types.{IsInUse, AreLinked}
use Rattle.version_laws.proofs.Linking.{previous_is_next}
use Rattle.end_laws.specs.Backing.{held_of, PartTold, extent_number, IsInExtent, present_addr, BackTold, BacksAreTold}

-- ---- each standing step's undo block is in use, and the step has 1 to 3 parts

record StepFew (sh : Shape) (st : Step) : Type 0 where
  from : OWN_BLOCKS ≤ st.undo.block
  to : st.undo.block < OWN_BLOCKS + sh.undo
  used : 1 ≤ st.undo.seq
  least : 1 ≤ length st.parts
  most : length st.parts ≤ 3

current_used : (R : List Record) (u : ℕ) → current_undo R ≡ Some u → 1 ≤ undo_sequence R u
current_used [] u e = absurd (let x : ◌≡◌ {A = Option ℕ} None (Some u) = e in cc)
current_used (Reuse q ∷ R) u e =
    let same : q.block ≡ u = (let x : ◌≡◌ {A = Option ℕ} (Some q.block) (Some u) = e in cc) in
    let is : undo_sequence (Reuse q ∷ R) u ≡ suc (undo_sequence R u) = cond-true _ _ _ (eq-eqb q.block u same) in
    omega (arith, is)
current_used (_ ∷ R) u e = current_used R u e

few_effect : (sh : Shape) (R : List Record) (e : Effect) → LEAST_UNDO_BLOCKS ≤ sh.undo → AreAllowed sh R → EffectBasics R e → EffectFew e → Every (StepFew sh) (standing R) → Every (StepFew sh) (standing_steps e (standing R))
few_effect sh R Still two h b f k = k
few_effect sh R (Formats d) two h b f k = k
few_effect sh R (Adds st) two h b f k =
    let c = current_bound sh R st.undo.block two h b.undo.current in
    let u = current_used R st.undo.block b.undo.current in
    let s = b.undo.sequence in
    (record { from = c.0; to = c.1; used = omega (arith, u, s); least = b.least; most = f }, k)
few_effect sh R (TakesBack t) two h b f k = every-filter _ _ (standing R) k
few_effect sh R (Cleans d cs) two h b f k = k

steps_few : (sh : Shape) (R : List Record) → LEAST_UNDO_BLOCKS ≤ sh.undo → AreAllowed sh R → Every (StepFew sh) (standing R)
steps_few sh [] two h = tt
steps_few sh (r ∷ R) two h = few_effect sh R (effect_of r) two h.0 (basics sh R r h.1.kind) (few sh R r h.1.kind) (steps_few sh R two h.0)

-- ---- parts by their places

held_below : (hs : List HeldPart) (n : ℕ) (x : HeldPart) → held_at hs n ≡ Some x → n < length hs
held_below [] n x e = absurd (let z : ◌≡◌ {A = Option HeldPart} None (Some x) = e in cc)
held_below (h ∷ hs) zero x e = omega arith
held_below (h ∷ hs) (suc n) x e = let l = held_below hs n x e in omega (arith, l)

stand_nth : (hs : List HeldPart) (st : Step) (n : ℕ) (ps : List RowPart) (i : ℕ) (p : RowPart) → StandAt hs st n ps → slice_get ps i ≡ Some p → held_at hs (n + i) ≡ Some (held_of st p)
stand_nth hs st n [] i p h e = absurd (let z : ◌≡◌ {A = Option RowPart} None (Some p) = e in cc)
stand_nth hs st n (q ∷ ps) zero p h e =
    let same : q ≡ p = (let z : ◌≡◌ {A = Option RowPart} (Some q) (Some p) = e in cc) in
    subst (λ (x : RowPart). held_at hs (n + 0) ≡ Some (held_of st x)) same (subst (λ m. held_at hs m ≡ Some (held_of st q)) (let z : n ≡ n + 0 = omega arith in z) h.0)
stand_nth hs st n (q ∷ ps) (suc i) p h e = subst (λ m. held_at hs m ≡ Some (held_of st p)) (let z : suc n + i ≡ n + suc i = omega arith in z) (stand_nth hs st (suc n) ps i p h.1 e)

each_nth : (P : RowPart → Type 0) (ps : List RowPart) (i : ℕ) (p : RowPart) → EachPart P ps → slice_get ps i ≡ Some p → P p
each_nth P [] i p h e = absurd (let z : ◌≡◌ {A = Option RowPart} None (Some p) = e in cc)
each_nth P (q ∷ ps) zero p h e = let same : q ≡ p = (let z : ◌≡◌ {A = Option RowPart} (Some q) (Some p) = e in cc) in subst P same h.0
each_nth P (q ∷ ps) (suc i) p h e = each_nth P ps i p h.1 e

first_stands : (hs : List HeldPart) (st : Step) (n : ℕ) (ps : List RowPart) → 1 ≤ length ps → StandAt hs st n ps → n < length hs
first_stands hs st n [] l h = absurd (omega (arith, l))
first_stands hs st n (p ∷ ps) l h = held_below hs n _ h.0

length_map : {A B : Type 0} (f : A → B) (xs : List A) → length (map f xs) ≡ length xs
length_map f [] = refl
length_map f (x ∷ xs) = ap suc (length_map f xs)

-- ---- list entries

-- whoever has ended, the first entry that names the transaction is the one that it uses
entry_used : (ended : ℕ → Bool) (R : List Record) (b t place : ℕ) → place < entry_count R b → (entry R b place).txn ≡ t → ((j : ℕ) → j < place → (entry R b j).txn ≡ t → ⊥) → entry_for ended (block_of R b) t ≡ Some place
entry_used ended R b t place l n f =
    let es = entries_of R b in
    let w : place < length es = subst (λ m. place < m) (sym (entry_count_is R b)) l in
    let here : names t (get_or es place new_entry) ≡ true = eq-eqb _ t (ap (λ (e : ListEntry). e.txn) (entry_is R b place) ∙ n) in
    let at : position_or_len (names t) es ≡ place = position_or_len_is (names t) es place new_entry (omega (arith, w)) (λ j k. ne_eqb _ t (λ same. f j k (ap (λ (e : ListEntry). e.txn) (sym (entry_is R b j)) ∙ same))) (λ _. here) in
    cond-true _ _ _ (ap (λ (m : ℕ). nat_lt m (length es)) at ∙ lt-ltb place (length es) w) ∙ ap (λ (m : ℕ). Some m) at

-- ---- the extent

number_is : (sh : Shape) (x b : ℕ) → first_block sh x ≤ b → b < first_block sh x + sh.extent → extent_number sh b ≡ x
number_is sh x b from to =
    let split : b - (OWN_BLOCKS + sh.undo) ≡ x * sh.extent + (b - first_block sh x) = omega (arith, from) in
    ap (λ (n : ℕ). n / sh.extent) split ∙ div-mul-add x sh.extent (b - first_block sh x) (omega (arith, from, to))

in_extent : (sh : Shape) (R : List Record) (o : ℕ) (ps : List RowPart) → 1 ≤ length ps → EachPart (λ p. IsRowBlock sh R o p.dba) ps → IsInExtent sh R o ps
in_extent sh R o [] l h = absurd (omega (arith, l))
in_extent sh R o (p ∷ ps) l h =
    let c = h.0.here in
    let y : InExtent sh (extents_of R o) p.dba = in_data sh 0 (extents_of R o) p.dba (in_take p.dba (high_mark R o) (data_blocks sh R o) (in_contains (under_high sh R o) p.dba c.0 c.1 c.2)) in
    let from = y.from in
    (omega (arith, from), ap (has_extent (extents_of R o)) (number_is sh y.extent p.dba y.from y.to) ∙ y.has)

-- ---- the record before

none_without : (a : UndoAddr) (ss : List Step) → EachStep (λ x. is_addr x.undo a ≡ false) ss → without_step a ss ≡ ss
none_without a [] h = refl
none_without a (s ∷ ss) h = cond-true _ _ _ (ap not h.0) ∙ ap (λ (xs : List Step). s ∷ xs) (none_without a ss h.1)

next_of : (ss : List Step) (t : ℕ) (st : Step) → newest_of ss t ≡ Some st → HaveOwnUndo ss → AreLinked ss → st.previous ≡ place_of_undo (undo_of_step (newest_of (without_step st.undo ss) t))
next_of [] t st e h l = absurd (let x : ◌≡◌ {A = Option Step} None (Some st) = e in cc)
next_of (s ∷ ss) t st e h l = elim (cases_Bool (is_by s.by t)) [
  | inl y ↦
      let z : ◌≡◌ {A = Option Step} (Some s) (Some st) = sym (cond-true _ _ _ y) ∙ e in
      let same : s ≡ st = cc in
      let by : s.by ≡ By t = newest_is_by (s ∷ ss) t s (cond-true _ _ _ y) in
      let gone : without_step s.undo (s ∷ ss) ≡ ss = cond-false _ _ _ (ap not (addr_self s.undo)) ∙ none_without s.undo ss h.0 in
      let mine : s.previous ≡ place_of_undo (undo_of_step (newest_of (without_step s.undo (s ∷ ss)) t)) = l.0 t by ∙ ap (λ (xs : List Step). place_of_undo (undo_of_step (newest_of xs t))) (sym gone) in
      subst (λ (x : Step). x.previous ≡ place_of_undo (undo_of_step (newest_of (without_step x.undo (s ∷ ss)) t))) same mine
  | inr f ↦
      next_of ss t st (sym (cond-false _ _ _ f) ∙ e) h.1 l.1
      ∙ ap (λ (o : Option Step). place_of_undo (undo_of_step o))
      (elim (not (is_addr s.undo st.undo)) as (λ v. newest_of (without_step st.undo ss) t ≡ newest_of (cond v (s ∷ without_step st.undo ss) (without_step st.undo ss)) t) [ true ↦ sym (cond-false _ _ _ f) | false ↦ refl ])
]

-- a step of which all that is needed of an earlier record is known
record IsBefore (sh : Shape) (R : List Record) (st : Step) : Type 0 where
  few : StepFew sh st
  present : (u : ℕ) → st.by ≡ By u → is_active R u ≡ true → IsPresent R st.undo

each_before : (sh : Shape) (R : List Record) (ss : List Step) → Every (StepFew sh) ss → EachStep (λ st. (u : ℕ) → st.by ≡ By u → is_active R u ≡ true → IsPresent R st.undo × StandAt (undo_held R st.undo.block) st st.undo.nth st.parts) ss → Every (IsBefore sh R) ss
each_before sh R [] f h = tt
each_before sh R (s ∷ ss) f h = (record { few = f.0; present = λ u by on. (h.0 u by on).0 }, each_before sh R ss f.1 h.1)

used_by_step : (sh : Shape) (R : List Record) (st : Step) (t : ℕ) → IsBefore sh R st → st.by ≡ By t → is_active R t ≡ true → IsInUse sh R st.undo.block
used_by_step sh R st t b by on = record {
  ring = record { from = b.few.from; to = b.few.to };
  used = (let p = b.present t by on in let u = b.few.used in omega (arith, p, u));
}

before_used : (sh : Shape) (R : List Record) (t : ℕ) (ss : List Step) (o : Option Step) (a : UndoPlace) → newest_of ss t ≡ o → Every (IsBefore sh R) ss → is_active R t ≡ true → place_of_undo (undo_of_step o) ≡ Some a → IsInUse sh R a.block
before_used sh R t ss None a e h on p = absurd (let z : ◌≡◌ {A = Option UndoPlace} None (Some a) = p in cc)
before_used sh R t ss (Some st) a e h on p =
    let at : ◌≡◌ {A = UndoPlace} (record { block = st.undo.block; nth = st.undo.nth }) a = (let z : ◌≡◌ {A = Option UndoPlace} (Some (record { block = st.undo.block; nth = st.undo.nth })) (Some a) = p in cc) in
    subst (λ (x : UndoPlace). IsInUse sh R x.block) at (used_by_step sh R st t (newest_has (IsBefore sh R) ss t st e h) (newest_is_by ss t st e) on)

last_is : (sh : Shape) (R : List Record) (t : ℕ) (ss : List Step) (o : Option Step) → newest_of ss t ≡ o → Every (IsBefore sh R) ss → is_active R t ≡ true → present_addr R (place_of_undo (undo_of_step o)) ≡ undo_of_step o
last_is sh R t ss None e h on = refl
last_is sh R t ss (Some st) e h on =
    let p : st.undo.seq ≡ undo_sequence R st.undo.block = (newest_has (IsBefore sh R) ss t st e h).present t (newest_is_by ss t st e) on in
    ap (λ (s : ℕ). some_addr (record st.undo { seq = s })) (sym p)
  where
    some_addr : UndoAddr → Option UndoAddr
    some_addr x = Some x

pub backs_are_told : BacksAreTold
backs_are_told sh R t st shape h on e =
    let ss = standing R in
    let by = newest_is_by ss t st e in
    let reads = undo_is_read sh R h in
    let economy = undo_is_enough sh R h in
    let befores = each_before sh R ss (steps_few sh R (limits sh shape).undo_from h) reads.there in
    let before = newest_has (IsBefore sh R) ss t st e befores in
    let stands = (newest_each _ ss t st e reads.there t by on).1 in
    let home = newest_each (StepHome sh R) ss t st e (steps_at_home sh R h) t by on in
    let stays = newest_each (StepEntries R) ss t st e (entries_stay sh R h) t by on in
    let rest = without_step st.undo ss in
    let rests : Every (IsBefore sh R) rest = every-filter _ _ ss befores in
    let previous = next_of ss t st e economy.distinct (previous_is_next sh R h) in
    let count : length (undo_parts R st.undo.block) ≡ length (undo_held R st.undo.block) = ap length (reads.sizes st.undo.block) ∙ length_map _ (undo_held R st.undo.block) in
    let held = first_stands (undo_held R st.undo.block) st st.undo.nth st.parts before.few.least stands in
    let full = economy.full st.undo.block in
    let bound = places_bound R st.undo.block [] (omega (arith, full)) in
    record {
      by = by;
      in_use = used_by_step sh R st t before by on;
      least = before.few.least;
      most = before.few.most;
      place = omega (arith, count, held, bound);
      part = λ i p at. (let s = each_nth (EntryStays R t) st.parts i p stays at in record {
        held = stand_nth (undo_held R st.undo.block) st st.undo.nth st.parts i p stands at;
        home = each_nth (λ q. IsRowBlock sh R st.obj q.dba) st.parts i p home.blocks at;
        place = s.place;
        stated = s.place_is;
        enters = λ ended. entry_used ended R p.dba t s.place s.within s.names_it s.first;
      });
      table = home.table;
      extent = in_extent sh R st.obj st.parts before.few.least home.blocks;
      shows = newest_shows sh R t st h on e;
      before = λ a eq. before_used sh R t rest (newest_of rest t) a refl rests on (sym previous ∙ eq);
      last = ap (present_addr R) previous ∙ last_is sh R t rest (newest_of rest t) refl rests on;
    }
