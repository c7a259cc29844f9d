-- Each row is seen in one slot: where its newest step that counts put it.
use Rattle.std.proofs.Common.{◌≡◌, ℕ, ◌<◌, ◌≤◌, Bool, true, false, cond, not, ◌&&◌, ◌||◌, eqb, List, [], ◌∷◌, Option, Some, None, refl, sym, ◌∙◌, ap, ap₂, subst, arith, ◌⊎◌, inl, inr, le_trans, eqb-true, ne_eqb, true≢false, eq-eqb}
use Rattle.seg_words.proofs.Lemmas.{eqb-false, cond-true, cond-false, cases_Bool, and_parts, and_from, and_left, and_right}
use Rattle.seg_words.specs.Types.{Shape, Slot, UndoAddr, Writer, By, At}
use Rattle.redo_model.specs.Records.{Record, RowPart, BackRecord}
use Rattle.redo_model.specs.Model.{Step, Effect, effect_of, written, restored, txn_count, is_active, is_addr, is_by, without_step, standing_steps, standing, newest_on, is_place, placed_in, changed_image, image, Made, made_by, without, changed_makers, makers, first_counted, row_in}
use Rattle.redo_model.specs.Effects.{Still, Formats, Adds, TakesBack, Cleans}
use Rattle.redo_laws.proofs.lists.Every.{Every, every-map}
use Rattle.redo_laws.proofs.steps.OnTop.{is_named, addr_self, off_named, head_named, OnTop}
use Rattle.redo_laws.proofs.steps.Facts.{StatesOld, Counted, Found, place_of, located, seen, MayOver, HeadOver, BegunBy, StepFits, BackFits, HeadSettled, EffectFits, IsFit, IfSettled, SameCounts, IsClosed, EachOnce}
use Rattle.redo_laws.proofs.numbers.Known.{Turn, turn}
use Rattle.redo_laws.proofs.spread.Stays.{effect_stays}
use Rattle.redo_laws.proofs.steps.Held.{Stands, own, Held, own_newest, Tops, tops, effect_held}

-- what counts

abbrev Settles : Counted → (ℕ → Bool) → Writer → UndoAddr → Type 0
Settles c active w a = IfSettled active w (c w a ≡ true)

settled_stands : (c : Counted) (active : ℕ → Bool) (ss : List Step) (w : Writer) (a : UndoAddr) → Stands ss w a → IsClosed c active ss → Settles c active w a
settled_stands c active [] w a s h = absurd s
settled_stands c active (x ∷ ss) w a s h =
    elim s [
      | inl e ↦ subst (λ z. Settles c active z a) e.0 (subst (λ z. Settles c active x.by z) e.1 h.0)
      | inr z ↦ settled_stands c active ss w a z h.2
    ]

same_stands : (c : Counted) (ss : List Step) (v w : Writer) (a : UndoAddr) → Stands ss w a → SameCounts c v ss → w ≡ v → c w a ≡ true
same_stands c [] v w a s h e = absurd s
same_stands c (x ∷ ss) v w a s h e =
    elim s [
      | inl y ↦ subst (λ z. c z a ≡ true) y.0 (subst (λ z. c x.by z ≡ true) y.1 (h.0 (y.0 ∙ e)))
      | inr z ↦ same_stands c ss v w a z h.1 e
    ]

-- what w may write over counts, where w's own earlier steps do
over_counts : (c : Counted) (active : ℕ → Bool) (ss : List Step) (w v : Writer) (a : UndoAddr) → Stands ss v a → IsClosed c active ss → SameCounts c w ss → MayOver active w v → c v a ≡ true
over_counts c active ss w (By u) a s h same o =
    elim (cases_Bool (active u)) [ inl on ↦ same_stands c ss w (By u) a s same (sym (o on)) | inr off ↦ settled_stands c active ss (By u) a s h off ]
over_counts c active ss w (At m) a s h same o = settled_stands c active ss (At m) a s h

pub head_over : (c : Counted) (active : ℕ → Bool) (ss : List Step) (w : Writer) (i : Slot) (ms : List Made) → Every (λ (m : Made). Stands ss m.by m.undo) ms → IsClosed c active ss → SameCounts c w ss → HeadOver active w ms → first_counted c i ms ≡ i
head_over c active ss w i [] s h same o = refl
head_over c active ss w i (m ∷ ms) s h same o = cond-true _ _ _ (over_counts c active ss w m.by m.undo s.0 h same o)

settles_off : (c : Counted) (active : ℕ → Bool) (w : Writer) (a : UndoAddr) → ((u : ℕ) → w ≡ By u → active u ≡ false) → Settles c active w a → c w a ≡ true
settles_off c active (By u) a off h = h (off u refl)
settles_off c active (At m) a off h = h

pub head_settled : (c : Counted) (active : ℕ → Bool) (ss : List Step) (i : Slot) (ms : List Made) → Every (λ (m : Made). Stands ss m.by m.undo) ms → IsClosed c active ss → HeadSettled active ms → first_counted c i ms ≡ i
head_settled c active ss i [] s h o = refl
head_settled c active ss i (m ∷ ms) s h o = cond-true _ _ _ (settles_off c active m.by m.undo o (settled_stands c active ss m.by m.undo s.0 h))

-- the newest step on a row

newest_stands : (ss : List Step) (n : ℕ) (last : Step) → newest_on ss n ≡ Some last → Stands ss last.by last.undo
newest_stands [] n last h = absurd (let x : ◌≡◌ {A = Option Step} None (Some last) = h in cc)
newest_stands (x ∷ ss) n last h =
    (elim (eqb x.row n) as (λ v. cond v (Some x) (newest_on ss n) ≡ Some last → Stands (x ∷ ss) last.by last.undo) [
      | true ↦ λ e. let same : x ≡ last = cc in inl (ap (λ (s : Step). s.by) same, ap (λ (s : Step). s.undo) same)
      | false ↦ λ e. inr (newest_stands ss n last e)
    ]) h

pub located_newest : (c : Counted) (ss : List Step) (n : ℕ) (last : Step) → newest_on ss n ≡ Some last → c last.by last.undo ≡ true → located c ss n ≡ place_of last.parts
located_newest c [] n last h y = absurd (let x : ◌≡◌ {A = Option Step} None (Some last) = h in cc)
located_newest c (x ∷ ss) n last h y =
    (elim (eqb x.row n) as (λ v. cond v (Some x) (newest_on ss n) ≡ Some last → cond (c x.by x.undo && v) (place_of x.parts) (located c ss n) ≡ place_of last.parts) [
      | true ↦ λ e. let same : last ≡ x = cc in subst (λ (s : Step). c s.by s.undo ≡ true → cond (c x.by x.undo && true) (place_of x.parts) (located c ss n) ≡ place_of s.parts) (sym same) (λ on. cond-true _ _ _ (and_from (c x.by x.undo) true on refl)) y
      | false ↦ λ e. cond-false _ _ _ (and_right (c x.by x.undo) false refl) ∙ located_newest c ss n last e y
    ]) h

located_none : (c : Counted) (ss : List Step) (n : ℕ) → newest_on ss n ≡ None → located c ss n ≡ None
located_none c [] n h = refl
located_none c (x ∷ ss) n h =
    (elim (eqb x.row n) as (λ v. cond v (Some x) (newest_on ss n) ≡ None → cond (c x.by x.undo && v) (place_of x.parts) (located c ss n) ≡ None) [
      | true ↦ λ e. cc
      | false ↦ λ e. cond-false _ _ _ (and_right (c x.by x.undo) false refl) ∙ located_none c ss n e
    ]) h

-- the image of a named slot is the old image of a part
old_row : (R : List Record) (n b k : ℕ) (x : ℕ × List ℕ) (ps : List RowPart) → StatesOld R ps → Every (λ (p : RowPart). (x : ℕ × List ℕ) → row_in p.old ≡ Some x → x.0 ≡ n) ps → is_named ps b k ≡ true → row_in (image R b k) ≡ Some x → x.0 ≡ n
old_row R n b k x [] o f h r = absurd (true≢false (sym h))
old_row R n b k x (p ∷ ps) o f h r =
    elim (cases_Bool (is_place p.dba p.slot b k)) [
      | inl y ↦ let q = and_parts (eqb p.dba b) (eqb p.slot k) y in f.0 x (ap row_in (o.0 ∙ ap₂ (image R) (eqb-true p.dba b q.0) (eqb-true p.slot k q.1)) ∙ r)
      | inr m ↦ old_row R n b k x ps o.1 f.1 (sym (ap (λ v. v || is_named ps b k) m) ∙ h) r
    ]

-- after an effect

record OnceAfter (c : Counted) (R : List Record) (ef : Effect) (b k n : ℕ) (bytes : List ℕ) : Type 0 where
  found : row_in (first_counted c (changed_image ef b k (image R b k)) (changed_makers ef b k (makers R b k))) ≡ Some (n, bytes) → located c (standing_steps ef (standing R)) n ≡ Some (b, k, bytes)
  shown : located c (standing_steps ef (standing R)) n ≡ Some (b, k, bytes) → row_in (first_counted c (changed_image ef b k (image R b k)) (changed_makers ef b k (makers R b k))) ≡ Some (n, bytes)

abbrev pub Spread : List Record → Type 0
Spread R = (c : Counted) → IsClosed c (is_active R) (standing R) → (b k n : ℕ) (bytes : List ℕ) → EachOnce c R b k n bytes

formats_spread : (R : List Record) (d : ℕ) → EffectFits R (Formats d) → Held (is_active R) (txn_count R) (standing R) (makers R) → Spread R → (c : Counted) → IsClosed c (is_active R) (standing R) → (b k n : ℕ) (bytes : List ℕ) → OnceAfter c R (Formats d) b k n bytes
formats_spread R d f h s c closed b k n bytes =
    let once = s c closed b k n bytes in
    elim (cases_Bool (eqb d b)) [
      | inl y ↦
          let gone : row_in (first_counted c (changed_image (Formats d) b k (image R b k)) (changed_makers (Formats d) b k (makers R b k))) ≡ None = rw y refl in
          let same : d ≡ b = eqb-true d b y in
          let bare : seen c R b k ≡ None = subst (λ x. seen c R x k ≡ None) same (ap row_in (head_settled c (is_active R) (standing R) (image R d k) (makers R d k) (h.stand d k) closed (f k).1) ∙ (f k).0) in
          record {
            found = λ e. absurd (let x : ◌≡◌ {A = Option (ℕ × List ℕ)} None (Some (n, bytes)) = sym gone ∙ e in cc);
            shown = λ e. absurd (let x : ◌≡◌ {A = Option (ℕ × List ℕ)} None (Some (n, bytes)) = sym bare ∙ once.shown e in cc);
          }
      | inr z ↦ let stays = effect_stays R c b k (Formats d) z in record { found = λ e. once.found (sym stays ∙ e); shown = λ e. stays ∙ once.shown e }
    ]

adds_spread : (R : List Record) (st : Step) → StepFits R st → Held (is_active R) (txn_count R) (standing R) (makers R) → Spread R → (c : Counted) → IsClosed c (is_active R) (st ∷ standing R) → (b k n : ℕ) (bytes : List ℕ) → OnceAfter c R (Adds st) b k n bytes
adds_spread R st f h s c closed b k n bytes =
    let once = s c closed.2 b k n bytes in
    let ss = standing R in
    elim (cases_Bool (c st.by st.undo)) [
      | inr off ↦
          let stays = effect_stays R c b k (Adds st) (off, f.old) in
          let skips : located c (st ∷ ss) n ≡ located c ss n = cond-false _ _ _ (and_left (c st.by st.undo) (eqb st.row n) off) in
          record { found = λ e. skips ∙ once.found (sym stays ∙ e); shown = λ e. stays ∙ once.shown (sym skips ∙ e) }
      | inl on ↦
          let same = closed.1 on in
          let after : Option (ℕ × List ℕ) = row_in (first_counted c (changed_image (Adds st) b k (image R b k)) (changed_makers (Adds st) b k (makers R b k))) in
          let mine : st.row ≡ n → located c (st ∷ ss) n ≡ place_of st.parts = λ e. cond-true _ _ _ (and_from (c st.by st.undo) (eqb st.row n) on (eq-eqb st.row n e)) in
          let not_mine : (st.row ≡ n → ⊥) → located c (st ∷ ss) n ≡ located c ss n = λ e. cond-false _ _ _ (and_right (c st.by st.undo) (eqb st.row n) (ne_eqb st.row n e)) in
          elim (cases_Bool (is_named st.parts b k)) [
            | inl y ↦
                let w = head_named st 0 st.parts b k (makers R b k) y in
                let written : after ≡ row_in (placed_in (written st.parts) b k (image R b k)) = ap row_in (ap (first_counted c (placed_in (written st.parts) b k (image R b k))) w.list ∙ cond-true (c w.made.by w.made.undo) _ _ (ap₂ c w.by_is w.undo_is ∙ on)) in
                let before : seen c R b k ≡ row_in (image R b k) = ap row_in (head_over c (is_active R) ss st.by (image R b k) (makers R b k) (h.stand b k) closed.2 same (f.slots_free b k y)) in
                record {
                  found = λ e. let r = f.new_rows b k (image R b k) (n, bytes) y (sym written ∙ e) in mine (sym r.0) ∙ r.1;
                  shown = λ e. elim (cases_Bool (eqb st.row n)) [
                    | inl q ↦ let row = eqb-true st.row n q in written ∙ (f.place b k bytes (image R b k) (sym (mine row) ∙ e)).1 ∙ ap (λ m. Some (m, bytes)) row
                    | inr q ↦ absurd (eqb-false st.row n q (sym (old_row R st.row b k (n, bytes) st.parts f.old f.old_rows y (sym before ∙ once.shown (sym (not_mine (eqb-false st.row n q)) ∙ e)))))
                  ];
                }
            | inr z ↦
                let stays : after ≡ seen c R b k = off_slot R st b k c z in
                record {
                  found = λ e. let was = once.found (sym stays ∙ e) in elim (cases_Bool (eqb st.row n)) [
                    | inl q ↦ absurd (true≢false (sym (covered R st f h c closed.2 same n b k bytes (eqb-true st.row n q) was) ∙ z))
                    | inr q ↦ not_mine (eqb-false st.row n q) ∙ was
                  ];
                  shown = λ e. elim (cases_Bool (eqb st.row n)) [
                    | inl q ↦ absurd (true≢false (sym (f.place b k bytes (image R b k) (sym (mine (eqb-true st.row n q)) ∙ e)).0 ∙ z))
                    | inr q ↦ stays ∙ once.shown (sym (not_mine (eqb-false st.row n q)) ∙ e)
                  ];
                }
          ]
    ]
  where
    new_left : (ps : List RowPart) (b k : ℕ) (i : Slot) → is_named ps b k ≡ false → placed_in (written ps) b k i ≡ i
    new_left [] b k i z = refl
    new_left (p ∷ ps) b k i z = elim (cases_Bool (is_place p.dba p.slot b k)) [ inl y ↦ absurd (true≢false (sym (ap (λ v. v || is_named ps b k) y) ∙ z)) | inr m ↦ cond-false _ _ _ m ∙ new_left ps b k i (sym (ap (λ v. v || is_named ps b k) m) ∙ z) ]

    off_slot : (R : List Record) (st : Step) (b k : ℕ) (c : Counted) → is_named st.parts b k ≡ false → row_in (first_counted c (placed_in (written st.parts) b k (image R b k)) (made_by st 0 st.parts b k (makers R b k))) ≡ seen c R b k
    off_slot R st b k c z = ap₂ (λ i ms. row_in (first_counted c i ms)) (new_left st.parts b k (image R b k) z) (off_named st 0 st.parts b k (makers R b k) z)

    covered : (R : List Record) (st : Step) → StepFits R st → Held (is_active R) (txn_count R) (standing R) (makers R) → (c : Counted) → IsClosed c (is_active R) (standing R) → SameCounts c st.by (standing R) → (n b k : ℕ) (bytes : List ℕ) → st.row ≡ n → located c (standing R) n ≡ Some (b, k, bytes) → is_named st.parts b k ≡ true
    covered R st f h c closed same n b k bytes row was = go (newest_on (standing R) st.row) refl
      where
        at_row : located c (standing R) st.row ≡ Some (b, k, bytes)
        at_row = ap (located c (standing R)) row ∙ was

        go : (o : Option Step) → newest_on (standing R) st.row ≡ o → is_named st.parts b k ≡ true
        go None e = absurd (let x : ◌≡◌ {A = Option Found} None (Some (b, k, bytes)) = sym (located_none c (standing R) st.row e) ∙ at_row in cc)
        go (Some last) e =
            let counts = over_counts c (is_active R) (standing R) st.by last.by last.undo (newest_stands (standing R) st.row last e) closed same (f.row_free last e) in
            f.covers last b k bytes e (sym (located_newest c (standing R) st.row last e counts) ∙ at_row)

-- what counts, but for the step that is taken back
abbrev pub but : Counted → UndoAddr → Counted
but c a w x = c w x && not (is_addr x a)

settled_map : (active : ℕ → Bool) (w : Writer) (P Q : Type 0) → (P → Q) → IfSettled active w P → IfSettled active w Q
settled_map active (By u) P Q f h = λ off. f (h off)
settled_map active (At m) P Q f h = f h

settled_live : (active : ℕ → Bool) (w : Writer) (v : ℕ) (P : Type 0) → active v ≡ true → w ≡ By v → IfSettled active w P
settled_live active w v P on e = subst (λ z. IfSettled active z P) (sym e) (λ off. absurd (true≢false (sym on ∙ off)))

pub by_of : (w : Writer) (v : ℕ) → is_by w v ≡ true → w ≡ By v
by_of (By u) v h = ap By (eqb-true u v h)
by_of (At m) v h = absurd (true≢false (sym h))

but_true : (c : Counted) (a : UndoAddr) (w : Writer) (x : UndoAddr) → is_addr x a ≡ false → c w x ≡ true → but c a w x ≡ true
but_true c a w x f h = and_from (c w x) (not (is_addr x a)) h (ap not f)

pub tops_by : (a : UndoAddr) (v : ℕ) (ss : List Step) → Tops a v ss → Every (λ (s : Step). is_addr s.undo a ≡ true → is_by s.by v ≡ true) ss
tops_by a v [] h = tt
tops_by a v (s ∷ ss) h = (h.0, tops_by a v ss h.2)

same_but : (c : Counted) (a : UndoAddr) (w : Writer) (ss : List Step) → Every (λ (s : Step). is_addr s.undo a ≡ true → s.by ≡ w → ⊥) ss → SameCounts c w (without_step a ss) → SameCounts (but c a) w ss
same_but c a w [] f h = tt
same_but c a w (s ∷ ss) f h =
    (elim (is_addr s.undo a) as (λ v. is_addr s.undo a ≡ v → SameCounts c w (cond (not v) (s ∷ without_step a ss) (without_step a ss)) → SameCounts (but c a) w (s ∷ ss)) [
      | true ↦ λ e k. ((λ i. absurd (f.0 e i)), same_but c a w ss f.1 k)
      | false ↦ λ e k. ((λ i. but_true c a s.by s.undo e (k.0 i)), same_but c a w ss f.1 k.1)
    ]) refl h

pub closed_but : (c : Counted) (active : ℕ → Bool) (a : UndoAddr) (v : ℕ) (ss : List Step) → active v ≡ true → Tops a v ss → IsClosed c active (without_step a ss) → IsClosed (but c a) active ss
closed_but c active a v [] on t h = tt
closed_but c active a v (s ∷ ss) on t h =
    (elim (is_addr s.undo a) as (λ w. is_addr s.undo a ≡ w → IsClosed c active (cond (not w) (s ∷ without_step a ss) (without_step a ss)) → IsClosed (but c a) active (s ∷ ss)) [
      | true ↦ λ e k. (
        settled_live active s.by v _ on (by_of s.by v (t.0 e)),
        (λ y. absurd (true≢false (sym y ∙ and_right (c s.by s.undo) _ (ap not e)))),
        closed_but c active a v ss on t.2 k,
      )
      | false ↦ λ e k. (
        settled_map active s.by _ _ (but_true c a s.by s.undo e) k.0,
        (λ y. same_but c a s.by ss (apart (cases_Bool (is_by s.by v))) (k.1 (and_parts (c s.by s.undo) (not (is_addr s.undo a)) y).0)),
        closed_but c active a v ss on t.2 k.2,
      )
    ]) refl h
  where
    apart : (is_by s.by v ≡ true) ⊎ (is_by s.by v ≡ false) → Every (λ (x : Step). is_addr x.undo a ≡ true → x.by ≡ s.by → ⊥) ss
    apart (inl y) = every-map _ _ ss (λ x f e i. true≢false (sym e ∙ f)) (t.1 y)
    apart (inr n) = every-map _ _ ss (λ x f e i. true≢false (sym (f e) ∙ ap (λ w. is_by w v) i ∙ n)) (tops_by a v ss t.2)

located_but : (c : Counted) (a : UndoAddr) (ss : List Step) (n : ℕ) → located c (without_step a ss) n ≡ located (but c a) ss n
located_but c a [] n = refl
located_but c a (s ∷ ss) n =
    (elim (is_addr s.undo a) as (λ w. is_addr s.undo a ≡ w → located c (cond (not w) (s ∷ without_step a ss) (without_step a ss)) n ≡ cond ((c s.by s.undo && not w) && eqb s.row n) (place_of s.parts) (located (but c a) ss n)) [
      | true ↦ λ _. located_but c a ss n ∙ sym (cond-false _ _ _ (and_left (c s.by s.undo && false) (eqb s.row n) (and_right (c s.by s.undo) false refl)))
      | false ↦ λ _. elim (c s.by s.undo) as (λ z. cond (z && eqb s.row n) (place_of s.parts) (located c (without_step a ss) n) ≡ cond ((z && true) && eqb s.row n) (place_of s.parts) (located (but c a) ss n)) [
        | true ↦ ap (cond (eqb s.row n) (place_of s.parts)) (located_but c a ss n)
        | false ↦ located_but c a ss n
      ]
    ]) refl

pub counted_but : (c : Counted) (a : UndoAddr) (i : Slot) (ms : List Made) → first_counted c i (without a ms) ≡ first_counted (but c a) i (without a ms)
counted_but c a i [] = refl
counted_but c a i (m ∷ ms) =
    (elim (is_addr m.undo a) as (λ w. is_addr m.undo a ≡ w → first_counted c i (cond (not w) (m ∷ without a ms) (without a ms)) ≡ first_counted (but c a) i (cond (not w) (m ∷ without a ms) (without a ms))) [
      | true ↦ λ _. counted_but c a i ms
      | false ↦ λ e. rw e (elim (c m.by m.undo) as (λ z. cond z i (first_counted c m.old (without a ms)) ≡ cond (z && true) i (first_counted (but c a) m.old (without a ms))) [ true ↦ refl | false ↦ counted_but c a m.old ms ])
    ]) refl

takes_back_spread : (R : List Record) (body : BackRecord) → BackFits R body → Held (is_active R) (txn_count R) (standing R) (makers R) → Spread R → (c : Counted) → IsClosed c (is_active R) (without_step body.undo (standing R)) → (b k n : ℕ) (bytes : List ℕ) → OnceAfter c R (TakesBack body) b k n bytes
takes_back_spread R body f h s c closed b k n bytes =
    let ss = standing R in let a = body.undo in let v = body.txn in
    let t : Tops a v ss = subst (λ x. Tops x v ss) (sym f.undo) (tops ss v f.step h.distinct f.newest) in
    let once = s (but c a) (closed_but c (is_active R) a v ss f.active t closed) b k n bytes in
    let o = own_newest ss v f.step f.newest in
    let whole : OnTop (f.step ∷ o.0) (makers R) = subst (λ us. OnTop us (makers R)) o.1 (h.top v f.active) in
    let off : but c a f.step.by f.step.undo ≡ false = and_right (c f.step.by f.step.undo) _ (ap not (ap (is_addr f.step.undo) f.undo ∙ addr_self f.step.undo)) in
    let stays = ap row_in (counted_but c a (placed_in (restored body.parts) b k (image R b k)) (makers R b k)) ∙ effect_stays R (but c a) b k (TakesBack body) (f.step, off, whole.0, f.undo, f.restores) in
    let moved = located_but c a ss n in
    record { found = λ e. moved ∙ once.found (sym stays ∙ e); shown = λ e. stays ∙ once.shown (sym moved ∙ e) }

effect_spread : (R : List Record) (ef : Effect) → EffectFits R ef → Held (is_active R) (txn_count R) (standing R) (makers R) → Spread R → (c : Counted) → IsClosed c (is_active R) (standing_steps ef (standing R)) → (b k n : ℕ) (bytes : List ℕ) → OnceAfter c R ef b k n bytes
effect_spread R Still f h s c closed b k n bytes = let once = s c closed b k n bytes in record { found = once.found; shown = once.shown }
effect_spread R (Formats d) f h s c closed b k n bytes = formats_spread R d f h s c closed b k n bytes
effect_spread R (Adds st) f h s c closed b k n bytes = adds_spread R st f h s c closed b k n bytes
effect_spread R (TakesBack body) f h s c closed b k n bytes = takes_back_spread R body f h s c closed b k n bytes
effect_spread R (Cleans d cs) f h s c closed b k n bytes =
    let once = s c closed b k n bytes in let stays = effect_stays R c b k (Cleans d cs) tt in
    record { found = λ e. once.found (sym stays ∙ e); shown = λ e. stays ∙ once.shown e }

own_none : (n u : ℕ) (ss : List Step) → Every (λ (s : Step). BegunBy n s.by) ss → n < u → own u ss ≡ []
own_none n u [] h l = refl
own_none n u (s ∷ ss) h l =
    (elim (is_by s.by u) as (λ v. is_by s.by u ≡ v → cond v (s ∷ own u ss) (own u ss) ≡ []) [
      | true ↦ λ e. absurd (let b : BegunBy n (By u) = subst (BegunBy n) (by_of s.by u e) h.0 in omega (arith, b))
      | false ↦ λ _. own_none n u ss h.1 l
    ]) refl

begun_more : (n m : ℕ) (w : Writer) → n ≤ m → BegunBy n w → BegunBy m w
begun_more n m (By u) l h = le_trans h l
begun_more n m (At k) l h = tt

held_turn : (R : List Record) (r : Record) (ss : List Step) (ms : ℕ → ℕ → List Made) → Turn R r → Held (is_active R) (txn_count R) ss ms → Held (is_active (r ∷ R)) (txn_count (r ∷ R)) ss ms
held_turn R r ss ms t h = record {
  begun = every-map _ _ ss (λ s x. begun_more (txn_count R) (txn_count (r ∷ R)) s.by t.more x) h.begun;
  distinct = h.distinct;
  stand = h.stand;
  top = λ u on. elim (t.live u on) [ inl y ↦ h.top u y | inr l ↦ subst (λ us. OnTop us ms) (sym (own_none (txn_count R) u ss h.begun l)) tt ];
}

settled_turn : (R : List Record) (r : Record) (w : Writer) (P : Type 0) → Turn R r → BegunBy (txn_count R) w → IfSettled (is_active (r ∷ R)) w P → IfSettled (is_active R) w P
settled_turn R r (By u) P t b h = λ off. elim (cases_Bool (is_active (r ∷ R) u)) [
  | inl on ↦ elim (t.live u on) [ inl y ↦ absurd (true≢false (sym y ∙ off)) | inr l ↦ absurd (omega (arith, b)) ]
  | inr n ↦ h n
]
settled_turn R r (At m) P t b h = h

pub closed_turn : (R : List Record) (r : Record) (c : Counted) (ss : List Step) → Turn R r → Every (λ (s : Step). BegunBy (txn_count R) s.by) ss → IsClosed c (is_active (r ∷ R)) ss → IsClosed c (is_active R) ss
closed_turn R r c [] t b h = tt
closed_turn R r c (s ∷ ss) t b h = (settled_turn R r s.by _ t b.0 h.0, h.1, closed_turn R r c ss t b.1 h.2)

pub record Good (R : List Record) : Type 0 where
  pub held : Held (is_active R) (txn_count R) (standing R) (makers R)
  pub spread : Spread R

pub good : (sh : Shape) (R : List Record) → IsFit sh R → Good R
good sh [] h = record {
  held = record { begun = tt; distinct = tt; stand = λ b k. tt; top = λ u on. tt };
  spread = λ c closed b k n bytes. record {
    found = λ e. absurd (let x : ◌≡◌ {A = Option (ℕ × List ℕ)} None (Some (n, bytes)) = e in cc);
    shown = λ e. absurd (let x : ◌≡◌ {A = Option Found} None (Some (b, k, bytes)) = e in cc);
  };
}
good sh (r ∷ R) h =
    let g = good sh R h.0 in
    let t = turn sh R r h.2.kind in
    let after = effect_held R (effect_of r) h.1 g.held in
    record {
      held = held_turn R r (standing (r ∷ R)) (makers (r ∷ R)) t after;
      spread = λ c closed b k n bytes.
          let once = effect_spread R (effect_of r) h.1 g.held g.spread c (closed_turn R r c (standing (r ∷ R)) t after.begun closed) b k n bytes in
          record { found = once.found; shown = once.shown };
    }
