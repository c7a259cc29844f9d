-- Each image of a slot is linked to the record that made it: by its undo address, its writer and its row.
use Rattle.std.proofs.Common.{◌≡◌, ◌⊎◌, ℕ, zero, suc, ◌≤◌, Bool, true, false, cond, not, eqb, List, [], ◌∷◌, length, Option, Some, None, refl, sym, ◌∙◌, ap, ap₂, subst, arith, inl, inr, le_trans, eqb-true, true≢false}
use Rattle.seg_words.proofs.Lemmas.{cases_Bool, and_parts, not-true}
use Rattle.seg_words.specs.Types.{Slot, UndoAddr, Writer, By, At, new_slot, is_empty, writer_has_ended, number_of, number_of_writer, as_told, clean_slot}
use Rattle.redo_model.specs.Records.{Record, RowPart}
use Rattle.redo_model.specs.Model.{Step, Effect, effect_of, written, restored, part_addr, txn_count, is_active, is_addr, without_step, standing_steps, standing, is_place, placed_in, changed_image, image, Made, made_by, without, changed_makers, makers, taken_back}
use Rattle.redo_model.specs.Effects.{Still, Formats, Adds, TakesBack, Cleans}
use Rattle.redo_laws.proofs.lists.Every.{Every}
use Rattle.redo_laws.proofs.steps.OnTop.{OnTop}
use Rattle.redo_laws.proofs.steps.Facts.{StatesOld, BegunBy, HeadSettled, EffectFits}
use Rattle.redo_laws.proofs.numbers.Known.{Turn}
use Rattle.redo_laws.proofs.steps.Held.{Held, Stands, own_newest}

-- a step that stands, by this writer, with this undo address, on row n
abbrev pub StandsOn : List Step → Writer → UndoAddr → ℕ → Type 0
StandsOn [] w a n = ⊥
StandsOn (s ∷ ss) w a n = ((s.by ≡ w) × (s.undo ≡ a) × (s.row ≡ n)) ⊎ StandsOn ss w a n

abbrev pub IsDone : (ℕ → Bool) → Writer → Type 0
IsDone active w = (u : ℕ) → w ≡ By u → active u ≡ false

-- what its writer says of the record that made it: the same, or a commit, and then the record's transaction has ended
abbrev pub WriterTells : (ℕ → Bool) → Writer → Writer → Type 0
WriterTells active w v = (w ≡ v) ⊎ ((c : ℕ) × (w ≡ At c) × IsDone active v)

-- the image of an active writer keeps room for the one below
pub record RoomOver (active : ℕ → Bool) (u : ℕ) (old i : Slot) : Type 0 where
  pub own : length i.bytes ≤ i.room
  pub below : ((old.writer ≡ By u) × (old.room ≤ i.room)) ⊎ ((writer_has_ended (λ t. not (active t)) old.writer ≡ true) × (length old.bytes ≤ i.room))

-- an image and the record that made it
pub record Link (active : ℕ → Bool) (n : ℕ) (ss : List Step) (i : Slot) (m : Made) : Type 0 where
  pub undo : i.undo ≡ Some m.part
  pub row : is_empty i.kind ≡ false → StandsOn ss m.by m.undo i.row
  pub writer : WriterTells active i.writer m.by
  pub room : (u : ℕ) → m.by ≡ By u → active u ≡ true → RoomOver active u m.old i
  pub begun : BegunBy n i.writer

pub record IsNew (i : Slot) : Type 0 where
  pub kind : is_empty i.kind ≡ true
  pub undo : i.undo ≡ None
  pub writer : i.writer ≡ At 0

-- all images of a slot
abbrev pub Linked : (ℕ → Bool) → ℕ → List Step → Slot → List Made → Type 0
Linked active n ss i [] = IsNew i
Linked active n ss i (m ∷ ms) = Link active n ss i m × Linked active n ss m.old ms

-- more steps, fewer active transactions

stands_more : (st : Step) (ss : List Step) (w : Writer) (a : UndoAddr) (n : ℕ) → StandsOn ss w a n → StandsOn (st ∷ ss) w a n
stands_more st ss w a n h = inr h

linked_more : (active : ℕ → Bool) (n : ℕ) (st : Step) (ss : List Step) (i : Slot) (ms : List Made) → Linked active n ss i ms → Linked active n (st ∷ ss) i ms
linked_more active n st ss i [] h = h
linked_more active n st ss i (m ∷ ms) h = (record { undo = h.0.undo; row = λ e. inr (h.0.row e); writer = h.0.writer; room = h.0.room; begun = h.0.begun }, linked_more active n st ss m.old ms h.1)

stands_on_without : (ss : List Step) (w : Writer) (x a : UndoAddr) (n : ℕ) → is_addr x a ≡ false → StandsOn ss w x n → StandsOn (without_step a ss) w x n
stands_on_without [] w x a n f h = h
stands_on_without (s ∷ ss) w x a n f h =
    (elim (is_addr s.undo a) as (λ v. is_addr s.undo a ≡ v → StandsOn (cond (not v) (s ∷ without_step a ss) (without_step a ss)) w x n) [
      | true ↦ λ e. elim h [ inl y ↦ absurd (true≢false (sym e ∙ ap (λ z. is_addr z a) y.1 ∙ f)) | inr z ↦ stands_on_without ss w x a n f z ]
      | false ↦ λ e. elim h [ inl y ↦ inl y | inr z ↦ inr (stands_on_without ss w x a n f z) ]
    ]) refl

linked_without : (active : ℕ → Bool) (n : ℕ) (ss : List Step) (a : UndoAddr) (i : Slot) (ms : List Made) → Every (λ (m : Made). is_addr m.undo a ≡ false) ms → Linked active n ss i ms → Linked active n (without_step a ss) i ms
linked_without active n ss a i [] f h = h
linked_without active n ss a i (m ∷ ms) f h = (
  record { undo = h.0.undo; row = λ e. stands_on_without ss m.by m.undo a i.row f.0 (h.0.row e); writer = h.0.writer; room = h.0.room; begun = h.0.begun },
  linked_without active n ss a m.old ms f.1 h.1,
)

-- a step

pub record ImageOf (R : List Record) (st : Step) (i : ℕ) (p : RowPart) : Type 0 where
  pub undo : p.new.undo ≡ Some (part_addr st.undo i)
  pub writer : p.new.writer ≡ st.by
  pub row : is_empty p.new.kind ≡ false → p.new.row ≡ st.row
  pub room : (u : ℕ) → st.by ≡ By u → RoomOver (is_active R) u p.old p.new

-- the images that a step writes: by its writer, each with its own part's undo address, and the step's row
abbrev pub ImagesOf : List Record → Step → ℕ → List RowPart → Type 0
ImagesOf R st i [] = Unit {0}
ImagesOf R st i (p ∷ ps) = ImageOf R st i p × ImagesOf R st (suc i) ps

linked_adds : (R : List Record) (st : Step) (i : ℕ) (ps : List RowPart) (b k : ℕ) (ms : List Made) → StatesOld R ps → ImagesOf R st i ps → BegunBy (txn_count R) st.by
    → Linked (is_active R) (txn_count R) (standing R) (image R b k) ms
    → Linked (is_active R) (txn_count R) (st ∷ standing R) (placed_in (written ps) b k (image R b k)) (made_by st i ps b k ms)
linked_adds R st i [] b k ms old im begun h = linked_more (is_active R) (txn_count R) st (standing R) (image R b k) ms h
linked_adds R st i (p ∷ ps) b k ms old im begun h =
    (elim (is_place p.dba p.slot b k) as (λ v. is_place p.dba p.slot b k ≡ v → Linked (is_active R) (txn_count R) (st ∷ standing R) (cond v p.new (placed_in (written ps) b k (image R b k))) (cond v (record { by = st.by; undo = st.undo; part = part_addr st.undo i; old = p.old } ∷ ms) (made_by st (suc i) ps b k ms))) [
      | true ↦ λ e.
          let q = and_parts (eqb p.dba b) (eqb p.slot k) e in
          let same : image R b k ≡ p.old = sym (old.0 ∙ ap₂ (image R) (eqb-true p.dba b q.0) (eqb-true p.slot k q.1)) in (
            record { undo = im.0.undo; row = λ f. inl (refl, refl, sym (im.0.row f)); writer = inl im.0.writer; room = λ u w on. im.0.room u w; begun = subst (BegunBy (txn_count R)) (sym im.0.writer) begun },
            subst (λ j. Linked (is_active R) (txn_count R) (st ∷ standing R) j ms) same (linked_more (is_active R) (txn_count R) st (standing R) (image R b k) ms h),
          )
      | false ↦ λ e. linked_adds R st (suc i) ps b k ms old.1 im.1 begun h
    ]) refl

-- a taking back uncovers the image below
linked_back : (active : ℕ → Bool) (n : ℕ) (ss : List Step) (st : Step) (i : ℕ) (ps : List RowPart) (b k : ℕ) (im : Slot) (ms : List Made) → Linked active n ss im (made_by st i ps b k ms) → Linked active n ss (placed_in (restored (taken_back ps)) b k im) ms
linked_back active n ss st i [] b k im ms h = h
linked_back active n ss st i (p ∷ ps) b k im ms h =
    (elim (is_place p.dba p.slot b k) as (λ v. Linked active n ss im (cond v (record { by = st.by; undo = st.undo; part = part_addr st.undo i; old = p.old } ∷ ms) (made_by st (suc i) ps b k ms)) → Linked active n ss (cond v p.old (placed_in (restored (taken_back ps)) b k im)) ms) [
      | true ↦ λ x. x.1
      | false ↦ λ x. linked_back active n ss st (suc i) ps b k im ms x
    ]) h

-- a cleaning names transactions that have ended

writer_as_told : (s : Slot) (o : Option ℕ) → ((as_told s o).writer ≡ s.writer) ⊎ ((c : ℕ) × ((as_told s o).writer ≡ At c))
writer_as_told s None = inl refl
writer_as_told s (Some zero) = inl refl
writer_as_told s (Some (suc c)) = inr (suc c, refl)

same_but_room : (s : Slot) (o : Option ℕ) → ((as_told s o).kind ≡ s.kind) × ((as_told s o).undo ≡ s.undo) × ((as_told s o).row ≡ s.row)
same_but_room s None = (refl, refl, refl)
same_but_room s (Some zero) = (refl, refl, refl)
same_but_room s (Some (suc c)) = (refl, refl, refl)

pub clean_keeps : (cs : List (ℕ × ℕ)) (s : Slot) → ((clean_slot cs s).kind ≡ s.kind) × ((clean_slot cs s).undo ≡ s.undo) × ((clean_slot cs s).row ≡ s.row)
clean_keeps cs s = same_but_room s (number_of_writer cs s.writer)

clean_none : (cs : List (ℕ × ℕ)) (i : Slot) → number_of_writer cs i.writer ≡ None → clean_slot cs i ≡ i
clean_none cs i e = ap (as_told i) e

-- a writer of which a number is told is a transaction
told_writer : (cs : List (ℕ × ℕ)) (w : Writer) (m : ℕ) → number_of_writer cs w ≡ Some m → (t : ℕ) × (w ≡ By t) × (number_of cs t ≡ Some m)
told_writer cs (By t) m e = (t, refl, e)
told_writer cs (At c) m e = absurd (let x : ◌≡◌ {A = Option ℕ} None (Some m) = e in cc)

not_at : (P : Type 0) (t c : ℕ) → By t ≡ At c → P
not_at P t c e = absurd cc

same_txn : (t u : ℕ) → By t ≡ By u → t ≡ u
same_txn t u e = cc

done_maker : (active : ℕ → Bool) (cs : List (ℕ × ℕ)) (w v : Writer) (m : ℕ) → ((t n : ℕ) → number_of cs t ≡ Some n → active t ≡ false) → number_of_writer cs w ≡ Some m → WriterTells active w v → IsDone active v
done_maker active cs w v m done e (inr y) = y.2
done_maker active cs w v m done e (inl same) = λ u f.
    let t = told_writer cs w m e in
    subst (λ x. active x ≡ false) (same_txn t.0 u (sym t.1 ∙ same ∙ f)) (done t.0 m t.2)

-- a live maker is the image's writer
live_writer : (active : ℕ → Bool) (w v : Writer) (u : ℕ) → WriterTells active w v → v ≡ By u → active u ≡ true → w ≡ By u
live_writer active w v u (inl same) e on = same ∙ e
live_writer active w v u (inr y) e on = absurd (true≢false (sym on ∙ y.2 u e))

none_of_live : (active : ℕ → Bool) (cs : List (ℕ × ℕ)) (u : ℕ) → ((t n : ℕ) → number_of cs t ≡ Some n → active t ≡ false) → active u ≡ true → number_of cs u ≡ None
none_of_live active cs u done on = go (number_of cs u) refl
  where
    go : (o : Option ℕ) → number_of cs u ≡ o → number_of cs u ≡ None
    go None e = e
    go (Some m) e = absurd (true≢false (sym on ∙ done u m e))

link_clean : (active : ℕ → Bool) (n : ℕ) (ss : List Step) (cs : List (ℕ × ℕ)) (i : Slot) (m : Made) → ((t k : ℕ) → number_of cs t ≡ Some k → active t ≡ false) → Link active n ss i m → Link active n ss (clean_slot cs i) m
link_clean active n ss cs i m done h =
    let k = clean_keeps cs i in
    record {
      undo = k.1 ∙ h.undo;
      row = λ e. subst (λ x. StandsOn ss m.by m.undo x) (sym k.2) (h.row (sym (ap is_empty k.0) ∙ e));
      writer = tells (number_of_writer cs i.writer) refl;
      room = λ u e on. subst (λ j. RoomOver active u m.old j) (sym (clean_none cs i (ap (number_of_writer cs) (live_writer active i.writer m.by u h.writer e on) ∙ none_of_live active cs u done on))) (h.room u e on);
      begun = begun (number_of_writer cs i.writer) refl;
    }
  where
    tells : (o : Option ℕ) → number_of_writer cs i.writer ≡ o → WriterTells active (as_told i o).writer m.by
    tells None e = h.writer
    tells (Some zero) e = h.writer
    tells (Some (suc c)) e = inr (suc c, refl, done_maker active cs i.writer m.by (suc c) done e h.writer)

    begun : (o : Option ℕ) → number_of_writer cs i.writer ≡ o → BegunBy n (as_told i o).writer
    begun None e = h.begun
    begun (Some zero) e = h.begun
    begun (Some (suc c)) e = tt

linked_clean : (active : ℕ → Bool) (n : ℕ) (ss : List Step) (cs : List (ℕ × ℕ)) (i : Slot) (ms : List Made) → ((t m : ℕ) → number_of cs t ≡ Some m → active t ≡ false) → Linked active n ss i ms → Linked active n ss (clean_slot cs i) ms
linked_clean active n ss cs i [] done h = subst IsNew (sym (clean_none cs i (ap (number_of_writer cs) h.writer))) h
linked_clean active n ss cs i (m ∷ ms) done h = (link_clean active n ss cs i m done h.0, h.1)

-- a turn

begun_turn : (n m : ℕ) (w : Writer) → n ≤ m → BegunBy n w → BegunBy m w
begun_turn n m (By u) l h = le_trans h l
begun_turn n m (At c) l h = tt

pub stands_begun : (ss : List Step) (w : Writer) (a : UndoAddr) (n : ℕ) → Stands ss w a → Every (λ (s : Step). BegunBy n s.by) ss → BegunBy n w
stands_begun [] w a n h b = absurd h
stands_begun (s ∷ ss) w a n h b = elim h [ inl y ↦ subst (BegunBy n) y.0 b.0 | inr z ↦ stands_begun ss w a n z b.1 ]

pub still_active : (R : List Record) (r : Record) (u : ℕ) → Turn R r → u ≤ txn_count R → is_active (r ∷ R) u ≡ true → is_active R u ≡ true
still_active R r u t l on = elim (t.live u on) [ inl y ↦ y | inr g ↦ absurd (omega arith) ]

pub done_turn : (R : List Record) (r : Record) (w : Writer) → Turn R r → BegunBy (txn_count R) w → IsDone (is_active R) w → IsDone (is_active (r ∷ R)) w
done_turn R r w t b d = λ u e. elim (cases_Bool (is_active (r ∷ R) u)) [
  | inl on ↦ absurd (true≢false (sym (still_active R r u t (let c : BegunBy (txn_count R) (By u) = subst (BegunBy (txn_count R)) e b in c) on) ∙ d u e))
  | inr off ↦ off
]

pub over_turn : (R : List Record) (r : Record) (w : Writer) → Turn R r → BegunBy (txn_count R) w → writer_has_ended (λ t. not (is_active R t)) w ≡ true → writer_has_ended (λ t. not (is_active (r ∷ R) t)) w ≡ true
over_turn R r (By u) t b h = elim (cases_Bool (is_active (r ∷ R) u)) [
  | inl on ↦ absurd (true≢false (sym h ∙ ap not (still_active R r u t b on)))
  | inr off ↦ ap not off
]
over_turn R r (At c) t b h = refl

pub old_begun : (active : ℕ → Bool) (n : ℕ) (ss : List Step) (i : Slot) (ms : List Made) → Linked active n ss i ms → BegunBy n i.writer
old_begun active n ss i [] h = subst (BegunBy n) (sym h.writer) tt
old_begun active n ss i (m ∷ ms) h = h.0.begun

room_turn : (R : List Record) (r : Record) (u : ℕ) (old i : Slot) → Turn R r → BegunBy (txn_count R) old.writer → RoomOver (is_active R) u old i → RoomOver (is_active (r ∷ R)) u old i
room_turn R r u old i t b h = record { own = h.own; below = elim h.below [ inl y ↦ inl y | inr z ↦ inr (over_turn R r old.writer t b z.0, z.1) ] }

linked_turn : (R : List Record) (r : Record) (ss : List Step) (i : Slot) (ms : List Made) → Turn R r → Every (λ (s : Step). BegunBy (txn_count R) s.by) ss → Every (λ (m : Made). Stands ss m.by m.undo) ms → Linked (is_active R) (txn_count R) ss i ms → Linked (is_active (r ∷ R)) (txn_count (r ∷ R)) ss i ms
linked_turn R r ss i [] t b s h = h
linked_turn R r ss i (m ∷ ms) t b s h =
    let mb = stands_begun ss m.by m.undo (txn_count R) s.0 b in (
      record {
        undo = h.0.undo;
        row = h.0.row;
        writer = elim h.0.writer [ inl y ↦ inl y | inr z ↦ inr (z.0, z.1, done_turn R r m.by t mb z.2) ];
        room = λ u e on. room_turn R r u m.old i t (old_begun (is_active R) (txn_count R) ss m.old ms h.1) (h.0.room u e (still_active R r u t (let c : BegunBy (txn_count R) (By u) = subst (BegunBy (txn_count R)) e mb in c) on));
        begun = begun_turn (txn_count R) (txn_count (r ∷ R)) i.writer t.more h.0.begun;
      },
      linked_turn R r ss m.old ms t b s.1 h.1,
    )

-- the test of a slot's writer tells that its newest maker has ended
pub settled_head : (active : ℕ → Bool) (n : ℕ) (ss : List Step) (i : Slot) (ms : List Made) → Linked active n ss i ms → writer_has_ended (λ t. not (active t)) i.writer ≡ true → HeadSettled active ms
settled_head active n ss i [] h e = tt
settled_head active n ss i (m ∷ ms) h e = λ u by. elim h.0.writer [
  | inl same ↦ not-true (active u) (sym (ap (writer_has_ended (λ t. not (active t))) (same ∙ by)) ∙ e)
  | inr y ↦ y.2 u by
]

-- what an effect needs for the links
abbrev pub LinksFit : List Record → Effect → Type 0
LinksFit R Still = Unit {0}
LinksFit R (Formats d) = Unit {0}
LinksFit R (Adds st) = StatesOld R st.parts × ImagesOf R st 0 st.parts
LinksFit R (TakesBack k) = Unit {0}
LinksFit R (Cleans d cs) = (t m : ℕ) → number_of cs t ≡ Some m → is_active R t ≡ false

abbrev pub LinksIn : List Record → Type 0
LinksIn R = (b k : ℕ) → Linked (is_active R) (txn_count R) (standing R) (image R b k) (makers R b k)

off_address : (a : UndoAddr) (ms : List Made) → Every (λ (m : Made). is_addr m.undo a ≡ false) (without a ms)
off_address a [] = tt
off_address a (m ∷ ms) =
    (elim (is_addr m.undo a) as (λ v. is_addr m.undo a ≡ v → Every (λ (m : Made). is_addr m.undo a ≡ false) (cond (not v) (m ∷ without a ms) (without a ms))) [
      | true ↦ λ e. off_address a ms
      | false ↦ λ e. (e, off_address a ms)
    ]) refl

pub effect_links : (R : List Record) (ef : Effect) → EffectFits R ef → LinksFit R ef → Held (is_active R) (txn_count R) (standing R) (makers R) → LinksIn R
    → (b k : ℕ) → Linked (is_active R) (txn_count R) (standing_steps ef (standing R)) (changed_image ef b k (image R b k)) (changed_makers ef b k (makers R b k))
effect_links R Still f l h x b k = x b k
effect_links R (Formats d) f l h x b k =
    elim (eqb d b) as (λ v. Linked (is_active R) (txn_count R) (standing R) (cond v new_slot (image R b k)) (cond v [] (makers R b k))) [ true ↦ record { kind = refl; undo = refl; writer = refl } | false ↦ x b k ]
effect_links R (Adds st) f l h x b k = linked_adds R st 0 st.parts b k (makers R b k) l.0 l.1 f.begun (x b k)
effect_links R (TakesBack t) f l h x b k =
    let ss = standing R in let a = t.undo in
    let o = own_newest ss t.txn f.step f.newest in
    let whole : OnTop (f.step ∷ o.0) (makers R) = subst (λ us. OnTop us (makers R)) o.1 (h.top t.txn f.active) in
    let lies : makers R b k ≡ made_by f.step 0 f.step.parts b k (without a (makers R b k)) = whole.0 b k ∙ ap (λ z. made_by f.step 0 f.step.parts b k (without z (makers R b k))) (sym f.undo) in
    let below : Linked (is_active R) (txn_count R) ss (placed_in (restored (taken_back f.step.parts)) b k (image R b k)) (without a (makers R b k)) =
    linked_back (is_active R) (txn_count R) ss f.step 0 f.step.parts b k (image R b k) (without a (makers R b k)) (subst (λ ms. Linked (is_active R) (txn_count R) ss (image R b k) ms) lies (x b k)) in
    subst (λ ps. Linked (is_active R) (txn_count R) (without_step a ss) (placed_in (restored ps) b k (image R b k)) (without a (makers R b k))) (sym f.restores)
    (linked_without (is_active R) (txn_count R) ss a _ (without a (makers R b k)) (off_address a (makers R b k)) below)
effect_links R (Cleans d cs) f l h x b k =
    elim (eqb d b) as (λ v. Linked (is_active R) (txn_count R) (standing R) (cond v (clean_slot cs (image R b k)) (image R b k)) (makers R b k)) [ true ↦ linked_clean (is_active R) (txn_count R) (standing R) cs (image R b k) (makers R b k) l (x b k) | false ↦ x b k ]

pub links_step : (R : List Record) (r : Record) → Turn R r → EffectFits R (effect_of r) → LinksFit R (effect_of r) → Held (is_active R) (txn_count R) (standing R) (makers R)
    → Held (is_active R) (txn_count R) (standing (r ∷ R)) (makers (r ∷ R)) → LinksIn R → LinksIn (r ∷ R)
links_step R r t f l h after x b k = linked_turn R r (standing (r ∷ R)) (image (r ∷ R) b k) (makers (r ∷ R) b k) t after.begun (after.stand b k) (effect_links R (effect_of r) f l h x b k)

pub no_links : LinksIn []
no_links b k = record { kind = refl; undo = refl; writer = refl }
