-- What the blocks of a lawful list count fits in them.
use Rattle.std.proofs.Common.{◌≡◌, ◌⊎◌, ℕ, zero, suc, ◌+◌, ◌-◌, ◌*◌, ◌<◌, ◌≤◌, max, Bool, true, false, cond, not, ◌&&◌, ◌||◌, eqb, ltb, leb, List, [], ◌∷◌, length, get_or, Option, Some, None, refl, sym, ◌∙◌, ap, ap₂, subst, arith, inl, inr, le_refl, eqb-true, true≢false, eq-eqb, le-ltb, leb-true, leb-false, ltb-true, ltb-false, sum_by, option_map}
use Rattle.seg_words.proofs.Lemmas.{eqb-false, cond-true, cond-false, cases_Bool, and_parts, and_from, or_left, or_right, not-false, cases_order}
use Rattle.seg_words.specs.Types.{Shape, Slot, Writer, By, At, new_slot, writer_has_ended, number_of, number_of_writer, as_told, clean_slot, Open, Block, row_size, slot_size, used_of as used_by, free_of as free_by, slot_to_use, slot_need, entry_for, entry_need, entry_size, fits_beside, row_growth, BLOCK_ROOM, LONGEST_ROW, SLOT_SIZE, MOST_SLOTS, LIST_ENTRY_SIZE, LEAST_LIST_ENTRIES, MOST_LIST_ENTRIES}
use Rattle.redo_model.specs.Records.{Record, RowPart, BackRecord, Insert, Update, Migrate, Return, Delete, Move}
use Rattle.redo_model.specs.Model.{Step, Effect, effect_of, Placed, written, restored, part_addr, txn_count, is_active, ended_in, standing, is_place, placed_in, changed_image, image, Made, made_by, without, changed_makers, makers, taken_back, IsKindAllowed, AreAllowed, slots_reached, changed_slot_count, slot_count, reach_entry, entries_reached, count_entered, changed_entry_count, entry_count, block_of, slots_of}
use Rattle.redo_model.specs.Effects.{Still, Formats, Adds, TakesBack, Cleans}
use Rattle.redo_laws.proofs.lists.Every.{Every, every-map}
use Rattle.redo_laws.proofs.steps.OnTop.{is_named, head_named, OnTop}
use Rattle.redo_laws.proofs.steps.Facts.{StatesOld, BackFits, EffectFits}
use Rattle.seg_base.proofs.Rooms.{slot_to_use-le-length, entry_for-within, takes_is}
use Rattle.redo_model.proofs.Bridge.{image_is, count_is, entry_count_is}
use Rattle.redo_laws.specs.Room.{page_size, BlocksHaveRoom}
use Rattle.redo_laws.proofs.numbers.Known.{Turn, turn}
use Rattle.redo_laws.proofs.steps.Held.{Held, own, own_newest}
use Rattle.redo_laws.proofs.spread.Spread.{good}
use Rattle.redo_laws.proofs.links.Links.{Linked, WriterTells, LinksFit, LinksIn, effect_links, over_turn, old_begun}
use Rattle.redo_laws.proofs.space.Places.{segments}
use Rattle.redo_laws.proofs.allowed.Shapes.{Puts, AllPut}
use Rattle.redo_laws.proofs.homes.Homes.{new_left, newest_by}
use Rattle.redo_laws.proofs.spread.Fitting.{Whole}
use Rattle.redo_laws.proofs.allowed.AllKinds.{RecordShape, shape_of}
use Rattle.redo_laws.proofs.spread.Whole.{record_fits, whole}
use Rattle.redo_laws.proofs.steps.Beyond.{beyond}
use Rattle.redo_laws.proofs.room.RoomKinds.{Quiet, IsTaker, Taken, Fitted, EntersAt, IsShort, Enter, StepRoom, EffectRoom, room_of}
use Rattle.redo_laws.proofs.lists.Sums.{sum_below, sum_less, sum_more, sum_one, sum_places, sum_same}

-- what the slots count, by who has ended
abbrev pub size_at : (ℕ → Bool) → (ℕ → Slot) → ℕ → ℕ
size_at ended im k = SLOT_SIZE + row_size ended (im k)

-- the count of a block as a sum over its places
pub used_is : (ended : ℕ → Bool) (R : List Record) (b : ℕ) → used_by ended (block_of R b) ≡ sum_below (slot_count R b) (size_at ended (image R b)) + LIST_ENTRY_SIZE * (entry_count R b - LEAST_LIST_ENTRIES)
used_is ended R b =
    let slots : sum_by (slot_size ended) (slots_of R b) ≡ sum_below (slot_count R b) (size_at ended (image R b)) =
    sum_places (slot_size ended) new_slot (slots_of R b) ∙ ap (λ n. sum_below n (λ k. slot_size ended (get_or (slots_of R b) k new_slot))) (count_is R b)
    ∙ sum_same (slot_count R b) (λ k. slot_size ended (get_or (slots_of R b) k new_slot)) (size_at ended (image R b)) (λ k. ap (slot_size ended) (image_is R b k)) in
    ap₂ (λ x y. x + LIST_ENTRY_SIZE * (y - LEAST_LIST_ENTRIES)) slots (entry_count_is R b)

pub page_is : (R : List Record) (b : ℕ) → page_size R b ≡ sum_below (slot_count R b) (λ k. SLOT_SIZE + length (image R b k).bytes) + LIST_ENTRY_SIZE * (entry_count R b - LEAST_LIST_ENTRIES)
page_is R b =
    let slots : sum_by (λ (s : Slot). SLOT_SIZE + length s.bytes) (slots_of R b) ≡ sum_below (slot_count R b) (λ k. SLOT_SIZE + length (image R b k).bytes) =
    sum_places (λ (s : Slot). SLOT_SIZE + length s.bytes) new_slot (slots_of R b) ∙ ap (λ n. sum_below n (λ k. SLOT_SIZE + length (get_or (slots_of R b) k new_slot).bytes)) (count_is R b)
    ∙ sum_same (slot_count R b) (λ k. SLOT_SIZE + length (get_or (slots_of R b) k new_slot).bytes) (λ k. SLOT_SIZE + length (image R b k).bytes) (λ k. ap (λ (s : Slot). SLOT_SIZE + length s.bytes) (image_is R b k)) in
    ap₂ (λ x y. x + LIST_ENTRY_SIZE * (y - LEAST_LIST_ENTRIES)) slots (entry_count_is R b)

-- of a block with n slots, these images and m list entries
pub record Room (ended : ℕ → Bool) (n m : ℕ) (im : ℕ → Slot) : Type 0 where
  pub used : sum_below n (size_at ended im) + LIST_ENTRY_SIZE * (m - LEAST_LIST_ENTRIES) ≤ BLOCK_ROOM
  pub entries_from : LEAST_LIST_ENTRIES ≤ m
  pub entries_to : m ≤ MOST_LIST_ENTRIES
  pub slots : n ≤ MOST_SLOTS

abbrev pub RoomIn : List Record → ℕ → Type 0
RoomIn R b = Room (ended_in R) (slot_count R b) (entry_count R b) (image R b)

-- fewer slots that count less
pub room_less : (e f : ℕ → Bool) (n p m : ℕ) (im jm : ℕ → Slot) → p ≤ n → ((k : ℕ) → k < n → row_size f (jm k) ≤ row_size e (im k)) → Room e n m im → Room f p m jm
room_less e f n p m im jm l h r = record {
  used = (let a = sum_more p n (size_at f jm) l in let b = sum_less n (size_at f jm) (size_at e im) (λ k x. let y = h k x in omega arith) in let c = r.used in omega arith);
  entries_from = r.entries_from;
  entries_to = r.entries_to;
  slots = (let c = r.slots in omega arith);
}

-- sizes of single images

pub size_ended : (e : ℕ → Bool) (i : Slot) → writer_has_ended e i.writer ≡ true → row_size e i ≡ length i.bytes
size_ended e i h = cond-true (writer_has_ended e i.writer) (length i.bytes) i.room h

pub size_active : (e : ℕ → Bool) (i : Slot) → writer_has_ended e i.writer ≡ false → row_size e i ≡ i.room
size_active e i h = cond-false (writer_has_ended e i.writer) (length i.bytes) i.room h

-- an active writer's image has room for its row
pub own_room : (active : ℕ → Bool) (n : ℕ) (ss : List Step) (i : Slot) (ms : List Made) → Linked active n ss i ms → writer_has_ended (λ t. not (active t)) i.writer ≡ false → length i.bytes ≤ i.room
own_room active n ss i [] h e = absurd (true≢false (ap (writer_has_ended (λ t. not (active t))) (sym h.writer) ∙ e))
own_room active n ss i (m ∷ ms) h e = go i.writer refl h.0.writer
  where
    go : (w : Writer) → i.writer ≡ w → WriterTells active w m.by → length i.bytes ≤ i.room
    go (At c) f x = absurd (true≢false (ap (writer_has_ended (λ t. not (active t))) (sym f) ∙ e))
    go (By u) f (inl same) = (h.0.room u (sym same) (not-false (active u) (ap (writer_has_ended (λ t. not (active t))) (sym f) ∙ e))).own
    go (By u) f (inr y) = absurd (let x : By u ≡ At y.0 = y.1 in cc)

-- where more have ended it counts no more
pub size_falls : (e f : ℕ → Bool) (i : Slot) → (writer_has_ended e i.writer ≡ true → writer_has_ended f i.writer ≡ true) → (writer_has_ended e i.writer ≡ false → length i.bytes ≤ i.room) → row_size f i ≤ row_size e i
size_falls e f i h own = elim (cases_Bool (writer_has_ended e i.writer)) [
  | inl y ↦ (let a = size_ended e i y in let b = size_ended f i (h y) in omega arith)
  | inr n ↦ elim (cases_Bool (writer_has_ended f i.writer)) [
    | inl y ↦ (let a = size_active e i n in let b = size_ended f i y in let c = own n in omega arith)
    | inr m ↦ (let a = size_active e i n in let b = size_active f i m in omega arith)
  ]
]

pub length_within : (e : ℕ → Bool) (i : Slot) → (writer_has_ended e i.writer ≡ false → length i.bytes ≤ i.room) → length i.bytes ≤ row_size e i
length_within e i own = elim (cases_Bool (writer_has_ended e i.writer)) [
  | inl y ↦ (let a = size_ended e i y in omega arith)
  | inr n ↦ (let a = size_active e i n in let c = own n in omega arith)
]

-- a turn

pub room_turn : (R : List Record) (r : Record) (n m : ℕ) (ss : List Step) (im : ℕ → Slot) (mk : ℕ → List Made) → Turn R r → ((k : ℕ) → Linked (is_active R) (txn_count R) ss (im k) (mk k)) → Room (ended_in R) n m im → Room (ended_in (r ∷ R)) n m im
room_turn R r n m ss im mk t l h = room_less (ended_in R) (ended_in (r ∷ R)) n n m im im (le_refl n)
    (λ k x. size_falls (ended_in R) (ended_in (r ∷ R)) (im k) (over_turn R r (im k).writer t (old_begun (is_active R) (txn_count R) ss (im k) (mk k) (l k))) (own_room (is_active R) (txn_count R) ss (im k) (mk k) (l k))) h

-- a formatting, a cleaning

pub room_formats : (e : ℕ → Bool) (im : ℕ → Slot) → Room e 0 LEAST_LIST_ENTRIES im
room_formats e im = record { used = omega arith; entries_from = omega arith; entries_to = omega arith; slots = omega arith }

told_size : (e : ℕ → Bool) (i : Slot) (o : Option ℕ) → (o ≡ None → ⊥) → writer_has_ended e i.writer ≡ true → row_size e (as_told i o) ≤ row_size e i
told_size e i None n h = absurd (n refl)
told_size e i (Some zero) n h = (let a = size_ended e i h in let b = size_ended e (as_told i (Some zero)) h in omega arith)
told_size e i (Some (suc c)) n h = (let a = size_ended e i h in omega arith)

clean_size : (active : ℕ → Bool) (cs : List (ℕ × ℕ)) (i : Slot) → ((t n : ℕ) → number_of cs t ≡ Some n → active t ≡ false) → row_size (λ t. not (active t)) (clean_slot cs i) ≤ row_size (λ t. not (active t)) i
clean_size active cs i done = go (number_of_writer cs i.writer) refl
  where
    over : (w : Writer) (n : ℕ) → number_of_writer cs w ≡ Some n → writer_has_ended (λ t. not (active t)) w ≡ true
    over (By t) n e = ap not (done t n e)
    over (At c) n e = refl

    go : (o : Option ℕ) → number_of_writer cs i.writer ≡ o → row_size (λ t. not (active t)) (as_told i o) ≤ row_size (λ t. not (active t)) i
    go None e = le_refl _
    go (Some n) e = told_size (λ t. not (active t)) i (Some n) (λ x. (let y : ◌≡◌ {A = Option ℕ} (Some n) None = x in cc)) (over i.writer n e)

-- a taking back

pub back_size : (active : ℕ → Bool) (n : ℕ) (ss : List Step) (st : Step) (u i : ℕ) (ps : List RowPart) (b k : ℕ) (im : Slot) (ms : List Made) → st.by ≡ By u → active u ≡ true → Linked active n ss im (made_by st i ps b k ms)
    → row_size (λ t. not (active t)) (placed_in (restored (taken_back ps)) b k im) ≤ row_size (λ t. not (active t)) im
back_size active n ss st u i [] b k im ms by on h = le_refl _
back_size active n ss st u i (p ∷ ps) b k im ms by on h =
    (elim (is_place p.dba p.slot b k) as (λ v. Linked active n ss im (cond v (record { by = st.by; undo = st.undo; part = part_addr st.undo i; old = p.old } ∷ ms) (made_by st (suc i) ps b k ms)) → row_size (λ t. not (active t)) (cond v p.old (placed_in (restored (taken_back ps)) b k im)) ≤ row_size (λ t. not (active t)) im) [
      | true ↦ λ x.
          let e : ℕ → Bool = λ t. not (active t) in
          let r = x.0.room u by on in
          let writer : im.writer ≡ By u = live im.writer st.by x.0.writer by in
          let size : row_size e im ≡ im.room = size_active e im (ap (writer_has_ended e) writer ∙ ap not on) in
          elim r.below [
            | inl y ↦ (let s : row_size e p.old ≡ p.old.room = size_active e p.old (ap (writer_has_ended e) y.0 ∙ ap not on) in let l = y.1 in omega arith)
            | inr y ↦ (let s = size_ended e p.old y.0 in let l = y.1 in omega arith)
          ]
      | false ↦ λ x. back_size active n ss st u (suc i) ps b k im ms by on x
    ]) h
  where
    live : (w v : Writer) → WriterTells active w v → v ≡ By u → w ≡ By u
    live w v (inl same) e = same ∙ e
    live w v (inr y) e = absurd (true≢false (sym on ∙ y.2 u e))

-- how many slots there are when these are put
pub reach_bound : (ps : List Placed) (b n m : ℕ) → Every (λ (p : Placed). p.dba ≡ b → p.slot < m) ps → n ≤ m → slots_reached ps b n ≤ m
reach_bound [] b n m h l = l
reach_bound (p ∷ ps) b n m h l =
    (elim (eqb p.dba b) as (λ v. eqb p.dba b ≡ v → cond v (max (suc p.slot) (slots_reached ps b n)) (slots_reached ps b n) ≤ m) [
      | true ↦ λ e. (let a = h.0 (eqb-true p.dba b e) in let c = reach_bound ps b n m h.1 l in omega arith)
      | false ↦ λ e. reach_bound ps b n m h.1 l
    ]) refl

each_written : (P : ℕ → ℕ → Type 0) (ps : List RowPart) → Every (λ (p : RowPart). P p.dba p.slot) ps → Every (λ (p : Placed). P p.dba p.slot) (written ps)
each_written P [] h = tt
each_written P (p ∷ ps) h = (h.0, each_written P ps h.1)

pub each_restored : (P : ℕ → ℕ → Type 0) (ps : List RowPart) → Every (λ (p : RowPart). P p.dba p.slot) ps → Every (λ (p : Placed). P p.dba p.slot) (restored (taken_back ps))
each_restored P [] h = tt
each_restored P (p ∷ ps) h = (h.0, each_restored P ps h.1)

-- the slots that a step names, of its parts
pub each_named : (ps : List RowPart) → Every (λ (p : RowPart). is_named ps p.dba p.slot ≡ true) ps
each_named [] = tt
each_named (p ∷ ps) = (
  or_left _ _ (and_from (eqb p.dba p.dba) (eqb p.slot p.slot) (eq-eqb p.dba p.dba refl) (eq-eqb p.slot p.slot refl)),
  every-map _ _ ps (λ q h. or_right (is_place p.dba p.slot q.dba q.slot) _ h) (each_named ps),
)

-- a slot with a maker is there
pub made_there : (R : List Record) (b k : ℕ) (m : Made) (ms : List Made) → makers R b k ≡ m ∷ ms → k < slot_count R b
made_there R b k m ms e = elim (cases_Bool (leb (slot_count R b) k)) [
  | inr f ↦ leb-false (slot_count R b) k f
  | inl y ↦ absurd (let x : ◌≡◌ {A = List Made} [] (m ∷ ms) = sym (beyond R b k (leb-true (slot_count R b) k y)).1 ∙ e in cc)
]

pub room_back : (R : List Record) (t : BackRecord) (b : ℕ) → BackFits R t → Held (is_active R) (txn_count R) (standing R) (makers R) → LinksIn R → RoomIn R b
    → Room (ended_in R) (slots_reached (restored t.parts) b (slot_count R b)) (entry_count R b) (λ k. placed_in (restored t.parts) b k (image R b k))
room_back R t b f h l r =
    let st = f.step in
    let o = own_newest (standing R) t.txn st f.newest in
    let top : OnTop (st ∷ o.0) (makers R) = subst (λ us. OnTop us (makers R)) o.1 (h.top t.txn f.active) in
    let by = newest_by (standing R) t.txn st f.newest in
    let small : slots_reached (restored (taken_back st.parts)) b (slot_count R b) ≤ slot_count R b =
    reach_bound (restored (taken_back st.parts)) b (slot_count R b) (slot_count R b)
    (each_restored (λ d k. d ≡ b → k < slot_count R b) st.parts (every-map _ _ st.parts (λ p n e.
    let w = head_named st 0 st.parts p.dba p.slot (without st.undo (makers R p.dba p.slot)) n in
    subst (λ x. p.slot < slot_count R x) e (made_there R p.dba p.slot w.made (without st.undo (makers R p.dba p.slot)) (top.0 p.dba p.slot ∙ w.list))) (each_named st.parts)))
    (le_refl (slot_count R b)) in
    let whole' : Room (ended_in R) (slots_reached (restored (taken_back st.parts)) b (slot_count R b)) (entry_count R b) (λ k. placed_in (restored (taken_back st.parts)) b k (image R b k)) =
    room_less (ended_in R) (ended_in R) (slot_count R b) _ (entry_count R b) (image R b) _ small
    (λ k x. back_size (is_active R) (txn_count R) (standing R) st t.txn 0 st.parts b k (image R b k) (without st.undo (makers R b k)) by f.active
    (subst (Linked (is_active R) (txn_count R) (standing R) (image R b k)) (top.0 b k) (l b k))) r in
    subst (λ ps. Room (ended_in R) (slots_reached (restored ps) b (slot_count R b)) (entry_count R b) (λ k. placed_in (restored ps) b k (image R b k))) (sym f.restores) whole'

-- a step

-- a part puts what its place among those of the step asks for
abbrev pub PutSome : List Record → Step → RowPart → Type 0
PutSome R st p = (i : ℕ) × Puts R st i p

pub put_some : (R : List Record) (st : Step) (i : ℕ) (ps : List RowPart) → AllPut R st i ps → Every (PutSome R st) ps
put_some R st i [] h = tt
put_some R st i (p ∷ ps) h = ((i, h.0), put_some R st (suc i) ps h.1)

-- the first part that names a slot
pub record FirstPart (R : List Record) (st : Step) (Q : RowPart → Type 0) (b k : ℕ) (im new : Slot) : Type 0 where
  pub part : RowPart
  pub place : ℕ
  pub puts : Puts R st place part
  pub fact : Q part
  pub new_is : new ≡ part.new
  pub old_is : part.old ≡ image R b k
  pub block : part.dba ≡ b
  pub slot : part.slot ≡ k

pub first_part : (R : List Record) (st : Step) (Q : RowPart → Type 0) (ps : List RowPart) (b k : ℕ) (im : Slot) → Every (PutSome R st) ps → Every Q ps → StatesOld R ps → is_named ps b k ≡ true → FirstPart R st Q b k im (placed_in (written ps) b k im)
first_part R st Q [] b k im pu f o h = absurd (true≢false (sym h))
first_part R st Q (p ∷ ps) b k im pu f o h =
    (elim (is_place p.dba p.slot b k) as (λ v. is_place p.dba p.slot b k ≡ v → (v || is_named ps b k) ≡ true → FirstPart R st Q b k im (cond v p.new (placed_in (written ps) b k im))) [
      | true ↦ λ e x. let q = and_parts (eqb p.dba b) (eqb p.slot k) e in
          record { part = p; place = pu.0.0; puts = pu.0.1; fact = f.0; new_is = refl; old_is = o.0 ∙ ap₂ (image R) (eqb-true p.dba b q.0) (eqb-true p.slot k q.1); block = eqb-true p.dba b q.0; slot = eqb-true p.slot k q.1 }
      | false ↦ λ e x. first_part R st Q ps b k im pu.1 f.1 o.1 x
    ]) refl h

-- the image that a part puts counts at most what is longer of the two
pub put_size : (R : List Record) (st : Step) (i : ℕ) (p : RowPart) → ((u : ℕ) → st.by ≡ By u → is_active R u ≡ true) → Puts R st i p → row_size (ended_in R) p.new ≤ max (row_size (ended_in R) p.old) (length p.new.bytes)
put_size R st i p live pu = go st.by refl
  where
    go : (w : Writer) → st.by ≡ w → row_size (ended_in R) p.new ≤ max (row_size (ended_in R) p.old) (length p.new.bytes)
    go (By u) e = (let a = size_active (ended_in R) p.new (ap (writer_has_ended (ended_in R)) (pu.writer ∙ e) ∙ ap not (live u e)) in let c = pu.room u e in omega arith)
    go (At m) e = (let a = size_ended (ended_in R) p.new (ap (writer_has_ended (ended_in R)) (pu.writer ∙ e)) in omega arith)

-- what a slot counts after a step
abbrev pub after : List Record → Step → ℕ → ℕ → Slot
after R st b k = placed_in (written st.parts) b k (image R b k)

quiet_size : (R : List Record) (st : Step) (i b k : ℕ) (p : RowPart) → ((u : ℕ) → st.by ≡ By u → is_active R u ≡ true) → Puts R st i p → Quiet R p → p.old ≡ image R b k → row_size (ended_in R) p.new ≤ row_size (ended_in R) (image R b k)
quiet_size R st i b k p live pu q o = (let a = put_size R st i p live pu in let c = q.less in let e : row_size (ended_in R) p.old ≡ row_size (ended_in R) (image R b k) = ap (row_size (ended_in R)) o in omega arith)

-- where all is quiet
all_quiet : (R : List Record) (st : Step) (b k : ℕ) → ((u : ℕ) → st.by ≡ By u → is_active R u ≡ true) → Every (PutSome R st) st.parts → StatesOld R st.parts → Every (Quiet R) st.parts → row_size (ended_in R) (after R st b k) ≤ row_size (ended_in R) (image R b k)
all_quiet R st b k live pu o q =
    elim (cases_Bool (is_named st.parts b k)) [
      | inr n ↦ subst (λ i. row_size (ended_in R) i ≤ row_size (ended_in R) (image R b k)) (sym (new_left st.parts b k (image R b k) n)) (le_refl _)
      | inl y ↦ let f = first_part R st (Quiet R) st.parts b k (image R b k) pu q o y in
          subst (λ i. row_size (ended_in R) i ≤ row_size (ended_in R) (image R b k)) (sym f.new_is) (quiet_size R st f.place b k f.part live f.puts f.fact f.old_is)
    ]

-- beside the one that grows
others_quiet : (R : List Record) (st : Step) (b k : ℕ) (g : RowPart) → ((u : ℕ) → st.by ≡ By u → is_active R u ≡ true) → Every (PutSome R st) st.parts → StatesOld R st.parts → Every (λ (p : RowPart). Quiet R p ⊎ (p ≡ g)) st.parts
    → (g.dba ≡ b → g.slot ≡ k → ⊥) → row_size (ended_in R) (after R st b k) ≤ row_size (ended_in R) (image R b k)
others_quiet R st b k g live pu o q ne =
    elim (cases_Bool (is_named st.parts b k)) [
      | inr n ↦ subst (λ i. row_size (ended_in R) i ≤ row_size (ended_in R) (image R b k)) (sym (new_left st.parts b k (image R b k) n)) (le_refl _)
      | inl y ↦ let f = first_part R st (λ (p : RowPart). Quiet R p ⊎ (p ≡ g)) st.parts b k (image R b k) pu q o y in
          subst (λ i. row_size (ended_in R) i ≤ row_size (ended_in R) (image R b k)) (sym f.new_is) (elim f.fact [
            | inl z ↦ quiet_size R st f.place b k f.part live f.puts z f.old_is
            | inr z ↦ absurd (ne (ap (λ (p : RowPart). p.dba) (sym z) ∙ f.block) (ap (λ (p : RowPart). p.slot) (sym z) ∙ f.slot))
          ])
    ]

-- the one that grows
grown_size : (R : List Record) (st : Step) (g : RowPart) → ((u : ℕ) → st.by ≡ By u → is_active R u ≡ true) → Every (PutSome R st) st.parts → StatesOld R st.parts → Every (λ (p : RowPart). Quiet R p ⊎ (p ≡ g)) st.parts
    → row_size (ended_in R) (after R st g.dba g.slot) ≤ max (row_size (ended_in R) (image R g.dba g.slot)) (length g.new.bytes)
grown_size R st g live pu o q =
    elim (cases_Bool (is_named st.parts g.dba g.slot)) [
      | inr n ↦ subst (λ i. row_size (ended_in R) i ≤ max (row_size (ended_in R) (image R g.dba g.slot)) (length g.new.bytes)) (sym (new_left st.parts g.dba g.slot (image R g.dba g.slot) n)) (omega arith)
      | inl y ↦ let f = first_part R st (λ (p : RowPart). Quiet R p ⊎ (p ≡ g)) st.parts g.dba g.slot (image R g.dba g.slot) pu q o y in
          subst (λ i. row_size (ended_in R) i ≤ max (row_size (ended_in R) (image R g.dba g.slot)) (length g.new.bytes)) (sym f.new_is) (elim f.fact [
            | inl z ↦ (let a = quiet_size R st f.place g.dba g.slot f.part live f.puts z f.old_is in omega arith)
            | inr z ↦ (let a = put_size R st f.place f.part live f.puts in
                let e : row_size (ended_in R) f.part.old ≡ row_size (ended_in R) (image R g.dba g.slot) = ap (row_size (ended_in R)) f.old_is in
                let l : length f.part.new.bytes ≡ length g.new.bytes = ap (λ (p : RowPart). length p.new.bytes) z in omega arith)
          ])
    ]

-- list entries: none more, or the one that the block gives the transaction
record EntryCost (R : List Record) (w : Writer) (b n m : ℕ) : Type 0 where
  most : m ≤ MOST_LIST_ENTRIES
  cost : (m ≡ n) ⊎ ((t : ℕ) × (w ≡ By t) × (entry_for (ended_in R) (block_of R b) t ≡ Some n) × (m ≡ suc n))

entries_cost : (R : List Record) (t b : ℕ) (ps : List RowPart) → Every (EntersAt R t) ps → entry_count R b ≤ MOST_LIST_ENTRIES → EntryCost R (By t) b (entry_count R b) (entries_reached ps b (entry_count R b))
entries_cost R t b [] h l = record { most = l; cost = inl refl }
entries_cost R t b (p ∷ ps) h l =
    let rest = entries_cost R t b ps h.1 l in
    (elim (eqb p.dba b) as (λ v. eqb p.dba b ≡ v → EntryCost R (By t) b (entry_count R b) (cond v (reach_entry p.entry (entries_reached ps b (entry_count R b))) (entries_reached ps b (entry_count R b)))) [
      | false ↦ λ e. rest
      | true ↦ λ y.
          let e = h.0.entry in
          let for_it : entry_for (ended_in R) (block_of R b) t ≡ Some e = subst (λ x. entry_for (ended_in R) (block_of R x) t ≡ Some e) (eqb-true p.dba b y) h.0.for_it in
          let n = entry_count R b in
          let x = entries_reached ps b n in
          let w = entry_for-within (ended_in R) (block_of R b) t e (subst (λ z. z ≤ MOST_LIST_ENTRIES) (sym (entry_count_is R b)) l) for_it in
          let within : e ≤ n = subst (λ z. e ≤ z) (entry_count_is R b) w.0 in
          let small : e < MOST_LIST_ENTRIES = w.1 in
          subst (λ o. EntryCost R (By t) b n (reach_entry o x)) (sym h.0.entry_is) (record {
            most = (let a = rest.most in omega arith);
            cost = elim (cases_order e n) [
              | inl same ↦ inr (t, refl, for_it ∙ ap Some same, elim rest.cost [ inl z ↦ omega arith | inr z ↦ (let q = z.3 in omega arith) ])
              | inr o ↦ elim o [
                | inl less ↦ elim rest.cost [
                  | inl z ↦ inl (omega arith)
                  | inr z ↦ inr (z.0, z.1, z.2, (let q = z.3 in omega arith))
                ]
                | inr more ↦ absurd (omega arith)
              ]
            ];
          })
    ]) refl

cost_of : (R : List Record) (w : Writer) (b : ℕ) (ps : List RowPart) → Enter R w ps → entry_count R b ≤ MOST_LIST_ENTRIES → EntryCost R w b (entry_count R b) (count_entered w ps b (entry_count R b))
cost_of R (By t) b ps h l = entries_cost R t b ps h l
cost_of R (At m) b ps h l = record { most = l; cost = inl refl }

-- a new entry has 24 bytes
chosen_free : (p q n room : ℕ) → cond (ltb p n) (Some p) (cond (ltb q n) (Some q) (cond (ltb n MOST_LIST_ENTRIES && leb LIST_ENTRY_SIZE room) (Some n) None)) ≡ Some n → LIST_ENTRY_SIZE ≤ room
chosen_free p q n room e = elim (cases_Bool (ltb p n)) [
  | inl y ↦ (let k : p ≡ n = same p n (sym (cond-true _ _ _ y) ∙ e) in let l : p < n = ltb-true p n y in absurd (omega arith))
  | inr f ↦ elim (cases_Bool (ltb q n)) [
    | inl y ↦ (let k : q ≡ n = same q n (sym (cond-true _ _ _ y) ∙ sym (cond-false _ _ _ f) ∙ e) in let l : q < n = ltb-true q n y in absurd (omega arith))
    | inr g ↦ elim (cases_Bool (ltb n MOST_LIST_ENTRIES && leb LIST_ENTRY_SIZE room)) [
      | inl y ↦ leb-true LIST_ENTRY_SIZE room (and_parts (ltb n MOST_LIST_ENTRIES) (leb LIST_ENTRY_SIZE room) y).1
      | inr z ↦ absurd (let x : ◌≡◌ {A = Option ℕ} None (Some n) = sym (cond-false _ _ _ z) ∙ sym (cond-false _ _ _ g) ∙ sym (cond-false _ _ _ f) ∙ e in cc)
    ]
  ]
]
  where
    same : (a b : ℕ) → ◌≡◌ {A = Option ℕ} (Some a) (Some b) → a ≡ b
    same a b e = cc

entry_free : (e : ℕ → Bool) (b : Block) (t n : ℕ) → length b.entries ≡ n → entry_for e b t ≡ Some n → LIST_ENTRY_SIZE ≤ free_by e b
entry_free e b t n l h = chosen_free _ _ (length b.entries) (free_by e b) (h ∙ ap Some (sym l))

-- what is free beside what is counted
free_is : (R : List Record) (b x : ℕ) → RoomIn R b → x ≤ free_by (ended_in R) (block_of R b) → sum_below (slot_count R b) (size_at (ended_in R) (image R b)) + LIST_ENTRY_SIZE * (entry_count R b - LEAST_LIST_ENTRIES) + x ≤ BLOCK_ROOM
free_is R b x r l = (let e = used_is (ended_in R) R b in let u = r.used in omega arith)

new_is_24 : (e : ℕ → Bool) (b : Block) (o : Option ℕ) (n x : ℕ) → option_map (entry_size b) o ≡ Some x → o ≡ Some n → length b.entries ≡ n → x ≡ LIST_ENTRY_SIZE
new_is_24 e b o n x h f l = let s : entry_size b n ≡ x = same _ _ (ap (option_map (entry_size b)) (sym f) ∙ h) in sym s ∙ cond-false _ _ _ (le-ltb n (length b.entries) (omega arith))
  where
    same : (a c : ℕ) → ◌≡◌ {A = Option ℕ} (Some a) (Some c) → a ≡ c
    same a c e = cc

-- the entries' cost beside something that is free
cost_fits : (R : List Record) (st : Step) (b x y : ℕ) → RoomIn R b → EntryCost R st.by b (entry_count R b) (count_entered st.by st.parts b (entry_count R b))
    → ((t : ℕ) → st.by ≡ By t → entry_for (ended_in R) (block_of R b) t ≡ Some (entry_count R b) → x + LIST_ENTRY_SIZE ≤ free_by (ended_in R) (block_of R b)) → x ≤ free_by (ended_in R) (block_of R b)
    → y ≤ sum_below (slot_count R b) (size_at (ended_in R) (image R b)) + x → y + LIST_ENTRY_SIZE * (count_entered st.by st.parts b (entry_count R b) - LEAST_LIST_ENTRIES) ≤ BLOCK_ROOM
cost_fits R st b x y r c new free l = elim c.cost [
  | inl e ↦ (let f = free_is R b x r free in let z : count_entered st.by st.parts b (entry_count R b) ≡ entry_count R b = e in omega arith)
  | inr e ↦ (let f = free_is R b (x + LIST_ENTRY_SIZE) r (new e.0 e.1 e.2) in let z : count_entered st.by st.parts b (entry_count R b) ≡ suc (entry_count R b) = e.3 in let m = r.entries_from in omega arith)
]

entries_more : (R : List Record) (st : Step) (b : ℕ) → RoomIn R b → EntryCost R st.by b (entry_count R b) (count_entered st.by st.parts b (entry_count R b)) → LEAST_LIST_ENTRIES ≤ count_entered st.by st.parts b (entry_count R b)
entries_more R st b r c = elim c.cost [ inl e ↦ (let m = r.entries_from in omega arith) | inr e ↦ (let z = e.3 in let m = r.entries_from in omega arith) ]

abbrev pub RoomAfter : List Record → Step → ℕ → Type 0
RoomAfter R st b = Room (ended_in R) (slots_reached (written st.parts) b (slot_count R b)) (count_entered st.by st.parts b (entry_count R b)) (after R st b)

-- where nothing grows
quiet_room : (R : List Record) (st : Step) (b : ℕ) → RoomIn R b → EntryCost R st.by b (entry_count R b) (count_entered st.by st.parts b (entry_count R b))
    → slots_reached (written st.parts) b (slot_count R b) ≤ slot_count R b → ((k : ℕ) → row_size (ended_in R) (after R st b k) ≤ row_size (ended_in R) (image R b k)) → RoomAfter R st b
quiet_room R st b r c l h =
    let n = slot_count R b in
    let a = sum_more (slots_reached (written st.parts) b n) n (size_at (ended_in R) (after R st b)) l in
    let d = sum_less n (size_at (ended_in R) (after R st b)) (size_at (ended_in R) (image R b)) (λ k x. let y = h k in omega arith) in
    record {
      used = cost_fits R st b 0 _ r c (λ t e f. (let g = entry_free (ended_in R) (block_of R b) t (entry_count R b) (entry_count_is R b) f in omega arith)) (omega arith) (omega arith);
      entries_from = entries_more R st b r c;
      entries_to = c.most;
      slots = (let q = r.slots in omega arith);
    }

-- in the block of the part that grows, where the slot is there
grown_room : (R : List Record) (st : Step) (b j x : ℕ) → RoomIn R b → EntryCost R st.by b (entry_count R b) (count_entered st.by st.parts b (entry_count R b))
    → slots_reached (written st.parts) b (slot_count R b) ≤ slot_count R b → j < slot_count R b → row_size (ended_in R) (after R st b j) ≤ row_size (ended_in R) (image R b j) + x
    → ((k : ℕ) → (k ≡ j → ⊥) → row_size (ended_in R) (after R st b k) ≤ row_size (ended_in R) (image R b k))
    → ((t : ℕ) → st.by ≡ By t → entry_for (ended_in R) (block_of R b) t ≡ Some (entry_count R b) → x + LIST_ENTRY_SIZE ≤ free_by (ended_in R) (block_of R b)) → x ≤ free_by (ended_in R) (block_of R b) → RoomAfter R st b
grown_room R st b j x r c l there g h new free =
    let n = slot_count R b in
    let a = sum_more (slots_reached (written st.parts) b n) n (size_at (ended_in R) (after R st b)) l in
    let d = sum_one n j x (size_at (ended_in R) (after R st b)) (size_at (ended_in R) (image R b)) there (omega arith) (λ k m ne. let y = h k ne in omega arith) in
    record {
      used = cost_fits R st b x _ r c new free (omega arith);
      entries_from = entries_more R st b r c;
      entries_to = c.most;
      slots = (let q = r.slots in omega arith);
    }

-- and where it is a new one
made_room : (R : List Record) (st : Step) (b x : ℕ) → RoomIn R b → EntryCost R st.by b (entry_count R b) (count_entered st.by st.parts b (entry_count R b))
    → slots_reached (written st.parts) b (slot_count R b) ≤ suc (slot_count R b) → slot_count R b < MOST_SLOTS → row_size (ended_in R) (after R st b (slot_count R b)) + SLOT_SIZE ≤ x
    → ((k : ℕ) → (k ≡ slot_count R b → ⊥) → row_size (ended_in R) (after R st b k) ≤ row_size (ended_in R) (image R b k))
    → ((t : ℕ) → st.by ≡ By t → entry_for (ended_in R) (block_of R b) t ≡ Some (entry_count R b) → x + LIST_ENTRY_SIZE ≤ free_by (ended_in R) (block_of R b)) → x ≤ free_by (ended_in R) (block_of R b) → RoomAfter R st b
made_room R st b x r c l few g h new free =
    let n = slot_count R b in
    let a = sum_more (slots_reached (written st.parts) b n) (suc n) (size_at (ended_in R) (after R st b)) l in
    let d = sum_less n (size_at (ended_in R) (after R st b)) (size_at (ended_in R) (image R b)) (λ k m. let y = h k (λ e. omega arith) in omega arith) in
    record {
      used = cost_fits R st b x _ r c new free (omega arith);
      entries_from = entries_more R st b r c;
      entries_to = c.most;
      slots = omega arith;
    }

-- what a block that takes or fits has for the entry

fits_parts : (e : ℕ → Bool) (b : Block) (k len : ℕ) (o : Option ℕ) → fits_beside e b k len o ≡ true → (x : ℕ) × (o ≡ Some x) × (row_growth e b k len + x ≤ free_by e b)
fits_parts e b k len None h = absurd (true≢false (sym h))
fits_parts e b k len (Some x) h = (x, refl, leb-true (row_growth e b k len + x) (free_by e b) h)

same_txn : (t u : ℕ) → By t ≡ By u → t ≡ u
same_txn t u e = cc

fitted_room : (R : List Record) (st : Step) (g : RowPart) → RoomIn R g.dba → ((u : ℕ) → st.by ≡ By u → is_active R u ≡ true) → Every (PutSome R st) st.parts → StatesOld R st.parts
    → Every (λ (p : RowPart). Quiet R p ⊎ (p ≡ g)) st.parts → Enter R st.by st.parts → Fitted R st g → RoomAfter R st g.dba
fitted_room R st g r live pu o q en f =
    let b = g.dba in
    let c = cost_of R st.by b st.parts en r.entries_to in
    let w = fits_parts (ended_in R) (block_of R b) g.slot (length g.new.bytes) (entry_need (ended_in R) (block_of R b) (Open f.txn)) f.fits_it in
    let size : row_size (ended_in R) (get_or (slots_of R b) g.slot new_slot) ≡ row_size (ended_in R) (image R b g.slot) = ap (row_size (ended_in R)) (image_is R b g.slot) in
    let x = row_growth (ended_in R) (block_of R b) g.slot (length g.new.bytes) in
    let room : x + w.0 ≤ free_by (ended_in R) (block_of R b) = w.2 in
    grown_room R st b g.slot x r c
    (reach_bound (written st.parts) b (slot_count R b) (slot_count R b) (each_written (λ d k. d ≡ b → k < slot_count R b) st.parts (every-map _ _ st.parts (λ p z e. slot_in p z e) q)) (le_refl _))
    f.there (let a = grown_size R st g live pu o q in omega arith)
    (λ k ne. others_quiet R st b k g live pu o q (λ d e. ne (sym e)))
    (λ t e h. let same : f.txn ≡ t = same_txn f.txn t (sym f.whose ∙ e) in
    let z : w.0 ≡ LIST_ENTRY_SIZE = new_is_24 (ended_in R) (block_of R b) (entry_for (ended_in R) (block_of R b) f.txn) (entry_count R b) w.0 w.1 (ap (entry_for (ended_in R) (block_of R b)) same ∙ h) (entry_count_is R b) in omega arith)
    (omega arith)
  where
    slot_in : (p : RowPart) → Quiet R p ⊎ (p ≡ g) → p.dba ≡ g.dba → p.slot < slot_count R g.dba
    slot_in p (inl z) e = subst (λ y. p.slot < slot_count R y) e z.there
    slot_in p (inr z) e = subst (λ y. y < slot_count R g.dba) (ap (λ (q : RowPart). q.slot) (sym z)) f.there

taken_room : (R : List Record) (st : Step) (g : RowPart) → RoomIn R g.dba → ((u : ℕ) → st.by ≡ By u → is_active R u ≡ true) → Every (PutSome R st) st.parts → StatesOld R st.parts
    → Every (λ (p : RowPart). Quiet R p ⊎ (p ≡ g)) st.parts → Enter R st.by st.parts → Taken R st g → RoomAfter R st g.dba
taken_room R st g r live pu o q en f =
    let b = g.dba in
    let blk = block_of R b in
    let len = length g.new.bytes in
    let n = slot_count R b in
    let c = cost_of R st.by b st.parts en r.entries_to in
    let w = takes_is (ended_in R) f.pctfree blk len f.taker f.takes_it in
    let count : length (slots_of R b) ≡ n = count_is R b in
    let grown = grown_size R st g live pu o q in
    let new24 : (t : ℕ) → st.by ≡ By t → entry_for (ended_in R) blk t ≡ Some (entry_count R b) → w.entry ≡ LIST_ENTRY_SIZE = λ t e h. entry_new t e h in
    elim (cases_Bool (ltb (slot_to_use (ended_in R) blk) (length (slots_of R b)))) [
      | inl y ↦
          let need : slot_need (ended_in R) blk ≡ 0 = cond-true _ _ _ y in
          let inside : g.slot < n = (let a : slot_to_use (ended_in R) blk < length (slots_of R b) = ltb-true _ _ y in let s : g.slot ≡ slot_to_use (ended_in R) blk = f.slot in omega arith) in
          grown_room R st b g.slot len r c
          (reach_bound (written st.parts) b n n (each_written (λ d k. d ≡ b → k < n) st.parts (every-map _ _ st.parts (λ p z e. slot_in n (le_refl n) inside p z e) q)) (le_refl n))
          inside (omega arith) (λ k ne. others_quiet R st b k g live pu o q (λ d e. ne (sym e)))
          (λ t e h. let z = new24 t e h in let m = w.room in omega arith) (let m = w.room in omega arith)
      | inr z ↦
          let need : slot_need (ended_in R) blk ≡ SLOT_SIZE = cond-false _ _ _ z in
          let at : g.slot ≡ n = (let a : length (slots_of R b) ≤ slot_to_use (ended_in R) blk = ltb-false _ _ z in let l : slot_to_use (ended_in R) blk ≤ length (slots_of R b) = slot_to_use-le-length (ended_in R) blk in let s : g.slot ≡ slot_to_use (ended_in R) blk = f.slot in omega arith) in
          let bare : row_size (ended_in R) (image R b g.slot) ≡ 0 = ap (row_size (ended_in R)) (beyond R b g.slot (omega arith)).0 in
          let size : row_size (ended_in R) (after R st b n) ≤ len = subst (λ k. row_size (ended_in R) (after R st b k) ≤ len) at (omega arith) in
          made_room R st b (len + SLOT_SIZE) r c
          (reach_bound (written st.parts) b n (suc n) (each_written (λ d k. d ≡ b → k < suc n) st.parts (every-map _ _ st.parts (λ p z e. slot_in (suc n) (omega arith) (omega arith) p z e) q)) (omega arith))
          (let a = w.slot in let s : g.slot ≡ slot_to_use (ended_in R) blk = f.slot in omega arith)
          (omega arith) (λ k ne. others_quiet R st b k g live pu o q (λ d e. ne (sym e ∙ at)))
          (λ t e h. let z = new24 t e h in let m = w.room in omega arith) (let m = w.room in omega arith)
    ]
  where
    slot_in : (m : ℕ) → slot_count R g.dba ≤ m → g.slot < m → (p : RowPart) → Quiet R p ⊎ (p ≡ g) → p.dba ≡ g.dba → p.slot < m
    slot_in m l s p (inl z) e = (let a : p.slot < slot_count R g.dba = subst (λ y. p.slot < slot_count R y) e z.there in omega arith)
    slot_in m l s p (inr z) e = subst (λ y. y < m) (ap (λ (q : RowPart). q.slot) (sym z)) s

    entry_new : (t : ℕ) → st.by ≡ By t → entry_for (ended_in R) (block_of R g.dba) t ≡ Some (entry_count R g.dba) → (takes_is (ended_in R) f.pctfree (block_of R g.dba) (length g.new.bytes) f.taker f.takes_it).entry ≡ LIST_ENTRY_SIZE
    entry_new t e h =
        let w = takes_is (ended_in R) f.pctfree (block_of R g.dba) (length g.new.bytes) f.taker f.takes_it in
        let open' : f.taker ≡ Open t = subst (λ x. IsTaker x f.taker) e f.whose in
        new_is_24 (ended_in R) (block_of R g.dba) (entry_for (ended_in R) (block_of R g.dba) t) (entry_count R g.dba) w.entry (ap (entry_need (ended_in R) (block_of R g.dba)) (sym open') ∙ w.entry_is) h (entry_count_is R g.dba)

pub room_adds : (sh : Shape) (R : List Record) (st : Step) (b : ℕ) → ((c : ℕ) → RoomIn R c) → ((u : ℕ) → st.by ≡ By u → is_active R u ≡ true) → Every (PutSome R st) st.parts → StatesOld R st.parts → StepRoom R st → RoomAfter R st b
room_adds sh R st b r live pu o x = elim x.rooms [
  | inl q ↦ quiet_room R st b (r b) (cost_of R st.by b st.parts x.entries (r b).entries_to)
      (reach_bound (written st.parts) b (slot_count R b) (slot_count R b) (each_written (λ d k. d ≡ b → k < slot_count R b) st.parts (every-map _ _ st.parts (λ p z e. subst (λ y. p.slot < slot_count R y) e z.there) q)) (le_refl _))
      (λ k. all_quiet R st b k live pu o q)
  | inr y ↦ elim (cases_Bool (eqb y.part.dba b)) [
    | inl e ↦ subst (RoomAfter R st) (eqb-true y.part.dba b e) (elim y.grows [
      | inl t ↦ taken_room R st y.part (r y.part.dba) live pu o y.others x.entries t
      | inr f ↦ fitted_room R st y.part (r y.part.dba) live pu o y.others x.entries f
    ])
    | inr n ↦ quiet_room R st b (r b) (cost_of R st.by b st.parts x.entries (r b).entries_to)
        (reach_bound (written st.parts) b (slot_count R b) (slot_count R b) (each_written (λ d k. d ≡ b → k < slot_count R b) st.parts (every-map _ _ st.parts (λ p z e. apart_slot y.part n p z e) y.others)) (le_refl _))
        (λ k. others_quiet R st b k y.part live pu o y.others (λ d e. eqb-false y.part.dba b n d))
  ]
]
  where
    apart_slot : (g : RowPart) → eqb g.dba b ≡ false → (p : RowPart) → Quiet R p ⊎ (p ≡ g) → p.dba ≡ b → p.slot < slot_count R b
    apart_slot g n p (inl z) e = subst (λ y. p.slot < slot_count R y) e z.there
    apart_slot g n p (inr z) e = absurd (eqb-false g.dba b n (ap (λ (q : RowPart). q.dba) (sym z) ∙ e))

-- rows are short

abbrev pub Short : Slot → List Made → Type 0
Short i ms = (length i.bytes ≤ LONGEST_ROW) × Every (λ (m : Made). length m.old.bytes ≤ LONGEST_ROW) ms

abbrev pub ShortIn : List Record → Type 0
ShortIn R = (b k : ℕ) → Short (image R b k) (makers R b k)

pub short_part : (R : List Record) (p : RowPart) → ShortIn R → IsShort R p → length p.new.bytes ≤ LONGEST_ROW
short_part R p h (inl l) = l
short_part R p h (inr w) = subst (λ (x : List ℕ). length x ≤ LONGEST_ROW) (sym w.2) (h w.0 w.1).0

short_adds : (R : List Record) (st : Step) (i : ℕ) (ps : List RowPart) (b k : ℕ) (ms : List Made) → ShortIn R → Every (IsShort R) ps → StatesOld R ps → Short (image R b k) ms → Short (placed_in (written ps) b k (image R b k)) (made_by st i ps b k ms)
short_adds R st i [] b k ms all f o h = h
short_adds R st i (p ∷ ps) b k ms all f o h =
    (elim (is_place p.dba p.slot b k) as (λ v. is_place p.dba p.slot b k ≡ v → Short (cond v p.new (placed_in (written ps) b k (image R b k))) (cond v (record { by = st.by; undo = st.undo; part = part_addr st.undo i; old = p.old } ∷ ms) (made_by st (suc i) ps b k ms))) [
      | true ↦ λ e. (short_part R p all f.0, (subst (λ (x : Slot). length x.bytes ≤ LONGEST_ROW) (sym o.0) (all p.dba p.slot).0, h.1))
      | false ↦ λ e. short_adds R st (suc i) ps b k ms all f.1 o.1 h
    ]) refl

short_back : (st : Step) (i : ℕ) (ps : List RowPart) (b k : ℕ) (im : Slot) (ms : List Made) → Short im (made_by st i ps b k ms) → Short (placed_in (restored (taken_back ps)) b k im) ms
short_back st i [] b k im ms h = h
short_back st i (p ∷ ps) b k im ms h =
    (elim (is_place p.dba p.slot b k) as (λ v. Short im (cond v (record { by = st.by; undo = st.undo; part = part_addr st.undo i; old = p.old } ∷ ms) (made_by st (suc i) ps b k ms)) → Short (cond v p.old (placed_in (restored (taken_back ps)) b k im)) ms) [
      | true ↦ λ x. (x.1.0, x.1.1)
      | false ↦ λ x. short_back st (suc i) ps b k im ms x
    ]) h

told_bytes : (i : Slot) (o : Option ℕ) → (as_told i o).bytes ≡ i.bytes
told_bytes i None = refl
told_bytes i (Some zero) = refl
told_bytes i (Some (suc c)) = refl

abbrev pub EffectSmall : List Record → Effect → Type 0
EffectSmall R (Adds st) = StepRoom R st × AllPut R st 0 st.parts
EffectSmall R _ = Unit {0}

short_effect : (R : List Record) (ef : Effect) → EffectFits R ef → EffectSmall R ef → Held (is_active R) (txn_count R) (standing R) (makers R) → ShortIn R → (b k : ℕ) → Short (changed_image ef b k (image R b k)) (changed_makers ef b k (makers R b k))
short_effect R Still f x h s b k = s b k
short_effect R (Formats d) f x h s b k = elim (eqb d b) as (λ v. Short (cond v new_slot (image R b k)) (cond v [] (makers R b k))) [ true ↦ (omega arith, tt) | false ↦ s b k ]
short_effect R (Adds st) f x h s b k = short_adds R st 0 st.parts b k (makers R b k) s x.0.short f.old (s b k)
short_effect R (TakesBack t) f x h s b k =
    let o = own_newest (standing R) t.txn f.step f.newest in
    let top : OnTop (f.step ∷ o.0) (makers R) = subst (λ us. OnTop us (makers R)) o.1 (h.top t.txn f.active) in
    let lies : makers R b k ≡ made_by f.step 0 f.step.parts b k (without t.undo (makers R b k)) = top.0 b k ∙ ap (λ z. made_by f.step 0 f.step.parts b k (without z (makers R b k))) (sym f.undo) in
    subst (λ ps. Short (placed_in (restored ps) b k (image R b k)) (without t.undo (makers R b k))) (sym f.restores)
    (short_back f.step 0 f.step.parts b k (image R b k) (without t.undo (makers R b k)) (subst (Short (image R b k)) lies (s b k)))
short_effect R (Cleans d cs) f x h s b k =
    elim (eqb d b) as (λ v. Short (cond v (clean_slot cs (image R b k)) (image R b k)) (makers R b k)) [
      | true ↦ (subst (λ (y : List ℕ). length y ≤ LONGEST_ROW) (sym (told_bytes (image R b k) (number_of_writer cs (image R b k).writer))) (s b k).0, (s b k).1)
      | false ↦ s b k
    ]

-- after an effect
room_effect : (sh : Shape) (R : List Record) (ef : Effect) → EffectFits R ef → LinksFit R ef → EffectSmall R ef → Held (is_active R) (txn_count R) (standing R) (makers R) → LinksIn R → ((c : ℕ) → RoomIn R c) → (b : ℕ)
    → Room (ended_in R) (changed_slot_count ef b (slot_count R b)) (changed_entry_count ef b (entry_count R b)) (λ k. changed_image ef b k (image R b k))
room_effect sh R Still f l x h y r b = r b
room_effect sh R (Formats d) f l x h y r b =
    elim (eqb d b) as (λ v. Room (ended_in R) (cond v 0 (slot_count R b)) (cond v LEAST_LIST_ENTRIES (entry_count R b)) (λ k. cond v new_slot (image R b k))) [ true ↦ room_formats (ended_in R) (λ k. new_slot) | false ↦ r b ]
room_effect sh R (Adds st) f l x h y r b = room_adds sh R st b r f.live (put_some R st 0 st.parts x.1) f.old x.0
room_effect sh R (TakesBack t) f l x h y r b = room_back R t b f h y (r b)
room_effect sh R (Cleans d cs) f l x h y r b =
    elim (eqb d b) as (λ v. Room (ended_in R) (slot_count R b) (entry_count R b) (λ k. cond v (clean_slot cs (image R b k)) (image R b k))) [
      | true ↦ room_less (ended_in R) (ended_in R) (slot_count R b) (slot_count R b) (entry_count R b) (image R b) (λ k. clean_slot cs (image R b k)) (le_refl (slot_count R b)) (λ k m. clean_size (is_active R) cs (image R b k) l) (r b)
      | false ↦ r b
    ]

pub record Small (sh : Shape) (R : List Record) : Type 0 where
  pub room : (b : ℕ) → RoomIn R b
  pub short : ShortIn R

pub small_of : (sh : Shape) (R : List Record) (r : Record) → Whole sh R → IsKindAllowed sh R r → AreAllowed sh R → EffectSmall R (effect_of r)
small_of sh R r w a h = go r a (room_of sh R r a) (shape_of sh R r (segments sh R h) a)
  where
    go : (r : Record) → IsKindAllowed sh R r → EffectRoom R (effect_of r) → RecordShape sh R r → EffectSmall R (effect_of r)
    go (Insert y) k x z = (x, z.puts)
    go (Update y) k x z = (x, z.shape.puts)
    go (Migrate y) k x z = (x, z.shape.puts)
    go (Return y) k x z = (x, z.shape.puts)
    go (Delete y) k x z = (x, z.shape.puts)
    go (Move y) k x z = (x, z.shape.puts)
    go _ k x z = tt

pub small : (sh : Shape) (R : List Record) → AreAllowed sh R → Small sh R
small sh [] h = record { room = λ b. record { used = omega arith; entries_from = omega arith; entries_to = omega arith; slots = omega arith }; short = λ b k. (omega arith, tt) }
small sh (r ∷ R) h =
    let s = small sh R h.0 in
    let w = whole sh R h.0 in
    let f = record_fits sh R r h in
    let x = small_of sh R r w h.1.kind h.0 in
    let held = (good sh R w.fit).held in
    record {
      room = λ b. room_turn R r (slot_count (r ∷ R) b) (entry_count (r ∷ R) b) (standing (r ∷ R)) (image (r ∷ R) b) (makers (r ∷ R) b) (turn sh R r h.1.kind)
          (λ k. effect_links R (effect_of r) f.effect f.links held w.links b k) (room_effect sh R (effect_of r) f.effect f.links x held w.links s.room b);
      short = short_effect R (effect_of r) f.effect x held s.short;
    }

pub blocks_have_room : BlocksHaveRoom
blocks_have_room sh R b h =
    let s = small sh R h in
    let r = s.room b in
    let w = whole sh R h in
    let own : (k : ℕ) → writer_has_ended (ended_in R) (image R b k).writer ≡ false → length (image R b k).bytes ≤ (image R b k).room = λ k. own_room (is_active R) (txn_count R) (standing R) (image R b k) (makers R b k) (w.links b k) in
    record {
      counted = (let e = used_is (ended_in R) R b in let u = r.used in omega arith);
      when_more_end = λ f more. (let e = used_is f R b in let u = r.used in
          let l = sum_less (slot_count R b) (size_at f (image R b)) (size_at (ended_in R) (image R b)) (λ k x. let y = size_falls (ended_in R) f (image R b k) (still_over f more (image R b k).writer) (own k) in omega arith) in omega arith);
      page = (let e = page_is R b in let u = r.used in
          let l = sum_less (slot_count R b) (λ k. SLOT_SIZE + length (image R b k).bytes) (size_at (ended_in R) (image R b)) (λ k x. let y = length_within (ended_in R) (image R b k) (own k) in omega arith) in omega arith);
      entries_from = r.entries_from;
      entries_to = r.entries_to;
      slots = r.slots;
      rows = λ k. (s.short b k).0;
    }
  where
    still_over : (f : ℕ → Bool) → ((t : ℕ) → ended_in R t ≡ true → f t ≡ true) → (v : Writer) → writer_has_ended (ended_in R) v ≡ true → writer_has_ended f v ≡ true
    still_over f more (By t) e = more t e
    still_over f more (At c) e = refl
