-- The parts of a step fit in turn.
use Rattle.std.proofs.Common.{◌≡◌, ◌⊎◌, ℕ, suc, ◌+◌, ◌-◌, ◌*◌, ◌≤◌, max, true, false, cond, not, ◌||◌, eqb, List, [], ◌∷◌, ◌++◌, length, get_or, Option, Some, None, refl, sym, ◌∙◌, ap, ap₂, subst, arith, inl, inr, le_refl, le_trans, true≢false, eq-eqb, sum_by}
use Rattle.seg_words.proofs.Lemmas.{cond-true, cases_Bool}
use Rattle.seg_words.specs.Types.{Shape, Slot, ListEntry, Writer, By, At, new_slot, new_entry, put, row_size, slot_size, writer_has_ended, BLOCK_ROOM, SLOT_SIZE, MOST_SLOTS, LIST_ENTRY_SIZE, LEAST_LIST_ENTRIES, MOST_LIST_ENTRIES}
use Rattle.seg_base.proofs.Puts.{length-put}
use Rattle.page_bytes.specs.Types.{HasSlotForm}
use Rattle.row_block.specs.Types.{laid_out, CanPut, CanEnter}
use Rattle.redo_model.specs.Records.{Record, Insert, RowPart, RowBody}
use Rattle.redo_model.specs.Model.{Step, effect_of, written, txn_count, is_active, ended_in, standing, is_place, placed_in, image, slots_reached, slot_count, reach_entry, entries_reached, count_entered, entry_count, makers, place_all, enter_at, enter_all, enter_by, slots_of, entries_of, block_of, AreAllowed}
use Rattle.redo_model.specs.Effects.{Adds}
use Rattle.redo_model.proofs.Bridge.{image_is, count_is, entry_count_is}
use Rattle.redo_laws.specs.Among.{IsOneOf, AreSome}
use Rattle.redo_laws.specs.Fit.{PartFits, EachFits, EffectFits as BlocksFit}
use Rattle.redo_laws.proofs.lists.Every.{Every, every-map}
use Rattle.redo_laws.proofs.steps.OnTop.{is_named}
use Rattle.redo_laws.proofs.steps.Facts.{EffectFits}
use Rattle.redo_laws.proofs.room.FitLaw.{records_fit_blocks}
use Rattle.redo_laws.proofs.homes.Homes.{new_left}
use Rattle.redo_laws.proofs.steps.ImageFacts.{StatesIts, states_each, states_old}
use Rattle.redo_laws.proofs.room.RoomKinds.{Quiet, EntersAt, IsShort, Enter, StepRoom}
use Rattle.redo_laws.proofs.room.RoomLaw.{size_at, RoomIn, size_ended, size_active, own_room, length_within, PutSome, put_some, first_part, after, RoomAfter, room_adds, EffectSmall, small, small_of}
use Rattle.redo_laws.proofs.allowed.Shapes.{Puts}
use Rattle.redo_laws.proofs.lists.Sums.{sum_below, sum_less, sum_more, sum_places, sum_same}
use Rattle.redo_laws.proofs.spread.Whole.{record_fits, whole}
use Rattle.page_laws.specs.Parts.{partly, PartsFitInTurn}
use Rattle.page_laws.proofs.FormLaw.{effect_formed}
use Rattle.redo_laws.proofs.lists.Among.{one_has, some_have, some_both}

-- a step with other parts

abbrev pub step_of : Step → List RowPart → Step
step_of st ps = record { by = st.by; obj = st.obj; row = st.row; undo = st.undo; previous = st.previous; parts = ps; deletes = st.deletes }

some_puts : (R : List Record) (st : Step) (ps : List RowPart) (qs : List RowPart) → Every (PutSome R st) qs → Every (PutSome R (step_of st ps)) qs
some_puts R st ps qs h = every-map _ _ qs (λ p x. (x.0, again p x.0 x.1)) h
  where
    again : (p : RowPart) (i : ℕ) → Puts R st i p → Puts R (step_of st ps) i p
    again p i x = record { undo = x.undo; writer = x.writer; row = x.row; room = x.room; room_at = x.room_at; none = x.none }

some_enter : (R : List Record) (w : Writer) (ps qs : List RowPart) → AreSome ps qs → Enter R w ps → Enter R w qs
some_enter R (By t) ps qs i h = some_have (EntersAt R t) ps qs i h
some_enter R (At c) ps qs i h = some_have (λ (p : RowPart). p.entry ≡ None) ps qs i h

some_room : (R : List Record) (st : Step) (qs : List RowPart) → AreSome st.parts qs → StepRoom R st → StepRoom R (step_of st qs)
some_room R st qs i h = record {
  rooms = elim h.rooms [
    | inl q ↦ inl (some_have (Quiet R) st.parts qs i q)
    | inr g ↦ inr (record {
      part = g.part;
      old = g.old;
      grows = elim g.grows [
        | inl t ↦ inl (record { slot = t.slot; pctfree = t.pctfree; taker = t.taker; whose = t.whose; takes_it = t.takes_it })
        | inr f ↦ inr (record { there = f.there; txn = f.txn; whose = f.whose; fits_it = f.fits_it })
      ];
      others = some_have (λ (p : RowPart). Quiet R p ⊎ (p ≡ g.part)) st.parts qs i g.others;
    })
  ];
  entries = some_enter R st.by st.parts qs i h.entries;
  short = some_have (IsShort R) st.parts qs i h.short;
}

-- what is known of a step that is allowed
pub record StepKnown (sh : Shape) (R : List Record) (st : Step) : Type 0 where
  pub rooms : (b : ℕ) → RoomIn R b
  pub live : (u : ℕ) → st.by ≡ By u → is_active R u ≡ true
  pub puts : Every (PutSome R st) st.parts
  pub old : Every (StatesIts R) st.parts
  pub room : StepRoom R st
  pub own : (b k : ℕ) → length (image R b k).bytes ≤ row_size (ended_in R) (image R b k)

pub own_length : (sh : Shape) (R : List Record) (b k : ℕ) → AreAllowed sh R → length (image R b k).bytes ≤ row_size (ended_in R) (image R b k)
own_length sh R b k h = let w = whole sh R h in length_within (ended_in R) (image R b k) (own_room (is_active R) (txn_count R) (standing R) (image R b k) (makers R b k) (w.links b k))

pub step_known : (sh : Shape) (R : List Record) (r : Record) (st : Step) → AreAllowed sh (r ∷ R) → effect_of r ≡ Adds st → StepKnown sh R st
step_known sh R r st h e =
    let f : EffectFits R (Adds st) = subst (EffectFits R) e (record_fits sh R r h).effect in
    let x : EffectSmall R (Adds st) = subst (EffectSmall R) e (small_of sh R r (whole sh R h.0) h.1.kind h.0) in
    record {
      rooms = (small sh R h.0).room;
      live = f.live;
      puts = put_some R st 0 st.parts x.1;
      old = states_each R st.parts f.old;
      room = x.0;
      own = λ b k. own_length sh R b k h.0;
    }

room_some : (sh : Shape) (R : List Record) (st : Step) (qs : List RowPart) (b : ℕ) → StepKnown sh R st → AreSome st.parts qs → RoomAfter R (step_of st qs) b
room_some sh R st qs b k i =
    room_adds sh R (step_of st qs) b k.rooms k.live (some_puts R st qs qs (some_have (PutSome R st) st.parts qs i k.puts))
    (states_old R qs (some_have (StatesIts R) st.parts qs i k.old)) (some_room R st qs i k.room)

-- counts of slots and entries

pub slots_up : (ps : List RowPart) (b n : ℕ) → n ≤ slots_reached (written ps) b n
slots_up [] b n = le_refl n
slots_up (p ∷ ps) b n =
    let l = slots_up ps b n in
    elim (eqb p.dba b) as (λ v. n ≤ cond v (max (suc p.slot) (slots_reached (written ps) b n)) (slots_reached (written ps) b n)) [ true ↦ omega (arith, l) | false ↦ l ]

slots_more : (ps qs : List RowPart) (b n : ℕ) → slots_reached (written ps) b n ≤ slots_reached (written (ps ++ qs)) b n
slots_more [] qs b n = slots_up qs b n
slots_more (p ∷ ps) qs b n =
    let l = slots_more ps qs b n in
    elim (eqb p.dba b) as (λ v. cond v (max (suc p.slot) (slots_reached (written ps) b n)) (slots_reached (written ps) b n) ≤ cond v (max (suc p.slot) (slots_reached (written (ps ++ qs)) b n)) (slots_reached (written (ps ++ qs)) b n)) [
      | true ↦ omega (arith, l)
      | false ↦ l
    ]

reach_up : (o : Option ℕ) (n : ℕ) → n ≤ reach_entry o n
reach_up None n = le_refl n
reach_up (Some i) n = omega arith

entries_up : (ps : List RowPart) (b n : ℕ) → n ≤ entries_reached ps b n
entries_up [] b n = le_refl n
entries_up (p ∷ ps) b n =
    let l = entries_up ps b n in
    elim (eqb p.dba b) as (λ v. n ≤ cond v (reach_entry p.entry (entries_reached ps b n)) (entries_reached ps b n)) [ true ↦ le_trans l (reach_up p.entry (entries_reached ps b n)) | false ↦ l ]

entries_last : (ps qs : List RowPart) (b n : ℕ) → entries_reached qs b n ≤ entries_reached (ps ++ qs) b n
entries_last [] qs b n = le_refl (entries_reached qs b n)
entries_last (p ∷ ps) qs b n =
    let l = entries_last ps qs b n in
    elim (eqb p.dba b) as (λ v. entries_reached qs b n ≤ cond v (reach_entry p.entry (entries_reached (ps ++ qs) b n)) (entries_reached (ps ++ qs) b n)) [
      | true ↦ le_trans l (reach_up p.entry (entries_reached (ps ++ qs) b n))
      | false ↦ l
    ]

pub entered_up : (w : Writer) (ps : List RowPart) (b n : ℕ) → n ≤ count_entered w ps b n
entered_up (By t) ps b n = entries_up ps b n
entered_up (At c) ps b n = le_refl n

-- the parts that count with the images: those that enter, where the writer is a transaction
abbrev beside : Writer → List RowPart → List RowPart
beside (By t) ps = ps
beside (At c) ps = []

beside_some : (w : Writer) (ps qs : List RowPart) → AreSome ps qs → AreSome ps (beside w qs)
beside_some (By t) ps qs i = i
beside_some (At c) ps qs i = tt

entered_last : (w : Writer) (ps qs : List RowPart) (b n : ℕ) → count_entered w qs b n ≤ count_entered w (ps ++ beside w qs) b n
entered_last (By t) ps qs b n = entries_last ps qs b n
entered_last (At c) ps qs b n = le_refl n

-- images

placed_both : (ps qs : List RowPart) (b k : ℕ) (i : Slot) → placed_in (written (ps ++ qs)) b k i ≡ placed_in (written ps) b k (placed_in (written qs) b k i)
placed_both [] qs b k i = refl
placed_both (p ∷ ps) qs b k i = ap (λ x. cond (is_place p.dba p.slot b k) p.new x) (placed_both ps qs b k i)

placed_same : (ps : List RowPart) (b k : ℕ) (i j : Slot) → is_named ps b k ≡ true → placed_in (written ps) b k i ≡ placed_in (written ps) b k j
placed_same [] b k i j h = absurd (true≢false (sym h))
placed_same (p ∷ ps) b k i j h =
    (elim (is_place p.dba p.slot b k) as (λ v. (v || is_named ps b k) ≡ true → cond v p.new (placed_in (written ps) b k i) ≡ cond v p.new (placed_in (written ps) b k j)) [
      | true ↦ λ x. refl
      | false ↦ λ x. placed_same ps b k i j x
    ]) h

-- an image that is put has room for its row
put_own : (R : List Record) (st : Step) (i : ℕ) (p : RowPart) → ((u : ℕ) → st.by ≡ By u → is_active R u ≡ true) → Puts R st i p → length p.new.bytes ≤ row_size (ended_in R) p.new
put_own R st i p live pu = go st.by refl
  where
    go : (w : Writer) → st.by ≡ w → length p.new.bytes ≤ row_size (ended_in R) p.new
    go (By u) e = (let a = size_active (ended_in R) p.new (ap (writer_has_ended (ended_in R)) (pu.writer ∙ e) ∙ ap not (live u e)) in let c = pu.room u e in omega arith)
    go (At m) e = (let a = size_ended (ended_in R) p.new (ap (writer_has_ended (ended_in R)) (pu.writer ∙ e)) in omega arith)

pub put_room : (R : List Record) (st : Step) (i : ℕ) (p : RowPart) → Puts R st i p → length p.new.bytes ≤ p.new.room
put_room R st i p pu = go st.by refl
  where
    go : (w : Writer) → st.by ≡ w → length p.new.bytes ≤ p.new.room
    go (By u) e = (let c = pu.room u e in omega arith)
    go (At m) e = (let c = pu.room_at m e in omega arith)

-- a transaction's image counts no less than the one below
put_over : (R : List Record) (st : Step) (i t : ℕ) (p : RowPart) → is_active R t ≡ true → st.by ≡ By t → Puts R st i p → row_size (ended_in R) p.old ≤ row_size (ended_in R) p.new
put_over R st i t p on e pu = (let a = size_active (ended_in R) p.new (ap (writer_has_ended (ended_in R)) (pu.writer ∙ e) ∙ ap not on) in let c = pu.room t e in omega arith)

abbrev IsOver : List Record → RowPart → Type 0
IsOver R p = row_size (ended_in R) p.old ≤ row_size (ended_in R) p.new

beside_over : (sh : Shape) (R : List Record) (st : Step) (qs : List RowPart) (w : Writer) → StepKnown sh R st → st.by ≡ w → Every (PutSome R st) qs → Every (IsOver R) (beside w qs)
beside_over sh R st qs (By t) k e h = every-map _ _ qs (λ p x. put_over R st x.0 t p (k.live t e) e x.1) h
beside_over sh R st qs (At c) k e h = tt

-- a slot's row, after some images, is no longer than what the slot counts after more
length_after : (sh : Shape) (R : List Record) (st : Step) (ps qs : List RowPart) (b k : ℕ) → StepKnown sh R st → Every (PutSome R st) ps → Every (StatesIts R) ps → Every (PutSome R st) qs → Every (StatesIts R) qs → Every (IsOver R) qs
    → length (placed_in (written ps) b k (image R b k)).bytes ≤ row_size (ended_in R) (placed_in (written (ps ++ qs)) b k (image R b k))
length_after sh R st ps qs b k x pu o qu qo over =
    let im = image R b k in
    subst (λ (i : Slot). length (placed_in (written ps) b k im).bytes ≤ row_size (ended_in R) i) (sym (placed_both ps qs b k im))
    (elim (cases_Bool (is_named ps b k)) [
      | inl y ↦
          let f = first_part R st (StatesIts R) ps b k im pu o (states_old R ps o) y in
          let a = put_own R st f.place f.part x.live f.puts in
          let e : placed_in (written ps) b k (placed_in (written qs) b k im) ≡ f.part.new = placed_same ps b k (placed_in (written qs) b k im) im y ∙ f.new_is in
          let p : length (placed_in (written ps) b k im).bytes ≤ row_size (ended_in R) f.part.new = subst (λ (i : Slot). length i.bytes ≤ row_size (ended_in R) f.part.new) (sym f.new_is) a in
          subst (λ (i : Slot). length (placed_in (written ps) b k im).bytes ≤ row_size (ended_in R) i) (sym e) p
      | inr n ↦
          let e : placed_in (written ps) b k (placed_in (written qs) b k im) ≡ placed_in (written qs) b k im = new_left ps b k (placed_in (written qs) b k im) n in
          let d : placed_in (written ps) b k im ≡ im = new_left ps b k im n in
          let own = x.own b k in
          let l : length im.bytes ≤ row_size (ended_in R) (placed_in (written qs) b k im) = (elim (cases_Bool (is_named qs b k)) [
            | inl y ↦
                let f = first_part R st (IsOver R) qs b k im qu over (states_old R qs qo) y in
                let s : row_size (ended_in R) f.part.old ≡ row_size (ended_in R) im = ap (row_size (ended_in R)) f.old_is in
                let g = f.fact in
                subst (λ (i : Slot). length im.bytes ≤ row_size (ended_in R) i) (sym f.new_is) (omega (arith, own, s, g))
            | inr m ↦ subst (λ (i : Slot). length im.bytes ≤ row_size (ended_in R) i) (sym (new_left qs b k im m)) own
          ]) in
          subst (λ (i : Slot). length i.bytes ≤ row_size (ended_in R) (placed_in (written ps) b k (placed_in (written qs) b k im))) (sym d)
          (subst (λ (i : Slot). length im.bytes ≤ row_size (ended_in R) i) (sym e) l)
    ])

-- what a block takes on its page

abbrev body : ℕ → List RowPart → RowBody
body t ps = record { txn = t; entry = 0; obj = 0; row = 0; undo = record { block = 0; seq = 0; nth = 0 }; previous = None; parts = ps }

all_ended : (w : Writer) → writer_has_ended (λ t. true) w ≡ true
all_ended (By t) = refl
all_ended (At c) = refl

bare_size : (s : Slot) → slot_size (λ t. true) s ≡ SLOT_SIZE + length s.bytes
bare_size s = ap (λ n. SLOT_SIZE + n) (size_ended (λ t. true) s (all_ended s.writer))

pub slots_laid : (R : List Record) (b : ℕ) → sum_by (slot_size (λ t. true)) (slots_of R b) ≡ sum_below (slot_count R b) (λ k. SLOT_SIZE + length (image R b k).bytes)
slots_laid R b =
    sum_places (slot_size (λ t. true)) new_slot (slots_of R b) ∙ ap (λ n. sum_below n (λ k. slot_size (λ t. true) (get_or (slots_of R b) k new_slot))) (count_is R b)
    ∙ sum_same (slot_count R b) (λ k. slot_size (λ t. true) (get_or (slots_of R b) k new_slot)) (λ k. SLOT_SIZE + length (image R b k).bytes) (λ k. ap (slot_size (λ t. true)) (image_is R b k) ∙ bare_size (image R b k))

entries_laid : (R : List Record) (w : Writer) (ps : List RowPart) (b : ℕ) → length (enter_by w ps b (entries_of R b)) ≡ count_entered w ps b (entry_count R b)
entries_laid R (By t) ps b = entry_count_is (Insert (body t ps) ∷ R) b
entries_laid R (At c) ps b = entry_count_is R b

partly_is : (R : List Record) (w : Writer) (ps qs : List RowPart) (b : ℕ) → laid_out (partly w ps qs b (block_of R b)) ≡ sum_below (slots_reached (written ps) b (slot_count R b)) (λ k. SLOT_SIZE + length (placed_in (written ps) b k (image R b k)).bytes) + LIST_ENTRY_SIZE * (count_entered w qs b (entry_count R b) - LEAST_LIST_ENTRIES)
partly_is R w ps qs b = ap₂ (λ x y. x + LIST_ENTRY_SIZE * (y - LEAST_LIST_ENTRIES)) (slots_laid (Insert (body 0 ps) ∷ R) b) (entries_laid R w qs b)

-- some images and some names leave a block that fits its page
pub record PartlySmall (R : List Record) (w : Writer) (ps qs : List RowPart) (b : ℕ) : Type 0 where
  pub size : laid_out (partly w ps qs b (block_of R b)) ≤ BLOCK_ROOM
  pub slots : slots_reached (written ps) b (slot_count R b) ≤ MOST_SLOTS
  pub entries : count_entered w qs b (entry_count R b) ≤ MOST_LIST_ENTRIES

pub partly_small : (sh : Shape) (R : List Record) (st : Step) (ps qs : List RowPart) (b : ℕ) → StepKnown sh R st → AreSome st.parts ps → AreSome st.parts qs → PartlySmall R st.by ps qs b
partly_small sh R st ps qs b x i j =
    let n = slot_count R b in
    let rs = beside st.by qs in
    let js : AreSome st.parts rs = beside_some st.by st.parts qs j in
    let both = ps ++ rs in
    let m = room_some sh R st both b x (some_both st.parts ps rs i js) in
    let pu = some_have (PutSome R st) st.parts ps i x.puts in
    let po = some_have (StatesIts R) st.parts ps i x.old in
    let qu = some_have (PutSome R st) st.parts rs js x.puts in
    let qo = some_have (StatesIts R) st.parts rs js x.old in
    let over = beside_over sh R st qs st.by x refl (some_have (PutSome R st) st.parts qs j x.puts) in
    let f : ℕ → ℕ = λ k. SLOT_SIZE + length (placed_in (written ps) b k (image R b k)).bytes in
    let g : ℕ → ℕ = size_at (ended_in R) (after R (step_of st both) b) in
    let a = sum_more (slots_reached (written ps) b n) (slots_reached (written both) b n) f (slots_more ps rs b n) in
    let c = sum_less (slots_reached (written both) b n) f g (λ k l. let y = length_after sh R st ps rs b k x pu po qu qo over in omega (arith, y)) in
    let e = entered_last st.by ps qs b (entry_count R b) in
    let u = m.used in
    let is = partly_is R st.by ps qs b in
    let s = slots_more ps rs b n in
    let t = m.slots in
    let v = m.entries_to in
    record { size = omega (arith, is, a, c, e, u); slots = omega (arith, s, t); entries = omega (arith, e, v) }

-- the law

each_fits : (R : List Record) (ps : List RowPart) → EachFits R ps → Every (PartFits R) ps
each_fits R [] h = tt
each_fits R (p ∷ ps) h = (h.0, each_fits R ps h.1)

can_put : (sh : Shape) (R : List Record) (st : Step) (p : RowPart) (ps qs : List RowPart) → StepKnown sh R st → PartFits R p → HasSlotForm p.new → IsOneOf p st.parts → AreSome st.parts ps → AreSome st.parts qs → CanPut (partly st.by ps qs p.dba (block_of R p.dba)) p.slot p.new
can_put sh R st p ps qs x f g o i j =
    let b = p.dba in
    let n = slot_count R b in
    let small = partly_small sh R st (p ∷ ps) qs b x (o, i) j in
    let pu = one_has (PutSome R st) p st.parts o x.puts in
    record {
      at = (let c : length (place_all (written ps) b (slots_of R b)) ≡ slots_reached (written ps) b n = count_is (Insert (body 0 ps) ∷ R) b in let u = slots_up ps b n in let t = f.there in omega (arith, c, u, t));
      most = f.few;
      bytes = put_room R st pu.0 p pu.1;
      form = g;
      size = subst (λ (ss : List Slot). laid_out (record { slots = ss; entries = enter_by st.by qs b (entries_of R b) }) ≤ BLOCK_ROOM) (cond-true _ _ _ (eq-eqb b b refl)) small.size;
    }

longer : (ss : List Slot) (es fs : List ListEntry) → length es ≡ length fs → laid_out (record { slots = ss; entries = es }) ≤ BLOCK_ROOM → laid_out (record { slots = ss; entries = fs }) ≤ BLOCK_ROOM
longer ss es fs e h = subst (λ n. sum_by (slot_size (λ t. true)) ss + LIST_ENTRY_SIZE * (n - LEAST_LIST_ENTRIES) ≤ BLOCK_ROOM) e h

can_enter : (sh : Shape) (R : List Record) (st : Step) (p : RowPart) (ps qs : List RowPart) (t e : ℕ) → StepKnown sh R st → PartFits R p → IsOneOf p st.parts → AreSome st.parts ps → AreSome st.parts qs → st.by ≡ By t → p.entry ≡ Some e → CanEnter (partly st.by ps qs p.dba (block_of R p.dba)) e
can_enter sh R st p ps qs t e x f o i j by en =
    let b = p.dba in
    let n = entry_count R b in
    let w = f.entry e en in
    let small = partly_small sh R st ps (p ∷ qs) b x i (o, j) in
    let ss = place_all (written ps) b (slots_of R b) in
    let es = entries_of R b in
    let size : laid_out (record { slots = ss; entries = enter_by (By t) (p ∷ qs) b es }) ≤ BLOCK_ROOM = subst (λ v. laid_out (record { slots = ss; entries = enter_by v (p ∷ qs) b es }) ≤ BLOCK_ROOM) by small.size in
    let one : laid_out (record { slots = ss; entries = enter_at p.entry t (enter_all qs t b es) }) ≤ BLOCK_ROOM = subst (λ (xs : List ListEntry). laid_out (record { slots = ss; entries = xs }) ≤ BLOCK_ROOM) (cond-true _ _ _ (eq-eqb b b refl)) size in
    let two : laid_out (record { slots = ss; entries = put new_entry (enter_all qs t b es) e (record { txn = t; number = 0 }) }) ≤ BLOCK_ROOM = subst (λ z. laid_out (record { slots = ss; entries = enter_at z t (enter_all qs t b es) }) ≤ BLOCK_ROOM) en one in
    subst (λ v. CanEnter (partly v ps qs b (block_of R b)) e) (sym by) (record {
      at = (let c : length (enter_all qs t b es) ≡ count_entered (By t) qs b n = entries_laid R (By t) qs b in let u = entered_up (By t) qs b n in let a = w.0 in omega (arith, c, u, a));
      most = w.1;
      size = longer ss (put new_entry (enter_all qs t b es) e (record { txn = t; number = 0 })) (put new_entry (enter_all qs t b es) e new_entry)
          (length-put new_entry (enter_all qs t b es) e (record { txn = t; number = 0 }) ∙ sym (length-put new_entry (enter_all qs t b es) e new_entry)) two;
    })

pub parts_fit_in_turn : PartsFitInTurn
parts_fit_in_turn sh R r st p ps qs h e o i j =
    let x = step_known sh R r st h e in
    let f : EachFits R st.parts = subst (BlocksFit R) e (records_fit_blocks sh R r h) in
    let pf = one_has (PartFits R) p st.parts o (each_fits R st.parts f) in
    let g = one_has (λ (q : RowPart). HasSlotForm q.new) p st.parts o (effect_formed sh R r (Adds st) h e).0 in
    record { slot = can_put sh R st p ps qs x pf g o i j; entry = λ t n by en. can_enter sh R st p ps qs t n x pf o i j by en }
