-- The parts of a Back fit in turn.
use Rattle.std.proofs.Common.{◌≡◌, ℕ, zero, suc, ◌+◌, ◌-◌, ◌*◌, ◌<◌, ◌≤◌, max, true, false, cond, ◌||◌, eqb, List, [], ◌∷◌, length, Option, Some, None, refl, sym, ◌∙◌, ap, ap₂, subst, arith, inl, inr, le_refl, true≢false, eqb-true, eq-eqb}
use Rattle.seg_words.proofs.Lemmas.{cond-true, cases_Bool, and_parts}
use Rattle.seg_words.specs.Types.{Shape, Slot, number_of_writer, as_told, row_size, writer_has_ended, BLOCK_ROOM, SLOT_SIZE, LIST_ENTRY_SIZE, LEAST_LIST_ENTRIES}
use Rattle.page_bytes.specs.Types.{HasSlotForm}
use Rattle.row_block.specs.Types.{laid_out}
use Rattle.redo_model.specs.Records.{Record, Back, RowPart, BackPart, BackRecord}
use Rattle.redo_model.specs.Model.{Step, Effect, effect_of, Placed, restored, txn_count, is_active, ended_in, standing_steps, standing, is_place, placed_in, image, slots_reached, slot_count, entry_count, makers, without, place_all, slots_of, entries_of, block_of, taken_back, AreAllowed}
use Rattle.redo_model.specs.Effects.{Still, Formats, Adds, TakesBack, Cleans}
use Rattle.redo_model.proofs.Bridge.{count_is, entry_count_is}
use Rattle.redo_laws.specs.Fit.{BackPartFits, EachBackFits}
use Rattle.redo_laws.proofs.lists.Every.{Every, every-map, every-filter}
use Rattle.redo_laws.proofs.steps.OnTop.{is_named, OnTop}
use Rattle.redo_laws.proofs.steps.Facts.{BackFits}
use Rattle.redo_laws.proofs.room.FitLaw.{records_fit_blocks}
use Rattle.redo_laws.proofs.steps.ImageFacts.{each_taken, IsKept, Puts, AllHave, effect_puts, all_have}
use Rattle.redo_laws.proofs.steps.Held.{own_newest, newest_has, newest_is_by}
use Rattle.redo_laws.proofs.links.Links.{Linked}
use Rattle.redo_laws.proofs.spread.Spread.{good}
use Rattle.redo_laws.proofs.room.RoomLaw.{size_at, size_ended, size_active, back_size, reach_bound, each_named, PutSome, small}
use Rattle.redo_laws.proofs.lists.Sums.{sum_below, sum_less, sum_more}
use Rattle.redo_laws.proofs.spread.Whole.{record_fits, whole}
use Rattle.page_laws.specs.Parts.{partly_back, BackPartsFitInTurn}
use Rattle.redo_laws.proofs.lists.Among.{one_has, some_have}
use Rattle.page_laws.proofs.FormLaw.{effect_formed}
use Rattle.page_laws.proofs.PartsLaw.{own_length, step_known, put_room, slots_laid}

-- an image has room for its row

abbrev pub Within : Slot → Type 0
Within i = length i.bytes ≤ i.room

abbrev RoomFact : ℕ → Slot → Type 0
RoomFact b i = Within i

told : (s : Slot) (o : Option ℕ) → Within s → Within (as_told s o)
told s None i = i
told s (Some zero) i = le_refl (length s.bytes)
told s (Some (suc c)) i = le_refl (length s.bytes)

room_kept : IsKept RoomFact
room_kept = record { fresh = λ b. omega arith; cleaned = λ b cs i j. told i (number_of_writer cs i.writer) j }

room_put : (sh : Shape) → Puts sh RoomFact
room_put sh R r st h f w = every-map (PutSome R st) (λ (p : RowPart). Within p.new) st.parts (λ p y. put_room R st y.0 p y.1) (step_known sh R r st h f).puts

all_within : (sh : Shape) (R : List Record) → AreAllowed sh R → AllHave RoomFact R
all_within sh R h = all_have sh RoomFact room_kept (room_put sh) R h

-- two parts of a record that name one slot state one old image

abbrev Agreed : Step → Type 0
Agreed st = (im : ℕ → ℕ → Slot) × Every (λ (p : RowPart). p.old ≡ im p.dba p.slot) st.parts

agreed_effect : (sh : Shape) (R : List Record) (r : Record) (e : Effect) → AreAllowed sh (r ∷ R) → effect_of r ≡ e → Every Agreed (standing R) → Every Agreed (standing_steps e (standing R))
agreed_effect sh R r Still h f k = k
agreed_effect sh R r (Formats d) h f k = k
agreed_effect sh R r (Adds st) h f k = ((image R, (step_known sh R r st h f).old), k)
agreed_effect sh R r (TakesBack t) h f k = every-filter _ _ (standing R) k
agreed_effect sh R r (Cleans d cs) h f k = k

agreed : (sh : Shape) (R : List Record) → AreAllowed sh R → Every Agreed (standing R)
agreed sh [] h = tt
agreed sh (r ∷ R) h = agreed_effect sh R r (effect_of r) h refl (agreed sh R h.0)

restored_is : (im : ℕ → ℕ → Slot) (ps : List RowPart) (b k : ℕ) (i : Slot) → Every (λ (p : RowPart). p.old ≡ im p.dba p.slot) ps → is_named ps b k ≡ true → placed_in (restored (taken_back ps)) b k i ≡ im b k
restored_is im [] b k i h n = absurd (true≢false (sym n))
restored_is im (p ∷ ps) b k i h n =
    (elim (is_place p.dba p.slot b k) as (λ v. is_place p.dba p.slot b k ≡ v → (v || is_named ps b k) ≡ true → cond v p.old (placed_in (restored (taken_back ps)) b k i) ≡ im b k) [
      | true ↦ λ e x. let q = and_parts (eqb p.dba b) (eqb p.slot k) e in h.0 ∙ ap₂ im (eqb-true p.dba b q.0) (eqb-true p.slot k q.1)
      | false ↦ λ e x. restored_is im ps b k i h.1 x
    ]) refl n

-- what a part of a Back puts counts no more than what is there
record BackSmall (R : List Record) (q : BackPart) : Type 0 where
  fits : BackPartFits R q
  within : Within q.new
  less : row_size (ended_in R) q.new ≤ row_size (ended_in R) (image R q.dba q.slot)

size_back : (sh : Shape) (R : List Record) (t : BackRecord) (b k : ℕ) → AreAllowed sh R → (f : BackFits R t) → is_named f.step.parts b k ≡ true → row_size (ended_in R) (placed_in (restored (taken_back f.step.parts)) b k (image R b k)) ≤ row_size (ended_in R) (image R b k)
size_back sh R t b k h f n =
    let w = whole sh R h in
    let held = (good sh R w.fit).held in
    let st = f.step in
    let o = own_newest (standing R) t.txn st f.newest in
    let top : OnTop (st ∷ o.0) (makers R) = subst (λ us. OnTop us (makers R)) o.1 (held.top t.txn f.active) in
    back_size (is_active R) (txn_count R) (standing R) st t.txn 0 st.parts b k (image R b k) (without st.undo (makers R b k)) (newest_is_by (standing R) t.txn st f.newest) f.active
    (subst (Linked (is_active R) (txn_count R) (standing R) (image R b k)) (top.0 b k) (w.links b k))

each_back : (R : List Record) (qs : List BackPart) → EachBackFits R qs → Every (BackPartFits R) qs
each_back R [] h = tt
each_back R (q ∷ qs) h = (h.0, each_back R qs h.1)

both_back : (R : List Record) (qs : List BackPart) → Every (BackPartFits R) qs → Every (λ (q : BackPart). Within q.new) qs → Every (λ (q : BackPart). row_size (ended_in R) q.new ≤ row_size (ended_in R) (image R q.dba q.slot)) qs → Every (BackSmall R) qs
both_back R [] f w l = tt
both_back R (q ∷ qs) f w l = (record { fits = f.0; within = w.0; less = l.0 }, both_back R qs f.1 w.1 l.1)

less_back : (sh : Shape) (R : List Record) (t : BackRecord) → AreAllowed sh R → (f : BackFits R t) → Agreed f.step → Every (λ (q : BackPart). row_size (ended_in R) q.new ≤ row_size (ended_in R) (image R q.dba q.slot)) (taken_back f.step.parts)
less_back sh R t h f a =
    each_taken (λ d k i. row_size (ended_in R) i ≤ row_size (ended_in R) (image R d k)) f.step.parts (go f.step.parts a.1 (each_named f.step.parts))
  where
    one : (p : RowPart) → p.old ≡ a.0 p.dba p.slot → is_named f.step.parts p.dba p.slot ≡ true → row_size (ended_in R) p.old ≤ row_size (ended_in R) (image R p.dba p.slot)
    one p e n =
        let s = size_back sh R t p.dba p.slot h f n in
        let same : placed_in (restored (taken_back f.step.parts)) p.dba p.slot (image R p.dba p.slot) ≡ p.old = restored_is a.0 f.step.parts p.dba p.slot (image R p.dba p.slot) a.1 n ∙ sym e in
        subst (λ (i : Slot). row_size (ended_in R) i ≤ row_size (ended_in R) (image R p.dba p.slot)) same s

    go : (ps : List RowPart) → Every (λ (p : RowPart). p.old ≡ a.0 p.dba p.slot) ps → Every (λ (p : RowPart). is_named f.step.parts p.dba p.slot ≡ true) ps → Every (λ (p : RowPart). row_size (ended_in R) p.old ≤ row_size (ended_in R) (image R p.dba p.slot)) ps
    go [] e n = tt
    go (p ∷ ps) e n = (one p e.0 n.0, go ps e.1 n.1)

pub back_fit : (sh : Shape) (R : List Record) (k : BackRecord) → AreAllowed sh (Back k ∷ R) → BackFits R k
back_fit sh R k h = (record_fits sh R (Back k) h).effect

back_small : (sh : Shape) (R : List Record) (k : BackRecord) → AreAllowed sh (Back k ∷ R) → Every (BackSmall R) k.parts
back_small sh R k h =
    let f = back_fit sh R k h in
    let a = newest_has Agreed (standing R) k.txn f.step f.newest (agreed sh R h.0) in
    both_back R k.parts (each_back R k.parts (records_fit_blocks sh R (Back k) h)) (effect_puts sh RoomFact R (Back k) (TakesBack k) (room_put sh) h refl (all_within sh R h.0))
    (subst (λ (qs : List BackPart). Every (λ (q : BackPart). row_size (ended_in R) q.new ≤ row_size (ended_in R) (image R q.dba q.slot)) qs) (sym f.restores) (less_back sh R k h.0 f a))

-- the block after some of them

abbrev with_parts : BackRecord → List BackPart → BackRecord
with_parts k ps = record { txn = k.txn; entry = k.entry; obj = k.obj; row = k.row; undo = k.undo; previous = k.previous; parts = ps; last = k.last }

row_back : (R : List Record) (qs : List BackPart) (b k : ℕ) → length (image R b k).bytes ≤ row_size (ended_in R) (image R b k) → Every (BackSmall R) qs → length (placed_in (restored qs) b k (image R b k)).bytes ≤ row_size (ended_in R) (image R b k)
row_back R [] b k o h = o
row_back R (q ∷ qs) b k o h =
    (elim (is_place q.dba q.slot b k) as (λ v. is_place q.dba q.slot b k ≡ v → length (cond v q.new (placed_in (restored qs) b k (image R b k))).bytes ≤ row_size (ended_in R) (image R b k)) [
      | true ↦ λ e.
          let p = and_parts (eqb q.dba b) (eqb q.slot k) e in
          let l = h.0.less in
          let s : row_size (ended_in R) (image R q.dba q.slot) ≡ row_size (ended_in R) (image R b k) = ap (row_size (ended_in R)) (ap₂ (image R) (eqb-true q.dba b p.0) (eqb-true q.slot k p.1)) in
          let o = row_within q.new h.0.within in
          omega (arith, l, s, o)
      | false ↦ λ e. row_back R qs b k o h.1
    ]) refl
  where
    row_within : (i : Slot) → Within i → length i.bytes ≤ row_size (ended_in R) i
    row_within i w = elim (cases_Bool (writer_has_ended (ended_in R) i.writer)) [
      | inl y ↦ (let a = size_ended (ended_in R) i y in omega (arith, a))
      | inr n ↦ (let a = size_active (ended_in R) i n in omega (arith, a, w))
    ]

each_placed : (P : ℕ → ℕ → Type 0) (qs : List BackPart) → Every (λ (q : BackPart). P q.dba q.slot) qs → Every (λ (p : Placed). P p.dba p.slot) (restored qs)
each_placed P [] h = tt
each_placed P (q ∷ qs) h = (h.0, each_placed P qs h.1)

back_reached : (R : List Record) (qs : List BackPart) (b : ℕ) → Every (BackSmall R) qs → slots_reached (restored qs) b (slot_count R b) ≤ slot_count R b
back_reached R qs b h =
    reach_bound (restored qs) b (slot_count R b) (slot_count R b)
    (each_placed (λ d k. d ≡ b → k < slot_count R b) qs (every-map (BackSmall R) _ qs (λ q x e. subst (λ y. q.slot < slot_count R y) e x.fits.there) h)) (le_refl (slot_count R b))

back_up : (qs : List BackPart) (b n : ℕ) → n ≤ slots_reached (restored qs) b n
back_up [] b n = le_refl n
back_up (p ∷ ps) b n =
    let l = back_up ps b n in
    elim (eqb p.dba b) as (λ v. n ≤ cond v (max (suc p.slot) (slots_reached (restored ps) b n)) (slots_reached (restored ps) b n)) [ true ↦ omega (arith, l) | false ↦ l ]

back_laid : (sh : Shape) (R : List Record) (k : BackRecord) (qs : List BackPart) (b : ℕ) → AreAllowed sh R → Every (BackSmall R) qs → laid_out (partly_back qs b (block_of R b)) ≤ BLOCK_ROOM
back_laid sh R k qs b h x =
    let n = slot_count R b in
    let f : ℕ → ℕ = λ j. SLOT_SIZE + length (placed_in (restored qs) b j (image R b j)).bytes in
    let is : laid_out (partly_back qs b (block_of R b)) ≡ sum_below (slots_reached (restored qs) b n) f + LIST_ENTRY_SIZE * (entry_count R b - LEAST_LIST_ENTRIES) =
    ap₂ (λ y z. y + LIST_ENTRY_SIZE * (z - LEAST_LIST_ENTRIES)) (slots_laid (Back (with_parts k qs) ∷ R) b) (entry_count_is R b) in
    let a = sum_more (slots_reached (restored qs) b n) n f (back_reached R qs b x) in
    let c = sum_less n f (size_at (ended_in R) (image R b)) (λ j l. let y = row_back R qs b j (own_length sh R b j h) x in omega (arith, y)) in
    let u = ((small sh R h).room b).used in
    omega (arith, is, a, c, u)

pub back_parts_fit_in_turn : BackPartsFitInTurn
back_parts_fit_in_turn sh R k p done h o i =
    let all = back_small sh R k h in
    let one = one_has (BackSmall R) p k.parts o all in
    let done_small = some_have (BackSmall R) k.parts done i all in
    let b = p.dba in
    let size = back_laid sh R k (p ∷ done) b h.0 (one, done_small) in
    record {
      at = (let c : length (place_all (restored done) b (slots_of R b)) ≡ slots_reached (restored done) b (slot_count R b) = count_is (Back (with_parts k done) ∷ R) b in let u = back_up done b (slot_count R b) in let t = one.fits.there in omega (arith, c, u, t));
      most = one.fits.few;
      bytes = one.within;
      form = one_has (λ (q : BackPart). HasSlotForm q.new) p k.parts o (effect_formed sh R (Back k) (TakesBack k) h refl);
      size = subst (λ (ss : List Slot). laid_out (record { slots = ss; entries = entries_of R b }) ≤ BLOCK_ROOM) (cond-true _ _ _ (eq-eqb b b refl)) size;
    }
