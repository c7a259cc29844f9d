-- A Begin leaves what was found before it for the transaction that begins.
use Rattle.std.proofs.Common.{◌≡◌, ℕ, zero, suc, ◌+◌, ◌-◌, ◌*◌, ◌<◌, max, Bool, true, false, cond, not, ◌&&◌, eqb, ltb, nat_lt, nat_le, if◌then◌else◌, List, [], ◌∷◌, length, get_or, slice_index_or, find, is_none, option_map, MatchOption, Option, Some, None, refl, sym, ◌∙◌, ap, ap₂, subst, arith, inl, inr, eq-eqb, ne_eqb, eqb-true, le-ltb}
use Rattle.seg_words.proofs.Lemmas.{cond-true, cond-false, or_cases, or_left, or_right, and_left}
use Rattle.seg_words.specs.Types.{Shape, Slot, Writer, By, At, Block, Rowid, UndoAddr, new_slot, writer_has_ended, row_size, slot_size, is_spare, names, other_entry, entry_for, entry_size, used_of, fits_beside, BLOCK_ROOM, LIST_ENTRY_SIZE, LEAST_LIST_ENTRIES, OWN_BLOCKS, UNDO_PART_SIZE}
use Rattle.redo_model.specs.Records.{Record, Begin, Reuse, BeginRecord, ReuseRecord, RowPart}
use Rattle.redo_model.specs.Model.{Step, part_addr, txn_count, is_active, ended_in, entry_of, last_undo, image_with, place_of_undo, number_or_zero, is_by, standing, newest_of, undo_of_step, newest_on, image, slots_of, block_of, changed, table_at, IsTable, IsRowBlock, pctfree_of, current_undo, undo_used, has_holder, row_count, plain_row, ring_after, next_undo, IsFreeFor, AreAllowed}
use Rattle.redo_model.proofs.Bridge.{image_is}
use Rattle.redo_laws.proofs.lists.Every.{Every}
use Rattle.redo_laws.proofs.numbers.TxnTable.{txn_table}
use Rattle.redo_laws.proofs.steps.Facts.{BegunBy}
use Rattle.redo_laws.proofs.spread.Spread.{good}
use Rattle.redo_laws.proofs.spread.SpreadLaw.{view_of_no_transaction}
use Rattle.redo_laws.proofs.spread.Whole.{whole}
use Rattle.version_laws.proofs.Begun.{Begun, begun, other_by, sums_same, sizes, places_same, none_place, takes_same, holders_stay, slot_to_use_stays}
use Rattle.version_laws.proofs.SlotLaw.{begun_from_one}
use Rattle.change_laws.specs.Drafts.{Inserts, Migrates, Change, Fill, part_of, parts_of, new_part, new_parts, new_body, fills_size, change_size, body_at, as_record, free_place, update_of, migrate_fills, Stand, Whole, Apart, holder_of}
use Rattle.change_laws.specs.Spots.{Spot, Here, holder_pair, holder_pairs, undo_end, spot_past, spot_by, spot_for}
use Rattle.change_laws.specs.Ready.{first_lacking, blocks_at, InPlace, ToHead, ToOther, fits_at, path_of, updated_blocks, StandsAt, MayWrite}
use Rattle.change_laws.specs.Begun.{BlockBegun, BeginsLeave, BeginsKeepMays, ReusesLeave, BegunChangesAreLawful}
use Rattle.change_laws.specs.Allowed.{LawfulAt}
use Rattle.change_laws.proofs.SpotLaw.{reuse_need, changes_are_lawful}

-- a block, by two ways to tell who has ended that agree on its writers and entries

at_every : {A : Type 0} (P : A → Type 0) (d : A) (xs : List A) (k : ℕ) → P d → Every P xs → P (slice_index_or xs k d)
at_every P d [] k h e = h
at_every P d (x ∷ xs) zero h e = e.0
at_every P d (x ∷ xs) (suc k) h e = at_every P d xs k h e.1

get_every : {A : Type 0} (P : A → Type 0) (d : A) (xs : List A) (k : ℕ) → P d → Every P xs → P (get_or xs k d)
get_every P d [] k h e = h
get_every P d (x ∷ xs) zero h e = e.0
get_every P d (x ∷ xs) (suc k) h e = get_every P d xs k h e.1

abbrev Agrees : (ℕ → Bool) → (ℕ → Bool) → Slot → Type 0
Agrees f g s = writer_has_ended g s.writer ≡ writer_has_ended f s.writer

sized : (f g : ℕ → Bool) (s : Slot) → Agrees f g s → row_size g s ≡ row_size f s
sized f g s e = ap (λ (v : Bool). if v then length s.bytes else s.room) e

used_same : (f g : ℕ → Bool) (t : ℕ) (x : Block) → Begun f g t x → used_of g x ≡ used_of f x
used_same f g t x h = ap (λ n. n + LIST_ENTRY_SIZE * (length x.entries - LEAST_LIST_ENTRIES)) (sums_same (slot_size g) (slot_size f) x.slots (sizes f g x.slots h.writers))

entry_same : (f g : ℕ → Bool) (t : ℕ) (x : Block) → Begun f g t x → entry_for g x t ≡ other_entry f x
entry_same f g t x h =
    cond-false _ _ _ (ap (λ n. nat_lt n (length x.entries)) (none_place (names t) x.entries h.strange) ∙ le-ltb (length x.entries) (length x.entries) (omega arith))
    ∙ ap₂ (λ (m n : ℕ). other_by m n x) (used_same f g t x h) (places_same (is_spare g) (is_spare f) x.entries h.spares)

fits_by : (f g : ℕ → Bool) (t : ℕ) (x : Block) (k len : ℕ) (o : Option ℕ) → Begun f g t x → fits_beside g x k len (option_map (entry_size x) o) ≡ fits_beside f x k len (option_map (entry_size x) o)
fits_by f g t x k len None h = refl
fits_by f g t x k len (Some i) h =
    ap₂ (λ (m n : ℕ). nat_le ((len - m) + entry_size x i) (BLOCK_ROOM - n)) (sized f g (slice_index_or x.slots k new_slot) (at_every (Agrees f g) new_slot x.slots k refl h.writers)) (used_same f g t x h)

-- steps and views

not_by : (w : Writer) (m t : ℕ) → BegunBy m w → m < t → is_by w t ≡ false
not_by (By u) m t b l = ne_eqb u t (λ e. absurd (omega (arith, b, l, e)))
not_by (At c) m t b l = refl

changed_new : (ss : List Step) (o t n m : ℕ) (d : Option (List ℕ)) → m < t → Every (λ (s : Step). BegunBy m s.by) ss → changed ss o t n d ≡ d
changed_new [] o t n m d l h = refl
changed_new (s ∷ ss) o t n m d l h = cond-false _ _ _ (and_left (is_by s.by t) (eqb s.obj o && eqb s.row n) (not_by s.by m t h.0 l)) ∙ changed_new ss o t n m d l h.1

newest_new : (ss : List Step) (t m : ℕ) → m < t → Every (λ (s : Step). BegunBy m s.by) ss → newest_of ss t ≡ None
newest_new [] t m l h = refl
newest_new (s ∷ ss) t m l h = cond-false _ _ _ (not_by s.by m t h.0 l) ∙ newest_new ss t m l h.1

all_begun : (sh : Shape) (R : List Record) → AreAllowed sh R → Every (λ (s : Step). BegunBy (txn_count R) s.by) (standing R)
all_begun sh R h = (good sh R (whole sh R h).fit).held.begun

-- where undo goes

find_same : (p q : ℕ → Bool) (xs : List ℕ) → ((x : ℕ) → p x ≡ q x) → find p xs ≡ find q xs
find_same p q [] h = refl
find_same p q (x ∷ xs) h = ap₂ (λ (v : Bool) (o : Option ℕ). cond v (Some x) o) (h x) (find_same p q xs h)

free_same : (sh : Shape) (R : List Record) (g : BeginRecord) → AreAllowed sh R → g.txn ≡ suc (txn_count R) → (x : ℕ) → not (has_holder (Begin g ∷ R) x) ≡ not (has_holder R x)
free_same sh R g h e x = ap (λ (o : Option ℕ). not (elim o as (λ y. Bool) [ None ↦ false | Some t ↦ true ])) (holders_stay sh R g x h e)

next_same : (sh : Shape) (R : List Record) (g : BeginRecord) → AreAllowed sh R → g.txn ≡ suc (txn_count R) → next_undo sh (Begin g ∷ R) ≡ next_undo sh R
next_same sh R g h e = go (current_undo R)
  where
    go : (o : Option ℕ) → ◌≡◌ {A = Option ℕ} (elim o as (λ y. Option ℕ) [ None ↦ Some OWN_BLOCKS | Some u ↦ find (λ b. not (has_holder (Begin g ∷ R) b)) (ring_after sh u) ]) (elim o as (λ y. Option ℕ) [ None ↦ Some OWN_BLOCKS | Some u ↦ find (λ b. not (has_holder R b)) (ring_after sh u) ])
    go None = refl
    go (Some u) = find_same _ _ (ring_after sh u) (free_same sh R g h e)

pairs_same : (sh : Shape) (R : List Record) (g : BeginRecord) (bs : List ℕ) → AreAllowed sh R → g.txn ≡ suc (txn_count R) → holder_pairs (Begin g ∷ R) bs ≡ holder_pairs R bs
pairs_same sh R g [] h e = refl
pairs_same sh R g (b ∷ bs) h e = ap₂ (holder_pair b) (holders_stay sh R g b h e) (pairs_same sh R g bs h e)

past_same : (R : List Record) (g : BeginRecord) (o : Option ℕ) (hs : List (ℕ × ℕ)) → spot_past (Begin g ∷ R) o hs ≡ spot_past R o hs
past_same R g None hs = refl
past_same R g (Some b) hs = refl

past_both : (sh : Shape) (R : List Record) (g : BeginRecord) (hs is : List (ℕ × ℕ)) → AreAllowed sh R → g.txn ≡ suc (txn_count R) → hs ≡ is → spot_past (Begin g ∷ R) (next_undo sh (Begin g ∷ R)) hs ≡ spot_past R (next_undo sh R) is
past_both sh R g hs is h e x = ap₂ (spot_past (Begin g ∷ R)) (next_same sh R g h e) x ∙ past_same R g (next_undo sh R) is

by_same : (sh : Shape) (R : List Record) (g : BeginRecord) (need : ℕ) (o : Option ℕ) → AreAllowed sh R → g.txn ≡ suc (txn_count R) → spot_by sh (Begin g ∷ R) need o ≡ spot_by sh R need o
by_same sh R g need None h e = past_both sh R g [] [] h e refl
by_same sh R g need (Some u) h e = ap (λ (s : Spot). cond (ltb BLOCK_ROOM (undo_used R u + need)) s (Here (undo_end R u))) (past_both sh R g (holder_pairs (Begin g ∷ R) (ring_after sh u)) (holder_pairs R (ring_after sh u)) h e (pairs_same sh R g (ring_after sh u) h e))

-- blocks

block_begun : (sh : Shape) (R : List Record) (g : BeginRecord) (b : ℕ) → AreAllowed sh R → g.txn ≡ suc (txn_count R) → BlockBegun R g b
block_begun sh R g b h e =
    let f = ended_in R in
    let f' = ended_in (Begin g ∷ R) in
    let x = block_of R b in
    let w : Begun f f' g.txn x = begun sh R g b h e in
    let n : entry_for f' x g.txn ≡ other_entry f x = entry_same f f' g.txn x w in
    record {
      entry = n;
      entry_before = cond-false _ _ _ (ap (λ m. nat_lt m (length x.entries)) (none_place (names g.txn) x.entries w.strange) ∙ le-ltb (length x.entries) (length x.entries) (omega arith));
      slot = slot_to_use_stays sh R g b h e;
      fits = λ k len. ap (λ (o : Option ℕ). fits_beside f' x k len (option_map (entry_size x) o)) n ∙ fits_by f f' g.txn x k len (other_entry f x) w;
      takes = λ pct len. takes_same f f' g.txn x pct len w;
      room = λ k len. ap (λ (m : ℕ). max m len) (sized f f' (image R b k) (subst (Agrees f f') (image_is R b k) (get_every (Agrees f f') new_slot (slots_of R b) k refl w.writers)));
      holder = holders_stay sh R g b h e;
    }

fit_same : (sh : Shape) (R : List Record) (g : BeginRecord) (p : Rowid) (len : ℕ) → AreAllowed sh R → g.txn ≡ suc (txn_count R) → fits_at (Begin g ∷ R) (Some g.txn) p len ≡ fits_at R None p len
fit_same sh R g p len h e = (block_begun sh R g p.dba h e).fits p.slot len

path_same : (sh : Shape) (R : List Record) (g : BeginRecord) (x : Stand) (len : ℕ) → AreAllowed sh R → g.txn ≡ suc (txn_count R) → path_of (Begin g ∷ R) (Some g.txn) x len ≡ path_of R None x len
path_same sh R g (Whole p) len h e = ap (λ (v : Bool). cond v InPlace ToOther) (fit_same sh R g p len h e)
path_same sh R g (Apart head body) len h e = ap₂ (λ (u v : Bool). cond u InPlace (cond v ToHead ToOther)) (fit_same sh R g body len h e) (fit_same sh R g head len h e)

updated_same : (sh : Shape) (R : List Record) (g : BeginRecord) (x : Stand) (len : ℕ) → AreAllowed sh R → g.txn ≡ suc (txn_count R) → updated_blocks (Begin g ∷ R) (Some g.txn) x len ≡ updated_blocks R None x len
updated_same sh R g x len h e = ap (λ (v : Bool). cond v ((holder_of x).dba ∷ []) (blocks_at x)) (fit_same sh R g (holder_of x) len h e)

lacking_same : (sh : Shape) (R : List Record) (g : BeginRecord) (bs : List ℕ) → AreAllowed sh R → g.txn ≡ suc (txn_count R) → first_lacking (Begin g ∷ R) (Some g.txn) bs ≡ first_lacking R None bs
lacking_same sh R g bs h e = find_same _ _ bs (λ b. ap (λ (o : Option ℕ). is_none o) (block_begun sh R g b h e).entry)

-- changes

size_same : (R : List Record) (g : BeginRecord) (fs : List Fill) → fills_size (Begin g ∷ R) fs ≡ fills_size R fs
size_same R g [] = refl
size_same R g (f ∷ fs) = ap (λ n. (UNDO_PART_SIZE + length (image R f.at.dba f.at.slot).bytes) + n) (size_same R g fs)

place_same : (sh : Shape) (R : List Record) (g : BeginRecord) (b : ℕ) → AreAllowed sh R → g.txn ≡ suc (txn_count R) → free_place (Begin g ∷ R) b ≡ free_place R b
place_same sh R g b h e = ap (λ (k : ℕ). record { dba = b; slot = k }) (slot_to_use_stays sh R g b h e)

update_same : (R : List Record) (g : BeginRecord) (o n : ℕ) (x : Stand) (bytes : List ℕ) → update_of (Begin g ∷ R) o n x bytes ≡ update_of R o n x bytes
update_same R g o n x bytes = refl

part_begun : (sh : Shape) (R : List Record) (g : BeginRecord) (a : UndoAddr) (i : ℕ) (f : Fill) → AreAllowed sh R → g.txn ≡ suc (txn_count R) → part_of (Begin g ∷ R) g.txn a i f ≡ new_part R g.txn a i f
part_begun sh R g a i f h e =
    let x = block_begun sh R g f.at.dba h e in
    ap₂ (λ (o : Option ℕ) (room : ℕ). record {
      dba = f.at.dba;
      slot = f.at.slot;
      entry = Some (number_or_zero o);
      new = image_with f.content (By g.txn) (part_addr a i) room;
      old = image R f.at.dba f.at.slot;
    }) x.entry (x.room f.at.slot (length f.content.bytes))

parts_begun : (sh : Shape) (R : List Record) (g : BeginRecord) (a : UndoAddr) (i : ℕ) (fs : List Fill) → AreAllowed sh R → g.txn ≡ suc (txn_count R) → parts_of (Begin g ∷ R) g.txn a i fs ≡ new_parts R g.txn a i fs
parts_begun sh R g a i [] h e = refl
parts_begun sh R g a i (f ∷ fs) h e = ap₂ (λ (p : RowPart) (ps : List RowPart). p ∷ ps) (part_begun sh R g a i f h e) (parts_begun sh R g a (suc i) fs h e)

body_begun : (sh : Shape) (R : List Record) (g : BeginRecord) (a : UndoAddr) (c : Change) → AreAllowed sh R → g.txn ≡ suc (txn_count R) → entry_of (Begin g ∷ R) g.txn ≡ Some g.entry → last_undo (Begin g ∷ R) g.txn ≡ None → body_at (Begin g ∷ R) g.txn a c ≡ new_body R g a c
body_begun sh R g a c h e entered none =
    ap₂ (λ (i : Option ℕ) (o : Option UndoAddr). record { txn = g.txn; entry = number_or_zero i; obj = c.obj; row = c.row; undo = a; previous = place_of_undo o; parts = parts_of (Begin g ∷ R) g.txn a 0 c.fills }) entered none
    ∙ ap (λ (ps : List RowPart). record { txn = g.txn; entry = g.entry; obj = c.obj; row = c.row; undo = a; previous = None; parts = ps }) (parts_begun sh R g a 0 c.fills h e)

entered_new : (R : List Record) (g : BeginRecord) → entry_of (Begin g ∷ R) g.txn ≡ Some g.entry
entered_new R g = cond-true _ _ _ (eq-eqb g.txn g.txn refl)

none_new : (sh : Shape) (R : List Record) (g : BeginRecord) → AreAllowed sh R → g.txn ≡ suc (txn_count R) → last_undo (Begin g ∷ R) g.txn ≡ None
none_new sh R g h e = ap undo_of_step (newest_new (standing R) g.txn (txn_count R) (omega (arith, e)) (all_begun sh R h))

not_new : (sh : Shape) (R : List Record) (u t : ℕ) → AreAllowed sh R → t ≡ suc (txn_count R) → is_active R u ≡ true → u ≡ t → ⊥
not_new sh R u t h e on z = let l = (txn_table sh R h).most u ((txn_table sh R h).begun u on) in omega (arith, l, e, z)

pub begins_leave : BeginsLeave
begins_leave sh R g h e = record {
  active = or_left (eqb g.txn g.txn) _ (eq-eqb g.txn g.txn refl);
  entry = entered_new R g;
  previous = none_new sh R g h e;
  blocks = λ b. block_begun sh R g b h e;
  spot = λ need. by_same sh R g need (current_undo R) h e;
  view = λ o s n. changed_new (standing R) o g.txn n (txn_count R) (table_at R o s n) (omega (arith, e)) (all_begun sh R h) ∙ sym (view_of_no_transaction sh R o s n h);
  path = λ x len. path_same sh R g x len h e;
  updated = λ x len. updated_same sh R g x len h e;
  lacking = λ bs. lacking_same sh R g bs h e;
  busy = λ n u x. record { step = x.step; newest = x.newest; by_is = x.by_is; active = or_right (eqb g.txn u) (is_active R u) x.active; other = λ z. not_new sh R u g.txn h e x.active z };
  size = λ c. size_same R g c.fills;
  drafted = λ a c. ap (as_record c.kind) (body_begun sh R g a c h e (entered_new R g) (none_new sh R g h e));
  insert = λ o b bytes. ap (λ (p : Rowid). record { kind = Inserts; obj = o; row = suc (row_count R); fills = record { at = p; content = plain_row (suc (row_count R)) bytes } ∷ [] }) (place_same sh R g b h e);
  update = λ o n x bytes. update_same R g o n x bytes;
  migrate = λ o n x b bytes. ap (λ (p : Rowid). record { kind = Migrates; obj = o; row = n; fills = migrate_fills n x p bytes }) (place_same sh R g b h e);
}

-- what may be done

free_begun : (sh : Shape) (R : List Record) (g : BeginRecord) (w : Writer) → AreAllowed sh R → IsFreeFor R 0 w → IsFreeFor (Begin g ∷ R) g.txn w
free_begun sh R g (At c) h f = tt
free_begun sh R g (By u) h f = λ on. elim (or_cases (eqb g.txn u) (is_active R u) on) [
  | inl y ↦ sym (eqb-true g.txn u y)
  | inr z ↦ (let l = begun_from_one sh R u h ((txn_table sh R h).begun u z) in let n = f z in absurd (omega (arith, l, n)))
]

newest_begun : (sh : Shape) (R : List Record) (g : BeginRecord) (o : Option Step) → AreAllowed sh R → MatchOption o (Unit {0}) (λ st. IsFreeFor R 0 st.by) → MatchOption o (Unit {0}) (λ st. IsFreeFor (Begin g ∷ R) g.txn st.by)
newest_begun sh R g None h f = tt
newest_begun sh R g (Some st) h f = free_begun sh R g st.by h f

table_begun : (R : List Record) (g : BeginRecord) (o : ℕ) → IsTable R o → IsTable (Begin g ∷ R) o
table_begun R g o t = record { least = t.least; most = t.most }

rows_begun : (sh : Shape) (R : List Record) (g : BeginRecord) (o b : ℕ) → IsRowBlock sh R o b → IsRowBlock sh (Begin g ∷ R) o b
rows_begun sh R g o b t = record { here = t.here; formatted = t.formatted }

stands_begun : (R : List Record) (g : BeginRecord) (n : ℕ) (x : Stand) → StandsAt R n x → StandsAt (Begin g ∷ R) n x
stands_begun R g n (Whole p) h = record { kind = h.kind; row = h.row }
stands_begun R g n (Apart head body) h = record { head_kind = h.head_kind; head_row = h.head_row; head_link = h.head_link; body_kind = h.body_kind; body_row = h.body_row; body_link = h.body_link }

write_begun : (sh : Shape) (R : List Record) (g : BeginRecord) (o n : ℕ) (x : Stand) → AreAllowed sh R → g.txn ≡ suc (txn_count R) → MayWrite R None o n x → MayWrite (Begin g ∷ R) (Some g.txn) o n x
write_begun sh R g o n x h e m = record {
  active = or_left (eqb g.txn g.txn) _ (eq-eqb g.txn g.txn refl);
  table = table_begun R g o m.table;
  was = m.was;
  there = (begins_leave sh R g h e).view o _ n ∙ m.there;
  free = newest_begun sh R g (newest_on (standing R) n) h m.free;
  stands = stands_begun R g n x m.stands;
}

pub begins_keep_mays : BeginsKeepMays
begins_keep_mays sh R g h e =
    let l = begins_leave sh R g h e in
    record {
      insert = λ o b bytes m. record {
        active = l.active;
        table = table_begun R g o m.table;
        here = rows_begun sh R g o b m.here;
        takes = (l.blocks b).takes (pctfree_of R o) (length bytes) ∙ m.takes;
        size = m.size;
      };
      update = λ o n x bytes m. record { write = write_begun sh R g o n x h e m.write; size = m.size; goes = l.path x (length bytes) ∙ m.goes };
      migrate = λ o n x b bytes m. record {
        write = write_begun sh R g o n x h e m.write;
        size = m.size;
        goes = l.path x (length bytes) ∙ m.goes;
        entries = l.lacking (blocks_at x) ∙ m.entries;
        here = rows_begun sh R g o b m.here;
        takes = (l.blocks b).takes (pctfree_of R o) (length bytes) ∙ m.takes;
        other = m.other;
      };
      return' = λ o n head body bytes m. record {
        write = write_begun sh R g o n (Apart head body) h e m.write;
        size = m.size;
        goes = l.path (Apart head body) (length bytes) ∙ m.goes;
        entries = l.lacking (blocks_at (Apart head body)) ∙ m.entries;
      };
      delete = λ o n x m. record { write = write_begun sh R g o n x h e m.write; entries = l.lacking (blocks_at x) ∙ m.entries };
    }

-- a Reuse

parts_same : (R : List Record) (q : ReuseRecord) (t : ℕ) (a : UndoAddr) (i : ℕ) (fs : List Fill) → parts_of (Reuse q ∷ R) t a i fs ≡ parts_of R t a i fs
parts_same R q t a i [] = refl
parts_same R q t a i (f ∷ fs) = ap (λ (ps : List RowPart). part_of R t a i f ∷ ps) (parts_same R q t a (suc i) fs)

pub reuses_leave : ReusesLeave
reuses_leave R q = record {
  drafted = λ t a c. ap (λ (ps : List RowPart). as_record c.kind (record (body_at R t a c) { parts = ps })) (parts_same R q t a 0 c.fills);
  size = λ c. reuse_need R q c.fills;
}

-- a change that begins its transaction

pub begun_changes_are_lawful : BegunChangesAreLawful
begun_changes_are_lawful sh R g c l a r =
    let x = begins_leave sh R g l.allowed a.kind.number in
    let where' : spot_for sh (Begin g ∷ R) (change_size (Begin g ∷ R) c) ≡ spot_for sh R (change_size R c) = x.spot (change_size (Begin g ∷ R) c) ∙ ap (spot_for sh R) (x.size c) in
    subst (LawfulAt sh (Begin g ∷ R) g.txn c) where' (changes_are_lawful sh (Begin g ∷ R) g.txn c (record { allowed = (l.allowed, a); whole = refl }) r)
