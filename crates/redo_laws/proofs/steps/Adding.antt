-- Prefixes, tables that are there, and what one more record does.
use Rattle.std.proofs.Common.{◌≡◌, ℕ, true, false, cond, eqb, ltb, List, [], ◌∷◌, length, Option, Some, None, refl, ◌∙◌, subst, eq-eqb}
use Rattle.seg_words.proofs.Lemmas.{or_parts, and_left, cond-false}
use Rattle.seg_words.specs.Types.{Shape, Slot, ListEntry, Writer, By, At, Block}
use Rattle.redo_model.specs.Records.{Record, Movement, Extend, FormatBlock, Class, Advance, Lower, Insert, Update, Migrate, Return, Delete, Move, RowPart}
use Rattle.redo_model.specs.Model.{prefix, Effect, effect_of, Placed, written, restored, placed_in, slots_reached, entered_in, entered_by, entries_reached, count_entered, changed_image, changed_slot_count, changed_entry, changed_entry_count, place_all, enter_all, enter_by, changed_slots, changed_entries, slots_of, entries_of, IsTable, MigrateAllowed, DeleteAllowed, MoveAllowed, IsKindAllowed, AreAllowed}
use Rattle.redo_model.specs.Effects.{Still, Formats, Adds, TakesBack, Cleans}
use Rattle.redo_model.specs.AllowedRows.{migrates_plain, migrates_again, deletes_plain, deletes_migrated}
use Rattle.redo_model.specs.AllowedMoves.{moves_plain, moves_to_body, moves_migrated}
use Rattle.redo_laws.specs.Tables.{PrefixesAreLawful}
use Rattle.redo_laws.specs.Added.{any_in, is_change, OthersAreLeft, MovesKeepTables, ImagesAfterOne}

allowed_before : (sh : Shape) (R : List Record) (n : ℕ) → AreAllowed sh R → AreAllowed sh (prefix R n)
allowed_before sh [] n h = tt
allowed_before sh (r ∷ R) n h =
    elim (ltb (length R) n) as (λ v. AreAllowed sh (cond v (r ∷ R) (prefix R n))) [ true ↦ h | false ↦ allowed_before sh R n h.0 ]

pub prefixes_are_lawful : PrefixesAreLawful
prefixes_are_lawful sh R n h w = record { allowed = allowed_before sh R n h.allowed; whole = w }

-- tables

same : (m n : ℕ) → ◌≡◌ {A = Option ℕ} (Some m) (Some n) → m ≡ n
same m n e = cc

none : (P : Type 0) (n : ℕ) → ◌≡◌ {A = Option ℕ} None (Some n) → P
none P n e = absurd cc

at_table : (R : List Record) (m o : ℕ) → IsTable R m → ◌≡◌ {A = Option ℕ} (Some m) (Some o) → IsTable R o
at_table R m o t e = subst (IsTable R) (same m o e) t

migrate_table : (sh : Shape) (R : List Record) (w : _) → MigrateAllowed sh R w → IsTable R w.obj
migrate_table sh R w (migrates_plain m) = m.change.change.table
migrate_table sh R w (migrates_again m) = m.change.change.table

delete_table : (sh : Shape) (R : List Record) (w : _) → DeleteAllowed sh R w → IsTable R w.obj
delete_table sh R w (deletes_plain m) = m.change.change.table
delete_table sh R w (deletes_migrated m) = m.change.change.table

move_table : (sh : Shape) (R : List Record) (m : _) → MoveAllowed sh R m → IsTable R m.obj
move_table sh R m (moves_plain a) = a.move.table
move_table sh R m (moves_to_body a) = a.move.table
move_table sh R m (moves_migrated a) = a.move.table

-- the table that a record names, a Back aside
abbrev pub table_named_by : Record → Option ℕ
table_named_by (Movement m) = Some m.obj
table_named_by (Extend e) = Some e.obj
table_named_by (FormatBlock f) = Some f.obj
table_named_by (Class k) = Some k.obj
table_named_by (Advance a) = Some a.obj
table_named_by (Lower l) = Some l.obj
table_named_by (Insert w) = Some w.obj
table_named_by (Update w) = Some w.obj
table_named_by (Migrate w) = Some w.obj
table_named_by (Return w) = Some w.obj
table_named_by (Delete w) = Some w.obj
table_named_by (Move m) = Some m.obj
table_named_by _ = None

pub named : (sh : Shape) (R : List Record) (r : Record) (o : ℕ) → IsKindAllowed sh R r → table_named_by r ≡ Some o → IsTable R o
named sh R (Movement m) o a e = at_table R m.obj o a.table e
named sh R (Extend x) o a e = at_table R x.obj o a.table e
named sh R (FormatBlock f) o a e = at_table R f.obj o a.table e
named sh R (Class k) o a e = at_table R k.obj o a.table e
named sh R (Advance x) o a e = at_table R x.obj o a.table e
named sh R (Lower l) o a e = at_table R l.obj o a.table e
named sh R (Insert w) o a e = at_table R w.obj o a.change.table e
named sh R (Update w) o a e = at_table R w.obj o a.change.change.table e
named sh R (Migrate w) o a e = at_table R w.obj o (migrate_table sh R w a) e
named sh R (Return w) o a e = at_table R w.obj o a.change.change.table e
named sh R (Delete w) o a e = at_table R w.obj o (delete_table sh R w a) e
named sh R (Move m) o a e = at_table R m.obj o (move_table sh R m a) e
named sh R _ o a e = none (IsTable R o) o e

-- what a record leaves that doesn't name the block

place_left : (ps : List Placed) (b k : ℕ) (old : Slot) → any_in ps b ≡ false → placed_in ps b k old ≡ old
place_left [] b k old h = refl
place_left (p ∷ ps) b k old h = let q = or_parts (eqb p.dba b) (any_in ps b) h in cond-false _ _ _ (and_left (eqb p.dba b) (eqb p.slot k) q.0) ∙ place_left ps b k old q.1

reach_left : (ps : List Placed) (b n : ℕ) → any_in ps b ≡ false → slots_reached ps b n ≡ n
reach_left [] b n h = refl
reach_left (p ∷ ps) b n h = let q = or_parts (eqb p.dba b) (any_in ps b) h in cond-false _ _ _ q.0 ∙ reach_left ps b n q.1

all_left : (ps : List Placed) (b : ℕ) (ss : List Slot) → any_in ps b ≡ false → place_all ps b ss ≡ ss
all_left [] b ss h = refl
all_left (p ∷ ps) b ss h = let q = or_parts (eqb p.dba b) (any_in ps b) h in cond-false _ _ _ q.0 ∙ all_left ps b ss q.1

entry_left : (ps : List RowPart) (t b i : ℕ) (old : ListEntry) → any_in (written ps) b ≡ false → entered_in ps t b i old ≡ old
entry_left [] t b i old h = refl
entry_left (p ∷ ps) t b i old h = let q = or_parts (eqb p.dba b) (any_in (written ps) b) h in cond-false _ _ _ (and_left (eqb p.dba b) _ q.0) ∙ entry_left ps t b i old q.1

entries_left : (ps : List RowPart) (t b : ℕ) (es : List ListEntry) → any_in (written ps) b ≡ false → enter_all ps t b es ≡ es
entries_left [] t b es h = refl
entries_left (p ∷ ps) t b es h = let q = or_parts (eqb p.dba b) (any_in (written ps) b) h in cond-false _ _ _ q.0 ∙ entries_left ps t b es q.1

count_left : (ps : List RowPart) (b n : ℕ) → any_in (written ps) b ≡ false → entries_reached ps b n ≡ n
count_left [] b n h = refl
count_left (p ∷ ps) b n h = let q = or_parts (eqb p.dba b) (any_in (written ps) b) h in cond-false _ _ _ q.0 ∙ count_left ps b n q.1

own_left : (w : Writer) (ps : List RowPart) (b i : ℕ) (old : ListEntry) → any_in (written ps) b ≡ false → entered_by w ps b i old ≡ old
own_left (By t) ps b i old h = entry_left ps t b i old h
own_left (At c) ps b i old h = refl

own_entries_left : (w : Writer) (ps : List RowPart) (b : ℕ) (es : List ListEntry) → any_in (written ps) b ≡ false → enter_by w ps b es ≡ es
own_entries_left (By t) ps b es h = entries_left ps t b es h
own_entries_left (At c) ps b es h = refl

own_count_left : (w : Writer) (ps : List RowPart) (b n : ℕ) → any_in (written ps) b ≡ false → count_entered w ps b n ≡ n
own_count_left (By t) ps b n h = count_left ps b n h
own_count_left (At c) ps b n h = refl

-- five cases, and none of a record's kinds
record Left (c : Effect) (b : ℕ) : Type 0 where
  slots : (ss : List Slot) → changed_slots c b ss ≡ ss
  entries : (es : List ListEntry) → changed_entries c b es ≡ es
  image : (k : ℕ) (old : Slot) → changed_image c b k old ≡ old
  count : (n : ℕ) → changed_slot_count c b n ≡ n
  entry : (i : ℕ) (old : ListEntry) → changed_entry c b i old ≡ old
  entry_count : (n : ℕ) → changed_entry_count c b n ≡ n

left : (c : Effect) (b : ℕ) → is_change c b ≡ false → Left c b
left Still b h = record { slots = λ _. refl; entries = λ _. refl; image = λ _ _. refl; count = λ _. refl; entry = λ _ _. refl; entry_count = λ _. refl }
left (Formats d) b h = record { slots = λ _. cond-false _ _ _ h; entries = λ _. cond-false _ _ _ h; image = λ _ _. cond-false _ _ _ h; count = λ _. cond-false _ _ _ h; entry = λ _ _. cond-false _ _ _ h; entry_count = λ _. cond-false _ _ _ h }
left (Adds st) b h = record {
  slots = λ ss. all_left (written st.parts) b ss h;
  entries = λ es. own_entries_left st.by st.parts b es h;
  image = λ k old. place_left (written st.parts) b k old h;
  count = λ n. reach_left (written st.parts) b n h;
  entry = λ i old. own_left st.by st.parts b i old h;
  entry_count = λ n. own_count_left st.by st.parts b n h;
}
left (TakesBack t) b h = record {
  slots = λ ss. all_left (restored t.parts) b ss h;
  entries = λ _. refl;
  image = λ k old. place_left (restored t.parts) b k old h;
  count = λ n. reach_left (restored t.parts) b n h;
  entry = λ _ _. refl;
  entry_count = λ _. refl;
}
left (Cleans d cs) b h = record { slots = λ _. cond-false _ _ _ h; entries = λ _. cond-false _ _ _ h; image = λ _ _. cond-false _ _ _ h; count = λ _. refl; entry = λ _ _. cond-false _ _ _ h; entry_count = λ _. refl }

same_block : (ss ts : List Slot) (es fs : List ListEntry) → ss ≡ ts → es ≡ fs → ◌≡◌ {A = Block} (record { slots = ss; entries = es }) (record { slots = ts; entries = fs })
same_block ss ts es fs p q = λ i. record { slots = p i; entries = q i }

pub others_are_left : OthersAreLeft
others_are_left R r b h =
    let l = left (effect_of r) b h in
    record {
      value = same_block _ _ _ _ (l.slots (slots_of R b)) (l.entries (entries_of R b));
      image = λ k. l.image k _;
      slots = l.count _;
      entry = λ i. l.entry i _;
      entries = l.entry_count _;
    }

pub moves_keep_tables : MovesKeepTables
moves_keep_tables R m o s n = refl

pub images_after_one : ImagesAfterOne
images_after_one R = record {
  formatted = λ f k. rw (eq-eqb f.dba f.dba refl) refl;
  cleaned = λ c k. rw (eq-eqb c.dba c.dba refl) refl;
}
