-- What a record of another session leaves of a session's work.
use Rattle.std.proofs.Common.{◌≡◌, ℕ, ◌≤◌, true, false, cond, eqb, List, [], ◌∷◌, length, drop, Option, Some, None, refl, sym, ◌∙◌, ap, ap₂, subst, arith, le_trans, le_refl, le-ltb, true≢false, eqb-true, ne_eqb}
use Rattle.std.specs.Prelude.{MatchOption}
use Rattle.seg_words.proofs.Lemmas.{cond-false, or_right, and_parts}
use Rattle.seg_words.specs.Types.{Shape}
use Rattle.redo_record.specs.declared.record.Record.TheVariants as made
use Rattle.redo_model.specs.Records.{Record}
use Rattle.redo_model.specs.Model.{Effect, effect_of, prefix, commit_count, number_or_zero, is_byte_list, table_named, HasMovement, IsKindAllowed}
use Rattle.redo_laws.specs.Stays.{Later, IsNotOf, not_later, one_later}
use Rattle.redo_laws.proofs.lists.Prefixes.{prefix_more}
use Rattle.session_laws.specs.Sessions.{own_of, txn_or_zero}
use Rattle.session_laws.specs.Owners.{Leaves}
use Rattle.session_laws.proofs.OwnersLaw.{others_leave_sessions}
use Rattle.scan_laws.specs.Changes.{changed_between}
use Rattle.scan_laws.proofs.ChangesLaw.{counts_rise}
use Rattle.shrink_laws.specs.Grown.{lowers}
use Rattle.shrink_laws.specs.Stops.{SkipsStand}
use Rattle.shrink_laws.proofs.CursorLaw.{cursor_stays, skips_are_kept}
use Rattle.change_laws.specs.Looks.{WasFound}
use Rattle.script_text.specs.declared.statement.Statement.{Statement}
use Rattle.script_text.specs.declared.statement.Statement.TheVariants as asked
use Rattle.history_model.specs.declared.history.HistoryItem.{HistoryItem}
use Rattle.history_model.specs.History.{Task}
use Rattle.history_model.specs.Spans.{Span}
use Rattle.history_model.specs.Released.{Gone, gone_by, or_else, first_gone}
use Rattle.history_model.specs.Stopping.{AreSkippedAt, AreMovedAt}
use Rattle.history_model.specs.ShrinkMeans.{move_count, StopIs}
use Rattle.redo_laws.specs.Scan.{scan_list}
use Rattle.history_laws.specs.Events.{Goes, goes_none, goes_one}
use Rattle.history_laws.specs.Working.{now_of, grown, IsIdle, InsertStands, FoundAt, RowWork, HasStarted, PlaceStands, RowStands, BackStands, OpenScan, ScanStands, marked_by, marked_since, MoveWork, ShrinkStands, StoppedWork, StoppedStands, Work, Inserting, OnRow, TakingBack, Scanning, Shrinking, Lowering, WorkStands, work_after, work_since}
use Rattle.history_laws.specs.Others.{Spares, SparesWork, RecordsLeaveWork, EventsLeaveWork, EventsLeaveTransactions}
use Rattle.history_laws.proofs.LegalLaw.{adds_of}
use Rattle.history_laws.proofs.Stopping.{skipped_at_more, moved_at_more, unlowered_more}
use Rattle.history_laws.proofs.Marks.{or_none, or_assoc, first_more, none_since}

-- names

byte_list_is : (xs ys : List ℕ) → is_byte_list xs ys ≡ true → xs ≡ ys
byte_list_is [] [] h = refl
byte_list_is [] (y ∷ ys) h = absurd (true≢false (sym h))
byte_list_is (x ∷ xs) [] h = absurd (true≢false (sym h))
byte_list_is (x ∷ xs) (y ∷ ys) h = let p = and_parts (eqb x y) (is_byte_list xs ys) h in ap₂ (λ (z : ℕ) (zs : List ℕ). z ∷ zs) (eqb-true x y p.0) (byte_list_is xs ys p.1)

-- a name stays its table's
pub named_more : (sh : Shape) (R : List Record) (r : Record) (name : List ℕ) (o : ℕ) → IsKindAllowed sh R r → table_named R name ≡ Some o → table_named (r ∷ R) name ≡ Some o
named_more sh R (made.Table t) name o a e =
    (elim (is_byte_list t.name name) as (λ v. is_byte_list t.name name ≡ v → cond v (Some t.obj) (table_named R name) ≡ Some o) [
      | true ↦ λ y. let n : table_named R name ≡ None = subst (λ z. table_named R z ≡ None) (byte_list_is t.name name y) a.new_name in
          absurd (let z : ◌≡◌ {A = Option ℕ} None (Some o) = sym n ∙ e in cc)
      | false ↦ λ y. e
    ]) refl
named_more sh R _ name o a e = e

-- each kind of work

idle_more : (x : Span) (r : Record) → Leaves x.ended r x.session → IsIdle x → IsIdle (grown x r)
idle_more x r l h = record { own = l.own ∙ h.own; rows = l.rows ∙ h.rows; begins = l.begins ∙ h.begins }

insert_more : (x : Span) (r : Record) (name : List ℕ) (o : ℕ) → Leaves x.ended r x.session → InsertStands x name o → InsertStands (grown x r) name o
insert_more x r name o l h = record { table = h.table; idle = idle_more x r l h.idle }

started_more : (E : List Record) (r : Record) (n s : ℕ) (cs : List ℕ) (m : ℕ) → HasStarted E n s cs m → HasStarted (r ∷ E) n s cs m
started_more E r n s [] m h = h
started_more E r n s (c ∷ cs) m h = (h.0, or_right _ (changed_between E s c n) h.1, started_more E r n c cs m h.2)

pub zero_is : (o : Option ℕ) → txn_or_zero o ≡ number_or_zero o
zero_is None = refl
zero_is (Some t) = refl

found_more : (sh : Shape) (x : Span) (r : Record) (k : RowWork) (last : ℕ) (f : FoundAt) → Leaves x.ended r x.session → PlaceStands sh x k last f → PlaceStands sh (grown x r) k last f
found_more sh x r k last f l h =
    let was = h.0 in (
      subst (λ (o : Option ℕ). WasFound sh (r ∷ x.ended) o k.obj k.row f.place f.born f.undo f.start) (sym l.own) (record {
        list = was.list;
        later = one_later r was.later (subst (λ t. IsNotOf (effect_of r) t) (zero_is (own_of x.ended x.session)) l.not_of);
        open_then = was.open_then;
        table = was.table;
        here = was.here;
        born_then = was.born_then;
        start_is = was.start_is;
        bytes = was.bytes;
        row = was.row;
        undo_is = was.undo_is;
      }),
      h.1,
    )

place_more : (sh : Shape) (x : Span) (r : Record) (k : RowWork) (last : ℕ) (p : Option FoundAt) → Leaves x.ended r x.session → MatchOption p (Unit {0}) (PlaceStands sh x k last) → MatchOption p (Unit {0}) (PlaceStands sh (grown x r) k last)
place_more sh x r k last None l h = tt
place_more sh x r k last (Some f) l h = found_more sh x r k last f l h

row_more : (sh : Shape) (x : Span) (r : Record) (st : Statement) (k : RowWork) → Leaves x.ended r x.session → RowStands sh x st k → RowStands sh (grown x r) st k
row_more sh x r st k l h = record {
  on = record { name = h.on.name; named = h.on.named; table = h.on.table; target = h.on.target; targeted = h.on.targeted; row = h.on.row };
  idle = idle_more x r l h.idle;
  last = h.last;
  started = started_more x.ended r k.row (commit_count x.begun) k.starts h.last h.started;
  few = h.few;
  known = le_trans h.known (counts_rise x.ended r);
  found = place_more sh x r k h.last k.place l h.found;
}

back_more : (x : Span) (r : Record) (t : ℕ) → Leaves x.ended r x.session → BackStands x t → BackStands (grown x r) t
back_more x r t l h = record { own_begun = h.own_begun; own_now = l.own ∙ h.own_now; whole = h.whole; idle = idle_more x r l h.idle }

pub later_longer : (P : Effect → Type 0) (Q R : List Record) → Later P Q R → length Q ≤ length R
later_longer P Q R not_later = le_refl (length Q)
later_longer P Q R (one_later {R = S} r h f) = let l = later_longer P Q S h in omega (arith, l)

scan_more : (sh : Shape) (x : Span) (r : Record) (name : List ℕ) (s : OpenScan) → Leaves x.ended r x.session → ScanStands sh x name s → ScanStands sh (grown x r) name (marked_by sh r s)
scan_more sh x r name s l h =
    let now : gone_by sh r s.obj (drop s.read s.blocks) ≡ gone_by sh r s.obj (drop s.read (scan_list sh x.begun s.obj)) = ap (λ (z : List ℕ). gone_by sh r s.obj (drop s.read z)) h.list in
    record {
      table = h.table;
      number = h.number;
      own_is = h.own_is;
      list = h.list;
      within = h.within;
      idle = idle_more x r l h.idle;
      quiet = one_later r h.quiet (subst (λ (o : Option ℕ). IsNotOf (effect_of r) (txn_or_zero o)) h.idle.own l.not_of);
      marked = ap₂ or_else h.marked now ∙ sym (first_more sh s.obj (drop s.read (scan_list sh x.begun s.obj)) (length x.begun) x.ended r (later_longer _ x.begun x.ended h.quiet));
      gathered = h.gathered;
    }

-- a shrink, by a record that spares its table

no_lower : (r : Record) (o : ℕ) → Spares r o → lowers o r ≡ false
no_lower (made.Lower l) o h = ne_eqb l.obj o h
no_lower _ o h = refl

pub move_spared : (R : List Record) (r : Record) (o : ℕ) → Spares r o → move_count (r ∷ R) o ≡ move_count R o
move_spared R (made.Move m) o h = cond-false _ _ _ (ne_eqb m.obj o h)
move_spared R _ o h = refl

movement_spared : (R : List Record) (r : Record) (o : ℕ) → Spares r o → HasMovement R o → HasMovement (r ∷ R) o
movement_spared R (made.Movement m) o h e = cond-false _ _ _ (ne_eqb m.obj o h) ∙ e
movement_spared R _ o h e = e

shrink_more : (sh : Shape) (x : Span) (r : Record) (name : List ℕ) (k : MoveWork) → IsKindAllowed sh x.ended r → Leaves x.ended r x.session → Spares r k.obj → ShrinkStands sh x name k → ShrinkStands sh (grown x r) name k
shrink_more sh x r name k a l p h = record {
  table = h.table;
  still = named_more sh x.ended r name k.obj a h.still;
  idle = idle_more x r l h.idle;
  movement = movement_spared x.ended r k.obj p h.movement;
  cursor = cursor_stays sh x.begun x.ended k.obj k.skips k.cursor r (no_lower r k.obj p) h.cursor;
  skipped = skips_are_kept x.begun x.ended k.skips r h.skipped;
  skipped_at = skipped_at_more sh x.begun x.ended r k.obj k.skips h.skipped h.skipped_at;
  moved_at = moved_at_more sh x.begun k.obj k.skips x.ended r p h.moved_at;
  unlowered = unlowered_more x r k.obj h.cursor.longer (no_lower r k.obj p) h.unlowered;
  moves = move_spared x.ended r k.obj p ∙ h.moves;
}

stopped_more : (sh : Shape) (x : Span) (r : Record) (name : List ℕ) (k : StoppedWork) → IsKindAllowed sh x.ended r → Leaves x.ended r x.session → Spares r k.obj → StoppedStands sh x name k → StoppedStands sh (grown x r) name k
stopped_more sh x r name k a l p h =
    let at : prefix x.ended k.stopped ≡ prefix (r ∷ x.ended) k.stopped = sym (prefix_more x.ended r k.stopped h.to) in
    record {
      table = h.table;
      still = named_more sh x.ended r name k.obj a h.still;
      idle = idle_more x r l h.idle;
      from = h.from;
      to = (let t : k.stopped ≤ length x.ended = h.to in omega (arith, t));
      moves = move_spared x.ended r k.obj p ∙ h.moves;
      none_after = move_spared x.ended r k.obj p ∙ (h.none_after ∙ ap (λ (z : List Record). move_count z k.obj) at);
      skipped = subst (λ (z : List Record). SkipsStand x.begun z k.skips) at h.skipped;
      skipped_at = subst (λ (z : List Record). AreSkippedAt sh x.begun z k.obj k.skips) at h.skipped_at;
      moved_at = subst (λ (z : List Record). AreMovedAt sh x.begun k.obj k.skips z) at h.moved_at;
      unlowered = unlowered_more x r k.obj (le_trans h.from h.to) (no_lower r k.obj p) h.unlowered;
      stops = subst (λ (z : List Record). StopIs sh x.begun z k.obj k.skips k.stop) at h.stops;
    }

-- any work

work_more : (sh : Shape) (x : Span) (st : Option Statement) (k : Work) (r : Record) → IsKindAllowed sh x.ended r → Leaves x.ended r x.session → SparesWork k r → WorkStands sh x st k → WorkStands sh (grown x r) st (work_after sh r k)
work_more sh x (Some (asked.Insert name label text)) (Inserting o) r a l p h = insert_more x r name o l h
work_more sh x (Some (asked.Update name target text)) (OnRow k) r a l p h = row_more sh x r (asked.Update name target text) k l h
work_more sh x (Some (asked.Delete name target)) (OnRow k) r a l p h = row_more sh x r (asked.Delete name target) k l h
work_more sh x (Some asked.Rollback) (TakingBack t) r a l p h = back_more x r t l h
work_more sh x None (TakingBack t) r a l p h = back_more x r t l h
work_more sh x (Some (asked.Scan name)) (Scanning s) r a l p h = scan_more sh x r name s l h
work_more sh x (Some (asked.Shrink name compact)) (Shrinking k) r a l p h = shrink_more sh x r name k a l p h
work_more sh x (Some (asked.Shrink name false)) (Lowering k) r a l p h = stopped_more sh x r name k a l p h
work_more sh x st k r a l p h = absurd h

pub records_leave_work : RecordsLeaveWork
records_leave_work sh x st k r v a two of p h = work_more sh x st k r a.1.kind (others_leave_sessions sh x.ended r v x.session a.0 two of) p h

-- an event

goes_longer : (sh : Shape) (scripts : List (List Statement)) (T : List HistoryItem) (v : ℕ) (Q R : List Record) → Goes sh scripts T v Q R → length Q ≤ length R
goes_longer sh scripts T v Q R goes_none = le_refl (length Q)
goes_longer sh scripts T v Q S (goes_one {R = R} r g m) = let l = goes_longer sh scripts T v Q R g in omega (arith, l)

scan_unmarked : (sh : Shape) (Q : List Record) (s : OpenScan) → marked_since sh (length Q) Q s ≡ s
scan_unmarked sh Q s = ap (with_mark s) (ap (or_else s.mark) (none_since sh s.obj (drop s.read s.blocks) Q) ∙ or_none s.mark)
  where
    with_mark : OpenScan → Option Gone → OpenScan
    with_mark s m = record { obj = s.obj; at = s.at; own = s.own; blocks = s.blocks; read = s.read; rows = s.rows; mark = m }

scan_marked : (sh : Shape) (n : ℕ) (R : List Record) (r : Record) (s : OpenScan) → n ≤ length R → marked_by sh r (marked_since sh n R s) ≡ marked_since sh n (r ∷ R) s
scan_marked sh n R r s l =
    ap (with_mark s) (or_assoc s.mark (first_gone sh s.obj (drop s.read s.blocks) n R) (gone_by sh r s.obj (drop s.read s.blocks)) ∙ ap (or_else s.mark) (sym (first_more sh s.obj (drop s.read s.blocks) n R r l)))
  where
    with_mark : OpenScan → Option Gone → OpenScan
    with_mark s m = record { obj = s.obj; at = s.at; own = s.own; blocks = s.blocks; read = s.read; rows = s.rows; mark = m }

work_unmarked : (sh : Shape) (Q : List Record) (k : Work) → work_since sh (length Q) Q k ≡ k
work_unmarked sh Q (Scanning s) = ap (λ (z : OpenScan). Scanning z) (scan_unmarked sh Q s)
work_unmarked sh Q (Inserting o) = refl
work_unmarked sh Q (OnRow k) = refl
work_unmarked sh Q (TakingBack t) = refl
work_unmarked sh Q (Shrinking k) = refl
work_unmarked sh Q (Lowering k) = refl

work_marked : (sh : Shape) (n : ℕ) (R : List Record) (r : Record) (k : Work) → n ≤ length R → work_after sh r (work_since sh n R k) ≡ work_since sh n (r ∷ R) k
work_marked sh n R r (Scanning s) l = ap (λ (z : OpenScan). Scanning z) (scan_marked sh n R r s l)
work_marked sh n R r (Inserting o) l = refl
work_marked sh n R r (OnRow k) l = refl
work_marked sh n R r (TakingBack t) l = refl
work_marked sh n R r (Shrinking k) l = refl
work_marked sh n R r (Lowering k) l = refl

work_spared : (sh : Shape) (n : ℕ) (R : List Record) (k : Work) (r : Record) → SparesWork k r → SparesWork (work_since sh n R k) r
work_spared sh n R (Scanning s) r h = tt
work_spared sh n R (Inserting o) r h = tt
work_spared sh n R (OnRow k) r h = tt
work_spared sh n R (TakingBack t) r h = tt
work_spared sh n R (Shrinking k) r h = h
work_spared sh n R (Lowering k) r h = h

now_more : (scripts : List (List Statement)) (R : List Record) (r : Record) (w : ℕ) (task : Task) → task.begins ≤ length R → grown (now_of scripts R w task) r ≡ now_of scripts (r ∷ R) w task
now_more scripts R r w task l = ap (λ (B : List Record). span scripts R r w task B) (sym (prefix_more R r task.begins l))
  where
    span : List (List Statement) → List Record → Record → ℕ → Task → List Record → Span
    span scripts R r w task B = record { session = w; scripts = scripts; past = task.past; begun = B; ended = r ∷ R }

pub events_leave_work : EventsLeaveWork
events_leave_work sh scripts T v Q R w task st k a two goes_none b p h = subst (WorkStands sh (now_of scripts Q w task) st) (sym (work_unmarked sh Q k)) h
events_leave_work sh scripts T v Q S w task st k a two (goes_one {R = R} r g m) b p h =
    let l = goes_longer sh scripts T v Q R g in
    let before = events_leave_work sh scripts T v Q R w task st k a.0 two g b p.1 h in
    let spared = work_spared sh (length Q) R k r (p.0 (le-ltb (length R) (length Q) l)) in
    let after = records_leave_work sh (now_of scripts R w task) st (work_since sh (length Q) R k) r v a two (adds_of sh scripts T v R r m) spared before in
    subst (λ (z : Work). WorkStands sh (now_of scripts (r ∷ R) w task) st z) (work_marked sh (length Q) R r k l)
    (subst (λ (y : Span). WorkStands sh y st (work_after sh r (work_since sh (length Q) R k))) (now_more scripts R r w task (le_trans b l)) after)

pub events_leave_transactions : EventsLeaveTransactions
events_leave_transactions sh scripts T v Q R w a two goes_none = refl
events_leave_transactions sh scripts T v Q S w a two (goes_one {R = R} r g m) = (others_leave_sessions sh R r v w a.0 two (adds_of sh scripts T v R r m)).own ∙ events_leave_transactions sh scripts T v Q R w a.0 two g
