-- What an accepted change of a row adds and tells.
use Rattle.std.proofs.Common.{◌≡◌, ℕ, suc, true, cond, List, [], ◌∷◌, length, Option, Some, None, refl, sym, ◌∙◌, ap, subst, eq-eqb}
use Rattle.std.specs.Prelude.{MatchOption}
use Rattle.seg_words.proofs.Lemmas.{cond-true}
use Rattle.seg_words.specs.Types.{Shape, UndoAddr}
use Rattle.redo_record.specs.declared.record.Record.TheVariants as made
use Rattle.redo_model.specs.Records.{Record, RowBody, BeginRecord, ReuseRecord}
use Rattle.redo_model.specs.Model.{row_bytes, holds_row, image, table_named}
use Rattle.session_laws.specs.Sessions.{own_of, own_rows}
use Rattle.change_laws.specs.Drafts.{RowKind, Inserts, Updates, Migrates, Returns, Deletes, as_record, Fill, Change, change_size, parts_of, body_at, record_of, insert_of, update_of, migrate_of, return_of, delete_of, Stand, Whole, Apart, holder_of}
use Rattle.change_laws.specs.Spots.{Spot, Here, Next, Full, undo_start, spot_for, list_at, list_with}
use Rattle.change_laws.specs.Ready.{Path, InPlace, ToHead, ToOther, path_of, StandsAt}
use Rattle.change_laws.specs.Answers.{change_by}
use Rattle.script_text.specs.declared.statement.Statement.{Statement}
use Rattle.script_text.specs.declared.statement.Statement.TheVariants as asked
use Rattle.script_text.specs.declared.statement.Target.{Target}
use Rattle.history_model.specs.Spans.{Span, own_then, target_row, table_asked, target_asked}
use Rattle.history_model.specs.Causes.{IsOnRow, IsFound}
use Rattle.history_model.specs.Makes.{Makes}
use Rattle.history_model.specs.RowMeans.{IsUpdate, row_block, GoesTo}
use Rattle.history_model.specs.RowMeans.{with_begin, with_reuse}
use Rattle.history_laws.specs.Changing.{IsBegunFor, AddsChange, InsertsTell, UpdatesTell, DeletesTell}
use Rattle.history_laws.proofs.Owned.{none_some, same_some}

-- ---- the list with a change

record IsSpotted (before : List Record) (t : ℕ) (c : Change) (next : List Record) : Type 0 where
  reuse : Option ReuseRecord
  at : UndoAddr
  is : next ≡ record_of (with_reuse reuse before) t at c ∷ with_reuse reuse before

spotted_at : (before : List Record) (t : ℕ) (c : Change) (next : List Record) (s : Spot) → list_at before t c s ≡ Some next → IsSpotted before t c next
spotted_at before t c next (Here a) e = record { reuse = None; at = a; is = sym (same_some (record_of before t a c ∷ before) next e) }
spotted_at before t c next (Next q) e = record { reuse = Some q; at = undo_start q; is = sym (same_some (record_of (made.Reuse q ∷ before) t (undo_start q) c ∷ made.Reuse q ∷ before) next e) }
spotted_at before t c next (Full hs) e = none_some next _ e

-- the session's transaction makes it
record IsChanged (Q : List Record) (w : ℕ) (c : Change) (next : List Record) : Type 0 where
  begin : Option BeginRecord
  reuse : Option ReuseRecord
  txn : ℕ
  at : UndoAddr
  session : MatchOption begin (Unit {0}) (λ g. g.session ≡ w)
  is : next ≡ record_of (with_reuse reuse (with_begin begin Q)) txn at c ∷ with_reuse reuse (with_begin begin Q)
  own : own_of (with_reuse reuse (with_begin begin Q)) w ≡ Some txn
  rows : own_rows (with_reuse reuse (with_begin begin Q)) w ≡ own_rows Q w

own_reused : (q : Option ReuseRecord) (R : List Record) (w : ℕ) → own_of (with_reuse q R) w ≡ own_of R w
own_reused None R w = refl
own_reused (Some q) R w = refl

rows_reused : (q : Option ReuseRecord) (R : List Record) (w : ℕ) → own_rows (with_reuse q R) w ≡ own_rows R w
rows_reused None R w = refl
rows_reused (Some q) R w = refl

change_added : (sh : Shape) (Q : List Record) (w : ℕ) (c : Change) (next before : List Record) (t : ℕ) (own : Option ℕ) → own_of Q w ≡ own → IsBegunFor Q w t own before → list_with sh before t c ≡ Some next → IsChanged Q w c next
change_added sh Q w c next before t None o b l =
    let s = spotted_at before t c next (spot_for sh before (change_size before c)) l in
    let at : before ≡ made.Begin b.begin ∷ Q = b.is in
    record {
      begin = Some b.begin;
      reuse = s.reuse;
      txn = t;
      at = s.at;
      session = b.session;
      is = subst (λ (z : List Record). next ≡ record_of (with_reuse s.reuse z) t s.at c ∷ with_reuse s.reuse z) at s.is;
      own = own_reused s.reuse (made.Begin b.begin ∷ Q) w ∙ (cond-true _ _ _ (eq-eqb b.begin.session w b.session) ∙ ap (λ (z : ℕ). Some z) b.txn);
      rows = rows_reused s.reuse (made.Begin b.begin ∷ Q) w;
    }
change_added sh Q w c next before t (Some u) o b l =
    let s = spotted_at before t c next (spot_for sh before (change_size before c)) l in
    record {
      begin = None;
      reuse = s.reuse;
      txn = t;
      at = s.at;
      session = tt;
      is = subst (λ (z : List Record). next ≡ record_of (with_reuse s.reuse z) t s.at c ∷ with_reuse s.reuse z) b.is s.is;
      own = own_reused s.reuse Q w ∙ (o ∙ ap (λ (z : ℕ). Some z) (sym b.txn));
      rows = rows_reused s.reuse Q w;
    }

changed_of : (sh : Shape) (Q : List Record) (w : ℕ) (c : Change) (next : List Record) → AddsChange sh Q w c next → IsChanged Q w c next
changed_of sh Q w c next h = change_added sh Q w c next h.before h.txn (own_of Q w) refl h.begins h.list_is

-- ---- its row

-- the bytes of the first of these that hold a row
abbrev fills_bytes : List Fill → List ℕ
fills_bytes [] = []
fills_bytes (f ∷ fs) = cond (holds_row f.content.kind) f.content.bytes (fills_bytes fs)

bytes_of : (R : List Record) (t : ℕ) (a : UndoAddr) (i : ℕ) (fs : List Fill) → row_bytes (parts_of R t a i fs) ≡ fills_bytes fs
bytes_of R t a i [] = refl
bytes_of R t a i (f ∷ fs) = ap (cond (holds_row f.content.kind) f.content.bytes) (bytes_of R t a (suc i) fs)

-- and their block
abbrev fills_block : List Fill → Option ℕ
fills_block [] = None
fills_block (f ∷ fs) = cond (holds_row f.content.kind) (Some f.at.dba) (fills_block fs)

block_of : (R : List Record) (t : ℕ) (a : UndoAddr) (i : ℕ) (fs : List Fill) → row_block (parts_of R t a i fs) ≡ fills_block fs
block_of R t a i [] = refl
block_of R t a i (f ∷ fs) = ap (cond (holds_row f.content.kind) (Some f.at.dba)) (block_of R t a (suc i) fs)

named_on : (Q : List Record) (name : List ℕ) (o : ℕ) (q : Option ReuseRecord) (g : Option BeginRecord) → table_named Q name ≡ Some o → table_named (with_reuse q (with_begin g Q)) name ≡ Some o
named_on Q name o None None e = e
named_on Q name o None (Some g) e = e
named_on Q name o (Some q) None e = e
named_on Q name o (Some q) (Some g) e = e

-- an update's change is by one of three kinds, of the row, with its text
record IsTextOf (o n : ℕ) (text : List ℕ) (c : Change) : Type 0 where
  obj : c.obj ≡ o
  row : c.row ≡ n
  bytes : fills_bytes c.fills ≡ text

holder_row : (Q : List Record) (n : ℕ) (s : Stand) → StandsAt Q n s → holds_row (image Q (holder_of s).dba (holder_of s).slot).kind ≡ true
holder_row Q n (Whole p) h = ap holds_row h.kind
holder_row Q n (Apart head body) h = ap holds_row h.body_kind

abbrev IsUpdateKind : RowKind → Type 0
IsUpdateKind Updates = Unit {0}
IsUpdateKind Migrates = Unit {0}
IsUpdateKind Returns = Unit {0}
IsUpdateKind Inserts = ⊥
IsUpdateKind Deletes = ⊥

update_text : (Q : List Record) (o n : ℕ) (s : Stand) (text : List ℕ) (to : Option ℕ) (p : Path) (c : Change) → StandsAt Q n s → change_by Q o n s text to p ≡ Some c → IsUpdateKind c.kind × IsTextOf o n text c
update_text Q o n s text to InPlace c h e =
    subst (λ (z : Change). IsUpdateKind z.kind × IsTextOf o n text z) (same_some (update_of Q o n s text) c e) (tt, record { obj = refl; row = refl; bytes = cond-true _ _ _ (holder_row Q n s h) })
update_text Q o n (Whole p) text to ToHead c h e = none_some c _ e
update_text Q o n (Apart head body) text to ToHead c h e = subst (λ (z : Change). IsUpdateKind z.kind × IsTextOf o n text z) (same_some (return_of o n head body text) c e) (tt, record { obj = refl; row = refl; bytes = refl })
update_text Q o n s text None ToOther c h e = none_some c _ e
update_text Q o n (Whole p) text (Some b) ToOther c h e = subst (λ (z : Change). IsUpdateKind z.kind × IsTextOf o n text z) (same_some (migrate_of Q o n (Whole p) b text) c e) (tt, record { obj = refl; row = refl; bytes = refl })
update_text Q o n (Apart head body) text (Some b) ToOther c h e = subst (λ (z : Change). IsUpdateKind z.kind × IsTextOf o n text z) (same_some (migrate_of Q o n (Apart head body) b text) c e) (tt, record { obj = refl; row = refl; bytes = refl })

-- a row that goes to another block goes to the given one
record IsGiven (sh : Shape) (x : Span) (st : Statement) (fs : List Fill) : Type 0 where
  block : ℕ
  is_found : IsFound sh x st block
  at : fills_block fs ≡ Some block

abbrev GoesInto : Shape → Span → Statement → RowKind → List Fill → Type 0
GoesInto sh x st Migrates fs = IsGiven sh x st fs
GoesInto sh x st k fs = Unit {0}

update_goes : (sh : Shape) (x : Span) (st : Statement) (Q : List Record) (o n : ℕ) (s : Stand) (text : List ℕ) (to : Option ℕ) (p : Path) (c : Change) → MatchOption to (Unit {0}) (λ b. IsFound sh x st b) → change_by Q o n s text to p ≡ Some c → GoesInto sh x st c.kind c.fills
update_goes sh x st Q o n s text to InPlace c f e = subst (λ (z : Change). GoesInto sh x st z.kind z.fills) (same_some (update_of Q o n s text) c e) tt
update_goes sh x st Q o n (Whole p) text to ToHead c f e = none_some c _ e
update_goes sh x st Q o n (Apart head body) text to ToHead c f e = subst (λ (z : Change). GoesInto sh x st z.kind z.fills) (same_some (return_of o n head body text) c e) tt
update_goes sh x st Q o n s text None ToOther c f e = none_some c _ e
update_goes sh x st Q o n (Whole p) text (Some b) ToOther c f e = subst (λ (z : Change). GoesInto sh x st z.kind z.fills) (same_some (migrate_of Q o n (Whole p) b text) c e) (record { block = b; is_found = f; at = refl })
update_goes sh x st Q o n (Apart head body) text (Some b) ToOther c f e = subst (λ (z : Change). GoesInto sh x st z.kind z.fills) (same_some (migrate_of Q o n (Apart head body) b text) c e) (record { block = b; is_found = f; at = refl })

goes_to : (sh : Shape) (x : Span) (st : Statement) (k : RowKind) (body : RowBody) (fs : List Fill) → row_block body.parts ≡ fills_block fs → GoesInto sh x st k fs → GoesTo sh x st (as_record k body)
goes_to sh x st Migrates body fs e h = record { block = h.block; is_found = h.is_found; at = e ∙ h.at }
goes_to sh x st Inserts body fs e h = tt
goes_to sh x st Updates body fs e h = tt
goes_to sh x st Returns body fs e h = tt
goes_to sh x st Deletes body fs e h = tt

-- ---- the laws

pub inserts_tell : InsertsTell
inserts_tell sh x name label text o b next h still found adds =
    let c = insert_of x.ended o b text in
    let m = changed_of sh x.ended x.session c next adds in
    let L = with_reuse m.reuse (with_begin m.begin x.ended) in
    record {
      made = record { begin = m.begin; reuse = m.reuse; rec = record_of L m.txn m.at c; next_is = m.is; begins = m.session; makes = (record { own = m.own; table = named_on x.ended name o m.reuse m.begin still }, refl) };
      means = record { before = L; body = body_at L m.txn m.at c; change = record { table = h.table; own = m.own; one = m.rows ∙ h.idle.rows; event = x.ended; idle = h.idle; begin = m.begin; reuse = m.reuse; before_is = refl }; number = refl; text_is = refl; block = b; is_found = found; at = refl; ends = m.is };
    }

update_made : (sh : Shape) (x : Span) (name : List ℕ) (target : Target) (text : List ℕ) (L : List Record) (k : RowKind) (body : RowBody) → IsUpdateKind k → own_of L x.session ≡ Some body.txn → table_named L name ≡ Some body.obj → target_row x.scripts x.past target ≡ Some body.row → row_bytes body.parts ≡ text
    → Makes sh x.scripts x.past x.session (Some (asked.Update name target text)) L (as_record k body)
update_made sh x name target text L Updates body i o t r b = (record { row = record { own = o; table = t }; meant = r }, b)
update_made sh x name target text L Migrates body i o t r b = (record { row = record { own = o; table = t }; meant = r }, b)
update_made sh x name target text L Returns body i o t r b = (record { row = record { own = o; table = t }; meant = r }, b)
update_made sh x name target text L Inserts body i o t r b = absurd i
update_made sh x name target text L Deletes body i o t r b = absurd i

update_kind : (k : RowKind) (body : RowBody) → IsUpdateKind k → IsUpdate body (as_record k body)
update_kind Updates body i = refl
update_kind Migrates body i = refl
update_kind Returns body i = refl
update_kind Inserts body i = absurd i
update_kind Deletes body i = absurd i

-- the Begin of an update or a delete
update_begins : (sh : Shape) (x : Span) (name : List ℕ) (target : Target) (text : List ℕ) (g : Option BeginRecord) → MatchOption g (Unit {0}) (λ g. g.session ≡ x.session) → MatchOption g (Unit {0}) (λ g. Makes sh x.scripts x.past x.session (Some (asked.Update name target text)) x.ended (made.Begin g))
update_begins sh x name target text None e = tt
update_begins sh x name target text (Some g) e = e

row_meant : (x : Span) (st : Statement) (target : Target) (o n : ℕ) → target_asked st ≡ Some target → IsOnRow x st o n → target_row x.scripts x.past target ≡ Some n
row_meant x st target o n e on = subst (λ t. target_row x.scripts x.past t ≡ Some n) (same_some on.target target (sym on.targeted ∙ e)) on.row

table_meant : (x : Span) (st : Statement) (name : List ℕ) (o n : ℕ) → table_asked st ≡ Some name → IsOnRow x st o n → table_named x.begun name ≡ Some o
table_meant x st name o n e on = subst (λ l. table_named x.begun l ≡ Some o) (same_some on.name name (sym on.named ∙ e)) on.table

pub updates_tell : UpdatesTell
updates_tell sh x name target text o n s to c next on idle still stands found change adds =
    let u = update_text x.ended o n s text to (path_of x.ended (own_then x) s (length text)) c stands change in
    let m = changed_of sh x.ended x.session c next adds in
    let L = with_reuse m.reuse (with_begin m.begin x.ended) in
    let body = body_at L m.txn m.at c in
    let bytes : row_bytes body.parts ≡ text = bytes_of L m.txn m.at 0 c.fills ∙ u.1.bytes in
    let meant : target_row x.scripts x.past target ≡ Some n = row_meant x (asked.Update name target text) target o n refl on in
    record {
      made = record {
        begin = m.begin;
        reuse = m.reuse;
        rec = record_of L m.txn m.at c;
        next_is = m.is;
        begins = update_begins sh x name target text m.begin m.session;
        makes = update_made sh x name target text L c.kind body u.0 m.own (named_on x.ended name o m.reuse m.begin still ∙ ap (λ (z : ℕ). Some z) (sym u.1.obj)) (meant ∙ ap (λ (z : ℕ). Some z) (sym u.1.row)) bytes;
      };
      means = record {
        before = L;
        body = body;
        change = record { table = table_meant x (asked.Update name target text) name o n refl on ∙ ap (λ (z : ℕ). Some z) (sym u.1.obj); own = m.own; one = m.rows ∙ idle.rows; event = x.ended; idle = idle; begin = m.begin; reuse = m.reuse; before_is = refl };
        number = u.1.row;
        meant = meant;
        text_is = bytes;
        made = record_of L m.txn m.at c;
        kind = update_kind c.kind body u.0;
        goes = goes_to sh x (asked.Update name target text) c.kind body c.fills (block_of L m.txn m.at 0 c.fills) (update_goes sh x (asked.Update name target text) x.ended o n s text to (path_of x.ended (own_then x) s (length text)) c found change);
        ends = m.is;
      };
    }

pub deletes_tell : DeletesTell
deletes_tell sh x name target o n s next on idle still adds =
    let c = delete_of o n s in
    let m = changed_of sh x.ended x.session c next adds in
    let L = with_reuse m.reuse (with_begin m.begin x.ended) in
    let meant : target_row x.scripts x.past target ≡ Some n = row_meant x (asked.Delete name target) target o n refl on in
    record {
      made = record { begin = m.begin; reuse = m.reuse; rec = record_of L m.txn m.at c; next_is = m.is; begins = m.session; makes = record { row = record { own = m.own; table = named_on x.ended name o m.reuse m.begin still }; meant = meant } };
      means = record { before = L; body = body_at L m.txn m.at c; change = record { table = table_meant x (asked.Delete name target) name o n refl on; own = m.own; one = m.rows ∙ idle.rows; event = x.ended; idle = idle; begin = m.begin; reuse = m.reuse; before_is = refl }; number = refl; meant = meant; ends = m.is };
    }
