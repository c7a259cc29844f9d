-- What a refused scan passes over, and its cause.
use Rattle.std.proofs.Common.{◌≡◌, ℕ, true, List, length, drop, Option, Some, None, refl, sym, ◌∙◌, subst, true≢false}
use Rattle.std.specs.Prelude.{slice_get}
use Rattle.seg_words.specs.Types.{Shape}
use Rattle.redo_model.specs.Model.{table_named}
use Rattle.redo_laws.specs.Scan.{scan_list}
use Rattle.session_laws.specs.Sessions.{txn_or_zero, own_number}
use Rattle.version_laws.specs.Ends.{IsTooOld, IsTooOldEntry}
use Rattle.script_text.specs.declared.statement.Statement.TheVariants as asked
use Rattle.history_text.specs.declared.refusal.Refusal.{Refusal}
use Rattle.history_text.specs.declared.refusal.Refusal.TheVariants as why
use Rattle.history_model.specs.Spans.{Span}
use Rattle.history_model.specs.Released.{first_gone}
use Rattle.history_model.specs.Order.{bars}
use Rattle.history_model.specs.Passing.{FirstPass}
use Rattle.history_model.specs.Causes.{IsOnRow, NextRead, IsObjectGone, Cause}
use Rattle.history_laws.specs.Working.{OpenScan, ScanStands}
use Rattle.history_laws.specs.ScanRefusals.{MarkedAreRefused, LostAreRefused, UnknownAreRefused}
use Rattle.history_laws.proofs.Owned.{none_some, same_some}
use Rattle.history_laws.proofs.RefusedLaw.{never_bars}
use Rattle.history_laws.proofs.Scans.{marks_mean}

no_target : (x : Span) (name : List ℕ) (o n : ℕ) → IsOnRow x (asked.Scan name) o n → ⊥
no_target x name o n h = none_some h.target ⊥ h.targeted

scan_passes : (sh : Shape) (x : Span) (name : List ℕ) (read : ℕ) (refusal : Refusal) → FirstPass sh x (asked.Scan name) → ((e l : ℕ) → bars (why.ObjectGone e l) refusal ≡ true → IsObjectGone sh x (asked.Scan name) read e l → ⊥)
    → (y : Refusal) → bars y refusal ≡ true → Cause sh x (asked.Scan name) read y → ⊥
scan_passes sh x name read refusal f g why.NoTable b h = f.table h
scan_passes sh x name read refusal f g why.TableExists b h = f.new_name h
scan_passes sh x name read refusal f g why.TooManyTables b h = f.few_tables h
scan_passes sh x name read refusal f g why.MovementOff b h = f.movement h
scan_passes sh x name read refusal f g why.TransactionOpen b h = f.no_transaction h
scan_passes sh x name read refusal f g (why.ShrinkBusy v) b h = f.unshrunk v h
scan_passes sh x name read refusal f g why.LogFull b h = f.log h
scan_passes sh x name read refusal f g (why.NotDataBlock v) b h = f.data_block v h
scan_passes sh x name read refusal f g (why.BadValue v) b h = f.value v h
scan_passes sh x name read refusal f g (why.Unbound l) b h = f.label l h
scan_passes sh x name read refusal f g (why.NoRow n) b h = no_target x name h.obj n h.on
scan_passes sh x name read refusal f g (why.Busy u) b h = no_target x name h.obj h.row h.on
scan_passes sh x name read refusal f g (why.Again cs) b h = never_bars (why.Again cs) refusal refl b
scan_passes sh x name read refusal f g (why.NoSlot ts) b h = no_target x name h.obj h.row h.on
scan_passes sh x name read refusal f g (why.NoSpace need) b h = h.none.seeks
scan_passes sh x name read refusal f g (why.MaxExtents count) b h = h.none.seeks
scan_passes sh x name read refusal f g (why.UndoFull hs) b h = h.needs
scan_passes sh x name read refusal f g (why.ObjectGone e l) b h = g e l b h
scan_passes sh x name read refusal f g (why.TooOld a) b h = never_bars (why.TooOld a) refusal refl b
scan_passes sh x name read refusal f g (why.TooOldEntry u) b h = never_bars (why.TooOldEntry u) refusal refl b
scan_passes sh x name read refusal f g (why.NeedsBlock len) b h = h

-- a scan that isn't marked has lost nothing
unmarked : (sh : Shape) (x : Span) (name : List ℕ) (s : OpenScan) (e l : ℕ) → s.mark ≡ None → ScanStands sh x name s → IsObjectGone sh x (asked.Scan name) s.read e l → ⊥
unmarked sh x name s e l m h g =
    let n : asked.Scan name ≡ asked.Scan g.next.name = g.next.statement in
    let named : name ≡ g.next.name = cc in
    let o : s.obj ≡ g.obj = same_some s.obj g.obj (sym h.table ∙ subst (λ z. table_named x.begun z ≡ Some g.obj) (sym named) g.next.table) in
    none_some _ ⊥ (sym m ∙ (h.marked ∙ subst (λ z. first_gone sh z (drop s.read (scan_list sh x.begun z)) (length x.begun) x.ended ≡ Some (record { extent = e; lowering = l })) (sym o) g.gone))

pub marked_are_refused : MarkedAreRefused
marked_are_refused sh x name s g f m h = record {
  means = record { keeps = refl; cause = marks_mean sh x name s g m h; at_once = λ e. absurd (true≢false (sym e)); so_far = h.idle };
  passes = scan_passes sh x name s.read (why.ObjectGone g.extent g.lowering) f (λ e l b y. true≢false (sym b));
}

-- the block that it reads next
reads_next : (sh : Shape) (x : Span) (name : List ℕ) (s : OpenScan) (b : ℕ) → slice_get s.blocks s.read ≡ Some b → ScanStands sh x name s → NextRead sh x (asked.Scan name) s.read s.obj b
reads_next sh x name s b n h = record { name = name; statement = refl; table = h.table; block = subst (λ (z : List ℕ). slice_get z s.read ≡ Some b) h.list n }

pub lost_are_refused : LostAreRefused
lost_are_refused sh x name s b a f m n t h = record {
  means = record {
    keeps = refl;
    cause = record {
      obj = s.obj;
      block = b;
      next = reads_next sh x name s b n h;
      lost = subst (λ c. IsTooOld x.ended b c (own_number x.begun x.session) a) h.number (subst (λ (o : Option ℕ). IsTooOld x.ended b s.at (txn_or_zero o) a) h.own_is t);
    };
    at_once = λ e. absurd (true≢false (sym e));
    so_far = h.idle;
  };
  passes = scan_passes sh x name s.read (why.TooOld a) f (λ e l y g. unmarked sh x name s e l m h g);
}

pub unknown_are_refused : UnknownAreRefused
unknown_are_refused sh x name s b u f m n t h = record {
  means = record {
    keeps = refl;
    cause = record {
      obj = s.obj;
      block = b;
      next = reads_next sh x name s b n h;
      unknown = subst (λ c. IsTooOldEntry x.ended b c (own_number x.begun x.session) u) h.number (subst (λ (o : Option ℕ). IsTooOldEntry x.ended b s.at (txn_or_zero o) u) h.own_is t);
    };
    at_once = λ e. absurd (true≢false (sym e));
    so_far = h.idle;
  };
  passes = scan_passes sh x name s.read (why.TooOldEntry u) f (λ e l y g. unmarked sh x name s e l m h g);
}
