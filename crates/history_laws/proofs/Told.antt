-- What a start and an entry say stays in longer lists.
use Rattle.std.proofs.Common.{◌≡◌, ℕ, ◌≤◌, List, [], ◌∷◌, length, None, sym, ap₂, subst, arith, le_trans}
use Rattle.seg_words.specs.Types.{Shape}
use Rattle.redo_model.specs.Records.{Record}
use Rattle.redo_model.specs.Lists.{same, more}
use Rattle.redo_laws.proofs.lists.Prefixes.{prefix_more}
use Rattle.session_laws.specs.Sessions.{own_of}
use Rattle.script_text.specs.declared.statement.Statement.{Statement}
use Rattle.history_text.specs.declared.entry.Entry.{Entry}
use Rattle.history_model.specs.declared.history.Start.{Start}
use Rattle.history_model.specs.declared.history.Kept.{Kept}
use Rattle.history_model.specs.declared.history.HistoryItem.{HistoryItem}
use Rattle.history_model.specs.declared.history.HistoryItem.TheVariants as item
use Rattle.history_model.specs.History.{Task, statement_of}
use Rattle.history_model.specs.Spans.{Span, span_of}
use Rattle.history_model.specs.Means.{Means, PassesOver}
use Rattle.history_model.specs.Legal.{StartStands, EntryStands, Stands, AreTold}
use Rattle.history_laws.specs.Keeping.{EntriesStay}

pub span_more : (scripts : List (List Statement)) (R : List Record) (r : Record) (w : ℕ) (task : Task) (n : ℕ) → task.begins ≤ length R → n ≤ length R → span_of scripts R w task n ≡ span_of scripts (r ∷ R) w task n
span_more scripts R r w task n l m =
    ap₂ (λ (B E : List Record). span scripts w task B E) (sym (prefix_more R r task.begins l)) (sym (prefix_more R r n m))
  where
    span : List (List Statement) → ℕ → Task → List Record → List Record → Span
    span scripts w task B E = record { session = w; scripts = scripts; past = task.past; begun = B; ended = E }

entry_more : (sh : Shape) (scripts : List (List Statement)) (from : ℕ) (R : List Record) (r : Record) (e : Entry) (k : Kept) (T : List HistoryItem) → EntryStands sh scripts from R e k T → EntryStands sh scripts from (r ∷ R) e k T
entry_more sh scripts from R r e k T h =
    let begun : h.task.begins ≤ length R = subst (λ n. n ≤ length R) h.begins (le_trans h.grows h.within) in
    let at : span_of scripts R e.session h.task e.ends ≡ span_of scripts (r ∷ R) e.session h.task e.ends = span_more scripts R r e.session h.task e.ends begun h.within in
    record {
      task = h.task;
      started = h.started;
      begins = h.begins;
      ordinal = h.ordinal;
      order = h.order;
      grows = h.grows;
      within = omega (arith, h.within);
      means = subst (λ (x : Span). Means sh x (statement_of scripts e.session h.task.place) e.outcome k) at h.means;
      passes = subst (λ (x : Span). PassesOver sh x (statement_of scripts e.session h.task.place) e.outcome k) at h.passes;
    }

start_more : (scripts : List (List Statement)) (from : ℕ) (R : List Record) (r : Record) (s : Start) (T : List HistoryItem) → StartStands scripts from R s T → StartStands scripts from (r ∷ R) s T
start_more scripts from R r s T h = record {
  session = h.session;
  idle = h.idle;
  place = h.place;
  closing = λ e n. h.closing e (subst (λ (z : List Record). own_of z s.session ≡ None) (prefix_more R r s.begins h.within) n);
  order = h.order;
  within = omega (arith, h.within);
}

stands_more : (sh : Shape) (scripts : List (List Statement)) (from : ℕ) (R : List Record) (r : Record) (i : HistoryItem) (T : List HistoryItem) → Stands sh scripts from R i T → Stands sh scripts from (r ∷ R) i T
stands_more sh scripts from R r (item.Started s) T h = start_more scripts from R r s T h
stands_more sh scripts from R r (item.Told e k) T h = entry_more sh scripts from R r e k T h

pub told_more : (sh : Shape) (scripts : List (List Statement)) (from : ℕ) (R : List Record) (r : Record) (T : List HistoryItem) → AreTold sh scripts from R T → AreTold sh scripts from (r ∷ R) T
told_more sh scripts from R r [] h = tt
told_more sh scripts from R r (i ∷ T) h = (stands_more sh scripts from R r i T h.0, told_more sh scripts from R r T h.1)

pub entries_stay : EntriesStay
entries_stay sh scripts from Q R T same h = h
entries_stay sh scripts from Q R T (more {Q = S} r e) h = told_more sh scripts from S r T (entries_stay sh scripts from Q S T e h)
