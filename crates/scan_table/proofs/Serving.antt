-- Scans of sessions.
use Rattle.std.proofs.Common.{◌≡◌, ℕ, List, length, take, drop, map, cond, eqb, option_map, Option, Some, None, refl, sym, ◌∙◌, ap, ap₂, subst, true}
use Rattle.seg_words.specs.Types.{Shape}
use Rattle.redo_model.specs.Records.{Record, Lower}
use Rattle.redo_model.specs.Model.{Effect, commit_count, is_active, table_named, AreAllowed}
use Rattle.redo_laws.specs.Scan.{scanned}
use Rattle.redo_laws.specs.Stays.{IsNotOf, Later}
use Rattle.redo_laws.proofs.spread.StaysLaw.{later_allowed}
use Rattle.session_laws.specs.Sessions.{own_number, own_of, txn_or_zero}
use Rattle.session_laws.proofs.OwnersLaw.{sessions_own_transactions}
use Rattle.version_read.specs.Walking.{IsOwn, txn_or_none}
use Rattle.history_model.specs.Spans.{Span}
use Rattle.history_model.specs.Released as released
use Rattle.history_model.specs.Released.{first_gone, least_having, or_else}
use Rattle.history_laws.specs.Working as working
use Rattle.history_laws.specs.Working.{IsIdle, ScanStands, marked_by}
use Rattle.history_laws.proofs.Marks.{or_none}
use Rattle.history_laws.proofs.Scans.{named_table}
use Rattle.scan_table.specs.declared.scan.OpenScan.{OpenScan}
use Rattle.scan_table.specs.Reading.{row_out}
use Rattle.scan_table.specs.Standing.{HoldsScan, gone_of, mark_with, marked_after, unread}
use Rattle.scan_table.specs.Sessions.{ScansAreWork, scan_of}
use Rattle.scan_table.proofs.Staying.{lowered_is, mark_is}

same_number : (o : Option ℕ) → txn_or_zero o ≡ txn_or_none o
same_number None = refl
same_number (Some t) = refl

own_is : (R : List Record) (o : Option ℕ) → ((t : ℕ) → o ≡ Some t → is_active R t ≡ true) → IsOwn R o
own_is R None h = tt
own_is R (Some t) h = h t refl

session_own : (sh : Shape) (R : List Record) (w : ℕ) (o : Option ℕ) → AreAllowed sh R → o ≡ own_of R w → IsOwn R o
session_own sh R w o a e = own_is R o (λ t f. ((sessions_own_transactions sh R a).each w).active t (sym e ∙ f))

number_is : (x : Span) (o : Option ℕ) → o ≡ own_of x.begun x.session → own_number x.begun x.session ≡ txn_or_none o
number_is x o e = same_number (own_of x.begun x.session) ∙ ap txn_or_none (sym e)

held : (sh : Shape) (x : Span) (name : List ℕ) (s : OpenScan) → s.shape ≡ sh → AreAllowed sh x.ended → ScanStands sh x name (scan_of s) → HoldsScan sh x.begun x.ended s
held sh x name s given a h =
    let began = later_allowed sh _ x.begun x.ended h.quiet a in
    let t = number_is x s.own h.own_is in
    record {
      shape_is = given;
      table = named_table sh x.begun name s.obj began h.table;
      number = h.number;
      own_then = session_own sh x.begun x.session s.own began h.own_is;
      own_now = session_own sh x.ended x.session s.own a (h.own_is ∙ sym h.idle.own);
      quiet = subst (λ n. Later (λ (e : Effect). IsNotOf e n) x.begun x.ended) t h.quiet;
      list = h.list;
      within = h.within;
      marked = h.marked ∙ ap (λ (bs : List ℕ). first_gone sh s.obj (drop s.read bs) (length x.begun) x.ended) (sym h.list);
      gathered = h.gathered ∙ ap₂ (λ (bs : List ℕ) n. map row_out (scanned (λ b. x.begun) (take s.read bs) (commit_count x.begun) n)) (sym h.list) t;
    }

stands : (sh : Shape) (x : Span) (name : List ℕ) (s : OpenScan) → table_named x.begun name ≡ Some s.obj → s.own ≡ own_of x.begun x.session → IsIdle x → HoldsScan sh x.begun x.ended s → ScanStands sh x name (scan_of s)
stands sh x name s table own idle h =
    let t = sym (number_is x s.own own) in
    record {
      table = table;
      number = h.number;
      own_is = own;
      list = h.list;
      within = h.within;
      idle = idle;
      quiet = subst (λ n. Later (λ (e : Effect). IsNotOf e n) x.begun x.ended) t h.quiet;
      marked = h.marked ∙ ap (λ (bs : List ℕ). first_gone sh s.obj (drop s.read bs) (length x.begun) x.ended) h.list;
      gathered = h.gathered ∙ ap₂ (λ (bs : List ℕ) n. map row_out (scanned (λ b. x.begun) (take s.read bs) (commit_count x.begun) n)) h.list t;
    }

abbrev with_mark : OpenScan → Option released.Gone → working.OpenScan
with_mark s m = record { obj = s.obj; at = s.at; own = s.own; blocks = s.blocks; read = s.read; rows = s.rows; mark = m }

marked : (sh : Shape) (s : OpenScan) → s.shape ≡ sh → (r : Record) → scan_of (marked_after r s) ≡ marked_by sh r (scan_of s)
marked sh s given (Lower l) =
    ap (with_mark s) (mark_is s.mark _
    ∙ ap (or_else (option_map gone_of s.mark)) (ap (λ (z : Shape). option_map gone_of (cond (eqb l.obj s.obj) (mark_with l.lowering (least_having z (unread s) l.released)) None)) given ∙ lowered_is sh l s.obj (unread s)))
marked sh s given _ = ap (with_mark s) (sym (or_none (option_map gone_of s.mark)))

pub scans_are_work : ScansAreWork
scans_are_work sh x name s given = record {
  held = λ a h. held sh x name s given a h;
  stands = λ table own idle h. stands sh x name s table own idle h;
  marked = λ r. marked sh s given r;
}
