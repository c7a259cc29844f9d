-- Open scans and what an event released.
use Rattle.std.proofs.Common.{◌≡◌, ℕ, ◌≤◌, Bool, true, false, cond, eqb, List, [], ◌∷◌, length, Option, Some, None, refl, sym, ◌∙◌, ap, le_refl}
use Rattle.std.specs.Prelude.{option_map}
use Rattle.seg_words.specs.Types.{Shape}
use Rattle.redo_model.specs.Records.{Record, Lower, LowerRecord}
use Rattle.history_model.specs.Released as released
use Rattle.history_model.specs.Released.{first_gone, gone_by, gone_with, least_having, or_else}
use Rattle.history_laws.specs.Working as working
use Rattle.history_laws.specs.Working.{marked_since}
use Rattle.history_laws.proofs.Marks.{first_more, none_since}
use Rattle.store_core.specs.declared.lowered.Lowered.{Lowered}
use Rattle.scan_table.specs.declared.scan.Gone.{Gone}
use Rattle.scan_table.specs.declared.scan.OpenScan.{OpenScan}
use Rattle.scan_table.specs.Places.{place}
use Rattle.scan_table.specs.Sessions.{scan_of}
use Rattle.scan_table.specs.Standing.{gone_of, mark_with, marked_by, or_mark, unread}
use Rattle.lowering.specs.Answered.{answer_of, none_released}
use Rattle.session_core.specs.Marks.{AreMarked, marked_over, told_gone}

-- ---- as the work of a session's statement

marks_same : (m : Option Gone) (g : Option released.Gone) → option_map gone_of (or_mark m (option_map told_gone g)) ≡ or_else (option_map gone_of m) g
marks_same None None = refl
marks_same None (Some g) = refl
marks_same (Some m) g = refl

pub scan_marked : (n : ℕ) (R : List Record) (s : OpenScan) → scan_of (marked_over n R s) ≡ marked_since s.shape n R (scan_of s)
scan_marked n R s = ap with_mark (marks_same s.mark (first_gone s.shape s.obj (unread s) n R))
  where
    with_mark : Option released.Gone → working.OpenScan
    with_mark m = record { obj = s.obj; at = s.at; own = s.own; blocks = s.blocks; read = s.read; rows = s.rows; mark = m }

-- ---- where nothing was released

kept_mark : (m : Option Gone) → or_mark m None ≡ m
kept_mark None = refl
kept_mark (Some g) = refl

kept_scan : (s : OpenScan) (m : Option Gone) → m ≡ None → record s { mark = or_mark s.mark m } ≡ s
kept_scan s m e = ap (λ (z : Option Gone). marking z) (ap (or_mark s.mark) e ∙ kept_mark s.mark)
  where
    marking : Option Gone → OpenScan
    marking z = record s { mark = z }

not_marked : (R : List Record) (s : OpenScan) → marked_over (length R) R s ≡ s
not_marked R s = kept_scan s (option_map told_gone (first_gone s.shape s.obj (unread s) (length R) R)) (ap (option_map told_gone) (none_since s.shape s.obj (unread s) R))

none_marked : (o high : ℕ) (s : OpenScan) → marked_by o (none_released high) s ≡ s
none_marked o high s = kept_scan s (cond (eqb o s.obj) (mark_with 0 (least_having s.shape (unread s) [])) None) (either (eqb o s.obj))
  where
    either : (v : Bool) → ◌≡◌ {A = Option Gone} (cond v (mark_with 0 None) None) None
    either true = refl
    either false = refl

-- ---- a lowering

gone_told : (n : ℕ) (x : Option ℕ) → option_map told_gone (gone_with n x) ≡ mark_with n x
gone_told n None = refl
gone_told n (Some x) = refl

by_told : (v : Bool) (n : ℕ) (x : Option ℕ) → option_map told_gone (cond v (gone_with n x) None) ≡ cond v (mark_with n x) None
by_told true n x = gone_told n x
by_told false n x = refl

lower_marks : (l : LowerRecord) (R : List Record) (s : OpenScan) → marked_by l.obj (answer_of l) s ≡ marked_over (length R) (Lower l ∷ R) s
lower_marks l R s =
    let first = first_more s.shape s.obj (unread s) (length R) R (Lower l) (le_refl (length R)) ∙ ap (λ (g : Option released.Gone). or_else g (gone_by s.shape (Lower l) s.obj (unread s))) (none_since s.shape s.obj (unread s) R) in
    sym (ap marking (ap (λ (g : Option released.Gone). or_mark s.mark (option_map told_gone g)) first ∙ ap (or_mark s.mark) (by_told (eqb l.obj s.obj) l.lowering (least_having s.shape (unread s) l.released))))
  where
    marking : Option Gone → OpenScan
    marking z = record s { mark = z }

-- ---- all open scans

map_same : (f g : OpenScan → OpenScan) (p : Option OpenScan) → ((s : OpenScan) → f s ≡ g s) → option_map f p ≡ option_map g p
map_same f g None h = refl
map_same f g (Some s) h = ap (λ (z : OpenScan). Some z) (h s)

map_none : (f : OpenScan → OpenScan) (p : Option OpenScan) → ((s : OpenScan) → f s ≡ s) → p ≡ option_map f p
map_none f None h = refl
map_none f (Some s) h = ap (λ (z : OpenScan). Some z) (sym (h s))

-- nothing is released
pub unreleased : (n : ℕ) (R : List Record) (before : List (Option OpenScan)) → ((sh : Shape) (o : ℕ) (unread : List ℕ) → first_gone sh o unread n R ≡ None) → AreMarked n R before before
unreleased n R before g = λ v l. map_none (marked_over n R) (place v before) (λ s. kept_scan s (option_map told_gone (first_gone s.shape s.obj (unread s) n R)) (ap (option_map told_gone) (g s.shape s.obj (unread s))))

-- nothing was added
pub unmarked : (R : List Record) (before : List (Option OpenScan)) → AreMarked (length R) R before before
unmarked R before = λ v l. map_none (marked_over (length R) R) (place v before) (λ s. not_marked R s)

abbrev pub AreTold : ℕ → Lowered → List (Option OpenScan) → List (Option OpenScan) → Type 0
AreTold o x before after = (v : ℕ) → 1 ≤ v → place v after ≡ option_map (marked_by o x) (place v before)

-- nothing was released
pub kept_marks : (o high : ℕ) (x : Lowered) (R : List Record) (before after : List (Option OpenScan)) → x ≡ none_released high → AreTold o x before after → AreMarked (length R) R before after
kept_marks o high x R before after e t = λ v l.
    t v l ∙ (ap (λ (z : Lowered). option_map (marked_by o z) (place v before)) e ∙ map_same (marked_by o (none_released high)) (marked_over (length R) R) (place v before) (λ s. none_marked o high s ∙ sym (not_marked R s)))

-- or this Lower did
pub lowered_marks : (o : ℕ) (x : Lowered) (l : LowerRecord) (R : List Record) (before after : List (Option OpenScan)) → l.obj ≡ o → x ≡ answer_of l → AreTold o x before after → AreMarked (length R) (Lower l ∷ R) before after
lowered_marks o x l R before after same e t = λ v p.
    t v p ∙ (ap (λ (z : Lowered). option_map (marked_by o z) (place v before)) e ∙ (ap (λ (z : ℕ). option_map (marked_by z (answer_of l)) (place v before)) (sym same) ∙ map_same (marked_by l.obj (answer_of l)) (marked_over (length R) (Lower l ∷ R)) (place v before) (λ s. lower_marks l R s)))
