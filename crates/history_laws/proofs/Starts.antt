-- Starts that are noted one after the other.
use Rattle.std.proofs.Common.{◌≡◌, ℕ, suc, ◌≤◌, ◌<◌, true, cond, ◌||◌, ◌&&◌, leb, List, [], ◌∷◌, ◌++◌, length, Option, refl, sym, ◌∙◌, subst, arith, le_refl, leb-true, true≢false, inl, inr}
use Rattle.std.specs.Prelude.{MatchOption}
use Rattle.seg_words.proofs.Lemmas.{or_left, or_cases, and_parts}
use Rattle.redo_model.specs.Records.{Record, Commit, Move}
use Rattle.redo_model.specs.Model.{commit_count, is_commit, steps, effect_of, txn_effect}
use Rattle.scan_laws.specs.Changes.{commits_row, moves_row, changed_above, changed_between}
use Rattle.scan_laws.proofs.ChangesLaw.{counts_rise, changes_tell}
use Rattle.history_model.specs.Causes.{AreStarts}
use Rattle.history_laws.specs.Working.{FoundAt, HasStarted, PlaceStands}
use Rattle.history_laws.specs.Starts.{StartsGoOn, StartsEnd}

-- what changes a row is a commit
is_numbered : (R : List Record) (r : Record) (n : ℕ) → (commits_row (txn_effect r) (steps R) n || moves_row (effect_of r) n) ≡ true → is_commit r ≡ true
is_numbered R (Commit c) n h = refl
is_numbered R (Move m) n h = refl
is_numbered R _ n h = absurd (true≢false (sym h))

-- a change above a number has a number above it
above_less : (R : List Record) (s n : ℕ) → changed_above R s n ≡ true → s < commit_count R
above_less [] s n h = absurd (true≢false (sym h))
above_less (r ∷ R) s n h =
    elim (or_cases (leb s (commit_count R) && (commits_row (txn_effect r) (steps R) n || moves_row (effect_of r) n)) (changed_above R s n) h) [
      | inl y ↦
          let p = and_parts (leb s (commit_count R)) (commits_row (txn_effect r) (steps R) n || moves_row (effect_of r) n) y in
          let l : s ≤ commit_count R = leb-true s (commit_count R) p.0 in
          subst (λ v. s < cond v (suc (commit_count R)) (commit_count R)) (sym (is_numbered R r n p.1)) (omega (arith, l))
      | inr z ↦ let l : s < commit_count R = above_less R s n z in let m : commit_count R ≤ commit_count (r ∷ R) = counts_rise R r in omega (arith, l, m)
    ]

-- a start more
start_more : (E : List Record) (n s : ℕ) (cs : List ℕ) (m c : ℕ) → HasStarted E n s cs m → m < c → changed_between E m c n ≡ true → HasStarted E n s (cs ++ c ∷ []) c
start_more E n s [] m c h l e = (subst (λ z. z < c) (sym h) l, subst (λ z. changed_between E z c n ≡ true) (sym h) e, refl)
start_more E n s (d ∷ cs) m c h l e = (h.0, h.1, start_more E n d cs m c h.2 l e)

starts_now : (E : List Record) (n s : ℕ) (cs : List ℕ) (m : ℕ) → HasStarted E n s cs m → m ≡ commit_count E → AreStarts E n s cs
starts_now E n s [] m h e = h ∙ e
starts_now E n s (c ∷ cs) m h e = (h.0, h.1, starts_now E n c cs m h.2 e)

size_more : (cs : List ℕ) (c : ℕ) → length (cs ++ c ∷ []) ≡ suc (length cs)
size_more [] c = refl
size_more (d ∷ cs) c = let e = size_more cs c in omega (arith, e)

-- since the last start the row has changed
changed_since : (E : List Record) (n last start c : ℕ) → last ≤ start → changed_above E start n ≡ true → c ≡ commit_count E → (last < c) × (changed_between E last c n ≡ true)
changed_since E n last start c l h e =
    let less : start < commit_count E = above_less E start n h in
    let t = changes_tell E in
    let now : changed_between E last (commit_count E) n ≡ true = t.parted last start (commit_count E) n l (omega (arith, less)) ∙ or_left (changed_between E start (commit_count E) n) _ (t.above start n ∙ h) in
    (omega (arith, l, less, e), subst (λ z. changed_between E last z n ≡ true) (sym e) now)

pub starts_go_on : StartsGoOn
starts_go_on sh x st k f c at h few s =
    let p : PlaceStands sh x k s.last f = subst (λ (o : Option FoundAt). MatchOption o (Unit {0}) (PlaceStands sh x k s.last)) at s.found in
    let q = changed_since x.ended k.row s.last f.start c p.1 h.changed h.now in
    record {
      on = record { name = s.on.name; named = s.on.named; table = s.on.table; target = s.on.target; targeted = s.on.targeted; row = s.on.row };
      idle = s.idle;
      last = c;
      started = start_more x.ended k.row (commit_count x.begun) k.starts s.last c s.started q.0 q.1;
      few = subst (λ n. n < 16) (sym (size_more k.starts c)) few;
      known = subst (λ n. c ≤ n) h.now (le_refl c);
      found = tt;
    }

pub starts_end : StartsEnd
starts_end sh x st k f c at h full s =
    let p : PlaceStands sh x k s.last f = subst (λ (o : Option FoundAt). MatchOption o (Unit {0}) (PlaceStands sh x k s.last)) at s.found in
    let q = changed_since x.ended k.row s.last f.start c p.1 h.changed h.now in
    record {
      obj = k.obj;
      row = k.row;
      on = s.on;
      starts = starts_now x.ended k.row (commit_count x.begun) (k.starts ++ c ∷ []) c (start_more x.ended k.row (commit_count x.begun) k.starts s.last c s.started q.0 q.1) h.now;
      count = size_more k.starts c ∙ full;
    }
