-- What a stopped shrink means.
use Rattle.std.proofs.Common.{◌≡◌, ℕ, zero, suc, ◌+◌, ◌≤◌, ◌<◌, Bool, true, false, cond, List, [], ◌∷◌, length, drop, Some, refl, sym, ◌∙◌, ap, subst, arith, le_refl, inl, inr}
use Rattle.seg_words.specs.Types.{Shape}
use Rattle.redo_model.specs.Records.{Record, Lower}
use Rattle.redo_model.specs.Model.{prefix, Extent, extents_of, extent_at, is_vacant, kept_length}
use Rattle.redo_laws.proofs.lists.Prefixes.{prefix_all, prefix_more}
use Rattle.shrink_laws.specs.Stops.{SkipsStand}
use Rattle.history_model.specs.Spans.{Span}
use Rattle.history_model.specs.Stopping.{AreSkippedAt, AreMovedAt}
use Rattle.history_model.specs.ShrinkMeans.{move_count, StopIs, MovesMean, LastStays}
use Rattle.history_laws.specs.Working.{StoppedWork, StoppedStands}
use Rattle.history_laws.specs.Shrinks.{ShrinksStop, CompactsMean, LowersMean, StaysMean, LastExtentsStay}

pub shrinks_stop : ShrinksStop
shrinks_stop sh x name k stop s h =
    let now : x.ended ≡ prefix x.ended (length x.ended) = sym (prefix_all x.ended (length x.ended) (le_refl (length x.ended))) in
    record {
      table = h.table;
      still = h.still;
      idle = h.idle;
      from = h.cursor.longer;
      to = le_refl (length x.ended);
      moves = h.moves;
      none_after = ap (λ (z : List Record). move_count z k.obj) now;
      skipped = subst (λ (z : List Record). SkipsStand x.begun z k.skips) now h.skipped;
      skipped_at = subst (λ (z : List Record). AreSkippedAt sh x.begun z k.obj k.skips) now h.skipped_at;
      moved_at = subst (λ (z : List Record). AreMovedAt sh x.begun k.obj k.skips z) now h.moved_at;
      unlowered = h.unlowered;
      stops = subst (λ (z : List Record). StopIs sh x.begun z k.obj k.skips stop) now s;
    }

moves_mean : (sh : Shape) (x : Span) (name : List ℕ) (k : StoppedWork) → StoppedStands sh x name k → MovesMean sh x name k.moved (length k.skips) k.stop k.skips k.stopped k.obj
moves_mean sh x name k h = record { table = h.table; from = h.from; to = h.to; moves = h.moves; none_after = h.none_after; count = refl; skipped_so = h.skipped; skipped_at = h.skipped_at; moved_at = h.moved_at; stops = h.stops }

pub compacts_mean : CompactsMean
compacts_mean sh x name k h = record { obj = k.obj; moves = moves_mean sh x name k h; unlowered = h.unlowered }

pub lowers_mean : LowersMean
lowers_mean sh x name k l e h =
    let at : prefix x.ended k.stopped ≡ prefix (Lower l ∷ x.ended) k.stopped = sym (prefix_more x.ended (Lower l) k.stopped h.to) in
    record {
      obj = k.obj;
      moves = record {
        table = h.table;
        from = h.from;
        to = (let t : k.stopped ≤ length x.ended = h.to in omega (arith, t));
        moves = h.moves;
        none_after = h.none_after ∙ ap (λ (z : List Record). move_count z k.obj) at;
        count = refl;
        skipped_so = subst (λ (z : List Record). SkipsStand x.begun z k.skips) at h.skipped;
        skipped_at = subst (λ (z : List Record). AreSkippedAt sh x.begun z k.obj k.skips) at h.skipped_at;
        moved_at = subst (λ (z : List Record). AreMovedAt sh x.begun k.obj k.skips z) at h.moved_at;
        stops = subst (λ (z : List Record). StopIs sh x.begun z k.obj k.skips k.stop) at h.stops;
      };
      lowered = inl (record { before = x.ended; lower = l; table = e; count = refl; ends = refl; only = h.unlowered });
      high_is = refl;
    }

pub stays_mean : StaysMean
stays_mean sh x name k s h = record { obj = k.obj; moves = moves_mean sh x name k h; lowered = inr (record { none = refl; stays = s; unlowered = h.unlowered }); high_is = refl }

-- the last of some extents, where all of them are kept

record LastKept (sh : Shape) (R : List Record) (index : ℕ) (es : List Extent) : Type 0 where
  at : ℕ
  extent : Extent
  is_last : length es ≡ suc at
  here : extent_at es at ≡ Some extent
  not_vacant : is_vacant sh R (index + at) extent.number ≡ false

kept_off : (v : Bool) → ◌≡◌ {A = ℕ} (cond v 0 1) 1 → v ≡ false
kept_off true e = absurd (omega (arith, e))
kept_off false e = refl

last_kept : (sh : Shape) (R : List Record) (index : ℕ) (e : Extent) (es : List Extent) → kept_length sh R index (e ∷ es) ≡ suc (length es) → LastKept sh R index (e ∷ es)
last_kept sh R index e [] h = record { at = 0; extent = e; is_last = refl; here = refl; not_vacant = subst (λ i. is_vacant sh R i e.number ≡ false) (plus_zero index) (kept_off (is_vacant sh R index e.number) h) }
  where
    plus_zero : (n : ℕ) → n ≡ n + 0
    plus_zero n = omega arith
last_kept sh R index e (f ∷ fs) h =
    (elim (kept_length sh R (suc index) (f ∷ fs)) as (λ m. kept_length sh R (suc index) (f ∷ fs) ≡ m → elim m as (λ _. ℕ) [ zero ↦ cond (is_vacant sh R index e.number) 0 1 | suc n ↦ suc (suc n) ] ≡ suc (suc (length fs)) → LastKept sh R index (e ∷ f ∷ fs)) [
      | zero ↦ λ y g. absurd (few (is_vacant sh R index e.number) g)
      | suc n ↦ λ y g. longer (last_kept sh R (suc index) f fs (y ∙ (let z : suc (suc n) ≡ suc (suc (length fs)) = g in omega (arith, z))))
    ]) refl h
  where
    few : (v : Bool) → ◌≡◌ {A = ℕ} (cond v 0 1) (suc (suc (length fs))) → ⊥
    few true g = omega (arith, g)
    few false g = omega (arith, g)

    longer : LastKept sh R (suc index) (f ∷ fs) → LastKept sh R index (e ∷ f ∷ fs)
    longer k = record { at = suc k.at; extent = k.extent; is_last = (let z : suc (length fs) ≡ suc k.at = k.is_last in omega (arith, z)); here = k.here; not_vacant = subst (λ i. is_vacant sh R i k.extent.number ≡ false) (next index k.at) k.not_vacant }
      where
        next : (i n : ℕ) → suc i + n ≡ i + suc n
        next i n = omega arith

pub last_extents_stay : LastExtentsStay
last_extents_stay sh R o some h = go (extents_of R o) refl h some
  where
    go : (es : List Extent) → extents_of R o ≡ es → suc (kept_length sh R 1 (drop 1 es)) ≡ length es → 0 < length es → LastStays sh R o
    go [] e h l = absurd (omega (arith, l))
    go (x ∷ []) e h l = record { index = 0; extent = x; is_last = ap (λ (z : List Extent). length z) e; at = ap (λ (z : List Extent). extent_at z 0) e; stays = inl refl }
    go (x ∷ f ∷ fs) e h l =
        let k = last_kept sh R 1 f fs (let z : suc (kept_length sh R 1 (f ∷ fs)) ≡ suc (suc (length fs)) = h in omega (arith, z)) in
        record {
          index = suc k.at;
          extent = k.extent;
          is_last = ap (λ (z : List Extent). length z) e ∙ (let z : suc (length fs) ≡ suc k.at = k.is_last in let y : suc (suc (length fs)) ≡ suc (suc k.at) = omega (arith, z) in y);
          at = ap (λ (z : List Extent). extent_at z (suc k.at)) e ∙ k.here;
          stays = inr (subst (λ i. is_vacant sh R i k.extent.number ≡ false) (let z : 1 + k.at ≡ suc k.at = omega arith in z) k.not_vacant);
        }
