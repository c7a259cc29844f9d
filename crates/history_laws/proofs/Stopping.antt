-- What a shrink skipped, and that it has not lowered, as records are added.
use Rattle.std.proofs.Common.{◌≡◌, ℕ, ◌≤◌, false, ◌||◌, List, [], ◌∷◌, length, sym, ◌∙◌, ap₂, subst, refl, arith, le_trans, le-leb}
use Rattle.seg_words.proofs.Lemmas.{cond-true, cond-false, lt-leb}
use Rattle.seg_words.specs.Types.{Shape}
use Rattle.redo_model.specs.Records.{Record, Move}
use Rattle.redo_laws.proofs.lists.Prefixes.{prefix_more}
use Rattle.redo_laws.proofs.lists.Since.{since_more}
use Rattle.shrink_laws.specs.declared.skip.Skip.{Skip}
use Rattle.shrink_laws.specs.Grown.{lowers}
use Rattle.shrink_laws.specs.Stops.{SkipsStand}
use Rattle.history_model.specs.Spans.{Span}
use Rattle.history_model.specs.SoFar.{IsUnlowered}
use Rattle.history_model.specs.Stopping.{HasCome, AreToldBy, AreSkippedAt, skips_by, MovedAt, AreMovedAt}
use Rattle.history_laws.specs.Others.{Spares}
use Rattle.history_laws.specs.Working.{grown}

pub skipped_at_more : (sh : Shape) (B R : List Record) (r : Record) (o : ℕ) (skips : List Skip) → SkipsStand B R skips → AreSkippedAt sh B R o skips → AreSkippedAt sh B (r ∷ R) o skips
skipped_at_more sh B R r o [] s h = tt
skipped_at_more sh B R r o (k ∷ ks) s h = (
  record { order = h.0.order; place = h.0.place; come = subst (λ (z : List Record). HasCome sh B z o ks h.0.place k.block k.slot) (sym (prefix_more R r k.records s.0.to)) h.0.come },
  skipped_at_more sh B R r o ks s.2 h.1,
)

pub unlowered_more : (x : Span) (r : Record) (o : ℕ) → length x.begun ≤ length x.ended → lowers o r ≡ false → IsUnlowered x o → IsUnlowered (grown x r) o
unlowered_more x r o l e h = since_more (lowers o) (length x.begun) x.ended r l ∙ ap₂ (λ u v. u || v) e h

-- before the shrink no Move is its own
pub moved_at_once : (sh : Shape) (B : List Record) (o : ℕ) (skips : List Skip) (R : List Record) → length R ≤ length B → AreMovedAt sh B o skips R
moved_at_once sh B o skips [] l = tt
moved_at_once sh B o skips (Move m ∷ R) l = (λ e k. absurd (omega (arith, l, k)), moved_at_once sh B o skips R (omega (arith, l)))
moved_at_once sh B o skips (_ ∷ R) l = moved_at_once sh B o skips R (omega (arith, l))

-- another session's record is no Move of the table
pub moved_at_more : (sh : Shape) (B : List Record) (o : ℕ) (skips : List Skip) (R : List Record) (r : Record) → Spares r o → AreMovedAt sh B o skips R → AreMovedAt sh B o skips (r ∷ R)
moved_at_more sh B o skips R (Move m) p h = (λ e l. absurd (p e), h)
moved_at_more sh B o skips R _ p h = h

-- a skip comes after the Moves that were made before it
pub moved_at_skip : (sh : Shape) (B : List Record) (o : ℕ) (s : Skip) (skips : List Skip) (R : List Record) → length R ≤ s.records → AreMovedAt sh B o skips R → AreMovedAt sh B o (s ∷ skips) R
moved_at_skip sh B o s skips [] l h = tt
moved_at_skip sh B o s skips (Move m ∷ R) l h = (
  λ e k. subst (λ (z : List Skip). MovedAt sh B R o z m) (sym (cond-false _ _ _ (lt-leb s.records (length R) (omega (arith, l))))) (h.0 e k),
  moved_at_skip sh B o s skips R (omega (arith, l)) h.1,
)
moved_at_skip sh B o s skips (_ ∷ R) l h = moved_at_skip sh B o s skips R (omega (arith, l)) h

-- all that were told so far had been told now
pub all_told : (B R : List Record) (n : ℕ) (skips : List Skip) → length R ≤ n → SkipsStand B R skips → skips_by n skips ≡ skips
all_told B R n [] l h = refl
all_told B R n (s ∷ ss) l h = cond-true _ _ _ (le-leb s.records n (le_trans h.0.to l))

pub told_by : (B R : List Record) (skips : List Skip) → SkipsStand B R skips → AreToldBy (length R) skips
told_by B R [] h = tt
told_by B R (s ∷ ss) h = h.0.to
