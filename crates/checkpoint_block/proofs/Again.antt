-- The page of a checkpoint says it, and a page of zeros the first one.
use Rattle.std.proofs.Common.{◌≡◌, ◌≢◌, ℕ, ◌==◌, List, Some, replicate, true, false, Bool, refl, sym, ap, inl, inr, arith, if◌then◌else◌}
use Rattle.std.proofs.lemmas.Bool.{eqb-true}
use Rattle.std.proofs.lemmas.Slice.Eq.{bytes_eq-Decides}
use Rattle.std.specs.Str.{bytes_eq}
use Rattle.seg_words.proofs.Lemmas.{cases_Bool}
use Rattle.seg_words.specs.Types.{BLOCK_SIZE, CHECKPOINT_BLOCK}
use Rattle.page_set.specs.declared.page.Page.{Page}
use Rattle.page_set.specs.declared.page.Page.TheVariants as kinds
use Rattle.page_set.specs.Pages.{dba_of}
use Rattle.page_set.specs.Spelled.{spelling_of, meaning_of}
use Rattle.page_set.proofs.ReadAgain.{meaning_again}
use Rattle.checkpoint_block.specs.declared.point.Checkpoint.{Checkpoint}
use Rattle.checkpoint_block.specs.Points.{first_point, point_of, point_on, page_of_point, spelled_point, with_point, HasNumbers, HasPoint}

pub same_bytes : (bytes : List ℕ) → bytes_eq bytes bytes ≡ true
same_bytes bytes = (bytes_eq-Decides bytes bytes).1 refl

-- a page of block 0 that reads as itself says what is on it
says : (p : Page) → dba_of p ≡ CHECKPOINT_BLOCK → meaning_of CHECKPOINT_BLOCK (spelling_of p) ≡ p → point_of (spelling_of p) ≡ point_on p
unfolding point_of
says p own reads = rw (reads, own, same_bytes (spelling_of p)) refl

pub said_again : (p : Checkpoint) → HasNumbers p → point_of (spelled_point p) ≡ Some p
said_again p has = says (page_of_point p) refl (meaning_again (page_of_point p) (record { dba = omega arith; records = has.length; end_gate = has.end_gate; commits = has.commits }))

pub zeros_say : point_of (replicate BLOCK_SIZE 0) ≡ Some first_point
zeros_say = says (kinds.Zero CHECKPOINT_BLOCK) refl (meaning_again (kinds.Zero CHECKPOINT_BLOCK) tt)

other_block : (b : ℕ) → b ≢ CHECKPOINT_BLOCK → (CHECKPOINT_BLOCK == b) ≡ false
other_block b apart = elim (cases_Bool (CHECKPOINT_BLOCK == b)) [
  | inl same ↦ absurd (apart (sym (eqb-true CHECKPOINT_BLOCK b same)))
  | inr differ ↦ differ
]

pub others_stay : (point : Checkpoint) (pages : ℕ → List ℕ) → HasPoint point pages (with_point point pages)
others_stay point pages = record { here = refl; others = λ b apart. ap (λ (t : Bool). if t then spelled_point point else pages b) (other_block b apart) }
