-- What decoding block 0 tells of the checkpoint that it says.
use Rattle.std.proofs.Common.{◌≡◌, ℕ, ◌+◌, ◌-◌, ◌<◌, ◌==◌, List, length, replicate, drop, Option, Some, None, Ok, Err, true, false, Bool, refl, sym, ap, subst, ◌∙◌, inl, inr, arith, length-append, length-take, if◌then◌else◌}
use Rattle.std.proofs.lemmas.Bool.{eqb-true}
use Rattle.std.proofs.lemmas.Slice.Eq.{bytes_eq-Decides}
use Rattle.std.specs.Str.{bytes_eq}
use Rattle.seg_words.proofs.Lemmas.{cases_Bool, length-replicate}
use Rattle.seg_words.specs.Types.{BLOCK_SIZE, CHECKPOINT_BLOCK}
use Rattle.segment_blocks.specs.Checkpoints.{Checkpoint as Numbers, spelling_of_checkpoint, front_of_checkpoint}
use Rattle.page_bytes.specs.declared.fault.PageFault.{PageFault as DecodeFault}
use Rattle.page_bytes.specs.declared.fault.PageFault.TheVariants as decode
use Rattle.page_bytes.specs.Types.{first_wrong}
use Rattle.page_bytes.proofs.Alike.{same_alike}
use Rattle.page_store.specs.declared.fault.PageFault.{PageFault}
use Rattle.page_store.specs.declared.fault.PageFault.TheVariants.{DeviceFault, BadPage, NoMemory}
use Rattle.page_store.specs.Types.{Answers, IsLook, block}
use Rattle.page_set.specs.declared.page.Page.{Page}
use Rattle.page_set.specs.declared.page.Page.TheVariants as kinds
use Rattle.page_set.specs.Pages.{dba_of}
use Rattle.page_set.specs.Spelled.{spelling_of, meaning_of, DecodesAt, IsWrongAt}
use Rattle.checkpoint_block.specs.declared.point.Checkpoint.{Checkpoint}
use Rattle.checkpoint_block.specs.Points.{point_of, point_on, is_own_page, IsSaid}

-- a page that was decoded says what is on it
pub decoded : (bytes : List ℕ) (p : Page) → DecodesAt CHECKPOINT_BLOCK bytes (Ok p) → point_on p ≡ point_of bytes
unfolding point_of
decoded bytes p h =
    let spelled : bytes ≡ spelling_of (meaning_of CHECKPOINT_BLOCK bytes) = h.1.0 ∙ ap spelling_of h.0 in
    let own : dba_of (meaning_of CHECKPOINT_BLOCK bytes) ≡ CHECKPOINT_BLOCK = sym (ap dba_of h.0) ∙ h.1.1 in
    let same : bytes_eq bytes (spelling_of (meaning_of CHECKPOINT_BLOCK bytes)) ≡ true = (bytes_eq-Decides bytes (spelling_of (meaning_of CHECKPOINT_BLOCK bytes))).1 spelled in
    rw (same, own) (ap point_on h.0)

-- bytes that aren't the spelling of a page of block 0 say none
pub says_none : (bytes : List ℕ) → (bytes ≡ spelling_of (meaning_of CHECKPOINT_BLOCK bytes) → dba_of (meaning_of CHECKPOINT_BLOCK bytes) ≡ CHECKPOINT_BLOCK → ⊥) → point_of bytes ≡ None
unfolding point_of
says_none bytes never = elim (cases_Bool (bytes_eq bytes (spelling_of (meaning_of CHECKPOINT_BLOCK bytes)))) [
  | inl same ↦ (elim (cases_Bool (dba_of (meaning_of CHECKPOINT_BLOCK bytes) == CHECKPOINT_BLOCK)) [
    | inl own ↦ absurd (never ((bytes_eq-Decides bytes (spelling_of (meaning_of CHECKPOINT_BLOCK bytes))).0 same) (eqb-true (dba_of (meaning_of CHECKPOINT_BLOCK bytes)) CHECKPOINT_BLOCK own))
    | inr other ↦ rw (same, other) refl
  ])
  | inr differ ↦ rw differ refl
]

pub refused : (bytes : List ℕ) (at : ℕ) → length bytes ≡ BLOCK_SIZE → IsWrongAt CHECKPOINT_BLOCK bytes at → point_of bytes ≡ None
refused bytes at long wrong = says_none bytes (λ spelled own. elim wrong.1 [
  | inl first ↦ absurd (omega (arith, wrong.0, first ∙ ap (first_wrong bytes) (sym spelled) ∙ same_alike bytes, long))
  | inr other ↦ other.1.0 own
])

pub wrong_bytes : (bytes : List ℕ) (e : DecodeFault) (at : ℕ) → length bytes ≡ BLOCK_SIZE → e ≡ decode.BadPage at → DecodesAt CHECKPOINT_BLOCK bytes (Err e) → point_of bytes ≡ None
wrong_bytes bytes e at long is h = refused bytes at long (subst (λ (x : DecodeFault). DecodesAt CHECKPOINT_BLOCK bytes (Err x)) is h)

-- each page that says a checkpoint is 4,096 bytes long
point_long : (p : Numbers) → length (spelling_of_checkpoint p) ≡ BLOCK_SIZE
unfolding spelling_of_checkpoint
point_long p = length-append (front_of_checkpoint p) (replicate (BLOCK_SIZE - length (front_of_checkpoint p)) 0) ∙ ap (λ (n : ℕ). length (front_of_checkpoint p) + n) (length-replicate {A = ℕ} (BLOCK_SIZE - length (front_of_checkpoint p)) 0)

shorter : (bytes spelling : List ℕ) → length bytes < BLOCK_SIZE → length spelling ≡ BLOCK_SIZE → bytes_eq bytes spelling ≡ false
shorter bytes spelling lt long = elim (cases_Bool (bytes_eq bytes spelling)) [
  | inl same ↦ absurd (omega (arith, lt, long, ap (λ (l : List ℕ). length l) ((bytes_eq-Decides bytes spelling).0 same)))
  | inr differ ↦ differ
]

abbrev said_by : List ℕ → Page → Option Checkpoint
said_by bytes page = if is_own_page bytes page then point_on page else None

either : (b : Bool) → ◌≡◌ {A = Option Checkpoint} (if b then None else None) None
either true = refl
either false = refl

said_short : (bytes : List ℕ) (p : Page) → length bytes < BLOCK_SIZE → said_by bytes p ≡ None
said_short bytes (kinds.Zero d) lt = rw (shorter bytes (replicate {A = ℕ} BLOCK_SIZE 0) lt (length-replicate {A = ℕ} BLOCK_SIZE 0)) refl
said_short bytes (kinds.Checkpoint p) lt = rw (shorter bytes (spelling_of_checkpoint p) lt (point_long p)) refl
said_short bytes (kinds.Txns t) lt = either (is_own_page bytes (kinds.Txns t))
said_short bytes (kinds.Catalogue c) lt = either (is_own_page bytes (kinds.Catalogue c))
said_short bytes (kinds.Space s) lt = either (is_own_page bytes (kinds.Space s))
said_short bytes (kinds.Undo u) lt = either (is_own_page bytes (kinds.Undo u))
said_short bytes (kinds.First m) lt = either (is_own_page bytes (kinds.First m))
said_short bytes (kinds.Second m) lt = either (is_own_page bytes (kinds.Second m))
said_short bytes (kinds.Third m) lt = either (is_own_page bytes (kinds.Third m))
said_short bytes (kinds.Header h) lt = either (is_own_page bytes (kinds.Header h))
said_short bytes (kinds.Rows x) lt = either (is_own_page bytes (kinds.Rows x))

-- fewer bytes than a page say no checkpoint
short : (bytes : List ℕ) → length bytes < BLOCK_SIZE → point_of bytes ≡ None
unfolding point_of
short bytes lt = said_short bytes (meaning_of CHECKPOINT_BLOCK bytes) lt

-- a fault of the look at block 0 in the file of a store, and in any file
pub store_fault : (bytes : List ℕ) (Q : Unit {0} → Type 0) (e : PageFault) → Answers (Err e) Q → IsSaid bytes (Err e)
store_fault bytes Q DeviceFault h = tt
store_fault bytes Q (BadPage b) h = absurd h
store_fault bytes Q NoMemory h = absurd h

pub file_fault : (file page : List ℕ) (e : PageFault) → IsLook file CHECKPOINT_BLOCK page (Err e) → IsSaid (block CHECKPOINT_BLOCK file) (Err e)
file_fault file page DeviceFault h = tt
file_fault file page (BadPage b) h = (short (block CHECKPOINT_BLOCK file) (omega (arith, h.0, length-take BLOCK_SIZE (drop 0 file))), h.1)
file_fault file page NoMemory h = absurd h

-- what the bytes that were read say
pub said_point : (own bytes : List ℕ) (point : Checkpoint) → bytes ≡ own → Some point ≡ point_of bytes → IsSaid own (Ok point)
said_point own bytes point same says = ap point_of (sym same) ∙ sym says

pub said_none : (own bytes : List ℕ) → bytes ≡ own → ◌≡◌ {A = Option Checkpoint} None (point_of bytes) → IsSaid own (Err (BadPage CHECKPOINT_BLOCK))
said_none own bytes same says = (ap point_of (sym same) ∙ sym says, refl)
