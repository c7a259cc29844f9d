-- A store as it was read of a disk, and what its making leaves there.
use Rattle.std.proofs.Common.{◌≡◌, true, ℕ, ◌*◌, ◌^◌, ◌<◌, ◌≤◌, List, [], ◌∷◌, ◌++◌, length, reverse, refl, sym, ap, subst, ◌∙◌, inl, inr, arith}
use Rattle.std.proofs.lemmas.List.{append-nil}
use Rattle.std.specs.Prelude.{Result, Err, IfErr}
use Rattle.std.specs.Borrow.{GName}
use Rattle.seg_words.specs.Types.{Shape, BLOCK_SIZE, is_shape}
use Rattle.seg_words.proofs.Lemmas.{length-reverse}
use Rattle.disk_model.specs.Files.{Files, content}
use Rattle.disk_model.specs.Crash.{Meaning, Now, Leaves, Untouched}
use Rattle.disk_model.specs.Only.{OnlyFile, IsSettled}
use Rattle.disk_model.specs.declared.disk.File.TheVariants.{Data, Log}
use Rattle.disk_model.proofs.Going.{weaker, then_leaves}
use Rattle.log_frame.specs.Spelling.{IsLog}
use Rattle.log_frame.specs.Ready.{IsReady}
use Rattle.store_files.specs.Store.{IsDurable}
use Rattle.redo_model.specs.Records.{Record}
use Rattle.redo_model.specs.Model.{commit_count, is_whole, prefix, AreAllowed, IsLawful}
use Rattle.redo_model.specs.Lists.{Extends, same, more}
use Rattle.redo_laws.proofs.lists.Prefixes.{extends_length, prefix_all, prefix_extends}
use Rattle.redo_log.specs.Kept.{Kept, Holds}
use Rattle.redo_log.specs.Lasting.{IsOpened}
use Rattle.redo_log.proofs.Acknowledging.{begins}
use Rattle.redo_log.proofs.Once.{holds_once}
use Rattle.page_store.specs.Types.{AsLong, LeavesLog}
use Rattle.page_store.proofs.Logs.{log_looked, log_settled}
use Rattle.store_pages.specs.Pages.{AreReadable, HasFolds, HasPages, LeavesFolds}
use Rattle.store_pages.specs.Redoing.{IsOpenable}
use Rattle.store_pages.specs.Refused.{HasBlocks, IsRefused as IsPageRefused}
use Rattle.frame_laws.proofs.SoFar.{pages_read_back}
use Rattle.pool_store.specs.Store.{Read, HasList, IsTrue, with_disk}
use Rattle.pool_store.specs.Survives.{HasLog, IsLeft, IsSound, Survives}
use Rattle.pool_store.specs.declared.fault.StoreOpen.{StoreOpen}
use Rattle.pool_store.proofs.Surviving.{none_newer}

allowed_first : (sh : Shape) (Q R : List Record) → Extends Q R → AreAllowed sh R → AreAllowed sh Q
allowed_first sh Q _ same h = h
allowed_first sh Q (r ∷ R) (more _ x) h = allowed_first sh Q R x h.0

-- the pages after the first of them can be read back as well
pub readable : (sh : Shape) (R : List Record) → is_shape sh ≡ true → length R < 2 ^ 63 → AreAllowed sh R → AreReadable sh R
readable sh R within few allowed = record {
  at = λ n. pages_read_back sh (prefix R n) within (omega (arith, few, extends_length (prefix R n) R (prefix_extends R n))) (allowed_first sh (prefix R n) R (prefix_extends R n) allowed);
}

pub few_of : (items R : List Record) → reverse items ≡ R → length items < 2 ^ 63 → length R < 2 ^ 63
few_of items R all few = omega (arith, few, length-reverse items, ap (λ (l : List Record). length l) all)

module _ {D : Type 0} (meaning : Meaning D) where
  pub settled_then : (old new : D) → IsSettled meaning old Log → Untouched meaning old new → IsSettled meaning new Log
  settled_then old new settled look = log_settled meaning old new (log_looked meaning old new look) settled

  pub log_then : (old new : D) → meaning.told old → Untouched meaning old new → (meaning.files new).log_bytes ≡ (meaning.files old).log_bytes
  log_then old new told look = ap (λ (f : Files). f.log_bytes) (look.files told)

  pub data_then : (old new : D) → meaning.told old → Untouched meaning old new → (meaning.files new).data_bytes ≡ (meaning.files old).data_bytes
  data_then old new told look = ap (λ (f : Files). f.data_bytes) (look.files told)

  blocks_then : (old new : D) (sh : Shape) → Untouched meaning old new → HasBlocks meaning old sh → HasBlocks meaning new sh
  blocks_then old new sh look has = record {
    settled = record { told = look.told.1 has.settled.told; durable = λ image is. has.settled.durable image ((look.images image).0 is) ∙ sym (data_then old new has.settled.told look) };
    within = has.within;
    long = subst (λ (bytes : List ℕ). BLOCK_SIZE * sh.blocks ≤ length bytes) (sym (data_then old new has.settled.told look)) has.long;
  }

  -- which block is named where the log was read first
  pub named_then : (old new : D) (sh : Shape) (records : List Record) (dba : ℕ) → Untouched meaning old new → (HasBlocks meaning new sh → IsPageRefused sh (meaning.files new).data_bytes records dba)
      → HasBlocks meaning old sh → IsPageRefused sh (meaning.files old).data_bytes records dba
  named_then old new sh records dba look names has =
      subst (λ (bytes : List ℕ). IsPageRefused sh bytes records dba) (data_then old new has.settled.told look) (names (blocks_then old new sh look has))

  pub is_log_then : (old new : D) (sh : Shape) (groups : List (List ℕ)) → meaning.told old → Untouched meaning old new → IsLog sh groups (meaning.files old).log_bytes → IsLog sh groups (meaning.files new).log_bytes
  is_log_then old new sh groups told look log = subst (IsLog sh groups) (sym (log_then old new told look)) log

  ready_then : (old new : D) (sh : Shape) (groups : List (List ℕ)) (end : ℕ) → IsReady meaning old sh groups end → LeavesLog meaning old new → IsReady meaning new sh groups end
  ready_then old new sh groups end ready stays = record {
    settled = log_settled meaning old new stays ready.settled;
    log = subst (IsLog sh groups) (sym (stays.log_stays ready.settled.told)) ready.log;
    at_end = ready.at_end;
  }

  pub opened_then : (old new : D) (sh : Shape) (groups : List (List ℕ)) (R : List Record) (log : Kept) → Untouched meaning old new → IsOpened meaning old sh groups groups [] R log → IsOpened meaning new sh groups groups [] R log
  opened_then old new sh groups R log look h =
      let ready = ready_then old new sh groups log.end h.ready (log_looked meaning old new look) in
      record { list = h.list; ready = ready; none = h.none; lasts = begins meaning sh groups log.end new ready }

  pub durable_log : (disk : D) → IsDurable meaning disk → IsSettled meaning disk Log
  durable_log disk h = record { told = h.told; durable = λ image is. ap (λ (f : Files). f.log_bytes) (h.durable image is) }

  durable_data : (disk : D) → IsDurable meaning disk → IsSettled meaning disk Data
  durable_data disk h = record { told = h.told; durable = λ image is. ap (λ (f : Files). f.data_bytes) (h.durable image is) }

  durable_then : (old new : D) → IsDurable meaning old → Untouched meaning old new → IsDurable meaning new
  durable_then old new h look = record { told = look.told.1 h.told; durable = λ image is. h.durable image ((look.images image).0 is) ∙ sym (look.files h.told) }

  -- what is needed to bring the pages up to the log, after it was read
  pub openable : (old new : D) (sh shape : Shape) (R records : List Record) → IsDurable meaning old → Untouched meaning old new → shape ≡ sh → reverse records ≡ R → HasFolds sh R 0 (meaning.files old).data_bytes → AreReadable sh R
      → IsOpenable meaning new shape records [] 0
  openable old new sh shape R records durable look shapes all folds back =
      let list : reverse records ++ [] ≡ R = append-nil (reverse records) ∙ all in
      let files = look.files durable.told in
      record {
        settled = durable_data new (durable_then old new durable look);
        count = refl;
        folds = subst (λ (s : Shape). HasFolds s (reverse records ++ []) 0 (meaning.files new).data_bytes) (sym shapes)
            (subst (λ (l : List Record). HasFolds sh l 0 (meaning.files new).data_bytes) (sym list) (subst (λ (f : Files). HasFolds sh R 0 f.data_bytes) (sym files) folds));
        readable = subst (λ (s : Shape). AreReadable s (reverse records ++ [])) (sym shapes) (subst (AreReadable sh) (sym list) back);
      }

  -- what was read: the head's shape, the log and its records
  pub record IsRead (disk : D) (sh : Shape) (groups : List (List ℕ)) (R : List Record) (r : Read D) : Type 0 where
    pub within : is_shape sh ≡ true
    pub shape : r.shape ≡ sh
    pub opened : IsOpened meaning disk sh groups groups [] R r.log
    pub holds : Holds groups [] R
    pub few : length R < 2 ^ 64
    pub commits : r.commits ≡ commit_count R

  pub is_read : (disk : D) (sh : Shape) (groups : List (List ℕ)) (R : List Record) (r : Read D) (items second : List Record) → is_shape sh ≡ true → r.shape ≡ sh → IsOpened meaning disk sh groups groups [] R r.log → Holds groups [] R → length items < 2 ^ 63
      → reverse items ≡ R → second ≡ items → r.commits ≡ commit_count (reverse second) → IsRead disk sh groups R r
  is_read disk sh groups R r items second within shape opened holds few all two commits = record {
    within = within;
    shape = shape;
    opened = opened;
    holds = holds;
    few = omega (arith, few_of items R all few);
    commits = commits ∙ ap (λ (l : List Record). commit_count (reverse l)) two ∙ ap commit_count all;
  }

  module _ (disk last : D) (sh : Shape) (groups : List (List ℕ)) (R : List Record) (r : Read D) (h : IsRead disk sh groups R r) (stays : LeavesLog meaning disk last) where
    pub read_list : (loan : GName) → HasList meaning R (with_disk last loan r)
    read_list loan = record {
      within = ap is_shape h.shape ∙ h.within;
      few = h.few;
      groups = groups;
      list = h.opened.list;
      commits = h.commits;
      ready = λ _. subst (λ (s : Shape). IsReady meaning last s groups r.log.end) (sym h.shape) (ready_then disk last sh groups r.log.end h.opened.ready stays);
    }

    all_stable : r.log.stable ≡ length R
    all_stable =
        let has = h.opened.list.has in
        let nobody = none_newer has.newer (sym has.bytes ∙ h.opened.none) in
        let same_list : R ≡ has.older = has.split ∙ ap (λ (l : List Record). l ++ has.older) nobody in
        omega (arith, has.stable, ap (λ (l : List Record). length l) same_list, h.few)

    pub read_true : (records : List Record) → IsLawful sh R → r.pages.shape ≡ r.shape → reverse records ≡ R → HasPages meaning last (reverse records) 0 (reverse records) r.pages → (loan : GName) → IsTrue meaning R (with_disk last loan r)
    unfolding read_list
    read_true records lawful same_shape all pages loan = record {
      list = read_list loan;
      lawful = subst (λ (s : Shape). IsLawful s R) (sym h.shape) lawful;
      stable = λ Q holds. ap is_whole (holds_once groups [] Q R holds h.holds) ∙ lawful.whole;
      same = same_shape;
      pages = λ _. subst (λ (l : List Record). HasPages meaning last l 0 R r.pages) (sym (prefix_all R r.log.stable (omega (arith, all_stable))))
          (subst (λ (l : List Record). HasPages meaning last l 0 l r.pages) all pages);
    }

    pub read_survives : (first : D) → r.first ≡ first → Leaves meaning first last (IsLeft sh (meaning.files first).data_bytes R (length R)) → (loan : GName)
        → Survives meaning (meaning.clock first) (λ _. length R) R (with_disk last loan r)
    read_survives first is leaves loan = record {
      begun = leaves.later;
      made = λ m. omega (arith, all_stable);
      each = λ m image from to crash. elim (leaves.each m image to crash) [
        | inl old ↦ absurd (omega (arith, old.0, from))
        | inr run ↦ moved image run.1
      ];
    }
      where
        moved : (image : Files) → IsLeft sh (meaning.files first).data_bytes R (length R) image → IsLeft r.shape (meaning.files r.first).data_bytes R (length R) image
        moved image left = subst (λ (s : Shape). IsLeft s (meaning.files r.first).data_bytes R (length R) image) (sym h.shape) (subst (λ (d : D). IsLeft sh (meaning.files d).data_bytes R (length R) image) (sym is) left)

  -- the disk of a sound store
  module _ (first : D) (sh : Shape) (R : List Record) (durable : IsDurable meaning first) (sound : IsSound sh R (meaning.files first)) where
    LeftOf : Files → Type 0
    LeftOf image = IsLeft sh (meaning.files first).data_bytes R (length R) image

    left_with : (image : Files) → image.log_bytes ≡ (meaning.files first).log_bytes → length image.data_bytes ≡ length (meaning.files first).data_bytes → HasFolds sh R 0 image.data_bytes → IsLeft sh (meaning.files first).data_bytes R (length R) image
    left_with image log long folds = record {
      older = R;
      part = same;
      enough = omega arith;
      sound = record {
        log = subst (HasLog sh R) (sym log) sound.log;
        lawful = sound.lawful;
        blocks = omega (arith, sound.blocks, long);
        folds = folds;
      };
      long = long;
    }

    -- calls that only read it
    pub left_looked : (new : D) → Untouched meaning first new → Leaves meaning first new (IsLeft sh (meaning.files first).data_bytes R (length R))
    left_looked new look = weaker meaning first new (Now meaning first) (IsLeft sh (meaning.files first).data_bytes R (length R)) look.leaves
        (λ image is. let files = durable.durable image is in
        left_with image (ap (λ (f : Files). f.log_bytes) files) (ap (λ (f : Files). length f.data_bytes) files) (subst (λ (f : Files). HasFolds sh R 0 f.data_bytes) (sym files) sound.folds))

    -- and then wrote pages into the data file
    pub left_written : (mid new : D) (shape : Shape) (records : List Record) → Untouched meaning first mid → shape ≡ sh → reverse records ≡ R → LeavesFolds meaning mid new shape (reverse records) 0
        → Leaves meaning first new (IsLeft sh (meaning.files first).data_bytes R (length R))
    left_written mid new shape records look same_shape all leaves =
        then_leaves meaning first mid new (IsLeft sh (meaning.files first).data_bytes R (length R)) (left_looked mid look)
        (weaker meaning mid new (OnlyFile meaning mid Data (AsLong (meaning.files mid).data_bytes (HasFolds shape (reverse records) 0))) (IsLeft sh (meaning.files first).data_bytes R (length R)) leaves
        (λ image only.
        let was = durable.durable only.was ((look.images only.was).0 only.before) in
        left_with image (ap (content Log) only.rest ∙ ap (λ (f : Files). f.log_bytes) was)
        (only.holds.long ∙ ap (λ (f : Files). length f.data_bytes) (look.files durable.told))
        (subst (λ (s : Shape). HasFolds s R 0 image.data_bytes) same_shape (subst (λ (l : List Record). HasFolds shape l 0 image.data_bytes) all only.holds.is))))

pub lawful_as : (sh other : Shape) (R Q : List Record) → other ≡ sh → Q ≡ R → IsLawful sh R → IsLawful other Q
lawful_as sh other R Q a b h = subst (λ (s : Shape). IsLawful s Q) (sym a) (subst (IsLawful sh) (sym b) h)

-- a fault that is handed on
pub err_with : {T : Type 0} (r : Result T StoreOpen) (e : StoreOpen) (P : StoreOpen → Type 0) → r ≡ Err e → P e → IfErr r P
err_with {T = T} r e P is holds = subst (λ (x : Result T StoreOpen). IfErr x P) (sym is) holds
