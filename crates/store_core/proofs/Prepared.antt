-- A store as it was read of a disk.
use Rattle.std.proofs.Common.{◌≡◌, true, ℕ, ◌^◌, ◌<◌, List, [], ◌++◌, length, reverse, sym, ap, subst, ◌∙◌, inl, inr, arith}
use Rattle.std.specs.Borrow.{GName}
use Rattle.seg_words.specs.Types.{Shape, is_shape}
use Rattle.seg_words.proofs.Lemmas.{length-reverse}
use Rattle.disk_model.specs.Files.{Files}
use Rattle.disk_model.specs.Crash.{Meaning, Now, Untouched}
use Rattle.disk_model.specs.Only.{IsSettled}
use Rattle.disk_model.specs.declared.disk.File.TheVariants.{Log}
use Rattle.disk_model.proofs.Runs.{settles_looked}
use Rattle.log_frame.specs.Spelling.{IsLog}
use Rattle.log_frame.specs.Ready.{IsReady}
use Rattle.store_files.specs.Store.{IsDurable}
use Rattle.redo_model.specs.Records.{Record}
use Rattle.redo_model.specs.Model.{commit_count, is_whole, IsLawful}
use Rattle.redo_model.specs.Lists.{same}
use Rattle.redo_log.specs.Kept.{Holds}
use Rattle.redo_log.specs.Lasting.{IsOpened}
use Rattle.redo_log.proofs.Once.{holds_once}
use Rattle.page_map.specs.Pages.{HasPages}
use Rattle.store_core.specs.Store.{Read, HasList, IsTrue, with_disk}
use Rattle.store_core.specs.Survives.{IsSound, IsLeft, Survives}
use Rattle.store_core.specs.Causes.{IsSoundOpen}
use Rattle.store_core.specs.declared.fault.StoreOpen.{StoreOpen}
use Rattle.store_core.specs.declared.fault.StoreOpen.TheVariants as opens
use Rattle.store_core.proofs.Surviving.{none_newer}

module _ {D : Type 0} (meaning : Meaning D) where
  pub settled_then : (old new : D) → IsSettled meaning old Log → Untouched meaning old new → IsSettled meaning new Log
  settled_then old new settled look = (settles_looked meaning Log old new (λ (b : List ℕ). Unit {0}) settled look tt).settled

  pub log_then : (old new : D) → meaning.told old → Untouched meaning old new → (meaning.files new).log_bytes ≡ (meaning.files old).log_bytes
  log_then old new told look = ap (λ (f : Files). f.log_bytes) (look.files told)

  pub is_log_then : (old new : D) (sh : Shape) (groups : List (List ℕ)) → meaning.told old → Untouched meaning old new → IsLog sh groups (meaning.files old).log_bytes → IsLog sh groups (meaning.files new).log_bytes
  is_log_then old new sh groups told look log = subst (IsLog sh groups) (sym (log_then old new told look)) log

  ready_then : (old new : D) (sh : Shape) (groups : List (List ℕ)) (end : ℕ) → IsReady meaning old sh groups end → Untouched meaning old new → IsReady meaning new sh groups end
  ready_then old new sh groups end h look = record { settled = settled_then old new h.settled look; log = is_log_then old new sh groups h.settled.told look h.log; at_end = h.at_end }

  -- what was read: the head's shape, the log, its records, and what they make
  pub record IsRead (disk : D) (sh : Shape) (groups : List (List ℕ)) (R : List Record) (r : Read D) : Type 0 where
    pub within : is_shape sh ≡ true
    pub shape : r.shape ≡ sh
    pub opened : IsOpened meaning disk sh groups groups [] R r.log
    pub holds : Holds groups [] R
    pub few : length R < 2 ^ 64
    pub pages : HasPages r.shape R r.pages
    pub commits : r.commits ≡ commit_count R

  module _ (disk last : D) (sh : Shape) (groups : List (List ℕ)) (R : List Record) (r : Read D) (h : IsRead disk sh groups R r) (look : Untouched meaning disk last) where
    pub read_list : (loan : GName) → HasList meaning R (with_disk last loan r)
    read_list loan = record {
      within = ap is_shape h.shape ∙ h.within;
      few = h.few;
      groups = groups;
      list = h.opened.list;
      pages = h.pages;
      commits = h.commits;
      ready = λ _. subst (λ (s : Shape). IsReady meaning last s groups r.log.end) (sym h.shape) (ready_then disk last sh groups r.log.end h.opened.ready look);
    }

    pub read_true : IsLawful sh R → (loan : GName) → IsTrue meaning R (with_disk last loan r)
    unfolding read_list
    read_true lawful loan = record {
      list = read_list loan;
      lawful = subst (λ (s : Shape). IsLawful s R) (sym h.shape) lawful;
      stable = λ Q holds. ap is_whole (holds_once groups [] Q R holds h.holds) ∙ lawful.whole;
    }

    all_stable : r.log.stable ≡ length R
    all_stable =
        let has = h.opened.list.has in
        let nobody = none_newer has.newer (sym has.bytes ∙ h.opened.none) in
        let same_list : R ≡ has.older = has.split ∙ ap (λ (l : List Record). l ++ has.older) nobody in
        omega (arith, has.stable, ap (λ (l : List Record). length l) same_list, h.few)

    pub read_survives : (first : D) → r.first ≡ first → IsDurable meaning first → IsSound sh R (meaning.files first) → Untouched meaning first last → (loan : GName)
        → Survives meaning (meaning.clock first) (λ _. length R) R (with_disk last loan r)
    read_survives first is durable sound whole loan = record {
      begun = whole.leaves.later;
      made = λ m. omega (arith, all_stable);
      each = λ m image from to crash. elim (whole.leaves.each m image to crash) [
        | inl before ↦ absurd (omega (arith, before.0, from))
        | inr since ↦ left image since.1
      ];
    }
      where
        left : (image : Files) → Now meaning first image → IsLeft r.shape (meaning.files r.first).data_bytes R (length R) image
        left image now =
            let files : image ≡ meaning.files first = durable.durable image now in
            record {
              older = R;
              part = same;
              enough = omega arith;
              sound = subst (λ (s : Shape). IsSound s R image) (sym h.shape) (subst (IsSound sh R) (sym files) sound);
              data_stays = ap (λ (f : Files). f.data_bytes) files ∙ ap (λ (d : D). (meaning.files d).data_bytes) (sym is);
            }

  pub durable_settled : (disk : D) → IsDurable meaning disk → IsSettled meaning disk Log
  durable_settled disk h = record { told = h.told; durable = λ image is. ap (λ (f : Files). f.log_bytes) (h.durable image is) }

  pub is_read : (disk : D) (sh : Shape) (groups : List (List ℕ)) (R : List Record) (r : Read D) (items first second : List Record) → is_shape sh ≡ true → r.shape ≡ sh → IsOpened meaning disk sh groups groups [] R r.log → Holds groups [] R → length items < 2 ^ 64
      → reverse items ≡ R → first ≡ items → HasPages r.shape (reverse first) r.pages → second ≡ items → r.commits ≡ commit_count (reverse second) → IsRead disk sh groups R r
  is_read disk sh groups R r items first second within shape opened holds few all one pages two commits = record {
    within = within;
    shape = shape;
    opened = opened;
    holds = holds;
    few = omega (arith, few, length-reverse items, ap (λ (l : List Record). length l) all);
    pages = subst (λ (l : List Record). HasPages r.shape l r.pages) (ap reverse one ∙ all) pages;
    commits = commits ∙ ap (λ (l : List Record). commit_count (reverse l)) two ∙ ap commit_count all;
  }

pub memory_is_sound : (e : StoreOpen) → e ≡ opens.NoMemory → IsSoundOpen e
memory_is_sound e is = subst IsSoundOpen (sym is) tt

pub lawful_as : (sh other : Shape) (R Q : List Record) → other ≡ sh → Q ≡ R → IsLawful sh R → IsLawful other Q
lawful_as sh other R Q a b h = subst (λ (s : Shape). IsLawful s Q) (sym a) (subst (IsLawful sh) (sym b) h)
