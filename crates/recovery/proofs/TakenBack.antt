-- What is taken back over the disk that a store was lent.
use Rattle.std.proofs.Common.{◌≡◌, inl, inr, ◌↔◌, ℕ, ◌≤◌, List, length, None, refl, sym, ◌∙◌, ap, subst, arith, Ok, Err, le_trans}
use Rattle.std.specs.Borrow.{GName}
use Rattle.seg_words.specs.Types.{Shape, Rose}
use Rattle.disk_model.specs.Files.{Files}
use Rattle.disk_model.specs.Crash.{Meaning, Untouched}
use Rattle.redo_model.specs.Records.{Record}
use Rattle.redo_model.specs.Model.{Extends, IsLawful}
use Rattle.redo_model.specs.Lists.{same}
use Rattle.redo_laws.proofs.lists.Prefixes.{prefix_extends, prefix_longer, prefix_first}
use Rattle.rollback_laws.specs.Closing.{closed}
use Rattle.rollback_laws.proofs.ClosingLaw.{lists_close}
use Rattle.rollback_laws.proofs.GoesOnLaw.{closing_goes_on}
use Rattle.store_files.specs.Store.{IsDurable}
use Rattle.store_core.specs.Store.{Held, Read, IsTrue, with_disk}
use Rattle.store_core.specs.Survives.{IsSound, IsLeft, Survives}
use Rattle.store_core.specs.Causes.{HasCause}
use Rattle.store_core.specs.declared.fault.StoreFault.{StoreFault}
use Rattle.store_core.proofs.Lookups.{cause_err}
use Rattle.recovery.specs.Coming.{HasCome, Comes, Keeps}
use Rattle.recovery.specs.Opened.{Reopens, ReopensSince, TakesBack}
use Rattle.recovery.proofs.Going.{extends_on, unspent_then}

-- ---- what a crash leaves

-- of two first parts of a list the shorter one is a first part of the other
both_begin : (P Q R : List Record) → Extends P R → Extends Q R → length P ≤ length Q → Extends P Q
both_begin P Q R x y l = subst (λ (z : List Record). Extends z Q) (sym (prefix_longer Q R (length P) y l) ∙ prefix_first P R x) (prefix_extends Q (length P))

-- an image with the records R and a first part of those up to Q, which an opening of R comes to
reopens_left : (sh : Shape) (R Q : List Record) (bytes : List ℕ) (image : Files) → IsLawful sh R → IsLawful sh Q → Extends R Q → closed Q ≡ closed R → IsLeft sh bytes Q (length R) image → Reopens sh R bytes image
reopens_left sh R Q bytes image lawful later from closes left =
    let begins = both_begin R left.older Q from left.part left.enough in
    let ends = extends_on left.older Q (closed R) left.part (subst (Extends Q) closes (lists_close sh Q later).extends) in
    let goes = closing_goes_on sh R left.older lawful begins ends in
    record { list = left.older; from = begins; sound = left.sound; closes = goes.closes; same = goes.same; data_stays = left.data_stays }

module _ {D : Type 0} (meaning : Meaning D) where
  reopens_come : (R Q : List Record) (a b : Held D) (since : ℕ) → b.shape ≡ a.shape → b.first ≡ a.first → IsTrue meaning R a → HasCome meaning R Q a b → Survives meaning since (λ m. length R) R a → ReopensSince meaning since a.shape R (meaning.files a.first).data_bytes b.disk
  reopens_come R Q a b since shape first is come survives =
      let lasts = come.survives since (λ m. length R) survives in
      let lawful = subst (λ (s : Shape). IsLawful s R) (sym shape) is.lawful in
      record {
        later = lasts.begun;
        each = λ m image from to crash.
            subst (λ (s : Shape). Reopens s R (meaning.files a.first).data_bytes image) shape (subst (λ (d : D). Reopens b.shape R (meaning.files d).data_bytes image) first
            (reopens_left b.shape R Q (meaning.files b.first).data_bytes image lawful come.is_true.lawful come.from come.closes (lasts.each m image from to crash)));
      }

  -- the files as they were
  reopens_same : (sh : Shape) (R : List Record) (files image : Files) → IsSound sh R files → image ≡ files → Reopens sh R files.data_bytes image
  reopens_same sh R files image sound is = record {
    list = R;
    from = same;
    sound = subst (IsSound sh R) (sym is) sound;
    closes = refl;
    same = record { commits = refl; tables = λ o s n. refl };
    data_stays = ap (λ (f : Files). f.data_bytes) is;
  }

  pub reopens_untouched : (a b : D) (sh : Shape) (R : List Record) → IsDurable meaning a → IsSound sh R (meaning.files a) → Untouched meaning a b → ReopensSince meaning (meaning.clock a) sh R (meaning.files a).data_bytes b
  reopens_untouched a b sh R durable sound look = record {
    later = look.leaves.later;
    each = λ m image from to crash. elim (look.leaves.each m image to crash) [
      | inl before ↦ absurd (omega (arith, before.0, from))
      | inr now ↦ reopens_same sh R (meaning.files a) image sound (durable.durable image now.1)
    ];
  }

  -- calls that look, after that
  pub reopens_looked : (since : ℕ) (a b : D) (sh : Shape) (R : List Record) (bytes : List ℕ) → ReopensSince meaning since sh R bytes a → Untouched meaning a b → ReopensSince meaning since sh R bytes b
  reopens_looked since a b sh R bytes h look = record {
    later = le_trans h.later look.leaves.later;
    each = λ m image from to crash. elim (look.leaves.each m image to crash) [
      | inl before ↦ h.each m image from (omega (arith, before.0)) before.1
      | inr now ↦ h.each (meaning.clock a) image h.later (omega arith) now.1
    ];
  }

  pub reopens_as : (since : ℕ) (a : D) (sh other : Shape) (R : List Record) (bytes others : List ℕ) → sh ≡ other → bytes ≡ others → ReopensSince meaning since sh R bytes a → ReopensSince meaning since other R others a
  reopens_as since a sh other R bytes others e f h = subst (λ (s : Shape). ReopensSince meaning since s R others a) e (subst (λ (l : List ℕ). ReopensSince meaning since sh R l a) f h)

  -- ---- the loan says nothing

  true_over : (R : List Record) (d : D) (l k : GName) (r : Read D) → IsTrue meaning R (with_disk d l r) → IsTrue meaning R (with_disk d k r)
  true_over R d l k r h = record {
    list = record {
      within = h.list.within;
      few = h.list.few;
      groups = h.list.groups;
      list = h.list.list;
      pages = h.list.pages;
      commits = h.list.commits;
      ready = h.list.ready;
    };
    lawful = h.lawful;
    stable = h.stable;
  }

  survives_over : (since : ℕ) (needed : ℕ → ℕ) (R : List Record) (d : D) (l k : GName) (r : Read D) → Survives meaning since needed R (with_disk d l r) → Survives meaning since needed R (with_disk d k r)
  survives_over since needed R d l k r h = record { begun = h.begun; made = h.made; each = h.each }

  -- ---- the store that was taken apart again

  module _ (before after : D) (loan : GName) (old : Read D) (a b : Held D) (over : a ≡ with_disk before loan old) (left : after ≡ b.disk) where
    come_over : (R Q : List Record) → HasCome meaning R Q a b → HasCome meaning R Q (with_disk before loan old) b
    come_over R Q h = subst (λ (s : Held D). HasCome meaning R Q s b) over h

    true_at : (R : List Record) → IsTrue meaning R (with_disk before loan old) → IsTrue meaning R a
    true_at R h = subst (IsTrue meaning R) (sym over) h

    moments : (since : ℕ) (R Q : List Record) → Keeps meaning (with_disk before loan old) b → IsTrue meaning R (with_disk before loan old) → HasCome meaning R Q (with_disk before loan old) b
        → Survives meaning since (λ m. length R) R (with_disk before loan old) → ReopensSince meaning since old.shape R (meaning.files old.first).data_bytes after
    moments since R Q keeps is come survives = subst (λ (d : D). ReopensSince meaning since old.shape R (meaning.files old.first).data_bytes d) (sym left) (reopens_come R Q (with_disk before loan old) b since keeps.shape keeps.first is come survives)

    pub taken_ok : (new : Read D) → with_disk b.disk b.loan new ≡ b → Keeps meaning a b → HasCause {T = Unit {0}} meaning a b (Ok tt) → ((R : List Record) → IsTrue meaning R a → Comes {T = Unit {0}} meaning R (closed R) a b (Ok tt))
        → ((R : List Record) → IsTrue meaning R a → b.log.stable ≡ length (closed R)) → TakesBack meaning before after old (Ok new)
    taken_ok new parts keeps cause comes stable =
        let kept = subst (λ (s : Held D). Keeps meaning s b) over keeps in
        record {
          done = λ R t. (
            λ k. subst (λ (d : D). IsTrue meaning (closed R) (with_disk d k new)) (sym left) (true_over (closed R) b.disk b.loan k new (subst (IsTrue meaning (closed R)) (sym parts) (comes R (true_at R (t loan))).done.is_true)),
            ap (λ (s : Held D). s.log.stable) parts ∙ stable R (true_at R (t loan)),
          );
          sound = λ R t. tt;
          survives = λ since needed R t h k.
              subst (λ (d : D). Survives meaning since needed (closed R) (with_disk d k new)) (sym left) (survives_over since needed (closed R) b.disk b.loan k new
              (subst (Survives meaning since needed (closed R)) (sym parts) ((come_over R (closed R) (comes R (true_at R (t loan))).done).survives since needed (h loan))));
          any_moment = λ since R t h. moments since R (closed R) kept (t loan) (come_over R (closed R) (comes R (true_at R (t loan))).done) (h loan);
          kept = (ap (λ (s : Held D). s.first) parts ∙ kept.first, ap (λ (s : Held D). s.shape) parts ∙ kept.shape, ap (λ (s : Held D). s.fault) parts ∙ unspent_then meaning a b tt cause);
          cause = record { later = subst (λ (d : D). meaning.fault_count before ≤ meaning.fault_count d) (sym left) kept.faults; rose = λ e. absurd (cc e) };
          told = subst (λ (d : D). meaning.told d ↔ meaning.told before) (sym left) kept.told;
        }

    pub taken_err : (fault : StoreFault) → old.fault ≡ None → Keeps meaning a b → HasCause {T = Unit {0}} meaning a b (Err fault) → ((R : List Record) → IsTrue meaning R a → Comes {T = Unit {0}} meaning R (closed R) a b (Err fault)) → TakesBack meaning before after old (Err fault)
    taken_err fault unspent keeps cause comes =
        let kept = subst (λ (s : Held D). Keeps meaning s b) over keeps in
        let why = subst (λ (s : Held D). HasCause {T = Read D} meaning s b (Err fault)) over (cause_err meaning a b fault cause) in
        record {
          done = λ R t. tt;
          sound = λ R t. (comes R (true_at R (t loan))).sound;
          survives = λ since needed R t h. tt;
          any_moment = λ since R t h. (
              let stop = (comes R (true_at R (t loan))).stopped in
              moments since R stop.list kept (t loan) (come_over R stop.list stop.come) (h loan)
              );
          kept = tt;
          cause = record {
            later = subst (λ (d : D). meaning.fault_count before ≤ meaning.fault_count d) (sym left) kept.faults;
            rose = λ e. subst (λ (d : D). Rose (meaning.fault_count before) (meaning.fault_count d)) (sym left) (why.device unspent e);
          };
          told = subst (λ (d : D). meaning.told d ↔ meaning.told before) (sym left) kept.told;
        }
