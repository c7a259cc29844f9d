-- One record of the log redone.
use Rattle.std.proofs.Common.{◌≡◌, ℕ, suc, ◌<◌, List, [], ◌∷◌, ◌++◌, length, None, Result, Ok, Err, OnOk, IfErr, refl, sym, ap, subst, arith, ◌∙◌, ltb-true}
use Rattle.seg_words.specs.Types.{Shape}
use Rattle.disk_model.specs.Types.{Meaning, Untouched}
use Rattle.redo_record.specs.declared.record.Record.{Record}
use Rattle.redo_model.specs.Lists.{prefix, same, more, Extends}
use Rattle.redo_laws.proofs.lists.Prefixes.{prefix_extends, prefix_size}
use Rattle.page_store.specs.declared.fault.PageFault.{PageFault}
use Rattle.page_store.specs.declared.fault.PageFault.TheVariants.{DeviceFault, BadPage, NoMemory}
use Rattle.page_store.specs.Types.{IsStore}
use Rattle.page_set.specs.declared.page.Page.{Page}
use Rattle.page_set.specs.Pages.{lsn_of}
use Rattle.page_set.specs.Changes.{Fits}
use Rattle.page_set.specs.Folded.{page_of}
use Rattle.buffer_pool.specs.declared.changed.NewPage.{NewPage}
use Rattle.buffer_pool.specs.Frames.{Pool, Shows}
use Rattle.buffer_pool.specs.Looks.{Looks}
use Rattle.buffer_pool.specs.Preparing.{redone_all, IsPreparing, LeadsTo}
use Rattle.pool_laws.specs.Reached.{AreReached, IsReached}
use Rattle.pool_laws.specs.Folds.{AreFolded}
use Rattle.pool_laws.proofs.Redoing.{redo}
use Rattle.store_pages.specs.Pages.{AreOlder, AreReadable, AreWritable, IsOver, KeepsFiles, LeavesFolds}
use Rattle.store_pages.specs.Fitting.{IsSoundFault}
use Rattle.store_pages.specs.Redoing.{AreTurns, IsRedone, IsTurn, WhyNotRedone}
use Rattle.store_pages.proofs.Standing.{folds_looked, folds_then, keeps_looked, keeps_then, over_looked}
use Rattle.store_pages.proofs.Batching.{older_reached, writable_reached}

-- what stands behind the first records
record IsBehind (Q R : List Record) : Type 0 where
  pub newer : List Record
  pub split : R ≡ newer ++ Q

behind : (Q R : List Record) → Extends Q R → IsBehind Q R
behind Q _ same = record { newer = []; split = refl }
behind Q (r ∷ R) (more _ x) = let b = behind Q R x in record { newer = r ∷ b.newer; split = ap (λ (X : List Record). r ∷ X) b.split }

module _ {D : Type 0} (meaning : Meaning D) (d0 : D) (R : List Record) (m n : ℕ) (r : Record) (lsn : ℕ) (p : Pool) (t : IsTurn meaning d0 R m n r lsn p) where
  abbrev image : ℕ → Page
  image = t.redone.image

  abbrev image2 : ℕ → Page
  image2 = redone_all p.shape r None lsn image

  reached2 : AreReached p.shape R (suc n) image2
  reached2 = record {
    at = λ d has. subst (λ (l : ℕ). IsReached p.shape R (suc n) d (redone_all p.shape r None l image d)) (sym t.number) (redo p.shape R r n d (image d) t.within t.next (t.redone.reached.at d has));
  }

  module _ (d1 : D) (p1 p2 : Pool) (new : List NewPage) (looks : Looks meaning d0 d1 p p1)
      (applies : (pages : ℕ → List ℕ) (image : ℕ → Page) → IsStore meaning d0 p.shape pages → Shows p.shape pages image p.held → LeadsTo p.shape image (redone_all p.shape r None lsn image) new)
      (shows : (pages : ℕ → List ℕ) (image image2 : ℕ → Page) → Shows p1.shape pages image p1.held → LeadsTo p1.shape image image2 new → Shows p1.shape pages image2 p2.held) (kept : p2.shape ≡ p1.shape) where
    over1 : IsOver meaning d1 R m image p1
    over1 = over_looked meaning R m d0 d1 p p1 image t.redone.over looks

    leads : LeadsTo p.shape image image2 new
    leads = applies t.redone.over.file image t.redone.over.base t.redone.over.shown

    shown2 : Shows p1.shape over1.file image2 p2.held
    shown2 = shows over1.file image image2 over1.shown (subst (λ (sh : Shape). LeadsTo sh image image2 new) (sym looks.shape) leads)

    pub turned : IsRedone meaning d1 R m (suc n) p2
    turned = record {
      image = image2;
      over = record {
        file = over1.file;
        base = subst (λ (sh : Shape). IsStore meaning d1 sh over1.file) (sym kept) over1.base;
        folded = subst (λ (sh : Shape). AreFolded sh R m over1.file) (sym kept) over1.folded;
        shown = subst (λ (sh : Shape). Shows sh over1.file image2 p2.held) (sym kept) shown2;
      };
      reached = subst (λ (sh : Shape). AreReached sh R (suc n) image2) (sym (kept ∙ looks.shape)) reached2;
    }

  long : length (prefix R n) ≡ n
  long = prefix_size R n (omega (arith, t.within))

  split : IsBehind (r ∷ prefix R n) R
  split = subst (λ (Q : List Record). IsBehind Q R) t.next (behind (prefix R (suc n)) R (prefix_extends R (suc n)))

  why : (fault : PageFault) → IsPreparing p.shape r None lsn t.redone.over.file p.held image (Err fault) → WhyNotRedone p.shape R m fault
  why DeviceFault is = tt
  why (BadPage b) is = record {
    newer = split.newer;
    stop = r;
    older = prefix R n;
    split = split.split;
    behind = omega (arith, long, t.behind);
    unfit = record {
      touches = is.0;
      unfit = λ f. is.1 (record {
        has = f.0;
        spelled = λ none. t.redone.over.folded.spelled b f.0;
        fit = λ y lt.
            let less : lsn_of (image b) < lsn = ltb-true (lsn_of (image b)) lsn lt in
            let page : image b ≡ page_of p.shape (prefix R n) b = (t.redone.reached.at b f.0).older (omega (arith, less, t.number)) in
            subst (λ (x : Page). Fits r lsn x) (sym page) (subst (λ (l : ℕ). Fits r l (page_of p.shape (prefix R n) b)) (ap (λ (k : ℕ). suc k) long ∙ sym t.number) f.1);
      });
    };
  }
  why NoMemory is = tt

  pub why_not_redone : (fault : PageFault) → ((pages : ℕ → List ℕ) (image : ℕ → Page) → IsStore meaning d0 p.shape pages → Shows p.shape pages image p.held → IsPreparing p.shape r None lsn pages p.held image (Err fault)) → WhyNotRedone p.shape R m fault
  why_not_redone fault answers = why fault (answers t.redone.over.file image t.redone.over.base t.redone.over.shown)

  -- ---- with a batch first

  pub writable : (upto : ℕ) → AreWritable p.shape R m upto t.redone.image
  writable upto = writable_reached p.shape R m n upto t.redone.image t.behind (omega (arith, t.within)) t.redone.reached t.readable

  pub older : (upto : ℕ) → upto ≡ length R → AreOlder p.shape upto t.redone.image
  older upto e = subst (λ (l : ℕ). AreOlder p.shape l t.redone.image) (sym e) (older_reached p.shape R n t.redone.image t.redone.reached)

  pub sound_why : (fault : PageFault) → IsSoundFault fault → WhyNotRedone p.shape R m fault
  sound_why DeviceFault h = tt
  sound_why (BadPage b) h = absurd h
  sound_why NoMemory h = tt

  module _ (d1 : D) (p1 : Pool) (over : IsOver meaning d1 R m t.redone.image p1) (shape : p1.shape ≡ p.shape) where
    pub spared : IsTurn meaning d1 R m n r lsn p1
    spared = record {
      behind = t.behind;
      within = t.within;
      next = t.next;
      number = t.number;
      readable = subst (λ (sh : Shape). AreReadable sh R) (sym shape) t.readable;
      redone = record { image = t.redone.image; over = over; reached = subst (λ (sh : Shape). AreReached sh R n t.redone.image) (sym shape) t.redone.reached };
    }

    pub why_then : (result : Result (Unit {0}) PageFault) → IfErr result (WhyNotRedone p1.shape R m) → IfErr result (WhyNotRedone p.shape R m)
    why_then result h = subst (λ (sh : Shape). IfErr result (WhyNotRedone sh R m)) shape h

    module _ (leaves : LeavesFolds meaning d0 d1 p.shape R m) (keeps : KeepsFiles meaning d0 d1) (d2 : D) (look : Untouched meaning d1 d2) where
      pub spared_leaves : LeavesFolds meaning d0 d2 p.shape R m
      spared_leaves = folds_then meaning d0 d1 d2 p.shape R m leaves keeps (subst (λ (sh : Shape). LeavesFolds meaning d1 d2 sh R m) shape (folds_looked meaning R m d1 d2 p1 t.redone.image over look))

      spared_turns : (p2 : Pool) → p2.shape ≡ p1.shape → IsRedone meaning d2 R m (suc n) p2 → AreTurns meaning d0 d2 R m (suc n) p2
      spared_turns p2 kept redone = record {
        redone = redone;
        keeps = keeps_then meaning d0 d1 d2 keeps (keeps_looked meaning d1 d2 over.base.settled.told look);
        leaves = subst (λ (sh : Shape). LeavesFolds meaning d0 d2 sh R m) (sym (kept ∙ shape)) spared_leaves;
      }

      pub redone_turns : (p2 : Pool) → p2.shape ≡ p1.shape → (result : Result (Unit {0}) PageFault) → OnOk result (IsRedone meaning d2 R m (suc n) p2) → OnOk result (AreTurns meaning d0 d2 R m (suc n) p2)
      redone_turns p2 kept (Ok x) redone = spared_turns p2 kept redone
      redone_turns p2 kept (Err fault) redone = tt
