-- The records of a log redone one after the other.
use Rattle.std.proofs.Common.{◌≡◌, ◌↔◌, ℕ, suc, ◌+◌, ◌<◌, ◌≤◌, List, [], ◌∷◌, ◌++◌, length, get_or, take, drop, reverse, refl, sym, ap, subst, arith, ◌∙◌, append_assoc, length-append}
use Rattle.std.proofs.lemmas.List.{length-take, take-append-drop}
use Rattle.seg_words.proofs.Lemmas.{take_more, length-reverse, reverse-append}
use Rattle.seg_words.specs.Types.{Shape}
use Rattle.disk_model.specs.Types.{Meaning}
use Rattle.disk_model.proofs.Lemmas.{untouched_start}
use Rattle.redo_record.specs.declared.record.Record.{Record}
use Rattle.redo_model.specs.Lists.{prefix, same, more, Extends}
use Rattle.redo_laws.proofs.lists.Prefixes.{prefix_first}
use Rattle.page_store.specs.Types.{LeavesLog}
use Rattle.page_store.proofs.Logs.{log_started, log_then}
use Rattle.page_store.specs.declared.fault.PageFault.{PageFault}
use Rattle.buffer_pool.specs.Frames.{Pool}
use Rattle.store_pages.specs.Pages.{AreReadable, LeavesFolds}
use Rattle.store_pages.specs.Redoing.{AreTurns, BeginsTurns, IsRedone, IsTurn, WhyNotRedone}
use Rattle.store_pages.proofs.Standing.{folds_looked, folds_then, keeps_start, keeps_then}

-- ---- the first records of the log, oldest first in `xs` behind the older ones

front : (new Q : List Record) → Extends Q (new ++ Q)
front [] Q = same
front (r ∷ new) Q = more r (front new Q)

newest : (xs : List Record) (i : ℕ) (r : Record) → r ≡ get_or xs i r → i < length xs → reverse (take (i + 1) xs) ≡ r ∷ reverse (take i xs)
newest xs i r e lt = ap reverse (take_more xs i r lt) ∙ reverse-append (take i xs) (get_or xs i r ∷ []) ∙ ap (λ (x : Record). x ∷ reverse (take i xs)) (sym e)

parts : (xs older : List Record) (i : ℕ) → reverse xs ++ older ≡ reverse (drop i xs) ++ (reverse (take i xs) ++ older)
parts xs older i =
    ap (λ (ys : List Record). reverse ys ++ older) (sym (take-append-drop i xs))
    ∙ ap (λ (ys : List Record). ys ++ older) (reverse-append (take i xs) (drop i xs))
    ∙ append_assoc (reverse (drop i xs)) (reverse (take i xs)) older

long_front : (xs older : List Record) (i : ℕ) → i ≤ length xs → length (reverse (take i xs) ++ older) ≡ length older + i
long_front xs older i le = omega (arith, length-append (reverse (take i xs)) older, length-reverse (take i xs), length-take i xs, le)

first_records : (xs older : List Record) (m i : ℕ) → length older ≡ m → i ≤ length xs → prefix (reverse xs ++ older) (m + i) ≡ reverse (take i xs) ++ older
first_records xs older m i e le =
    let Q : List Record = reverse (take i xs) ++ older in
    let ext : Extends Q (reverse xs ++ older) = subst (λ (X : List Record). Extends Q X) (sym (parts xs older i)) (front (reverse (drop i xs)) Q) in
    let long : length Q ≡ m + i = long_front xs older i le ∙ ap (λ (k : ℕ). k + i) e in
    ap (prefix (reverse xs ++ older)) (sym long) ∙ prefix_first Q (reverse xs ++ older) ext

next_record : (xs older : List Record) (m i : ℕ) (r : Record) → length older ≡ m → r ≡ get_or xs i r → i < length xs → prefix (reverse xs ++ older) (suc (m + i)) ≡ r ∷ prefix (reverse xs ++ older) (m + i)
next_record xs older m i r e is lt =
    let next : suc (m + i) ≡ m + (i + 1) = omega arith in
    ap (prefix (reverse xs ++ older)) next
    ∙ first_records xs older m (i + 1) e (omega (arith, lt))
    ∙ ap (λ (ys : List Record). ys ++ older) (newest xs i r is lt)
    ∙ ap (λ (ys : List Record). r ∷ ys) (sym (first_records xs older m i e (omega (arith, lt))))

all_records : (xs older : List Record) (m : ℕ) → length older ≡ m → length (reverse xs ++ older) ≡ m + length xs
all_records xs older m e = omega (arith, length-append (reverse xs) older, length-reverse xs, e)

-- ---- the loop

pub record SoFar {D : Type 0} (meaning : Meaning D) (d0 d : D) (xs : List Record) (m i : ℕ) (p0 p : Pool) : Type 0 where
  pub within : i ≤ length xs
  pub shape : p.shape ≡ p0.shape
  pub faults : meaning.fault_count d0 ≤ meaning.fault_count d
  pub told : meaning.told d ↔ meaning.told d0
  pub log : LeavesLog meaning d0 d
  pub reads : meaning.told d0 → meaning.log_reads d ≡ meaning.log_reads d0
  pub turns : (older : List Record) → BeginsTurns meaning d0 xs older m p0 → AreTurns meaning d0 d (reverse xs ++ older) m (m + i) p

module _ {D : Type 0} (meaning : Meaning D) (d0 : D) (xs : List Record) (m : ℕ) (p0 : Pool) where
  pub none_redone : SoFar meaning d0 d0 xs m 0 p0 p0
  none_redone = record {
    within = omega arith;
    shape = refl;
    faults = omega arith;
    told = (λ is. is, λ is. is);
    log = log_started meaning d0;
    reads = λ told. refl;
    turns = λ older b.
        let none : m ≡ m + 0 = omega arith in
        record {
          redone = subst (λ (n : ℕ). IsRedone meaning d0 (reverse xs ++ older) m n p0) none b.redone;
          keeps = keeps_start meaning d0;
          leaves = folds_looked meaning (reverse xs ++ older) m d0 d0 p0 b.redone.image b.redone.over (untouched_start meaning d0);
        };
  }

  module _ (d1 : D) (i : ℕ) (p1 : Pool) (so : SoFar meaning d0 d1 xs m i p0 p1) (r : Record) (lsn last : ℕ) (is : r ≡ get_or xs i r) (lt : i < length xs) (number : lsn ≡ m + i + 1) (end : last ≡ m + length xs) where
    module _ (older : List Record) (b : BeginsTurns meaning d0 xs older m p0) where
      abbrev R : List Record
      R = reverse xs ++ older

      turn : IsTurn meaning d1 R m (m + i) r lsn p1
      turn = record {
        behind = omega arith;
        within = omega (arith, all_records xs older m b.count, lt);
        next = next_record xs older m i r b.count is lt;
        number = omega (arith, number);
        readable = subst (λ (sh : Shape). AreReadable sh R) (sym so.shape) b.readable;
        redone = (so.turns older b).redone;
      }

      at_end : last ≡ length R
      at_end = end ∙ sym (all_records xs older m b.count)

      stops_leaving : (d2 : D) → LeavesFolds meaning d1 d2 p1.shape R m → LeavesFolds meaning d0 d2 p0.shape R m
      stops_leaving d2 leaves = subst (λ (sh : Shape). LeavesFolds meaning d0 d2 sh R m) so.shape (folds_then meaning d0 d1 d2 p1.shape R m (so.turns older b).leaves (so.turns older b).keeps leaves)

      further : (d2 : D) (p2 : Pool) → p2.shape ≡ p1.shape → AreTurns meaning d1 d2 R m (suc (m + i)) p2 → AreTurns meaning d0 d2 R m (m + (i + 1)) p2
      further d2 p2 shape t =
          let next : suc (m + i) ≡ m + (i + 1) = omega arith in
          let before : AreTurns meaning d0 d1 R m (m + i) p1 = so.turns older b in
          record {
            redone = subst (λ (n : ℕ). IsRedone meaning d2 R m n p2) next t.redone;
            keeps = keeps_then meaning d0 d1 d2 before.keeps t.keeps;
            leaves = folds_then meaning d0 d1 d2 p2.shape R m (subst (λ (sh : Shape). LeavesFolds meaning d0 d1 sh R m) (sym shape) before.leaves) before.keeps t.leaves;
          }

    pub stopped_leaves : (d2 : D) → ((R : List Record) (m n : ℕ) → IsTurn meaning d1 R m n r lsn p1 → last ≡ length R → LeavesFolds meaning d1 d2 p1.shape R m) → (older : List Record) → BeginsTurns meaning d0 xs older m p0 → LeavesFolds meaning d0 d2 p0.shape (reverse xs ++ older) m
    stopped_leaves d2 leaves older b = stops_leaving older b d2 (leaves (reverse xs ++ older) m (m + i) (turn older b) (at_end older b))

    pub next_redone : (d2 : D) (p2 : Pool) → p2.shape ≡ p1.shape → meaning.fault_count d1 ≤ meaning.fault_count d2 → (meaning.told d2 ↔ meaning.told d1) → LeavesLog meaning d1 d2 → (meaning.told d1 → meaning.log_reads d2 ≡ meaning.log_reads d1)
        → ((R : List Record) (m n : ℕ) → IsTurn meaning d1 R m n r lsn p1 → last ≡ length R → AreTurns meaning d1 d2 R m (suc n) p2) → SoFar meaning d0 d2 xs m (i + 1) p0 p2
    next_redone d2 p2 shape faults told log reads turns = record {
      within = omega (arith, lt);
      shape = shape ∙ so.shape;
      faults = omega (arith, so.faults, faults);
      told = (λ x. so.told.0 (told.0 x), λ x. told.1 (so.told.1 x));
      log = log_then meaning d0 d1 d2 so.log log;
      reads = λ x. reads (so.told.1 x) ∙ so.reads x;
      turns = λ older b. further older b d2 p2 shape (turns (reverse xs ++ older) m (m + i) (turn older b) (at_end older b));
    }

    pub stopped_why : (fault : PageFault) → ((R : List Record) (m n : ℕ) → IsTurn meaning d1 R m n r lsn p1 → last ≡ length R → WhyNotRedone p1.shape R m fault) → (older : List Record) → BeginsTurns meaning d0 xs older m p0 → WhyNotRedone p0.shape (reverse xs ++ older) m fault
    stopped_why fault why older b = subst (λ (sh : Shape). WhyNotRedone sh (reverse xs ++ older) m fault) so.shape (why (reverse xs ++ older) m (m + i) (turn older b) (at_end older b))

  module _ (d : D) (i : ℕ) (p : Pool) (so : SoFar meaning d0 d xs m i p0 p) (all : length xs ≤ i) where
    pub all_redone : (older : List Record) → BeginsTurns meaning d0 xs older m p0 → AreTurns meaning d0 d (reverse xs ++ older) m (length (reverse xs ++ older)) p
    all_redone older b =
        let count : m + i ≡ length (reverse xs ++ older) = omega (arith, all, so.within, all_records xs older m b.count) in
        subst (λ (n : ℕ). AreTurns meaning d0 d (reverse xs ++ older) m n p) count (so.turns older b)

    pub all_leave : (older : List Record) → BeginsTurns meaning d0 xs older m p0 → LeavesFolds meaning d0 d p0.shape (reverse xs ++ older) m
    all_leave older b = subst (λ (sh : Shape). LeavesFolds meaning d0 d sh (reverse xs ++ older) m) so.shape (so.turns older b).leaves
