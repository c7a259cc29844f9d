-- A data file opened, and the pages that the redo of its log leaves.
use Rattle.std.proofs.Common.{◌≡◌, ℕ, Bool, true, false, ◌&&◌, nat_lt, List, ◌++◌, length, reverse, Ok, Err, refl, sym, subst, arith, ◌∙◌, lt-ltb, length-append}
use Rattle.std.proofs.lemmas.Bool.{true≢false}
use Rattle.seg_words.specs.Types.{Shape, TXN_TABLE_BLOCK, is_shape}
use Rattle.disk_model.specs.Types.{Meaning, Leaves, OnlyFile, IsSettled, Untouched}
use Rattle.disk_model.specs.declared.disk.File.TheVariants.{Data}
use Rattle.disk_model.proofs.Lemmas.{leaves_looked, leaves_so}
use Rattle.redo_record.specs.declared.record.Record.{Record}
use Rattle.redo_model.specs.Lists.{same}
use Rattle.redo_laws.proofs.numbers.Bounds.{limits}
use Rattle.page_store.specs.declared.fault.PageFault.{PageFault}
use Rattle.page_store.specs.declared.fault.PageFault.TheVariants.{DeviceFault, BadPage, NoMemory}
use Rattle.page_store.specs.Types.{Answers, AsLong, IsStore, Leads}
use Rattle.page_store.specs.Pages.{HasPages as IsFileOf}
use Rattle.page_set.specs.declared.page.Page.{Page}
use Rattle.buffer_pool.specs.Frames.{frame_at, has_page, in_file, IsShown, IsSpelled, Pool, Shows}
use Rattle.buffer_pool.specs.Reading.{IsReading}
use Rattle.buffer_pool.proofs.Stores.{store_stays}
use Rattle.pool_laws.specs.Folds.{AreFolded}
use Rattle.pool_laws.proofs.Redoing.{all_reached}
use Rattle.store_pages.specs.Pages.{AreReadable, HasFolds, HasPages, KeepsFiles, LeavesFolds}
use Rattle.store_pages.specs.Fitting.{IsSoundFault}
use Rattle.store_pages.specs.Redoing.{AreTurns, BeginsTurns, IsOpenable, WhyNotRedone}
use Rattle.store_pages.proofs.Standing.{folds_then, keeps_looked, keeps_then}

-- block 1 has a page
pub table_there : (sh : Shape) → is_shape sh ≡ true → has_page sh TXN_TABLE_BLOCK ≡ true
table_there sh s = and_right (nat_lt 1 sh.blocks) (lt-ltb 1 sh.blocks (omega (arith, (limits sh s).all)))
  where
    and_right : (a : Bool) → a ≡ true → (a && true) ≡ true
    and_right true h = refl
    and_right false h = absurd (true≢false (sym h))

module _ {D : Type 0} (meaning : Meaning D) (d0 : D) (sh : Shape) (xs older : List Record) (m : ℕ) (o : IsOpenable meaning d0 sh xs older m) where
  abbrev R : List Record
  R = reverse xs ++ older

  abbrev file : ℕ → List ℕ
  file = o.folds.pages

  pub opening_leaves : (d1 : D) → ((pages : ℕ → List ℕ) → IsSettled meaning d0 Data → IsFileOf sh pages (meaning.files d0).data_bytes → Leaves meaning d0 d1 (OnlyFile meaning d0 Data (AsLong (meaning.files d0).data_bytes (IsFileOf sh pages))))
      → LeavesFolds meaning d0 d1 sh R m
  opening_leaves d1 leaves =
      let bytes : List ℕ = (meaning.files d0).data_bytes in
      leaves_so meaning Data d0 d1 (AsLong bytes (HasFolds sh R m)) (AsLong bytes (IsFileOf sh file)) (leaves file o.settled o.folds.has) (λ b x. record { long = x.long; is = record { pages = file; has = x.is; folded = o.folds.folded } })

  sound : {A : Type 0} (P : A → Type 0) (fault : PageFault) → Answers (Err fault) P → IsSoundFault fault
  sound P DeviceFault is = tt
  sound P (BadPage b) is = is
  sound P NoMemory is = tt

  pub opening_sound : {A : Type 0} (P : (ℕ → List ℕ) → A → Type 0) (fault : PageFault) → ((pages : ℕ → List ℕ) → IsSettled meaning d0 Data → IsFileOf sh pages (meaning.files d0).data_bytes → Answers (Err fault) (P pages)) → IsSoundFault fault
  opening_sound P fault answers = sound (P file) fault (answers file o.settled o.folds.has)

  module _ (d1 d2 : D) (leaves : (pages : ℕ → List ℕ) → IsSettled meaning d0 Data → IsFileOf sh pages (meaning.files d0).data_bytes → Leaves meaning d0 d1 (OnlyFile meaning d0 Data (AsLong (meaning.files d0).data_bytes (IsFileOf sh pages))))
      (leads : (pages : ℕ → List ℕ) → IsSettled meaning d0 Data → IsFileOf sh pages (meaning.files d0).data_bytes → Leads meaning d0 d1 sh pages) (look : Untouched meaning d1 d2) where
    lead : Leads meaning d0 d1 sh file
    lead = leads file o.settled o.folds.has

    keeps : KeepsFiles meaning d0 d1
    keeps = record { long = lead.long; log_stays = lead.log_stays }

    pub reading_leaves : LeavesFolds meaning d0 d2 sh R m
    reading_leaves =
        let bytes : List ℕ = (meaning.files d1).data_bytes in
        folds_then meaning d0 d1 d2 sh R m (opening_leaves d1 leaves) keeps
        (leaves_looked meaning Data d1 d2 (AsLong bytes (HasFolds sh R m)) lead.store.settled look (record { long = refl; is = record { pages = file; has = lead.store.file.has; folded = o.folds.folded } }))

    module _ (store : Shape) (at : store ≡ sh) where
      read : (Spelled : Type 0) (P : Pool → Type 0) (fault : PageFault) → (has_page sh TXN_TABLE_BLOCK ≡ true → Spelled) → IsReading sh TXN_TABLE_BLOCK Spelled P (Err fault) → IsSoundFault fault
      read Spelled P DeviceFault spelled is = tt
      read Spelled P (BadPage b) spelled is = let has = table_there sh o.folds.has.within in is.1 has (spelled has)
      read Spelled P NoMemory spelled is = tt

      abbrev Table : Shape → (ℕ → List ℕ) → Type 0
      Table s pages = IsSpelled TXN_TABLE_BLOCK (pages TXN_TABLE_BLOCK)

      pub reading_sound : (fault : PageFault) → ((pages : ℕ → List ℕ) → IsStore meaning d1 store pages → IsReading store TXN_TABLE_BLOCK (IsSpelled TXN_TABLE_BLOCK (pages TXN_TABLE_BLOCK)) (λ (pool : Pool). Shows store pages (in_file pages) pool.held) (Err fault)) → IsSoundFault fault
      reading_sound fault answers =
          let is = answers file (subst (λ (s : Shape). IsStore meaning d1 s file) (sym at) lead.store) in
          read (Table sh file) (λ (pool : Pool). Shows sh file (in_file file) pool.held) fault (o.folds.folded.spelled TXN_TABLE_BLOCK)
          (subst (λ (s : Shape). IsReading s TXN_TABLE_BLOCK (Table sh file) (λ (pool : Pool). Shows s file (in_file file) pool.held) (Err fault)) at is)

      pub reading_turns : (p : Pool) → p.shape ≡ store → ((pages : ℕ → List ℕ) → IsStore meaning d1 store pages → IsReading store TXN_TABLE_BLOCK (IsSpelled TXN_TABLE_BLOCK (pages TXN_TABLE_BLOCK)) (λ (pool : Pool). Shows store pages (in_file pages) pool.held) (Ok p)) → AreTurns meaning d0 d2 R m m p
      reading_turns p shape answers =
          let here : p.shape ≡ sh = shape ∙ at in
          let is = answers file (subst (λ (s : Shape). IsStore meaning d1 s file) (sym at) lead.store) in
          record {
            redone = record {
              image = in_file file;
              over = record {
                file = file;
                base = subst (λ (s : Shape). IsStore meaning d2 s file) (sym here) (store_stays meaning d1 d2 sh file lead.store look);
                folded = subst (λ (s : Shape). AreFolded s R m file) (sym here) o.folds.folded;
                shown = subst (λ (s : Shape). Shows s file (in_file file) p.held) (sym shape) is.2;
              };
              reached = record { at = (subst (λ (s : Shape). AreFolded s R m file) (sym here) o.folds.folded).reached };
            };
            keeps = keeps_then meaning d0 d1 d2 keeps (keeps_looked meaning d1 d2 lead.store.settled.told look);
            leaves = subst (λ (s : Shape). LeavesFolds meaning d0 d2 s R m) (sym here) reading_leaves;
          }

  pub sound_opening : (fault : PageFault) → IsSoundFault fault → WhyNotRedone sh R m fault
  sound_opening DeviceFault h = tt
  sound_opening (BadPage b) h = absurd h
  sound_opening NoMemory h = tt

  -- the records redone over it
  module _ (d1 : D) (p : Pool) (shape : p.shape ≡ sh) (begun : AreTurns meaning d0 d1 R m m p) where
    pub begins : BeginsTurns meaning d1 xs older m p
    begins = record { count = o.count; readable = subst (λ (s : Shape). AreReadable s R) (sym shape) o.readable; redone = begun.redone }

    pub open_leaves : (d2 : D) → ((older : List Record) → BeginsTurns meaning d1 xs older m p → LeavesFolds meaning d1 d2 p.shape (reverse xs ++ older) m) → LeavesFolds meaning d0 d2 sh R m
    open_leaves d2 leaves = subst (λ (s : Shape). LeavesFolds meaning d0 d2 s R m) shape (folds_then meaning d0 d1 d2 p.shape R m begun.leaves begun.keeps (leaves older begins))

    pub why_begun : (fault : PageFault) → ((older : List Record) → BeginsTurns meaning d1 xs older m p → WhyNotRedone p.shape (reverse xs ++ older) m fault) → WhyNotRedone sh R m fault
    why_begun fault why = subst (λ (s : Shape). WhyNotRedone s R m fault) shape (why older begins)

    module _ (d2 : D) (q : Pool) (turns : (older : List Record) → BeginsTurns meaning d1 xs older m p → AreTurns meaning d1 d2 (reverse xs ++ older) m (length (reverse xs ++ older)) q) where
      turned : AreTurns meaning d1 d2 R m (length R) q
      turned = turns older begins

      pub opened_pages : HasPages meaning d2 R m R q
      opened_pages = record {
        part = same;
        marked = omega (arith, length-append (reverse xs) older, o.count);
        over = record {
          file = turned.redone.over.file;
          base = turned.redone.over.base;
          folded = turned.redone.over.folded;
          shown = record {
            at = λ d has. subst (λ (x : Page). IsShown d (frame_at q.held d) (turned.redone.over.file d) x) (all_reached q.shape R d (turned.redone.image d) (turned.redone.reached.at d has)) (turned.redone.over.shown.at d has);
          };
        };
      }

      pub opened_keeps : KeepsFiles meaning d0 d2
      opened_keeps = keeps_then meaning d0 d1 d2 begun.keeps turned.keeps
