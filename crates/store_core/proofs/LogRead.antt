-- What is read of the log of a store.
use Rattle.std.proofs.Common.{◌≡◌, true, false, ℕ, ◌+◌, List, [], ◌∷◌, ◌++◌, length, reverse, refl, sym, ap, subst, ◌∙◌, inl, inr}
use Rattle.std.specs.Prelude.{None, Result, Ok, Err}
use Rattle.std.specs.Global.{Vec}
use Rattle.seg_words.specs.Types.{Shape, is_shape}
use Rattle.log_frame.specs.Frame.{size_found, Walks, frames}
use Rattle.log_frame.specs.Spelling.{IsLog}
use Rattle.log_frame.specs.Found.{Answers, IsHeadFound}
use Rattle.log_frame.specs.Head.{is_formatted}
use Rattle.log_frame.specs.declared.fault.FrameFault.{FrameFault}
use Rattle.log_frame.specs.declared.fault.FrameFault.TheVariants as frames
use Rattle.log_frame.proofs.Laws.{formatted, walks_from, walks_once}
use Rattle.redo_model.specs.Records.{Record}
use Rattle.redo_log.specs.Kept.{Kept, Holds}
use Rattle.redo_log.specs.Groups.{Between}
use Rattle.redo_log.specs.Found.{IsReadFrom, IsOpening, AreAll, Stops, AnswersInMemory}
use Rattle.redo_log.specs.declared.fault.LogFault.{LogFault}
use Rattle.redo_log.specs.declared.fault.LogFault.TheVariants as logs
use Rattle.redo_log.proofs.Once.{holds_once}
use Rattle.redo_log.proofs.Sound.{open_answers}
use Rattle.redo_model.specs.Model.{IsLawful}
use Rattle.page_map.specs.Fitting.{FitsAll, AreAllFit, WhyNotFolded}
use Rattle.page_map.specs.declared.fault.PageFault.{PageFault}
use Rattle.page_map.specs.declared.fault.PageFault.TheVariants as pages
use Rattle.store_laws.proofs.PuttingLaw.{lawful_lists_fit}
use Rattle.redo_model.specs.Model.{commit_count}
use Rattle.redo_log.specs.Found.{IsFound, WalkEnds}
use Rattle.page_map.specs.Pages.{HasPages}
use Rattle.store_core.specs.Causes.{IsSoundFrame, IsSoundLog}
use Rattle.store_core.specs.Store.{Read}
use Rattle.store_core.specs.Preparing.{HeadSays, HeadBreaks, GroupBreaks, PageBreaks, IsRefused, IsReadOf, head_refusal, log_refusal, pages_refusal}
use Rattle.store_core.specs.declared.fault.StoreOpen.{StoreOpen}

ends_walk : (file : List ℕ) (from at : ℕ) (groups : List (List ℕ)) → Between file from groups at → size_found file at ≡ Ok None → Walks file from groups (Ok at)
ends_walk file from at [] between shut = (ap (size_found file) (sym between) ∙ shut, between)
ends_walk file from at (g ∷ groups) (found, same, rest) shut = (found, same, ends_walk file (from + 5 + length g) at groups rest shut)

module _ (shape : Shape) (groups : List (List ℕ)) (file : List ℕ) (R : List Record) (log : IsLog shape groups file) (holds : Holds groups [] R) where
  -- all records that are read are those of the log
  pub all_read : (records : List Record) → AreAll file 63 records → reverse records ≡ R
  all_read records all =
      let walked = all.ends.walked in
      let once = walks_once walked.groups groups file 63 (Ok all.at) (Ok (63 + length (frames groups))) (ends_walk file 63 all.at walked.groups walked.between all.ends.shut) (walks_from shape [] groups file 63 log refl) in
      holds_once groups [] (reverse records) R (subst (λ (g : List (List ℕ)). Holds g [] (reverse records)) once.0 walked.holds) holds

  -- and nothing is wrong with it
  pub never_bad : (offset seen : ℕ) → Stops file 63 [] (logs.BadLog offset seen) → ⊥
  never_bad offset seen stops = open_answers shape [] groups file 63 [] R log refl holds (Err (logs.BadLog offset seen)) (formatted shape groups file log, stops)

  pub read_answers : (result : Result (Vec Record) LogFault) → IsReadFrom file 63 result → AnswersInMemory result (λ v. reverse v.items ≡ R)
  read_answers (Ok v) is = all_read v.items is
  read_answers (Err logs.DeviceFault) is = tt
  read_answers (Err logs.NotOpen) is = is
  read_answers (Err (logs.BadLog offset seen)) is = never_bad offset seen is
  read_answers (Err logs.NoMemory) is = tt

-- faults that no sound log has
pub frame_sound : {A : Type 0} (f : FrameFault) (P : A → Type 0) → Answers (Err f) P → IsSoundFrame f
frame_sound frames.DeviceFault P h = tt
frame_sound frames.NotOpen P h = h
frame_sound (frames.BadFrame offset seen) P h = h
frame_sound frames.NoMemory P h = absurd h

pub log_sound : {A : Type 0} (f : LogFault) (P : A → Type 0) → AnswersInMemory (Err f) P → IsSoundLog f
log_sound logs.DeviceFault P h = tt
log_sound logs.NotOpen P h = h
log_sound (logs.BadLog offset seen) P h = h
log_sound logs.NoMemory P h = tt

-- refusals that a log which isn't formatted has alone
pub not_open_head : (bytes : List ℕ) (f : FrameFault) → f ≡ frames.NotOpen → IsHeadFound bytes (Err f) → is_formatted bytes ≡ false
not_open_head bytes f e is = subst (λ (g : FrameFault). IsHeadFound bytes (Err g)) e is

pub not_open_log : (bytes : List ℕ) (f : LogFault) → f ≡ logs.NotOpen → IsOpening bytes 63 [] (Err f) → is_formatted bytes ≡ false
not_open_log bytes f e is = subst (λ (g : LogFault). IsOpening bytes 63 [] (Err g)) e is

pub never_not_open : (bytes : List ℕ) (f : LogFault) → f ≡ logs.NotOpen → IsReadFrom bytes 63 (Err f) → ⊥
never_not_open bytes f e is = subst (λ (g : LogFault). IsReadFrom bytes 63 (Err g)) e is

-- a list whose records fit stops nowhere
unfit_part : (sh : Shape) (newer older : List Record) (r : Record) → AreAllFit sh (newer ++ r ∷ older) → FitsAll sh older r
unfit_part sh [] older r h = h.1
unfit_part sh (x ∷ newer) older r h = unfit_part sh newer older r h.0

pub never_stops : (sh : Shape) (R : List Record) (e : PageFault) → AreAllFit sh R → WhyNotFolded sh R e → e ≡ pages.NoMemory
never_stops sh R (pages.BadPage b) fit why =
    let fits = unfit_part sh why.newer why.older why.stop (subst (AreAllFit sh) why.split fit) in
    absurd (why.unfit.unfit (fits b why.unfit.touches))
never_stops sh R pages.NoMemory fit why = refl

pub lawful_folds : (sh : Shape) (R : List Record) (e : PageFault) → is_shape sh ≡ true → IsLawful sh R → WhyNotFolded sh R e → e ≡ pages.NoMemory
lawful_folds sh R e within lawful why = never_stops sh R e (lawful_lists_fit sh R within lawful) why

-- why no store is made of a log file
pub head_refused : (file : List ℕ) (f : FrameFault) (e : StoreOpen) → e ≡ head_refusal f → IsHeadFound file (Err f) → IsRefused file e
head_refused file f e same is = subst (IsRefused file) (sym same) (cause f is)
  where
    cause : (f : FrameFault) → IsHeadFound file (Err f) → IsRefused file (head_refusal f)
    cause frames.DeviceFault is = tt
    cause frames.NotOpen is = is
    cause (frames.BadFrame offset seen) is = inl (record { formatted = is.0; found = is.1 })
    cause frames.NoMemory is = tt

pub log_refused : (file bytes : List ℕ) (sh : Shape) (f : LogFault) (e : StoreOpen) → e ≡ log_refusal f → bytes ≡ file → HeadSays file sh → IsOpening bytes 63 [] (Err f) → IsRefused file e
log_refused file bytes sh f e same here head is = subst (IsRefused file) (sym same) (cause f (subst (λ (b : List ℕ). IsOpening b 63 [] (Err f)) here is))
  where
    cause : (f : LogFault) → IsOpening file 63 [] (Err f) → IsRefused file (log_refusal f)
    cause logs.DeviceFault is = tt
    cause logs.NotOpen is = is
    cause (logs.BadLog offset seen) is = inr (record { shape = sh; head = head; breaks = is.1 })
    cause logs.NoMemory is = tt

pub read_refused : (file bytes : List ℕ) (sh : Shape) (f : LogFault) (e : StoreOpen) → e ≡ log_refusal f → bytes ≡ file → HeadSays file sh → IsReadFrom bytes 63 (Err f) → IsRefused file e
read_refused file bytes sh f e same here head is = subst (IsRefused file) (sym same) (cause f (subst (λ (b : List ℕ). IsReadFrom b 63 (Err f)) here is))
  where
    cause : (f : LogFault) → IsReadFrom file 63 (Err f) → IsRefused file (log_refusal f)
    cause logs.DeviceFault is = tt
    cause logs.NotOpen is = absurd is
    cause (logs.BadLog offset seen) is = inr (record { shape = sh; head = head; breaks = is })
    cause logs.NoMemory is = tt

pub pages_refused : (file : List ℕ) (at : ℕ) (sh : Shape) (R : List Record) (f : PageFault) (e : StoreOpen) → e ≡ pages_refusal f → HeadSays file sh → WalkEnds file 63 at [] R → WhyNotFolded sh R f → IsRefused file e
pages_refused file at sh R f e same head ends why = subst (IsRefused file) (sym same) (cause f why)
  where
    cause : (f : PageFault) → WhyNotFolded sh R f → IsRefused file (pages_refusal f)
    cause (pages.BadPage b) why = record { shape = sh; head = head; at = at; R = R; ends = ends; stops = why }
    cause pages.NoMemory why = tt

pub found_in : (file bytes : List ℕ) (log : Kept) → bytes ≡ file → IsOpening bytes 63 [] (Ok log) → IsFound file 63 [] log
found_in file bytes log here is = subst (λ (b : List ℕ). IsFound b 63 [] log) here is.1

-- two readings of a log give the same records
same_records : (file : List ℕ) (log : Kept) (items : List Record) → (all : AreAll file 63 items) → (found : IsFound file 63 [] log) → reverse items ≡ found.R
same_records file log items all found =
    let walked = all.ends.walked in
    let once = walks_once walked.groups found.groups file 63 (Ok all.at) (Ok log.end) (ends_walk file 63 all.at walked.groups walked.between all.ends.shut) (ends_walk file 63 log.end found.groups found.between found.shut) in
    holds_once found.groups [] (reverse items) found.R (subst (λ (g : List (List ℕ)). Holds g [] (reverse items)) once.0 walked.holds) found.holds

pub is_read_of : {D : Type 0} (file : List ℕ) (r : Read D) (items first second : List Record) → HeadSays file r.shape → IsFound file 63 [] r.log → AreAll file 63 items
    → first ≡ items → HasPages r.shape (reverse first) r.pages → AreAllFit r.shape (reverse first) → second ≡ items → r.commits ≡ commit_count (reverse second) → IsReadOf file r
is_read_of file r items first second head found all one pages fit two commits =
    let same = same_records file r.log items all found in
    record {
      head = head;
      R = found.R;
      ends = record { walked = record { groups = found.groups; between = found.between; holds = found.holds }; shut = found.shut };
      has = found.list.has;
      none = found.none;
      fit = subst (AreAllFit r.shape) (ap reverse one ∙ same) fit;
      pages = subst (λ (l : List Record). HasPages r.shape l r.pages) (ap reverse one ∙ same) pages;
      commits = commits ∙ ap (λ (l : List Record). commit_count (reverse l)) two ∙ ap commit_count same;
    }
