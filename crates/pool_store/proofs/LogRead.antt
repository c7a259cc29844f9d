-- What is read of the log of a store.
use Rattle.std.proofs.Common.{◌≡◌, true, false, ℕ, ◌+◌, List, [], ◌∷◌, length, reverse, refl, sym, ap, subst, ◌∙◌, inl, inr}
use Rattle.std.specs.Prelude.{None, Result, Ok, Err}
use Rattle.std.specs.Global.{Vec}
use Rattle.seg_words.specs.Types.{Shape, is_shape}
use Rattle.log_frame.specs.Frame.{size_found, Walks, frames}
use Rattle.log_frame.specs.Spelling.{IsLog}
use Rattle.log_frame.specs.Found.{Answers, IsHeadFound}
use Rattle.log_frame.specs.Head.{is_formatted}
use Rattle.log_frame.specs.declared.fault.FrameFault.{FrameFault}
use Rattle.log_frame.specs.declared.fault.FrameFault.TheVariants as frames
use Rattle.log_frame.proofs.Laws.{formatted, walks_from, walks_once}
use Rattle.redo_model.specs.Records.{Record}
use Rattle.redo_log.specs.Kept.{Kept, HasRecords, Holds}
use Rattle.redo_log.specs.Groups.{Between}
use Rattle.redo_log.specs.Found.{IsReadFrom, IsOpening, IsFound, WalkEnds, AreAll, Stops, AnswersInMemory}
use Rattle.redo_log.specs.declared.fault.LogFault.{LogFault}
use Rattle.redo_log.specs.declared.fault.LogFault.TheVariants as logs
use Rattle.redo_log.proofs.Once.{holds_once}
use Rattle.redo_log.proofs.Sound.{open_answers}
use Rattle.redo_model.specs.Model.{IsLawful}
use Rattle.page_store.specs.declared.fault.PageFault.{PageFault}
use Rattle.page_store.specs.declared.fault.PageFault.TheVariants as pages
use Rattle.store_pages.specs.Redoing.{StopsAt, WhyNotRedone}
use Rattle.pool_fit.proofs.FitsLaw.{lawful_lists_dont_stop}
use Rattle.pool_store.specs.Causes.{IsSoundFrame, IsSoundLog, IsSoundOpen}
use Rattle.pool_store.specs.Preparing.{HeadSays, IsLogOf, IsRefused, head_refusal, log_refusal, pages_refusal}
use Rattle.pool_store.specs.declared.fault.StoreOpen.{StoreOpen}
use Rattle.pool_store.specs.declared.fault.StoreOpen.TheVariants as opens

ends_walk : (file : List ℕ) (from at : ℕ) (groups : List (List ℕ)) → Between file from groups at → size_found file at ≡ Ok None → Walks file from groups (Ok at)
ends_walk file from at [] between shut = (ap (size_found file) (sym between) ∙ shut, between)
ends_walk file from at (g ∷ groups) (found, same, rest) shut = (found, same, ends_walk file (from + 5 + length g) at groups rest shut)

module _ (shape : Shape) (groups : List (List ℕ)) (file : List ℕ) (R : List Record) (log : IsLog shape groups file) (holds : Holds groups [] R) where
  -- all records that are read are those of the log
  pub all_read : (records : List Record) → AreAll file 63 records → reverse records ≡ R
  all_read records all =
      let walked = all.ends.walked in
      let once = walks_once walked.groups groups file 63 (Ok all.at) (Ok (63 + length (frames groups))) (ends_walk file 63 all.at walked.groups walked.between all.ends.shut) (walks_from shape [] groups file 63 log refl) in
      holds_once groups [] (reverse records) R (subst (λ (g : List (List ℕ)). Holds g [] (reverse records)) once.0 walked.holds) holds

  -- and nothing is wrong with it
  pub never_bad : (offset seen : ℕ) → Stops file 63 [] (logs.BadLog offset seen) → ⊥
  never_bad offset seen stops = open_answers shape [] groups file 63 [] R log refl holds (Err (logs.BadLog offset seen)) (formatted shape groups file log, stops)

  pub read_answers : (result : Result (Vec Record) LogFault) → IsReadFrom file 63 result → AnswersInMemory result (λ v. reverse v.items ≡ R)
  read_answers (Ok v) is = all_read v.items is
  read_answers (Err logs.DeviceFault) is = tt
  read_answers (Err logs.NotOpen) is = is
  read_answers (Err (logs.BadLog offset seen)) is = never_bad offset seen is
  read_answers (Err logs.NoMemory) is = tt

-- faults that no sound log has
pub frame_sound : {A : Type 0} (f : FrameFault) (P : A → Type 0) → Answers (Err f) P → IsSoundFrame f
frame_sound frames.DeviceFault P h = tt
frame_sound frames.NotOpen P h = h
frame_sound (frames.BadFrame offset seen) P h = h
frame_sound frames.NoMemory P h = absurd h

pub log_sound : {A : Type 0} (f : LogFault) (P : A → Type 0) → AnswersInMemory (Err f) P → IsSoundLog f
log_sound logs.DeviceFault P h = tt
log_sound logs.NotOpen P h = h
log_sound (logs.BadLog offset seen) P h = h
log_sound logs.NoMemory P h = tt

-- refusals that a log which isn't formatted has alone
pub not_open_head : (bytes : List ℕ) (f : FrameFault) → f ≡ frames.NotOpen → IsHeadFound bytes (Err f) → is_formatted bytes ≡ false
not_open_head bytes f e is = subst (λ (g : FrameFault). IsHeadFound bytes (Err g)) e is

pub not_open_log : (bytes : List ℕ) (f : LogFault) → f ≡ logs.NotOpen → IsOpening bytes 63 [] (Err f) → is_formatted bytes ≡ false
not_open_log bytes f e is = subst (λ (g : LogFault). IsOpening bytes 63 [] (Err g)) e is

pub never_not_open : (bytes : List ℕ) (f : LogFault) → f ≡ logs.NotOpen → IsReadFrom bytes 63 (Err f) → ⊥
never_not_open bytes f e is = subst (λ (g : LogFault). IsReadFrom bytes 63 (Err g)) e is

-- why the pages of the data file aren't brought up to the log
pub pages_sound : (sh : Shape) (R : List Record) (f : PageFault) (e : StoreOpen) → e ≡ pages_refusal f → is_shape sh ≡ true → IsLawful sh R → WhyNotRedone sh R 0 f → IsSoundOpen e
pages_sound sh R f e same within lawful why = subst IsSoundOpen (sym same) (cause f why)
  where
    cause : (f : PageFault) → WhyNotRedone sh R 0 f → IsSoundOpen (pages_refusal f)
    cause pages.DeviceFault why = tt
    cause (pages.BadPage b) why = lawful_lists_dont_stop sh R 0 b within lawful why
    cause pages.NoMemory why = tt

pub pages_stop : (sh : Shape) (R : List Record) (d : ℕ) (f : PageFault) (e : StoreOpen) → e ≡ pages_refusal f → e ≡ opens.BadPage d → WhyNotRedone sh R 0 f → StopsAt sh R 0 d
pages_stop sh R d f e same is why = cause f (sym same ∙ is) why
  where
    cause : (f : PageFault) → pages_refusal f ≡ opens.BadPage d → WhyNotRedone sh R 0 f → StopsAt sh R 0 d
    cause pages.DeviceFault is why = absurd (cc is)
    cause (pages.BadPage b) is why = subst (λ (n : ℕ). StopsAt sh R 0 n) (cc is) why
    cause pages.NoMemory is why = absurd (cc is)

-- why no store is made of a log file
pub head_refused : (file : List ℕ) (f : FrameFault) (e : StoreOpen) → e ≡ head_refusal f → IsHeadFound file (Err f) → IsRefused file e
head_refused file f e same is = subst (IsRefused file) (sym same) (cause f is)
  where
    cause : (f : FrameFault) → IsHeadFound file (Err f) → IsRefused file (head_refusal f)
    cause frames.DeviceFault is = tt
    cause frames.NotOpen is = is
    cause (frames.BadFrame offset seen) is = inl (record { formatted = is.0; found = is.1 })
    cause frames.NoMemory is = tt

pub log_refused : (file bytes : List ℕ) (sh : Shape) (f : LogFault) (e : StoreOpen) → e ≡ log_refusal f → bytes ≡ file → HeadSays file sh → IsOpening bytes 63 [] (Err f) → IsRefused file e
log_refused file bytes sh f e same here head is = subst (IsRefused file) (sym same) (cause f (subst (λ (b : List ℕ). IsOpening b 63 [] (Err f)) here is))
  where
    cause : (f : LogFault) → IsOpening file 63 [] (Err f) → IsRefused file (log_refusal f)
    cause logs.DeviceFault is = tt
    cause logs.NotOpen is = is
    cause (logs.BadLog offset seen) is = inr (record { shape = sh; head = head; breaks = is.1 })
    cause logs.NoMemory is = tt

pub read_refused : (file bytes : List ℕ) (sh : Shape) (f : LogFault) (e : StoreOpen) → e ≡ log_refusal f → bytes ≡ file → HeadSays file sh → IsReadFrom bytes 63 (Err f) → IsRefused file e
read_refused file bytes sh f e same here head is = subst (IsRefused file) (sym same) (cause f (subst (λ (b : List ℕ). IsReadFrom b 63 (Err f)) here is))
  where
    cause : (f : LogFault) → IsReadFrom file 63 (Err f) → IsRefused file (log_refusal f)
    cause logs.DeviceFault is = tt
    cause logs.NotOpen is = absurd is
    cause (logs.BadLog offset seen) is = inr (record { shape = sh; head = head; breaks = is })
    cause logs.NoMemory is = tt

pub pages_refused : (file : List ℕ) (at : ℕ) (sh : Shape) (R : List Record) (f : PageFault) (e : StoreOpen) → e ≡ pages_refusal f → HeadSays file sh → WalkEnds file 63 at [] R → IsRefused file e
pages_refused file at sh R f e same head ends = subst (IsRefused file) (sym same) (cause f)
  where
    cause : (f : PageFault) → IsRefused file (pages_refusal f)
    cause pages.DeviceFault = tt
    cause (pages.BadPage b) = record { shape = sh; head = head; at = at; R = R; ends = ends }
    cause pages.NoMemory = tt

pub found_in : (file bytes : List ℕ) (log : Kept) → bytes ≡ file → IsOpening bytes 63 [] (Ok log) → IsFound file 63 [] log
found_in file bytes log here is = subst (λ (b : List ℕ). IsFound b 63 [] log) here is.1

-- two readings of a log give the same records
same_records : (file : List ℕ) (log : Kept) (items : List Record) → (all : AreAll file 63 items) → (found : IsFound file 63 [] log) → reverse items ≡ found.R
same_records file log items all found =
    let walked = all.ends.walked in
    let once = walks_once walked.groups found.groups file 63 (Ok all.at) (Ok log.end) (ends_walk file 63 all.at walked.groups walked.between all.ends.shut) (ends_walk file 63 log.end found.groups found.between found.shut) in
    holds_once found.groups [] (reverse items) found.R (subst (λ (g : List (List ℕ)). Holds g [] (reverse items)) once.0 walked.holds) found.holds

pub is_log_of : (file : List ℕ) (sh : Shape) (log : Kept) (items : List Record) → HeadSays file sh → IsFound file 63 [] log → AreAll file 63 items → IsLogOf file sh log (reverse items)
is_log_of file sh log items head found all =
    let same : found.R ≡ reverse items = sym (same_records file log items all found) in
    record {
      head = head;
      ends = record { walked = record { groups = found.groups; between = found.between; holds = subst (Holds found.groups []) same found.holds }; shut = found.shut };
      has = subst (λ (l : List Record). HasRecords l log) same found.list.has;
      none = found.none;
    }
